-- A pattern at a place, character by character; the first match, place by place.
use Rattle.std.proofs.Common.{List, Some, [], arith, drop, false, get_or, length, length-drop, suc, true, ℕ, ◌+◌, ◌<◌, ◌∷◌, ◌≡◌, ◌≤◌}
use Rattle.std.proofs.lemmas.List.{drop_more}
use Rattle.std.proofs.lemmas.Bool.{leb-true}
use Rattle.std.proofs.lemmas.Option.{none-some}
use Rattle.mg_plain.specs.Matches.{alike, begins_with, first_match, last_match, stands_at}
use Rattle.mg_plain.specs.Scans.{IsGreatest}
use Rattle.mg_plain.proofs.RangeLaws.{greatest_is}
use Rattle.mg_plain.proofs.ScanLaws.{found_later}

pub alike_here : (pattern text : List ℕ) (k a b : ℕ) → k < length pattern → a ≡ get_or pattern k a → k < length text → b ≡ get_or text k b → alike a b ≡ true → begins_with (drop k pattern) (drop k text) ≡ begins_with (drop (k + 1) pattern) (drop (k + 1) text)
alike_here pattern text k a b hp ea ht eb h = grind (arith, drop_more pattern k a, drop_more text k b)

pub other_here : (pattern text : List ℕ) (k a b : ℕ) → k < length pattern → a ≡ get_or pattern k a → k < length text → b ≡ get_or text k b → alike a b ≡ false → begins_with (drop k pattern) (drop k text) ≡ false
other_here pattern text k a b hp ea ht eb h = grind (arith, drop_more pattern k a, drop_more text k b)

-- a pattern does not stand in what is shorter
rest_fits : (c d : ℕ) (pattern text : List ℕ) → begins_with (c ∷ pattern) (d ∷ text) ≡ true → begins_with pattern text ≡ true
rest_fits c d pattern text h = grind arith

pub fits_in : (pattern text : List ℕ) → begins_with pattern text ≡ true → length pattern ≤ length text
fits_in [] text h = omega arith
fits_in (c ∷ pattern) [] h = absurd cc
fits_in (c ∷ pattern) (d ∷ text) h = omega (arith, fits_in pattern text (rest_fits c d pattern text h))

pub nothing_left : (pattern text : List ℕ) (k : ℕ) → k < length pattern → length text ≤ k → begins_with (drop k pattern) (drop k text) ≡ false
nothing_left pattern text k hp ht = grind (arith, fits_in (drop k pattern) (drop k text), length-drop k pattern, length-drop k text)

pub stands_within : (pattern text : List ℕ) (i : ℕ) → i ≤ length text → stands_at pattern text i ≡ true → i + length pattern ≤ length text
stands_within pattern text i inside h = grind (arith, fits_in, length-drop)

pub match_later : (pattern text : List ℕ) (i : ℕ) → i ≤ length text → stands_at pattern text i ≡ false → first_match pattern text i ≡ first_match pattern text (i + 1)
match_later pattern text i inside h = found_later (stands_at pattern text) i (suc (length text)) (omega (arith, inside)) h

-- the last match up to a place, which lies in the text
pub last_is : (pattern text : List ℕ) (start i : ℕ) → last_match pattern text start ≡ Some i → (start ≤ length text) × IsGreatest (stands_at pattern text) (suc start) i
last_is pattern text start i h = grind (arith, leb-true, greatest_is, none-some)
