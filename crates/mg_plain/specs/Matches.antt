-- Where a pattern stands in a text.
use Rattle.std.specs.Prelude.{ℕ, suc, ◌+◌, ◌-◌, ◌&&◌, Bool, true, false, List, [], ◌∷◌, length, drop, Option, None, if◌then◌else◌, nat_eq, nat_le}
use Rattle.std.specs.Option.{option_map}
use Rattle.mg_plain.specs.declared.steps.Direction.{Direction}
use Rattle.mg_plain.specs.declared.steps.Direction.TheVariants.{Forward, Backward}
use Rattle.mg_plain.specs.Scans.{least, greatest_passing}
use Rattle.mg_plain.specs.Spans.{Span, span_chain}
use Rattle.mg_plain.specs.Characters.{lower}

-- the same character, ASCII letters without regard to case
abbrev pub alike : ℕ → ℕ → Bool
alike a b = nat_eq (lower a) (lower b)

-- a list begins with the pattern
abbrev pub begins_with : List ℕ → List ℕ → Bool
begins_with [] text = true
begins_with (c ∷ pattern) [] = false
begins_with (c ∷ pattern) (d ∷ text) = alike c d && begins_with pattern text

-- the pattern stands at the place
abbrev pub stands_at : List ℕ → List ℕ → ℕ → Bool
stands_at pattern text i = begins_with pattern (drop i text)

-- the least index from the start on at which the pattern stands
abbrev pub first_match : List ℕ → List ℕ → ℕ → Option ℕ
first_match pattern text start = least (stands_at pattern text) start (suc (length text) - start)

-- the greatest index up to the start at which the pattern stands; there is none from behind the text
abbrev pub last_match : List ℕ → List ℕ → ℕ → Option ℕ
last_match pattern text start = if nat_le start (length text) then greatest_passing (stands_at pattern text) (suc start) else None

-- the match that a search from the start finds
abbrev pub found_match : Direction → List ℕ → List ℕ → ℕ → Option ℕ
found_match Forward pattern text start = first_match pattern text start
found_match Backward pattern text start = last_match pattern text start

abbrev pub match_at : List ℕ → ℕ → Span
match_at pattern i = record { lo = i; hi = i + length pattern }

-- the first match from the start on
abbrev pub next_match : List ℕ → List ℕ → ℕ → Option Span
next_match pattern text start = option_map (match_at pattern) (first_match pattern text start)

-- the matches from the start on, each found from the end of the one before
abbrev pub matches : List ℕ → List ℕ → ℕ → List Span
matches pattern text start = span_chain (next_match pattern text) (length text) start

-- how many they are; an empty pattern, which stands everywhere, has none that follow one another
abbrev pub match_count : List ℕ → List ℕ → ℕ → ℕ
match_count pattern text start = if nat_eq (length pattern) 0 then 0 else length (matches pattern text start)
