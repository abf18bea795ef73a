-- The characters of a text by its visible elements, and a pattern in it from a place on.
use Rattle.mg_buffer.proofs.Prelude.{◌≡◌, ℕ, true, false, zero, suc, ◌+◌, ◌<◌, ◌≤◌, List, [], ◌∷◌, Option, Some, None, length, get_or, drop, slice_get, option_map, refl, sym, ap, ◌∙◌, arith, same_Some, get_or_from_slice_get, slice_get_within, Identifier, Content, text, visible}
use Rattle.std.specs.FinMap as finite_map
use Rattle.std.proofs.Common.{length-drop}
use Rattle.std.proofs.lemmas.List.{get_or-drop}
use Rattle.std.proofs.lemmas.Option.{none-some, slice_get-map}
use Rattle.mg_plain.specs.Matches.{alike, begins_with}
use Rattle.mg_plain.proofs.MatchLaws.{alike_here, nothing_left, other_here}
use Rattle.rga_ops.specs.Content.{Element, element_at}
use Rattle.rga_ops.specs.Places.{character}
use Rattle.rga_ops.proofs.VisibleLaws.{text_is}

-- ---- one character

character_there : (c : Content) (k : ℕ) → option_map Some (slice_get (text c) k) ≡ option_map (character c) (slice_get (visible c) k)
character_there c k = sym (slice_get-map Some (text c) k) ∙ ap (λ xs. slice_get xs k) (text_is c) ∙ slice_get-map (character c) (visible c) k

abbrev parts_of : Element → Identifier × ℕ
parts_of x = (x.parent, x.ch)

character_of : (o : Option Element) → option_map (λ (x : Element). x.ch) o ≡ option_map (λ (p : Identifier × ℕ). p.1) (option_map parts_of o)
character_of None = refl
character_of (Some x) = refl

no_character : (o : Option ℕ) → option_map Some o ≡ None → o ≡ None
no_character None h = refl
no_character (Some x) h = absurd (none-some _ (sym h))

-- none past the end
pub past_the_text : (c : Content) (k : ℕ) → slice_get (visible c) k ≡ None → slice_get (text c) k ≡ None
past_the_text c k none = no_character (slice_get (text c) k) (character_there c k ∙ ap (option_map (character c)) none)

one_character : (o : Option ℕ) (p : Option ℕ) → option_map Some o ≡ Some p → o ≡ p
one_character None p h = absurd (none-some _ h)
one_character (Some x) p h = same_Some (Some x) p h

-- that of the element there
pub character_is : (c : Content) (k : ℕ) (id : Identifier) → slice_get (visible c) k ≡ Some id → slice_get (text c) k ≡ option_map (λ (p : Identifier × ℕ). p.1) (element_at c id)
character_is c k id at =
    one_character (slice_get (text c) k) (character c id) (character_there c k ∙ ap (option_map (character c)) at) ∙ character_of (finite_map.get c.inserted id)

-- ---- the text from a place on

past_end : (xs : List ℕ) (i : ℕ) → slice_get xs i ≡ None → length xs ≤ i
past_end [] i h = omega arith
past_end (x ∷ xs) zero h = absurd (none-some _ (sym h))
past_end (x ∷ xs) (suc i) h = let rest : length xs ≤ i = past_end xs i h in omega (arith, rest)

module _ (pattern all : List ℕ) (place k : ℕ) (wanted : k < length pattern) where
  -- it ends before the pattern does
  pub ends_behind : length all ≤ place + k → begins_with (drop k pattern) (drop k (drop place all)) ≡ false
  ends_behind ends =
      let long = length-drop place all in
      nothing_left pattern (drop place all) k wanted (omega (arith, long, ends))

  pub none_behind : slice_get all (place + k) ≡ None → begins_with (drop k pattern) (drop k (drop place all)) ≡ false
  none_behind none = ends_behind (past_end all (place + k) none)

  module _ (a ch : ℕ) (is : a ≡ get_or pattern k a) (at : slice_get all (place + k) ≡ Some ch) where
    inside : k < length (drop place all)
    inside =
        let long = length-drop place all in
        let within = slice_get_within all (place + k) ch at in
        omega (arith, long, within)

    there : ch ≡ get_or (drop place all) k ch
    there = sym (get_or-drop place all k ch ∙ get_or_from_slice_get all (place + k) ch ch at)

    -- its next character is the pattern's, or another
    pub alike_behind : alike a ch ≡ true → begins_with (drop k pattern) (drop k (drop place all)) ≡ begins_with (drop (k + 1) pattern) (drop (k + 1) (drop place all))
    alike_behind same = alike_here pattern (drop place all) k a ch wanted is inside there same

    pub other_behind : alike a ch ≡ false → begins_with (drop k pattern) (drop k (drop place all)) ≡ false
    other_behind other = other_here pattern (drop place all) k a ch wanted is inside there other
