-- What a list has where a part of it was turned, or copied to another place of it.
use Rattle.rga_doc.proofs.Prelude.{◌≡◌, ℕ, ◌+◌, ◌-◌, ◌≤◌, List, ◌++◌, take, drop, length, refl, sym, ap, ◌∙◌, arith, append_assoc, length-drop, length-take-le, take_at, drop_at, take-take, drop-drop, copy_within, drop-take}
use Rattle.rga_doc.specs.Characters.{turned}
use Rattle.rga_doc.proofs.SplicedCharacters.{part, same_begin, take-spliced}

-- ---- turned

module _ (xs : List ℕ) (from end count : ℕ) (ordered : from + count ≤ end) (within : end ≤ length xs) where
  abbrev row : List ℕ
  row = drop from (take end xs)

  abbrev new : List ℕ
  new = turned xs from end count

  row_long : length row ≡ end - from
  row_long =
      let whole : length (take end xs) ≡ end = length-take-le end xs within in
      let rest = length-drop from (take end xs) in
      omega (arith, whole, rest, ordered)

  front_long : length (take from xs) ≡ from
  front_long = length-take-le from xs (omega (arith, ordered, within))

  later_long : length (drop count row) ≡ end - from - count
  later_long = let rest = length-drop count row in omega (arith, rest, row_long, ordered)

  first_long : length (take count row) ≡ count
  first_long = length-take-le count row (omega (arith, row_long, ordered))

  -- as a part of a slice is turned
  pub turned_part : take from xs ++ ((drop count (take (end - from) (drop from xs)) ++ take count (take (end - from) (drop from xs))) ++ drop (end - from) (drop from xs)) ≡ new
  turned_part =
      let up : from ≤ end = omega (arith, ordered) in
      let on : from + (end - from) ≡ end = omega (arith, ordered) in
      (λ k. take from xs ++ ((drop count (part xs from end up k) ++ take count (part xs from end up k)) ++ (drop-drop (end - from) from xs ∙ ap (λ n. drop n xs) on) k))
      ∙ sym (append_assoc (take from xs) (drop count row ++ take count row) (drop end xs))

  pub turned_before : take from new ≡ take from xs
  turned_before = take-spliced xs (drop count row ++ take count row) from end (omega (arith, ordered, within))

  behind_front : drop from new ≡ drop count row ++ (take count row ++ drop end xs)
  behind_front =
      ap (drop from) (append_assoc (take from xs) (drop count row ++ take count row) (drop end xs))
      ∙ drop_at (take from xs) ((drop count row ++ take count row) ++ drop end xs) from front_long
      ∙ append_assoc (drop count row) (take count row) (drop end xs)

  -- the later ones stand first
  pub later_moved : (n : ℕ) → n ≡ end - from - count → take n (drop from new) ≡ drop (from + count) (take end xs)
  later_moved n is =
      ap (take n) behind_front ∙ take_at (drop count row) (take count row ++ drop end xs) n (later_long ∙ sym is)
      ∙ drop-drop count from (take end xs)

  -- and the first ones behind them
  behind_later : (to : ℕ) → to ≡ from + (end - from - count) → drop to new ≡ take count row ++ drop end xs
  behind_later to is =
      ap (λ n. drop n new) is ∙ sym (drop-drop (end - from - count) from new)
      ∙ ap (drop (end - from - count)) behind_front ∙ drop_at (drop count row) (take count row ++ drop end xs) (end - from - count) later_long

  pub first_moved : (to : ℕ) → to ≡ from + (end - from - count) → take count (drop to new) ≡ drop from (take (from + count) xs)
  first_moved to is =
      ap (take count) (behind_later to is) ∙ take_at (take count row) (drop end xs) count first_long
      ∙ sym (drop-take from count (take end xs)) ∙ ap (drop from) (take-take (from + count) end xs ordered)

  pub turned_behind : drop end new ≡ drop end xs
  turned_behind =
      let to : ℕ = from + (end - from - count) in
      let on : end ≡ to + count = omega (arith, ordered) in
      ap (λ n. drop n new) on ∙ sym (drop-drop count to new) ∙ ap (drop count) (behind_later to refl)
      ∙ drop_at (take count row) (drop end xs) count first_long

-- ---- copied

module _ (xs : List ℕ) (start end to : ℕ) (ordered : start ≤ end) (within : end ≤ length xs) (room : to + (end - start) ≤ length xs) where
  abbrev copied : List ℕ
  copied = copy_within xs start end to

  abbrev count : ℕ
  count = end - start

  abbrev copy : List ℕ
  copy = take count (drop start xs)

  copy_long : length copy ≡ count
  copy_long = length-take-le count (drop start xs) (let rest = length-drop start xs in omega (arith, rest, ordered, within))

  place_long : length (take to xs) ≡ to
  place_long = length-take-le to xs (omega (arith, room))

  from_there : drop to copied ≡ copy ++ drop (to + count) xs
  from_there =
      ap (drop to) (append_assoc (take to xs) copy (drop (to + count) xs))
      ∙ drop_at (take to xs) (copy ++ drop (to + count) xs) to place_long

  pub copied_moved : take count (drop to copied) ≡ drop start (take end xs)
  copied_moved =
      ap (take count) from_there ∙ take_at copy (drop (to + count) xs) count copy_long ∙ part xs start end ordered

  pub copied_before : (n : ℕ) → n ≤ to → take n copied ≡ take n xs
  copied_before n low =
      same_begin copied xs n to low
      (ap (take to) (append_assoc (take to xs) copy (drop (to + count) xs)) ∙ take_at (take to xs) (copy ++ drop (to + count) xs) to place_long)

  pub copied_behind : (n : ℕ) → to + count ≤ n → drop n copied ≡ drop n xs
  copied_behind n high =
      let on : n ≡ to + count + (n - (to + count)) = omega (arith, high) in
      let past : drop (to + count) copied ≡ drop (to + count) xs =
      sym (drop-drop count to copied) ∙ ap (drop count) from_there ∙ drop_at copy (drop (to + count) xs) count copy_long in
      ap (λ m. drop m copied) on ∙ sym (drop-drop (n - (to + count)) (to + count) copied) ∙ ap (drop (n - (to + count))) past
      ∙ drop-drop (n - (to + count)) (to + count) xs ∙ ap (λ m. drop m xs) (sym on)
