-- One new operation of another replica, made in what is listed.
use Rattle.rga_doc.proofs.Prelude.{◌≡◌, ℕ, suc, ◌+◌, ◌<◌, ◌≤◌, true, false, List, [], ◌∷◌, length, refl, sym, ap, ◌∙◌, subst, arith, Option, Some, IfSome, slice_get, slice_get_within, Identifier, Content, join, single, text, is_visible}
use Rattle.rga_doc.proofs.Prelude.{visible, spliced, Op, Insert, Delete, is, text_long, visible_elements, DeletesAt, IsTextBefore}
use Rattle.rga_ops.proofs.PlaceLaws.{index_in, text-insertion_at, absent_if_new, text-insertion_hidden, visible-deletion_cut, text-deletion_cut, text-deletion_hidden}
use Rattle.rga_doc.proofs.SplicedCharacters.{length-spliced}

-- as many are visible as before where they are as many as are listed
as_many_before : (c : Content) (op : Op) (at : Option ℕ) (characters : List ℕ) (b : IsTextBefore c op at characters) → length (visible c) ≡ length characters → length (visible (join b.before (single op))) ≡ length (visible b.before)
as_many_before c op at characters b as_many = ap (λ d. length (visible d)) (sym b.taken) ∙ as_many ∙ ap length b.text_before ∙ text_long b.before

-- ---- a deletion

-- what is deleted and leaves as many visible was not visible
hidden_if_as_many : (c : Content) (id : Identifier) → length (visible (join c (single (Delete id)))) ≡ length (visible c) → is_visible c id ≡ false
hidden_if_as_many c id as_many = elim (is_visible c id) as (λ b. is_visible c id ≡ b → b ≡ false) [
  | true ↦ λ shown.
      let w : (k : ℕ) × (slice_get (visible c) k ≡ Some id) = index_in id (visible c) (visible_elements c id ∙ shown) in
      let within : w.0 < length (visible c) = slice_get_within (visible c) w.0 id w.1 in
      let cut = ap length (visible-deletion_cut c id w.0 w.1) in
      let long = length-spliced (visible c) [] w.0 (suc w.0) (omega arith) (omega (arith, within)) in
      absurd (omega (arith, cut, long, as_many, within))
  | false ↦ λ hidden. refl
] refl

-- the deleted element stood at the index
deleted_there : (c : Content) (id : Identifier) (at : Option ℕ) (k : ℕ) (characters : List ℕ) (b : IsTextBefore c (Delete id) at characters) → at ≡ Some k → slice_get (visible b.before) k ≡ Some id
deleted_there c id at k characters b is = subst (λ o. IfSome o (DeletesAt (visible b.before) (Delete id))) is b.deleted_at

-- which is in the text
pub deleted_within : (c : Content) (id : Identifier) (at : Option ℕ) (k : ℕ) (characters : List ℕ) → IsTextBefore c (Delete id) at characters → at ≡ Some k → k < length characters
deleted_within c id at k characters b is = grind (arith, is, length, visible, slice_get_within, deleted_there, text_long)

pub cut_is_listed : (c : Content) (id : Identifier) (at : Option ℕ) (k : ℕ) (characters now : List ℕ) → IsTextBefore c (Delete id) at characters → at ≡ Some k → now ≡ spliced characters k (k + 1) [] → now ≡ text c
cut_is_listed c id at k characters now b is cut = grind (arith, is, suc, spliced, text-deletion_cut, deleted_there, text)

pub deletion_is_hidden : (c : Content) (id : Identifier) (at : Option ℕ) (characters : List ℕ) → IsTextBefore c (Delete id) at characters → length (visible c) ≡ length characters → characters ≡ text c
deletion_is_hidden c id at characters b as_many =
    let hidden : is_visible b.before id ≡ false = hidden_if_as_many b.before id (as_many_before c (Delete id) at characters b as_many) in
    b.text_before ∙ sym (text-deletion_hidden b.before id hidden) ∙ ap text (sym b.taken)

-- ---- an insertion

pub insertion_is_hidden : (c : Content) (id parent : Identifier) (ch : ℕ) (at : Option ℕ) (characters : List ℕ) → IsTextBefore c (Insert id parent ch) at characters → length (visible c) ≡ length characters → characters ≡ text c
insertion_is_hidden c id parent ch at characters b as_many =
    b.text_before ∙ sym (text-insertion_hidden b.before id parent ch (as_many_before c (Insert id parent ch) at characters b as_many)) ∙ ap text (sym b.taken)

-- an index is in the list, or its end, if one more is visible than it has
pub index_within : (c : Content) (id : Identifier) (k count : ℕ) → slice_get (visible c) k ≡ Some id → length (visible c) ≡ count + 1 → k ≤ count
index_within c id k count there more = grind (arith, length, visible, slice_get_within)

pub put_is_listed : (c : Content) (id parent : Identifier) (ch index : ℕ) (at : Option ℕ) (characters now : List ℕ) → IsTextBefore c (Insert id parent ch) at characters → slice_get (visible c) index ≡ Some id → length (visible c) ≡ length characters + 1 → now ≡ spliced characters index index (ch ∷ []) → now ≡ text c
put_is_listed c id parent ch index at characters now b there more put = grind (arith, absent_if_new, slice_get, visible, join, single, length, suc, text_long, spliced, text-insertion_at, text)
