-- The content of a list of operations: what is in it, and that it depends on the operations as a set alone.
use Rattle.std.proofs.Common.{◌≡◌, ℕ, zero, suc, true, cond, ◌||◌, List, [], ◌∷◌, ◌++◌, refl, sym, ap, ◌∙◌, subst, arith, inl, inr, true≢false}
use Rattle.std.specs.Prelude.{Some, None, ◌⊎◌, ◌↔◌, Contains}
use Rattle.std.specs.Cmp.{both_ways}
use Rattle.std.specs.FinMap as finite_map
use Rattle.std.specs.FinSet as finite_set
use Rattle.std.proofs.Math.Bool.{or-false}
use Rattle.std.proofs.lemmas.Bool.{or_cases, or_left, or_right}
use Rattle.std.proofs.lemmas.Option.{none-some}
use Rattle.rga_ops.specs.Identifier.{Identifier, id_cmp}
use Rattle.rga_ops.specs.Content.{Element, element, join, single, content_of, Holds, IsAgreed, HasSameOperations}
use Rattle.rga_ops.proofs.IdentifierLaws.{ids_total, is, same_id, is_itself}
use Rattle.rga_ops.proofs.ContentLaws.{same_content, same_option, get-join, contains-join, join_assoc, nothing_join, either_option}
use Rattle.rga_ops.specs.declared.op.Op.{Op}
use Rattle.rga_ops.specs.declared.op.Op.TheVariants.{Insert, Delete}
use Rattle.std.proofs.lemmas.List.Elements.{Contains-append_cases}

-- ---- membership

pub Contains-first : (op : Op) (ops : List Op) → Contains (op ∷ ops) op
Contains-first op ops = (0, omega arith, refl)

pub Contains-later : (x op : Op) (ops : List Op) → Contains ops op → Contains (x ∷ ops) op
Contains-later x op ops (k, within, e) = (suc k, omega (arith, within), e)

pub Contains-cases : (x op : Op) (ops : List Op) → Contains (x ∷ ops) op → (x ≡ op) ⊎ Contains ops op
Contains-cases x op ops (zero, within, e) = inl e
Contains-cases x op ops (suc k, within, e) = inr (k, omega (arith, within), e)

pub Contains-nil : (op : Op) → Contains [] op → ⊥
Contains-nil op (k, within, e) = omega (arith, within)

pub Contains-append : (xs ys : List Op) (op : Op) → Contains (xs ++ ys) op → Contains xs op ⊎ Contains ys op
Contains-append = Contains-append_cases

-- ---- one operation

pub get-single : (id parent : Identifier) (ch : ℕ) (q : Identifier) → finite_map.get (single (Insert id parent ch)).inserted q ≡ cond (is q id) (Some (element parent ch)) None
get-single id parent ch q =
    finite_map.get-insert ids_total finite_map.empty id (element parent ch) q
    ∙ ap (cond (is q id) (Some (element parent ch))) (finite_map.get-empty id_cmp q)

pub contains-single : (id q : Identifier) → finite_set.contains (single (Delete id)).deleted q ≡ is q id
contains-single id q =
    finite_set.contains-insert ids_total finite_set.empty id q
    ∙ ap (λ b. is q id || b) (finite_set.contains-empty id_cmp q) ∙ or-false (is q id)

pub single_holds : (op : Op) → Holds (single op) op
single_holds (Insert id parent ch) = get-single id parent ch id ∙ ap (λ b. cond b (Some (element parent ch)) None) (is_itself id)
single_holds (Delete id) = contains-single id id ∙ is_itself id

-- ---- what the content of a list has

pub single_inserted : (op : Op) (id : Identifier) (x : Element) → finite_map.get (single op).inserted id ≡ Some x → op ≡ Insert id x.parent x.ch
single_inserted (Insert i parent ch) id x h = grind (arith, get-single i parent ch id, same_id id i)
single_inserted (Delete i) id x h = absurd (none-some _ (sym (finite_map.get-empty id_cmp id) ∙ h))

pub content_inserted : (ops : List Op) (id : Identifier) (x : Element) → finite_map.get (content_of ops).inserted id ≡ Some x → Contains ops (Insert id x.parent x.ch)
content_inserted [] id x h = absurd (none-some _ (sym (finite_map.get-empty id_cmp id) ∙ h))
content_inserted (op ∷ ops) id x h =
    either_option (finite_map.get (single op).inserted id) (finite_map.get (content_of ops).inserted id) x
    (λ e. subst (λ o. Contains (o ∷ ops) (Insert id x.parent x.ch)) (sym (single_inserted op id x e)) (Contains-first (Insert id x.parent x.ch) ops))
    (λ e. Contains-later op (Insert id x.parent x.ch) ops (content_inserted ops id x e))
    (sym (get-join (single op) (content_of ops) id) ∙ h)

pub single_deleted : (op : Op) (id : Identifier) → finite_set.contains (single op).deleted id ≡ true → op ≡ Delete id
single_deleted (Insert i parent ch) id h = absurd (true≢false (sym h ∙ finite_set.contains-empty id_cmp id))
single_deleted (Delete i) id h = ap Delete (sym (same_id id i (sym (contains-single i id) ∙ h)))

pub content_deleted : (ops : List Op) (id : Identifier) → finite_set.contains (content_of ops).deleted id ≡ true → Contains ops (Delete id)
content_deleted [] id h = absurd (true≢false (sym h ∙ finite_set.contains-empty id_cmp id))
content_deleted (op ∷ ops) id h =
    elim (or_cases (finite_set.contains (single op).deleted id) (finite_set.contains (content_of ops).deleted id) (sym (contains-join (single op) (content_of ops) id) ∙ h)) [
      | inl e ↦ subst (λ o. Contains (o ∷ ops) (Delete id)) (sym (single_deleted op id e)) (Contains-first (Delete id) ops)
      | inr e ↦ Contains-later op (Delete id) ops (content_deleted ops id e)
    ]

-- some insertion of the identifier is there
some_inserted : (ops : List Op) (id parent : Identifier) (ch : ℕ) → Contains ops (Insert id parent ch) → (x : Element) × (finite_map.get (content_of ops).inserted id ≡ Some x)
some_inserted [] id parent ch h = absurd (Contains-nil _ h)
some_inserted (op ∷ ops) id parent ch h =
    grind (arith, get-join (single op) (content_of ops) id, Contains-cases op (Insert id parent ch) ops h, some_inserted ops id parent ch, single_holds (Insert id parent ch))

-- the insertions of a list that agrees are its content's, and its deletions always are
pub inserted-iff : (ops : List Op) → IsAgreed ops → (id : Identifier) (x : Element) → (finite_map.get (content_of ops).inserted id ≡ Some x) ↔ Contains ops (Insert id x.parent x.ch)
inserted-iff ops agreed id x = (
  content_inserted ops id x,
  λ h.
      let w : (y : Element) × (finite_map.get (content_of ops).inserted id ≡ Some y) = some_inserted ops id x.parent x.ch h in
      let same : ((w.0).parent ≡ x.parent) × ((w.0).ch ≡ x.ch) = agreed id (w.0).parent x.parent (w.0).ch x.ch (content_inserted ops id w.0 w.1) h in
      w.1 ∙ (λ k. Some (element (same.0 k) (same.1 k))),
)

pub deleted-iff : (ops : List Op) (id : Identifier) → (finite_set.contains (content_of ops).deleted id ≡ true) ↔ Contains ops (Delete id)
deleted-iff ops id = (content_deleted ops id, there ops)
  where
    there : (ops : List Op) → Contains ops (Delete id) → finite_set.contains (content_of ops).deleted id ≡ true
    there [] h = absurd (Contains-nil _ h)
    there (op ∷ ops) h =
        contains-join (single op) (content_of ops) id
        ∙ elim (Contains-cases op (Delete id) ops h) [
          | inl same ↦ or_left (finite_set.contains (single op).deleted id) (finite_set.contains (content_of ops).deleted id) (ap (λ o. finite_set.contains (single o).deleted id) same ∙ single_holds (Delete id))
          | inr later ↦ or_right (finite_set.contains (single op).deleted id) (finite_set.contains (content_of ops).deleted id) (there ops later)
        ]

-- ---- the same operations have the same content

agreed_too : (xs ys : List Op) → IsAgreed xs → HasSameOperations xs ys → IsAgreed ys
agreed_too xs ys agreed same id parent other ch char a b =
    agreed id parent other ch char ((same (Insert id parent ch)).1 a) ((same (Insert id other char)).1 b)

pub same_operations_same_content : (xs ys : List Op) → IsAgreed xs → HasSameOperations xs ys → content_of xs ≡ content_of ys
same_operations_same_content xs ys agreed same =
    let also : IsAgreed ys = agreed_too xs ys agreed same in
    same_content (content_of xs) (content_of ys)
    (λ id. same_option (finite_map.get (content_of xs).inserted id) (finite_map.get (content_of ys).inserted id)
    (λ x h. (inserted-iff ys also id x).1 ((same (Insert id x.parent x.ch)).0 ((inserted-iff xs agreed id x).0 h)))
    (λ x h. (inserted-iff xs agreed id x).1 ((same (Insert id x.parent x.ch)).1 ((inserted-iff ys also id x).0 h))))
    (λ id. both_ways (finite_set.contains (content_of xs).deleted id) (finite_set.contains (content_of ys).deleted id)
    (λ h. (deleted-iff ys id).1 ((same (Delete id)).0 ((deleted-iff xs id).0 h)))
    (λ h. (deleted-iff xs id).1 ((same (Delete id)).1 ((deleted-iff ys id).0 h))))

-- ---- lists in a row

-- the content of two lists is the join of theirs
pub content_of-append : (xs ys : List Op) → content_of (xs ++ ys) ≡ join (content_of xs) (content_of ys)
content_of-append [] ys = sym (nothing_join (content_of ys))
content_of-append (x ∷ xs) ys = ap (join (single x)) (content_of-append xs ys) ∙ sym (join_assoc (single x) (content_of xs) (content_of ys))
