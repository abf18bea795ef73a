-- The answers to a merge: which of them comes exactly when.
use Rattle.std.proofs.Common.{rules, ◌≡◌, ℕ, ◌<◌, ◌≤◌, Bool, true, false, T, List, [], ◌∷◌, map, refl, sym, ap, ◌∙◌, subst, true≢false, find, arith}
use Rattle.std.specs.Prelude.{Option, Some, None, Ok, Err, ◌⊎◌, ◌↔◌}
use Rattle.std.specs.List.{list_any}
use Rattle.std.specs.Cmp.{tied_itself}
use Rattle.std.specs.declared.cmp.Ordering.TheVariants.{Less, Equal}
use Rattle.std.specs.FinMap as finite_map
use Rattle.std.specs.FinSet as finite_set
use Rattle.std.specs.FinMap.{is_sorted}
use Rattle.std.specs.FinMap.Entries.{below_all}
use Rattle.std.proofs.lemmas.Option.{none-some}
use Rattle.rga_ops.specs.Identifier.{Identifier, id_cmp}
use Rattle.rga_ops.specs.Content.{Element, Content, known_ids, join, Agree, IsSound}
use Rattle.rga_ops.specs.ListAnswer.{is_conflict, least_conflict, list_answer, merge_answer, IsConflict, IsLeastConflict}
use Rattle.rga_ops.proofs.IdentifierLaws.{ids_total, ids_exact, is, same_id}
use Rattle.rga_ops.proofs.ContentLaws.{same_option}
use Rattle.rga_ops.specs.Operations.{operations}
use Rattle.rga_ops.proofs.OperationsLaws.{content_of-operations, operations_hold, operations_agree}
use Rattle.rga_ops.proofs.SortedLaws.{both_so}
use Rattle.rga_ops.proofs.PathLaws.{key_of}
use Rattle.rga_ops.proofs.ListAnswerLaws.{list_taken-iff, union_taken-iff, union_conflict-iff, union_full-iff, union_refusal}
use Rattle.rga_ops.specs.declared.refusal.Refusal.{Refusal}
use Rattle.rga_ops.specs.declared.refusal.Refusal.TheVariants.{Conflict, Full}
use Rattle.rga_ops.proofs.AnswerLaws.{is_element-is, is_element-itself}

-- ---- a conflict

pub is_conflict-iff : (c d : Content) (id : Identifier) → (is_conflict c d id ≡ true) ↔ IsConflict c d id
is_conflict-iff c d id = (λ h. grind (arith, is_element-itself), λ w. grind (arith, is_element-is))

-- what is inserted in both is the same where it is no conflict
same_element : (c d : Content) (id : Identifier) (x y : Element) → finite_map.get c.inserted id ≡ Some x → finite_map.get d.inserted id ≡ Some y → is_conflict c d id ≡ false → x ≡ y
same_element c d id x y f g h = grind arith

-- contents that agree have none, and those that have none agree
pub agree-iff : (c d : Content) → Agree c d ↔ ((id : Identifier) → is_conflict c d id ≡ false)
agree-iff c d = grind arith

-- ---- the least conflict

-- where a search finds nothing, nothing passes
none_passes : (p : Identifier → Bool) (ks : List Identifier) → find p ks ≡ None → (q : Identifier) → list_any (is q) ks ≡ true → p q ≡ false
none_passes p [] h q m = absurd (true≢false (sym m))
none_passes p (k ∷ ks) h q m = grind (arith, none_passes p ks, same_id q k)

not_both_less : (a b : Identifier) → id_cmp a b ≡ Less → id_cmp b a ≡ Less → ⊥
not_both_less a b h k = grind arith

not_less_itself : (a : Identifier) → id_cmp a a ≡ Less → ⊥
not_less_itself a h = let clash : Less ≡ Equal = sym h ∙ tied_itself ids_total a in absurd (cc)

-- a key is below those behind it
below_later : (k : Identifier) (es : List (Identifier × Element)) → T (below_all id_cmp k es) → (q : Identifier) → list_any (is q) (map (λ e. e.0) es) ≡ true → id_cmp k q ≡ Less
below_later k [] h q m = absurd (true≢false (sym m))
below_later k (e ∷ es) h q m = grind (arith, below_later k es, same_id q e.0)

-- what passes, and no smaller key does
record IsLeast (p : Identifier → Bool) (ks : List Identifier) (k : Identifier) : Type 0 where
  passes : p k ≡ true
  least : (q : Identifier) → list_any (is q) ks ≡ true → p q ≡ true → id_cmp q k ≡ Less → ⊥

-- a search of keys that rise finds the least
found_least : (p : Identifier → Bool) (es : List (Identifier × Element)) (k : Identifier) → T (is_sorted id_cmp es) → find p (map (λ e. e.0) es) ≡ Some k → IsLeast p (map (λ e. e.0) es) k
found_least p [] k sorted h = absurd (none-some _ h)
found_least p (e ∷ es) k sorted h =
    let s : T (below_all id_cmp e.0 es) × T (is_sorted id_cmp es) = both_so (below_all id_cmp e.0 es) (is_sorted id_cmp es) sorted in
    let later : find p (map (λ e. e.0) es) ≡ Some k → IsLeast p (map (λ e. e.0) es) k = found_least p es k s.1 in
    record {
      passes = grind (arith, λ (g : find p (map (λ e. e.0) es) ≡ Some k). (later g).passes);
      least = λ q m t less. grind (arith, same_id q e.0, below_later e.0 es s.0 q, not_both_less e.0 q, not_less_itself e.0, λ (g : find p (map (λ e. e.0) es) ≡ Some k). (later g).least q);
    }

-- there is none exactly where the contents agree
pub no_least_conflict-iff : (c d : Content) → (least_conflict c d ≡ None) ↔ Agree c d
no_least_conflict-iff c d = (
  λ h id x y f g. same_element c d id x y f g (none_passes (is_conflict c d) (finite_map.keys c.inserted) h id (key_of c id x f)),
  λ agree. by_search agree (least_conflict c d) refl,
)
  where
    by_search : Agree c d → (o : Option Identifier) → least_conflict c d ≡ o → o ≡ None
    by_search agree None h = refl
    by_search agree (Some id) h =
        let w = found_least (is_conflict c d) (finite_map.entries c.inserted) id (finite_map.entries_sorted c.inserted) h in
        absurd (true≢false (sym w.passes ∙ (agree-iff c d).0 agree id))

found_conflict : (c d : Content) (id : Identifier) → least_conflict c d ≡ Some id → IsLeastConflict c d id
found_conflict c d id h =
    let w = found_least (is_conflict c d) (finite_map.entries c.inserted) id (finite_map.entries_sorted c.inserted) h in
    record {
      conflict = (is_conflict-iff c d id).0 w.passes;
      least = λ other at smaller. w.least other (key_of c other at.here at.inserted_here) ((is_conflict-iff c d other).1 at) smaller;
    }

-- there is but one
pub one_least_conflict : (c d : Content) (a b : Identifier) → IsLeastConflict c d a → IsLeastConflict c d b → a ≡ b
one_least_conflict c d a b v w = search (rules, ids_exact)

pub least_conflict-iff : (c d : Content) (id : Identifier) → (least_conflict c d ≡ Some id) ↔ IsLeastConflict c d id
least_conflict-iff c d id = (found_conflict c d id, λ w. by_search w (least_conflict c d) refl)
  where
    by_search : IsLeastConflict c d id → (o : Option Identifier) → least_conflict c d ≡ o → o ≡ Some id
    by_search w None h = let at = w.conflict in absurd (at.differ ((no_least_conflict-iff c d).0 h id at.here at.there at.inserted_here at.inserted_there))
    by_search w (Some k) h = ap Some (one_least_conflict c d k id (found_conflict c d k h) w)

-- ---- the answer to a merge

pub merge_taken-iff : (limit : ℕ) (c d : Content) → (merge_answer limit c d ≡ Ok tt) ↔ (Agree c d × (finite_set.len (known_ids (join c d)) ≤ limit))
merge_taken-iff limit c d = grind (arith, union_taken-iff, no_least_conflict-iff)

pub merge_conflict-iff : (limit : ℕ) (c d : Content) (id : Identifier) → (merge_answer limit c d ≡ Err (Conflict id)) ↔ IsLeastConflict c d id
merge_conflict-iff limit c d id = (
  λ h. (least_conflict-iff c d id).0 ((union_conflict-iff limit (least_conflict c d) (join c d) id).0 h),
  λ w. (union_conflict-iff limit (least_conflict c d) (join c d) id).1 ((least_conflict-iff c d id).1 w),
)

pub merge_full-iff : (limit : ℕ) (c d : Content) → (merge_answer limit c d ≡ Err Full) ↔ (Agree c d × (limit < finite_set.len (known_ids (join c d))))
merge_full-iff limit c d = grind (arith, union_full-iff, no_least_conflict-iff)

pub merge_refusal : (limit : ℕ) (c d : Content) (e : Refusal) → merge_answer limit c d ≡ Err e → ((id : Identifier) × (e ≡ Conflict id)) ⊎ (e ≡ Full)
merge_refusal limit c d = union_refusal limit (least_conflict c d) (join c d)

-- ---- either way round

pub conflict_swap : (c d : Content) (id : Identifier) → IsConflict c d id → IsConflict d c id
conflict_swap c d id w = record { here = w.there; there = w.here; inserted_here = w.inserted_there; inserted_there = w.inserted_here; differ = λ e. w.differ (sym e) }

least_swap : (c d : Content) (id : Identifier) → IsLeastConflict c d id → IsLeastConflict d c id
least_swap c d id w = record { conflict = conflict_swap c d id w.conflict; least = λ other at. w.least other (conflict_swap d c other at) }

-- the least conflict may be sought in either content
pub least_conflict_swap : (c d : Content) → least_conflict c d ≡ least_conflict d c
least_conflict_swap c d = same_option (least_conflict c d) (least_conflict d c) (one_way c d) (one_way d c)
  where
    one_way : (c d : Content) (id : Identifier) → least_conflict c d ≡ Some id → least_conflict d c ≡ Some id
    one_way c d id h = (least_conflict-iff d c id).1 (least_swap c d id ((least_conflict-iff c d id).0 h))

-- ---- as a list

-- a merge is taken where the other's operations are taken as a list
pub merge_list-iff : (limit : ℕ) (c d : Content) → IsSound d → (merge_answer limit c d ≡ Ok tt) ↔ (list_answer limit c (operations d) ≡ Ok tt)
merge_list-iff limit c d sound = (
  λ h.
      let w = (merge_taken-iff limit c d).0 h in
      (list_taken-iff limit c (operations d)).1 (
        λ op m. sound op (operations_hold d op m),
        record { agreed = operations_agree d; agree = subst (Agree c) (sym (content_of-operations d)) w.0 },
        subst (λ e. finite_set.len (known_ids (join c e)) ≤ limit) (sym (content_of-operations d)) w.1,
      ),
  λ h.
      let w = (list_taken-iff limit c (operations d)).0 h in
      (merge_taken-iff limit c d).1 (
        subst (Agree c) (content_of-operations d) w.1.agree,
        subst (λ e. finite_set.len (known_ids (join c e)) ≤ limit) (content_of-operations d) w.2,
      ),
)
