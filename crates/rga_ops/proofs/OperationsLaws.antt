-- The operations of a content stand for it.
use Rattle.std.proofs.Common.{rules, ◌≡◌, true, false, ◌||◌, List, [], ◌∷◌, map, is_some, refl, sym, ap, ◌∙◌, subst, inl, inr, arith}
use Rattle.std.specs.Prelude.{◌≤◌, ℕ, Some, None, Ok, Contains}
use Rattle.std.specs.Option.{option_map, option_or}
use Rattle.std.specs.List.{list_any, filter_map, cons_option, AllByRecursion}
use Rattle.std.proofs.lemmas.Bool.{or_left, or_right}
use Rattle.std.specs.FinMap as finite_map
use Rattle.std.specs.FinSet as finite_set
use Rattle.std.specs.FinMap.{find}
use Rattle.rga_ops.specs.Identifier.{Identifier, id_cmp}
use Rattle.rga_ops.specs.Content.{Element, Content, nothing, known_ids, single, content_of, Holds, IsSound, IsAgreed}
use Rattle.rga_ops.specs.Operations.{insertion_of, insertion_at, alone, rising, insertions, deletions, operations}
use Rattle.rga_ops.proofs.IdentifierLaws.{ids_total, is, is_itself}
use Rattle.rga_ops.proofs.ContentLaws.{same_content, get-join, contains-join, or_none}
use Rattle.rga_ops.proofs.OperationLaws.{content_of-append, Contains-nil, Contains-cases, Contains-append, contains-single, get-single}
use Rattle.rga_ops.proofs.SortedLaws.{all_zip, each_found}
use Rattle.rga_ops.proofs.KnownLaws.{takeable_from_nothing}
use Rattle.rga_ops.specs.Answer.{taken_one_by_one}
use Rattle.rga_ops.specs.declared.op.Op.{Op}
use Rattle.rga_ops.specs.declared.op.Op.TheVariants.{Insert, Delete}
use Rattle.std.specs.FinMap.Entries.{is_some-find}
use Rattle.rga_ops.proofs.AgreeLaws.{held_agree}

get-insertions : (es : List (Identifier × Element)) (q : Identifier) → finite_map.get (content_of (map insertion_of es)).inserted q ≡ find id_cmp q es
get-insertions [] q = finite_map.get-empty id_cmp q
get-insertions (e ∷ es) q =
    grind (arith, get-join (single (insertion_of e)) (content_of (map insertion_of es)) q, get-single e.0 (e.1).parent (e.1).ch q, get-insertions es q)

deleted-insertions : (es : List (Identifier × Element)) (q : Identifier) → finite_set.contains (content_of (map insertion_of es)).deleted q ≡ false
deleted-insertions [] q = finite_set.contains-empty id_cmp q
deleted-insertions (e ∷ es) q =
    contains-join (single (insertion_of e)) (content_of (map insertion_of es)) q ∙ (λ k. finite_set.contains-empty id_cmp q k || deleted-insertions es q k)

get-deletions : (ks : List Identifier) (q : Identifier) → finite_map.get (content_of (map Delete ks)).inserted q ≡ None
get-deletions [] q = finite_map.get-empty id_cmp q
get-deletions (k ∷ ks) q = get-join (single (Delete k)) (content_of (map Delete ks)) q ∙ (λ i. option_or (finite_map.get-empty id_cmp q i) (get-deletions ks q i))

deleted-deletions : (ks : List Identifier) (q : Identifier) → finite_set.contains (content_of (map Delete ks)).deleted q ≡ list_any (is q) ks
deleted-deletions [] q = finite_set.contains-empty id_cmp q
deleted-deletions (k ∷ ks) q = grind (arith, contains-join (single (Delete k)) (content_of (map Delete ks)) q, contains-single k q, deleted-deletions ks q)

keys_alone : (ks : List Identifier) → map (λ (e : Identifier × Unit {0}). e.0) (map alone ks) ≡ ks
keys_alone [] = refl
keys_alone (k ∷ ks) = ap (λ r. k ∷ r) (keys_alone ks)

-- in their order they are the same identifiers
pub any-rising : (ks : List Identifier) (q : Identifier) → list_any (is q) (rising ks) ≡ list_any (is q) ks
any-rising ks q =
    sym (finite_map.contains_key-keys (finite_map.from_entries {R = id_cmp} (map alone ks)) q)
    ∙ ap is_some (finite_map.get-from_entries ids_total (map alone ks) q)
    ∙ is_some-find id_cmp q (map alone ks) ∙ ap (list_any (is q)) (keys_alone ks)

-- a content is that of its operations
pub content_of-operations : (c : Content) → content_of (operations c) ≡ c
content_of-operations c =
    content_of-append (insertions c) (deletions c)
    ∙ same_content _ _
    (λ q. get-join (content_of (insertions c)) (content_of (deletions c)) q
    ∙ (λ k. option_or (get-insertions (finite_map.entries c.inserted) q k) (get-deletions (rising (finite_set.items c.deleted)) q k))
    ∙ or_none (find id_cmp q (finite_map.entries c.inserted)) ∙ sym (finite_map.get-entries c.inserted q))
    (λ q. contains-join (content_of (insertions c)) (content_of (deletions c)) q
    ∙ (λ k. deleted-insertions (finite_map.entries c.inserted) q k || (deleted-deletions (rising (finite_set.items c.deleted)) q ∙ any-rising (finite_set.items c.deleted) q) k)
    ∙ sym (finite_set.contains-items c.deleted q))

-- ---- what the operations are

insertions_hold : (c : Content) (es : List (Identifier × Element)) → AllByRecursion (λ (e : Identifier × Element). finite_map.get c.inserted e.0 ≡ Some e.1) es → (op : Op) → Contains (map insertion_of es) op → Holds c op
insertions_hold c [] h op m = absurd (Contains-nil op m)
insertions_hold c (e ∷ es) h op m = elim (Contains-cases (insertion_of e) op (map insertion_of es) m) [
  | inl here ↦ subst (λ o. Holds c o) here h.0
  | inr later ↦ insertions_hold c es h.1 op later
]

deletions_hold : (c : Content) (ks : List Identifier) → ((q : Identifier) → list_any (is q) ks ≡ true → finite_set.contains c.deleted q ≡ true) → (op : Op) → Contains (map Delete ks) op → Holds c op
deletions_hold c [] h op m = absurd (Contains-nil op m)
deletions_hold c (k ∷ ks) h op m = elim (Contains-cases (Delete k) op (map Delete ks) m) [
  | inl here ↦ subst (λ o. Holds c o) here (h k (or_left (is k k) (list_any (is k) ks) (is_itself k)))
  | inr later ↦ deletions_hold c ks (λ q t. h q (or_right (is q k) (list_any (is q) ks) t)) op later
]

each_inserted : (c : Content) → AllByRecursion (λ (e : Identifier × Element). finite_map.get c.inserted e.0 ≡ Some e.1) (finite_map.entries c.inserted)
each_inserted c =
    let found : AllByRecursion (λ (e : Identifier × Element). find id_cmp e.0 (finite_map.entries c.inserted) ≡ Some e.1) (finite_map.entries c.inserted) = each_found id_cmp ids_total (finite_map.entries c.inserted) (finite_map.entries_sorted c.inserted) in
    all_zip (λ (e : Identifier × Element). find id_cmp e.0 (finite_map.entries c.inserted) ≡ Some e.1) (λ (e : Identifier × Element). find id_cmp e.0 (finite_map.entries c.inserted) ≡ Some e.1) (λ (e : Identifier × Element). finite_map.get c.inserted e.0 ≡ Some e.1)
    (λ e f g. finite_map.get-entries c.inserted e.0 ∙ f) (finite_map.entries c.inserted) found found

-- each of them is in the content
pub operations_hold : (c : Content) (op : Op) → Contains (operations c) op → Holds c op
operations_hold c op m = elim (Contains-append (insertions c) (deletions c) op m) [
  | inl inserted ↦ insertions_hold c (finite_map.entries c.inserted) (each_inserted c) op inserted
  | inr deleted ↦ deletions_hold c (rising (finite_set.items c.deleted)) (λ q t. finite_set.contains-items c.deleted q ∙ sym (any-rising (finite_set.items c.deleted) q) ∙ t) op deleted
]

pub operations_agree : (c : Content) → IsAgreed (operations c)
operations_agree c = held_agree c (operations c) (λ id parent ch m. operations_hold c (Insert id parent ch) m)

-- the insertions, found one by one by the identifiers in their order
find_later : (c : Content) (es : List (Identifier × Element)) → AllByRecursion (λ (e : Identifier × Element). finite_map.get c.inserted e.0 ≡ Some e.1) es → filter_map (insertion_at c) (map (λ e. e.0) es) ≡ map insertion_of es
find_later c [] h = refl
find_later c (e ∷ es) h = λ k. cons_option (option_map (λ x. insertion_of (e.0, x)) (h.0 k)) (find_later c es h.1 k)

pub insertions_by_keys : (c : Content) → filter_map (insertion_at c) (finite_map.keys c.inserted) ≡ insertions c
insertions_by_keys c = find_later c (finite_map.entries c.inserted) (each_inserted c)

-- an empty store takes them all, where each is well-formed and the limit suffices
pub operations_taken : (limit : ℕ) (c : Content) → IsSound c → finite_set.len (known_ids c) ≤ limit → taken_one_by_one limit nothing (operations c) ≡ Ok c
operations_taken limit c sound fits = search (rules, takeable_from_nothing, operations_hold, operations_agree, content_of-operations)
