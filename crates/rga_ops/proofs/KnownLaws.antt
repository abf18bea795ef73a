-- How many identifiers are known, and which lists of operations are taken whole.
use Rattle.std.proofs.Common.{◌≡◌, ℕ, ◌+◌, ◌≤◌, false, cond, ◌||◌, List, [], ◌∷◌, refl, sym, ap, ◌∙◌, subst, arith, is_some}
use Rattle.std.specs.Prelude.{Option, Ok, Err, Contains}
use Rattle.std.specs.FinMap as finite_map
use Rattle.std.specs.FinSet as finite_set
use Rattle.std.specs.FinSet.{FinSet}
use Rattle.std.proofs.Math.Bool.{or-false}
use Rattle.rga_ops.specs.Identifier.{Identifier, id_cmp}
use Rattle.rga_ops.specs.Operation.{checked, id_of}
use Rattle.rga_ops.specs.Content.{Element, Content, nothing, known_ids, join, single, content_of, IsAgreed}
use Rattle.rga_ops.specs.Answer.{taken, and_take, taken_one_by_one}
use Rattle.rga_ops.specs.ListAnswer.{IsJoinable, has_another}
use Rattle.rga_ops.proofs.IdentifierLaws.{ids_total, ids_exact, is}
use Rattle.rga_ops.proofs.ContentLaws.{get-join, contains-join, join_assoc, join_nothing, nothing_join}
use Rattle.rga_ops.proofs.OperationLaws.{Contains-first, Contains-later, get-single, contains-single}
use Rattle.rga_ops.proofs.AnswerLaws.{contains-known, is_element-is, is_element-itself}
use Rattle.rga_ops.proofs.AgreeLaws.{agree_swap, agree_nothing, no_other-iff, joinable-iff}
use Rattle.rga_ops.proofs.TakenLaws.{took, held_adds_nothing}
use Rattle.rga_ops.specs.declared.op.Op.{Op}
use Rattle.rga_ops.specs.declared.op.Op.TheVariants.{Insert, Delete}

abbrev Ids : Type 0
Ids = FinSet id_cmp

-- ---- sets of identifiers

union_insert : (s : Ids) (ks : List Identifier) (k : Identifier) → finite_set.union s (finite_set.from_list (k ∷ ks)) ≡ finite_set.insert (finite_set.union s (finite_set.from_list ks)) k
union_insert s ks k = finite_set.same_set ids_total ids_exact _ _ (λ q. grind (
  arith,
  finite_set.contains-union ids_total s (finite_set.from_list (k ∷ ks)) q,
  finite_set.contains-insert ids_total (finite_set.from_list ks) k q,
  finite_set.contains-insert ids_total (finite_set.union s (finite_set.from_list ks)) k q,
  finite_set.contains-union ids_total s (finite_set.from_list ks) q,
))

len-le_union_list : (s : Ids) (ks : List Identifier) → finite_set.len s ≤ finite_set.len (finite_set.union s (finite_set.from_list ks))
len-le_union_list s [] =
    let same : finite_set.union s (finite_set.from_list []) ≡ s = finite_set.same_set ids_total ids_exact _ _ (λ q.
    finite_set.contains-union ids_total s (finite_set.from_list []) q
    ∙ ap (λ b. finite_set.contains s q || b) (finite_set.contains-from_list ids_total [] q) ∙ or-false (finite_set.contains s q)) in
    omega (arith, ap finite_set.len same)
len-le_union_list s (k ∷ ks) =
    let larger : Ids = finite_set.union s (finite_set.from_list ks) in
    let grows : finite_set.len (finite_set.union s (finite_set.from_list (k ∷ ks))) ≡ cond (finite_set.contains larger k) (finite_set.len larger) (finite_set.len larger + 1) =
    ap finite_set.len (union_insert s ks k) ∙ finite_set.len-insert ids_total larger k in
    grind (arith, len-le_union_list s ks, grows)

-- a union has no fewer members than its first part
pub len-le_union : (s t : Ids) → finite_set.len s ≤ finite_set.len (finite_set.union s t)
len-le_union s t =
    let listed : finite_set.from_list (finite_set.items t) ≡ t = finite_set.same_set ids_total ids_exact _ _ (λ q.
    finite_set.contains-from_list ids_total (finite_set.items t) q ∙ sym (finite_set.contains-items t q)) in
    subst (λ r. finite_set.len s ≤ finite_set.len (finite_set.union s r)) listed (len-le_union_list s (finite_set.items t))

-- ---- what a join knows

pub contains-known_join : (c d : Content) (q : Identifier) → finite_set.contains (known_ids (join c d)) q ≡ (finite_set.contains (known_ids c) q || finite_set.contains (known_ids d) q)
contains-known_join c d q = grind (arith, contains-known (join c d) q, contains-known c q, contains-known d q, get-join c d q, contains-join c d q)

pub known_join : (c d : Content) → known_ids (join c d) ≡ finite_set.union (known_ids c) (known_ids d)
known_join c d = finite_set.same_set ids_total ids_exact _ _ (λ q. contains-known_join c d q ∙ sym (finite_set.contains-union ids_total (known_ids c) (known_ids d) q))

contains-known_single : (op : Op) (q : Identifier) → finite_set.contains (known_ids (single op)) q ≡ is q (id_of op)
contains-known_single (Insert id parent ch) q =
    grind (arith, contains-known (single (Insert id parent ch)) q, get-single id parent ch q, finite_set.contains-empty id_cmp q)
contains-known_single (Delete id) q =
    grind (arith, contains-known (single (Delete id)) q, finite_map.get-empty {X = Element} id_cmp q, contains-single id q)

-- one operation makes one identifier known
pub known_taken : (c : Content) (op : Op) → known_ids (join c (single op)) ≡ finite_set.insert (known_ids c) (id_of op)
known_taken c op = finite_set.same_set ids_total ids_exact _ _ (λ q.
    grind (arith, contains-known_join c (single op) q, contains-known_single op q, finite_set.contains-insert ids_total (known_ids c) (id_of op) q))

-- an empty store knows nothing
pub known_nothing : finite_set.len (known_ids nothing) ≡ 0
known_nothing = ap finite_set.len (finite_set.same_set ids_total ids_exact (known_ids nothing) finite_set.empty (λ q.
    contains-known nothing q
    ∙ ap (λ (o : Option Element). is_some o || finite_set.contains nothing.deleted q) (finite_map.get-empty id_cmp q)))
    ∙ finite_set.len-empty id_cmp

-- ---- taking keeps the limit

taken_within : (limit : ℕ) (c : Content) (op : Op) (d : Content) → finite_set.len (known_ids c) ≤ limit → taken limit c op ≡ Ok d → finite_set.len (known_ids d) ≤ limit
taken_within limit c op d within h = grind (arith, known_taken c op, finite_set.len-insert ids_total (known_ids c) (id_of op), contains-known c (id_of op))

pub taken_list_within : (limit : ℕ) (c : Content) (ops : List Op) (d : Content) → finite_set.len (known_ids c) ≤ limit → taken_one_by_one limit c ops ≡ Ok d → finite_set.len (known_ids d) ≤ limit
taken_list_within limit c [] d within h = grind (arith, took)
taken_list_within limit c (op ∷ ops) d within h =
    elim (taken limit c op) as (λ r. taken limit c op ≡ r → and_take r (λ e. taken_one_by_one limit e ops) ≡ Ok d → finite_set.len (known_ids d) ≤ limit) [
      | Err e ↦ λ r h. absurd (cc)
      | Ok e ↦ λ r h. taken_list_within limit e ops d (taken_within limit c op e within r) h
    ] refl h

-- ---- lists that are taken whole

-- nothing stands in the way of taking the list
pub record IsTakeable (limit : ℕ) (c : Content) (ops : List Op) : Type 0 where
  pub well_formed : (op : Op) → Contains ops op → checked op ≡ Ok tt
  pub joinable : IsJoinable c ops
  pub fits : finite_set.len (known_ids (join c (content_of ops))) ≤ limit

-- a new identifier exceeds a limit that is reached
no_space : (limit : ℕ) (c : Content) (op : Op) (ops : List Op) → finite_set.len (known_ids (join c (content_of (op ∷ ops)))) ≤ limit → finite_set.contains (known_ids c) (id_of op) ≡ false → finite_set.len (known_ids c) ≡ limit → ⊥
no_space limit c op ops fits unknown full =
    let first : Content = join c (single op) in
    let more : finite_set.len (known_ids first) ≡ finite_set.len (known_ids c) + 1 =
    ap finite_set.len (known_taken c op) ∙ finite_set.len-insert ids_total (known_ids c) (id_of op)
    ∙ ap (λ b. cond b (finite_set.len (known_ids c)) (finite_set.len (known_ids c) + 1)) unknown in
    let whole : finite_set.len (known_ids first) ≤ finite_set.len (known_ids (join c (content_of (op ∷ ops)))) =
    subst (λ s. finite_set.len (known_ids first) ≤ finite_set.len s) (sym (known_join first (content_of ops)) ∙ ap known_ids (join_assoc c (single op) (content_of ops))) (len-le_union (known_ids first) (known_ids (content_of ops))) in
    omega arith

first_taken : (limit : ℕ) (c : Content) (op : Op) (ops : List Op) → IsTakeable limit c (op ∷ ops) → taken limit c op ≡ Ok (join c (single op))
first_taken limit c op ops w =
    let well : checked op ≡ Ok tt = w.well_formed op (Contains-first op ops) in
    let no_other : has_another c op ≡ false = (no_other-iff c op).1 ((joinable-iff c op ops).0 w.joinable).0 in
    let space : finite_set.contains (known_ids c) (id_of op) ≡ false → finite_set.len (known_ids c) ≡ limit → ⊥ = no_space limit c op ops w.fits in
    grind (arith, space, held_adds_nothing c op, contains-known c (id_of op), is_element-is, is_element-itself)

later_takeable : (limit : ℕ) (c : Content) (op : Op) (ops : List Op) → IsTakeable limit c (op ∷ ops) → IsTakeable limit (join c (single op)) ops
later_takeable limit c op ops w = record {
  well_formed = λ o m. w.well_formed o (Contains-later op o ops m);
  joinable = ((joinable-iff c op ops).0 w.joinable).1;
  fits = subst (λ d. finite_set.len (known_ids d) ≤ limit) (sym (join_assoc c (single op) (content_of ops))) w.fits;
}

pub takeable_is_taken : (limit : ℕ) (c : Content) (ops : List Op) → IsTakeable limit c ops → taken_one_by_one limit c ops ≡ Ok (join c (content_of ops))
takeable_is_taken limit c [] w = ap Ok (sym (join_nothing c))
takeable_is_taken limit c (op ∷ ops) w = grind (arith, first_taken, later_takeable, join_assoc, takeable_is_taken limit (join c (single op)) ops (later_takeable limit c op ops w))

-- from an empty store on
pub takeable_from_nothing : (limit : ℕ) (ops : List Op) → ((op : Op) → Contains ops op → checked op ≡ Ok tt) → IsAgreed ops → finite_set.len (known_ids (content_of ops)) ≤ limit → taken_one_by_one limit nothing ops ≡ Ok (content_of ops)
takeable_from_nothing limit ops well_formed agreed fits = grind (arith, takeable_is_taken, agree_swap, agree_nothing, nothing_join)
