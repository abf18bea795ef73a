-- The greatest counter of a content, and how it changes with an operation.
use Rattle.std.proofs.Common.{◌≡◌, ℕ, ◌≤◌, true, false, List, [], ◌∷◌, map, sym, ◌∙◌, arith, true≢false, nat_le}
use Rattle.std.specs.Prelude.{Some, None, max}
use Rattle.std.specs.List.{list_any, AllByRecursion}
use Rattle.std.specs.FinMap as finite_map
use Rattle.std.specs.FinSet as finite_set
use Rattle.std.specs.FinMap.{find}
use Rattle.std.proofs.lemmas.Bool.{or_right}
use Rattle.std.proofs.lemmas.Option.{none-some}
use Rattle.std.proofs.lemmas.Bool.Decides.{nat_tests}
use Rattle.rga_ops.specs.Identifier.{Identifier, id_cmp}
use Rattle.rga_ops.specs.Content.{Element, Content, join, single, greatest, clock_of, HasCountersWithin, IsWithin}
use Rattle.rga_ops.proofs.IdentifierLaws.{ids_total, is, same_id}
use Rattle.rga_ops.proofs.MemberLaws.{all_members}
use Rattle.rga_ops.proofs.ContentLaws.{get-join, contains-join, within_join}
use Rattle.rga_ops.proofs.SortedLaws.{all_zip, each_found}
use Rattle.rga_ops.proofs.PathLaws.{key_of}
use Rattle.rga_ops.specs.declared.op.Op.TheVariants.{Insert, Delete}
use Rattle.rga_ops.proofs.InsertionLaws.{get-inserted}
use Rattle.rga_ops.proofs.OperationLaws.{single_deleted, single_holds, single_inserted}
use Rattle.rga_ops.specs.declared.op.Op.{Op}

bounded : {A : Type 0} (f : A → ℕ) (m : ℕ) (xs : List A) → AllByRecursion (λ x. f x ≤ m) xs → greatest (map f xs) ≤ m
bounded f m [] h = omega arith
bounded f m (x ∷ xs) h = omega (arith, h.0, bounded f m xs h.1)

member_within : (q : Identifier) (xs : List Identifier) → list_any (is q) xs ≡ true → q.counter ≤ greatest (map (λ id. id.counter) xs)
member_within q [] h = absurd (true≢false (sym h))
member_within q (x ∷ xs) h = grind (arith, member_within q xs, same_id q x)

value_within : (q : Identifier) (x : Element) (es : List (Identifier × Element)) → find id_cmp q es ≡ Some x → x.parent.counter ≤ greatest (map (λ x. x.parent.counter) (map (λ e. e.1) es))
value_within q x [] h = absurd (none-some _ h)
value_within q x (e ∷ es) h = grind (arith, value_within q x es)

values_bounded : (m : ℕ) (es : List (Identifier × Element)) → AllByRecursion (λ (e : Identifier × Element). (e.1).parent.counter ≤ m) es → greatest (map (λ x. x.parent.counter) (map (λ e. e.1) es)) ≤ m
values_bounded m [] h = omega arith
values_bounded m (e ∷ es) h = omega (arith, h.0, values_bounded m es h.1)

three_within : (a b c m : ℕ) → a ≤ m → b ≤ m → c ≤ m → max a (max b c) ≤ m
three_within a b c m p q r = omega arith

-- the clock is within each bound
pub clock_within : (c : Content) (m : ℕ) → HasCountersWithin c m → clock_of c ≤ m
clock_within c m w =
    three_within _ _ _ m
    (bounded (λ (id : Identifier). id.counter) m (finite_map.keys c.inserted) (all_members (λ q. q.counter ≤ m) (finite_map.keys c.inserted) (λ q h. grind (arith, finite_map.contains_key-keys c.inserted q, w.own q))))
    (values_bounded m es (all_zip (λ (e : Identifier × Element). find id_cmp e.0 es ≡ Some e.1) (λ (e : Identifier × Element). find id_cmp e.0 es ≡ Some e.1) (λ (e : Identifier × Element). (e.1).parent.counter ≤ m)
    (λ e f g. w.parents e.0 e.1 (finite_map.get-entries c.inserted e.0 ∙ f)) es found found))
    (bounded (λ (id : Identifier). id.counter) m (finite_set.items c.deleted) (all_members (λ q. q.counter ≤ m) (finite_set.items c.deleted) (λ q h. w.deleted q (finite_set.contains-items c.deleted q ∙ h))))
  where
    es : List (Identifier × Element)
    es = finite_map.entries c.inserted

    found : AllByRecursion (λ (e : Identifier × Element). find id_cmp e.0 (finite_map.entries c.inserted) ≡ Some e.1) (finite_map.entries c.inserted)
    found = each_found id_cmp ids_total (finite_map.entries c.inserted) (finite_map.entries_sorted c.inserted)

max_first : (a b n : ℕ) → n ≤ a → n ≤ max a b
max_first a b n h = omega arith

max_second : (a b n : ℕ) → n ≤ b → n ≤ max a b
max_second a b n h = omega arith

-- and is a bound
pub within_clock : (c : Content) → HasCountersWithin c (clock_of c)
within_clock c =
    let a : ℕ = greatest (map (λ id. id.counter) (finite_map.keys c.inserted)) in
    let b : ℕ = greatest (map (λ x. x.parent.counter) (finite_map.values c.inserted)) in
    let d : ℕ = greatest (map (λ id. id.counter) (finite_set.items c.deleted)) in
    record {
      own = λ q x g. max_first a (max b d) q.counter (member_within q (finite_map.keys c.inserted) (key_of c q x g));
      parents = λ q x g. max_second a (max b d) x.parent.counter (max_first b d x.parent.counter (value_within q x (finite_map.entries c.inserted) (sym (finite_map.get-entries c.inserted q) ∙ g)));
      deleted = λ q h. max_second a (max b d) q.counter (max_second b d q.counter (member_within q (finite_set.items c.deleted) (sym (finite_set.contains-items c.deleted q) ∙ h)));
    }

-- ---- an operation

-- a larger content has no smaller clock
clock_grows : (c d : Content) → IsWithin c d → clock_of c ≤ clock_of d
clock_grows c d w =
    let v : HasCountersWithin d (clock_of d) = within_clock d in
    clock_within c (clock_of d) (record { own = λ q x g. v.own q x (w.inserted q x g); parents = λ q x g. v.parents q x (w.inserted q x g); deleted = λ q h. v.deleted q (w.deleted q h) })

-- a bound of both is one of their join
joined_within : (c d : Content) (m : ℕ) → HasCountersWithin c m → HasCountersWithin d m → HasCountersWithin (join c d) m
joined_within c d m v w = grind (arith, get-join, contains-join)

-- the clock where an operation that has no counter above a bound is joined
joined_clock : (c : Content) (op : Op) (m : ℕ) → HasCountersWithin (single op) m → clock_of (join c (single op)) ≤ max (clock_of c) m
joined_clock c op m w =
    let v : HasCountersWithin c (clock_of c) = within_clock c in
    clock_within (join c (single op)) (max (clock_of c) m) (joined_within c (single op) (max (clock_of c) m)
    (record {
      own = λ q x g. max_first (clock_of c) m q.counter (v.own q x g);
      parents = λ q x g. max_first (clock_of c) m x.parent.counter (v.parents q x g);
      deleted = λ q h. max_first (clock_of c) m q.counter (v.deleted q h);
    })
    (record {
      own = λ q x g. max_second (clock_of c) m q.counter (w.own q x g);
      parents = λ q x g. max_second (clock_of c) m x.parent.counter (w.parents q x g);
      deleted = λ q h. max_second (clock_of c) m q.counter (w.deleted q h);
    }))

greater_of : (a b m : ℕ) → a ≤ m → b ≤ m → m ≤ max a b → m ≡ max a b
greater_of a b m p q r = omega arith

pub clock_insertion : (c : Content) (id : Identifier) (e : Element) → finite_map.get c.inserted id ≡ None → e.parent.counter ≤ id.counter → clock_of (join c (single (Insert id e.parent e.ch))) ≡ max (clock_of c) id.counter
clock_insertion c id e none falls =
    let op : Op = Insert id e.parent e.ch in
    greater_of (clock_of c) id.counter (clock_of (join c (single op))) (clock_grows c (join c (single op)) (within_join c (single op)))
    ((within_clock (join c (single op))).own id e (get-inserted c id e.parent e.ch none))
    (joined_clock c op id.counter (record {
      own = λ q x g. grind (arith, single_inserted op q x g);
      parents = λ q x g. grind (arith, single_inserted op q x g);
      deleted = λ q h. grind (arith, single_deleted op q h);
    }))

pub clock_deletion : (c : Content) (id : Identifier) → clock_of (join c (single (Delete id))) ≡ max (clock_of c) id.counter
clock_deletion c id =
    let op : Op = Delete id in
    greater_of (clock_of c) id.counter (clock_of (join c (single op))) (clock_grows c (join c (single op)) (within_join c (single op)))
    ((within_clock (join c (single op))).deleted id (contains-join c (single op) id ∙ or_right (finite_set.contains c.deleted id) (finite_set.contains (single op).deleted id) (single_holds op)))
    (joined_clock c op id.counter (record {
      own = λ q x g. grind (arith, single_inserted op q x g);
      parents = λ q x g. grind (arith, single_inserted op q x g);
      deleted = λ q h. grind (arith, single_deleted op q h);
    }))

pub falls_to : (id parent : Identifier) → nat_le id.counter parent.counter ≡ false → parent.counter ≤ id.counter
falls_to id parent h = grind (arith, nat_tests)
