-- How much each replica wrote.
use Rattle.std.proofs.Common.{◌≡◌, ℕ, ◌==◌, Bool, cond, max, ◌+◌, ◌≤◌, suc, ◌-◌, List, [], ◌∷◌, ◌++◌, map, filter, length, refl, ap, ◌∙◌, arith}
use Rattle.std.specs.Prelude.{Option, Some, None, IfSome}
use Rattle.std.specs.List.{All}
use Rattle.std.specs.FinMap as finite_map
use Rattle.std.specs.FinSet as finite_set
use Rattle.std.proofs.lemmas.List.{length-append}
use Rattle.rga_ops.specs.Identifier.{Identifier}
use Rattle.rga_ops.specs.Content.{Element, Content, greatest}
use Rattle.rga_ops.specs.Operations.{insertion_of, insertions, deletions, operations, rising}
use Rattle.rga_ops.specs.declared.op.Op.{Op}
use Rattle.rga_ops.specs.declared.op.Op.TheVariants.{Insert, Delete}
use Rattle.std.specs.Ordering.{nat_cmp}
use Rattle.std.proofs.lemmas.Bool.Decides.{nat_tests}
use Rattle.std.specs.Map.{keys_of, values_of}
use Rattle.std.specs.BTreeMap.{insert_entry, is_at}
use Rattle.std.specs.BTreeSet.{insert_key}
use Rattle.std.proofs.lemmas.List.Elements.{All-weaker}
use Rattle.std.proofs.lemmas.Map.Views.{All-values-insert_entry, IfSome-lookup_from_All}
use Rattle.mgr_show.specs.Tallies.{tally, and_character, and_tallies, tally_of, is_insertion}
use Rattle.mgr_show.specs.Meant.{counters_of, summary, IsRising}
use Rattle.mgr_show.specs.declared.tallies.Tally.{Tally}
use Rattle.mgr_show.proofs.AuthorLaws.{same_replica}
use Rattle.mgr_show.proofs.LineLaws.{inserted_rises}

-- no replica has more characters than there were operations
abbrev IsWithin : ℕ → ℕ → Tally → Type 0
IsWithin n rest t = t.characters + rest ≤ n

pub few_after : (n rest : ℕ) (es : List (ℕ × Tally)) (replica counter : ℕ) → suc rest ≤ n → All (IsWithin n (suc rest)) (values_of es) → All (IsWithin n rest) (values_of (insert_entry nat_cmp es replica (and_character counter (tally_of replica es))))
few_after n rest es replica counter room h =
    All-values-insert_entry nat_cmp replica (and_character counter (tally_of replica es)) (IsWithin n rest) es
    (All-weaker (IsWithin n (suc rest)) (IsWithin n rest) (λ t within. omega (arith, within)) (values_of es) h)
    (found (tally_of replica es) (IfSome-lookup_from_All (IsWithin n (suc rest)) (is_at (nat_cmp replica)) es h))
  where
    found : (o : Option Tally) → IfSome o (IsWithin n (suc rest)) → IsWithin n rest (and_character counter o)
    found None within = omega (arith, room)
    found (Some t) within = omega (arith, within)

-- ---- insertions among operations

all_insertions : (es : List (Identifier × Element)) (ids : List Identifier) → filter is_insertion (map insertion_of es ++ map Delete ids) ≡ map insertion_of es
all_insertions [] [] = refl
all_insertions [] (id ∷ ids) = all_insertions [] ids
all_insertions (e ∷ es) ids = ap (λ ops. insertion_of e ∷ ops) (all_insertions es ids)

pub insertions_counted : (c : Content) → length (filter is_insertion (operations c)) ≡ length (insertions c)
insertions_counted c = ap length (all_insertions (finite_map.entries c.inserted) (rising (finite_set.items c.deleted)))

pub others_are_deletions : (c : Content) (n : ℕ) → n ≡ length (insertions c) → length (operations c) - n ≡ length (deletions c)
others_are_deletions c n is = omega (arith, is, length-append (insertions c) (deletions c))

-- ---- what is told of a replica

at_is : (n k : ℕ) → is_at (nat_cmp n) k ≡ (k == n)
at_is n k = grind (arith, nat_tests)

-- the look-up by the plain test
found : ℕ → List (ℕ × Tally) → Option Tally
found n [] = None
found n (e ∷ es) = cond (e.0 == n) (Some e.1) (found n es)

found_is : (n : ℕ) (es : List (ℕ × Tally)) → tally_of n es ≡ found n es
unfolding found
found_is n [] = refl
found_is n (e ∷ es) = λ k. cond (at_is n e.0 k) (Some e.1) (found_is n es k)

found_put : (n r : ℕ) (v : Tally) (es : List (ℕ × Tally)) → found n (insert_entry nat_cmp es r v) ≡ cond (r == n) (Some v) (found n es)
unfolding found
found_put n r v [] = refl
found_put n r v (e ∷ es) = grind (arith, nat_tests, found_put n r v es)

-- characters more, by their counters
abbrev counted : Option Tally → List ℕ → Option Tally
counted o [] = o
counted o (k ∷ ks) = counted (Some (and_character k o)) ks

abbrev of_replica : ℕ → Identifier → Bool
of_replica n id = id.replica == n

abbrev counters : ℕ → List Identifier → List ℕ
counters n ids = map (λ (id : Identifier). id.counter) (filter (of_replica n) ids)

deletions_tell_nothing : (es : List (ℕ × Tally)) (ids : List Identifier) → and_tallies es (map Delete ids) ≡ es
deletions_tell_nothing es [] = refl
deletions_tell_nothing es (id ∷ ids) = deletions_tell_nothing es ids

told : (n : ℕ) (es : List (ℕ × Tally)) (xs : List (Identifier × Element)) (ids : List Identifier) → found n (and_tallies es (map insertion_of xs ++ map Delete ids)) ≡ counted (found n es) (counters n (map (λ x. x.0) xs))
told n es [] ids = ap (found n) (deletions_tell_nothing es ids)
told n es (x ∷ xs) ids = grind (arith, nat_tests, same_replica, found_is, found_put, told n (insert_entry nat_cmp es x.0.replica (and_character x.0.counter (tally_of x.0.replica es))) xs ids)

-- so many characters more, and the greatest counter of all
counted_on : (a m : ℕ) (ks : List ℕ) → counted (Some (tally a m)) ks ≡ Some (tally (a + length ks) (max m (greatest ks)))
counted_on a m [] = grind arith
counted_on a m (x ∷ ks) = grind (arith, counted_on (a + 1) (max m x) ks)

summed : (ks : List ℕ) → counted None ks ≡ summary ks
summed [] = refl
summed (k ∷ ks) = grind (arith, counted_on 1 k ks)

pub told_by_insertions : (c : Content) (n : ℕ) → tally_of n (and_tallies [] (operations c)) ≡ summary (counters_of n c)
unfolding found
told_by_insertions c n =
    found_is n (and_tallies [] (operations c))
    ∙ told n [] (finite_map.entries c.inserted) (rising (finite_set.items c.deleted))
    ∙ summed (counters_of n c)

-- ---- the replicas rise

keys_put : (r : ℕ) (v : Tally) (es : List (ℕ × Tally)) → keys_of (insert_entry nat_cmp es r v) ≡ insert_key nat_cmp (keys_of es) r
keys_put r v [] = refl
keys_put r v (e ∷ es) = grind (arith, keys_put r v es)

and_replicas_rise : (es : List (ℕ × Tally)) (ops : List Op) → IsRising (keys_of es) → IsRising (keys_of (and_tallies es ops))
and_replicas_rise es [] h = h
and_replicas_rise es (Insert id parent ch ∷ ops) h =
    let entries : List (ℕ × Tally) = insert_entry nat_cmp es id.replica (and_character id.counter (tally_of id.replica es)) in
    and_replicas_rise entries ops (rw keys_put (inserted_rises id.replica (keys_of es) h))
and_replicas_rise es (Delete id ∷ ops) h = and_replicas_rise es ops h

pub replicas_rise : (c : Content) → IsRising (keys_of (and_tallies [] (operations c)))
replicas_rise c = and_replicas_rise [] (operations c) tt
