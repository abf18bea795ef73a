-- How many identifiers a set has once others are added.
use Rattle.std.proofs.Common.{◌≡◌, ◌+◌, Bool, true, false, cond, not, ◌&&◌, ◌||◌, List, [], ◌∷◌, filter, length, sym, ap, ◌∙◌, arith}
use Rattle.std.specs.List.{list_any, IsDistinct}
use Rattle.std.specs.FinSet as finite_set
use Rattle.std.specs.FinSet.{FinSet}
use Rattle.std.proofs.Math.Bool.{or-false}
use Rattle.std.proofs.lemmas.Bool.{not-true, and_parts}
use Rattle.std.proofs.lemmas.Map.Views.{any-filter_same}
use Rattle.rga_ops.specs.Identifier.{Identifier, id_cmp}
use Rattle.rga_ops.specs.Content.{Content, known_ids, join}
use Rattle.rga_ops.proofs.IdentifierLaws.{ids_total, ids_exact, is, same_id, is_itself}
use Rattle.rga_ops.proofs.MemberLaws.{none_among, distinct_filter}
use Rattle.rga_ops.proofs.KnownLaws.{contains-known_join}

-- distinct identifiers that a set lacks are that many more
pub len-added : (s u : FinSet id_cmp) (ks : List Identifier) → IsDistinct is ks → ((q : Identifier) → list_any (is q) ks ≡ true → finite_set.contains s q ≡ false) → ((q : Identifier) → finite_set.contains u q ≡ (finite_set.contains s q || list_any (is q) ks)) → finite_set.len u ≡ finite_set.len s + length ks
unfolding IsDistinct
len-added s u [] distinct apart members =
    let same : finite_set.len u ≡ finite_set.len s = ap finite_set.len (finite_set.same_set ids_total ids_exact u s (λ q. members q ∙ or-false (finite_set.contains s q))) in
    omega (arith, same)
len-added s u (k ∷ ks) distinct apart members =
    let one_more : finite_set.len (finite_set.insert s k) ≡ finite_set.len s + 1 =
    finite_set.len-insert ids_total s k ∙ ap (λ b. cond b (finite_set.len s) (finite_set.len s + 1)) (apart k (ap (λ b. b || list_any (is k) ks) (is_itself k))) in
    let rest : finite_set.len u ≡ finite_set.len (finite_set.insert s k) + length ks = len-added (finite_set.insert s k) u ks distinct.1 later members_later in
    omega (arith, one_more, rest)
  where
    later : (q : Identifier) → list_any (is q) ks ≡ true → finite_set.contains (finite_set.insert s k) q ≡ false
    later q m = grind (arith, finite_set.contains-insert ids_total s k q, apart q, same_id q k, none_among k ks distinct.0, m)

    members_later : (q : Identifier) → finite_set.contains u q ≡ (finite_set.contains (finite_set.insert s k) q || list_any (is q) ks)
    members_later q = grind (arith, members q, finite_set.contains-insert ids_total s k q)

-- a join knows what the first knows, and each identifier that the second alone knows
pub len-known_join : (c d : Content) (ks : List Identifier) → IsDistinct is ks → ((q : Identifier) → finite_set.contains (known_ids d) q ≡ list_any (is q) ks) → finite_set.len (known_ids (join c d)) ≡ finite_set.len (known_ids c) + length (filter (λ q. not (finite_set.contains (known_ids c) q)) ks)
len-known_join c d ks distinct members = len-added (known_ids c) (known_ids (join c d)) (filter unknown ks) (distinct_filter unknown ks distinct) apart joined
  where
    unknown : Identifier → Bool
    unknown q = not (finite_set.contains (known_ids c) q)

    kept : (q : Identifier) → list_any (is q) (filter unknown ks) ≡ (unknown q && list_any (is q) ks)
    kept q = any-filter_same (is q) unknown (unknown q) (λ x t. ap unknown (sym (same_id q x t))) ks

    apart : (q : Identifier) → list_any (is q) (filter unknown ks) ≡ true → finite_set.contains (known_ids c) q ≡ false
    apart q m = not-true (finite_set.contains (known_ids c) q) ((and_parts (unknown q) (list_any (is q) ks) (sym (kept q) ∙ m)).0)

    joined : (q : Identifier) → finite_set.contains (known_ids (join c d)) q ≡ (finite_set.contains (known_ids c) q || list_any (is q) (filter unknown ks))
    joined q = grind (arith, contains-known_join c d q, members q, kept q)
