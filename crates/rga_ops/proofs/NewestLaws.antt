-- An insertion whose counter is above all others: it goes in directly behind its parent.
use Rattle.std.proofs.Common.{◌≡◌, ℕ, ◌<◌, true, false, [], ◌∷◌, ◌++◌, refl, ap, arith}
use Rattle.std.specs.Prelude.{None}
use Rattle.std.specs.List.{list_any, AllByRecursion}
use Rattle.std.specs.Ordering.{ordering_then}
use Rattle.std.specs.declared.cmp.Ordering.TheVariants.{Less}
use Rattle.std.specs.FinMap as finite_map
use Rattle.std.specs.FinSet as finite_set
use Rattle.std.specs.FinMap.Entries.{put, by_order}
use Rattle.std.proofs.lemmas.Bool.{false_from_ne_true}
use Rattle.rga_ops.specs.Identifier.{Identifier, id_cmp, is_root}
use Rattle.rga_ops.specs.Content.{Content, join, single, clock_of, HasCountersWithin}
use Rattle.rga_ops.specs.RootPath.{Path, path_cmp, IsRootPath}
use Rattle.rga_ops.specs.Order.{order}
use Rattle.rga_ops.specs.Placement.{put_behind}
use Rattle.rga_ops.proofs.IdentifierLaws.{is}
use Rattle.rga_ops.proofs.PathLaws.{on_path}
use Rattle.rga_ops.proofs.MemberLaws.{all_members}
use Rattle.rga_ops.proofs.ClockLaws.{within_clock}
use Rattle.rga_ops.proofs.InsertionLaws.{IsNewLeaf}
use Rattle.rga_ops.proofs.BehindLaws.{ids, GoesIn, order-change}
use Rattle.rga_ops.specs.declared.op.Op.TheVariants.{Insert}

pub lower_counter : (a b : Identifier) → a.counter < b.counter → id_cmp a b ≡ Less
lower_counter a b h = grind arith

-- before what stands behind its beginning, where all identifiers on that are smaller
before_later : (above q : Path) (id : Identifier) → AllByRecursion (λ k. id_cmp k id ≡ Less) q → path_cmp above q ≡ Less → path_cmp (above ++ id ∷ []) q ≡ Less
before_later [] [] id small h = absurd (cc)
before_later [] (k ∷ q) id small h = ap (λ o. ordering_then o (path_cmp [] q)) small.0
before_later (a ∷ above) [] id small h = absurd (cc)
before_later (a ∷ above) (k ∷ q) id small h = grind (arith, before_later above q id small.1)

module _ (c : Content) (id : Identifier) (newer : clock_of c < id.counter) where
  bound : HasCountersWithin c (clock_of c)
  bound = within_clock c

  pub newest_element : is_root id ≡ false
  newest_element = grind (arith, newer)

  pub newest_absent : finite_map.get c.inserted id ≡ None
  newest_absent = grind (arith, newer, bound.own id)

  pub newest_kept : finite_set.contains c.deleted id ≡ false
  newest_kept = false_from_ne_true (finite_set.contains c.deleted id) (λ t. omega (arith, newer, bound.deleted id t))

  -- it is not inserted, and nothing waits for it
  pub newest_leaf : IsNewLeaf c id
  newest_leaf = record { element = newest_element; absent = newest_absent; childless = λ k x g. grind (arith, newer, bound.parents k x g) }

  inserted_smaller : (k : Identifier) → list_any (is k) (finite_map.keys c.inserted) ≡ true → id_cmp k id ≡ Less
  inserted_smaller k m = grind (arith, finite_map.contains_key-keys c.inserted k, bound.own k, newer)

  path_smaller : {k : Identifier} {p : Path} → IsRootPath c k p → AllByRecursion (λ q. id_cmp q id ≡ Less) p
  path_smaller {k} {p} s = all_members (λ q. id_cmp q id ≡ Less) p (λ q on. inserted_smaller q (on_path s q on).inserted)

  pub order-newest : (parent : Identifier) (ch : ℕ) → order (join c (single (Insert id parent ch))) ≡ put_behind parent id (order c)
  order-newest parent ch = order-change c id parent ch newest_leaf (λ ys. id ∷ ys) (λ above up. in_front above up)
    where
      in_front : (above : Path) (up : IsRootPath c parent above) → GoesIn c id parent ch newest_leaf above up (λ ys. id ∷ ys)
      in_front above up done [] split passed later there = refl
      in_front above up done (e ∷ left) split passed later there =
          ap (λ o. ids (by_order o ((above ++ id ∷ [], id) ∷ e ∷ left) ((e.0, id) ∷ left) (e ∷ put path_cmp (above ++ id ∷ []) id left)))
          (before_later above e.0 id (path_smaller (there.0).path) later.0)
