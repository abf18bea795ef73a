-- The order of paths: the comparison says what the words say, and it is a strict total order.
use Rattle.std.proofs.Common.{arith, ◌≡◌, [], ◌∷◌, ◌++◌, refl, sym, ap, ◌∙◌, inl, inr}
use Rattle.std.specs.Prelude.{◌⊎◌, ◌↔◌}
use Rattle.std.specs.Cmp.{IsTotalOrder, back_total, tied_itself}
use Rattle.std.specs.Cmp.Lexicographic.{lists_total}
use Rattle.std.specs.Ordering.{ordering_then, ordering_reverse}
use Rattle.std.specs.declared.cmp.Ordering.{Ordering}
use Rattle.std.specs.declared.cmp.Ordering.TheVariants.{Less, Equal, Greater}
use Rattle.std.specs.FinMap.{IsAntisymmetric, slice_cmp-IsAntisymmetric}
use Rattle.rga_ops.specs.Identifier.{Identifier, IsLarger}
use Rattle.rga_ops.specs.RootPath.{Path, newest_first, path_cmp, IsBefore}
use Rattle.rga_ops.proofs.IdentifierLaws.{ids_total, ids_exact}

pub paths_total : IsTotalOrder path_cmp
paths_total = lists_total (back_total ids_total)

pub paths_exact : IsAntisymmetric path_cmp
paths_exact = slice_cmp-IsAntisymmetric (λ a b e. sym (ids_exact b a e))

-- a common first identifier changes nothing
longer : (x y : Identifier) (p q : Path) → x ≡ y → IsBefore p q → IsBefore (x ∷ p) (y ∷ q)
longer x y p q same before = elim before [
  | inl (next, rest, e) ↦ inl (next, rest, λ k. sym same k ∷ e k)
  | inr b ↦ inr (record {
    common = x ∷ b.common;
    here = b.here;
    there = b.there;
    after_here = b.after_here;
    after_there = b.after_there;
    first = ap (λ r. x ∷ r) b.first;
    second = λ k. sym same k ∷ b.second k;
    larger = b.larger;
  })
]

before_from : (p q : Path) → path_cmp p q ≡ Less → IsBefore p q
before_from [] [] h = absurd (cc)
before_from [] (y ∷ q) h = inl (y, q, refl)
before_from (x ∷ p) [] h = absurd (cc)
before_from (x ∷ p) (y ∷ q) h =
    elim (newest_first x y) as (λ o. newest_first x y ≡ o → ordering_then o (path_cmp p q) ≡ Less → IsBefore (x ∷ p) (y ∷ q)) [
      | Less ↦ λ t h. inr (record { common = []; here = x; there = y; after_here = p; after_there = q; first = refl; second = refl; larger = t })
      | Equal ↦ λ t h. longer x y p q (sym (ids_exact y x t)) (before_from p q h)
      | Greater ↦ λ t h. absurd (cc)
    ] refl h

beginning_less : (p : Path) (next : Identifier) (rest : Path) → path_cmp p (p ++ next ∷ rest) ≡ Less
beginning_less [] next rest = refl
beginning_less (x ∷ p) next rest =
    ap (λ o. ordering_then o (path_cmp p (p ++ next ∷ rest))) (tied_itself ids_total x) ∙ beginning_less p next rest

branch_less : (common : Path) (here there : Identifier) (p q : Path) → IsLarger here there → path_cmp (common ++ here ∷ p) (common ++ there ∷ q) ≡ Less
branch_less [] here there p q larger = ap (λ o. ordering_then o (path_cmp p q)) larger
branch_less (x ∷ common) here there p q larger = grind (arith, ids_total, branch_less common here there p q larger)

-- the words and the comparison say the same
pub before-iff : (p q : Path) → IsBefore p q ↔ (path_cmp p q ≡ Less)
before-iff p q = grind (arith, beginning_less, branch_less, before_from)

pub not_less : (o : Ordering) → o ≡ Equal → o ≡ Less → ⊥
not_less o e l = cc

pub before_irreflexive : (p : Path) → IsBefore p p → ⊥
before_irreflexive p before = not_less (path_cmp p p) (tied_itself paths_total p) ((before-iff p p).0 before)

pub before_transitive : (p q r : Path) → IsBefore p q → IsBefore q r → IsBefore p r
before_transitive p q r a b = before_from p r (paths_total.trans p q r ((before-iff p q).0 a) ((before-iff q r).0 b))

pub before_total : (p q : Path) → IsBefore p q ⊎ ((p ≡ q) ⊎ IsBefore q p)
before_total p q = elim (path_cmp p q) as (λ o. path_cmp p q ≡ o → IsBefore p q ⊎ ((p ≡ q) ⊎ IsBefore q p)) [
  | Less ↦ λ t. inl (before_from p q t)
  | Equal ↦ λ t. inr (inl (paths_exact p q t))
  | Greater ↦ λ t. inr (inr (before_from q p (paths_total.antisymm q p ∙ ap ordering_reverse t)))
] refl
