-- What a child that is added, or that leaves, changes in the lists of all parents.
use Rattle.std.proofs.Common.{arith, ◌≡◌, true, false, not, ◌&&◌, ◌||◌, List, refl, sym, subst}
use Rattle.rga_ops.specs.Identifier.{Identifier, is_id}
use Rattle.rga_ops.proofs.IdentifierLaws.{is_id-is}
use Rattle.rga_store.specs.Rising.{IsRising}
use Rattle.rga_tree.specs.Children.{has_child}

-- ---- what an added child changes, by the children of each parent

pub added : (old new : Identifier → List Identifier) (parent id : Identifier) → ((k : Identifier) → has_child (new parent) k ≡ (has_child (old parent) k || is_id id k)) → ((p : Identifier) → is_id parent p ≡ false → new p ≡ old p) → (p k : Identifier) → has_child (new p) k ≡ (has_child (old p) k || (is_id parent p && is_id id k))
added old new parent id has others p k =
    grind (arith, is_id-is parent p, has k, others p)

-- and what a child changes that leaves
pub left : (old new : Identifier → List Identifier) (parent id : Identifier) → ((k : Identifier) → has_child (new parent) k ≡ (has_child (old parent) k && not (is_id id k))) → ((p : Identifier) → is_id parent p ≡ false → new p ≡ old p) → (p k : Identifier) → has_child (new p) k ≡ (has_child (old p) k && not (is_id parent p && is_id id k))
left old new parent id has others p k =
    grind (arith, is_id-is parent p, has k, others p)

pub rising_now : (old new : Identifier → List Identifier) (parent : Identifier) → IsRising (new parent) → ((p : Identifier) → is_id parent p ≡ false → new p ≡ old p) → ((p : Identifier) → IsRising (old p)) → (p : Identifier) → IsRising (new p)
rising_now old new parent up others all p =
    elim (is_id parent p) as (λ b. is_id parent p ≡ b → IsRising (new p)) [
      | true ↦ λ t. subst (λ q. IsRising (new q)) (is_id-is parent p t) up
      | false ↦ λ t. subst (λ ks. IsRising ks) (sym (others p t)) (all p)
    ] refl
