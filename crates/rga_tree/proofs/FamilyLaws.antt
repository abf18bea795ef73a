-- Whose children are whose once an operation was taken, or removed again.
use Rattle.std.proofs.Common.{arith, ◌≡◌, ℕ, true, false, ◌&&◌, ◌||◌, List, sym, ap, ◌∙◌, subst, not}
use Rattle.std.specs.Prelude.{Option, None}
use Rattle.std.specs.Option.{option_map_or}
use Rattle.std.specs.FinMap as finite_map
use Rattle.rga_ops.specs.Identifier.{Identifier, is_id}
use Rattle.rga_ops.specs.Content.{Element, Content, join, single}
use Rattle.rga_ops.proofs.IdentifierLaws.{is_id-same, is_id-is}
use Rattle.rga_ops.proofs.ListSteps.{get-insertion, get-deletion}
use Rattle.rga_ops.specs.declared.op.Op.TheVariants.{Insert, Delete}
use Rattle.rga_store.specs.Rising.{IsRising}
use Rattle.rga_tree.specs.Children.{has_child}
use Rattle.rga_store.specs.Child.{is_child}
use Rattle.rga_tree.specs.Tree.{IsFamily}
use Rattle.rga_store.specs.Without.{without_insertion}
use Rattle.rga_store.proofs.StepLaws.{IsChild, child_found}
use Rattle.rga_store.proofs.WithoutLaws.{left_inserted}

child_now : (c : Content) (id parent : Identifier) (ch : ℕ) (p k : Identifier) → finite_map.get c.inserted id ≡ None → is_child (join c (single (Insert id parent ch))) p k ≡ (is_child c p k || (is_id parent p && is_id id k))
child_now c id parent ch p k none = grind (arith, get-insertion c id parent ch k none, is_id-same id k, is_id-is id k, none)

-- one child more
pub family_insertion : (c : Content) (id parent : Identifier) (ch : ℕ) (old new : Identifier → List Identifier) → finite_map.get c.inserted id ≡ None → IsFamily c old
    → ((p k : Identifier) → has_child (new p) k ≡ (has_child (old p) k || (is_id parent p && is_id id k))) → ((p : Identifier) → IsRising (new p)) → IsFamily (join c (single (Insert id parent ch))) new
family_insertion c id parent ch old new none w h up = record {
  children = λ p k. h p k ∙ ap (λ b. b || (is_id parent p && is_id id k)) (w.children p k) ∙ sym (child_now c id parent ch p k none);
  rising = up;
}

-- a deletion has no children
pub family_deletion : (c : Content) (id : Identifier) (lists : Identifier → List Identifier) → IsFamily c lists → IsFamily (join c (single (Delete id))) lists
family_deletion c id lists w = record {
  children = λ p k. w.children p k ∙ ap (λ (o : Option Element). option_map_or (λ x. is_id x.parent p) o false) (sym (get-deletion c id k));
  rising = w.rising;
}

pub family_same : (c : Content) (old new : Identifier → List Identifier) → IsFamily c old → ((p : Identifier) → new p ≡ old p) → IsFamily c new
family_same c old new w h = record {
  children = λ p k. ap (λ ks. has_child ks k) (h p) ∙ w.children p k;
  rising = λ p. subst (λ ks. IsRising ks) (sym (h p)) (w.rising p);
}

-- ---- an insertion that is removed again

pub child_left : (c : Content) (id parent p k : Identifier) → is_child c parent id ≡ true → is_child (without_insertion id c) p k ≡ (is_child c p k && not (is_id parent p && is_id id k))
child_left c id parent p k its =
    let found : IsChild c parent id = child_found c parent id its in
    grind (arith, left_inserted c id k, is_id-same id k, is_id-is id k, found.found, found.parent)
