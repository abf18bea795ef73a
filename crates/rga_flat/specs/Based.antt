-- What a store that took operations keeps of what it was.
use Rattle.std.specs.Prelude.{◌≡◌, Bool, true, false, List}
use Rattle.std.specs.List.{list_any, IsDistinct}
use Rattle.std.specs.Ordering.{eq_by_cmp}
use Rattle.rga_ops.specs.Identifier.{Identifier, id_cmp}
use Rattle.rga_ops.specs.Content.{Content, IsWithin}
use Rattle.rga_store.specs.Child.{is_child}
use Rattle.rga_flat.specs.Flat.{is_above, AreMarked}

-- A content has grown from a base. In the list under what was not complete there are its children from there, and no others than
-- its children now; and the lists are those of what waited there.
pub record IsBased (base c : Content) (under : Identifier → List Identifier) (has_list : Identifier → Bool) : Type 0 where
  pub within : IsWithin base c
  pub old : (p : Identifier) → is_above base p ≡ false → (k : Identifier) → is_child base p k ≡ true → list_any (eq_by_cmp id_cmp k) (under p) ≡ true
  pub now : (p : Identifier) → is_above base p ≡ false → (k : Identifier) → list_any (eq_by_cmp id_cmp k) (under p) ≡ true → is_child c p k ≡ true
  pub once : (p : Identifier) → is_above base p ≡ false → IsDistinct (eq_by_cmp id_cmp) (under p)
  pub marks : AreMarked base has_list
