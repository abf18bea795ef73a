-- Elements that are placed in a sequence, those that waited for them too.
use Rattle.std.specs.Prelude.{◌≡◌, ◌⊎◌, Bool, true, false, List, [], ◌∷◌, Some, None}
use Rattle.std.specs.List.{list_any, AllByRecursion, IsDistinct}
use Rattle.std.specs.Ordering.{eq_by_cmp}
use Rattle.std.specs.FinMap as finite_map
use Rattle.rga_ops.specs.Identifier.{Identifier, id_cmp}
use Rattle.rga_ops.specs.Content.{Element, Content, IsWithin, IsSound}
use Rattle.rga_ops.specs.RootPath.{is_complete}
use Rattle.rga_ops.specs.Order.{order}
use Rattle.rga_sequence.specs.declared.entry.Entry.{Entry}
use Rattle.rga_sequence.specs.Entries.{ids, without_entry}
use Rattle.rga_flat.specs.Flat.{is_above, IsEntryOf, AreChildren}

-- each element that is inserted is complete
abbrev pub IsClosed : Content → Type 0
IsClosed c = (id : Identifier) (x : Element) → finite_map.get c.inserted id ≡ Some x → is_complete c id ≡ true

-- an element that is not in the part yet, though its parent is
pub record IsReady (d part : Content) (k : Identifier) : Type 0 where
  pub element : Element
  pub found : finite_map.get d.inserted k ≡ Some element
  pub absent : finite_map.get part.inserted k ≡ None
  pub above : is_above part element.parent ≡ true

-- The entries are those of a part of the content in which nothing waits, in its order. What stands directly below an element
-- of the part is in it too, or is still to be placed.
pub record IsPlacing (d : Content) (under : Identifier → List Identifier) (has_list : Identifier → Bool) (es : List Entry) (work : List Identifier) : Type 0 where
  pub part : Content
  pub sound : IsSound d
  pub within : IsWithin part d
  pub closed : IsClosed part
  pub listed : ids es ≡ order part
  pub shown : AllByRecursion (IsEntryOf d) es
  pub children : AreChildren d part under
  pub waits : (k : Identifier) (x : Element) → finite_map.get d.inserted k ≡ Some x → is_complete d k ≡ false → has_list k ≡ true
  pub complete : (k : Identifier) → is_complete part k ≡ true → has_list k ≡ false
  pub distinct : IsDistinct (eq_by_cmp id_cmp) work
  pub ready : AllByRecursion (IsReady d part) work
  pub covered : (k : Identifier) (x : Element) → finite_map.get d.inserted k ≡ Some x → is_above part x.parent ≡ true → (is_complete part k ≡ true) ⊎ (list_any (eq_by_cmp id_cmp k) work ≡ true)

-- the entries without those of the identifiers
abbrev pub taken_out : List Identifier → List Entry → List Entry
taken_out [] es = es
taken_out (k ∷ ks) es = without_entry k (taken_out ks es)
