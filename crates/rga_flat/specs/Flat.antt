-- What a flat store keeps: the entries of its content in order, and what waits.
use Rattle.std.specs.Prelude.{◌≡◌, ◌||◌, Bool, true, false, List, Some}
use Rattle.std.specs.List.{list_any, AllByRecursion, IsDistinct}
use Rattle.std.specs.Ordering.{eq_by_cmp}
use Rattle.std.specs.FinMap as finite_map
use Rattle.std.specs.FinSet as finite_set
use Rattle.rga_ops.specs.Identifier.{Identifier, id_cmp, is_root}
use Rattle.rga_ops.specs.Content.{Element, Content}
use Rattle.rga_ops.specs.RootPath.{is_complete}
use Rattle.rga_ops.specs.Order.{order}
use Rattle.rga_sequence.specs.declared.entry.Entry.{Entry}
use Rattle.rga_sequence.specs.Entries.{ids}
use Rattle.rga_store.specs.Child.{is_child}

-- whether an element below it would be complete
abbrev pub is_above : Content → Identifier → Bool
is_above c p = is_root p || is_complete c p

-- an entry has the character that the content inserts, and is deleted where the content deletes it
pub record IsEntryOf (c : Content) (e : Entry) : Type 0 where
  pub element : Element
  pub found : finite_map.get c.inserted e.id ≡ Some element
  pub character : e.ch ≡ element.ch
  pub deleted : e.deleted ≡ finite_set.contains c.deleted e.id

-- what is under an identifier below which an element would not be complete in a part of the content: exactly its children,
-- each once
pub record AreChildren (c part : Content) (under : Identifier → List Identifier) : Type 0 where
  pub exact : (p : Identifier) → is_above part p ≡ false → (k : Identifier) → list_any (eq_by_cmp id_cmp k) (under p) ≡ is_child c p k
  pub once : (p : Identifier) → is_above part p ≡ false → IsDistinct (eq_by_cmp id_cmp) (under p)

-- each element that waits has a list, and no complete one has
pub record AreMarked (c : Content) (has_list : Identifier → Bool) : Type 0 where
  pub waits : (k : Identifier) (x : Element) → finite_map.get c.inserted k ≡ Some x → is_complete c k ≡ false → has_list k ≡ true
  pub complete : (k : Identifier) → is_complete c k ≡ true → has_list k ≡ false

-- the entries are those of the complete elements, in order, and in the list under what is not complete are its children
pub record IsFlat (c : Content) (es : List Entry) (under : Identifier → List Identifier) (has_list : Identifier → Bool) : Type 0 where
  pub listed : ids es ≡ order c
  pub shown : AllByRecursion (IsEntryOf c) es
  pub children : AreChildren c c under
  pub marks : AreMarked c has_list

-- the entry of an element
abbrev pub entry_for : Content → Identifier → Element → Entry
entry_for c id x = record { id = id; ch = x.ch; deleted = finite_set.contains c.deleted id }
