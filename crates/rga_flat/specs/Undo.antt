-- What is kept on the way back from a content to a base.
use Rattle.std.specs.Prelude.{◌≡◌, ◌&&◌, not, Bool, true, false, List, filter, if◌then◌else◌}
use Rattle.std.specs.List.{AllByRecursion}
use Rattle.std.specs.Ordering.{eq_by_cmp}
use Rattle.std.specs.FinMap as finite_map
use Rattle.std.specs.BTreeSet.{BTreeSet, contains}
use Rattle.rga_ops.specs.Identifier.{Identifier, id_cmp}
use Rattle.rga_ops.specs.Content.{Content}
use Rattle.rga_ops.specs.Order.{order}
use Rattle.rga_ops.specs.Placement as placement
use Rattle.rga_ops.specs.declared.op.Op.{Op}
use Rattle.rga_ops.specs.declared.op.Op.TheVariants.{Insert, Delete}
use Rattle.rga_sequence.specs.declared.entry.Entry.{Entry}
use Rattle.rga_sequence.specs.Entries.{ids, without_entry, mark_entry}
use Rattle.rga_flat.specs.Flat.{IsEntryOf, IsFlat}
use Rattle.rga_flat.specs.Based.{IsBased}
use Rattle.rga_flat.specs.Waiting.{Waiting, under, has_list, is_listed}

-- the entries once an operation is removed, whose element is no parent of others there
abbrev pub undone_entries : Op → List Entry → List Entry
undone_entries (Insert id parent ch) es = without_entry id es
undone_entries (Delete id) es = mark_entry false id es

-- the list under an identifier then
abbrev pub undone_under : Op → Identifier → List Identifier → List Identifier
undone_under (Insert id parent ch) p ks = if eq_by_cmp id_cmp parent p then placement.without id ks else ks
undone_under (Delete id) p ks = ks

-- At a content between: the entries are those of what is inserted there and has no list that was done with.
pub record IsGoingBack (top base c : Content) (es : List Entry) (w : Waiting) (done : Identifier → Bool) : Type 0 where
  pub listed : ids es ≡ filter (λ k. finite_map.contains_key c.inserted k && not (done k)) (order top)
  pub shown : AllByRecursion (IsEntryOf (record { inserted = top.inserted; deleted = c.deleted })) es
  pub based : IsBased base c (under w) (has_list w)

-- A content at which some lists are done with, those that were done with there and perhaps more, and the base to which it goes
-- back.
pub record IsReturnable (top base : Content) (es : List Entry) (w : Waiting) (done : BTreeSet Identifier) : Type 0 where
  pub settled : BTreeSet Identifier
  pub flat : IsFlat top es (under w) (is_listed w settled)
  pub more : (p : Identifier) → contains id_cmp settled p ≡ true → contains id_cmp done p ≡ true
  pub listed : (p : Identifier) → contains id_cmp done p ≡ true → has_list w p ≡ true
  pub based : IsBased base top (under w) (has_list w)
