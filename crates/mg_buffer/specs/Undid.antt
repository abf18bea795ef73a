-- What an undo leaves of a buffer.
use Rattle.std.specs.Prelude.{◌≡◌, ℕ, ◌+◌, List, ◌++◌, Some}
use Rattle.std.specs.List.{slice_get}
use Rattle.rga_ops.specs.Identifier.{Identifier, identifier}
use Rattle.rga_ops.specs.Content.{clock_of, join, content_of}
use Rattle.rga_ops.specs.Order.{order}
use Rattle.rga_ops.specs.declared.op.Op.{Op}
use Rattle.rga_doc.specs.Revert.{revert_operations, StandsDirectlyBehind}
use Rattle.mg_plain.specs.declared.view.Kind.TheVariants.{Plain}
use Rattle.mg_buffer.specs.Groups.{Past, past_of, with_group, group_to_undo, stand_in, all_substituted, point_after}
use Rattle.mg_buffer.specs.State.{State}
use Rattle.mg_buffer.specs.Sight.{Notes}

-- the operations that revert a group at a buffer
abbrev pub undo_operations : State → Past → List Op
undo_operations b g = revert_operations b.replica b.content g.inserted g.deleted

-- The group of that index was reverted, with all that comes with it. Each restored element stands directly behind the one
-- that it restores.
pub record Reverted (i : ℕ) (g : Past) (b d : State) : Type 0 where
  pub content : d.content ≡ join b.content (content_of (undo_operations b g))
  pub behind : (k : ℕ) (x : Identifier × ℕ) → slice_get g.deleted k ≡ Some x →
      StandsDirectlyBehind (order d.content) x.0 (identifier (clock_of b.content + (k + 1)) b.replica)
  pub groups : d.groups ≡ all_substituted (stand_in (undo_operations b g))
      (with_group b.groups (past_of b.content (undo_operations b g)) (undo_operations b g))
  pub undone : d.undone ≡ Some i
  pub unsaved : d.unsaved ≡ b.unsaved ++ undo_operations b g
  pub point : d.point ≡ point_after b.point (past_of b.content (undo_operations b g))
  pub mark : d.mark ≡ b.mark
  pub name : d.name ≡ b.name
  pub limit : d.limit ≡ b.limit
  pub replica : d.replica ≡ b.replica

-- The undo took this group, which was the one to take. The kind is Plain; the kill buffer and the goal stay.
pub record Undid (b : State) (old : Notes) (d : State) (new : Notes) : Type 0 where
  pub index : ℕ
  pub group : Past
  pub due : group_to_undo b.groups b.undone ≡ Some (index, group)
  pub reverted : Reverted index group b d
  pub notes : new ≡ record old { kind = Plain }
