-- What is worked on.
use Rattle.std.specs.Prelude.{ℕ, Bool, List, Option}
use Rattle.rga_ops.specs.Order.{text}
use Rattle.mg_buffer.specs.Sight.{Notes, place_of}
use Rattle.mg_buffer.specs.OpenState.{OpenState}
use Rattle.mg_screen.specs.Layout.{Layout, current_height}
use Rattle.mg_workspace.specs.Buffers as buffers
use Rattle.mg_workspace.specs.Buffers.{are_changed}
use Rattle.mg_workspace.specs.Failures.{noted}
use Rattle.mg_workspace.specs.declared.failures.Failed.{Failed}
use Rattle.mg_workspace.specs.declared.failures.Failure.{Failure}
use Rattle.mg_workspace.specs.declared.failures.Task.{Task}
use Rattle.mg_workspace.specs.declared.viewport.Viewport.{Viewport}
use Rattle.mg_minibuffer.specs.Scenes as scenes

-- the buffers, what commands leave for the next one, the windows with what they show, the fill column, the columns of the
-- screen, the replica and the limit of buffers that are opened, whether saves of these append runs and their exchanges
-- are brief, and what failed in buffers and still stands
pub record Workspace : Type 0 where
  pub buffers : buffers.Buffers
  pub notes : Notes
  pub windows : Layout Viewport
  pub fill : ℕ
  pub columns : ℕ
  pub replica : ℕ
  pub limit : ℕ
  pub runs : Bool
  pub brief : Bool
  pub failures : List Failed

-- the current buffer
abbrev pub workspace_buffer : Workspace → OpenState
workspace_buffer w = buffers.current_buffer w.buffers

-- with another as the current buffer
abbrev pub with_workspace_buffer : Workspace → OpenState → Workspace
with_workspace_buffer w b = record w { buffers = buffers.with_current w.buffers b }

-- with another as the buffer at an index
abbrev pub with_buffer_at : ℕ → Workspace → OpenState → Workspace
with_buffer_at i w b = record w { buffers = buffers.with_at i w.buffers b }

-- a task of the buffer at an index was done, or failed for that
abbrev pub with_task_at : ℕ → Task → Option Failure → Workspace → Workspace
with_task_at i task why w = record w { failures = noted i task why w.failures }

-- the same of the current buffer
abbrev pub with_task : Task → Option Failure → Workspace → Workspace
with_task task why w = with_task_at w.buffers.current task why w

-- what a step is decided from
abbrev pub scene_of : Workspace → scenes.Scene
scene_of w =
    let b = (workspace_buffer w).buffer in
    record {
      text = text b.content;
      point = place_of b.content b.point;
      rows = current_height w.windows;
      changed = are_changed w.buffers;
    }
