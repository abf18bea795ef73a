-- The open buffers, and what becomes of the current one.
use Rattle.std.specs.Prelude.{ℕ, Bool, false, List, [], ◌∷◌, ◌++◌, length, None, get_or, slice_set}
use Rattle.std.specs.List.{list_any, remove}
use Rattle.rga_ops.specs.Content.{nothing}
use Rattle.rga_ops.specs.Identifier.{root}
use Rattle.mg_buffer.specs.State.{State}
use Rattle.mg_buffer.specs.OpenState.{OpenState, is_changed}
use Rattle.mg_workspace.specs.Names.{moved}

-- how many may be open
abbrev pub most_buffers : ℕ
most_buffers = 64

-- in the order in which they were opened, of which one is current
pub record Buffers : Type 0 where
  pub all : List OpenState
  pub current : ℕ

-- any buffer is changed
abbrev pub are_changed : Buffers → Bool
are_changed bs = list_any is_changed bs.all

-- one more, which is current
abbrev pub with_buffer : OpenState → Buffers → Buffers
with_buffer b bs = record { all = bs.all ++ b ∷ []; current = length bs.all }

-- without the one at an index; where that was the current one, the first of those left is
abbrev pub without_buffer : ℕ → Buffers → Buffers
without_buffer gone bs = record { all = remove bs.all gone; current = moved gone bs.current }

-- ---- the one at an index, and the current one

-- where there is no buffer; there always is a current one
abbrev pub no_buffer : OpenState
no_buffer = record {
  buffer = record { content = nothing; limit = 0; replica = 0; name = []; point = root; mark = None; groups = []; undone = None; unsaved = [] };
  whole = false;
  text_waits = false;
  runs = false;
  brief = false;
}

abbrev pub buffer_at : ℕ → Buffers → OpenState
buffer_at i bs = get_or bs.all i no_buffer

abbrev pub current_buffer : Buffers → OpenState
current_buffer bs = buffer_at bs.current bs

-- with another at an index
abbrev pub with_at : ℕ → Buffers → OpenState → Buffers
with_at i bs b = record bs { all = slice_set bs.all i b }

-- with another as the current one
abbrev pub with_current : Buffers → OpenState → Buffers
with_current bs b = record bs { all = slice_set bs.all bs.current b }

-- what is to be written of it beside its unsaved operations stays
abbrev pub with_state : Buffers → State → Buffers
with_state bs b = with_current bs (record (current_buffer bs) { buffer = b })

-- where a run of commands ended in it
abbrev pub idled : Buffers → Buffers
idled bs = with_state bs (record (current_buffer bs).buffer { undone = None })
