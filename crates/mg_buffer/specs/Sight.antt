-- What the editor keeps between commands, and what a command sees of a buffer.
use Rattle.std.specs.Prelude.{◌≡◌, ℕ, List, Result}
use Rattle.std.specs.Cow.{cow_slice_items}
use Rattle.std.specs.Option.{option_map, unwrap_or}
use Rattle.rga_ops.specs.Identifier.{Identifier}
use Rattle.rga_ops.specs.Content.{Content}
use Rattle.rga_ops.specs.Order.{text}
use Rattle.rga_ops.specs.Places.{place}
use Rattle.mg_plain.specs.declared.command.Command.{Command}
use Rattle.mg_plain.specs.declared.outcome.Notice.{Notice}
use Rattle.mg_plain.specs.declared.view.Kind.{Kind}
use Rattle.mg_plain.specs.Commands.{effect}
use Rattle.mg_plain.specs.Effect.{Effect}
use Rattle.mg_plain.specs.Kills.{kill_after}
use Rattle.mg_plain.specs.Situation.{Situation}
use Rattle.mg_buffer.specs.LineNumbers.{line_of}
use Rattle.mg_buffer.specs.State.{State}
use Rattle.mg_buffer.specs.declared.sight.Sight.{Sight}

-- the kill buffer, of which kind the last command was, and the goal of motions over lines
pub record Notes : Type 0 where
  pub kill : List ℕ
  pub kind : Kind
  pub goal : ℕ

-- those that an effect leaves
abbrev pub notes_after : Notes → Effect → Notes
notes_after notes e = record { kill = kill_after notes.kind notes.kill e.kind e.kill; kind = e.kind; goal = e.goal }

-- the place of an element that has one
abbrev pub place_of : Content → Identifier → ℕ
place_of c id = unwrap_or (place c id) 0

-- the text, the places of point and mark in it, and the notes
abbrev pub situation_of : State → Notes → Situation
situation_of b notes = record {
  text = text b.content;
  point = place_of b.content b.point;
  mark = option_map (place_of b.content) b.mark;
  kill = notes.kill;
  goal = notes.goal;
  last = notes.kind;
}

-- these are seen of a buffer: its text, the places of point and mark in it, and the line of point
pub record IsSight (b : State) (s : Sight) : Type 0 where
  pub characters : cow_slice_items s.text ≡ text b.content
  pub point : s.point ≡ place_of b.content b.point
  pub mark : s.mark ≡ option_map (place_of b.content) b.mark
  pub line : s.line ≡ line_of (text b.content) (place_of b.content b.point)

-- a command with its argument and the fill column
pub record CommandCall : Type 0 where
  pub command : Command
  pub argument : ℕ
  pub fill : ℕ

abbrev pub command_call : Command → ℕ → ℕ → CommandCall
command_call command argument fill = record { command = command; argument = argument; fill = fill }

-- its effect at what it sees
abbrev pub effect_of_call : CommandCall → State → Notes → Result Effect Notice
effect_of_call call b notes = effect call.command call.argument (situation_of b notes) call.fill
