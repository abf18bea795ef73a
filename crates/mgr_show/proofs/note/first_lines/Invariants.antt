use Rattle.std.proofs.Common.{◌≡◌, ◌++◌, take, drop}
use Rattle.mgr_show.specs.Note.{first_lines}
use Rattle.mgr_show.proofs.note.first_lines.Given as goal

-- with the first lines of what is left
abbrev pub invariant-loop-index : goal.invariant-loop-index
invariant-loop-index l = first_lines l.count l.bytes ≡ take l.index l.bytes ++ first_lines l.left (drop l.index l.bytes)
