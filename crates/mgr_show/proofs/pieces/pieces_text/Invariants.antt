use Rattle.std.proofs.Common.{◌≡◌, ◌++◌, length}
use Rattle.std.specs.Prelude.{string_bytes}
use Rattle.std.specs.List.{flat_map}
use Rattle.mgr_show.specs.Authors.{piece_line, pieces}
use Rattle.mgr_show.proofs.pieces.pieces_text.Given as goal

-- what is in it and what is left are all pieces
abbrev pub invariant-pieces : goal.invariant-pieces
invariant-pieces l = string_bytes l.text ++ flat_map piece_line (pieces l.rest) ≡ flat_map piece_line (pieces l.fn.written)

abbrev pub decreases-pieces : goal.decreases-pieces
decreases-pieces l = length l.rest
