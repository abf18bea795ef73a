use Rattle.mgr_show.proofs.PieceLaws.{are_pieces}
use Rattle.mgr_show.proofs.laws.pieces_are_the_longest.Goals as goal

pub returns-clause-pieces : goal.returns-clause-pieces
returns-clause-pieces c = are_pieces
