use Rattle.std.proofs.Common.{◌≡◌, rules}
use Rattle.serde_json.specs.View.{view}
use Rattle.serde_json.specs.declared.value.Value.{the_lemmas}
use Rattle.serde_json.proofs.OnLiterals.{serde_json_on_literals}
use Rattle.mgr_show.specs.Authors.{piece_text, piece_data, piece, characters}
use Rattle.mgr_show.proofs.pieces.piece_string.Goals as goal

pub returns : goal.returns
unfolding serde_json_on_literals piece_text
returns c =
    let built : view c.in_ok-json.field-0 ≡ piece_data (piece c.args.replica (characters c.args.written.now)) =
    search (rules, the_lemmas) in
    search rules
