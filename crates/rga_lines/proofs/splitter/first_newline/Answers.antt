use Rattle.rga_lines.proofs.Prelude.{ap, ◌∙◌, position, take_rest}
use Rattle.rga_lines.proofs.StreamLemmas.{is_newline, position_is, position-past, position-past_none}
use Rattle.rga_lines.proofs.splitter.first_newline.Goals as goal

pub returns-in_err-index : goal.returns-in_err-index
returns-in_err-index c =
    rw c.from_residual.ensures (position-past_none c.args.searched c.args.bytes.now c.requires.within c.requires.none (position_is _ _ c.in_err-index.ensures ∙ ap (position is_newline) (take_rest c.args.bytes.now c.args.searched)))

pub returns : goal.returns
returns c = position-past c.args.searched c.args.bytes.now c.in_ok-index.index c.requires.within c.requires.none (position_is _ _ c.in_ok-index.ensures ∙ ap (position is_newline) (take_rest c.args.bytes.now c.args.searched))
