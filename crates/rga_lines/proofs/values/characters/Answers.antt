use Rattle.rga_lines.proofs.Prelude.{rules, chars_from_encodes}
use Rattle.rga_lines.proofs.values.characters.Goals as goal

pub returns : goal.returns
returns c = search (rules, chars_from_encodes)
