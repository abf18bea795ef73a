use Rattle.rga_ops.specs.Operations.{operations}
use Rattle.rga_exchange.proofs.AppendedLaws.{exchange_lines-cut, exchange_rest, exchange_says, sound_list}
use Rattle.rga_exchange.proofs.laws.what_is_sent_says_the_content.Goals as goal

pub returns : goal.returns
returns c = record {
  lines = λ d. exchange_lines-cut (operations d);
  rest = λ d. exchange_rest (operations d);
  operations = λ d sound. exchange_says (operations d) (sound_list d sound);
}
