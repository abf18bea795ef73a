use Rattle.rga_exchange.proofs.AgainLaws.{exchange_again, log_again}
use Rattle.rga_exchange.proofs.laws.what_is_taken_again_changes_nothing.Goals as goal

pub returns : goal.returns
returns c = record {
  exchange = λ limit c d bytes more lines later within begins taken. exchange_again limit c d bytes more lines later begins within taken;
  log = λ limit c d bytes more lines later within begins taken. log_again limit c d bytes more lines later begins within taken;
}
