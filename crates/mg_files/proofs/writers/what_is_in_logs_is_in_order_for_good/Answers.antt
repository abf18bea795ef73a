use Rattle.rga_ops.proofs.GrowLaws.{complete_stays, order_within}
use Rattle.mg_files.specs.Writers.{all_logged}
use Rattle.mg_files.proofs.WriterSteps.{all_logged_grows}
use Rattle.mg_files.proofs.writers.what_is_in_logs_is_in_order_for_good.Goals as goal

pub returns : goal.returns
returns c = record {
  within = all_logged_grows;
  complete = λ ws vs acts id r lead. complete_stays (all_logged ws) (all_logged vs) (all_logged_grows ws vs acts r lead) id;
  order = λ ws vs acts r lead. order_within (all_logged ws) (all_logged vs) (all_logged_grows ws vs acts r lead);
}
