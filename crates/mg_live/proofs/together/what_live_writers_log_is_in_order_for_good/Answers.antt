use Rattle.mg_live.proofs.TogetherLaws.{complete_for_good, logs_grow, order_for_good}
use Rattle.mg_live.proofs.together.what_live_writers_log_is_in_order_for_good.Goals as goal

pub returns : goal.returns
returns c = record {
  within = λ xs ys told more acts a lead. logs_grow xs told a ys more acts lead;
  complete = λ xs ys told more acts id a lead. complete_for_good xs told a ys more acts lead id;
  order = λ xs ys told more acts a lead. order_for_good xs told a ys more acts lead;
}
