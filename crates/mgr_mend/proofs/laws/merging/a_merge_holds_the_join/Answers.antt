use Rattle.mgr_mend.proofs.HeldLaws.{join_is_held, text_is_of_all}
use Rattle.mgr_mend.proofs.laws.merging.a_merge_holds_the_join.Goals as goal

pub returns : goal.returns
returns c = record {
  log = λ before made name adopt logs new torn s t m kept after leads. join_is_held before made name adopt logs new torn s t m leads kept after;
  text = λ before made name adopt logs new torn s t m changed leads. text_is_of_all before made name adopt logs new torn s t m leads changed;
}
