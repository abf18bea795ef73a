use Rattle.std.proofs.Common.{subst}
use Rattle.rga_ops.proofs.AnswerLaws.{IsAnswered}
use Rattle.rga_ops.proofs.ListAnswerLaws.{list_taken-iff, list_ill_formed-iff, list_conflict-iff, list_full-iff, no_other_list_refusal, list_one_by_one, one_by_one_list}
use Rattle.rga_ops.proofs.EarlyLaws.{early_is_first, no_early_if_taken}
use Rattle.rga_ops.proofs.laws.taking.answers_to_a_list_in_words.Goals as goal

pub returns : goal.returns
returns c = record {
  taken = list_taken-iff;
  ill_formed = list_ill_formed-iff;
  conflict = list_conflict-iff;
  full = list_full-iff;
  no_other = λ limit c ops e h. (
    λ is. subst IsAnswered is (no_other_list_refusal limit c ops e h),
    λ is. subst IsAnswered is (no_other_list_refusal limit c ops e h),
    λ is. subst IsAnswered is (no_other_list_refusal limit c ops e h),
  );
  one_by_one = list_one_by_one;
  whole = one_by_one_list;
  early = early_is_first;
  not_early = λ limit c. no_early_if_taken c limit;
}
