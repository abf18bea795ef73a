use Rattle.std.proofs.Common.{subst}
use Rattle.rga_ops.proofs.AnswerLaws.{ill_formed-iff, known-iff, conflict-iff, full-iff, no_other_refusal, IsAnswered}
use Rattle.rga_ops.proofs.laws.taking.answers_in_words.Goals as goal

pub returns : goal.returns
returns c = record {
  of_the_operation = ill_formed-iff;
  known = known-iff;
  conflict = conflict-iff;
  full = full-iff;
  no_other = λ limit c op e h. (
    λ is. subst IsAnswered is (no_other_refusal limit c op e h),
    λ is. subst IsAnswered is (no_other_refusal limit c op e h),
    λ is. subst IsAnswered is (no_other_refusal limit c op e h),
  );
}
