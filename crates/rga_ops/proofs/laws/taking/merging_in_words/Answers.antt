use Rattle.rga_ops.proofs.MergeLaws.{merge_taken-iff, merge_conflict-iff, merge_full-iff, merge_refusal, merge_list-iff}
use Rattle.rga_ops.proofs.laws.taking.merging_in_words.Goals as goal

pub returns : goal.returns
returns c = record {
  taken = merge_taken-iff;
  conflict = merge_conflict-iff;
  full = merge_full-iff;
  no_other = merge_refusal;
  as_a_list = merge_list-iff;
}
