use Rattle.rga_ops.proofs.ContentLaws.{within_itself, within_chain, within_both, within_join, within_join_second, join_least, join_assoc, join_same, join_swap}
use Rattle.rga_ops.proofs.laws.content.join_is_the_least_upper_bound.Goals as goal

pub returns : goal.returns
returns c = record {
  within_itself = within_itself;
  within_chain = within_chain;
  within_both = within_both;
  first = within_join;
  second = within_join_second;
  least = join_least;
  associative = join_assoc;
  idempotent = join_same;
  commutative = join_swap;
}
