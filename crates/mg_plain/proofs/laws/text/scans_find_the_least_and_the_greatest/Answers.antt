use Rattle.mg_plain.proofs.RangeLaws.{greatest_is, least_found, none_found, none_is}
use Rattle.mg_plain.proofs.laws.text.scans_find_the_least_and_the_greatest.Goals as goal

pub returns : goal.returns
returns c = record {
  least = λ p n count q h. least_found p n count q h;
  no_least = λ p n count h k lo hi. none_found p n count h k lo hi;
  greatest = λ p bound q h. greatest_is p bound q h;
  no_greatest = λ p bound h k hi. none_is p bound h k hi;
}
