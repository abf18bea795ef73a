use Rattle.std.proofs.Common.{arith}
use Rattle.rga_ops.specs.Content.{nothing}
use Rattle.rga_ops.proofs.TakenLaws.{taken_from_nothing, taken_list_agrees, taken_list_is}
use Rattle.rga_ops.proofs.KnownLaws.{taken_list_within, takeable_from_nothing, known_nothing}
use Rattle.rga_ops.proofs.laws.taking.taking_one_by_one_leads_to_the_content.Goals as goal

pub returns : goal.returns
returns c = record {
  content = taken_from_nothing;
  well_formed = λ limit ops c h. (taken_list_is limit nothing ops c h).well_formed;
  agreed = λ limit ops. taken_list_agrees limit nothing ops;
  within = λ limit ops c h. taken_list_within limit nothing ops c (omega (arith, known_nothing)) h;
  whole = takeable_from_nothing;
}
