use Rattle.rga_world.proofs.RunLaws.{reverted_order, reverted_place}
use Rattle.rga_world.proofs.laws.a_revert_puts_elements_back_at_its_site.Goals as goal

pub returns : goal.returns
returns c = record {
  order = λ w v number gone back s t. reverted_order w v number gone.items back.items s t;
  place = λ w v number i gone back s t b. reverted_place w v number gone.items back.items s t i b;
}
