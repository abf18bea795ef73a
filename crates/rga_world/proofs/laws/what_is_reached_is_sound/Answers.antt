use Rattle.rga_ops.proofs.OperationsLaws.{operations_hold}
use Rattle.rga_world.proofs.StoredLaws.{content_storable, few_operations, reached_storable}
use Rattle.rga_world.proofs.laws.what_is_reached_is_sound.Goals as goal

pub returns : goal.returns
returns c = record {
  sound = λ w d r m. (content_storable w (reached_storable w r) d m).sound;
  writable = λ w d r m op n. (content_storable w (reached_storable w r) d m).writable op (operations_hold d op n);
  known = λ w d r m. (content_storable w (reached_storable w r) d m).within;
  number = λ w d r m. few_operations w.limit d (reached_storable w r).limited (content_storable w (reached_storable w r) d m);
  limit = λ w r. (reached_storable w r).limited;
}
