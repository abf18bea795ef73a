use Rattle.rga_ops.proofs.VisibleLaws.{characters_within}
use Rattle.rga_world.proofs.TogetherLaws.{visible_within}
use Rattle.mg_files.specs.Writers.{own_content, all_written}
use Rattle.mg_files.proofs.WriterSteps.{one_text, within_written}
use Rattle.mg_files.proofs.writers.writers_show_one_text.Goals as goal

pub returns : goal.returns
returns c = record {
  text = one_text;
  visible = λ ws x r m. visible_within (own_content x) (all_written ws) (within_written ws x r m);
  characters = λ ws x r m. characters_within (own_content x) (all_written ws) (within_written ws x r m);
}
