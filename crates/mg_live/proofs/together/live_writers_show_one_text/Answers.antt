use Rattle.mg_live.proofs.TogetherLaws.{live_texts}
use Rattle.mg_live.proofs.together.live_writers_show_one_text.Goals as goal

pub returns : goal.returns
returns c = live_texts
