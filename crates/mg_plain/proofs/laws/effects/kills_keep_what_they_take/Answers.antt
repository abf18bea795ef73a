use Rattle.std.proofs.Common.{max, ◌+◌}
use Rattle.mg_plain.specs.LineEnds.{line_end}
use Rattle.mg_plain.specs.Words.{word_end}
use Rattle.mg_plain.proofs.EffectLaws.{kill_region-takes, kill_up_to-takes}
use Rattle.mg_plain.proofs.laws.effects.kills_keep_what_they_take.Goals as goal

pub returns : goal.returns
returns c = record {
  line = λ s e h. kill_up_to-takes s (max (line_end s.text s.point) (s.point + 1)) e h;
  word = λ s e h. kill_up_to-takes s (word_end s.text s.point) e h;
  region = λ s e h. kill_region-takes s e h;
}
