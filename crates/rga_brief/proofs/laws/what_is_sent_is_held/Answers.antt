use Rattle.rga_brief.proofs.Prelude.{content_of, within_join, missing}
use Rattle.rga_brief.proofs.MissingLaws.{sent_holds, joined_within}
use Rattle.rga_brief.proofs.laws.what_is_sent_is_held.Goals as goal

pub returns : goal.returns
returns c = record { held = sent_holds; within = λ c d s. joined_within d c s; kept = λ c d s. within_join d (content_of (missing c s)) }
