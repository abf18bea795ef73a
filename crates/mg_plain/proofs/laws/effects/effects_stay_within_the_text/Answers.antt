use Rattle.mg_plain.proofs.EffectLaws.{effect-within}
use Rattle.mg_plain.proofs.laws.effects.effects_stay_within_the_text.Goals as goal

pub returns : goal.returns
returns c = λ command n column s e seen h. effect-within command n s column e seen h
