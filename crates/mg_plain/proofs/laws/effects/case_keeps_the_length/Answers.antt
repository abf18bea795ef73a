use Rattle.mg_plain.proofs.EffectLaws.{recasing-keeps}
use Rattle.mg_plain.proofs.laws.effects.case_keeps_the_length.Goals as goal

pub returns : goal.returns
returns c = λ casing s e seen h. recasing-keeps casing s e seen h
