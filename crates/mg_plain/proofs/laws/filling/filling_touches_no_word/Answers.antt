use Rattle.mg_plain.specs.LineEnds.{line_begin}
use Rattle.mg_plain.specs.Paragraphs.{has_nonblank}
use Rattle.mg_plain.proofs.BlankLaws.{filled_of_blanks}
use Rattle.mg_plain.proofs.laws.filling.filling_touches_no_word.Goals as goal

pub returns : goal.returns
returns c = λ column s seen. filled_of_blanks column s.text s.point seen.point (has_nonblank s.text (line_begin s.text s.point))
