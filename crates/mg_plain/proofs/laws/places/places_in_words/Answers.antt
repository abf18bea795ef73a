use Rattle.std.proofs.Common.{Bool, arith, length, ℕ, ◌+◌, ◌-◌, ◌≤◌}
use Rattle.std.specs.List.{slice_index}
use Rattle.mg_plain.specs.Characters.{is_newline}
use Rattle.mg_plain.specs.LineEnds.{begins_line}
use Rattle.mg_plain.specs.Paragraphs.{begins_paragraph, ends_paragraph}
use Rattle.mg_plain.specs.Scans.{IsGreatestUpTo, IsLeastFrom, greatest_up_to, least_from}
use Rattle.mg_plain.specs.Words.{begins_word, ends_word}
use Rattle.mg_plain.proofs.RangeLaws.{greatest_up_to-is, greatest_up_to-within, least_from-is, least_from-within}
use Rattle.mg_plain.proofs.laws.places.places_in_words.Goals as goal

least_in_words : (p : ℕ → Bool) (n bound : ℕ) → n ≤ bound → IsLeastFrom p n bound (least_from p n bound)
least_in_words p n bound up =
    let range = least_from-within p n bound up in
    let is = least_from-is p n bound up in
    record { from = range.0; up_to = range.1; passes = is.0; least = is.1 }

greatest_in_words : (p : ℕ → Bool) (n : ℕ) → IsGreatestUpTo p n (greatest_up_to p n)
greatest_in_words p n = let is = greatest_up_to-is p n in record { up_to = greatest_up_to-within p n; passes = is.0; greatest = is.1 }

pub returns : goal.returns
returns c = record {
  line_begin = λ text q. greatest_in_words (begins_line text) q;
  line_end = λ text q up. least_in_words (λ k. is_newline (slice_index text k)) q (length text) up;
  word_begin = λ text q. greatest_in_words (begins_word text) (q - 1);
  word_end = λ text q up. least_in_words (ends_word text) (q + 1) (length text) (omega (arith, up));
  paragraph_begin = λ text q. greatest_in_words (begins_paragraph text) q;
  paragraph_end = λ text q up. least_in_words (ends_paragraph text) q (length text) up;
}
