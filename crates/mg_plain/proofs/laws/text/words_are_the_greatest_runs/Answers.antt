use Rattle.mg_plain.proofs.WordLaws.{run_is_word, word_is_run, words-rising}
use Rattle.mg_plain.proofs.laws.text.words_are_the_greatest_runs.Goals as goal

pub returns : goal.returns
returns c = record {
  order = λ text lo hi up. words-rising text lo hi up;
  runs = λ text lo hi w up within. (λ at. word_is_run text lo hi w up at, λ is. run_is_word text lo hi w within is);
}
