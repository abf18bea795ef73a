use Rattle.std.proofs.Common.{List, None, Some, ap, arith, if◌then◌else◌, length, suc, sym, ℕ, ◌-◌, ◌∙◌, ◌≡◌, ◌≤◌}
use Rattle.std.proofs.lemmas.Bool.{le-leb}
use Rattle.mg_plain.specs.Matches.{first_match, last_match, stands_at}
use Rattle.mg_plain.specs.Scans.{IsLeast, greatest_passing}
use Rattle.mg_plain.proofs.MatchLaws.{last_is, stands_within}
use Rattle.mg_plain.proofs.RangeLaws.{least_found, none_found, none_is}
use Rattle.mg_plain.proofs.laws.searches.searches_in_words.Goals as goal

-- a search back from within the text
from_within : (pattern text : List ℕ) (start : ℕ) → start ≤ length text → last_match pattern text start ≡ greatest_passing (stands_at pattern text) (suc start)
from_within pattern text start up = ap (λ b. if b then greatest_passing (stands_at pattern text) (suc start) else None) (le-leb start (length text) up)

pub returns : goal.returns
returns c = record {
  first = λ pattern text start i h. first_is pattern text start i h;
  no_first = λ pattern text start h k lo hi. none_found (stands_at pattern text) start (suc (length text) - start) h k lo (omega (arith, lo, hi));
  last = λ pattern text start i h. (last_is pattern text start i h).1;
  no_last = λ pattern text start up h k hi. none_is (stands_at pattern text) (suc start) (sym (from_within pattern text start up) ∙ h) k (omega (arith, hi));
  within = λ pattern text i up h. stands_within pattern text i up h;
}
  where
    first_is : (pattern text : List ℕ) (start i : ℕ) → first_match pattern text start ≡ Some i → IsLeast (stands_at pattern text) start (suc (length text)) i
    first_is pattern text start i h =
        let found = least_found (stands_at pattern text) start (suc (length text) - start) i h in
        record { from = found.from; below = omega (arith, found.from, found.below); passes = found.passes; least = found.least }
