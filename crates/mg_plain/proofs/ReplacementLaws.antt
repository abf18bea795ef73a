-- Replacements, one after the other.
use Rattle.std.proofs.Common.{rules, List, None, Some, [], ap, append-nil, append_assoc, arith, false, length, map, nat_eq, option_map, refl, reverse, suc, sym, true≢false, ℕ, ◌++◌, ◌+◌, ◌-◌, ◌<◌, ◌∙◌, ◌∷◌, ◌≡◌, ◌≤◌}
use Rattle.std.proofs.lemmas.List.{map_push}
use Rattle.rga_ops.specs.Splice.{Splice}
use Rattle.mg_plain.specs.Splices.{splice}
use Rattle.mg_plain.specs.Matches.{first_match, match_at, match_count, matches, next_match}
use Rattle.mg_plain.specs.Replacement.{all_matches, current_match, last_end, replacement, replacements}
use Rattle.mg_plain.specs.Spans.{Span, span_chain}
use Rattle.mg_plain.proofs.RangeLaws.{chain_ends, chain_more}

last_end-push : (q : ℕ) (spans : List Span) (s : Span) → last_end q (spans ++ s ∷ []) ≡ s.hi
last_end-push q [] s = refl
last_end-push q (m ∷ spans) s = last_end-push m.hi spans s

-- what has been replaced, up to an end, and what is still to come
pub record Replacing (pattern put text : List ℕ) (point : ℕ) (splices : List Splice) (end : ℕ) : Type 0 where
  pub done : List Span
  pub left : ℕ
  pub made : splices ≡ map (replacement put) done
  pub all : done ++ span_chain (next_match pattern text) left end ≡ all_matches pattern text point
  pub ends : last_end point done ≡ end
  pub enough : length text ≤ left + end
  pub within : end ≤ length text

pub replacing_start : (pattern put text : List ℕ) (point : ℕ) (s : Splice) → point ≤ length text → s ≡ splice (point - length pattern) point put → Replacing pattern put text point (s ∷ []) point
replacing_start pattern put text point s within h = record {
  done = current_match pattern point ∷ [];
  left = length text;
  made = ap (λ c. c ∷ []) h;
  all = refl;
  ends = refl;
  enough = omega arith;
  within = within;
}

pub replacing_on : (pattern put text : List ℕ) (point : ℕ) (splices : List Splice) (end i : ℕ) (s : Splice) → Replacing pattern put text point splices end → first_match pattern text end ≡ Some i → end ≤ i → i + length pattern ≤ length text → 0 < length pattern → s ≡ splice i (i + length pattern) put → Replacing pattern put text point (splices ++ s ∷ []) (i + length pattern)
replacing_on pattern put text point splices end i s so_far found behind inside some h =
    let m : Span = match_at pattern i in
    let more : so_far.left ≡ suc (so_far.left - 1) = omega (arith, so_far.enough, behind, inside, some) in
    let next : next_match pattern text end ≡ Some m = ap (option_map (match_at pattern)) found in
    let rest : span_chain (next_match pattern text) so_far.left end ≡ m ∷ span_chain (next_match pattern text) (so_far.left - 1) m.hi =
    ap (λ k. span_chain (next_match pattern text) k end) more ∙ chain_more (next_match pattern text) (so_far.left - 1) end m next in
    record {
      done = so_far.done ++ m ∷ [];
      left = so_far.left - 1;
      made = (λ j. so_far.made j ++ h j ∷ []) ∙ sym (map_push (replacement put) so_far.done m);
      all = append_assoc so_far.done (m ∷ []) (span_chain (next_match pattern text) (so_far.left - 1) m.hi) ∙ ap (λ ys. so_far.done ++ ys) (sym rest) ∙ so_far.all;
      ends = last_end-push point so_far.done m;
      enough = omega (arith, so_far.enough, behind, inside, some, more);
      within = inside;
    }

-- all matches are replaced
pub all_done : (pattern put text : List ℕ) (point : ℕ) (splices : List Splice) (end : ℕ) (so_far : Replacing pattern put text point splices end) → first_match pattern text end ≡ None → so_far.done ≡ all_matches pattern text point
all_done pattern put text point splices end so_far found = grind (arith, append-nil, chain_ends)

pub replacing_done : (pattern put text : List ℕ) (point : ℕ) (splices : List Splice) (end : ℕ) → Replacing pattern put text point splices end → first_match pattern text end ≡ None → ((reverse splices) ≡ replacements put (all_matches pattern text point)) × (end ≡ last_end point (all_matches pattern text point))
replacing_done pattern put text point splices end so_far found = search (rules, all_done)

-- so many matches have been counted, up to an end, and what is still to come
pub record Counting (pattern text : List ℕ) (start count end : ℕ) : Type 0 where
  pub left : ℕ
  pub all : count + length (span_chain (next_match pattern text) left end) ≡ length (matches pattern text start)
  pub enough : length text ≤ left + end
  pub within : end ≤ length text
  pub bound : count ≤ end

pub counting_start : (pattern text : List ℕ) (start : ℕ) → start ≤ length text → Counting pattern text start 0 start
counting_start pattern text start within = record { left = length text; all = omega arith; enough = omega arith; within = within; bound = omega arith }

pub counting_on : (pattern text : List ℕ) (start count end i : ℕ) → Counting pattern text start count end → first_match pattern text end ≡ Some i → end ≤ i → i + length pattern ≤ length text → 0 < length pattern → Counting pattern text start (count + 1) (i + length pattern)
counting_on pattern text start count end i so_far found behind inside some = grind arith

pub counting_done : (pattern text : List ℕ) (start count end : ℕ) → Counting pattern text start count end → first_match pattern text end ≡ None → 0 < length pattern → count ≡ match_count pattern text start
counting_done pattern text start count end so_far found some = grind arith

pub has_some : (pattern : List ℕ) → nat_eq (length pattern) 0 ≡ false → 0 < length pattern
has_some [] h = absurd (true≢false h)
has_some (c ∷ pattern) h = omega arith

-- there are none behind the text
pub none_behind : (pattern text : List ℕ) (start : ℕ) → length text < start → match_count pattern text start ≡ 0
none_behind pattern text start behind = grind arith
