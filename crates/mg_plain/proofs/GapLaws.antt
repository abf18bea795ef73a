-- The gaps of a paragraph, one after the other.
use Rattle.std.proofs.Common.{Bool, List, None, Option, Some, [], ap, append_assoc, arith, false, filter, if◌then◌else◌, length, option_map, refl, reverse, suc, sym, true, ℕ, ◌++◌, ◌+◌, ◌-◌, ◌<◌, ◌∙◌, ◌∷◌, ◌≡◌, ◌≤◌}
use Rattle.rga_ops.specs.Splice.{Splice}
use Rattle.mg_plain.specs.Splices.{splice}
use Rattle.mg_plain.specs.Gaps.{alters, columns, filling, gaps, joint}
use Rattle.mg_plain.specs.Paragraphs.{is_nonblank, next_word, word_at}
use Rattle.mg_plain.specs.Scans.{least}
use Rattle.mg_plain.specs.Spans.{Span, span_chain}
use Rattle.mg_plain.proofs.RangeLaws.{chain_more}

filter-cons : {X : Type 0} (p : X → Bool) (x : X) (xs : List X) → filter p (x ∷ xs) ≡ filter p (x ∷ []) ++ filter p xs
filter-cons p x xs = elim (p x) as (λ b. (if b then x ∷ filter p xs else filter p xs) ≡ (if b then x ∷ [] else []) ++ filter p xs) [ true ↦ refl | false ↦ refl ]

-- what is still to come, from a place on
abbrev pub to_come : ℕ → List ℕ → ℕ → Option ℕ → ℕ → ℕ → List Splice
to_come column text hi used left at = filter (alters text) (gaps column used at hi (span_chain (next_word text hi) left at))

-- what has been made of the gaps up to a place
pub record Filling (column : ℕ) (text : List ℕ) (lo hi : ℕ) (splices : List Splice) (used : Option ℕ) (at : ℕ) : Type 0 where
  pub left : ℕ
  pub all : splices ++ to_come column text hi used left at ≡ to_come column text hi None (length text) lo
  pub enough : length text ≤ left + at
  pub order : at ≤ hi

pub filling_start : (column : ℕ) (text : List ℕ) (lo hi : ℕ) → lo ≤ hi → Filling column text lo hi [] None lo
filling_start column text lo hi order = record { left = length text; all = refl; enough = omega arith; order = order }

pub filling_on : (column : ℕ) (text : List ℕ) (lo hi : ℕ) (splices more : List Splice) (used : Option ℕ) (at b e : ℕ)
    → hi ≤ length text → Filling column text lo hi splices used at → least (is_nonblank text) at (hi - at) ≡ Some b → at ≤ b → (word_at text hi b).hi ≡ e → b < e → e ≤ hi
    → more ≡ splices ++ filter (alters text) (splice at b (joint column used (word_at text hi b)) ∷ [])
    → Filling column text lo hi more (Some (columns column used (word_at text hi b))) e
filling_on column text lo hi splices more used at b e within so_far found behind end some order made =
    let w : Span = word_at text hi b in
    let next : next_word text hi at ≡ Some w = ap (option_map (word_at text hi)) found in
    let less : so_far.left ≡ suc (so_far.left - 1) = omega (arith, so_far.enough, behind, some, order, within) in
    let rest : span_chain (next_word text hi) so_far.left at ≡ w ∷ span_chain (next_word text hi) (so_far.left - 1) w.hi =
    ap (λ k. span_chain (next_word text hi) k at) less ∙ chain_more (next_word text hi) (so_far.left - 1) at w next in
    let gap : Splice = splice at b (joint column used w) in
    let after : List Splice = gaps column (Some (columns column used w)) w.hi hi (span_chain (next_word text hi) (so_far.left - 1) w.hi) in
    let split : to_come column text hi used so_far.left at ≡ filter (alters text) (gap ∷ []) ++ filter (alters text) after =
    ap (λ ws. filter (alters text) (gaps column used at hi ws)) rest ∙ filter-cons (alters text) gap after in
    let there : filter (alters text) after ≡ to_come column text hi (Some (columns column used w)) (so_far.left - 1) e =
    ap (λ k. to_come column text hi (Some (columns column used w)) (so_far.left - 1) k) end in
    record {
      left = so_far.left - 1;
      all =
          ap (λ ys. more ++ ys) (sym there) ∙ ap (λ ys. ys ++ filter (alters text) after) made
          ∙ append_assoc (splices) (filter (alters text) (gap ∷ [])) (filter (alters text) after)
          ∙ ap (λ ys. splices ++ ys) (sym split) ∙ so_far.all;
      enough = omega (arith, so_far.enough, behind, some, less);
      order = order;
    }

pub filling_done : (column : ℕ) (text : List ℕ) (lo hi : ℕ) (splices more : List Splice) (used : Option ℕ) (at : ℕ) → Filling column text lo hi splices used at → least (is_nonblank text) at (hi - at) ≡ None → more ≡ splices ++ filter (alters text) (splice at hi [] ∷ []) → (reverse more) ≡ filling column text (record { lo = lo; hi = hi })
filling_done column text lo hi splices more used at so_far found made = grind arith
