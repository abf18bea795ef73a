-- Filling makes the layout.
use Rattle.std.proofs.Common.{List, None, Some, [], ap, arith, drop, false, if◌then◌else◌, inl, inr, length, length-take-le, map, refl, replicate, subst, suc, sum, sym, take, true, zero, ℕ, ◌++◌, ◌+◌, ◌-◌, ◌<◌, ◌∙◌, ◌∷◌, ◌≡◌, ◌≤◌, ◌⊎◌}
use Rattle.std.specs.Prelude.{nat_le}
use Rattle.std.proofs.lemmas.Bool.{leb-false, leb-true}
use Rattle.std.proofs.lemmas.List.Sums.{sum_by-cons}
use Rattle.std.proofs.lemmas.Bool.Decides.{nat_tests}
use Rattle.mg_plain.specs.Characters.{newline_character, space}
use Rattle.mg_plain.specs.Splices.{splice}
use Rattle.mg_plain.specs.Gaps.{gaps}
use Rattle.mg_plain.specs.Layout.{IsLayout, IsLine, layout_joints, line_joints, line_width, put_of, word_length}
use Rattle.mg_plain.specs.Spans.{Span}

abbrev pub lengths : List Span → List ℕ
lengths ws = map word_length ws

-- `r` more words belong to a line that has so many columns already
pub record IsRest (column used : ℕ) (ls : List ℕ) (r : ℕ) : Type 0 where
  pub within : r ≤ length ls
  pub fits : (r ≡ 0) ⊎ (used + r + sum (take r ls) ≤ column)
  pub full : r < length ls → column < used + (r + 1) + sum (take (suc r) ls)

first_fits : (column used : ℕ) (w : Span) (at end : ℕ) (ws : List Span) → used + 1 + word_length w ≤ column → gaps column (Some used) at end (w ∷ ws) ≡ splice at w.lo (space ∷ []) ∷ gaps column (Some (used + 1 + word_length w)) w.hi end ws
first_fits column used w at end ws h = grind (arith, nat_tests)

first_does_not : (column used : ℕ) (w : Span) (at end : ℕ) (ws : List Span) → column < used + 1 + word_length w → gaps column (Some used) at end (w ∷ ws) ≡ splice at w.lo (newline_character ∷ []) ∷ gaps column (Some (word_length w)) w.hi end ws
first_does_not column used w at end ws h = grind (arith, nat_tests)

take_sum : (r l : ℕ) (ls : List ℕ) → sum (take (suc r) (l ∷ ls)) ≡ l + sum (take r ls)
take_sum r l ls = sum_by-cons (λ x. x) l (take r ls)

take_width : (r l : ℕ) (ls : List ℕ) → r ≤ length ls → line_width (take (suc r) (l ∷ ls)) ≡ l + sum (take r ls) + r
take_width r l ls within = grind (arith, length-take-le, take_sum)

-- a line's words behind its first one
rest_of : (column l : ℕ) (ls : List ℕ) (r : ℕ) → IsLine column (l ∷ ls) (suc r) → IsRest column l ls r
rest_of column l ls r line =
    let inside : r ≤ length ls = omega (arith, line.within) in
    record {
      within = inside;
      fits = fitted line.fits;
      full = λ more.
          let e : suc r + 1 ≡ suc (suc r) = omega arith in
          let over : column < line_width (take (suc (suc r)) (l ∷ ls)) = subst (λ k. column < line_width (take k (l ∷ ls))) e (line.full (omega (arith, more))) in
          let wide = take_width (suc r) l ls (omega (arith, more)) in
          let there : column < l + sum (take (suc r) ls) + suc r = subst (λ k. column < k) wide over in
          omega (arith, there);
    }
  where
    fitted : (suc r ≡ 1) ⊎ (line_width (take (suc r) (l ∷ ls)) ≤ column) → (r ≡ 0) ⊎ (l + r + sum (take r ls) ≤ column)
    fitted (inl one) = inl (omega (arith, one))
    fitted (inr wide) =
        let inside : r ≤ length ls = omega (arith, line.within) in
        let there : l + sum (take r ls) + r ≤ column = subst (λ k. k ≤ column) (take_width r l ls inside) wide in
        inr (omega (arith, there))

no_words : (column : ℕ) (ns : List ℕ) → IsLayout column [] ns → ns ≡ []
no_words column [] h = refl
no_words column (n ∷ ns) h = absurd (omega (arith, h.0.some, h.0.within))

some_words : (column l : ℕ) (ls : List ℕ) → IsLayout column (l ∷ ls) [] → ⊥
some_words column l ls h = cc

-- one of them is laid down
on_by_one : (column used l r : ℕ) (ls : List ℕ) → IsRest column used (l ∷ ls) (suc r) → (used + 1 + l ≤ column) × IsRest column (used + 1 + l) ls r
on_by_one column used l r ls rest =
    let total : used + suc r + (l + sum (take r ls)) ≤ column = wide rest.fits in (
      omega (arith, total),
      record {
        within = omega (arith, rest.within);
        fits = inr (omega (arith, total));
        full = λ more.
            let over : column < used + (suc r + 1) + (l + sum (take (suc r) ls)) = subst (λ k. column < used + (suc r + 1) + k) (take_sum (suc r) l ls) (rest.full (omega (arith, more))) in
            omega (arith, over);
      },
    )
  where
    wide : (suc r ≡ 0) ⊎ (used + suc r + sum (take (suc r) (l ∷ ls)) ≤ column) → used + suc r + (l + sum (take r ls)) ≤ column
    wide (inl none) = absurd (omega (arith, none))
    wide (inr h) = subst (λ k. used + suc r + k ≤ column) (take_sum r l ls) h

pub rest_joints : (column used r : ℕ) (at end : ℕ) (ws : List Span) (ns : List ℕ) → IsRest column used (lengths ws) r → IsLayout column (drop r (lengths ws)) ns → map put_of (gaps column (Some used) at end ws) ≡ replicate r (space ∷ []) ++ line_joints ns ++ [] ∷ []
rest_joints column used zero at end [] ns rest lay = ap (λ ms. line_joints ms ++ [] ∷ []) (sym (no_words column ns lay))
rest_joints column used (suc r) at end [] ns rest lay = absurd (omega (arith, rest.within))
rest_joints column used (suc r) at end (w ∷ ws) ns rest lay =
    let on = on_by_one column used (word_length w) r (lengths ws) rest in
    ap (map put_of) (first_fits column used w at end ws on.0) ∙ ap (λ js. (space ∷ []) ∷ js) (rest_joints column (used + 1 + word_length w) r w.hi end ws ns on.1 lay)
rest_joints column used zero at end (w ∷ ws) [] rest lay = absurd (some_words column (word_length w) (lengths ws) lay)
rest_joints column used zero at end (w ∷ ws) (zero ∷ ns) rest lay = absurd (omega (arith, lay.0.some))
rest_joints column used zero at end (w ∷ ws) (suc r ∷ ns) rest lay = grind (arith, take_sum, first_does_not, rest_of, rest_joints column (word_length w) r w.hi end ws ns (rest_of column (word_length w) (lengths ws) r lay.0) lay.1)

pub all_joints : (column lo hi : ℕ) (ws : List Span) (ns : List ℕ) → (ws ≡ [] → ⊥) → IsLayout column (lengths ws) ns → map put_of (gaps column None lo hi ws) ≡ layout_joints ns ++ [] ∷ []
all_joints column lo hi [] ns some lay = absurd (some refl)
all_joints column lo hi (w ∷ ws) [] some lay = absurd (some_words column (word_length w) (lengths ws) lay)
all_joints column lo hi (w ∷ ws) (zero ∷ ns) some lay = absurd (omega (arith, lay.0.some))
all_joints column lo hi (w ∷ ws) (suc r ∷ ns) some lay =
    let less : suc r - 1 ≡ r = omega arith in
    ap (λ js. [] ∷ js) (rest_joints column (word_length w) r w.hi hi ws ns (rest_of column (word_length w) (lengths ws) r lay.0) lay.1)
    ∙ ap (λ k. [] ∷ replicate k (space ∷ []) ++ line_joints ns ++ [] ∷ []) (sym less)

-- ---- there is a layout

-- how many words still go into a line that has so many columns, and how many go into each line behind it
record Laid : Type 0 where
  here : ℕ
  behind : List ℕ

abbrev laid : ℕ → ℕ → List ℕ → Laid
laid column used [] = record { here = 0; behind = [] }
laid column used (l ∷ ls) =
    if nat_le (used + 1 + l) column
    then record { here = suc (laid column (used + 1 + l) ls).here; behind = (laid column (used + 1 + l) ls).behind }
    else record { here = 0; behind = suc (laid column l ls).here ∷ (laid column l ls).behind }

record IsLaid (column used : ℕ) (ls : List ℕ) (o : Laid) : Type 0 where
  rest : IsRest column used ls o.here
  lay : IsLayout column (drop o.here ls) o.behind

one_more_fits : (column used l : ℕ) (ls : List ℕ) (r : ℕ) → used + 1 + l ≤ column → IsRest column (used + 1 + l) ls r → IsRest column used (l ∷ ls) (suc r)
one_more_fits column used l ls r here rest = record {
  within = omega (arith, rest.within);
  fits = inr (wide rest.fits);
  full = λ more.
      let over : column < used + 1 + l + (r + 1) + sum (take (suc r) ls) = rest.full (omega (arith, more)) in
      let e : sum (take (suc (suc r)) (l ∷ ls)) ≡ l + sum (take (suc r) ls) = take_sum (suc r) l ls in
      omega (arith, over, e);
}
  where
    wide : (r ≡ 0) ⊎ (used + 1 + l + r + sum (take r ls) ≤ column) → used + suc r + sum (take (suc r) (l ∷ ls)) ≤ column
    wide (inl none) =
        let e : sum (take (suc r) (l ∷ ls)) ≡ l + sum (take r ls) = take_sum r l ls in
        let z : sum (take r ls) ≡ 0 = ap (λ k. sum (take k ls)) none in
        omega (arith, none, e, z, here)
    wide (inr h) =
        let e : sum (take (suc r) (l ∷ ls)) ≡ l + sum (take r ls) = take_sum r l ls in
        omega (arith, h, e)

line_of : (column l : ℕ) (ls : List ℕ) (r : ℕ) → IsRest column l ls r → IsLine column (l ∷ ls) (suc r)
line_of column l ls r rest = record {
  some = omega arith;
  within = omega (arith, rest.within);
  fits = fitted rest.fits;
  full = λ more.
      let over : column < l + (r + 1) + sum (take (suc r) ls) = rest.full (omega (arith, more)) in
      let wide = take_width (suc r) l ls (omega (arith, more)) in
      let e : suc (suc r) ≡ suc r + 1 = omega arith in
      let there : column < line_width (take (suc (suc r)) (l ∷ ls)) = subst (λ k. column < k) (sym wide) (omega (arith, over)) in
      subst (λ k. column < line_width (take k (l ∷ ls))) e there;
}
  where
    fitted : (r ≡ 0) ⊎ (l + r + sum (take r ls) ≤ column) → (suc r ≡ 1) ⊎ (line_width (take (suc r) (l ∷ ls)) ≤ column)
    fitted (inl none) = inl (omega (arith, none))
    fitted (inr h) = inr (subst (λ k. k ≤ column) (sym (take_width r l ls rest.within)) (omega (arith, h)))

is_laid : (column used : ℕ) (ls : List ℕ) → IsLaid column used ls (laid column used ls)
is_laid column used [] = record {
  rest = record { within = omega arith; fits = inl refl; full = λ more. absurd (omega (arith, more)) };
  lay = refl;
}
is_laid column used (l ∷ ls) =
    let far : Laid = laid column (used + 1 + l) ls in
    let new : Laid = laid column l ls in
    let far_is = is_laid column (used + 1 + l) ls in
    let new_is = is_laid column l ls in
    elim (nat_le (used + 1 + l) column) as (λ b. nat_le (used + 1 + l) column ≡ b → IsLaid column used (l ∷ ls) (if b then record { here = suc far.here; behind = far.behind } else record { here = 0; behind = suc new.here ∷ new.behind })) [
      | true ↦ λ h. record { rest = one_more_fits column used l ls far.here (leb-true (used + 1 + l) column h) far_is.rest; lay = far_is.lay }
      | false ↦ λ h.
          let over : column < used + 1 + l = leb-false (used + 1 + l) column h in
          record {
            rest = record {
              within = omega arith;
              fits = inl refl;
              full = λ more. let e : sum (take 1 (l ∷ ls)) ≡ l + 0 = take_sum 0 l ls in omega (arith, over, e);
            };
            lay = (line_of column l ls new.here new_is.rest, new_is.lay);
          }
    ] refl

pub some_layout : (column : ℕ) (ls : List ℕ) → (ns : List ℕ) × IsLayout column ls ns
some_layout column [] = ([], refl)
some_layout column (l ∷ ls) =
    let o : Laid = laid column l ls in
    let is = is_laid column l ls in
    (suc o.here ∷ o.behind, (line_of column l ls o.here is.rest, is.lay))
