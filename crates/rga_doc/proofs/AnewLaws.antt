-- A text that is listed anew, splice by splice from the front: what stands behind a splice waits for none before it.
use Rattle.rga_doc.proofs.Prelude.{◌≡◌, ℕ, zero, suc, ◌+◌, ◌<◌, ◌≤◌, true, get_or, List, [], ◌∷◌, ◌++◌, take, drop, length, refl, sym, ap, ◌∙◌, arith, append_assoc, append-nil, length-take-le, take-append-drop, take-take}
use Rattle.rga_doc.proofs.Prelude.{take-append-le, drop-append-le, drop_all, drop_more, Splice, spliced, text_after, are_falling, end_of, new_characters}
use Rattle.rga_doc.proofs.SplicedCharacters.{long-spliced}
use Rattle.rga_doc.proofs.FallingLaws.{falls_first, fewer, characters_left, falls_wider}

-- ---- places that fall

-- those that are left fall within the same bound
pub falling_left : (splices : List Splice) (bound i : ℕ) → are_falling bound splices ≡ true → are_falling bound (drop i splices) ≡ true
falling_left [] bound zero h = refl
falling_left [] bound (suc i) h = refl
falling_left (s ∷ splices) bound zero h = h
falling_left (s ∷ splices) bound (suc i) h =
    let first = falls_first s splices bound h in
    falling_left splices bound i (falls_wider splices s.lo bound (omega (arith, first.up, first.within)) first.further)

-- they end within it
pub falling_end : (splices : List Splice) (bound : ℕ) → are_falling bound splices ≡ true → end_of splices ≤ bound
falling_end [] bound h = omega arith
falling_end (s ∷ splices) bound h = (falls_first s splices bound h).within

-- and fall within their own end
pub falling_to_end : (s : Splice) (splices : List Splice) → s.lo ≤ s.hi → are_falling s.lo splices ≡ true → are_falling s.hi (s ∷ splices) ≡ true
falling_to_end s splices up further = grind arith

-- a splice and those left of it, which are the ones that follow
pub record IsNext (splices : List Splice) (bound i next : ℕ) (s : Splice) : Type 0 where
  pub split : drop i splices ≡ s ∷ drop next splices
  pub up : s.lo ≤ s.hi
  pub within : s.hi ≤ bound
  pub further : are_falling s.lo (drop next splices) ≡ true
  pub apart : end_of (drop next splices) ≤ s.lo
  pub count : new_characters (drop i splices) ≡ length s.put + new_characters (drop next splices)
  pub few : new_characters (drop i splices) ≤ new_characters splices

pub is_next : (splices : List Splice) (bound i next : ℕ) (s : Splice) → next ≡ i + 1 → are_falling bound splices ≡ true → i < length splices → s ≡ get_or splices i s → IsNext splices bound i next s
is_next splices bound i next s follows h within is =
    let split : drop i splices ≡ s ∷ drop next splices = drop_more splices i s within ∙ (λ k. sym is k ∷ drop (sym follows k) splices) in
    let first = falls_first s (drop next splices) bound (ap (are_falling bound) (sym split) ∙ falling_left splices bound i h) in
    record {
      split = split;
      up = first.up;
      within = first.within;
      further = first.further;
      apart = falling_end (drop next splices) s.lo first.further;
      count = characters_left splices i s within is ∙ ap (λ n. length s.put + new_characters (drop n splices)) (sym follows);
      few = fewer splices i;
    }

-- ---- what stands behind

-- a splice of the front leaves what stands behind it
spliced_front : {A : Type 0} (front back put : List A) (lo hi : ℕ) → lo ≤ hi → hi ≤ length front → spliced (front ++ back) lo hi put ≡ spliced front lo hi put ++ back
spliced_front front back put lo hi up within = grind (arith, take-append-le, drop-append-le, append_assoc, take, drop)

text_front : (front back : List ℕ) (splices : List Splice) → are_falling (length front) splices ≡ true → text_after (front ++ back) splices ≡ text_after front splices ++ back
text_front front back [] h = refl
text_front front back (s ∷ splices) h =
    let first = falls_first s splices (length front) h in
    let enough : s.lo ≤ length (spliced front s.lo s.hi s.put) = long-spliced front s.put s.lo s.hi (omega (arith, first.up, first.within)) in
    ap (λ xs. text_after xs splices) (spliced_front front back s.put s.lo s.hi first.up first.within)
    ∙ text_front (spliced front s.lo s.hi s.put) back splices (falls_wider splices s.lo (length (spliced front s.lo s.hi s.put)) enough first.further)

-- ---- one splice more

-- a splice that ends a list: what stands up to the end of those left of it, then what is kept between, then what it puts
spliced_last : {A : Type 0} (xs put : List A) (end lo hi : ℕ) → end ≤ lo → lo ≤ hi → hi ≤ length xs → spliced (take hi xs) lo hi put ≡ take end xs ++ (drop end (take lo xs) ++ put)
spliced_last xs put end lo hi apart up within =
    let long : length (take hi xs) ≤ hi = omega (arith, length-take-le hi xs within) in
    (λ k. (take-take lo hi xs up k ++ put) ++ drop_all hi (take hi xs) long k)
    ∙ append-nil (take lo xs ++ put)
    ∙ ap (λ ys. ys ++ put) (sym (take-append-drop end (take lo xs)) ∙ ap (λ ys. ys ++ drop end (take lo xs)) (take-take end lo xs apart))
    ∙ append_assoc (take end xs) (drop end (take lo xs)) put

-- what the splices up to a place make of what stands there, one splice more
pub text_more : (chars made : List ℕ) (s : Splice) (splices : List Splice) (end : ℕ) → made ≡ text_after (take end chars) splices → are_falling end splices ≡ true → end ≤ s.lo → s.lo ≤ s.hi → s.hi ≤ length chars
    → (made ++ drop end (take s.lo chars)) ++ s.put ≡ text_after (take s.hi chars) (s ∷ splices)
text_more chars made s splices end is falling apart up within =
    let kept : List ℕ = drop end (take s.lo chars) in
    let long : length (take end chars) ≡ end = length-take-le end chars (omega (arith, apart, up, within)) in
    append_assoc made kept s.put ∙ ap (λ o. o ++ (kept ++ s.put)) is
    ∙ sym (text_front (take end chars) (kept ++ s.put) splices (ap (λ n. are_falling n splices) long ∙ falling))
    ∙ ap (λ xs. text_after xs splices) (sym (spliced_last chars s.put end s.lo s.hi apart up within))

-- and what is left behind them all
pub text_whole : (chars made : List ℕ) (splices : List Splice) (end : ℕ) → made ≡ text_after (take end chars) splices → are_falling end splices ≡ true → end ≤ length chars → made ++ drop end chars ≡ text_after chars splices
text_whole chars made splices end is falling within =
    ap (λ o. o ++ drop end chars) is
    ∙ sym (text_front (take end chars) (drop end chars) splices (ap (λ n. are_falling n splices) (length-take-le end chars within) ∙ falling))
    ∙ ap (λ xs. text_after xs splices) (take-append-drop end chars)
