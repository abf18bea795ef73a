-- Splices that fall, those that are left of one, and how many characters they put.
use Rattle.rga_doc.proofs.Prelude.{◌≡◌, ℕ, zero, suc, ◌+◌, ◌<◌, ◌≤◌, nat_le, true, get_or, List, [], ◌∷◌, drop, length, refl, sym, ap, ◌∙◌, arith, nat_tests, at_drop_more, Splice, are_falling, new_characters}

-- the first of the splices keeps within the bound, and the others before it
pub record Falls (s : Splice) (splices : List Splice) (bound : ℕ) : Type 0 where
  pub up : s.lo ≤ s.hi
  pub within : s.hi ≤ bound
  pub further : are_falling s.lo splices ≡ true

pub falls_first : (s : Splice) (splices : List Splice) (bound : ℕ) → are_falling bound (s ∷ splices) ≡ true → Falls s splices bound
falls_first s splices bound h = grind arith

-- splices that fall within a bound fall within each greater one
pub falls_wider : (splices : List Splice) (a b : ℕ) → a ≤ b → are_falling a splices ≡ true → are_falling b splices ≡ true
falls_wider [] a b up h = refl
falls_wider (s ∷ splices) a b up h = grind (arith, falls_first, nat_le, true, nat_tests)

-- those that are left have no more characters than all
pub fewer : (splices : List Splice) (i : ℕ) → new_characters (drop i splices) ≤ new_characters splices
fewer [] zero = omega arith
fewer [] (suc i) = omega arith
fewer (s ∷ splices) zero = omega arith
fewer (s ∷ splices) (suc i) = let rest : new_characters (drop i splices) ≤ new_characters splices = fewer splices i in omega (arith, rest)

-- the next splice has its characters, and those behind it the others
pub characters_left : (splices : List Splice) (i : ℕ) (s : Splice) → i < length splices → s ≡ get_or splices i s → new_characters (drop i splices) ≡ length s.put + new_characters (drop (i + 1) splices)
characters_left splices i s within is =
    at_drop_more new_characters splices i s within ∙ ap (λ (x : Splice). length x.put + new_characters (drop (i + 1) splices)) (sym is)
