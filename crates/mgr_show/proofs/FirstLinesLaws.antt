-- The first lines of a log.
use Rattle.std.proofs.Common.{◌≡◌, ℕ, zero, suc, ◌-◌, ◌<◌, ◌≤◌, Bool, true, false, cond, ◌==◌, List, [], ◌∷◌, take, length, refl, ap, subst, ◌∙◌, arith}
use Rattle.rga_lines.specs.Stream.{newline, to_first_line, to_rest, lines_of, rest_of}
use Rattle.mgr_show.specs.Note.{first_lines}
use Rattle.mgr_show.proofs.NoteLaws.{no_lines}

to_first_line-take : (b n : ℕ) (lines : List (List ℕ)) → to_first_line b (take (suc n) lines) ≡ take (suc n) (to_first_line b lines)
to_first_line-take b n [] = refl
to_first_line-take b n (line ∷ lines) = refl

length-to_first_line : (b : ℕ) (lines : List (List ℕ)) → length (to_first_line b lines) ≡ length lines
length-to_first_line b [] = refl
length-to_first_line b (line ∷ lines) = refl

-- a byte of a line that is wanted
first_lines-byte : (n b : ℕ) (bytes : List ℕ) → first_lines (suc n) (b ∷ bytes) ≡ b ∷ first_lines (cond (b == newline) n (suc n)) bytes
first_lines-byte n b bytes = grind arith

pub first_are_lines : (n : ℕ) (bytes : List ℕ) → lines_of (first_lines n bytes) ≡ take n (lines_of bytes)
first_are_lines zero bytes = ap lines_of (no_lines bytes)
first_are_lines (suc n) [] = refl
first_are_lines (suc n) (b ∷ bytes) = grind (arith, first_lines-byte n b bytes, first_are_lines n bytes, first_are_lines (suc n) bytes, to_first_line-take b n (lines_of bytes))

pub first_have_no_rest : (n : ℕ) (bytes : List ℕ) → n ≤ length (lines_of bytes) → rest_of (first_lines n bytes) ≡ []
first_have_no_rest zero bytes some = ap rest_of (no_lines bytes)
first_have_no_rest (suc n) [] some = absurd (omega (arith, some))
first_have_no_rest (suc n) (b ∷ bytes) some = grind (arith, some, first_lines-byte n b bytes, first_have_no_rest n bytes, first_have_no_rest (suc n) bytes, first_are_lines (suc n) bytes, length-to_first_line b (lines_of bytes))

pub all_lines : (n : ℕ) (bytes : List ℕ) → length (lines_of bytes) < n → first_lines n bytes ≡ bytes
all_lines zero bytes fewer = absurd (omega (arith, fewer))
all_lines (suc n) [] fewer = refl
all_lines (suc n) (b ∷ bytes) fewer = grind (arith, fewer, first_lines-byte n b bytes, all_lines n bytes, all_lines (suc n) bytes, length-to_first_line b (lines_of bytes))
