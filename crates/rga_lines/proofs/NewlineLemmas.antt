-- No line that is written has a newline in it.
use Rattle.rga_lines.proofs.Prelude.{◌≡◌, ◌≢◌, ℕ, ◌+◌, ◌<◌, ◌^◌, ◌%◌, ◌&&◌, Bool, true, not, eqb, List, [], ◌∷◌, ◌++◌, inl, inr, codes, decimal, refl, sym, subst, arith, encode_utf8, digit_char, cases_eq, cases_lt}
use Rattle.rga_lines.proofs.Prelude.{and_parts, eqb-false, not-true, All-from_recursion, encode_ascii, decimal_by_steps, Identifier, Op, Insert, Delete, flat_map, AllByRecursion, DeletionRun, Stretch, IsDeletionRun, pair_text, IsWritable}
use Rattle.rga_lines.proofs.Prelude.{IsWritableRun, newline, HasNoNewline}
use Rattle.rga_lines.specs.Spelling.{escaped, line, run_line, deletion_run_line, head_line, end_line}
use Rattle.rga_lines.proofs.SpellingLemmas.{escaped_all, Plain, Plain-encode}
use Rattle.rga_lines.proofs.ReadBack.{InBounds, within, in_bounds}

-- by recursion, for the inductions below
abbrev HasNo : List ℕ → Type 0
HasNo xs = AllByRecursion (λ b. b ≢ newline) xs

HasNo-append : (xs ys : List ℕ) → HasNo xs → HasNo ys → HasNo (xs ++ ys)
HasNo-append [] ys h k = k
HasNo-append (x ∷ xs) ys h k = (h.0, HasNo-append xs ys h.1 k)

abbrev none : List ℕ → Bool
none [] = true
none (x ∷ xs) = not (eqb x newline) && none xs

literal : (xs : List ℕ) → none xs ≡ true → HasNo xs
literal [] e = tt
literal (x ∷ xs) e = let p = and_parts (not (eqb x newline)) (none xs) e in (eqb-false _ _ (not-true _ p.0), literal xs p.1)

HasNo-Plain : (xs : List ℕ) → Plain xs → HasNo xs
HasNo-Plain [] h = tt
HasNo-Plain (x ∷ xs) h = (λ e. omega arith, HasNo-Plain xs h.1)

HasNo-decimal : (n : ℕ) → n < 2 ^ 64 → HasNo (decimal n)
HasNo-decimal n h =
    decimal_by_steps (λ _ ds. HasNo ds) (λ k lt. (λ e. omega arith, tt)) (λ k ds le done. HasNo-append ds ((48 + k % 10) ∷ []) done (λ e. omega arith, tt)) n h

digit : (d : ℕ) → digit_char d ≡ newline → ⊥
digit d h = grind arith

HasNo-encode : (c : ℕ) → (c ≡ newline → ⊥) → HasNo (encode_utf8 c)
HasNo-encode c ne = elim (cases_lt c 128) [ inl lt ↦ subst HasNo (sym (encode_ascii c lt)) (ne, tt) | inr le ↦ HasNo-Plain (encode_utf8 c) (Plain-encode c le) ]

HasNo-escaped : (c : ℕ) → HasNo (escaped c)
unfolding escaped
HasNo-escaped c = grind (arith, cases_eq, escaped_all, HasNo-append, digit_char, digit, HasNo-encode)

record Clear (xs : List ℕ) : Type 0 where
  all : HasNo xs

infixr 5 ◌then◌
◌then◌ : {xs ys : List ℕ} → Clear xs → Clear ys → Clear (xs ++ ys)
p then q = record { all = HasNo-append _ _ p.all q.all }

clear : (xs : List ℕ) → none xs ≡ true → Clear xs
clear xs e = record { all = literal xs e }

clear_decimal : (n : ℕ) → n < 2 ^ 64 → Clear (decimal n)
clear_decimal n h = record { all = HasNo-decimal n h }

clear_pair : (s : Identifier) → InBounds s → Clear (pair_text s)
clear_pair s h = clear (codes "[") refl then (clear_decimal s.counter (omega (arith, h.counter)) then (clear (codes ",") refl then (clear_decimal s.replica (omega (arith, h.replica)) then clear (codes "]") refl)))

clear_line : (op : Op) → IsWritable op → Clear (line op)
unfolding line
clear_line (Insert id parent ch) h =
    let c : Clear (escaped ch) = record { all = HasNo-escaped ch } in
    clear (codes "{\"char\":\"") refl then (c then (clear (codes "\",\"id\":") refl then (clear_pair id (within id h.0) then (clear (codes ",\"op\":\"ins\",\"parent\":") refl then (clear_pair parent (in_bounds parent h.1) then clear (codes "}") refl)))))
clear_line (Delete id) h = clear (codes "{\"id\":") refl then (clear_pair id (within id h) then clear (codes ",\"op\":\"del\"}") refl)

HasNo-all : (cs : List ℕ) → HasNo (flat_map escaped cs)
HasNo-all [] = tt
HasNo-all (c ∷ cs) = HasNo-append (escaped c) (flat_map escaped cs) (HasNo-escaped c) (HasNo-all cs)

clear_run : (r : Stretch) → IsWritableRun r → Clear (run_line r)
unfolding run_line
clear_run r h =
    let text : Clear (flat_map escaped r.chars) = record { all = HasNo-all r.chars } in
    clear (codes "{\"id\":") refl then (clear_pair r.id (within r.id h.id) then (clear (codes ",\"op\":\"run\",\"parent\":") refl then (clear_pair r.parent (in_bounds r.parent h.parent) then (clear (codes ",\"text\":\"") refl then (text then clear (codes "\"}") refl)))))

clear_deletions : (r : DeletionRun) → IsDeletionRun r → Clear (deletion_run_line r)
unfolding deletion_run_line
clear_deletions r h =
    clear (codes "{\"count\":") refl then (clear_decimal r.count (omega (arith, h.few)) then (clear (codes ",\"id\":") refl then (clear_pair r.id (within r.id h.element) then clear (codes ",\"op\":\"dels\"}") refl)))

clear_end : (operations : ℕ) → operations < 2 ^ 64 → Clear (end_line operations)
unfolding end_line
clear_end operations h = clear (codes "{\"count\":") refl then (clear_decimal operations h then clear (codes ",\"op\":\"end\"}") refl)

-- ---- by index, as the definition has it

pub line_has_none : (op : Op) → IsWritable op → HasNoNewline (line op)
line_has_none op h = All-from_recursion (λ b. b ≢ newline) (line op) (clear_line op h).all

pub run_has_none : (r : Stretch) → IsWritableRun r → HasNoNewline (run_line r)
run_has_none r h = All-from_recursion (λ b. b ≢ newline) (run_line r) (clear_run r h).all

pub deletions_have_none : (r : DeletionRun) → IsDeletionRun r → HasNoNewline (deletion_run_line r)
deletions_have_none r h = All-from_recursion (λ b. b ≢ newline) (deletion_run_line r) (clear_deletions r h).all

pub head_has_none : HasNoNewline head_line
unfolding head_line
head_has_none = All-from_recursion (λ b. b ≢ newline) (codes "{\"op\":\"head\",\"version\":2}") (literal (codes "{\"op\":\"head\",\"version\":2}") refl)

pub end_has_none : (operations : ℕ) → operations < 2 ^ 64 → HasNoNewline (end_line operations)
end_has_none operations h = All-from_recursion (λ b. b ≢ newline) (end_line operations) (clear_end operations h).all
