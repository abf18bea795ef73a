-- Characters that splice case, from the last one to the first; blanks at the begin of a line.
use Rattle.std.proofs.Common.{Bool, List, Ok, [], append-nil, append_assoc, arith, drop, false, get_or, length, suc, true, ℕ, ◌++◌, ◌+◌, ◌-◌, ◌<◌, ◌∷◌, ◌≡◌}
use Rattle.std.specs.Prelude.{Result}
use Rattle.std.specs.List.{slice_index, take_while}
use Rattle.std.proofs.lemmas.List.{drop_more}
use Rattle.std.proofs.lemmas.List.Sums.{take_while-cons}
use Rattle.std.proofs.lemmas.Bool.Decides.{nat_tests}
use Rattle.rga_ops.specs.Splice.{Splice}
use Rattle.mg_plain.specs.declared.outcome.Notice.{Notice}
use Rattle.mg_plain.specs.Answer.{IsEffectAnswer}
use Rattle.mg_plain.specs.Cases.{character_splices}
use Rattle.mg_plain.specs.Effect.{Effect}
use Rattle.mg_plain.specs.Splices.{splice}

-- the last of these characters stays
pub same_case : (new : ℕ → ℕ → ℕ) (text : List ℕ) (lo i c d : ℕ) → lo < i → c ≡ slice_index text (i - 1) → d ≡ new (i - 1) c → d ≡ c → character_splices new text lo (i - lo) ≡ character_splices new text lo (i - 1 - lo)
same_case new text lo i c d some at is same = let e : i - lo ≡ suc (i - 1 - lo) = omega (arith, some) in grind (arith, nat_tests, e)

-- the last of these characters splices
pub other_case : (new : ℕ → ℕ → ℕ) (text : List ℕ) (lo i c d : ℕ) → lo < i → c ≡ slice_index text (i - 1) → d ≡ new (i - 1) c → (d ≡ c → ⊥) → character_splices new text lo (i - lo) ≡ splice (i - 1) (i - 1 + 1) (d ∷ []) ∷ character_splices new text lo (i - 1 - lo)
other_case new text lo i c d some at is other = let e : i - lo ≡ suc (i - 1 - lo) = omega (arith, some) in grind (arith, nat_tests, e)

-- a splice more
pub recased_on : (items more : List Splice) (s ch : Splice) (before after all : List Splice) → more ≡ items ++ s ∷ [] → s ≡ ch → before ≡ ch ∷ after → items ++ before ≡ all → more ++ after ≡ all
recased_on items more s ch before after all pushed is split so_far = grind (arith, append_assoc)

-- one more at the begin of a line
pub taken_on : (p : ℕ → Bool) (line put more all : List ℕ) (k c : ℕ) → k < length line → c ≡ get_or line k c → p c ≡ true → more ≡ put ++ c ∷ [] → put ++ take_while p (drop k line) ≡ all → more ++ take_while p (drop (k + 1) line) ≡ all
taken_on p line put more all k c inside is passes pushed so_far =
    grind (arith, drop_more line k c, take_while-cons p c (drop (k + 1) line), append_assoc put (c ∷ []) (take_while p (drop (k + 1) line)))

-- an effect is the one that is due
pub is_due : (e due : Effect) → IsEffectAnswer (Ok e) (Ok due) → e ≡ due
is_due e due answer = let same : ◌≡◌ {A = Result Effect Notice} (Ok e) (Ok due) = answer.exact (λ h. cc) in cc

-- no more at the begin of a line
pub taken_off : (p : ℕ → Bool) (line put all : List ℕ) (k c : ℕ) → k < length line → c ≡ get_or line k c → p c ≡ false → put ++ take_while p (drop k line) ≡ all → put ≡ all
taken_off p line put all k c inside is fails so_far = grind (arith, drop_more line k c, take_while-cons p c (drop (k + 1) line), append-nil put)
