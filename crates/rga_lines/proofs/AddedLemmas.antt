-- A text to which parts were added, one behind another.
use Rattle.rga_lines.proofs.Prelude.{◌≡◌, ℕ, List, ◌∷◌, ◌++◌, codes, decimal, ap, ◌∙◌, append_assoc, Result, Ok, Err, OnOk, is_ok, if◌then◌else◌, Identifier, Insert, Delete, escaped, pair_text}
use Rattle.rga_lines.specs.Spelling.{line}

pub three_parts : (t₀ a p b q c t₁ t₂ t₃ : List ℕ) → t₁ ≡ t₀ ++ (a ++ p) → t₂ ≡ t₁ ++ (b ++ q) → t₃ ≡ t₂ ++ c → t₃ ≡ t₀ ++ (a ++ (p ++ (b ++ (q ++ c))))
three_parts t₀ a p b q c t₁ t₂ t₃ h₁ h₂ h₃ = rw (h₃, h₂, h₁) (simp append_assoc)

pub five_parts : (t₀ a p b q c d e t₁ t₂ t₃ t₄ t₅ : List ℕ) → t₁ ≡ t₀ ++ (a ++ p) → t₂ ≡ t₁ ++ (b ++ q) → t₃ ≡ t₂ ++ c → t₄ ≡ t₃ ++ d → t₅ ≡ t₄ ++ e → t₅ ≡ t₀ ++ (a ++ (p ++ (b ++ (q ++ (c ++ (d ++ e))))))
five_parts t₀ a p b q c d e t₁ t₂ t₃ t₄ t₅ h₁ h₂ h₃ h₄ h₅ = rw (h₅, h₄, h₃, h₂, h₁) (simp append_assoc)

nine_parts : (t₀ t₁ t₂ t₃ t₄ t₅ t₆ t₇ a b c d e f g h i j : List ℕ) → t₁ ≡ t₀ ++ a → t₂ ≡ t₁ ++ b → t₃ ≡ t₂ ++ (c ++ d) → t₄ ≡ t₃ ++ (e ++ f) → t₅ ≡ t₄ ++ (g ++ h) → t₆ ≡ t₅ ++ (e ++ i) → t₇ ≡ t₆ ++ j
    → t₇ ≡ t₀ ++ (a ++ (b ++ (c ++ (d ++ (e ++ (f ++ (g ++ (h ++ (e ++ (i ++ j))))))))))
nine_parts t₀ t₁ t₂ t₃ t₄ t₅ t₆ t₇ a b c d e f g h i j h₁ h₂ h₃ h₄ h₅ h₆ h₇ = rw (h₇, h₆, h₅, h₄, h₃, h₂, h₁) (simp append_assoc)

five_before : (a b c d e rest : List ℕ) → a ++ (b ++ (c ++ (d ++ (e ++ rest)))) ≡ (a ++ (b ++ (c ++ (d ++ e)))) ++ rest
five_before a b c d e rest = simp append_assoc

-- an identifier between brackets, and then the rest
paired : (id : Identifier) (rest : List ℕ) → codes "[" ++ (decimal id.counter ++ (codes "," ++ (decimal id.replica ++ (codes "]" ++ rest)))) ≡ pair_text id ++ rest
paired id rest = five_before (codes "[") (decimal id.counter) (codes ",") (decimal id.replica) (codes "]") rest

-- an insertion's line, put piece by piece
pub insertion_put : (t₀ t₁ t₂ t₃ t₄ t₅ t₆ t₇ named above : List ℕ) (id parent : Identifier) (ch : ℕ) → named ≡ codes "\",\"id\":[" → above ≡ codes "],\"op\":\"ins\",\"parent\":[" → t₁ ≡ t₀ ++ codes "{\"char\":\"" → t₂ ≡ t₁ ++ escaped ch
    → t₃ ≡ t₂ ++ (named ++ decimal id.counter) → t₄ ≡ t₃ ++ 44 ∷ decimal id.replica → t₅ ≡ t₄ ++ (above ++ decimal parent.counter) → t₆ ≡ t₅ ++ 44 ∷ decimal parent.replica → t₇ ≡ t₆ ++ codes "]}" → t₇ ≡ t₀ ++ line (Insert id parent ch)
unfolding line
insertion_put t₀ t₁ t₂ t₃ t₄ t₅ t₆ t₇ named above id parent ch n a h₁ h₂ h₃ h₄ h₅ h₆ h₇ =
    let opened : List ℕ → List ℕ = λ l. t₀ ++ (codes "{\"char\":\"" ++ (escaped ch ++ (codes "\",\"id\":" ++ l))) in
    let over : List ℕ → List ℕ = λ l. codes ",\"op\":\"ins\",\"parent\":" ++ l in
    let behind : List ℕ = codes "[" ++ (decimal parent.counter ++ (codes "," ++ (decimal parent.replica ++ (codes "]" ++ codes "}")))) in
    let whole : t₇ ≡ opened (codes "[" ++ (decimal id.counter ++ (codes "," ++ (decimal id.replica ++ (codes "]" ++ over behind))))) =
    nine_parts t₀ t₁ t₂ t₃ t₄ t₅ t₆ t₇ (codes "{\"char\":\"") (escaped ch) (codes "\",\"id\":[") (decimal id.counter) (codes ",") (decimal id.replica) (codes "],\"op\":\"ins\",\"parent\":[") (decimal parent.counter) (decimal parent.replica) (codes "]}") h₁ h₂
    (h₃ ∙ ap (λ l. t₂ ++ (l ++ decimal id.counter)) n) h₄ (h₅ ∙ ap (λ l. t₄ ++ (l ++ decimal parent.counter)) a) h₆ h₇ in
    whole ∙ ap opened (paired id (over behind)) ∙ ap (λ l. opened (pair_text id ++ over l)) (paired parent (codes "}"))

-- and a deletion's
pub deletion_put : (t₀ t₁ t₂ t₃ named : List ℕ) (id : Identifier) → named ≡ codes "{\"id\":[" → t₁ ≡ t₀ ++ (named ++ decimal id.counter) → t₂ ≡ t₁ ++ 44 ∷ decimal id.replica → t₃ ≡ t₂ ++ codes "],\"op\":\"del\"}" → t₃ ≡ t₀ ++ line (Delete id)
unfolding line
deletion_put t₀ t₁ t₂ t₃ named id n h₁ h₂ h₃ =
    let opened : List ℕ → List ℕ = λ l. t₀ ++ (codes "{\"id\":" ++ l) in
    let over : List ℕ = codes ",\"op\":\"del\"}" in
    let whole : t₃ ≡ opened (codes "[" ++ (decimal id.counter ++ (codes "," ++ (decimal id.replica ++ (codes "]" ++ over))))) =
    three_parts t₀ (codes "{\"id\":[") (decimal id.counter) (codes ",") (decimal id.replica) (codes "],\"op\":\"del\"}") t₁ t₂ t₃ (h₁ ∙ ap (λ l. t₀ ++ (l ++ decimal id.counter)) n) h₂ h₃ in
    whole ∙ ap opened (paired id over)

-- the last part, where what it answers is answered
pub last_part : {A E : Type 0} (r : Result A E) (old piece : List ℕ) {new whole : List ℕ} → new ≡ (if is_ok r then old ++ piece else old) → old ++ piece ≡ whole → OnOk r (new ≡ whole)
last_part (Ok x) old piece added is = added ∙ is
last_part (Err e) old piece added is = tt

pub insertion_parts : (t₀ a e b p c q d : List ℕ) {t₁ t₂ t₃ t₄ : List ℕ} → t₁ ≡ t₀ ++ a → t₂ ≡ t₁ ++ e → t₃ ≡ t₂ ++ (b ++ p) → t₄ ≡ t₃ ++ (c ++ q) → t₄ ++ d ≡ t₀ ++ (a ++ (e ++ (b ++ (p ++ (c ++ (q ++ d))))))
insertion_parts t₀ a e b p c q d h₁ h₂ h₃ h₄ = rw (h₄, h₃, h₂, h₁) (simp append_assoc)
