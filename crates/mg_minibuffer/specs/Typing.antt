-- Answers and patterns as they are typed.
use Rattle.std.specs.Prelude.{ℕ, ◌-◌, Bool, true, false, List, [], ◌∷◌, ◌++◌, length, take, nat_lt, if◌then◌else◌}
use Rattle.mg_keys.specs.declared.step.Step.{Step}
use Rattle.mg_keys.specs.declared.step.Step.TheVariants.{Text, Rub, Next, Prev}

-- how many characters an answer or a pattern has at most
abbrev pub longest_answer : ℕ
longest_answer = 1024

-- with a character more; one past the greatest length changes nothing
abbrev pub typed : List ℕ → ℕ → List ℕ
typed answer c = if nat_lt (length answer) longest_answer then answer ++ c ∷ [] else answer

-- without the last character
abbrev pub rubbed : List ℕ → List ℕ
rubbed answer = take (length answer - 1) answer

-- a step on an answer or a pattern, or from one match to another
abbrev pub is_typing : Step → Bool
is_typing (Text c) = true
is_typing Rub = true
is_typing Next = true
is_typing Prev = true
is_typing _ = false
