-- What is told of logs that are written anew.
use Rattle.std.proofs.Common.{◌≡◌, ◌∙◌, ℕ, List, [], Option, Some, None, sym, ap}
use Rattle.std.specs.Io.KnownBytes.{Appends}
use Rattle.std.proofs.lemmas.List.{append-nil}
use Rattle.mgr_port.specs.Logs.{SameElsewhere, AppendsFront}

pub elsewhere : {A : Type 0} (name : List ℕ) (a b c : List ℕ → A) → SameElsewhere name a b → SameElsewhere name b c → SameElsewhere name a c
elsewhere name a b c one two other differs = two other differs ∙ one other differs

-- an empty file that got bytes has these
pub all_written : (o : Option (List ℕ)) (bytes : List ℕ) → Appends (Some []) o bytes → o ≡ Some bytes
all_written None bytes none = absurd none
all_written (Some l) bytes is = ap (λ (k : List ℕ). Some k) is

-- ---- what is kept as refused

pub gains_front : (kept now : Option (List ℕ)) (refused : List ℕ) → Appends kept now refused → AppendsFront kept now refused
gains_front kept now refused all = record { front = refused; rest = []; parts = sym (append-nil refused); appended = all }
