-- A text of which a beginning was written.
use Rattle.std.proofs.Common.{arith, ℕ, List, [], ◌++◌, take, drop, Option, Some, None, refl, sym, append_assoc, append-nil}
use Rattle.std.proofs.lemmas.List.{take-append-drop}
use Rattle.std.specs.Io.KnownBytes.{Appends}
use Rattle.rga_exchange.specs.Counting.{Calls, Writes, WritesFront, WritesAllBut}

Appends-nil : (o : Option (List ℕ)) → Appends o o []
Appends-nil None = tt
Appends-nil (Some xs) = sym (append-nil xs)

pub Appends-then : (a b c : Option (List ℕ)) (xs ys : List ℕ) → Appends a b xs → Appends b c ys → Appends a c (xs ++ ys)
Appends-then a b c xs ys h k = grind (arith, append_assoc)

module _ {W : Type 0} (contents : W → Option (List ℕ)) where
  pub begun_start : (a : Calls W) (text : List ℕ) → WritesAllBut contents a a text text
  begun_start a text = record { front = []; parts = refl; written = Appends-nil (contents a.inner) }

  pub begun_more : (a b c : Calls W) (text rest : List ℕ) (n : ℕ) → WritesAllBut contents a b text rest → Writes contents b c (take n rest) → WritesAllBut contents a c text (drop n rest)
  begun_more a b c text rest n h k = grind (arith, take-append-drop, append_assoc, Appends-then)

  pub begun_front : (a b : Calls W) (text rest : List ℕ) → WritesAllBut contents a b text rest → WritesFront contents a b text
  begun_front a b text rest h = record { front = h.front; rest = rest; parts = h.parts; written = h.written }

  pub front_whole : (a b : Calls W) (text : List ℕ) → Writes contents a b text → WritesFront contents a b text
  front_whole a b text h = record { front = text; rest = []; parts = sym (append-nil text); written = h }

  pub front_none : (a : Calls W) (text : List ℕ) → WritesFront contents a a text
  front_none a text = record { front = []; rest = text; parts = refl; written = Appends-nil (contents a.inner) }
