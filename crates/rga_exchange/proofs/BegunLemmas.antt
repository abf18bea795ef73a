-- A text that is written part by part.
use Rattle.std.proofs.Common.{arith, ℕ, List, ◌++◌, Option, sym, ap, ◌∙◌, append_assoc}
use Rattle.rga_exchange.specs.Counting.{Calls, Writes, WritesFront, WritesAllBut}
use Rattle.rga_exchange.proofs.WrittenLemmas.{Appends-then}

module _ {W : Type 0} (contents : W → Option (List ℕ)) where
  -- of what was left a first part was taken, all but some bytes
  pub begun_next : (a b c : Calls W) (text first later left : List ℕ) → WritesAllBut contents a b text (first ++ later) → WritesAllBut contents b c first left → WritesAllBut contents a c text (left ++ later)
  begun_next a b c text first later left h k = record {
    front = h.front ++ k.front;
    parts = h.parts
        ∙ ap (λ (l : List ℕ). h.front ++ (l ++ later)) k.parts
        ∙ ap (λ (l : List ℕ). h.front ++ l) (append_assoc k.front left later)
        ∙ sym (append_assoc h.front k.front (left ++ later));
    written = Appends-then (contents a.inner) (contents b.inner) (contents c.inner) h.front k.front h.written k.written;
  }

  -- a text that goes on
  pub begun_longer : (a b : Calls W) (text left more : List ℕ) → WritesAllBut contents a b text left → WritesAllBut contents a b (text ++ more) (left ++ more)
  begun_longer a b text left more h = grind (arith, append_assoc)

  -- the left part was written
  pub begun_whole : (a b c : Calls W) (text left : List ℕ) → WritesAllBut contents a b text left → Writes contents b c left → Writes contents a c text
  begun_whole a b c text left h k = rw h.parts (Appends-then (contents a.inner) (contents b.inner) (contents c.inner) h.front left h.written k)

  -- a beginning of it was written
  pub begun_left : (a b c : Calls W) (text left : List ℕ) → WritesAllBut contents a b text left → WritesFront contents b c left → WritesFront contents a c text
  begun_left a b c text left h k = grind (arith, append_assoc)

  pub front_longer : (a b : Calls W) (text more : List ℕ) → WritesFront contents a b text → WritesFront contents a b (text ++ more)
  front_longer a b text more h = grind (arith, append_assoc)

  -- a beginning of the first part of what was left was written
  pub begun_part : (a b c : Calls W) (text first later : List ℕ) → WritesAllBut contents a b text (first ++ later) → WritesFront contents b c first → WritesFront contents a c text
  begun_part a b c text first later h k = begun_left a b c text (first ++ later) h (front_longer b c first later k)
