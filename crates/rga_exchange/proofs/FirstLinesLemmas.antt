-- The lines of the first operations of a list, of which a beginning was written.
use Rattle.std.proofs.Common.{◌≡◌, ℕ, ◌≤◌, List, [], ◌∷◌, ◌++◌, map, length, take, drop, Option, sym, ap, subst, ◌∙◌, append_assoc, arith}
use Rattle.std.specs.Prelude.{All, Contains}
use Rattle.std.proofs.lemmas.List.Elements.{All-contains, Contains-append_left}
use Rattle.std.proofs.lemmas.List.{append_cancel_right, map-append, take-append-drop, length-take-le, take_all, take-take}
use Rattle.std.proofs.lemmas.List.Concat.{flat_map-append}
use Rattle.rga_ops.specs.Content.{Content}
use Rattle.rga_ops.specs.ListAnswer.{AreWellFormed}
use Rattle.rga_ops.specs.declared.op.Op.{Op}
use Rattle.rga_ops.proofs.OperationLaws.{Contains-nil}
use Rattle.rga_exchange.specs.Counting.{Calls, WritesFront, WritesAllBut}
use Rattle.rga_lines.specs.Spelling.{line}
use Rattle.rga_lines.specs.Stream.{newline, bytes_of_lines}
use Rattle.rga_exchange.proofs.WrittenLemmas.{front_none}
use Rattle.rga_exchange.specs.Sending.{log_text, AreWritable, GainsFirst, AppendsFirst, WritesFirst}
use Rattle.rga_exchange.proofs.BegunLemmas.{begun_left}
use Rattle.rga_exchange.proofs.WritableLaws.{MayBeWritten}
use Rattle.rga_exchange.proofs.BegunLogLaws.{joinable_take, stands_begun}

-- ---- the first operations

first_well_formed : (ops : List Op) (n : ℕ) → AreWellFormed ops → AreWellFormed (take n ops)
first_well_formed ops n well op m = well op (subst (λ os. Contains os op) (take-append-drop n ops) (Contains-append_left (take n ops) (drop n ops) op m))

log_text-split : (ops : List Op) (n : ℕ) → log_text ops ≡ log_text (take n ops) ++ log_text (drop n ops)
log_text-split ops n =
    ap log_text (sym (take-append-drop n ops))
    ∙ ap bytes_of_lines (map-append line (take n ops) (drop n ops))
    ∙ flat_map-append (λ (l : List ℕ). l ++ newline ∷ []) (map line (take n ops)) (map line (drop n ops))

gains_of_first : (bytes front : List ℕ) (c : Content) (ops : List Op) (n : ℕ) → n ≤ length ops → GainsFirst bytes front c (take n ops) → GainsFirst bytes front c ops
gains_of_first bytes front c ops n within h = grind (arith, length-take-le, take-take)

-- ---- what was written of them

module _ {W : Type 0} (contents : W → Option (List ℕ)) where
  pub first_none : (a : Calls W) (bytes : List ℕ) (ops : List Op) → WritesFirst contents a a bytes ops
  first_none a bytes ops = record { count = 0; within = omega arith; writable = λ well op m. absurd (Contains-nil op m); begun = front_none contents a (bytes ++ []) }

  -- A block and the lines from an operation on were left, and then a beginning of the block was written.
  pub first_begun : (a b c : Calls W) (start block : List ℕ) (ops : List Op) (n : ℕ) → n ≤ length ops → All MayBeWritten (take n ops) → WritesAllBut contents a b (start ++ log_text ops) (block ++ log_text (drop n ops)) → WritesFront contents b c block → WritesFirst contents a c start ops
  first_begun a b c start block ops n within up_to h k =
      let first : List ℕ = log_text (take n ops) in
      let later : List ℕ = log_text (drop n ops) in
      let whole : (start ++ first) ++ later ≡ (h.front ++ block) ++ later =
      append_assoc start first later ∙ ap (λ (l : List ℕ). start ++ l) (sym (log_text-split ops n)) ∙ h.parts ∙ sym (append_assoc h.front block later) in
      record {
        count = n;
        within = within;
        writable = λ well op m. All-contains MayBeWritten (take n ops) op up_to m (first_well_formed ops n well op m);
        begun = begun_left contents a b c (start ++ first) block (record { front = h.front; parts = append_cancel_right (start ++ first) (h.front ++ block) later whole; written = h.written }) k;
      }

  -- a beginning of what was left of all of them was written
  pub first_all : (a b c : Calls W) (start left : List ℕ) (ops : List Op) → (AreWellFormed ops → AreWritable ops) → WritesAllBut contents a b (start ++ log_text ops) left → WritesFront contents b c left → WritesFirst contents a c start ops
  first_all a b c start left ops writable h k =
      let all : ops ≡ take (length ops) ops = sym (take_all (length ops) ops (omega arith)) in
      record {
        count = length ops;
        within = omega arith;
        writable = λ well. subst AreWritable all (writable well);
        begun = subst (λ (os : List Op). WritesFront contents a c (start ++ log_text os)) all (begun_left contents a b c (start ++ log_text ops) left h k);
      }

  pub appends_first : (a b : Calls W) (start : List ℕ) (ops : List Op) → start ≡ [] → WritesFirst contents a b start ops → AppendsFirst contents a b ops
  appends_first a b start ops none h =
      let first : List Op = take h.count ops in
      let parts : h.begun.front ++ h.begun.rest ≡ log_text first = sym h.begun.parts ∙ ap (λ (l : List ℕ). l ++ log_text first) none in
      record {
        front = h.begun.front;
        written = h.begun.written;
        gained = λ bytes held stands ended well joinable. gains_of_first bytes h.begun.front held ops h.count h.within (
            stands_begun bytes held first h.begun.front h.begun.rest stands ended (h.writable well) (first_well_formed ops h.count well) (joinable_take held ops h.count joinable) parts);
      }
