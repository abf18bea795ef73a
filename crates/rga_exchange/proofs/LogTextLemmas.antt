-- The text of a log, operation by operation.
use Rattle.std.proofs.Common.{arith, ◌≡◌, ℕ, ◌+◌, ◌<◌, List, [], ◌∷◌, ◌++◌, length, drop, get_or, Option, sym, ap, ◌∙◌, subst, append_assoc, append-nil}
use Rattle.std.proofs.lemmas.List.{drop_more}
use Rattle.std.proofs.lemmas.List.Concat.{flat_map-append}
use Rattle.rga_ops.specs.declared.op.Op.{Op}
use Rattle.rga_lines.specs.Spelling.{line, head_line, end_line}
use Rattle.rga_lines.specs.Stream.{newline}
use Rattle.rga_exchange.specs.Counting.{Calls, WritesFront, WritesAllBut}
use Rattle.rga_exchange.specs.Sending.{log_text, exchange_text}
use Rattle.rga_exchange.proofs.BegunLemmas.{begun_next, begun_longer, front_longer}

-- the lines from an operation on are its line and the later ones
log_text-from : (ops : List Op) (i : ℕ) (op : Op) → i < length ops → op ≡ get_or ops i op → log_text (drop i ops) ≡ (line op ++ newline ∷ []) ++ log_text (drop (i + 1) ops)
log_text-from ops i op within at = ap log_text (drop_more ops i op within) ∙ ap (λ (x : Op). (line x ++ newline ∷ []) ++ log_text (drop (i + 1) ops)) (sym at)

-- a line with its newline
abbrev pub ended : List ℕ → List ℕ
ended l = l ++ newline ∷ []

-- the head, the lines of the operations, and then the end
exchange_text-is : (ops : List Op) → exchange_text ops ≡ (ended head_line ++ log_text ops) ++ ended (end_line (length ops))
exchange_text-is ops = grind (arith, flat_map-append, append-nil, append_assoc)

module _ {W : Type 0} (contents : W → Option (List ℕ)) where
  -- the line of the next operation was added to the block
  pub begun_line : (a b c : Calls W) (text block next : List ℕ) (ops : List Op) (i : ℕ) (op : Op) → i < length ops → op ≡ get_or ops i op
      → WritesAllBut contents a b text (block ++ log_text (drop i ops)) → WritesAllBut contents b c (block ++ (line op ++ newline ∷ [])) next → WritesAllBut contents a c text (next ++ log_text (drop (i + 1) ops))
  begun_line a b c text block next ops i op within at h k =
      let later : List ℕ = log_text (drop (i + 1) ops) in
      let split : block ++ log_text (drop i ops) ≡ (block ++ (line op ++ newline ∷ [])) ++ later =
      ap (λ (l : List ℕ). block ++ l) (log_text-from ops i op within at) ∙ sym (append_assoc block (line op ++ newline ∷ []) later) in
      begun_next contents a b c text (block ++ (line op ++ newline ∷ [])) later next (subst (WritesAllBut contents a b text) split h) k

  -- ---- a log

  -- a block that begins empty takes lines, and leaves some of them to be written
  pub log_begun : (a b : Calls W) (start text left : List ℕ) → start ≡ [] → WritesAllBut contents a b (start ++ text) left → WritesAllBut contents a b text left
  log_begun a b start text left none h = subst (λ (l : List ℕ). WritesAllBut contents a b (l ++ text) left) none h

  -- ---- an exchange

  -- Behind the head what was left of the operations was put before the end.
  pub exchange_begun : (a b : Calls W) (ops : List Op) (start left : List ℕ) (number : ℕ) (end last : List ℕ) → start ≡ ended head_line → number ≡ length ops → end ≡ end_line number → last ≡ left ++ ended end
      → WritesAllBut contents a b (start ++ log_text ops) left → WritesAllBut contents a b (exchange_text ops) last
  exchange_begun a b ops start left number end last head count ends is h = grind (arith, begun_longer, exchange_text-is)

  -- a beginning of the head and of the lines of the operations is one of all
  pub exchange_front : (a b : Calls W) (ops : List Op) (start : List ℕ) → start ≡ ended head_line → WritesFront contents a b (start ++ log_text ops) → WritesFront contents a b (exchange_text ops)
  exchange_front a b ops start head h = grind (arith, exchange_text-is, front_longer)
