use Rattle.std.proofs.Common.{◌∙◌, sym}
use Rattle.rga_lines.specs.Log.{stream_operations}
use Rattle.rga_exchange.proofs.OperationLaws.{received_joined, told_taken, received_number, received_all, received_other}
use Rattle.rga_exchange.proofs.receiving.receive.Goals as goal

pub returns-in-EndLine : goal.returns-in-EndLine
returns-in-EndLine g c =
    let ends = rw c.in-EndLine.is at c.in_ok-_lines.ensures.end in
    let named = sym c.from.ensures ∙ c.if-from-operations.true in
    let last = rw c.in-EndLine.is at c.in_ok-_lines.ensures.last in
    record {
      outcome = λ _ _. received_all _ _ _ _ _ _ _ named ends;
      joined = received_joined _ _ _ _ _ _ _ ends;
      took = told_taken _ stream_operations _ _ (received_joined _ _ _ _ _ _ _ ends);
      number = received_number _ _ _ _ _ _ _ named ends;
      last = last;
      last_count = λ _. last;
      whole_lines = λ e. absurd cc;
      lines = c.in_ok-_lines.ensures.lines;
      device = record { failed = λ e. absurd cc; unfailed = λ _. c.in_ok-_lines.ensures.device.unfailed (λ e. absurd cc) };
      limit = c.in_ok-_lines.ensures.limit;
    }

pub returns-in-EndLine-2 : goal.returns-in-EndLine-2
returns-in-EndLine-2 g c =
    let last = rw c.in-EndLine.is at c.in_ok-_lines.ensures.last in
    record {
      outcome = λ _ _. received_other _ _ _ _ _ _ _ (λ e. c.if-from-operations.false (c.from.ensures ∙ e)) (rw c.in-EndLine.is at c.in_ok-_lines.ensures.end);
      joined = tt;
      took = tt;
      number = tt;
      last = tt;
      last_count = λ _. last;
      whole_lines = λ e. absurd cc;
      lines = c.in_ok-_lines.ensures.lines;
      device = record { failed = λ e. absurd cc; unfailed = λ _. c.in_ok-_lines.ensures.device.unfailed (λ e. absurd cc) };
      limit = c.in_ok-_lines.ensures.limit;
    }
