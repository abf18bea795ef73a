use Rattle.rga_lines.proofs.Prelude.{◌∷◌, ◌++◌, take, sym, ap, ◌∙◌, decimal_digit}
use Rattle.rga_lines.proofs.pieces.put_replica.Goals as goal

pub returns-then-replica-lt10-clause-put : goal.returns-then-replica-lt10-clause-put
returns-then-replica-lt10-clause-put c = c.put_array.ensures.put ∙ ap (λ l. take c.args.at c.args.bytes.now ++ 44 ∷ l) (sym (decimal_digit c.args.replica c.if-replica-lt10.true))
