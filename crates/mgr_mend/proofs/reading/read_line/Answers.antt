use Rattle.std.proofs.Common.{◌≡◌, ◌++◌, ◌∷◌, [], rules, ℕ, List, Ok, refl, sym, ap, ◌∙◌}
use Rattle.rga_ops.specs.declared.op.Op.{Op}
use Rattle.rga_lines.specs.declared.line.Line.TheVariants.{Run}
use Rattle.rga_lines.specs.Log.{SaysRun, operations_at}
use Rattle.rga_lines.proofs.StandLemmas.{stands, stands_for}
use Rattle.mgr_mend.specs.Mending.{operations_said}
use Rattle.mgr_mend.proofs.reading.read_line.Goals as goal

said_insertions : (line : List ℕ) (ops : List Op) → SaysRun line ops → operations_at line ≡ Ok ops
said_insertions line ops (r, e, is) = stands line (Ok (Run r)) e ∙ ap stands_for (sym is)

pub returns-in-Some : goal.returns-in-Some
returns-in-Some c = rw (stands c.args.line.now _ c.in-Some.ensures) (record {
  ops = c.in_ok-push.ensures.items ∙ ap (λ (xs : List Op). xs ++ c.in-Some.deletion ∷ []) c.clear.ensures.items;
  count = refl;
})

pub returns-in-Ok-true-clause-ops : goal.returns-in-Ok-true-clause-ops
returns-in-Ok-true-clause-ops c = sym (ap operations_said (said_insertions c.args.line.now _ (c.in-Ok-true.ensures.said (search rules))))

pub returns-in-Ok-true-clause-count : goal.returns-in-Ok-true-clause-count
returns-in-Ok-true-clause-count c = rw (said_insertions c.args.line.now _ (c.in-Ok-true.ensures.said (search rules))) (search rules)
