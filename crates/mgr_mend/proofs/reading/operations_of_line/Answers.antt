use Rattle.std.proofs.Common.{rules, Ok, sym, ap, ◌∙◌}
use Rattle.rga_lines.specs.declared.line.Line.TheVariants.{One, Run, Deletions, Head}
use Rattle.rga_lines.proofs.ReadingLemmas.{any_run, any_deletions}
use Rattle.rga_lines.proofs.StandLemmas.{stands, stands_for}
use Rattle.mgr_mend.proofs.reading.operations_of_line.Goals as goal

pub ops-requires : goal.ops-requires
ops-requires c = any_run c.args.line.now c.in-Ok-Run.run' (sym (c.in-Ok-Run.ensures.exact (λ e. absurd cc)) ∙ ap Ok c.in-Ok-Run.field-0-is)

pub ops-requires-in-Ok-Deletions : goal.ops-requires-in-Ok-Deletions
ops-requires-in-Ok-Deletions c = any_deletions c.args.line.now c.in-Ok-Deletions.run' (sym (c.in-Ok-Deletions.ensures.exact (λ e. absurd cc)) ∙ ap Ok c.in-Ok-Deletions.field-0-is)

pub returns-in_ok-vec-in-Ok-One : goal.returns-in_ok-vec-in-Ok-One
returns-in_ok-vec-in-Ok-One c = stands c.args.line.now (Ok (One c.in-Ok-One.op)) (sym (c.in-Ok-One.ensures.exact (λ e. absurd cc)) ∙ ap Ok c.in-Ok-One.field-0-is) ∙ ap stands_for (search rules)

pub returns-in_ok-ops-in-Ok-Run : goal.returns-in_ok-ops-in-Ok-Run
returns-in_ok-ops-in-Ok-Run c = stands c.args.line.now (Ok (Run c.in-Ok-Run.run')) (sym (c.in-Ok-Run.ensures.exact (λ e. absurd cc)) ∙ ap Ok c.in-Ok-Run.field-0-is) ∙ ap stands_for (sym c.in_ok-ops-in-Ok-Run.ensures.ok)

pub returns-in_ok-ops-in-Ok-Deletions : goal.returns-in_ok-ops-in-Ok-Deletions
returns-in_ok-ops-in-Ok-Deletions c = stands c.args.line.now (Ok (Deletions c.in-Ok-Deletions.run')) (sym (c.in-Ok-Deletions.ensures.exact (λ e. absurd cc)) ∙ ap Ok c.in-Ok-Deletions.field-0-is) ∙ ap stands_for (sym c.in_ok-ops-in-Ok-Deletions.ensures.ok)

pub returns-in-Ok-Head : goal.returns-in-Ok-Head
returns-in-Ok-Head c = (_, stands c.args.line.now (Ok Head) (sym (c.in-Ok-Head.ensures.exact (λ e. absurd cc)) ∙ ap Ok c.in-Ok-Head.field-0-is))

pub returns-in-Ok-Last : goal.returns-in-Ok-Last
returns-in-Ok-Last c = (_, stands c.args.line.now _ (sym (c.in-Ok-Last.ensures.exact (λ e. absurd cc)) ∙ ap Ok c.in-Ok-Last.field-0-is))

pub returns-in-Err : goal.returns-in-Err
returns-in-Err c = (_, stands c.args.line.now _ (sym (c.in-Err.ensures.exact (search rules))))
