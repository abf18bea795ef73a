use Rattle.std.proofs.Common.{rules, Ok, Err, [], refl, sym, ap, ◌∙◌, append-nil}
use Rattle.rga_lines.specs.declared.line.Line.TheVariants.{Last}
use Rattle.rga_lines.proofs.ReadingLemmas.{any_run, any_deletions}
use Rattle.rga_exchange.specs.declared.fault.LogFault.TheVariants as fault
use Rattle.rga_exchange.specs.declared.taking.LineTaken.TheVariants.{EndLine}
use Rattle.rga_exchange.specs.Taking.{intake}
use Rattle.rga_exchange.proofs.DeletionRunLemmas.{none_told}
use Rattle.rga_exchange.proofs.TakingLaws.{line_takes, head_takes}
use Rattle.rga_exchange.proofs.taking.take_other.Goals as goal

pub ops-requires : goal.ops-requires
ops-requires g c = any_run c.args.line.now c.in-Ok-Run.run' (sym (c.in-Ok-Run.ensures.exact (λ e. absurd cc)) ∙ ap Ok c.in-Ok-Run.field-0-is)

pub ops-requires-in-Ok-Deletions : goal.ops-requires-in-Ok-Deletions
ops-requires-in-Ok-Deletions g c = any_deletions c.args.line.now c.in-Ok-Deletions.run' (sym (c.in-Ok-Deletions.ensures.exact (λ e. absurd cc)) ∙ ap Ok c.in-Ok-Deletions.field-0-is)

pub returns-in-Ok-One-clause-taken : goal.returns-in-Ok-One-clause-taken
returns-in-Ok-One-clause-taken g c =
    line_takes _ (intake g.T.Taker.limit g.T.Taker.content g.T.Taker.follows c.args.taker.now c.take.new.taker) _ c.args.line.now _ _ _ (sym (c.in-Ok-One.ensures.exact (λ e. absurd cc)) ∙ ap Ok c.in-Ok-One.field-0-is) refl c.take.ensures.taken

pub returns-in_ok-ops-in-Ok-Run-clause-taken : goal.returns-in_ok-ops-in-Ok-Run-clause-taken
returns-in_ok-ops-in-Ok-Run-clause-taken g c =
    line_takes _ (intake g.T.Taker.limit g.T.Taker.content g.T.Taker.follows c.args.taker.now c.take_all.new.taker) _ c.args.line.now _ _ _ (sym (c.in-Ok-Run.ensures.exact (λ e. absurd cc)) ∙ ap Ok c.in-Ok-Run.field-0-is) (append-nil _) (rw (c.deref.ensures.value, c.in_ok-ops-in-Ok-Run.ensures.ok) at c.take_all.ensures.taken)

pub returns-in_ok-ops-in-Ok-Deletions-clause-taken : goal.returns-in_ok-ops-in-Ok-Deletions-clause-taken
returns-in_ok-ops-in-Ok-Deletions-clause-taken g c =
    line_takes _ (intake g.T.Taker.limit g.T.Taker.content g.T.Taker.follows c.args.taker.now c.take_all-in-Ok-Deletions.new.taker) _ c.args.line.now _ _ _ (sym (c.in-Ok-Deletions.ensures.exact (λ e. absurd cc)) ∙ ap Ok c.in-Ok-Deletions.field-0-is) (append-nil _)
    (rw (c.deref-in-Ok-Deletions.ensures.value, c.in_ok-ops-in-Ok-Deletions.ensures.ok) at c.take_all-in-Ok-Deletions.ensures.taken)

pub returns-in-Ok-Head-clause-taken : goal.returns-in-Ok-Head-clause-taken
returns-in-Ok-Head-clause-taken g c =
    let t = c.args.taker.now in
    head_takes _ (intake g.T.Taker.limit g.T.Taker.content g.T.Taker.follows t t) _ c.args.line.now _ (sym (c.in-Ok-Head.ensures.exact (λ e. absurd cc)) ∙ ap Ok c.in-Ok-Head.field-0-is) (record { same = refl; nothing = g.T.Taker.follows_nothing t }) c.pass_head.ensures

pub returns-in-Ok-Last-clause-taken : goal.returns-in-Ok-Last-clause-taken
returns-in-Ok-Last-clause-taken g c =
    let t = c.args.taker.now in
    line_takes c.args.form (intake g.T.Taker.limit g.T.Taker.content g.T.Taker.follows t t) c.args.number c.args.line.now (Ok (EndLine c.in-Ok-Last.count)) (Ok (Last c.in-Ok-Last.count)) [] (sym (c.in-Ok-Last.ensures.exact (λ e. absurd cc)) ∙ ap Ok c.in-Ok-Last.field-0-is) refl (refl, refl, record { same = refl; nothing = g.T.Taker.follows_nothing t })

pub returns-in-Err : goal.returns-in-Err
returns-in-Err g c =
    let t = c.args.taker.now in
    record {
      taken = line_takes c.args.form (intake g.T.Taker.limit g.T.Taker.content g.T.Taker.follows t t) c.args.number c.args.line.now (Err (fault.Line c.args.number c.in-Err.fault)) (Err c.in-Err.fault) [] (sym (c.in-Err.ensures.exact (search rules))) refl (refl, refl, record { same = refl; nothing = g.T.Taker.follows_nothing t });
      deletion_runs = λ _. none_told c.args.deletion_runs.now c.args.line.now _ (sym (c.in-Err.ensures.exact (search rules))) refl;
      limit = refl;
    }
