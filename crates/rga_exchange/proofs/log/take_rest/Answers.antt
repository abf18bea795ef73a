use Rattle.std.proofs.Common.{◌∙◌, length, refl, sym, ap, subst}
use Rattle.rga_lines.specs.Table.{any_line_at}
use Rattle.rga_lines.proofs.StandLemmas.{nothing_says}
use Rattle.std.proofs.lemmas.List.{nil_from_length}
use Rattle.std.proofs.lemmas.Bool.{eqb-true, eqb-false}
use Rattle.rga_exchange.specs.Taking.{Intake, intake}
use Rattle.rga_exchange.specs.Log.{TakesRest, bare_answer}
use Rattle.rga_exchange.proofs.DeletionRunLemmas.{none_told}
use Rattle.rga_exchange.proofs.OperationLaws.{rest_empty, rest_takes}
use Rattle.rga_exchange.proofs.log.take_rest.Goals as goal

pub returns-then-is_empty-clause-taken : goal.returns-then-is_empty-clause-taken
returns-then-is_empty-clause-taken g c =
    let t = c.args.taker.now in
    rest_empty (intake g.T.Taker.limit g.T.Taker.content g.T.Taker.follows t t) c.args.lines c.args.rest.now (eqb-true (length c.args.rest.now) 0 (sym c.if-is_empty.ensures)) (record { same = refl; nothing = g.T.Taker.follows_nothing t })

pub returns-clause-taken : goal.returns-clause-taken
returns-clause-taken g c =
    let took : Intake = intake g.T.Taker.limit g.T.Taker.content g.T.Taker.follows c.args.taker.now c.take_other-taken.new.taker in
    subst (TakesRest took c.args.lines c.args.rest.now) (sym c.end_of.ensures) (
    rest_takes took c.args.lines c.args.rest.now c.take_other-taken.result (eqb-false (length c.args.rest.now) 0 (sym c.if-is_empty.ensures)) c.take_other-taken.ensures.taken)

pub returns-then-is_empty-clause-deletion_runs : goal.returns-then-is_empty-clause-deletion_runs
returns-then-is_empty-clause-deletion_runs g c =
    let empty = nil_from_length c.args.rest.now (eqb-true (length c.args.rest.now) 0 (sym c.if-is_empty.ensures)) in
    λ _. none_told c.args.deletion_runs.now c.args.rest.now _ (ap any_line_at empty ∙ nothing_says) refl

pub returns-clause-deletion_runs : goal.returns-clause-deletion_runs
returns-clause-deletion_runs g c = λ other. c.take_other-taken.ensures.deletion_runs (λ is. other (c.end_of.ensures ∙ ap (bare_answer (length c.args.rest.now)) is))
