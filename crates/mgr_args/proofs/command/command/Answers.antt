use Rattle.std.proofs.lemmas.Result.{IfOk-weaker}
use Rattle.mgr_args.proofs.Adding.{takes_job}
use Rattle.mgr_args.proofs.command.command.Goals as goal

pub returns : goal.returns
returns c =
    let shows = takes_job _ _ _ _ _ c.in_ok-subcommand.ensures c.program.ensures c.in_ok-show.ensures in
    let edits = takes_job _ _ _ _ _ c.in_ok-subcommand-2.ensures shows c.in_ok-edit.ensures in
    let compacts = takes_job _ _ _ _ _ c.in_ok-subcommand-3.ensures edits c.in_ok-compact.ensures in
    let joins = takes_job _ _ _ _ _ c.in_ok-subcommand-4.ensures compacts c.in_ok-join.ensures in
    let logs = takes_job _ _ _ _ _ c.in_ok-subcommand-5.ensures joins c.in_ok-log.ensures in
    let whos = takes_job _ _ _ _ _ c.in_ok-subcommand-6.ensures logs c.in_ok-who.ensures in
    let claims = takes_job _ _ _ _ _ c.in_ok-subcommand-7.ensures whos c.in_ok-claims.ensures in
    let missings = takes_job _ _ _ _ _ c.in_ok-subcommand-8.ensures claims c.in_ok-missing.ensures in
    let merges = takes_job _ _ _ _ _ c.in_ok-subcommand-9.ensures missings c.in_ok-merge.ensures in
    IfOk-weaker c.subcommand-10.result _ _ (λ d is. takes_job _ d _ _ _ is merges c.in_ok-mend.ensures) c.subcommand-10.ensures
