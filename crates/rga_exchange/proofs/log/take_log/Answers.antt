use Rattle.std.proofs.Common.{◌≡◌, Result, Err, ap}
use Rattle.std.proofs.lemmas.Result.{err_from_is_err_and}
use Rattle.rga_lines.specs.Log.{log_operations}
use Rattle.rga_exchange.specs.declared.fault.LogFault.{LogFault}
use Rattle.rga_exchange.specs.declared.fault.LogFault.TheVariants.{Read}
use Rattle.rga_exchange.specs.declared.log.LogRead.{LogRead}
use Rattle.rga_exchange.specs.Taking.{intake}
use Rattle.rga_exchange.proofs.DeletionRunLemmas.{log_told}
use Rattle.rga_exchange.proofs.OperationLaws.{log_ends_outcome, log_ends_joined, told_taken, rest_fails}
use Rattle.rga_exchange.proofs.ReadLaws.{whole_log, same_lines}
use Rattle.rga_exchange.proofs.log.take_log.Goals as goal

pub returns-in_ok-end-in-Input-clause-taken : goal.returns-in_ok-end-in-Input-clause-taken
returns-in_ok-end-in-Input-clause-taken g c =
    let all = rw c.in-Input.is at c.in_ok-lines.ensures.end in
    let rest = rw c.deref.ensures.value at c.in_ok-end-in-Input.ensures.taken in
    record {
      outcome = λ read memory. log_ends_outcome _ _ _ _ _ _ _ _ _ c.in_ok-lines.ensures.limit all rest.0;
      joined = log_ends_joined _ _ _ _ _ _ _ _ _ c.in_ok-lines.ensures.limit all rest.0;
      whole_lines = λ e. absurd cc;
      lines = tt;
      log = whole_log c.in_ok-end-in-Input.end c.in_ok-lines.ensures.limit (g.T.Taker.follows_on c.args.taker.now c.take_stream.new.taker c.take_rest.new.taker) (rw c.in-Input.is at c.in_ok-lines.ensures.rest) rest.0 rest.1;
    }

pub returns-in_ok-end-in-Input-clause-took : goal.returns-in_ok-end-in-Input-clause-took
returns-in_ok-end-in-Input-clause-took g c =
    let all = rw c.in-Input.is at c.in_ok-lines.ensures.end in
    let rest = rw c.deref.ensures.value at c.in_ok-end-in-Input.ensures.taken in
    told_taken _ log_operations _ _ (log_ends_joined _ _ _ _ _ _ _ _ _ c.in_ok-lines.ensures.limit all rest.0)

abbrev failed : LogFault → Result LogRead LogFault
failed e = Err e

pub returns-in_err-end-in-Input-clause-taken : goal.returns-in_err-end-in-Input-clause-taken
returns-in_err-end-in-Input-clause-taken g c =
    let all = rw c.in-Input.is at c.in_ok-lines.ensures.end in
    let e = c.in_err-end-in-Input.field-0.0 in
    let rest = rest_fails (intake g.T.Taker.limit g.T.Taker.content g.T.Taker.follows c.take_stream.new.taker c.take_rest.new.taker) _ c.deref.result.now e c.in_err-end-in-Input.ensures.taken in
    let p = err_from_is_err_and c.from_residual-in_err-end-in-Input.result c.from_residual-in_err-end-in-Input.ensures.1 in
    rw (p.1, p.2) (record {
      outcome = λ read memory. log_ends_outcome _ _ _ _ _ _ _ _ (failed e) c.in_ok-lines.ensures.limit all (rw c.deref.ensures.value at (rest.0 (λ is. memory (ap failed is))));
      joined = tt;
      whole_lines = λ told. let same : failed e ≡ failed Read = told in let is : e ≡ Read = cc in absurd (rest.2 is);
      lines = same_lines (rest.1).same (g.T.Taker.follows_on c.args.taker.now c.take_stream.new.taker c.take_rest.new.taker) (rest.1).nothing c.in_ok-lines.ensures.lines;
      log = tt;
    })

pub returns-in_ok-end-in-Input-clause-deletion_runs : goal.returns-in_ok-end-in-Input-clause-deletion_runs
returns-in_ok-end-in-Input-clause-deletion_runs g c =
    let told = rw c.in-Input.is at c.in_ok-lines.ensures.deletion_runs in
    let rest = rw c.deref.ensures.value at (c.in_ok-end-in-Input.ensures.deletion_runs (λ e. absurd cc)) in
    log_told _ _ _ _ _ told rest
