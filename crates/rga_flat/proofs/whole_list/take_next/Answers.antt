use Rattle.std.proofs.Common.{◌≡◌, ◌≢◌, sym, ◌∙◌, subst}
use Rattle.std.proofs.lemmas.Result.{err_from_is_err_and}
use Rattle.std.specs.Prelude.{Ok, Err}
use Rattle.rga_ops.specs.Answer.{taken, taken_one_by_one}
use Rattle.rga_ops.specs.Prelude.{Memory}
use Rattle.rga_flat.proofs.FlatLaws.{based_more}
use Rattle.rga_store.proofs.BackLaws.{next_taken}
use Rattle.rga_flat.proofs.ChainLaws.{gathered_start, next_refused, at_err}
use Rattle.rga_flat.proofs.whole_list.take_next.Goals as goal

pub returns-then-count-ge-MOST_AT_ONCE-clause-start : goal.returns-then-count-ge-MOST_AT_ONCE-clause-start
returns-then-count-ge-MOST_AT_ONCE-clause-start c = gathered_start _ _ _ _ _ _ c.in_ok-count.ensures.gathered

pub returns-then-count-ge-MOST_AT_ONCE-clause-based : goal.returns-then-count-ge-MOST_AT_ONCE-clause-based
returns-then-count-ge-MOST_AT_ONCE-clause-based c = λ base b. based_more _ _ _ _ _ c.in_ok-count.ensures.gathered.within b

pub returns-then-count-ops-clause-start : goal.returns-then-count-ops-clause-start
returns-then-count-ops-clause-start c = gathered_start _ _ _ _ _ _ c.in_ok-count.ensures.gathered

pub returns-then-count-ops-clause-based : goal.returns-then-count-ops-clause-based
returns-then-count-ops-clause-based c = λ base b. based_more _ _ _ _ _ c.in_ok-count.ensures.gathered.within b

pub returns-in_err-take_noted-clause-refused : goal.returns-in_err-take_noted-clause-refused
returns-in_err-take_noted-clause-refused c =
    let p = err_from_is_err_and c.from_residual-in_err-take_noted.result c.from_residual-in_err-take_noted.ensures.1 in
    at_err (λ e. e ≢ Memory → taken_one_by_one c.args.records.now.limit c.args.records.now.content c.args.ops.now ≡ Err e) c.from_residual-in_err-take_noted.result p.0 p.1
    (λ other. next_refused c.args.records.now.limit c.args.records.now.content c.take_chain.new.records.content c.index-ops-count.result c.args.ops.now c.in_ok-count.count p.0
    c.in_ok-count.ensures.gathered.taken c.if-count-ops.false c.index-ops-count.is
    (subst (λ n. taken n c.take_chain.new.records.content c.index-ops-count.result ≡ Err p.0) c.take_chain.ensures.limit
    (subst (λ e. e ≢ Memory → taken c.take_chain.new.records.limit c.take_chain.new.records.content c.index-ops-count.result ≡ Err e) (sym p.2) c.in_err-take_noted.ensures.refused other)))

pub returns-in_err-take_noted-clause-start : goal.returns-in_err-take_noted-clause-start
returns-in_err-take_noted-clause-start c = c.take_noted.ensures.start ∙ gathered_start _ _ _ _ _ _ c.in_ok-count.ensures.gathered

pub returns-in_err-take_noted-clause-based : goal.returns-in_err-take_noted-clause-based
returns-in_err-take_noted-clause-based c = λ base b. c.take_noted.ensures.based base (based_more _ _ _ _ _ c.in_ok-count.ensures.gathered.within b)

pub returns-clause-ok : goal.returns-clause-ok
returns-clause-ok c =
    next_taken _ _ _ _ c.index-ops-count.result _ _ c.in_ok-count.ensures.gathered.taken c.if-count-ops.false c.index-ops-count.is
    (subst (λ n. taken n c.take_chain.new.records.content c.index-ops-count.result ≡ Ok c.take_noted.new.records.content) c.take_chain.ensures.limit c.in_ok-take_noted.ensures.ok)

pub returns-clause-start : goal.returns-clause-start
returns-clause-start c = c.take_noted.ensures.start ∙ gathered_start _ _ _ _ _ _ c.in_ok-count.ensures.gathered

pub returns-clause-based : goal.returns-clause-based
returns-clause-based c = λ base b. c.take_noted.ensures.based base (based_more _ _ _ _ _ c.in_ok-count.ensures.gathered.within b)
