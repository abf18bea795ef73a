use Rattle.std.proofs.Common.{sym, subst}
use Rattle.mg_events.specs.Added.{AddsMembers}
use Rattle.mg_events.specs.StatusText.{changes_members, splice_json}
use Rattle.mg_events.proofs.AddedLemmas.{nothing, next, token, array_added, left_none}
use Rattle.mg_events.proofs.arrays.add_changes.Goals as goal

pub returns : goal.returns
returns c =
    let all = left_none splice_json c.in-Some.splices.now c.loop-splice.splice-index c.loop-splice-test.false c.loop-splice.invariant in
    subst (λ o. AddsMembers c.args.writer.now c.end_array.new.self (changes_members o)) (sym c.in-Some.is)
    (next (next (token c.in_ok-key.ensures) (array_added _ (token c.in_ok-begin_array.ensures) all (token c.in_ok-end_array.ensures))) nothing)
