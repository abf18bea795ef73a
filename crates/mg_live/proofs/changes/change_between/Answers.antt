use Rattle.std.proofs.Common.{arith, sym, ◌∙◌, ◌-◌, ◌≤◌, ◌+◌, length, drop}
use Rattle.mg_live.proofs.ChangeLaws.{less_alike, whole_rest}
use Rattle.mg_live.proofs.changes.change_between.Goals as goal

pub common_end-same-requires-clause-alike : goal.common_end-same-requires-clause-alike
common_end-same-requires-clause-alike c =
    let old = c.args.old.now in
    let new = c.args.new.now in
    let lo = c.common_front-lo.result in
    let n = c.min-known.result in
    let kept = c.requires in
    let less : n ≤ c.args.kept.end = omega (arith, c.min.ensures, c.min-known.ensures) in
    let in_old : lo + n ≤ length old = omega (arith, c.min.ensures, c.min-known.ensures, c.common_front-lo.ensures.old) in
    let in_new : lo + n ≤ length new = omega (arith, c.min-known.ensures, c.common_front-lo.ensures.new) in
    (λ k. drop (length (whole_rest lo old k) - n) (whole_rest lo old k))
    ∙ less_alike lo n c.args.kept.end old new less in_old in_new kept.end_in_old kept.end_in_new kept.end
    ∙ sym (λ k. drop (length (whole_rest lo new k) - n) (whole_rest lo new k))
