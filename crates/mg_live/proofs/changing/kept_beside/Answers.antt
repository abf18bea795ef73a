use Rattle.std.proofs.Common.{arith, ◌≡◌, ◌-◌, suc, length, sym, ap, subst}
use Rattle.rga_ops.specs.Order.{text}
use Rattle.mg_workspace.specs.AtIndex.{state_at}
use Rattle.mg_live.specs.Changes.{AreKept}
use Rattle.mg_live.proofs.ReachLaws.{as_many_kept, kept, one_more_kept, place_within, same_kept}
use Rattle.mg_live.proofs.changing.kept_beside.Goals as goal

pub returns-then-text-count : goal.returns-then-text-count
returns-then-text-count g c =
    let told = c.args.changes.now.text in
    let now = (state_at c.args.index c.args.editor.now.work).content in
    let count : c.text_len-count.result ≡ length told = c.text_len-count.ensures in
    let many : length (text now) ≡ length told = omega (arith, ap length c.in-Ok.ensures, c.if-text-count.true, count) in
    let same : told ≡ text now = as_many_kept c.args.id told now c.requires.reached many in
    subst (λ n. AreKept (kept n 0) told (text now)) (sym count) (same_kept told (text now) (length told) 0 (omega arith) (omega arith) same)

pub overflow_sub-result : goal.overflow_sub-result
overflow_sub-result g c =
    let told = c.args.changes.now.text in
    let now = (state_at c.args.index c.args.editor.now.work).content in
    let count : c.text_len-count.result ≡ length told = c.text_len-count.ensures in
    let more : length (text now) ≡ suc (length told) = omega (arith, ap length c.in-Ok.ensures, c.if-text-count-2.false, c.if-text-count-gt1.false, count) in
    omega (arith, count, place_within c.args.id told now c.in-Some.place c.in-Some.ensures.there more)

pub returns : goal.returns
returns g c =
    let told = c.args.changes.now.text in
    let now = (state_at c.args.index c.args.editor.now.work).content in
    let place = c.in-Some.place in
    let there = c.in-Some.ensures.there in
    let count : c.text_len-count.result ≡ length told = c.text_len-count.ensures in
    let more : length (text now) ≡ suc (length told) = omega (arith, ap length c.in-Ok.ensures, c.if-text-count-2.false, c.if-text-count-gt1.false, count) in
    subst (λ n. AreKept (kept place (n - place)) told (text now)) (sym count)
    (one_more_kept c.args.id told now place c.requires.reached more there (place_within c.args.id told now place there more))
