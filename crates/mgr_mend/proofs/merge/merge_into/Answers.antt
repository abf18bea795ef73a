use Rattle.std.proofs.Common.{◌≡◌, map}
use Rattle.std.specs.Prelude.{string_bytes}
use Rattle.mgr_show.specs.Joined.{all_told}
use Rattle.mgr_mend.specs.Merging.{owner}
use Rattle.mgr_mend.proofs.MergeLemmas.{told_alike, as_told, leaves_all}
use Rattle.mgr_mend.proofs.merge.merge_into.Goals as goal

pub returns-then-text_stays-clause-text_stays : goal.returns-then-text_stays-clause-text_stays
returns-then-text_stays-clause-text_stays g c =
    let known = all_told (g.F.Sources.contents c.args.sources.now) (map string_bytes c.args.logs.now) in
    leaves_all known c.args.beside.now c.in_ok-owner.owner c.in_ok-torn.torn.items c.args.adopt c.opened.view_is c.in_ok-torn.ensures.taken c.in_ok-torn.ensures.follows
    (as_told (λ logs. c.in_ok-owner.owner ≡ owner c.args.beside.now.text c.take_logs.new.buffer.content logs) (told_alike _ _ _ c.take_logs.ensures.same) c.in_ok-owner.ensures.owner) (rw c.if-text_stays.true at c.text_stays.ensures)
