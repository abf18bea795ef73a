use Rattle.std.proofs.Common.{refl}
use Rattle.mg_live.proofs.ReachLaws.{anywhere}
use Rattle.mg_live.proofs.StandingLaws.{noted_so, runs_quit, runs_on}
use Rattle.mg_live.proofs.ToldLaws.{told_after_block, told_once_noted}
use Rattle.mg_live.proofs.session.run.Goals as goal

pub note_changes-noted-requires : goal.note_changes-noted-requires
note_changes-noted-requires g c = anywhere c.args.live.now c.args.editor.now

pub take_keys-requires : goal.take_keys-requires
take_keys-requires g c =
    let noted = c.note_changes-noted in
    told_after_block _ _ c.end_block-begun.ensures
    (λ on. rw noted.ensures.same (told_once_noted c.args.editor.now c.args.course c.args.live.now noted.new.live noted.result noted.ensures.noted on))

pub returns-in-Quit : goal.returns-in-Quit
returns-in-Quit g c =
    let noted = c.note_changes-noted.ensures in
    runs_quit g.R.Read.remaining (noted_so c.args.course c.args.live.now noted.noted noted.same) c.end_block-begun.ensures c.new-reader.ensures
    c.in-Quit.ensures refl

pub returns : goal.returns
returns g c =
    let noted = c.note_changes-noted.ensures in
    runs_on g.R.Read.remaining (noted_so c.args.course c.args.live.now noted.noted noted.same) c.end_block-begun.ensures c.new-reader.ensures
    c.take_keys.ensures c.in_default.not-Quit c.is_within.ensures c.finish.ensures
