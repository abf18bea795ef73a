use Rattle.std.proofs.Common.{inl, inr}
use Rattle.mgr_port.proofs.FolderLaws.{only_none, quiet_one}
use Rattle.mgr_port.proofs.NotesLaws.{put_beside}
use Rattle.mgr_port.proofs.PlaceLaws.{at_path, at_removal, puts_at, puts_chain, puts_look, waits_at, waits_chain}
use Rattle.mgr_port.proofs.text.Text.put_beside.Goals as goal

pub returns-clause-put : goal.returns-clause-put
returns-clause-put g c = put_beside _ c.in-Ok.named _ _ _ _ _ _ _ _ _ _ c.settled.ensures c.in-Ok.ensures.named c.in_ok-look_at.ensures.step

pub returns-in-Err-clause-only : goal.returns-in-Err-clause-only
returns-in-Err-clause-only g c =
    puts_chain _ _ _ _ _ _ c.name_next-answer.ensures.only (puts_at _ _ _ _ _ (at_path _ _ _ _ c.as_str.ensures.value (at_removal _ _ _ _ _ c.remove_open.ensures.tried)))

pub returns-clause-only : goal.returns-clause-only
returns-clause-only g c = puts_look _ _ _ _ _ _ _ c.name_next-answer.ensures.only c.in_ok-look_at.ensures.step tt

pub returns-in-Err-clause-left : goal.returns-in-Err-clause-left
returns-in-Err-clause-left g c =
    inl (waits_chain _ _ _ _ _ _ c.in-Err.ensures.unnamed (waits_at _ _ _ _ _ (at_path _ _ _ _ c.as_str.ensures.value (at_removal _ _ _ _ _ c.remove_open.ensures.tried))))

pub returns-in_err-look_at-clause-left : goal.returns-in_err-look_at-clause-left
returns-in_err-look_at-clause-left g c = inr (c.in-Ok.named, _, c.in-Ok.ensures.named, only_none _ _ c.in_err-look_at.ensures.step)

pub returns-clause-left : goal.returns-clause-left
returns-clause-left g c = inr (c.in-Ok.named, _, c.in-Ok.ensures.named, quiet_one _ _ _ c.in_ok-look_at.ensures.step tt)
