use Rattle.mgr.proofs.TellingLaws.{tells_both}
use Rattle.mgr.proofs.shell.told_of_merge.Goals as goal

pub returns-in-Apart-clause-told : goal.returns-in-Apart-clause-told
returns-in-Apart-clause-told g c = rw c.in-Apart.is (rw c.refused-report.ensures.message at c.told_of_named-in-Apart.ensures.told)

pub returns-in-Far-clause-told : goal.returns-in-Far-clause-told
returns-in-Far-clause-told g c = rw c.in-Far.is (rw c.refused-report-in-Far.ensures.message at c.told_of_named-in-Far.ensures.told)

pub returns-in-TextStays-clause-told : goal.returns-in-TextStays-clause-told
returns-in-TextStays-clause-told g c =
    rw c.in-TextStays.is (tells_both _ _ _ _ _ (rw c.deref.ensures.value at c.tell_torn.ensures) (rw c.refused-in-TextStays.ensures.message at c.told_of-in-TextStays.ensures.told))
