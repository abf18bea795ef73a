use Rattle.mgr.proofs.shell.compact.Goals as goal

pub returns-clause-status : goal.returns-clause-status
returns-clause-status g c =
    let e = c.compact_note-answer.ensures in
    record {
      answer = c.compact_note-answer.result;
      exact = c.told_of_show.ensures.status;
      told_line = c.told_of_show.ensures.told;
      keeps = rw c.as_str.ensures.value at e.compacted;
      refused = rw c.as_str.ensures.value at e.refused;
      begun = rw c.as_str.ensures.value at e.begun;
      untouched = rw c.as_str.ensures.value at e.untouched;
      others = rw c.as_str.ensures.value at e.others;
      device = e.device;
    }
