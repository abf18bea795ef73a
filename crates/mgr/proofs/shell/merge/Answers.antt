use Rattle.std.proofs.Common.{refl, Ok, Err, None}
use Rattle.mgr.proofs.shell.merge.Goals as goal

pub returns-in-Err-clause-status : goal.returns-in-Err-clause-status
returns-in-Err-clause-status g c =
    let e = c.in-Err.ensures in
    record {
      answer = Err c.in-Err.fault;
      merged = tt;
      between = None;
      torn = tt;
      counted = tt;
      exact = c.told_of_merge.ensures.status;
      told_line = rw c.as_str-name.ensures.value at (rw c.deref-in-Err.ensures.value at c.told_of_merge.ensures.told);
      unwritten = refl;
      note = rw c.as_str-name.ensures.value at e.not_loaded;
      refused = rw c.deref.ensures.value at (rw c.as_str-name.ensures.value at e.refused);
      stays = rw c.deref.ensures.value at (rw c.as_str-name.ensures.value at e.text_stays);
      unchanged = rw c.as_str-name.ensures.value at e.unwritten;
      begun = rw c.deref.ensures.value at (rw c.as_str-name.ensures.value at e.begun);
      device = e.calls;
      reads = e.reads;
    }

pub returns-in-Ok-clause-status : goal.returns-in-Ok-clause-status
returns-in-Ok-clause-status g c =
    let e = c.in-Ok.ensures in
    record {
      answer = Ok c.in-Ok.merged;
      merged = rw c.deref.ensures.value at (rw c.as_str-name.ensures.value at e.merged);
      between = g.T.Tell.told c.tell_torn.new.errors;
      torn = rw c.deref-in-Ok.ensures.value at (rw c.deref-in-Ok-2.ensures.value at c.tell_torn.ensures);
      counted = c.print.ensures.status;
      exact = tt;
      told_line = tt;
      unwritten = tt;
      note = tt;
      refused = tt;
      stays = tt;
      unchanged = tt;
      begun = tt;
      device = e.calls;
      reads = e.reads;
    }
