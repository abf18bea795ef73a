use Rattle.std.proofs.Common.{refl, Ok, Err}
use Rattle.mgr.proofs.shell.mend.Goals as goal

pub returns-in-Ok-clause-status : goal.returns-in-Ok-clause-status
returns-in-Ok-clause-status g c =
    let e = c.in-Ok.ensures in
    record {
      answer = Ok c.in-Ok.left_out;
      between = _;
      left_out = e.left_out;
      keeps = e.mended;
      gained = e.gained;
      follows = c.put_mended.ensures.status;
      exact = tt;
      told_line = tt;
      unwritten = tt;
      begun = tt;
      untouched = tt;
      others = (e.others, e.others_refused);
      device = e.device;
    }

pub returns-in-Err-clause-status : goal.returns-in-Err-clause-status
returns-in-Err-clause-status g c =
    let e = c.in-Err.ensures in
    record {
      answer = Err c.in-Err.fault;
      between = _;
      left_out = tt;
      keeps = tt;
      gained = tt;
      follows = tt;
      exact = c.told_of_note.ensures.status;
      told_line = c.told_of_note.ensures.told;
      unwritten = (refl, refl);
      begun = e.begun;
      untouched = e.untouched;
      others = (e.others, e.others_refused);
      device = e.device;
    }
