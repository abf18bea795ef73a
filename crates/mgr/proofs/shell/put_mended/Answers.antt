use Rattle.std.proofs.Common.{refl, Ok, Err}
use Rattle.mgr.proofs.shell.put_mended.Goals as goal

pub returns-in-Ok-clause-status : goal.returns-in-Ok-clause-status
returns-in-Ok-clause-status g c = record {
  answer = Ok c.in-Ok.field-0;
  put = c.in-Ok.ensures.put;
  note = tt;
  begun = tt;
  device = c.in-Ok.ensures.calls;
  print_status = c.print.result;
  between = _;
  printed = c.print.ensures.status;
  done = (refl, refl);
  exact = tt;
  told_line = tt;
}

pub returns-in-Err-clause-status : goal.returns-in-Err-clause-status
returns-in-Err-clause-status g c = record {
  answer = Err c.in-Err.fault;
  put = tt;
  note = c.in-Err.ensures.not_loaded;
  begun = c.in-Err.ensures.begun;
  device = c.in-Err.ensures.calls;
  print_status = c.print-in-Err.result;
  between = _;
  printed = c.print-in-Err.ensures.status;
  done = tt;
  exact = c.told_of_merge.ensures.status;
  told_line = c.told_of_merge.ensures.told;
}
