use Rattle.std.proofs.Common.{subst}
use Rattle.clap.specs.Matches.{found_of}
use Rattle.clap.specs.Walk.{rows_of}
use Rattle.mgr_args.specs.Given.{GivesNameIf}
use Rattle.mgr_args.proofs.given.merging_of.Goals as goal

pub returns : goal.returns
returns c = record {
  name = subst (GivesNameIf (rows_of (found_of c.args.found.now))) c.in-Some.is c.in_ok-name.ensures;
  logs = c.in_ok-logs_of.ensures;
  adopt = c.has_flag.ensures;
}
