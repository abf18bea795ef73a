use Rattle.std.proofs.Common.{subst, sym}
use Rattle.std.specs.contracts.prelude.BoolFromStr.TheImpl.{from_str_gives-value}
use Rattle.clap.specs.Matches.{found_of}
use Rattle.clap.specs.Walk.{rows_of}
use Rattle.mgr_args.specs.Given.{GivesFlag}
use Rattle.mgr_args.proofs.GivenLemmas.{flag_read}
use Rattle.mgr_args.proofs.given.has_flag.Goals as goal

pub returns : goal.returns
returns c =
    subst (GivesFlag (rows_of (found_of c.args.found.now)) c.args.id.now) (sym c.unwrap_or.ensures)
    (flag_read from_str_gives-value.it (found_of c.args.found.now) c.args.id.now c.get_one.result (λ text read is. is)
    c.get_one.ensures.none c.get_one.ensures.value)
