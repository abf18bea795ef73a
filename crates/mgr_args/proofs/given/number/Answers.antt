use Rattle.std.specs.contracts.prelude.U16FromStr.TheImpl.{from_str_gives-value}
use Rattle.clap.specs.Matches.{found_of}
use Rattle.mgr_args.proofs.GivenLemmas.{number_read}
use Rattle.mgr_args.proofs.given.number.Goals as goal

pub returns : goal.returns
returns c =
    number_read 16 from_str_gives-value.it (found_of c.args.found.now) c.args.id.now c.get_one.result (λ text read is. is.0)
    c.get_one.ensures.none c.get_one.ensures.value
