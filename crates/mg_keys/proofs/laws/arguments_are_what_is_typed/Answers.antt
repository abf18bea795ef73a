use Rattle.mg_keys.proofs.ArgumentLaws.{no_argument, powers_of_four, numbers_written}
use Rattle.mg_keys.proofs.laws.arguments_are_what_is_typed.Goals as goal

pub returns : goal.returns
returns c = record { none = no_argument; universals = powers_of_four; digits = numbers_written }
