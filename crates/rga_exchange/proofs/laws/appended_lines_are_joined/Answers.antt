use Rattle.std.proofs.Common.{refl}
use Rattle.rga_exchange.proofs.AppendedLaws.{rest_ended, rest_appended, stands_appended}
use Rattle.rga_exchange.proofs.laws.appended_lines_are_joined.Goals as goal

pub returns : goal.returns
returns c = record { joined = stands_appended; ended = rest_appended; empty = refl; newline = rest_ended }
