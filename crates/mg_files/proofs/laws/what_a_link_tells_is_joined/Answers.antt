use Rattle.mg_files.proofs.MeetingLaws.{exchange_joins, serve_joins}
use Rattle.mg_files.proofs.laws.what_a_link_tells_is_joined.Goals as goal

pub returns : goal.returns
returns g c = record { exchanges = exchange_joins; serves = serve_joins }
