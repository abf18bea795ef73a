use Rattle.mg_events.proofs.WrittenLaws.{stream_read, keys_read, report_read, long_refused, dropped_read_to_end, report_cut}
use Rattle.mg_events.proofs.laws.what_is_written_is_read.Goals as goal

pub returns : goal.returns
returns c = record {
  stream = stream_read;
  keys = keys_read;
  report = report_read;
  long = long_refused;
  dropped = dropped_read_to_end;
  cut = report_cut;
}
