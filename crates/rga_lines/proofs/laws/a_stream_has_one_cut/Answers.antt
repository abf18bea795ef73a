use Rattle.rga_lines.proofs.StreamLemmas.{is_cut, only_cut}
use Rattle.rga_lines.proofs.laws.a_stream_has_one_cut.Goals as goal

pub returns : goal.returns
returns c = record { is_cut = is_cut; only = only_cut }
