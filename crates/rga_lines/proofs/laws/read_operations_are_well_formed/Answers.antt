use Rattle.rga_lines.proofs.ReadingLemmas.{any_well_formed, well_formed}
use Rattle.rga_lines.proofs.laws.read_operations_are_well_formed.Goals as goal

pub returns : goal.returns
returns c = record { any = any_well_formed; operation = well_formed }
