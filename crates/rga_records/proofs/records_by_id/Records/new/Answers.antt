use Rattle.std.proofs.Common.{nat_le, sym, subst, arith}
use Rattle.std.proofs.lemmas.Bool.{and_from, le-leb}
use Rattle.rga_records.specs.Records.{AreRecords}
use Rattle.rga_records.proofs.CountedLaws.{no_records}
use Rattle.rga_records.proofs.records_by_id.Records.new.Goals as goal

pub invariant_of-result : goal.invariant_of-result
invariant_of-result c =
    subst (λ es. AreRecords es 0 0 0 c.args.limit) (sym c.new.ensures)
    (no_records c.args.limit (and_from (nat_le 1 c.args.limit) (nat_le c.args.limit 1000000) (le-leb 1 c.args.limit (omega arith)) (le-leb c.args.limit 1000000 (omega arith))))
