use Rattle.std.proofs.Common.{◌≡◌, take, map}
use Rattle.mgr_mend.specs.Parts.{judged, AreWritableIfSound}
use Rattle.mgr_mend.proofs.judging.judge.Given as goal

abbrev pub invariant-loop-op : goal.invariant-loop-op
invariant-loop-op l = record {
  listed : l.list.items ≡ map (judged l.ops) (take l.op-index l.ops);
  writable : AreWritableIfSound (take l.op-index l.ops);
}
