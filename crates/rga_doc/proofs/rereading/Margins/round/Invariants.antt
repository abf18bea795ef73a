use Rattle.rga_doc.proofs.Prelude.{◌≤◌, take, AllBetween}
use Rattle.rga_doc.proofs.rereading.Margins.round.Given as goal

-- the elements so far stand between
abbrev pub invariant-loop-op : goal.invariant-loop-op
invariant-loop-op g l = record {
  between : AllBetween (g.S.Taker.content l.store) l.margins.front l.margins.back (take l.op-index l.ops);
  front : l.margins.front ≤ l.fn.self.front;
  back : l.margins.back ≤ l.fn.self.back;
}
