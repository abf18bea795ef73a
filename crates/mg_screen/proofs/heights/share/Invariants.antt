use Rattle.std.proofs.Common.{◌≡◌, ◌≤◌, ◌+◌, ◌-◌, ◌*◌, ◌++◌, take, drop, length}
use Rattle.mg_screen.specs.Layout.{shared}
use Rattle.mg_screen.proofs.heights.share.Given as goal

abbrev pub invariant-loop-i : goal.invariant-loop-i
invariant-loop-i l = record {
  told : take l.i l.heights.items ++ shared l.room (drop l.i l.heights.items) ≡ shared l.fn.rows l.fn.heights.items;
  whole : l.last + 1 ≡ length l.heights.items;
  enough : 2 * (l.last + 1 - l.i) ≤ l.room;
}
