use Rattle.std.proofs.Common.{◌≡◌, ℕ, List, drop, map}
use Rattle.std.specs.Prelude.{IfSome, string_bytes}
use Rattle.mgr_show.specs.Joined.{all_told}
use Rattle.mgr_show.proofs.LeftLogLemmas.{TellsLeft}
use Rattle.mgr_show.proofs.join.take_logs.Given as goal

abbrev pub invariant-loop-index : goal.invariant-loop-index
invariant-loop-index g l =
    let told = all_told (g.S.Sources.contents l.fn.sources) in
    record {
      left : IfSome (told (map string_bytes l.names)) (TellsLeft (g.T.Taker.limit l.fn.taker) (g.T.Taker.content l.fn.taker) (g.T.Taker.content l.taker) l.index l.fn.deletion_runs l.deletion_runs (told (map string_bytes (drop l.index l.names))));
      same : (other : List ℕ) → g.S.Sources.contents l.sources other ≡ g.S.Sources.contents l.fn.sources other;
      failures : g.S.Sources.failures l.sources ≡ g.S.Sources.failures l.fn.sources;
      limit : g.T.Taker.limit l.taker ≡ g.T.Taker.limit l.fn.taker;
    }
