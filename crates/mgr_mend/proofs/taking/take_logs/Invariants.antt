use Rattle.std.proofs.Common.{◌≡◌, ℕ, List, drop, map}
use Rattle.std.specs.Prelude.{IfSome, string_bytes}
use Rattle.rga_ops.specs.Content.{clock_of}
use Rattle.mgr_show.specs.Joined.{all_told}
use Rattle.mgr_mend.specs.Taking.{HasTaken}
use Rattle.mgr_mend.proofs.TakingLemmas.{LeadsLeft}
use Rattle.mgr_mend.proofs.taking.take_logs.Given as goal

abbrev pub invariant-loop-index : goal.invariant-loop-index
invariant-loop-index g l =
    let told = all_told (g.F.Sources.contents l.fn.sources) in
    record {
      left : IfSome (told (map string_bytes l.logs)) (LeadsLeft l.adopt (clock_of l.fn.buffer.content) l.fn.buffer.limit l.fn.buffer.content l.buffer.content l.index l.torn.items (told (map string_bytes (drop l.index l.logs))));
      same : (other : List ℕ) → g.F.Sources.contents l.sources other ≡ g.F.Sources.contents l.fn.sources other;
      failures : g.F.Sources.failures l.sources ≡ g.F.Sources.failures l.fn.sources;
      limit : l.buffer.limit ≡ l.fn.buffer.limit;
      taken : HasTaken l.fn.buffer l.buffer;
    }
