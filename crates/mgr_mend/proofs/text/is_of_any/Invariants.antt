use Rattle.std.proofs.Common.{◌≡◌, ℕ, List, drop, map}
use Rattle.std.specs.Prelude.{IfSome, string_bytes}
use Rattle.mgr_show.specs.Joined.{all_told}
use Rattle.mgr_mend.specs.Merging.{is_text_of}
use Rattle.mgr_mend.proofs.TakingLemmas.{AnyLeft}
use Rattle.mgr_mend.proofs.text.is_of_any.Given as goal

abbrev pub invariant-loop-index : goal.invariant-loop-index
invariant-loop-index g l =
    let told = all_told (g.F.Sources.contents l.fn.sources) in
    record {
      left : IfSome (told (map string_bytes l.logs)) (AnyLeft (is_text_of l.text) (told (map string_bytes (drop l.index l.logs))));
      same : (other : List ℕ) → g.F.Sources.contents l.sources other ≡ g.F.Sources.contents l.fn.sources other;
      failures : g.F.Sources.failures l.sources ≡ g.F.Sources.failures l.fn.sources;
    }
