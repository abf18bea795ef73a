use Rattle.std.proofs.Common.{◌≤◌, ℕ, List, length, get_or}
use Rattle.std.specs.Prelude.{Option, string_bytes}
use Rattle.rga_records.specs.Links.{AreCodes, IsLinkChain}
use Rattle.rga_records.proofs.WalkLaws.{IsLeft}
use Rattle.rga_records.proofs.walking.read_along.Given as goal

-- what is read, and what is left from the node on, is all
abbrev pub invariant-loop : goal.invariant-loop
invariant-loop l = (chain : List ℕ) (kept : List (Option ℕ)) → AreCodes l.shown kept → IsLinkChain l.next (get_or l.next 0 0) chain → length chain ≤ length kept → IsLeft l.next kept chain l.node l.index (string_bytes l.string)
