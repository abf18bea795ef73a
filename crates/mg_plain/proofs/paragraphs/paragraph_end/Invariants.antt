use Rattle.std.proofs.Common.{length, ◌-◌, ◌≡◌, ◌≤◌}
use Rattle.mg_plain.specs.Paragraphs.{ends_paragraph}
use Rattle.mg_plain.specs.Scans.{least_from}
use Rattle.mg_plain.proofs.paragraphs.paragraph_end.Given as goal

abbrev pub invariant-loop-q : goal.invariant-loop-q
invariant-loop-q l = record { same : least_from (ends_paragraph l.text) l.fn.point (length l.text) ≡ least_from (ends_paragraph l.text) l.q (length l.text); behind : l.fn.point ≤ l.q; within : l.q ≤ length l.text }

abbrev pub decreases-loop-q : goal.decreases-loop-q
decreases-loop-q l = length l.text - l.q
