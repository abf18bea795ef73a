use Rattle.std.proofs.Common.{◌≡◌, ◌≤◌}
use Rattle.mg_plain.specs.Paragraphs.{begins_paragraph}
use Rattle.mg_plain.specs.Scans.{greatest_up_to}
use Rattle.mg_plain.proofs.paragraphs.paragraph_begin.Given as goal

abbrev pub invariant-loop-q : goal.invariant-loop-q
invariant-loop-q l = record { same : greatest_up_to (begins_paragraph l.text) l.fn.point ≡ greatest_up_to (begins_paragraph l.text) l.q; within : l.q ≤ l.fn.point }

abbrev pub decreases-loop-q : goal.decreases-loop-q
decreases-loop-q l = l.q
