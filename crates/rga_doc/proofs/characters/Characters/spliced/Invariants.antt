use Rattle.rga_doc.proofs.Prelude.{◌≡◌, ◌≤◌, true, take, drop, length, text_after, are_falling, end_of}
use Rattle.rga_doc.proofs.characters.Characters.spliced.Given as goal

-- what stood up to the end of the splices that were done is listed anew, as they leave it
abbrev pub invariant-loop-left : goal.invariant-loop-left
invariant-loop-left l = record {
  characters : l.next.items ≡ text_after (take l.end l.self.items) (drop l.left l.splices);
  end : l.end ≡ end_of (drop l.left l.splices);
  falling : are_falling l.end (drop l.left l.splices) ≡ true;
  left : l.left ≤ length l.splices;
}

abbrev pub decreases-loop-left : goal.decreases-loop-left
decreases-loop-left l = l.left
