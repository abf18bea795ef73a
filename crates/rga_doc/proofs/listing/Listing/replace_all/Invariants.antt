use Rattle.rga_doc.proofs.Prelude.{◌≡◌, ◌≤◌, true, drop, length, text_after, are_falling, new_characters}
use Rattle.rga_doc.proofs.listing.Listing.replace_all.Given as goal

-- the splices that are left complete those that were wanted, and find their places and room
abbrev pub invariant-loop-splice : goal.invariant-loop-splice
invariant-loop-splice l = record {
  characters : text_after l.self.characters.items (drop l.splice-index l.splices) ≡ text_after l.fn.self.characters.items l.splices;
  listed : l.self.listed ≡ l.fn.self.listed;
  falling : are_falling (length l.self.characters.items) (drop l.splice-index l.splices) ≡ true;
  room : new_characters (drop l.splice-index l.splices) ≤ l.self.characters.room;
}
