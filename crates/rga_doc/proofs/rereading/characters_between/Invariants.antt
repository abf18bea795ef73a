use Rattle.rga_doc.proofs.Prelude.{◌≡◌, map, take, Some, character}
use Rattle.rga_doc.proofs.rereading.characters_between.Given as goal

-- the characters of the elements so far
abbrev pub invariant-loop-id : goal.invariant-loop-id
invariant-loop-id g l = map Some l.characters.items ≡ map (character (g.S.Taker.content l.store)) (take l.id-index l.id-items)
