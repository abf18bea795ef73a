use Rattle.std.proofs.Common.{◌≡◌, ◌+◌, ◌≤◌, ◌++◌, min, ℕ, List, take, length, ◌∙◌, arith}
use Rattle.rga_doc.proofs.SplicedCharacters.{same_begin}
use Rattle.rga_doc.proofs.characters.replace_and_move_tail.Goals as goal

-- what was moved stands behind what is put
pub returns-clause-items : goal.returns-clause-items
returns-clause-items c =
    let old : List ℕ = c.args.places.now.items in
    let now : List ℕ = c.move_tail.new.characters.items in
    let put : List ℕ = c.args.put.now in
    let lo : ℕ = c.args.lo in
    let hi : ℕ = c.args.hi in
    let low : lo ≤ min hi (lo + length put) = omega (arith, c.requires.ordered) in
    let front : take lo now ≡ take lo old = same_begin now old lo (min hi (lo + length put)) low c.move_tail.ensures.front in
    c.overwrite.ensures.items ∙ (λ k. (front k ++ put) ++ c.move_tail.ensures.tail k)
