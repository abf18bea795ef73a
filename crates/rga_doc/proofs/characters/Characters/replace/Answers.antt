use Rattle.rga_doc.proofs.Prelude.{◌≡◌, ◌+◌, ℕ, List, drop, length, length-drop, ap, ◌∙◌, arith, spliced}
use Rattle.rga_doc.specs.Characters.{CharacterList}
use Rattle.rga_doc.proofs.CharacterLaws.{splice_behind}
use Rattle.rga_doc.proofs.characters.Characters.replace.Goals as goal

pub overwrite-requires : goal.overwrite-requires
overwrite-requires c =
    let long : length (drop c.self.inside.start c.self.inside.places.items) ≡ length c.args.self.now.items = ap (λ (l : CharacterList). length l.items) c.self.view_is in
    let rest = length-drop c.self.inside.start c.self.inside.places.items in
    omega (arith, long, rest, c.if-put-hi.true, c.requires.ordered, c.requires.in_list, c.self.invariant)

pub replace_and_move_front-self-inside-requires-clause-in_list : goal.replace_and_move_front-self-inside-requires-clause-in_list
replace_and_move_front-self-inside-requires-clause-in_list c =
    let long : length (drop c.self.inside.start c.self.inside.places.items) ≡ length c.args.self.now.items = ap (λ (l : CharacterList). length l.items) c.self.view_is in
    let rest = length-drop c.self.inside.start c.self.inside.places.items in
    omega (arith, long, rest, c.requires.in_list, c.self.invariant)

pub replace_and_move_tail-requires-clause-in_list : goal.replace_and_move_tail-requires-clause-in_list
replace_and_move_tail-requires-clause-in_list c =
    let long : length (drop c.self.inside.start c.self.inside.places.items) ≡ length c.args.self.now.items = ap (λ (l : CharacterList). length l.items) c.self.view_is in
    let rest = length-drop c.self.inside.start c.self.inside.places.items in
    omega (arith, long, rest, c.requires.in_list, c.self.invariant)

-- as many are put as are taken out
pub returns-then-put-hi-clause-items : goal.returns-then-put-hi-clause-items
returns-then-put-hi-clause-items c =
    let places : List ℕ = c.self.inside.places.items in
    let put : List ℕ = c.args.put.now in
    let start : ℕ = c.self.inside.start in
    let lo : ℕ = c.args.lo in
    let hi : ℕ = c.args.hi in
    let long : length (drop start places) ≡ length c.args.self.now.items = ap (λ (l : CharacterList). length l.items) c.self.view_is in
    let rest = length-drop start places in
    let end : start + lo + length put ≡ start + hi = omega (arith, c.if-put-hi.true, c.requires.ordered) in
    ap (drop start) (c.overwrite.ensures.items ∙ ap (λ n. spliced places (start + lo) n put) end)
    ∙ splice_behind places put start lo hi (omega (arith, long, rest, c.requires.ordered, c.requires.in_list, c.self.invariant))
    ∙ ap (λ (l : CharacterList). spliced l.items lo hi put) c.self.view_is

pub returns-then-lo-put-clause-items : goal.returns-then-lo-put-clause-items
returns-then-lo-put-clause-items c =
    c.replace_and_move_front-self-inside.ensures.items
    ∙ ap (λ (l : CharacterList). spliced l.items c.args.lo c.args.hi c.args.put.now) c.self.view_is

-- what is spliced in the places is spliced in the characters
pub returns-else-lo-len-clause-items : goal.returns-else-lo-len-clause-items
returns-else-lo-len-clause-items c =
    let places : List ℕ = c.self.inside.places.items in
    let start : ℕ = c.self.inside.start in
    let long : length (drop start places) ≡ length c.args.self.now.items = ap (λ (l : CharacterList). length l.items) c.self.view_is in
    let rest = length-drop start places in
    ap (drop start) c.replace_and_move_tail.ensures.items
    ∙ splice_behind places c.args.put.now start c.args.lo c.args.hi (omega (arith, long, rest, c.requires.ordered, c.requires.in_list, c.self.invariant))
    ∙ ap (λ (l : CharacterList). spliced l.items c.args.lo c.args.hi c.args.put.now) c.self.view_is
