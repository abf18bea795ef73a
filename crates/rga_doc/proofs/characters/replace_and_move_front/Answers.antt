use Rattle.rga_doc.proofs.Prelude.{◌≡◌, ◌+◌, ◌-◌, ◌≤◌, max, ℕ, List, take, drop, length, sym, ap, ◌∙◌, arith, spliced}
use Rattle.rga_doc.proofs.SplicedCharacters.{part}
use Rattle.rga_doc.proofs.CharacterLaws.{front_moved, still_behind}
use Rattle.rga_doc.proofs.characters.replace_and_move_front.Goals as goal

-- what is put stands between what was moved and what stays
pub returns-clause-items : goal.returns-clause-items
returns-clause-items c =
    let old : List ℕ = c.args.places.now.items in
    let now : List ℕ = c.shift.new.characters.items in
    let put : List ℕ = c.args.put.now in
    let start : ℕ = c.args.start in
    let lo : ℕ = c.args.lo in
    let hi : ℕ = c.args.hi in
    let to : ℕ = start + hi - (lo + length put) in
    let fits : to + (lo + length put) ≡ start + hi = omega (arith, c.requires.room) in
    let end : to + lo + length put ≡ start + hi = omega (arith, fits) in
    let same : start + lo - start ≡ lo = omega arith in
    let up : start ≤ start + lo = omega arith in
    let front : take lo (drop to now) ≡ take lo (drop start old) =
    ap (λ n. take n (drop to now)) (sym same) ∙ c.shift.ensures.moved ∙ sym (part old start (start + lo) up) ∙ ap (λ n. take n (drop start old)) same in
    let last : max (start + lo) (to + (start + lo - start)) ≤ start + hi = omega (arith, c.requires.ordered, fits) in
    let behind : drop (start + hi) now ≡ drop (start + hi) old = still_behind now old (max (start + lo) (to + (start + lo - start))) (start + hi) last c.shift.ensures.behind in
    ap (drop to) (c.overwrite.ensures.items ∙ ap (λ n. spliced now (to + lo) n put) end)
    ∙ front_moved old now put start lo hi to c.requires.ordered c.requires.in_list c.shift.ensures.len fits front behind
