use Rattle.rga_doc.proofs.Prelude.{◌≡◌, ◌≤◌, ◌+◌, ◌-◌, ℕ, List, ◌++◌, take, drop, replicate, sym, ap, ◌∙◌, arith, drop_at, drop-drop, length-replicate, Identifier, root, Excerpted}
use Rattle.rga_doc.proofs.SplicedCharacters.{part}
use Rattle.rga_doc.proofs.excerpt.Excerpt.between.Goals as goal

-- what is cut out of the part is cut out of the list that begins at the front of the text
pub returns : goal.returns
returns c =
    let start : ℕ = c.self.inside.start in
    let lo : ℕ = c.args.lo in
    let hi : ℕ = c.args.hi in
    let elements : List Identifier = c.deref.result.now in
    let all : List Identifier = replicate start root ++ elements in
    let is : all ≡ c.args.self.now.items = ap (λ xs. replicate start root ++ xs) c.deref.ensures.value ∙ ap (λ (e : Excerpted). e.items) c.self.view_is in
    let from : start ≤ lo = omega (arith, ap (λ (e : Excerpted). e.start) c.self.view_is, c.requires.begin) in
    let on : lo ≡ start + (lo - start) = omega (arith, from) in
    let count : hi - start - (lo - start) ≡ hi - lo = omega (arith, from, c.requires.ordered) in
    let tail : drop lo all ≡ drop (lo - start) elements =
    ap (λ n. drop n all) on ∙ sym (drop-drop (lo - start) start all) ∙ ap (drop (lo - start)) (drop_at (replicate start root) elements start (length-replicate start root)) in
    ap (λ n. take n (drop (lo - start) elements)) count ∙ ap (take (hi - lo)) (sym tail) ∙ part all lo hi c.requires.ordered
    ∙ ap (λ xs. drop lo (take hi xs)) is
