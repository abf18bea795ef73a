use Rattle.rga_doc.proofs.Prelude.{◌≡◌, ◌≤◌, ◌+◌, ℕ, List, ◌∷◌, drop, length, sym, ap, ◌∙◌, arith, drop_more, Splice, spliced, text_after, are_falling, new_characters}
use Rattle.rga_doc.proofs.SplicedCharacters.{long-spliced}
use Rattle.rga_doc.proofs.FallingLaws.{falls_first, characters_left, falls_wider}
use Rattle.rga_doc.proofs.listing.Listing.replace_all.Goals as goal

-- the next splice is done, and the others are left
pub loop-splice-preserved : goal.loop-splice-preserved
loop-splice-preserved c =
    let splices : List Splice = c.args.splices.now in
    let i : ℕ = c.loop-splice.splice-index in
    let s : Splice = c.splice-item.result in
    let rest : List Splice = drop (i + 1) splices in
    let characters : List ℕ = c.loop-splice.self.characters.items in
    let put : c.as_slice-put.result.now ≡ s.put = c.as_slice-put.ensures.value ∙ ap (λ (x : Splice). x.put) c.splice.view_is in
    let begin : c.splice.inside.lo ≡ s.lo = ap (λ (x : Splice). x.lo) c.splice.view_is in
    let end : c.splice.inside.hi ≡ s.hi = ap (λ (x : Splice). x.hi) c.splice.view_is in
    let step : new_characters (drop i splices) ≡ length s.put + new_characters rest = characters_left splices i s c.loop-splice-test.true c.splice-item.is in
    let split : drop i splices ≡ s ∷ rest = drop_more splices i s c.loop-splice-test.true ∙ ap (λ x. x ∷ rest) (sym c.splice-item.is) in
    let new : c.replace.new.self.items ≡ spliced characters s.lo s.hi s.put = c.replace.ensures.items ∙ (λ k. spliced characters (begin k) (end k) (put k)) in
    let falls = falls_first s rest (length characters) (ap (are_falling (length characters)) (sym split) ∙ c.loop-splice.invariant.falling) in
    let reach : s.lo ≤ length (spliced characters s.lo s.hi s.put) = long-spliced characters s.put s.lo s.hi (omega (arith, falls.up, falls.within)) in
    let enough : s.lo ≤ length c.replace.new.self.items = omega (arith, ap length new, reach) in
    record {
      characters = ap (λ xs. text_after xs rest) new ∙ ap (text_after characters) (sym split) ∙ c.loop-splice.invariant.characters;
      listed = c.loop-splice.invariant.listed;
      falling = falls_wider rest s.lo (length c.replace.new.self.items) enough falls.further;
      room = omega (arith, step, ap length put, c.loop-splice.invariant.room, c.replace.ensures.room);
    }
