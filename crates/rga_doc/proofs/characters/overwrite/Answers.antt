use Rattle.rga_doc.proofs.Prelude.{◌≡◌, ◌+◌, ◌-◌, ◌++◌, ℕ, List, take, drop, length, sym, ap, ◌∙◌, arith, append_assoc, take_at, drop-drop, spliced}
use Rattle.rga_doc.proofs.SplicedCharacters.{length-spliced}
use borrow.Rule.Slice.PartMut.{post_of}
use Rattle.rga_doc.proofs.characters.overwrite.Goals as goal

-- what is put stands between what stands before it and behind it
pub returns-clause-items : goal.returns-clause-items
returns-clause-items c =
    let old : List ℕ = c.args.places.now.items in
    let put : List ℕ = c.args.put.now in
    let lo : ℕ = c.args.lo in
    let lent : List ℕ = c.deref_mut.result.now in
    let n : ℕ = lo + length put - lo in
    let end : lo + n ≡ lo + length put = omega arith in
    let same : lent ≡ old = c.deref_mut.ensures.value in
    let back : post_of lo n lent ≡ drop (lo + length put) old = drop-drop n lo lent ∙ (λ k. drop (end k) (same k)) in
    let written : List ℕ = take lo lent ++ (c.copy_from_slice.new.self ++ post_of lo n lent) in
    let is : written ≡ spliced old lo (lo + length put) put = (λ k. take lo (same k) ++ (c.copy_from_slice.ensures.after k ++ back k)) ∙ sym (append_assoc (take lo old) put (drop (lo + length put) old)) in
    let count : length (spliced old lo (lo + length put) put) + (lo + length put) ≡ lo + length put + length old = length-spliced old put lo (lo + length put) (omega arith) c.requires in
    let long : length written ≡ c.args.places.now.len = ap length is ∙ omega (arith, count, c.args.places.now.ok.0) in
    take_at written (drop (length written) old) c.args.places.now.len long ∙ is
