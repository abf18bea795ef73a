use Rattle.rga_lines.proofs.Prelude.{◌≡◌, ◌∷◌, ◌++◌, [], take, length, decimal, refl, sym, ap, ◌∙◌, arith, decimal_digit}
use Rattle.rga_lines.proofs.FrontLemmas.{front_stays}
use Rattle.rga_lines.proofs.hundred.Hundred.behind.Goals as goal

pub invariant_of-result : goal.invariant_of-result
invariant_of-result c =
    let piece = c.args.piece.now in
    let first : take c.put-end.result c.put-end.new.bytes ≡ piece = c.put-end.ensures.put in
    let more : take c.put-end-2.result c.put-end-2.new.bytes ≡ piece ++ (49 ∷ []) = c.put-end-2.ensures.put ∙ ap (λ l. l ++ 49 ∷ []) first in
    let kept : take (length piece) c.put-end-2.new.bytes ≡ piece = front_stays (length piece) c.put-end-2.result c.put-end-2.new.bytes piece (49 ∷ []) more refl (omega arith) in
    let one : decimal 1 ≡ 49 ∷ [] = decimal_digit 1 (omega arith) in
    let held : take c.put-end-2.result c.put-end-2.new.bytes ≡ take (length piece) c.put-end-2.new.bytes ++ decimal 1 = more ∙ ap (λ l. l ++ 49 ∷ []) (sym kept) ∙ ap (λ l. take (length piece) c.put-end-2.new.bytes ++ l) (sym one) in
    (held, refl, omega arith, omega arith, omega arith)

pub returns : goal.returns
returns c =
    let piece = c.args.piece.now in
    let first : take c.put-end.result c.put-end.new.bytes ≡ piece = c.put-end.ensures.put in
    let more : take c.put-end-2.result c.put-end-2.new.bytes ≡ piece ++ (49 ∷ []) = c.put-end-2.ensures.put ∙ ap (λ l. l ++ 49 ∷ []) first in
    front_stays (length piece) c.put-end-2.result c.put-end-2.new.bytes piece (49 ∷ []) more refl (omega arith)
