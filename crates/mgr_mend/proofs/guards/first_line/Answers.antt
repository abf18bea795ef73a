use Rattle.std.proofs.Common.{ℕ, ◌+◌, ◌<◌, List, ◌∷◌, length, take, sym, ap, subst, ◌∙◌}
use Rattle.std.proofs.lemmas.List.{take_rest}
use Rattle.mgr_mend.specs.Mending.{all_lines}
use Rattle.mgr_mend.proofs.LinesLemmas.{FirstPart, first_part, all_lines-first, all_lines-only, shorter}
use Rattle.mgr_mend.proofs.guards.first_line.Goals as goal

pub returns-in-None : goal.returns-in-None
returns-in-None c = all_lines-only c.args.bytes.now c.in-None.ensures

pub returns-in-Some : goal.returns-in-Some
returns-in-Some c =
    let bytes : List ℕ = c.args.bytes.now in
    let n : ℕ = c.in-Some.end in
    let first : FirstPart bytes n = first_part bytes n c.in-Some.ensures in
    let behind = sym (take_rest bytes (n + 1)) in
    (all_lines-first bytes n first ∙ ap (λ (b : List ℕ). take n bytes ∷ all_lines b) behind, subst (λ (b : List ℕ). length b < length bytes) behind (shorter bytes n first))
