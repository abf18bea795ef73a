-- Operations that are told one by one, and listed.
use Rattle.std.proofs.Common.{◌≡◌, List, [], ◌++◌, sym, ap, ◌∙◌, append_assoc}
use Rattle.std.proofs.lemmas.List.{append-nil}
use Rattle.rga_ops.specs.declared.op.Op.{Op}

-- to be told nothing adds nothing
pub lists_nothing : (s : List Op) → s ≡ s ++ []
lists_nothing s = sym (append-nil s)

-- operations may be told in parts
pub lists_on : {t u : List Op} (s xs ys : List Op) → t ≡ s ++ xs → u ≡ t ++ ys → u ≡ s ++ (xs ++ ys)
lists_on s xs ys first second = second ∙ ap (λ ops. ops ++ ys) first ∙ append_assoc s xs ys
