-- What a replica holds is the content of the operations that it took.
use Rattle.std.proofs.Common.{arith, ◌≡◌, ℕ, List, [], ◌∷◌, ◌++◌, refl, sym, ap, ◌∙◌}
use Rattle.std.specs.Prelude.{Ok}
use Rattle.rga_ops.specs.Content.{Content, content_of, IsAgreed, HasSameOperations}
use Rattle.rga_ops.specs.Answer.{taken}
use Rattle.rga_ops.specs.Took.{Took, empty, one, list, merged}
use Rattle.rga_ops.proofs.ContentLaws.{join_nothing}
use Rattle.rga_ops.proofs.OperationLaws.{content_of-append, same_operations_same_content}
use Rattle.rga_ops.proofs.TakenLaws.{taken_is}
use Rattle.rga_ops.specs.declared.op.Op.{Op}

pub took_content : (ops : List Op) (c : Content) → Took ops c → c ≡ content_of ops
took_content ops c (empty nil is) = is ∙ sym (ap content_of nil)
took_content ops c (one before d op t more is) = grind (arith, join_nothing, content_of-append, took_content before d t)
took_content ops c (list before d put t more is) = grind (arith, content_of-append, took_content before d t)
took_content ops c (merged own d others e t u both is) = grind (arith, content_of-append, took_content own d t, took_content others e u)

-- replicas that took the same operations hold the same
pub took_same : (xs ys : List Op) (c d : Content) → Took xs c → Took ys d → IsAgreed xs → HasSameOperations xs ys → c ≡ d
took_same xs ys c d t u agreed same = took_content xs c t ∙ same_operations_same_content xs ys agreed same ∙ sym (took_content ys d u)

-- an operation that a replica takes, be it new or known, is one that it took
pub took_taken : (limit : ℕ) (ops : List Op) (c d : Content) (op : Op) → Took ops c → taken limit c op ≡ Ok d → Took (ops ++ op ∷ []) d
took_taken limit ops c d op t h = one ops c op t refl (taken_is limit c op d h).joined
