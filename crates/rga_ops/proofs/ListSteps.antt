-- A list of operations, one operation on.
use Rattle.std.proofs.Common.{◌≡◌, ℕ, ◌+◌, ◌<◌, false, cond, List, [], ◌∷◌, ◌++◌, drop, length, get_or, sym, ap, ◌∙◌, arith}
use Rattle.std.specs.Prelude.{Some, None, Err, ◌≢◌}
use Rattle.std.specs.FinMap as finite_map
use Rattle.std.specs.FinSet as finite_set
use Rattle.std.proofs.lemmas.List.{drop_more}
use Rattle.rga_ops.specs.Identifier.{Identifier}
use Rattle.rga_ops.specs.Operation.{id_of}
use Rattle.rga_ops.specs.Content.{element, Content, known_ids, join, single, content_of}
use Rattle.rga_ops.specs.ListAnswer.{all_checked, has_another, first_conflict}
use Rattle.rga_ops.proofs.IdentifierLaws.{is, same_id}
use Rattle.rga_ops.proofs.ContentLaws.{get-join, join_assoc, join_nothing}
use Rattle.rga_ops.proofs.OperationLaws.{get-single, content_of-append}
use Rattle.rga_ops.proofs.KnownLaws.{known_taken}
use Rattle.rga_ops.proofs.DeletionLaws.{inserted-deletion}
use Rattle.rga_ops.proofs.ListAnswerLaws.{ill_formed_refusal, first_conflict-append}
use Rattle.rga_ops.specs.declared.op.Op.{Op}
use Rattle.rga_ops.specs.declared.op.Op.TheVariants.{Insert, Delete}
use Rattle.rga_ops.specs.Memory.{Memory}

-- what is left of a list from an index on
pub from : {A : Type 0} (xs : List A) (i : ℕ) (x : A) → i < length xs → x ≡ get_or xs i x → drop i xs ≡ x ∷ drop (i + 1) xs
from xs i x within is = drop_more xs i x within ∙ ap (λ y. y ∷ drop (i + 1) xs) (sym is)

pub join_more : (c : Content) (ops : List Op) (op : Op) → join c (content_of (ops ++ op ∷ [])) ≡ join (join c (content_of ops)) (single op)
join_more c ops op = grind (arith, content_of-append, join_nothing, join_assoc)

-- one identifier more is known, unless it was
pub known_more : (c : Content) (ops : List Op) (op : Op) → known_ids (join c (content_of (ops ++ op ∷ []))) ≡ finite_set.insert (known_ids (join c (content_of ops))) (id_of op)
known_more c ops op = ap known_ids (join_more c ops op) ∙ known_taken (join c (content_of ops)) op

-- an insertion of an identifier that is not inserted
pub get-insertion : (c : Content) (id parent : Identifier) (ch : ℕ) (q : Identifier) → finite_map.get c.inserted id ≡ None → finite_map.get (join c (single (Insert id parent ch))).inserted q ≡ cond (is q id) (Some (element parent ch)) (finite_map.get c.inserted q)
get-insertion c id parent ch q absent = grind (arith, get-join c (single (Insert id parent ch)) q, get-single id parent ch q, same_id q id)

-- a deletion leaves the insertions
pub get-deletion : (c : Content) (id q : Identifier) → finite_map.get (join c (single (Delete id))).inserted q ≡ finite_map.get c.inserted q
get-deletion c id q = ap (λ inserted. finite_map.get inserted q) (inserted-deletion c id)

-- no conflict comes with an operation that does not conflict
pub free_more : (c : Content) (ops : List Op) (op : Op) → first_conflict c ops ≡ None → has_another (join c (content_of ops)) op ≡ false → first_conflict c (ops ++ op ∷ []) ≡ None
free_more c ops op free other = grind (arith, first_conflict-append c ops (op ∷ []))

-- an ill-formed operation is never refused for want of memory
pub checked_without_memory : (ops : List Op) → all_checked ops ≢ Err Memory
checked_without_memory ops h = grind (arith, ill_formed_refusal ops Memory h)
