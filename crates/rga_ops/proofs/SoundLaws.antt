-- Sound contents: taking a well-formed operation keeps a content sound.
use Rattle.std.proofs.Common.{◌≡◌, [], ◌∷◌, sym, ap, ◌∙◌, inl, inr, arith}
use Rattle.std.specs.Prelude.{◌⊎◌, Ok, Contains}
use Rattle.std.specs.FinMap as finite_map
use Rattle.std.specs.FinSet as finite_set
use Rattle.rga_ops.specs.Operation.{checked}
use Rattle.rga_ops.specs.Content.{element, Content, join, single, Holds, IsSound}
use Rattle.rga_ops.proofs.ContentLaws.{get-join, contains-join, join_nothing}
use Rattle.rga_ops.proofs.OperationLaws.{content_inserted, content_deleted, Contains-cases, Contains-nil}
use Rattle.rga_ops.specs.declared.op.Op.{Op}
use Rattle.rga_ops.specs.declared.op.Op.TheVariants.{Insert, Delete}

-- the content of one operation holds no other
pub single_only : (op other : Op) → Holds (single op) other → op ≡ other
single_only op other h = elim (Contains-cases op other [] (listed other h)) [
  | inl same ↦ same
  | inr later ↦ absurd (Contains-nil other later)
]
  where
    listed : (other : Op) → Holds (single op) other → Contains (op ∷ []) other
    listed (Insert id parent ch) h = content_inserted (op ∷ []) id (element parent ch) (ap (λ (e : Content). finite_map.get e.inserted id) (join_nothing (single op)) ∙ h)
    listed (Delete id) h = content_deleted (op ∷ []) id (ap (λ (e : Content). finite_set.contains e.deleted id) (join_nothing (single op)) ∙ h)

-- each operation of a join is one of the first or of the second
pub join_holds : (c d : Content) (op : Op) → Holds (join c d) op → Holds c op ⊎ Holds d op
join_holds c d op h = grind (arith, get-join, contains-join)

pub sound_after : (c : Content) (op : Op) → IsSound c → checked op ≡ Ok tt → IsSound (join c (single op))
sound_after c op sound well_formed other h = elim (join_holds c (single op) other h) [
  | inl old ↦ sound other old
  | inr new ↦ ap checked (sym (single_only op other new)) ∙ well_formed
]
