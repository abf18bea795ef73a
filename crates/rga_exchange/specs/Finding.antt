-- Where an operation is in a list whose insertions rise by identifier, with the deletions behind them, which rise too.
use Rattle.std.specs.Prelude.{◌≡◌, ℕ, Bool, true, false, ◌&&◌, ◌||◌, if◌then◌else◌, List, length, Option, Some, None}
use Rattle.std.specs.List.{AllWithin}
use Rattle.std.specs.Ordering.{is_lt}
use Rattle.rga_ops.specs.Identifier.{Identifier, id_cmp, is_id}
use Rattle.rga_ops.specs.declared.op.Op.{Op}
use Rattle.rga_ops.specs.declared.op.Op.TheVariants.{Insert, Delete}

-- the operation comes before the insertion of an identifier, or before its deletion
abbrev pub is_below : Bool → Identifier → Op → Bool
is_below deletion id (Insert at parent ch) = deletion || is_lt (id_cmp at id)
is_below deletion id (Delete at) = deletion && is_lt (id_cmp at id)

-- so does each before an index
abbrev pub AreBelowUpTo : Bool → Identifier → List Op → ℕ → Type 0
AreBelowUpTo deletion id ops place = AllWithin (λ op. is_below deletion id op ≡ true) ops 0 place

-- and none from an index on
abbrev pub AreNotBelowFrom : Bool → Identifier → List Op → ℕ → Type 0
AreNotBelowFrom deletion id ops place = AllWithin (λ op. is_below deletion id op ≡ false) ops place (length ops)

-- where that operation is, or would be
abbrev pub IsPlaceOf : Bool → Identifier → List Op → ℕ → Type 0
IsPlaceOf deletion id ops place = AreBelowUpTo deletion id ops place × AreNotBelowFrom deletion id ops place

-- the parent and the character of an operation, if it is the insertion of an identifier
abbrev pub element_of_op : Identifier → Op → Option (Identifier × ℕ)
element_of_op id (Insert at parent ch) = if is_id at id then Some (parent, ch) else None
element_of_op id (Delete at) = None

-- whether an operation is the deletion of an identifier
abbrev pub is_deletion_of : Identifier → Op → Bool
is_deletion_of id (Insert at parent ch) = false
is_deletion_of id (Delete at) = is_id at id
