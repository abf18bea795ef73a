-- Entries in pages, and the places in these.
use Rattle.std.specs.Prelude.{◌≡◌, ℕ, Bool, true, false, cond, is_some, List, [], ◌∷◌, drop, slice_index_or, Option, Some, None}
use Rattle.std.specs.Ordering.{is_gt, is_lt, eq_by_cmp}
use Rattle.std.specs.List.{AllByRecursion}
use Rattle.std.specs.List.Sorted.{IsStrictlySortedBy}
use Rattle.std.specs.Map.{keys_of, lookup}
use Rattle.rga_ops.specs.Identifier.{Identifier, id_cmp}
use Rattle.rga_pages.specs.declared.entry.Record.{Record}
pub use Rattle.rga_pages.specs.Parts.{flat as entries_in, before as entries_before, behind as entries_behind, IsPlace as IsPlaceInPages, AreFilled as AreFilledPages}

-- records under their identifiers
abbrev pub Entries : Type 0
Entries = List (Identifier × Record)

-- the identifiers rise
abbrev pub AreOrdered : Entries → Type 0
AreOrdered es = IsStrictlySortedBy id_cmp (keys_of es)

-- the record of an identifier
abbrev pub record_of : Identifier → Entries → Option Record
record_of id es = lookup (eq_by_cmp id_cmp id) es

-- the records are as they were, but at the identifier
abbrev pub Updates : Entries → Entries → Identifier → Option Record → Type 0
Updates old new id value = (q : Identifier) → record_of q new ≡ cond (eq_by_cmp id_cmp id q) value (record_of q old)

-- a record, if there is one, that says that its element may stand there
abbrev pub noted : ℕ → ℕ → Option Record → Option Record
noted block index None = None
noted block index (Some r) = Some (record r { block = block; index = index })

-- a record, if there is one, with a mark
abbrev pub marked : Option Record → Option Record
marked None = None
marked (Some r) = Some (record r { deleted = true })

-- there is a record, with an element and without a mark
abbrev pub IsUnmarked : Option Record → Type 0
IsUnmarked None = ⊥
IsUnmarked (Some r) = (is_some r.ch ≡ true) × (r.deleted ≡ false)

-- the identifier is that of the first entry, if there is one
abbrev pub BeginsWith : Identifier → Entries → Type 0
BeginsWith id [] = Unit {0}
BeginsWith id (e ∷ es) = id ≡ e.0

-- what pages keep
pub record ArePages (ps : List Entries) : Type 0 where
  pub ordered : AreOrdered (entries_in ps)
  pub filled : AreFilledPages ps

-- ---- where an identifier is

-- each entry's identifier is less
abbrev pub AreBelow : Identifier → Entries → Type 0
AreBelow id es = AllByRecursion (λ e. is_gt (id_cmp id e.0) ≡ true) es

-- the first entry's identifier is not less, if there is one
abbrev pub StartsFrom : Identifier → Entries → Type 0
StartsFrom id [] = Unit {0}
StartsFrom id (e ∷ es) = is_gt (id_cmp id e.0) ≡ false

-- the first entry's identifier is larger, if there is one
abbrev pub StartsAbove : Identifier → Entries → Type 0
StartsAbove id [] = Unit {0}
StartsAbove id (e ∷ es) = is_lt (id_cmp id e.0) ≡ true

-- the first entry has the identifier
abbrev pub StartsAt : Identifier → Entries → Type 0
StartsAt id [] = ⊥
StartsAt id (e ∷ es) = e.0 ≡ id

-- an identifier is at a place, or would come in there
pub record IsSpot (ps : List Entries) (page index : ℕ) (found : Bool) (id : Identifier) : Type 0 where
  pub place : IsPlaceInPages ps page index
  pub below : AreBelow id (entries_before ps page index)
  pub there : found ≡ true → StartsAt id (drop index (slice_index_or ps page []))
  pub absent : found ≡ false → StartsAbove id (entries_behind ps page index)
