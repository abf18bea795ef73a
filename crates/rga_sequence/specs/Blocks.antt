-- Entries in blocks, and the places in these.
use Rattle.std.specs.Prelude.{◌≡◌, ◌≤◌, ◌<◌, ◌+◌, ◌*◌, ℕ, Bool, false, zero, suc, List, [], ◌∷◌, ◌++◌, length, take, drop, slice_index_or, Some, if◌then◌else◌}
use Rattle.std.specs.Ordering.{is_gt}
use Rattle.std.specs.List.{slice_get, AllByRecursion}
use Rattle.rga_ops.specs.Identifier.{Identifier, id_cmp}
use Rattle.rga_sequence.specs.declared.entry.Entry.{Entry}
use Rattle.rga_sequence.specs.Entries.{ids, visible_count, put_entry_past_larger, as_marked, AreApart}
use Rattle.rga_sequence.specs.declared.block.TheConstants.{MOST}
use Rattle.rga_sequence.specs.declared.groups.TheConstants.{GROUP}
use Rattle.rga_sequence.specs.declared.groups.Groups.{Groups}
pub use Rattle.rga_pages.specs.Parts.{flat, before, behind, cut_in, insert_all, IsPlace, AreFilled}

abbrev pub Blocks : Type 0
Blocks = List (List Entry)

-- ---- one block

-- how many at the front have a larger identifier
abbrev pub larger_at_front : Identifier → List Entry → ℕ
larger_at_front id [] = 0
larger_at_front id (e ∷ es) = if is_gt (id_cmp e.id id) then suc (larger_at_front id es) else 0

-- no identifier is less
abbrev pub AreFrom : Identifier → List Entry → Type 0
AreFrom least es = AllByRecursion (λ e. is_gt (id_cmp least e.id) ≡ false) es

-- the entry at an index is deleted or not
abbrev pub mark_at_index : Bool → ℕ → List Entry → List Entry
mark_at_index mark index [] = []
mark_at_index mark zero (e ∷ es) = as_marked mark e ∷ es
mark_at_index mark (suc index) (e ∷ es) = e ∷ mark_at_index mark index es

-- what a block keeps of its entries
pub record IsBlock (visible : ℕ) (least : Identifier) (es : List Entry) : Type 0 where
  pub counted : visible ≡ visible_count es
  pub from_least : AreFrom least es
  pub room : length es ≤ MOST

-- ---- places

-- from one place as from another an entry comes to the same, past the larger ones
abbrev pub Passes : Blocks → ℕ → ℕ → ℕ → ℕ → Entry → Type 0
Passes bs block index other end e =
    before bs block index ++ put_entry_past_larger e (behind bs block index)
    ≡ before bs other end ++ put_entry_past_larger e (behind bs other end)

-- where the index is not the end of its block, an entry goes there
abbrev pub Stops : Blocks → ℕ → ℕ → Entry → Type 0
Stops bs block index e = index < length (slice_index_or bs block []) →
    put_entry_past_larger e (behind bs block index) ≡ e ∷ behind bs block index

-- an identifier stands at an index of a block
abbrev pub Stands : Blocks → ℕ → ℕ → Identifier → Type 0
Stands [] block index id = ⊥
Stands (b ∷ bs) zero index id = slice_get (ids b) index ≡ Some id
Stands (b ∷ bs) (suc block) index id = Stands bs block index id

-- what a sequence keeps of its blocks
pub record IsSequence (bs : Blocks) : Type 0 where
  pub apart : AreApart (flat bs)
  pub filled : AreFilled bs

-- ---- what is noted of groups of blocks

-- each is noted of a group, which are the blocks from `lo` to the one before `hi`
abbrev pub AreNotes : {A : Type 0} → (A → ℕ → ℕ → Blocks → Type 0) → List A → Blocks → Type 0
AreNotes {A} IsNoted notes bs = (k : ℕ) (d : A) → k < length notes →
    IsNoted (slice_index_or notes k d) (k * GROUP) (k * GROUP + GROUP) bs

-- no identifier is less in the blocks from `lo` to the one before `hi`
abbrev pub AreBlocksFrom : Identifier → ℕ → ℕ → Blocks → Type 0
AreBlocksFrom least lo hi bs = (b : ℕ) → lo ≤ b → b < hi → AreFrom least (slice_index_or bs b [])

-- each identifier in those blocks is larger
abbrev pub AreLarger : Identifier → ℕ → ℕ → Blocks → Type 0
AreLarger id lo hi bs = (b : ℕ) → lo ≤ b → b < hi →
    larger_at_front id (slice_index_or bs b []) ≡ length (slice_index_or bs b [])

-- each bound is that of a group: no identifier in its blocks is less
abbrev pub AreBounds : List Identifier → Blocks → Type 0
AreBounds bounds bs = AreNotes AreBlocksFrom bounds bs

-- the bound of a block's group is not larger than an identifier
abbrev pub IsLow : List Identifier → ℕ → Identifier → Type 0
IsLow bounds block id = (k : ℕ) (d : Identifier) → k < length bounds →
    k * GROUP ≤ block → block < k * GROUP + GROUP →
    is_gt (id_cmp (slice_index_or bounds k d) id) ≡ false

-- so many entries are visible in the blocks from `lo` to the one before `hi`
abbrev pub IsCount : ℕ → ℕ → ℕ → Blocks → Type 0
IsCount count lo hi bs = count ≡ visible_count (flat (drop lo (take hi bs)))

-- each count is that of a group, which is whole
pub record AreCounts (counts : List ℕ) (bs : Blocks) : Type 0 where
  pub whole : length counts * GROUP ≤ length bs
  pub counted : AreNotes IsCount counts bs

-- the bounds and the counts
pub record AreGroups (groups : Groups) (bs : Blocks) : Type 0 where
  pub bounds : AreBounds groups.bounds.items bs
  pub counts : AreCounts groups.counts.items bs
