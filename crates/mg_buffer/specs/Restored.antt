-- Undo groups as they were added, and what was restored since then. No group changes: what restores an element is looked up.
use Rattle.std.specs.Prelude.{◌≡◌, ℕ, ◌<◌, ◌≤◌, false, List, [], ◌∷◌, ◌++◌, map, max, None, if◌then◌else◌}
use Rattle.std.specs.List.{AllByRecursion}
use Rattle.std.specs.Map.{lookup}
use Rattle.rga_ops.specs.Identifier.{Identifier, is_id}
use Rattle.rga_ops.specs.declared.op.Op.{Op}
use Rattle.rga_ops.specs.declared.op.Op.TheVariants.{Insert, Delete}
use Rattle.mg_buffer.specs.Groups.{Past, past_at}

-- elements that were restored, oldest first, each with the one that restores it
abbrev pub Restored : Type 0
Restored = List (Identifier × Identifier)

-- what commands and undos did, oldest first; what was restored; and for how many more there is room: for groups, and for
-- elements that are restored
pub record PastList : Type 0 where
  pub pasts : List Past
  pub restored : Restored
  pub room : ℕ
  pub entries : ℕ

-- what stands for an element in the end
abbrev pub latest : Restored → Identifier → Identifier
latest [] id = id
latest (r ∷ rs) id = latest rs (if is_id r.0 id then r.1 else id)

-- what operations restore
abbrev pub restored_by : List Op → Restored
restored_by [] = []
restored_by (Insert id parent ch ∷ ops) = (parent, id) ∷ restored_by ops
restored_by (Delete id ∷ ops) = restored_by ops

abbrev pub old_ones : Restored → List Identifier
old_ones rs = map (λ (r : Identifier × Identifier). r.0) rs

abbrev pub deleted_ones : List (Identifier × ℕ) → List Identifier
deleted_ones deleted = map (λ (d : Identifier × ℕ). d.0) deleted

-- the greatest counter of elements
abbrev pub greatest_counter : List Identifier → ℕ
greatest_counter [] = 0
greatest_counter (id ∷ ids) = max id.counter (greatest_counter ids)

-- that of all that was restored
abbrev pub newest_restored : PastList → ℕ
newest_restored h = greatest_counter (old_ones h.restored)

abbrev pub AreNewerThan : ℕ → Restored → Type 0
AreNewerThan n rs = AllByRecursion (λ (r : Identifier × Identifier). n < r.1.counter) rs

-- each has a lower counter than the one that restores it, and than each that restores another one later
abbrev pub AreRising : Restored → Type 0
AreRising [] = Unit {0}
AreRising (r ∷ rs) = AreNewerThan r.0.counter (r ∷ rs) × AreRising rs

-- the same stands for each element, found in fewer steps
pub record IsShortened (old new : Restored) : Type 0 where
  pub rising : AreRising new
  pub same : latest new ≡ latest old
  pub ones : old_ones new ≡ old_ones old

-- an operation restores nothing that was restored already
abbrev pub IsFirst : Restored → Op → Type 0
IsFirst rs (Insert id parent ch) = lookup (is_id parent) rs ≡ None
IsFirst rs (Delete id) = Unit {0}

-- nor does one of these, where each in turn is taken
abbrev pub AreFirst : Restored → List Op → Type 0
AreFirst rs [] = Unit {0}
AreFirst rs (op ∷ ops) = IsFirst rs op × AreFirst (rs ++ restored_by (op ∷ [])) ops

-- no element stands twice in the list
abbrev pub AreApart : List Identifier → Type 0
AreApart [] = Unit {0}
AreApart (id ∷ ids) = AllByRecursion (λ q. is_id q id ≡ false) ids × AreApart ids

-- The operations restore what a group deleted, each element once, by elements that are newer than all that was restored.
pub record Restores (h : PastList) (ops : List Op) : Type 0 where
  pub index : ℕ
  pub bound : ℕ
  pub same : old_ones (restored_by ops) ≡ deleted_ones (past_at h.pasts index).deleted
  pub apart : AreApart (old_ones (restored_by ops))
  pub known : newest_restored h ≤ bound
  pub old : greatest_counter (old_ones (restored_by ops)) ≤ bound
  pub newer : AreNewerThan bound (restored_by ops)
