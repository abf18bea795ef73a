-- Insertions of which each is the parent of the next, and newer than all that was known.
use Rattle.std.specs.Prelude.{◌≡◌, ◌<◌, ℕ, false, List, [], ◌∷◌, Some}
use Rattle.rga_ops.specs.Identifier.{Identifier}
use Rattle.rga_ops.specs.Content.{Content, element, join, single, clock_of}
use Rattle.rga_ops.specs.declared.op.Op.TheVariants.{Insert}
use Rattle.rga_sequence.specs.declared.entry.Entry.{Entry}
use Rattle.rga_records.specs.Records.{Entries, element_of_record}

-- the content with insertions of these elements, the first behind the parent and each other behind the one before it
abbrev pub grown : Content → Identifier → List Entry → Content
grown c parent [] = c
grown c parent (e ∷ es) = grown (join c (single (Insert e.id parent e.ch))) e.id es

-- each counter is above its parent's, and above all that is in the content when its turn comes
abbrev pub AreNewer : Content → Identifier → List Entry → Type 0
AreNewer c parent [] = Unit {0}
AreNewer c parent (e ∷ es) = (clock_of c < e.id.counter) × (parent.counter < e.id.counter) × AreNewer (join c (single (Insert e.id parent e.ch))) e.id es

-- the last identifier of a chain, or else its parent
abbrev pub last_entry_of : Identifier → List Entry → Identifier
last_entry_of id [] = id
last_entry_of id (e ∷ es) = last_entry_of e.id es

-- the counter of the last one, or else another
abbrev pub latest_of : ℕ → List Entry → ℕ
latest_of n [] = n
latest_of n (e ∷ es) = latest_of e.id.counter es

-- each element of a chain has its record, in turn
abbrev pub AreRows : Identifier → List Entry → Entries → Type 0
AreRows parent [] [] = Unit {0}
AreRows parent [] (r ∷ rs) = ⊥
AreRows parent (e ∷ es) [] = ⊥
AreRows parent (e ∷ es) (r ∷ rs) = (r.0 ≡ e.id) × (element_of_record r.1 ≡ Some (element parent e.ch)) × (r.1.deleted ≡ false) × AreRows e.id es rs
