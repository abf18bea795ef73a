-- Undo groups: what commands did, which of them an undo takes, and what it leaves of them.
use Rattle.std.specs.Prelude.{ℕ, zero, suc, ◌-◌, Bool, List, [], ◌∷◌, ◌++◌, map, length, slice_index_or, Option, None, refl, if◌then◌else◌}
use Rattle.std.specs.Option.{unwrap_or, option_map, option_map_or}
use Rattle.std.specs.List.{slice_get, list_all}
use Rattle.std.specs.Coded.{Coded, code_by, coded×, coded_ℕ, coded_list}
use Rattle.rga_ops.specs.Identifier.{Identifier, identifier_code, is_id}
use Rattle.rga_ops.specs.Content.{Content}
use Rattle.rga_ops.specs.declared.op.Op.{Op}
use Rattle.rga_ops.specs.declared.op.Op.TheVariants.{Insert, Delete}
use Rattle.rga_doc.specs.Revert.{are_restorable}
use Rattle.rga_doc.specs.UndoGroup.{inserted_elements, deleted_elements, element_characters}

-- the elements that a command or an undo inserted, and those that it deleted, with their characters
pub record Past : Type 0 where
  pub inserted : List Identifier
  pub deleted : List (Identifier × ℕ)

abbrev pub past_code : Coded Past
past_code = code_by (List Identifier × List (Identifier × ℕ)) (coded× (coded_list identifier_code) (coded_list (coded× identifier_code coded_ℕ))) (λ g. (g.inserted, g.deleted)) (λ p. record { inserted = p.0; deleted = p.1 }) (λ _. refl)

-- what operations did to a content
abbrev pub past_of : Content → List Op → Past
past_of c ops = record { inserted = inserted_elements ops; deleted = element_characters c (deleted_elements ops) }

-- the group at an index; past the end, one of nothing
abbrev pub past_at : List Past → ℕ → Past
past_at groups i = slice_index_or groups i (record { inserted = []; deleted = [] })

-- one group more, unless there was no operation
abbrev pub with_group : {A : Type 0} → List A → A → List Op → List A
with_group groups g [] = groups
with_group groups g (op ∷ ops) = groups ++ g ∷ []

-- each group can be reverted on the content
abbrev pub are_revertible : Content → List Past → Bool
are_revertible c groups = list_all (λ (g : Past). are_restorable c g.deleted) groups

-- ---- which group an undo takes

-- the last of so many groups, with its index
abbrev pub last_group : List Past → ℕ → Option (ℕ × Past)
last_group groups zero = None
last_group groups (suc i) = option_map (λ g. (i, g)) (slice_get groups i)

-- The newest group; in a run of undos, which knows the index of the group that was undone last, the one before that.
abbrev pub group_to_undo : List Past → Option ℕ → Option (ℕ × Past)
group_to_undo groups undone = last_group groups (unwrap_or undone (length groups))

-- ---- what an undo leaves

-- what an operation that restores an element puts in its place
abbrev pub instead : Op → Identifier → Identifier
instead (Insert x parent ch) id = if is_id parent id then x else id
instead (Delete x) id = id

-- What stands for an element after operations of which each insertion restores its parent: by each of them in turn, what
-- restores the element, or the element itself.
abbrev pub stand_in : List Op → Identifier → Identifier
stand_in [] id = id
stand_in (op ∷ ops) id = stand_in ops (instead op id)

-- the group with other elements in the place of its own
abbrev pub substituted : (Identifier → Identifier) → Past → Past
substituted f g = record {
  inserted = map f g.inserted;
  deleted = map (λ (b : Identifier × ℕ). (f b.0, b.1)) g.deleted;
}

-- in every group what stands for an element
abbrev pub all_substituted : (Identifier → Identifier) → List Past → List Past
all_substituted f groups = map (substituted f) groups

-- where point goes after an undo that did this: the last element that it inserted; where there is none, the first that it
-- deleted; else point stays
abbrev pub point_after : Identifier → Past → Identifier
point_after point g =
    unwrap_or (slice_get g.inserted (length g.inserted - 1)) (option_map_or (λ (b : Identifier × ℕ). b.0) (slice_get g.deleted 0) point)
