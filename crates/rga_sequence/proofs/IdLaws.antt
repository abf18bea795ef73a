-- The identifiers of entries that change.
use Rattle.std.proofs.Common.{arith, ◌≡◌, Bool, true, false, cond, List, [], ◌∷◌, refl}
use Rattle.rga_ops.specs.Identifier.{Identifier, is_id, is_root}
use Rattle.rga_ops.specs.Placement.{put_by_skip_rule, without}
use Rattle.rga_ops.specs.Placement as placement
use Rattle.rga_sequence.specs.declared.entry.Entry.{Entry}
use Rattle.rga_sequence.specs.Entries.{ids, put_entry_past_larger, change_after_entry, put_entry, without_entry, as_marked, mark_entry}

past : (e : Entry) (es : List Entry) → ids (put_entry_past_larger e es) ≡ placement.put_past_larger e.id (ids es)
past e [] = refl
past e (x ∷ es) = grind (arith, past e es)

after : (parent : Identifier) (e : Entry) (es : List Entry) → ids (change_after_entry parent (put_entry_past_larger e) es) ≡ placement.change_after parent (placement.put_past_larger e.id) (ids es)
after parent e [] = refl
after parent e (x ∷ es) = grind (arith, past, after parent e es)

pub ids_put : (parent : Identifier) (e : Entry) (es : List Entry) → ids (put_entry parent e es) ≡ put_by_skip_rule parent e.id (ids es)
ids_put parent e es =
    elim (is_root parent) as (λ b. ids (cond b (put_entry_past_larger e es) (change_after_entry parent (put_entry_past_larger e) es)) ≡ cond b (placement.put_past_larger e.id (ids es)) (placement.change_after parent (placement.put_past_larger e.id) (ids es))) [
      | true ↦ past e es
      | false ↦ after parent e es
    ]

pub ids_without : (id : Identifier) (es : List Entry) → ids (without_entry id es) ≡ without id (ids es)
ids_without id [] = refl
ids_without id (x ∷ es) = grind (arith, ids_without id es)

one : (mark : Bool) (id : Identifier) (x : Entry) → (cond (is_id x.id id) (as_marked mark x) x).id ≡ x.id
one mark id x = elim (is_id x.id id) as (λ b. (cond b (as_marked mark x) x).id ≡ x.id) [ true ↦ refl | false ↦ refl ]

pub ids_marked : (mark : Bool) (id : Identifier) (es : List Entry) → ids (mark_entry mark id es) ≡ ids es
ids_marked mark id [] = refl
ids_marked mark id (x ∷ es) = (λ k. one mark id x k ∷ ids_marked mark id es k)
