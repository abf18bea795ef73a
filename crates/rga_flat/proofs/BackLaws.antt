-- Operations that are removed again, the last first.
use Rattle.std.proofs.Common.{◌≡◌, Bool, true, false, List, [], ◌∷◌, sym, ◌∙◌, true≢false, arith}
use Rattle.std.specs.FinMap as finite_map
use Rattle.std.specs.FinSet as finite_set
use Rattle.std.specs.BTreeSet.{BTreeSet, contains}
use Rattle.rga_ops.specs.Identifier.{Identifier, id_cmp}
use Rattle.rga_ops.specs.Content.{Content, IsWithin, Holds}
use Rattle.rga_ops.specs.RootPath.{is_complete}
use Rattle.rga_ops.proofs.IdentifierLaws.{ids_total}
use Rattle.rga_ops.proofs.ContentLaws.{within_chain}
use Rattle.rga_ops.specs.declared.op.Op.{Op}
use Rattle.rga_ops.specs.declared.op.Op.TheVariants.{Insert, Delete}
use Rattle.rga_sequence.specs.declared.entry.Entry.{Entry}
use Rattle.rga_store.specs.Without.{without_operation}
use Rattle.rga_store.specs.declared.steps.Step.{Step}
use Rattle.rga_store.specs.Back.{without_noted}
use Rattle.rga_flat.specs.Flat.{IsFlat}
use Rattle.rga_flat.specs.Undo.{undone_entries, undone_under, IsGoingBack, IsReturnable}
use Rattle.rga_flat.specs.Waiting.{Waiting, under, has_list}
use Rattle.rga_flat.proofs.EntryLaws.{either}
use Rattle.rga_flat.proofs.UndoLaws.{going_insertion, going_deletion, going_end}

-- ---- what is left is within what was there

without_within : (op : Op) (c : Content) → IsWithin (without_operation op c) c
without_within op c = grind (arith, finite_map.get-remove, ids_total, finite_set.contains-remove)

pub gone_within : (ss : List Step) (c : Content) → IsWithin (without_noted ss c) c
gone_within [] c = record { inserted = λ k x g. g; deleted = λ k h. h }
gone_within (s ∷ ss) c =
    grind (arith, within_chain (without_operation s.op.now (without_noted ss c)) (without_noted ss c) c (without_within s.op.now (without_noted ss c)) (gone_within ss c), without_within s.op.now (without_noted ss c), gone_within ss c)

-- ---- an operation goes

pub going_undone : (op : Op) (top base c : Content) (es : List Entry) (w w' : Waiting) (done : Identifier → Bool) → IsGoingBack top base c es w done → Holds c op → IsWithin base (without_operation op c)
    → ((p : Identifier) → under w' p ≡ undone_under op p (under w p)) → ((p : Identifier) → has_list w' p ≡ has_list w p) → IsGoingBack top base (without_operation op c) (undone_entries op es) w' done
going_undone (Insert id parent ch) top base c es w w' done going held within lists marks = going_insertion top base c es w done going id parent ch held within w' lists marks
going_undone (Delete id) top base c es w w' done going held within lists marks = going_deletion top base c es w done going id within w' lists marks

-- ---- there

module _ (top base : Content) (es : List Entry) (w : Waiting) (done : BTreeSet Identifier) (back : IsReturnable top base es w done) where
  free : (k : Identifier) → is_complete base k ≡ true → contains id_cmp done k ≡ false
  free k h = grind (arith, back.listed k, back.based.marks.complete k h)

  was_done : (k : Identifier) → contains id_cmp done k ≡ false → contains id_cmp back.settled k ≡ false
  was_done k h = either (contains id_cmp back.settled k) (λ t. absurd (true≢false (sym (back.more k t) ∙ h))) (λ f. f)

  settled : (k : Identifier) → is_complete top k ≡ true → finite_map.contains_key base.inserted k ≡ true → contains id_cmp done k ≡ false → is_complete base k ≡ true
  settled k h there n = grind (arith, back.based.marks.waits k, was_done k n, back.flat.marks.complete k h)

  pub gone_there : (fs : List Entry) (v : Waiting) → IsGoingBack top base base fs v (contains id_cmp done) → IsFlat base fs (under v) (has_list v)
  gone_there fs v going = going_end top base fs v (contains id_cmp done) going back.based.within free settled

-- what is inserted stays so
pub inserted_later : (c d : Content) → IsWithin c d → (k : Identifier) → finite_map.contains_key c.inserted k ≡ true → finite_map.contains_key d.inserted k ≡ true
inserted_later c d w k h = grind (arith, w.inserted k)
