-- What records stand for, by look-ups: so what a change of one record changes.
use Rattle.std.proofs.Common.{arith, ◌≡◌, ℕ, Bool, true, false, cond, not, ◌&&◌, ◌||◌, [], ◌∷◌, is_some, refl, sym, ap, ◌∙◌, true≢false}
use Rattle.std.specs.Prelude.{Option, Some, None}
use Rattle.std.specs.Cmp.{eq_by_cmp_equiv}
use Rattle.std.specs.Option.{option_map, option_and_then, option_map_or}
use Rattle.std.specs.List.{list_any, filter_map, IsDistinct}
use Rattle.std.specs.Map.{lookup, keys_of}
use Rattle.std.specs.FinMap as finite_map
use Rattle.std.specs.FinMap.{find}
use Rattle.std.specs.FinSet as finite_set
use Rattle.std.proofs.lemmas.Map.{lookup-none}
use Rattle.std.proofs.lemmas.Map.Entries.{none_past_head}
use Rattle.std.proofs.lemmas.Map.Keys.{IsDistinct-from_sorted, IsDistinct-tail}
use Rattle.rga_ops.specs.Identifier.{Identifier, id_cmp}
use Rattle.rga_ops.specs.Content.{Element, element, join, single, known_ids}
use Rattle.rga_ops.proofs.IdentifierLaws.{ids_total, is}
use Rattle.rga_ops.proofs.ContentLaws.{same_content}
use Rattle.rga_ops.proofs.AnswerLaws.{contains-known}
use Rattle.rga_ops.proofs.ListSteps.{get-insertion, get-deletion}
use Rattle.rga_ops.specs.declared.op.Op.TheVariants.{Insert, Delete}
use Rattle.rga_store.proofs.ElementSteps.{pair_of}
use Rattle.rga_store.proofs.StepLaws.{deleted_then, deleted_now}
use Rattle.rga_store.proofs.CaseSteps.{true_where}
use Rattle.rga_store.specs.Without.{without_insertion, without_deletion}
use Rattle.rga_pages.specs.declared.entry.Record.{Record}
use Rattle.rga_pages.specs.Pages.{marked}
use Rattle.rga_records.specs.Records.{Entries, element_of_record, insertion_of_record, ids_of_records_where, marked_record_ids, is_meaningful, content_of_records, AreOrdered}

-- ---- what is found at an identifier

abbrev pub element_of : Option Record → Option Element
element_of o = option_and_then element_of_record o

abbrev pub mark_of : Option Record → Bool
mark_of o = option_map_or (λ v. v.deleted) o false

-- a record has an element where it has a character, and shows both as they are kept
pub is_some-char : (v : Record) → is_some (element_of_record v) ≡ is_some v.ch
is_some-char v = grind (arith)

pub element_shown : (v : Record) → pair_of (element_of_record v) ≡ option_map (λ ch. (v.parent, ch)) v.ch
element_shown v = grind arith

pub element_back : (v : Record) → option_map (λ x. element x.0 x.1) (option_map {U = Identifier × ℕ} (λ ch. (v.parent, ch)) v.ch) ≡ element_of_record v
element_back v = grind (arith)

pub marked_element : (o : Option Record) → element_of (marked o) ≡ element_of o
marked_element None = refl
marked_element (Some r) = refl

-- what is deleted or inserted has a record
pub some_marked : (o : Option Record) → mark_of o ≡ true → is_some o ≡ true
some_marked None h = absurd (true≢false (sym h))
some_marked (Some v) h = refl

pub some_inserted : (o : Option Record) → is_some (element_of o) ≡ true → is_some o ≡ true
some_inserted None h = absurd (true≢false (sym h))
some_inserted (Some v) h = refl

-- no identifier has two records
abbrev pub AreApart : Entries → Type 0
AreApart es = IsDistinct is (keys_of es)

pub apart_of : (es : Entries) → AreOrdered es → AreApart es
apart_of es h = IsDistinct-from_sorted id_cmp (keys_of es) h

none_later : (q : Identifier) (e : Identifier × Record) (es : Entries) → AreApart (e ∷ es) → is q e.0 ≡ true → lookup (is q) es ≡ None
none_later q e es h t = lookup-none (is q) es (none_past_head (eq_by_cmp_equiv ids_total) q e es h t)

find_insertions : (q : Identifier) (es : Entries) → AreApart es → find id_cmp q (filter_map insertion_of_record es) ≡ element_of (lookup (is q) es)
find_insertions q [] h = refl
find_insertions q (e ∷ es) h = grind (arith, is, none_later, find_insertions q es (IsDistinct-tail is e.0 (keys_of es) h))

-- an identifier is inserted as its record says
pub inserted_at : (es : Entries) → AreOrdered es → (q : Identifier) → finite_map.get (content_of_records es).inserted q ≡ element_of (lookup (is q) es)
inserted_at es h q = finite_map.get-from_entries ids_total (filter_map insertion_of_record es) q ∙ find_insertions q es (apart_of es h)

-- an identifier is among those of the records that pass a test as its record says
pub any_where : (test : Record → Bool) (q : Identifier) (es : Entries) → AreApart es → list_any (is q) (ids_of_records_where test es) ≡ option_map_or test (lookup (is q) es) false
any_where test q [] h = refl
any_where test q (e ∷ es) h = grind (arith, is, none_later, any_where test q es (IsDistinct-tail is e.0 (keys_of es) h))

-- and deleted as its record says
pub deleted_at : (es : Entries) → AreOrdered es → (q : Identifier) → finite_set.contains (content_of_records es).deleted q ≡ mark_of (lookup (is q) es)
deleted_at es h q = finite_set.contains-from_list ids_total (marked_record_ids es) q ∙ any_where (λ v. v.deleted) q es (apart_of es h)

-- and known as its record says
pub known_at : (es : Entries) → AreOrdered es → (q : Identifier) → finite_set.contains (known_ids (content_of_records es)) q ≡ option_map_or is_meaningful (lookup (is q) es) false
known_at es h q =
    contains-known (content_of_records es) q
    ∙ (λ k. is_some (inserted_at es h q k) || deleted_at es h q k)
    ∙ shown (lookup (is q) es)
  where
    shown : (o : Option Record) → (is_some (element_of o) || mark_of o) ≡ option_map_or is_meaningful o false
    shown None = refl
    shown (Some v) = ap (λ b. b || v.deleted) (is_some-char v)

-- ---- changes

-- the records are as they were, but at the identifier
abbrev pub IsChanged : Entries → Entries → Identifier → Option Record → Type 0
IsChanged es fs id new = (q : Identifier) → lookup (is q) fs ≡ cond (is id q) new (lookup (is q) es)

-- what is seen of the records is as it was, but at the identifier
seen_now : {A : Type 0} (see : Option Record → A) (es fs : Entries) (id : Identifier) (new : Option Record) → IsChanged es fs id new → (q : Identifier) → see (lookup (is q) fs) ≡ cond (is q id) (see new) (see (lookup (is q) es))
seen_now see es fs id new changed q = grind arith

-- and at the identifier too, where it shows the same
seen_same : {A : Type 0} (see : Option Record → A) (es fs : Entries) (id : Identifier) (new : Option Record) → IsChanged es fs id new → see new ≡ see (lookup (is id) es) → (q : Identifier) → see (lookup (is q) fs) ≡ see (lookup (is q) es)
seen_same see es fs id new changed same q = grind arith

module _ (es fs : Entries) (id : Identifier) (new : Option Record) (ordered : AreOrdered es) (ordered_now : AreOrdered fs) (changed : IsChanged es fs id new) where
  -- neither the element nor the mark changes
  pub content_kept : element_of new ≡ element_of (lookup (is id) es) → mark_of new ≡ mark_of (lookup (is id) es) → content_of_records fs ≡ content_of_records es
  content_kept element mark = same_content _ _
      (λ q. inserted_at fs ordered_now q ∙ seen_same element_of es fs id new changed element q ∙ sym (inserted_at es ordered q))
      (λ q. deleted_at fs ordered_now q ∙ seen_same mark_of es fs id new changed mark q ∙ sym (deleted_at es ordered q))

  -- an element comes
  pub content_inserted : (parent : Identifier) (ch : ℕ) → element_of new ≡ Some (element parent ch) → mark_of new ≡ mark_of (lookup (is id) es)
      → finite_map.get (content_of_records es).inserted id ≡ None → content_of_records fs ≡ join (content_of_records es) (single (Insert id parent ch))
  content_inserted parent ch comes mark none = same_content _ _
      (λ q. inserted_at fs ordered_now q ∙ seen_now element_of es fs id new changed q
      ∙ (λ k. cond (is q id) (comes k) (sym (inserted_at es ordered q) k))
      ∙ sym (get-insertion (content_of_records es) id parent ch q none))
      (λ q. deleted_at fs ordered_now q ∙ seen_same mark_of es fs id new changed mark q ∙ sym (deleted_at es ordered q)
      ∙ sym (deleted_then (content_of_records es) id parent ch q))

  -- a mark comes
  pub content_deleted : element_of new ≡ element_of (lookup (is id) es) → mark_of new ≡ true → content_of_records fs ≡ join (content_of_records es) (single (Delete id))
  content_deleted element comes = same_content _ _
      (λ q. inserted_at fs ordered_now q ∙ seen_same element_of es fs id new changed element q ∙ sym (inserted_at es ordered q)
      ∙ sym (get-deletion (content_of_records es) id q))
      (λ q. deleted_at fs ordered_now q ∙ seen_now mark_of es fs id new changed q
      ∙ (λ k. cond (is q id) (comes k) (sym (deleted_at es ordered q) k))
      ∙ true_where (is q id) (finite_set.contains (content_of_records es).deleted q)
      ∙ sym (deleted_now (content_of_records es) id q))

  -- the element goes
  pub content_uninserted : element_of new ≡ None → mark_of new ≡ mark_of (lookup (is id) es) → content_of_records fs ≡ without_insertion id (content_of_records es)
  content_uninserted goes mark = same_content _ _
      (λ q. inserted_at fs ordered_now q ∙ seen_now element_of es fs id new changed q
      ∙ (λ k. cond (is q id) (goes k) (sym (inserted_at es ordered q) k))
      ∙ sym (finite_map.get-remove ids_total (content_of_records es).inserted id q))
      (λ q. deleted_at fs ordered_now q ∙ seen_same mark_of es fs id new changed mark q ∙ sym (deleted_at es ordered q))

  -- the mark goes
  pub content_undeleted : element_of new ≡ element_of (lookup (is id) es) → mark_of new ≡ false → content_of_records fs ≡ without_deletion id (content_of_records es)
  content_undeleted element goes = same_content _ _
      (λ q. inserted_at fs ordered_now q ∙ seen_same element_of es fs id new changed element q ∙ sym (inserted_at es ordered q))
      (λ q. deleted_at fs ordered_now q ∙ seen_now mark_of es fs id new changed q
      ∙ (λ k. cond (is q id) (goes k) (sym (deleted_at es ordered q) k))
      ∙ apart_then (is q id) (finite_set.contains (content_of_records es).deleted q)
      ∙ sym (finite_set.contains-remove ids_total (content_of_records es).deleted id q))
    where
      apart_then : (here there : Bool) → cond here false there ≡ (not here && there)
      apart_then true there = refl
      apart_then false there = refl
