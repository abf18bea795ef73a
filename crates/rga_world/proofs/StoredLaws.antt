-- What the sites of a reached world hold, stores may hold: well-formed operations that can be written, within the limit.
use Rattle.std.proofs.Common.{◌≡◌, ℕ, zero, suc, ◌+◌, ◌<◌, ◌≤◌, ◌^◌, ◌&&◌, ◌||◌, true, nat_le, le-leb, leb-true, lit≤, List, [], ◌∷◌, ◌++◌, map, filter, take, drop, length, length-append, Some, slice_get, refl, sym, ap, ◌∙◌, subst, inl, inr, arith, true≢false}
use Rattle.std.specs.Prelude.{Ok, Err, Contains}
use Rattle.std.specs.Char.{IsScalar}
use Rattle.std.specs.List.{list_any, AllByRecursion}
use Rattle.std.specs.Option.{unwrap_or}
use Rattle.std.specs.FinMap as finite_map
use Rattle.std.specs.FinSet as finite_set
use Rattle.std.proofs.Math.Bool.{or_comm}
use Rattle.std.proofs.lemmas.Bool.{and_parts, or_right}
use Rattle.std.proofs.lemmas.List.{length-map, length-set, length-replicate}
use Rattle.std.proofs.lemmas.List.Elements.{Contains-append_cases}
use Rattle.std.proofs.lemmas.Option.{none-some, slice_get_within}
use Rattle.rga_ops.specs.Identifier.{Identifier, identifier, root, id_cmp, is_root, is_in_range}
use Rattle.rga_ops.specs.Operation.{checked}
use Rattle.rga_ops.specs.Content.{element, Content, nothing, known_ids, clock_of, join, single, content_of, Holds, IsSound}
use Rattle.rga_ops.specs.RootPath.{is_complete}
use Rattle.rga_ops.specs.Places.{is_visible, visible}
use Rattle.rga_ops.specs.Operations.{insertion_of, alone, rising, operations}
use Rattle.rga_ops.specs.Answer.{taken, and_take}
use Rattle.rga_ops.specs.ListAnswer.{Verdict, list_answer}
use Rattle.rga_ops.proofs.IdentifierLaws.{ids_total, ids_exact, is}
use Rattle.rga_ops.proofs.MemberLaws.{all_map, all_members}
use Rattle.rga_ops.proofs.OperationLaws.{Contains-nil, Contains-append, content_inserted, content_deleted}
use Rattle.rga_ops.proofs.OperationsLaws.{any-rising}
use Rattle.rga_ops.proofs.SoundLaws.{join_holds, single_only}
use Rattle.rga_ops.proofs.SortedLaws.{distinct_keys}
use Rattle.rga_ops.proofs.PathLaws.{inserted_if_complete}
use Rattle.rga_ops.proofs.VisibleLaws.{visible_elements}
use Rattle.rga_ops.proofs.KnownLaws.{known_nothing, len-le_union, taken_list_within}
use Rattle.rga_ops.proofs.CountLaws.{len-added}
use Rattle.rga_ops.proofs.ListAnswerLaws.{list_taken-iff}
use Rattle.rga_ops.proofs.TakenLaws.{taken_is}
use Rattle.rga_ops.specs.declared.id.TheConstants.Id.{MAX_COUNTER}
use Rattle.rga_ops.specs.declared.op.Op.{Op}
use Rattle.rga_ops.specs.declared.op.Op.TheVariants.{Insert, Delete}
use Rattle.rga_store.specs.Limit.{is_limit}
use Rattle.rga_store.proofs.StepLaws.{inserted_within}
use Rattle.rga_store.proofs.CountedLaws.{within_limits}
use Rattle.rga_doc.specs.LocalEdit.{chain, left_of, splice_answer, splice_operations}
use Rattle.rga_doc.specs.Revert.{distinct_elements, restorations, revert_answer, revert_operations, are_restorable}
use Rattle.rga_doc.proofs.EditAnswers.{counters_suffice, splice_counters}
use Rattle.rga_doc.proofs.EditLaws.{allowed, allowed_counters, splice_taken}
use Rattle.rga_doc.proofs.RevertSets.{elements_of}
use Rattle.rga_doc.proofs.RevertLaws.{gone_complete, back_complete, revert_taken}
use Rattle.rga_doc.proofs.UndoLists.{all_take, all_drop}
use Rattle.rga_lines.specs.Spelling.{IsElement, IsElementOrRoot, IsWritable}
use Rattle.rga_exchange.specs.Sending.{AreWritable}
use Rattle.rga_world.specs.Sites.{Site, site, World, new_world}
use Rattle.rga_world.specs.Steps.{Outcome, of_store, replica_of, saved_operation, saved_list, with_content, with_operations, edited, reverted, delivered, list_delivered, saved_site, saved_one, restarted, changed, given, stepped, kept, world_after}
use Rattle.rga_world.specs.Outcomes.{is_site_count}
use Rattle.rga_world.specs.Together.{PutsCharacters, IsReached, held_contents, saved_contents, contents}
use Rattle.rga_world.specs.declared.event.Event.{Event}
use Rattle.rga_world.specs.declared.event.Event.TheVariants.{Edit, Revert, Save, SaveOne, Deliver, DeliverList, Restart}
use Rattle.rga_world.proofs.ListPlaces.{set_new, replicate_place, contains_place, mapped_place}
use Rattle.rga_world.proofs.StepLaws.{same_Ok, then_ok, store_ok, is_changed, takes_given, joined_ok, saved_one_ok, place_held, operation_held, list_held}

-- ---- what stores may hold

pub record IsStorable (limit : ℕ) (c : Content) : Type 0 where
  pub sound : IsSound c
  pub writable : (op : Op) → Holds c op → IsWritable op
  pub within : finite_set.len (known_ids c) ≤ limit

pub nothing_holds : (op : Op) → Holds nothing op → ⊥
nothing_holds (Insert id parent ch) h = none-some _ (sym (finite_map.get-empty id_cmp id) ∙ h)
nothing_holds (Delete id) h = true≢false (sym h ∙ finite_set.contains-empty id_cmp id)

storable_nothing : (limit : ℕ) → IsStorable limit nothing
storable_nothing limit = grind (arith, nothing_holds, known_nothing)

storable_join : (limit : ℕ) (c d : Content) → IsStorable limit c → ((op : Op) → Holds d op → (checked op ≡ Ok tt) × IsWritable op) → finite_set.len (known_ids (join c d)) ≤ limit → IsStorable limit (join c d)
storable_join limit c d s more fits = grind (arith, join_holds)

-- the content of a list holds what stands in the list
pub held_listed : (ops : List Op) (op : Op) → Holds (content_of ops) op → Contains ops op
held_listed ops (Insert id parent ch) h = content_inserted ops id (element parent ch) h
held_listed ops (Delete id) h = content_deleted ops id h

storable_list : (limit : ℕ) (c : Content) (ops : List Op) → IsStorable limit c → list_answer limit c ops ≡ Ok tt → AreWritable ops → IsStorable limit (join c (content_of ops))
storable_list limit c ops s took writable =
    let t = (list_taken-iff limit c ops).0 took in
    storable_join limit c (content_of ops) s (λ op h. (t.0 op (held_listed ops op h), writable op (held_listed ops op h))) t.2

-- one operation was taken
storable_taken : (limit : ℕ) (c d : Content) (op : Op) → IsStorable limit c → checked op ≡ Ok tt → IsWritable op → taken limit c op ≡ Ok d → IsStorable limit d
storable_taken limit c d op s well written took =
    let joined : d ≡ join c (single op) = (taken_is limit c op d took).joined in
    let fits : finite_set.len (known_ids d) ≤ limit = taken_list_within limit c (op ∷ []) d s.within (ap (λ r. and_take r (λ e. Ok e)) took) in
    subst (IsStorable limit) (sym joined)
    (storable_join limit c (single op) s (λ other m. (ap checked (sym (single_only op other m)) ∙ well, subst IsWritable (single_only op other m) written))
    (subst (λ e. finite_set.len (known_ids e) ≤ limit) joined fits))

-- ---- how many operations they have

deletions_few : (c : Content) → length (rising (finite_set.items c.deleted)) ≤ finite_set.len (known_ids c)
deletions_few c =
    let ids : List Identifier = rising (finite_set.items c.deleted) in
    let added : finite_set.len c.deleted ≡ finite_set.len (finite_set.empty {R = id_cmp}) + length ids =
    len-added finite_set.empty c.deleted ids
    (distinct_keys id_cmp ids_total (finite_map.entries (finite_map.from_entries {R = id_cmp} (map alone (finite_set.items c.deleted)))) (finite_map.entries_sorted (finite_map.from_entries (map alone (finite_set.items c.deleted)))))
    (λ q m. finite_set.contains-empty id_cmp q)
    (λ q. finite_set.contains-items c.deleted q ∙ sym (any-rising (finite_set.items c.deleted) q) ∙ sym (ap (λ b. b || list_any (is q) ids) (finite_set.contains-empty id_cmp q))) in
    let known : finite_set.union c.deleted (finite_set.from_list (finite_map.keys c.inserted)) ≡ known_ids c =
    finite_set.same_set ids_total ids_exact _ _ (λ q.
    finite_set.contains-union ids_total c.deleted (finite_set.from_list (finite_map.keys c.inserted)) q
    ∙ or_comm (finite_set.contains c.deleted q) (finite_set.contains (finite_set.from_list {R = id_cmp} (finite_map.keys c.inserted)) q)
    ∙ sym (finite_set.contains-union ids_total (finite_set.from_list (finite_map.keys c.inserted)) c.deleted q)) in
    let larger : finite_set.len c.deleted ≤ finite_set.len (known_ids c) =
    subst (λ s. finite_set.len c.deleted ≤ finite_set.len s) known (len-le_union c.deleted (finite_set.from_list (finite_map.keys c.inserted))) in
    omega (arith, added, larger)

pub few_operations : (limit : ℕ) (c : Content) → is_limit limit ≡ true → IsStorable limit c → length (operations c) < 2 ^ 64
few_operations limit c limited s =
    let inserted : length (map insertion_of (finite_map.entries c.inserted)) ≡ finite_map.len c.inserted = length-map (finite_map.entries c.inserted) insertion_of ∙ sym (finite_map.len-entries c.inserted) in
    let deleted : length (map Delete (rising (finite_set.items c.deleted))) ≡ length (rising (finite_set.items c.deleted)) = length-map (rising (finite_set.items c.deleted)) Delete in
    small (length (operations c)) (length (map insertion_of (finite_map.entries c.inserted))) (length (map Delete (rising (finite_set.items c.deleted)))) (finite_set.len (known_ids c)) 1000000 (2 ^ 64)
    (length-append (map insertion_of (finite_map.entries c.inserted)) (map Delete (rising (finite_set.items c.deleted))))
    (omega (arith, inserted, inserted_within c)) (omega (arith, deleted, deletions_few c)) (omega (arith, s.within, within_limits limit limited)) (lit≤ tt)
  where
    small : (all a b known most bound : ℕ) → all ≡ a + b → a ≤ known → b ≤ known → known ≤ most → suc (most + most) ≤ bound → all < bound
    small all a b known most bound is p q r e = omega arith

-- ---- operations of a site's own can be written

abbrev IsReplica : ℕ → Type 0
IsReplica replica = (1 ≤ replica) × (replica ≤ 65535)

in_range : (counter replica : ℕ) → IsReplica replica → 1 ≤ counter → counter ≤ MAX_COUNTER → is_in_range counter replica ≡ true
in_range counter replica r some most = λ k. (le-leb 1 counter some k && le-leb counter MAX_COUNTER most k) && (le-leb 1 replica r.0 k && le-leb replica 65535 r.1 k)

root_or : (id : Identifier) → IsElement id → IsElementOrRoot id
root_or id h = or_right (is_root id) (is_in_range id.counter id.replica) h

first_written : (op : Op) (ops : List Op) → IsWritable op → AreWritable ops → AreWritable (op ∷ ops)
first_written op ops first later other m = grind arith

both_written : (xs ys : List Op) → AreWritable xs → AreWritable ys → AreWritable (xs ++ ys)
both_written xs ys first second op m = elim (Contains-append xs ys op m) [ inl here ↦ first op here | inr there ↦ second op there ]

deletions_written : (ids : List Identifier) → AllByRecursion IsElement ids → AreWritable (map Delete ids)
deletions_written [] all = λ op m. absurd (Contains-nil op m)
deletions_written (id ∷ ids) all = first_written (Delete id) (map Delete ids) all.0 (deletions_written ids all.1)

-- there are counters from the last one on
abbrev HasCounters : ℕ → ℕ → Type 0
HasCounters last count = 0 < count → last + count ≤ MAX_COUNTER

next_counter : (last count most : ℕ) → (0 < suc count → last + suc count ≤ most) → last + 1 ≤ most
next_counter last count most enough = omega (arith, enough (omega arith))

later_counters : (last count most : ℕ) → (0 < suc count → last + suc count ≤ most) → 0 < count → last + 1 + count ≤ most
later_counters last count most enough some = omega (arith, enough (omega arith))

new_element : (replica last count : ℕ) → IsReplica replica → HasCounters last (suc count) → IsElement (identifier (last + 1) replica)
new_element replica last count r enough = in_range (last + 1) replica r (omega arith) (next_counter last count MAX_COUNTER enough)

chain_written : (replica last : ℕ) (after : Identifier) (put : List ℕ) → IsReplica replica → HasCounters last (length put) → IsElementOrRoot after → AllByRecursion IsScalar put → AreWritable (chain replica last after put)
chain_written replica last after [] r enough above scalars = λ op m. absurd (Contains-nil op m)
chain_written replica last after (ch ∷ put) r enough above scalars =
    let first : IsElement (identifier (last + 1) replica) = new_element replica last (length put) r enough in
    first_written (Insert (identifier (last + 1) replica) after ch) (chain replica (last + 1) (identifier (last + 1) replica) put) (first, above, scalars.0)
    (chain_written replica (last + 1) (identifier (last + 1) replica) put r (later_counters last (length put) MAX_COUNTER enough) (root_or (identifier (last + 1) replica) first) scalars.1)

restorations_written : (replica last : ℕ) (back : List (Identifier × ℕ)) → IsReplica replica → HasCounters last (length back) → AllByRecursion IsElement (elements_of back) → AllByRecursion (λ (b : Identifier × ℕ). IsScalar b.1) back → AreWritable (restorations replica last back)
restorations_written replica last [] r enough elements scalars = λ op m. absurd (Contains-nil op m)
restorations_written replica last (b ∷ back) r enough elements scalars =
    first_written (Insert (identifier (last + 1) replica) b.0 b.1) (restorations replica (last + 1) back) (new_element replica last (length back) r enough, root_or b.0 elements.0, scalars.0)
    (restorations_written replica (last + 1) back r (later_counters last (length back) MAX_COUNTER enough) elements.1 scalars.1)

left_element : (ids : List Identifier) (lo : ℕ) → AllByRecursion IsElement ids → IsElementOrRoot (left_of ids lo)
left_element ids zero all = refl
left_element ids (suc k) all = by ids k all
  where
    by : (ids : List Identifier) (k : ℕ) → AllByRecursion IsElement ids → IsElementOrRoot (unwrap_or (slice_get ids k) root)
    by [] k all = refl
    by (id ∷ ids) zero all = root_or id all.0
    by (id ∷ ids) (suc k) all = by ids k all.1

module _ (limit replica : ℕ) (r : IsReplica replica) (c : Content) (s : IsStorable limit c) where
  complete_element : (id : Identifier) → is_complete c id ≡ true → IsElement id
  complete_element id h = let (x, at) = inserted_if_complete c id h in (s.writable (Insert id x.parent x.ch) at).0

  visible_written : AllByRecursion IsElement (visible c)
  visible_written = all_members IsElement (visible c) (λ q m. complete_element q (and_parts (is_complete c q) _ (sym (visible_elements c q) ∙ m)).0)

  splice_written : (lo hi : ℕ) (put : List ℕ) → splice_answer limit c lo hi put ≡ Ok tt → AllByRecursion IsScalar put → AreWritable (splice_operations replica c lo hi put)
  splice_written lo hi put h scalars =
      both_written (map Delete (drop lo (take hi (visible c)))) (chain replica (clock_of c) (left_of (visible c) lo) put)
      (deletions_written (drop lo (take hi (visible c))) (all_drop IsElement lo (take hi (visible c)) (all_take IsElement hi (visible c) visible_written)))
      (chain_written replica (clock_of c) (left_of (visible c) lo) put r (splice_counters limit lo hi c put h) (left_element (visible c) lo visible_written) scalars)

  revert_written : (gone : List Identifier) (back : List (Identifier × ℕ)) → revert_answer limit c back ≡ Ok tt → AllByRecursion (λ (b : Identifier × ℕ). IsScalar b.1) back → AreWritable (revert_operations replica c gone back)
  revert_written gone back h scalars =
      let all : (ids : List Identifier) → AllByRecursion (λ id. is_complete c id ≡ true) ids → AllByRecursion IsElement ids = all_map (λ id. is_complete c id ≡ true) IsElement complete_element in
      let ids : List Identifier = distinct_elements (filter (is_visible c) gone) in
      both_written (map Delete ids) (restorations replica (clock_of c) back) (deletions_written ids (all ids (gone_complete c gone)))
      (restorations_written replica (clock_of c) back r (counters_suffice c (length back) (allowed_counters limit c (are_restorable c back) (length back) h))
      (all (elements_of back) (back_complete c back (allowed limit c (are_restorable c back) (length back) h).1)) scalars)

-- ---- worlds

pub record AreStorable (w : World) : Type 0 where
  pub few : length w.sites ≤ 65535
  pub limited : is_limit w.limit ≡ true
  pub content : (i : ℕ) (s : Site) → slice_get w.sites i ≡ Some s → IsStorable w.limit s.content
  pub saved : (i : ℕ) (s : Site) → slice_get w.sites i ≡ Some s → IsStorable w.limit s.saved

new_storable : (count limit : ℕ) → is_site_count count ≡ true → is_limit limit ≡ true → AreStorable (new_world count limit)
new_storable count limit counted limited = record {
  few =
      let most : count ≤ 65535 = leb-true count 65535 (and_parts (nat_le 1 count) (nat_le count 65535) counted).1 in
      subst (λ n. n ≤ 65535) (sym (length-replicate count (site nothing nothing))) most;
  limited = limited;
  content = λ i s at. subst (λ (t : Site). IsStorable limit t.content) (sym (replicate_place count i (site nothing nothing) s at)) (storable_nothing limit);
  saved = λ i s at. subst (λ (t : Site). IsStorable limit t.saved) (sym (replicate_place count i (site nothing nothing) s at)) (storable_nothing limit);
}

-- ---- what each event makes of its site

record IsStorableSite (limit : ℕ) (s : Site) : Type 0 where
  content : IsStorable limit s.content
  saved : IsStorable limit s.saved

site_storable : (w : World) → AreStorable w → (i : ℕ) (s : Site) → slice_get w.sites i ≡ Some s → IsStorableSite w.limit s
site_storable w a i s at = record { content = a.content i s at; saved = a.saved i s at }

-- the site of a number changes
site_changes : (w v : World) (number : ℕ) (change : Site → Outcome Site) → AreStorable w → changed w number change ≡ Ok v → ((s t : Site) → slice_get w.sites number ≡ Some s → change s ≡ Ok t → IsStorableSite w.limit t) → AreStorable v
site_changes w v number change a h leads =
    let c = is_changed w number change v h in
    let now : IsStorableSite w.limit c.now = leads c.before c.now c.was c.change_is in
    subst AreStorable (sym c.is)
    (record {
      few = subst (λ n. n ≤ 65535) (sym (length-set w.sites number c.now)) a.few;
      limited = a.limited;
      content = λ i s at. elim (set_new w.sites number i c.now s at) [
        | inl here ↦ subst (λ (t : Site). IsStorable w.limit t.content) (sym here.1) now.content
        | inr there ↦ a.content i s there
      ];
      saved = λ i s at. elim (set_new w.sites number i c.now s at) [
        | inl here ↦ subst (λ (t : Site). IsStorable w.limit t.saved) (sym here.1) now.saved
        | inr there ↦ a.saved i s there
      ];
    })

joined_storable : (limit : ℕ) (verdict : Verdict) (ops : List Op) (s t : Site) → IsStorableSite limit s → with_operations verdict ops s ≡ Ok t → (verdict ≡ Ok tt → list_answer limit s.content ops ≡ Ok tt) → (verdict ≡ Ok tt → AreWritable ops) → IsStorableSite limit t
joined_storable limit verdict ops s t was h taken written =
    let joined = joined_ok verdict ops s t h in
    subst (IsStorableSite limit) joined.1 (record { content = storable_list limit s.content ops was.content (taken joined.0) (written joined.0); saved = was.saved })

-- the replicas of a world are in their range
replica_in_range : (w : World) (number : ℕ) (s : Site) → AreStorable w → slice_get w.sites number ≡ Some s → IsReplica (replica_of number)
replica_in_range w number s a at = grind (arith, slice_get_within)

delivered_storable : (limit : ℕ) (op : Op) (s t : Site) → IsStorableSite limit s → checked op ≡ Ok tt → IsWritable op → delivered limit op s ≡ Ok t → IsStorableSite limit t
delivered_storable limit op s t was well written h =
    let step = then_ok (of_store (taken limit s.content op)) (λ c. Ok (with_content s c)) t h in
    let took : taken limit s.content op ≡ Ok step.0 = store_ok (taken limit s.content op) step.0 step.1 in
    subst (IsStorableSite limit) (same_Ok (with_content s step.0) t step.2)
    (record { content = storable_taken limit s.content step.0 op was.content well written took; saved = was.saved })

saved_one_storable : (limit place : ℕ) (s t : Site) → IsStorableSite limit s → saved_one limit place s ≡ Ok t → IsStorableSite limit t
saved_one_storable limit place s t was h =
    let one = saved_one_ok limit place s t h in
    let held : Holds s.content one.op = place_held s.content place one.op one.held in
    subst (IsStorableSite limit) one.is
    (record { content = was.content; saved = storable_taken limit s.saved one.saved one.op was.saved (was.content.sound one.op held) (was.content.writable one.op held) one.took })

pub step_storable : (w v : World) (event : Event) → AreStorable w → PutsCharacters event → stepped w event ≡ Ok v → AreStorable v
step_storable w v (Edit number lo hi put) a characters h =
    site_changes w v number (edited w.limit (replica_of number) lo hi put.items) a h (λ s t at k.
    joined_storable w.limit (splice_answer w.limit s.content lo hi put.items) (splice_operations (replica_of number) s.content lo hi put.items) s t (site_storable w a number s at) k
    (splice_taken w.limit (replica_of number) lo hi s.content put.items)
    (λ ok. splice_written w.limit (replica_of number) (replica_in_range w number s a at) s.content (a.content number s at) lo hi put.items ok characters))
step_storable w v (Revert number gone back) a characters h =
    site_changes w v number (reverted w.limit (replica_of number) gone.items back.items) a h (λ s t at k.
    joined_storable w.limit (revert_answer w.limit s.content back.items) (revert_operations (replica_of number) s.content gone.items back.items) s t (site_storable w a number s at) k
    (revert_taken w.limit (replica_of number) s.content gone.items back.items)
    (λ ok. revert_written w.limit (replica_of number) (replica_in_range w number s a at) s.content (a.content number s at) gone.items back.items ok characters))
step_storable w v (Save number) a characters h =
    site_changes w v number (λ s. Ok (saved_site s)) a h (λ s t at k.
    subst (IsStorableSite w.limit) (same_Ok (saved_site s) t k) (record { content = a.content number s at; saved = a.content number s at }))
step_storable w v (SaveOne number place) a characters h =
    site_changes w v number (saved_one w.limit place) a h (λ s t at k. saved_one_storable w.limit place s t (site_storable w a number s at) k)
step_storable w v (Deliver taker giver place) a characters h =
    site_changes w v taker (given w giver (λ g. saved_operation g place) (delivered w.limit)) a h (λ s t at k.
    let i = takes_given w giver (λ g. saved_operation g place) (delivered w.limit) s t k in
    let held : Holds i.origin.saved i.item = operation_held i.origin place i.item i.saved_there in
    let from = a.saved giver i.origin i.there in
    delivered_storable w.limit i.item s t (site_storable w a taker s at) (from.sound i.item held) (from.writable i.item held) i.took)
step_storable w v (DeliverList taker giver lo hi) a characters h =
    site_changes w v taker (given w giver (λ g. saved_list g lo hi) (list_delivered w.limit)) a h (λ s t at k.
    let i = takes_given w giver (λ g. saved_list g lo hi) (list_delivered w.limit) s t k in
    joined_storable w.limit (list_answer w.limit s.content i.item) i.item s t (site_storable w a taker s at) i.took (λ ok. ok)
    (λ ok op m. (a.saved giver i.origin i.there).writable op (list_held i.origin lo hi i.item op i.saved_there m)))
step_storable w v (Restart number) a characters h =
    site_changes w v number (λ s. Ok (restarted s)) a h (λ s t at k.
    subst (IsStorableSite w.limit) (same_Ok (restarted s) t k) (record { content = a.saved number s at; saved = a.saved number s at }))

-- ---- many events

kept_storable : (w : World) (event : Event) → AreStorable w → PutsCharacters event → AreStorable (kept w (stepped w event))
kept_storable w event a characters =
    elim (stepped w event) as (λ r. stepped w event ≡ r → AreStorable (kept w r)) [
      | Ok v ↦ λ h. step_storable w v event a characters h
      | Err e ↦ λ h. a
    ] refl

after_storable : (w : World) (events : List Event) → AreStorable w → AllByRecursion PutsCharacters events → AreStorable (world_after w events)
after_storable w [] a characters = a
after_storable w (e ∷ events) a characters = after_storable (kept w (stepped w e)) events (kept_storable w e a characters.0) characters.1

pub reached_storable : (w : World) → IsReached w → AreStorable w
reached_storable w r = subst AreStorable (sym r.is) (after_storable (new_world r.count r.limit) r.events (new_storable r.count r.limit r.counted r.limited) r.characters)

-- ---- each content of a world

pub content_storable : (w : World) → AreStorable w → (c : Content) → Contains (contents w) c → IsStorable w.limit c
content_storable w a c m = elim (Contains-append_cases (held_contents w) (saved_contents w) c m) [
  | inl held ↦
      let place = contains_place (held_contents w) c held in
      let (s, there, is) = mapped_place (λ (s : Site). s.content) w.sites place.0 c place.1 in
      subst (IsStorable w.limit) (sym is) (a.content place.0 s there)
  | inr saved ↦
      let place = contains_place (saved_contents w) c saved in
      let (s, there, is) = mapped_place (λ (s : Site). s.saved) w.sites place.0 c place.1 in
      subst (IsStorable w.limit) (sym is) (a.saved place.0 s there)
]
