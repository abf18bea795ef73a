-- The revert of an edit, on the content that the edit left, gives the text from before it.
use Rattle.rga_doc.proofs.Prelude.{◌≡◌, ℕ, ◌+◌, ◌<◌, ◌≤◌, true, false, cond, not, ◌&&◌, ◌||◌, nat_lt, List, [], ◌∷◌, ◌++◌, map, filter, take, drop, length, refl, sym, ap, ◌∙◌, subst, arith, lt-ltb, ltb-false, Option, Some, None, Ok, option_map}
use Rattle.rga_doc.proofs.Prelude.{option_or, unwrap_or, list_any, AllByRecursion, filter_map, or-false, nat_tests, and_parts, or_right, not-true, none-some, Identifier, identifier, is_root, Element, element, Content, clock_of, join, single}
use Rattle.rga_doc.proofs.Prelude.{content_of, is_complete, order, text, shown, is_visible, visible, change_after, Op, Insert, Delete, Splice, is, same_id, is_itself, is_swap, is_id-same, all_append, all_map, all_members, all_filter, get-join}
use Rattle.rga_doc.proofs.Prelude.{contains-join, join_assoc, join_nothing, or_none, is_complete-iff, not_complete_root, inserted_if_complete, order_list, order_distinct, content_of-append, get-single, filtered, visible_elements, is_root_or_complete}
use Rattle.rga_doc.proofs.Prelude.{is_complete-insertion, not_complete_before, newest_absent, newest_kept, newest_leaf, order-newest, chain, splices_operations, draft_operations, splices_answer, new_ids, left_of, distinct_elements, restorations}
use Rattle.rga_doc.proofs.Prelude.{revert_operations, are_restorable, inserted_elements, deleted_elements, element_characters}
use Rattle.rga_ops.proofs.ClockLaws.{within_clock}
use Rattle.rga_doc.proofs.EditSteps.{newest, insertion_leads}
use Rattle.rga_doc.proofs.EditLaws.{splices_drafted, editing}
use Rattle.rga_doc.proofs.RevertSets.{among, AreApart, not_among, apart_if_restorable, elements_of}
use Rattle.rga_doc.proofs.RevertLaws.{AreComplete, reverts, all_once, gone_complete, complete_by_order}
use Rattle.rga_doc.proofs.UndoLists.{Reading, reads_same, moved, reads_moved, apart_by_counter, AreNewer, not_among_newer, newer_still, new_ids-newer, inserted_elements-append, deleted_elements-append, inserted_elements-deletions}
use Rattle.rga_doc.proofs.UndoLists.{deleted_elements-deletions, inserted_elements-chain, deleted_elements-chain, contains-operations, get-operations_absent, all_take, all_drop, once_has, deleted_by_revert}
use Rattle.std.specs.FinMap as finite_map
use Rattle.std.specs.FinSet as finite_set

-- ---- complete elements are no newer than the clock

complete_within : (c : Content) (id : Identifier) → is_complete c id ≡ true → id.counter ≤ clock_of c
complete_within c id h = let at : (x : Element) × (finite_map.get c.inserted id ≡ Some x) = inserted_if_complete c id h in (within_clock c).own id at.0 at.1

-- ---- restorations

-- the new identifiers of the restored elements read as their characters
abbrev AreRead : Reading → ℕ → ℕ → List (Identifier × ℕ) → Type 0
AreRead q replica last [] = Unit {0}
AreRead q replica last (b ∷ back) = (q (identifier (last + 1) replica) ≡ Some b.1) × AreRead q replica (last + 1) back

-- the elements read as their characters before,
abbrev ReadAs : Reading → List (Identifier × ℕ) → Type 0
ReadAs p [] = Unit {0}
ReadAs p (b ∷ back) = (p b.0 ≡ Some b.1) × ReadAs p back

read_still : (x y : Identifier) (ch : ℕ) (p : Reading) (back : List (Identifier × ℕ)) → AllByRecursion (λ q. is q x ≡ false) (elements_of back) → AllByRecursion (λ q. is q y ≡ false) (elements_of back) → ReadAs p back → ReadAs (moved x y ch p) back
read_still x y ch p [] a b h = tt
read_still x y ch p (e ∷ back) a b h = ((λ k. cond (a.0 k) None (cond (b.0 k) (Some ch) (p e.0))) ∙ h.0, read_still x y ch p back a.1 b.1 h.1)

-- the text that is read is the same, where the restored elements read as the ones that they restore read before
rereads :
    (back : List (Identifier × ℕ)) (f : Content) (replica last : ℕ) (p q : Reading) → last ≡ clock_of f → AreComplete f (elements_of back) → AreApart back
    → ReadAs p back → AllByRecursion (λ x. q x ≡ None) (elements_of back) → AreRead q replica last back
    → ((id : Identifier) → is_complete f id ≡ true → among id back ≡ false → q id ≡ p id)
    → filter_map q (order (join f (content_of (restorations replica last back)))) ≡ filter_map p (order f)
rereads [] f replica last p q now complete apart before after read others =
    ap (λ g. filter_map q (order g)) (join_nothing f)
    ∙ reads_same q p (order f) (all_members (λ x. q x ≡ p x) (order f) (λ x m. others x (sym ((order_list f).elements x) ∙ m) refl))
rereads (b ∷ back) f replica last p q now complete apart before after read others =
    let x : Identifier = b.0 in
    let ch : ℕ = b.1 in
    let y : Identifier = identifier (last + 1) replica in
    let next : last + 1 ≡ clock_of f + 1 = ap (λ n. n + 1) now in
    let g : Content = join f (single (Insert y x ch)) in
    let newer : clock_of f < y.counter = newest f y next in
    let leads = insertion_leads f y x ch next (or_right (is_root x) (is_complete f x) complete.0) in
    let further : AreComplete g (elements_of back) =
    all_map (λ q. is_complete f q ≡ true) (λ q. is_complete g q ≡ true) (λ q h. is_complete-insertion f y x ch (newest_leaf f y newer) q ∙ or_right (is q y && is_root_or_complete f x) (is_complete f q) h) (elements_of back) complete.1 in
    let no_new : AllByRecursion (λ q. is q y ≡ false) (elements_of back) =
    all_map (λ q. is_complete f q ≡ true) (λ q. is q y ≡ false) (λ q h. let low : q.counter ≤ clock_of f = complete_within f q h in apart_by_counter q y (omega (arith, low, newer))) (elements_of back) complete.1 in
    let low_x : x.counter ≤ clock_of f = complete_within f x complete.0 in
    let other_x : is y x ≡ false = is_swap y x ∙ apart_by_counter x y (omega (arith, low_x, newer)) in
    let no_root : is_root x ≡ false = not_complete_root ((is_complete-iff f x).0 complete.0) in
    let still : (id : Identifier) → is_complete g id ≡ true → among id back ≡ false → q id ≡ moved x y ch p id =
    λ id in_g free. elim (is id x) as (λ t. is id x ≡ t → q id ≡ cond t None (cond (is id y) (Some ch) (p id))) [
      | true ↦ λ t. ap q (same_id id x t) ∙ after.0
      | false ↦ λ s. elim (is id y) as (λ t. is id y ≡ t → q id ≡ cond t (Some ch) (p id)) [
        | true ↦ λ t. ap q (same_id id y t) ∙ read.0
        | false ↦ λ u.
            let in_f : is_complete f id ≡ true = sym (is_complete-insertion f y x ch (newest_leaf f y newer) id ∙ ap (λ t. (t && is_root_or_complete f x) || is_complete f id) u) ∙ in_g in
            others id in_f (λ k. (is_id-same x id ∙ s) k || free k)
      ] refl
    ] refl in
    let placed : order g ≡ change_after x (λ ys. y ∷ ys) (order f) =
    order-newest f y newer x ch ∙ ap (λ t. cond t (y ∷ order f) (change_after x (λ ys. y ∷ ys) (order f))) no_root in
    ap (λ h. filter_map q (order h)) (sym (join_assoc f (single (Insert y x ch)) (content_of (restorations replica (last + 1) back))))
    ∙ rereads back g replica (last + 1) (moved x y ch p) q (next ∙ sym leads.time) further apart.1 (read_still x y ch p back apart.0 no_new before.1) after.1 read.1 still
    ∙ ap (filter_map (moved x y ch p)) placed
    ∙ reads_moved x y ch p (order f) ((order_list f).elements x ∙ complete.0) (order_distinct f (order f) (order_list f).in_order)
    ((order_list f).elements y ∙ not_complete_before f y (newest_leaf f y newer)) other_x before.0

-- ---- the edit

-- what operations do that a later revert rests on: they delete visible elements, and insert newer ones that hide nothing
pub record IsEdit (c : Content) (ops : List Op) : Type 0 where
  pub deletes : AllByRecursion (λ id. is_visible c id ≡ true) (deleted_elements ops)
  pub inserts : AreNewer (clock_of c) (inserted_elements ops)
  pub reads : (p : Reading) → ((id : Identifier) → clock_of c < id.counter → p id ≡ None) → filter_map p (order (join c (content_of ops))) ≡ filter_map p (order c)

all_visible : (c : Content) → AllByRecursion (λ id. is_visible c id ≡ true) (visible c)
all_visible c = all_members (λ id. is_visible c id ≡ true) (visible c) (λ q m. sym (visible_elements c q) ∙ m)

-- they delete some of the elements, and insert newer ones
drafted : (P : Identifier → Type 0) (replica : ℕ) (elements : List Identifier) (last : ℕ) (splices : List Splice) → AllByRecursion P elements
    → AllByRecursion P (deleted_elements (draft_operations replica elements last splices)) × AreNewer last (inserted_elements (draft_operations replica elements last splices))
drafted P replica elements last [] all = (tt, tt)
drafted P replica elements last (s ∷ splices) all =
    let put : List ℕ = s.put in
    let seg : List Identifier = drop s.lo (take s.hi elements) in
    let after : Identifier = left_of elements s.lo in
    let row = chain replica last after put in
    let rest : List Op = draft_operations replica elements (last + length put) splices in
    let later = drafted P replica elements (last + length put) splices all in (
      subst (AllByRecursion P) (sym (deleted_elements-append (map Delete seg ++ row) rest ∙ ap (λ xs. xs ++ deleted_elements rest) (deleted_elements-append (map Delete seg) row ∙ (λ k. deleted_elements-deletions seg k ++ deleted_elements-chain replica last after put k))))
          (all_append P (seg ++ []) (deleted_elements rest) (all_append P seg [] (all_drop P s.lo (take s.hi elements) (all_take P s.hi elements all)) tt) later.0),
      subst (AreNewer last) (sym (inserted_elements-append (map Delete seg ++ row) rest ∙ ap (λ xs. xs ++ inserted_elements rest) (inserted_elements-append (map Delete seg) row ∙ (λ k. inserted_elements-deletions seg k ++ inserted_elements-chain replica last after put k))))
          (all_append (λ (id : Identifier). last < id.counter) (new_ids replica last put) (inserted_elements rest) (new_ids-newer replica last put) (newer_still last (last + length put) (inserted_elements rest) (omega arith) later.1)),
    )

pub splices_edit : (limit replica : ℕ) (c : Content) (splices : List Splice) → splices_answer limit c splices ≡ Ok tt → IsEdit c (splices_operations replica c splices)
splices_edit limit replica c splices h =
    let s = editing limit replica c splices h in
    let made = splices_drafted limit replica c splices h in
    let own = drafted (λ id. is_visible c id ≡ true) replica (visible c) (clock_of c) splices (all_visible c) in
    record {
      deletes = subst (λ ops. AllByRecursion (λ id. is_visible c id ≡ true) (deleted_elements ops)) (sym made) own.0;
      inserts = subst (λ ops. AreNewer (clock_of c) (inserted_elements ops)) (sym made) own.1;
      reads = λ p hides. ap (λ d. filter_map p (order d)) (sym s.0.leads.joined) ∙ s.0.keeps p hides;
    }

-- ---- what the restorations insert

abbrev inserted_in : List Op → Identifier → Option Element
inserted_in ops id = finite_map.get (content_of ops).inserted id

-- is read where what they insert is
reads_restored : (q : Reading) (replica last : ℕ) (back : List (Identifier × ℕ)) → ((id : Identifier) (x : Element) → last < id.counter → inserted_in (restorations replica last back) id ≡ Some x → q id ≡ Some x.ch) → AreRead q replica last back
reads_restored q replica last [] shows = tt
reads_restored q replica last (b ∷ back) shows =
    let y : Identifier = identifier (last + 1) replica in
    let rest : List Op = restorations replica (last + 1) back in
    let found : (id : Identifier) → inserted_in (restorations replica last (b ∷ back)) id ≡ option_or (cond (is id y) (Some (element b.0 b.1)) None) (inserted_in rest id) =
    λ id. get-join (single (Insert y b.0 b.1)) (content_of rest) id ∙ ap (λ o. option_or o (inserted_in rest id)) (get-single y b.0 b.1 id) in (
      shows (identifier (last + 1) replica) (element b.0 b.1) (omega arith) (found y ∙ ap (λ t. option_or (cond t (Some (element b.0 b.1)) None) (inserted_in rest y)) (is_itself y)),
      reads_restored q replica (last + 1) back (λ id x newer at. shows id x (omega (arith, newer))
          (found id ∙ ap (λ t. option_or (cond t (Some (element b.0 b.1)) None) (inserted_in rest id)) (is_swap id y ∙ apart_by_counter y id newer) ∙ at)),
    )

-- ---- the revert of an edit

elements_with : (c : Content) (ids : List Identifier) → elements_of (element_characters c ids) ≡ ids
elements_with c [] = refl
elements_with c (id ∷ ids) = ap (λ r. id ∷ r) (elements_with c ids)

none_of : (id : Identifier) (ids : List Identifier) → AllByRecursion (λ q. is q id ≡ false) ids → list_any (is id) ids ≡ false
none_of id [] h = refl
none_of id (x ∷ ids) h = λ k. (is_swap id x ∙ h.0) k || none_of id ids h.1 k

not_less : (m n : ℕ) → n ≤ m → nat_lt m n ≡ false
not_less m n h = grind (arith, nat_tests)

module _ (replica : ℕ) (c : Content) (ops : List Op) (edit : IsEdit c ops) where
  abbrev d : Content
  d = join c (content_of ops)

  abbrev back : List (Identifier × ℕ)
  back = element_characters c (deleted_elements ops)

  abbrev gone : List Identifier
  gone = distinct_elements (filter (is_visible d) (inserted_elements ops))

  abbrev rs : List Op
  rs = restorations replica (clock_of d) back

  abbrev e : Content
  e = join d (content_of (revert_operations replica d (inserted_elements ops) back))

  -- what reads as before the edit
  abbrev before : Reading
  before id = cond (nat_lt (clock_of c) id.counter) None (shown c id)

  before_new : (id : Identifier) → clock_of c < id.counter → before id ≡ None
  before_new id h = ap (λ t. cond t None (shown c id)) (lt-ltb (clock_of c) id.counter h)

  before_old : (id : Identifier) → id.counter ≤ clock_of c → before id ≡ shown c id
  before_old id h = ap (λ t. cond t None (shown c id)) (not_less (clock_of c) id.counter h)

  was_deleted : (id : Identifier) → finite_set.contains d.deleted id ≡ (finite_set.contains c.deleted id || list_any (is id) (deleted_elements ops))
  was_deleted id = contains-join c (content_of ops) id ∙ ap (λ t. finite_set.contains c.deleted id || t) (contains-operations ops id)

  deleted_e : (id : Identifier) → finite_set.contains e.deleted id ≡ (finite_set.contains d.deleted id || list_any (is id) gone)
  deleted_e = deleted_by_revert d gone replica (clock_of d) back

  inserted_e : (id : Identifier) → finite_map.get e.inserted id ≡ option_or (finite_map.get d.inserted id) (inserted_in rs id)
  inserted_e id =
      get-join d (content_of (map Delete gone ++ rs)) id
      ∙ ap (option_or (finite_map.get d.inserted id)) (
      ap (λ f. finite_map.get f.inserted id) (content_of-append (map Delete gone) rs)
      ∙ get-join (content_of (map Delete gone)) (content_of rs) id
      ∙ ap (λ o. option_or o (inserted_in rs id)) (get-operations_absent (map Delete gone) id (ap (list_any (is id)) (inserted_elements-deletions gone))))

  gone_newer : AreNewer (clock_of c) gone
  gone_newer = all_once (λ (id : Identifier). clock_of c < id.counter) (filter (is_visible d) (inserted_elements ops)) (all_filter (λ (id : Identifier). clock_of c < id.counter) (is_visible d) (inserted_elements ops) edit.inserts)

  gone_within : (id : Identifier) → clock_of d < id.counter → list_any (is id) gone ≡ false
  gone_within id newer = none_of id gone (all_map (λ q. is_complete d q ≡ true) (λ q. is q id ≡ false) (λ q h. let low : q.counter ≤ clock_of d = complete_within d q h in apart_by_counter q id (omega (arith, low, newer))) gone (gone_complete d (inserted_elements ops)))

  shown_as : (f : Content) (id : Identifier) (x : Element) → finite_set.contains f.deleted id ≡ false → finite_map.get f.inserted id ≡ Some x → shown f id ≡ Some x.ch
  shown_as f id x kept at = λ k. cond (kept k) None (option_map (λ (x : Element). x.ch) (at k))

  read_before : (ids : List Identifier) → AllByRecursion (λ id. is_visible c id ≡ true) ids → ReadAs before (element_characters c ids)
  read_before [] h = tt
  read_before (id ∷ ids) h =
      let parts = and_parts (is_complete c id) (not (finite_set.contains c.deleted id)) h.0 in
      let at : (x : Element) × (finite_map.get c.inserted id ≡ Some x) = inserted_if_complete c id parts.0 in (
        before_old id (complete_within c id parts.0) ∙ shown_as c id at.0 (not-true (finite_set.contains c.deleted id) parts.1) at.1
            ∙ ap (λ o. Some (unwrap_or (option_map (λ (x : Element). x.ch) o) 0)) (sym at.1),
        read_before ids h.1,
      )

  read_after : AllByRecursion (λ x. shown e x ≡ None) (elements_of back)
  read_after = subst (AllByRecursion (λ x. shown e x ≡ None)) (sym (elements_with c (deleted_elements ops))) (all_members (λ x. shown e x ≡ None) (deleted_elements ops) (λ x m.
      let is_gone : finite_set.contains d.deleted x ≡ true = was_deleted x ∙ or_right (finite_set.contains c.deleted x) (list_any (is x) (deleted_elements ops)) m in
      ap (λ t. cond t None (option_map (λ (x : Element). x.ch) (finite_map.get e.inserted x))) (deleted_e x ∙ ap (λ t. t || list_any (is x) gone) is_gone)))

  read_new : AreRead (shown e) replica (clock_of d) back
  read_new = reads_restored (shown e) replica (clock_of d) back (λ id x newer at.
      shown_as e id x (deleted_e id ∙ (λ k. newest_kept d id newer k || gone_within id newer k)) (inserted_e id ∙ (λ k. option_or (newest_absent d id newer k) (at k))))

  -- an element that the edit inserted and that is complete was deleted again
  is_gone_again : (id : Identifier) → clock_of c < id.counter → is_complete d id ≡ true → list_any (is id) (deleted_elements ops) ≡ false → list_any (is id) gone ≡ true
  is_gone_again id newer complete stays =
      let at : (x : Element) × (finite_map.get d.inserted id ≡ Some x) = inserted_if_complete d id complete in
      let made : inserted_in ops id ≡ Some at.0 = ap (λ o. option_or o (inserted_in ops id)) (sym (newest_absent c id newer)) ∙ sym (get-join c (content_of ops) id) ∙ at.1 in
      let member : list_any (is id) (inserted_elements ops) ≡ true = elim (list_any (is id) (inserted_elements ops)) as (λ b. list_any (is id) (inserted_elements ops) ≡ b → b ≡ true) [
        | true ↦ λ t. refl
        | false ↦ λ f. absurd (none-some _ (sym (get-operations_absent ops id f) ∙ made))
      ] refl in
      let kept : finite_set.contains d.deleted id ≡ false = was_deleted id ∙ (λ k. newest_kept c id newer k || stays k) in
      let visible_d : is_visible d id ≡ true = (λ k. complete k && not (kept k)) in
      once_has id (filter (is_visible d) (inserted_elements ops)) (filtered (is_visible d) id (inserted_elements ops) ∙ (λ k. member k && visible_d k))

  read_others : (id : Identifier) → is_complete d id ≡ true → among id back ≡ false → shown e id ≡ before id
  read_others id complete free =
      let stays : list_any (is id) (deleted_elements ops) ≡ false = ap (list_any (is id)) (sym (elements_with c (deleted_elements ops))) ∙ none_of id (elements_of back) (not_among id back free) in
      let at : (x : Element) × (finite_map.get d.inserted id ≡ Some x) = inserted_if_complete d id complete in
      elim (nat_lt (clock_of c) id.counter) as (λ b. nat_lt (clock_of c) id.counter ≡ b → shown e id ≡ cond b None (shown c id)) [
        | true ↦ λ t.
            let newer : clock_of c < id.counter = grind (arith, nat_tests) in
            ap (λ b. cond b None (option_map (λ (x : Element). x.ch) (finite_map.get e.inserted id))) (deleted_e id ∙ or_right (finite_set.contains d.deleted id) (list_any (is id) gone) (is_gone_again id newer complete stays))
        | false ↦ λ f.
            let old : id.counter ≤ clock_of c = ltb-false (clock_of c) id.counter f in
            let deleted : finite_set.contains e.deleted id ≡ finite_set.contains c.deleted id =
            deleted_e id ∙ (λ k. was_deleted id k || not_among_newer (clock_of c) id gone old gone_newer k)
            ∙ or-false (finite_set.contains c.deleted id || list_any (is id) (deleted_elements ops))
            ∙ ap (λ t. finite_set.contains c.deleted id || t) stays ∙ or-false (finite_set.contains c.deleted id) in
            let same : finite_map.get d.inserted id ≡ finite_map.get c.inserted id =
            get-join c (content_of ops) id ∙ ap (option_or (finite_map.get c.inserted id)) (get-operations_absent ops id (not_among_newer (clock_of c) id (inserted_elements ops) old edit.inserts)) ∙ or_none (finite_map.get c.inserted id) in
            let inserted : finite_map.get e.inserted id ≡ finite_map.get c.inserted id =
            inserted_e id ∙ ap (λ o. option_or o (inserted_in rs id)) at.1 ∙ sym at.1 ∙ same in
            (λ k. cond (deleted k) None (option_map (λ (x : Element). x.ch) (inserted k)))
      ] refl

  pub undo_text : are_restorable d back ≡ true → text e ≡ text c
  undo_text able =
      let done = reverts d replica (inserted_elements ops) back able in
      let removed = done.removed in
      ap (λ f. filter_map (shown e) (order f)) (sym done.leads.joined ∙ done.restored.leads.joined)
      ∙ rereads back removed.outcome replica (clock_of d) before (shown e) done.now done.still (apart_if_restorable d back able) (read_before (deleted_elements ops) edit.deletes) read_after read_new
      (λ id h free. read_others id (sym (complete_by_order d removed.outcome removed.stays id) ∙ h) free)
      ∙ ap (filter_map before) removed.stays
      ∙ edit.reads before before_new
      ∙ reads_same before (shown c) (order c) (all_members (λ x. before x ≡ shown c x) (order c) (λ x m. before_old x (complete_within c x (sym ((order_list c).elements x) ∙ m))))
