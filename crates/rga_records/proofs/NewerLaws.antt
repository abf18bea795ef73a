-- What is newer than all that is known: that it is new, and what a chain of such makes of the records.
use Rattle.std.proofs.lemmas.Bool.Decides.{nat_tests}
use Rattle.std.proofs.Common.{◌≡◌, ℕ, suc, zero, ◌+◌, ◌<◌, ◌≤◌, ◌==◌, nat_le, ◌&&◌, true, false, cond, List, [], ◌∷◌, ◌++◌, length, slice_index_or, refl, sym, ap, ◌∙◌, subst, arith, append_assoc, ne_eqb}
use Rattle.std.specs.Prelude.{Some, None, Ok, max}
use Rattle.std.proofs.lemmas.Bool.{false_from_ne_true}
use Rattle.std.proofs.lemmas.List.{append-nil}
use Rattle.std.specs.Cmp.{tied_itself}
use Rattle.std.specs.Ordering.{is_lt}
use Rattle.std.specs.declared.cmp.Ordering.TheVariants.{Less}
use Rattle.std.specs.BTreeMap.{insert_entry}
use Rattle.std.specs.List.{AllByRecursion}
use Rattle.std.specs.List.Sorted.{IsStrictlySortedBy}
use Rattle.std.specs.Map.{keys_of}
use Rattle.std.specs.FinMap as finite_map
use Rattle.std.specs.FinSet as finite_set
use Rattle.rga_ops.specs.Identifier.{Identifier, id_cmp, is_root}
use Rattle.rga_ops.specs.Content.{Content, element, join, single, clock_of, known_count}
use Rattle.rga_ops.specs.Answer.{answer}
use Rattle.rga_ops.specs.declared.op.Op.TheVariants.{Insert, Delete}
use Rattle.rga_ops.specs.declared.refusal.Taken.TheVariants.{New}
use Rattle.rga_ops.proofs.IdentifierLaws.{ids_total}
use Rattle.rga_ops.proofs.ClockLaws.{within_clock, clock_insertion}
use Rattle.rga_ops.proofs.NewestLaws.{lower_counter}
use Rattle.rga_store.specs.Counted.{IsCounted}
use Rattle.rga_store.proofs.StepLaws.{counted_insertion}
use Rattle.rga_sequence.specs.declared.entry.Entry.{Entry}
use Rattle.rga_pages.specs.declared.entry.Record.{Record}
use Rattle.rga_pages.specs.Pages.{AreBelow, Updates}
use Rattle.rga_pages.proofs.EntryLaws.{ordered_front, before_below, insert_between, updates_insert}
use Rattle.rga_records.specs.Records.{Entries, element_of_record, content_of_records, AreOrdered}
use Rattle.rga_records.specs.Chains.{grown, AreNewer, AreRows, last_entry_of, latest_of}
use Rattle.rga_records.proofs.RecordLaws.{deleted_at, content_inserted}
use Rattle.rga_records.proofs.CountedLaws.{recounted}

-- ---- one alone

-- what is newer than a content is not in it
pub newer_absent : (c : Content) (id : Identifier) → clock_of c < id.counter → finite_map.get c.inserted id ≡ None
newer_absent c id h =
    elim (finite_map.get c.inserted id) as (λ o. finite_map.get c.inserted id ≡ o → o ≡ None) [
      | None ↦ λ e. refl
      | Some x ↦ λ e. absurd (omega (arith, h, (within_clock c).own id x e))
    ] refl

pub newer_unmarked : (c : Content) (id : Identifier) → clock_of c < id.counter → finite_set.contains c.deleted id ≡ false
newer_unmarked c id h = false_from_ne_true (finite_set.contains c.deleted id) (λ e. omega (arith, h, (within_clock c).deleted id e))

rises : (a b : ℕ) → b < a → nat_le a b ≡ false
rises a b h = grind (arith, nat_tests)

proper : (id : Identifier) (n : ℕ) → n < id.counter → is_root id ≡ false
proper id n h = ap (λ b. b && (id.replica == 0)) (ne_eqb id.counter 0 (λ z. omega (arith, z, h)))

-- where there is room, what is not inserted is new
pub absent_is_new : (limit : ℕ) (c : Content) (id parent : Identifier) (ch : ℕ) → finite_map.get c.inserted id ≡ None → parent.counter < id.counter → known_count c < limit → answer limit c (Insert id parent ch) ≡ Ok New
absent_is_new limit c id parent ch absent rise room = grind arith

pub newer_is_new : (limit : ℕ) (c : Content) (id parent : Identifier) (ch : ℕ) → clock_of c < id.counter → parent.counter < id.counter → known_count c < limit → answer limit c (Insert id parent ch) ≡ Ok New
newer_is_new limit c id parent ch newer rise room = absent_is_new limit c id parent ch (newer_absent c id newer) rise room

-- and so is the deletion of what is inserted and not deleted
pub deletion_is_new : (limit : ℕ) (c : Content) (id : Identifier) → 0 < id.counter → finite_map.contains_key c.inserted id ≡ true → finite_set.contains c.deleted id ≡ false → answer limit c (Delete id) ≡ Ok New
deletion_is_new limit c id proper_id inserted unmarked = grind arith

-- and then it is the clock
newer_clock : (c : Content) (id parent : Identifier) (ch : ℕ) → clock_of c < id.counter → parent.counter < id.counter → id.counter ≤ clock_of (join c (single (Insert id parent ch)))
newer_clock c id parent ch newer rise =
    let is : clock_of (join c (single (Insert id parent ch))) ≡ max (clock_of c) id.counter = clock_insertion c id (element parent ch) (newer_absent c id newer) (omega arith) in
    omega (arith, is)

-- ---- one more in a chain

pub grown-push : (c : Content) (id : Identifier) (es : List Entry) (e : Entry) → grown c id (es ++ e ∷ []) ≡ join (grown c id es) (single (Insert e.id (last_entry_of id es) e.ch))
grown-push c id [] e = refl
grown-push c id (x ∷ es) e = grown-push (join c (single (Insert x.id id x.ch))) x.id es e

pub newer-push : (c : Content) (id : Identifier) (es : List Entry) (e : Entry) → AreNewer c id es → clock_of (grown c id es) < e.id.counter → (last_entry_of id es).counter < e.id.counter → AreNewer c id (es ++ e ∷ [])
newer-push c id [] e w newer rise = (newer, rise, tt)
newer-push c id (x ∷ es) e w newer rise = (w.0, w.1, newer-push (join c (single (Insert x.id id x.ch))) x.id es e w.2 newer rise)

pub last_entry_of-push : (id : Identifier) (es : List Entry) (e : Entry) → last_entry_of id (es ++ e ∷ []) ≡ e.id
last_entry_of-push id [] e = refl
last_entry_of-push id (x ∷ es) e = last_entry_of-push x.id es e

pub latest_at : (n : ℕ) (es : List Entry) (i : ℕ) (d : Entry) → length es ≡ suc i → latest_of n es ≡ (slice_index_or es i d).id.counter
latest_at n [] i d h = absurd (omega (arith, h))
latest_at n (e ∷ []) zero d h = refl
latest_at n (e ∷ []) (suc i) d h = absurd (omega (arith, h))
latest_at n (e ∷ x ∷ es) zero d h = absurd (omega (arith, h))
latest_at n (e ∷ x ∷ es) (suc i) d h = latest_at e.id.counter (x ∷ es) i d (omega (arith, h))

-- ---- what is counted

-- for the same content, whose insertions are counted anew
pub counted_as : (c d : Content) (latest insertions identifiers more limit : ℕ) → d ≡ c → more ≡ identifiers → IsCounted c latest insertions identifiers limit → IsCounted d latest (finite_map.len d.inserted) more limit
counted_as c d latest insertions identifiers more limit same is w =
    recounted c d latest insertions identifiers latest (finite_map.len d.inserted) more limit same refl (ap (λ b. finite_map.len b.inserted) same ∙ sym w.inserted) is w

-- one that is newer counts as one more
pub counted_newer : (c : Content) (latest insertions identifiers limit : ℕ) → IsCounted c latest insertions identifiers limit → (id parent : Identifier) (ch : ℕ) → clock_of c < id.counter → parent.counter < id.counter → identifiers < limit
    → IsCounted (join c (single (Insert id parent ch))) id.counter (insertions + 1) (identifiers + 1) limit
counted_newer c latest insertions identifiers limit w id parent ch newer rise room =
    recounted (join c (single (Insert id parent ch))) (join c (single (Insert id parent ch))) (max latest id.counter) (insertions + 1) (cond (finite_set.contains c.deleted id) identifiers (identifiers + 1)) id.counter (insertions + 1) (identifiers + 1) limit
    refl (omega (arith, w.clocked, newer)) refl (sym (ap (λ b. cond b identifiers (identifiers + 1)) (newer_unmarked c id newer)))
    (counted_insertion c latest insertions identifiers limit w id parent ch (newer_is_new limit c id parent ch newer rise (subst (λ n. n < limit) w.known room)))

pub counted_chain : (c : Content) (latest insertions identifiers limit : ℕ) (parent : Identifier) (es : List Entry) → IsCounted c latest insertions identifiers limit → AreNewer c parent es → identifiers + length es ≤ limit
    → IsCounted (grown c parent es) (latest_of latest es) (insertions + length es) (identifiers + length es) limit
counted_chain c latest insertions identifiers limit parent [] w newer room =
    recounted c c latest insertions identifiers latest (insertions + 0) (identifiers + 0) limit refl refl (omega arith) (omega arith) w
counted_chain c latest insertions identifiers limit parent (e ∷ es) w newer room =
    let d : Content = join c (single (Insert e.id parent e.ch)) in
    let n : ℕ = length es in
    let more : n + 1 ≡ length (e ∷ es) = omega arith in
    recounted (grown d e.id es) (grown d e.id es) (latest_of e.id.counter es) (insertions + 1 + n) (identifiers + 1 + n) (latest_of e.id.counter es) (insertions + length (e ∷ es)) (identifiers + length (e ∷ es)) limit refl refl (omega (arith, more)) (omega (arith, more))
    (counted_chain d e.id.counter (insertions + 1) (identifiers + 1) limit e.id es
    (counted_newer c latest insertions identifiers limit w e.id parent e.ch newer.0 newer.1 (omega (arith, more, room))) newer.2 (omega (arith, more, room)))

-- ---- the records of a chain

pub rows-push : (parent : Identifier) (es : List Entry) (rs : Entries) (e : Entry) (v : Record) → AreRows parent es rs → element_of_record v ≡ Some (element (last_entry_of parent es) e.ch) → v.deleted ≡ false → AreRows parent (es ++ e ∷ []) (rs ++ (e.id, v) ∷ [])
rows-push parent [] [] e v w shown unmarked = (refl, shown, unmarked, tt)
rows-push parent [] (r ∷ rs) e v w shown unmarked = absurd w
rows-push parent (x ∷ es) [] e v w shown unmarked = absurd w
rows-push parent (x ∷ es) (r ∷ rs) e v w shown unmarked = (w.0, w.1, w.2, rows-push x.id es rs e v w.3 shown unmarked)

-- they are in order
pub rows_ordered : (c : Content) (parent : Identifier) (es : List Entry) (rs : Entries) → AreNewer c parent es → AreRows parent es rs → AreOrdered rs
unfolding IsStrictlySortedBy
rows_ordered c parent [] [] newer rows = tt
rows_ordered c parent [] (r ∷ rs) newer rows = absurd rows
rows_ordered c parent (e ∷ es) [] newer rows = absurd rows
rows_ordered c parent (e ∷ es) (r ∷ rs) newer rows =
    let d : Content = join c (single (Insert e.id parent e.ch)) in
    let own : e.id.counter ≤ clock_of d = newer_clock c e.id parent e.ch newer.0 newer.1 in
    (later r.0 d e.id es rs (subst (λ k. k.counter ≤ clock_of d) (sym rows.0) own) newer.2 rows.3, rows_ordered d e.id es rs newer.2 rows.3)
  where
    later : (q : Identifier) (d : Content) (p : Identifier) (xs : List Entry) (ss : Entries) → q.counter ≤ clock_of d → AreNewer d p xs → AreRows p xs ss → AllByRecursion (λ y. id_cmp q y ≡ Less) (keys_of ss)
    later q d p [] [] h w rows = tt
    later q d p [] (s ∷ ss) h w rows = absurd rows
    later q d p (x ∷ xs) [] h w rows = absurd rows
    later q d p (x ∷ xs) (s ∷ ss) h w rows =
        let own : x.id.counter ≤ clock_of (join d (single (Insert x.id p x.ch))) = newer_clock d x.id p x.ch w.0 w.1 in
        let above : q.counter < x.id.counter = omega (arith, h, w.0) in
        (subst (λ k. id_cmp q k ≡ Less) (sym rows.0) (lower_counter q x.id above), later q (join d (single (Insert x.id p x.ch))) x.id xs ss (omega (arith, above, own)) w.2 rows.3)

-- behind all others they stand for what has grown
pub rows_content : (es : Entries) (parent : Identifier) (xs : List Entry) (rs : Entries) → AreOrdered (es ++ rs) → AreNewer (content_of_records es) parent xs → AreRows parent xs rs → content_of_records (es ++ rs) ≡ grown (content_of_records es) parent xs
rows_content es parent [] [] ordered newer rows = ap content_of_records (append-nil es)
rows_content es parent [] (r ∷ rs) ordered newer rows = absurd rows
rows_content es parent (x ∷ xs) [] ordered newer rows = absurd rows
rows_content es parent (x ∷ xs) (r ∷ rs) ordered newer rows =
    let c : Content = content_of_records es in
    let fs : Entries = es ++ r ∷ [] in
    let whole : es ++ r ∷ rs ≡ fs ++ rs = sym (append_assoc es (r ∷ []) rs) in
    let all : AreOrdered (fs ++ rs) = subst AreOrdered whole ordered in
    let now : AreOrdered fs = ordered_front fs rs all in
    let was : AreOrdered es = ordered_front es (r ∷ rs) ordered in
    let below : AreBelow r.0 es = before_below r.0 es r [] now (ap is_lt (tied_itself ids_total r.0)) in
    let appended : insert_entry id_cmp es r.0 r.1 ≡ fs = ap (λ ys. insert_entry id_cmp ys r.0 r.1) (sym (append-nil es)) ∙ insert_between r.0 r.1 es [] below tt in
    let changed : Updates es fs r.0 (Some r.1) = subst (λ ys. Updates es ys r.0 (Some r.1)) appended (updates_insert r.0 r.1 es) in
    let above : clock_of c < r.0.counter = subst (λ k. clock_of c < k.counter) (sym rows.0) newer.0 in
    let step : content_of_records fs ≡ join c (single (Insert x.id parent x.ch)) =
    content_inserted es fs r.0 (Some r.1) was now changed parent x.ch rows.1 (rows.2 ∙ sym (sym (deleted_at es was r.0) ∙ newer_unmarked c r.0 above)) (newer_absent c r.0 above)
    ∙ ap (λ k. join c (single (Insert k parent x.ch))) rows.0 in
    ap content_of_records whole
    ∙ rows_content fs x.id xs rs all (subst (λ d. AreNewer d x.id xs) (sym step) newer.2) rows.3
    ∙ ap (λ d. grown d x.id xs) step
