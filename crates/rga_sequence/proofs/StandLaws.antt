-- What stands where an identifier does: one entry, with no other of that identifier before or behind it.
use Rattle.std.proofs.Common.{◌≡◌, ℕ, ◌+◌, ◌<◌, ◌≤◌, suc, zero, Bool, true, false, cond, ◌||◌, List, [], ◌∷◌, ◌++◌, length, take, drop, slice_index_or, refl, sym, ap, ◌∙◌, subst, arith, append_assoc, add-one}
use Rattle.std.specs.Prelude.{Some, None, slice_set}
use Rattle.std.specs.List.{slice_get, AllByRecursion, IsDistinct}
use Rattle.std.proofs.lemmas.Option.{same_Some, none-some, slice_get_within}
use Rattle.std.proofs.lemmas.Bool.{or_from, or_parts, or_right}
use Rattle.std.proofs.lemmas.List.{length-map, take_more}
use Rattle.std.proofs.lemmas.List.Folds.{list_any-append}
use Rattle.rga_ops.specs.Identifier.{Identifier, is_id, is_root}
use Rattle.rga_ops.proofs.IdentifierLaws.{is_swap, is_id-same, is_id-itself}
use Rattle.rga_sequence.specs.declared.entry.Entry.{Entry}
use Rattle.rga_sequence.specs.Entries.{ids, has, entry_of, entries_up_to, change_after_entry, change_behind_entry, without_entry, as_marked, mark_entry, AreApart}
use Rattle.rga_sequence.specs.Blocks.{Blocks, flat, before, behind, mark_at_index, IsPlace, Stands}
use Rattle.rga_pages.proofs.PartLaws.{flat_push, parted}

pub id_swap : (a b : Identifier) → is_id a b ≡ false → is_id b a ≡ false
id_swap a b h = is_id-same b a ∙ is_swap a b ∙ sym (is_id-same a b) ∙ h

-- ---- an entry between others

-- the first entry has another identifier, and so have those behind it
pub parts : (id : Identifier) (x : Entry) (xs : List Entry) → has id (x ∷ xs) ≡ false → (is_id x.id id ≡ false) × (has id xs ≡ false)
parts id x xs h = or_parts (is_id x.id id) (has id xs) h

-- the change comes behind the entry
pub change_between : (id : Identifier) (f : List Entry → List Entry) (front : List Entry) (e : Entry) (back : List Entry) → is_id e.id id ≡ true → has id front ≡ false → change_after_entry id f (front ++ e ∷ back) ≡ front ++ e ∷ f back
change_between id f [] e back named h = rw named
change_between id f (x ∷ front) e back named h = rw (parts id x front h).0 (ap (λ r. x ∷ r) (change_between id f front e back named (parts id x front h).1))

pub without_absent : (id : Identifier) (xs : List Entry) → has id xs ≡ false → without_entry id xs ≡ xs
without_absent id [] h = refl
without_absent id (x ∷ xs) h = rw (parts id x xs h).0 (ap (λ r. x ∷ r) (without_absent id xs (parts id x xs h).1))

pub without_between : (id : Identifier) (front : List Entry) (e : Entry) (back : List Entry) → is_id e.id id ≡ true → has id front ≡ false → has id back ≡ false → without_entry id (front ++ e ∷ back) ≡ front ++ back
without_between id [] e back named h k = rw named (without_absent id back k)
without_between id (x ∷ front) e back named h k = rw (parts id x front h).0 (ap (λ r. x ∷ r) (without_between id front e back named (parts id x front h).1 k))

pub mark_absent : (mark : Bool) (id : Identifier) (xs : List Entry) → has id xs ≡ false → mark_entry mark id xs ≡ xs
mark_absent mark id [] h = refl
mark_absent mark id (x ∷ xs) h = rw (parts id x xs h).0 (ap (λ r. x ∷ r) (mark_absent mark id xs (parts id x xs h).1))

pub mark_between : (mark : Bool) (id : Identifier) (front : List Entry) (e : Entry) (back : List Entry) → is_id e.id id ≡ true → has id front ≡ false → has id back ≡ false → mark_entry mark id (front ++ e ∷ back) ≡ front ++ as_marked mark e ∷ back
mark_between mark id [] e back named h k = rw named (ap (λ r. as_marked mark e ∷ r) (mark_absent mark id back k))
mark_between mark id (x ∷ front) e back named h k = rw (parts id x front h).0 (ap (λ r. x ∷ r) (mark_between mark id front e back named (parts id x front h).1 k))

pub up_to_between : (id : Identifier) (front : List Entry) (e : Entry) (back : List Entry) → is_id e.id id ≡ true → has id front ≡ false → entries_up_to id (front ++ e ∷ back) ≡ front ++ e ∷ []
up_to_between id [] e back named h = rw named
up_to_between id (x ∷ front) e back named h = rw (parts id x front h).0 (ap (λ r. x ∷ r) (up_to_between id front e back named (parts id x front h).1))

pub entry_between : (id : Identifier) (front : List Entry) (e : Entry) (back : List Entry) → is_id e.id id ≡ true → has id front ≡ false → entry_of id (front ++ e ∷ back) ≡ Some e
entry_between id [] e back named h = rw named
entry_between id (x ∷ front) e back named h = rw (parts id x front h).0 (entry_between id front e back named (parts id x front h).1)

pub entry_absent : (id : Identifier) (xs : List Entry) → has id xs ≡ false → entry_of id xs ≡ None
entry_absent id [] h = refl
entry_absent id (x ∷ xs) h = rw (parts id x xs h).0 (entry_absent id xs (parts id x xs h).1)

pub has_between : (id : Identifier) (front : List Entry) (e : Entry) (back : List Entry) → is_id e.id id ≡ true → has id (front ++ e ∷ back) ≡ true
has_between id [] e back named = rw named
has_between id (x ∷ front) e back named = or_right (is_id x.id id) (has id (front ++ e ∷ back)) (has_between id front e back named)

-- ---- no other of that identifier

pub none_like : (e : Entry) (xs : List Entry) → AllByRecursion (λ y. is_id e.id y.id ≡ false) xs → has e.id xs ≡ false
none_like e [] h = refl
none_like e (x ∷ xs) h = ap (λ b. b || has e.id xs) (id_swap e.id x.id h.0) ∙ none_like e xs h.1

middle : (P : Entry → Type 0) (front : List Entry) (e : Entry) (back : List Entry) → AllByRecursion P (front ++ e ∷ back) → P e
middle P [] e back h = h.0
middle P (x ∷ front) e back h = middle P front e back h.1

pub apart_front : (front : List Entry) (e : Entry) (back : List Entry) → AreApart (front ++ e ∷ back) → has e.id front ≡ false
unfolding IsDistinct
apart_front [] e back h = refl
apart_front (x ∷ front) e back h = ap (λ b. b || has e.id front) (middle (λ y. is_id x.id y.id ≡ false) front e back h.0) ∙ apart_front front e back h.1

pub apart_back : (front : List Entry) (e : Entry) (back : List Entry) → AreApart (front ++ e ∷ back) → has e.id back ≡ false
unfolding IsDistinct
apart_back [] e back h = none_like e back h.0
apart_back (x ∷ front) e back h = apart_back front e back h.1

-- ---- in one block

record Found (xs : List Entry) (i : ℕ) (id : Identifier) : Type 0 where
  pub entry : Entry
  pub named : entry.id ≡ id
  pub rest : drop i xs ≡ entry ∷ drop (suc i) xs
  pub front : take (suc i) xs ≡ take i xs ++ entry ∷ []
  pub got : slice_get xs i ≡ Some entry
  pub marked : (mark : Bool) → mark_at_index mark i xs ≡ take i xs ++ as_marked mark entry ∷ drop (suc i) xs

found : (xs : List Entry) (i : ℕ) (id : Identifier) → slice_get (ids xs) i ≡ Some id → Found xs i id
found [] i id h = absurd (none-some id h)
found (x ∷ xs) zero id h = record { entry = x; named = same_Some x.id id h; rest = refl; front = refl; got = refl; marked = λ mark. refl }
found (x ∷ xs) (suc i) id h = grind (arith, found xs i id h)

-- ---- in blocks

record At (bs : Blocks) (b i : ℕ) (id : Identifier) : Type 0 where
  pub entry : Entry
  pub named : entry.id ≡ id
  pub rest : behind bs b i ≡ entry ∷ behind bs b (suc i)
  pub front : before bs b (suc i) ≡ before bs b i ++ entry ∷ []
  pub got : (d : List Entry) → slice_get (slice_index_or bs b d) i ≡ Some entry
  pub marked : (mark : Bool) (d : List Entry) → flat (slice_set bs b (mark_at_index mark i (slice_index_or bs b d))) ≡ before bs b i ++ as_marked mark entry ∷ behind bs b (suc i)

at : (bs : Blocks) (b i : ℕ) (id : Identifier) → Stands bs b i id → At bs b i id
at [] b i id h = absurd h
at (x ∷ xs) zero i id h =
    let f : Found x i id = found x i id h in
    record { entry = f.entry; named = f.named; rest = ap (λ r. r ++ flat xs) f.rest; front = f.front; got = λ d. f.got; marked = λ mark d. ap (λ r. r ++ flat xs) (f.marked mark) ∙ append_assoc (take i x) (as_marked mark f.entry ∷ drop (suc i) x) (flat xs) }
at (x ∷ xs) (suc b) i id h = grind (arith, append_assoc, at xs b i id h)

within : (xs : List Entry) (i : ℕ) (id : Identifier) → slice_get (ids xs) i ≡ Some id → i < length xs
within xs i id h = omega (arith, slice_get_within (ids xs) i id h, length-map xs (λ (e : Entry). e.id))

pub index_there : (bs : Blocks) (b i : ℕ) (id : Identifier) (d : List Entry) → Stands bs b i id → i < length (slice_index_or bs b d)
index_there [] b i id d h = absurd h
index_there (x ∷ xs) zero i id d h = within x i id h
index_there (x ∷ xs) (suc b) i id d h = index_there xs b i id d h

-- there, and directly behind, are places
places : (bs : Blocks) (b i j : ℕ) (id : Identifier) → Stands bs b i id → j ≤ suc i → IsPlace bs b j
places [] b i j id h w = absurd h
places (x ∷ xs) zero i j id h w = let l : i < length x = within x i id h in omega arith
places (x ∷ xs) (suc b) i j id h w = places xs b i j id h w

pub place_behind : (bs : Blocks) (b i : ℕ) (id : Identifier) → Stands bs b i id → IsPlace bs b (i + 1)
place_behind bs b i id h = places bs b i (i + 1) id h (omega arith)

pub stands_in : (bs : Blocks) (b i : ℕ) (id : Identifier) (d : List Entry) → b < length bs → slice_get (ids (slice_index_or bs b d)) i ≡ Some id → Stands bs b i id
stands_in [] b i id d w e = absurd (omega arith)
stands_in (x ∷ xs) zero i id d w e = e
stands_in (x ∷ xs) (suc b) i id d w e = stands_in xs b i id d (omega arith) e

-- the list is what stands before, the entry, and what stands behind
record Standing (bs : Blocks) (b i : ℕ) (id : Identifier) : Type 0 where
  pub its : At bs b i id
  pub named : is_id its.entry.id id ≡ true
  pub whole : flat bs ≡ before bs b i ++ its.entry ∷ behind bs b (suc i)
  pub none_before : has id (before bs b i) ≡ false
  pub none_behind : has id (behind bs b (suc i)) ≡ false

standing : (bs : Blocks) (b i : ℕ) (id : Identifier) → AreApart (flat bs) → Stands bs b i id → Standing bs b i id
standing bs b i id apart h =
    let f : At bs b i id = at bs b i id h in
    let whole : flat bs ≡ before bs b i ++ f.entry ∷ behind bs b (suc i) = parted bs b i ∙ ap (λ r. before bs b i ++ r) f.rest in
    let apart_there : AreApart (before bs b i ++ f.entry ∷ behind bs b (suc i)) = subst AreApart whole apart in
    record {
      its = f;
      named = ap (λ y. is_id y id) f.named ∙ is_id-itself id;
      whole = whole;
      none_before = subst (λ y. has y (before bs b i) ≡ false) f.named (apart_front (before bs b i) f.entry (behind bs b (suc i)) apart_there);
      none_behind = subst (λ y. has y (behind bs b (suc i)) ≡ false) f.named (apart_back (before bs b i) f.entry (behind bs b (suc i)) apart_there);
    }

pub change_there : (id : Identifier) (f : List Entry → List Entry) (bs : Blocks) (b i : ℕ) → is_root id ≡ false → AreApart (flat bs) → Stands bs b i id → change_behind_entry id f (flat bs) ≡ before bs b (i + 1) ++ f (behind bs b (i + 1))
change_there id f bs b i other apart h = grind (arith, standing, change_between, append_assoc, add-one)

pub change_at_front : (id : Identifier) (f : List Entry → List Entry) (bs : Blocks) → is_root id ≡ true → 0 < length bs → change_behind_entry id f (flat bs) ≡ before bs 0 0 ++ f (behind bs 0 0)
change_at_front id f [] root w = absurd (omega arith)
change_at_front id f (x ∷ xs) root w = ap (λ t. cond t (f (x ++ flat xs)) (change_after_entry id f (x ++ flat xs))) root

pub has_there : (id : Identifier) (bs : Blocks) (b i : ℕ) → Stands bs b i id → has id (flat bs) ≡ true
has_there id bs b i h =
    let f : At bs b i id = at bs b i id h in
    ap (has id) (parted bs b i ∙ ap (λ r. before bs b i ++ r) f.rest)
    ∙ has_between id (before bs b i) f.entry (behind bs b (suc i)) (ap (λ y. is_id y id) f.named ∙ is_id-itself id)

pub without_there : (id : Identifier) (bs : Blocks) (b i : ℕ) → AreApart (flat bs) → Stands bs b i id → before bs b i ++ behind bs b (suc i) ≡ without_entry id (flat bs)
without_there id bs b i apart h = grind (arith, standing, without_between)

pub marked_there : (mark : Bool) (id : Identifier) (bs : Blocks) (b i : ℕ) (d : List Entry) → AreApart (flat bs) → Stands bs b i id → flat (slice_set bs b (mark_at_index mark i (slice_index_or bs b d))) ≡ mark_entry mark id (flat bs)
marked_there mark id bs b i d apart h = grind (arith, standing, mark_between)

pub entry_there : (id : Identifier) (bs : Blocks) (b i : ℕ) (d : List Entry) → AreApart (flat bs) → Stands bs b i id → slice_get (slice_index_or bs b d) i ≡ entry_of id (flat bs)
entry_there id bs b i d apart h = grind (arith, standing, entry_between)

pub up_to_there : (id : Identifier) (bs : Blocks) (b i : ℕ) → AreApart (flat bs) → Stands bs b i id → entries_up_to id (flat bs) ≡ before bs b (i + 1)
up_to_there id bs b i apart h = grind (arith, standing, up_to_between, add-one)

-- ---- what is not found

pub none_one_more : (id : Identifier) (bs : Blocks) (b : ℕ) (d : List Entry) → b < length bs → has id (flat (take b bs)) ≡ false → has id (slice_index_or bs b d) ≡ false → has id (flat (take (b + 1) bs)) ≡ false
none_one_more id bs b d w none other =
    ap (has id) (ap flat (take_more bs b d w) ∙ flat_push (take b bs) (slice_index_or bs b d))
    ∙ list_any-append (λ y. is_id y.id id) (flat (take b bs)) (slice_index_or bs b d)
    ∙ or_from (has id (flat (take b bs))) (has id (slice_index_or bs b d)) none other
