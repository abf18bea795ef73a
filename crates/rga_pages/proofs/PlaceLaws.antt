-- What stands in order in pages, and in pages that change.
use Rattle.std.proofs.Common.{◌≡◌, ℕ, ◌+◌, ◌<◌, ◌≤◌, suc, zero, true, false, List, [], ◌∷◌, ◌++◌, length, take, drop, slice_index_or, refl, sym, ap, ◌∙◌, subst, arith, append_assoc, drop-cons}
use Rattle.std.proofs.lemmas.List.{append-nil, take-append-drop, drop_more, drop_all, length-append}
use Rattle.std.proofs.lemmas.List.Elements.{All-from_recursion}
use Rattle.std.specs.Prelude.{insert, slice_set}
use Rattle.std.specs.Ordering.{is_lt}
use Rattle.rga_ops.specs.Identifier.{Identifier, id_cmp}
use Rattle.rga_pages.specs.declared.entry.Record.{Record}
use Rattle.rga_pages.specs.Pages.{Entries, entries_in, entries_behind, AreOrdered, AreBelow, BeginsWith, StartsAbove, StartsAt, AreFilledPages}
use Rattle.rga_pages.proofs.EntryLaws.{ordered_front, ordered_back, before_below, below_append, not_less}

pub filled_at : (ps : List Entries) (p : ℕ) (d : Entries) → AreFilledPages ps → p < length ps → 0 < length (slice_index_or ps p d)
filled_at ps p d f w = All-from_recursion (λ (y : Entries). 0 < length y) ps f p d w

pub behind_is : (ps : List Entries) (p i : ℕ) (d : Entries) → p < length ps → entries_behind ps p i ≡ drop i (slice_index_or ps p d) ++ entries_in (drop (suc p) ps)
behind_is [] p i d w = absurd (omega arith)
behind_is (x ∷ xs) zero i d w = refl
behind_is (x ∷ xs) (suc p) i d w = behind_is xs p i d (omega arith)

pub page_on : (ps : List Entries) (p : ℕ) (d : Entries) → p < length ps → entries_in ps ≡ entries_in (take p ps) ++ (slice_index_or ps p d ++ entries_in (drop (suc p) ps))
page_on [] p d w = absurd (omega arith)
page_on (x ∷ xs) zero d w = refl
page_on (x ∷ xs) (suc p) d w = ap (λ r. x ++ r) (page_on xs p d (omega arith)) ∙ sym (append_assoc x (entries_in (take p xs)) (slice_index_or xs p d ++ entries_in (drop (suc p) xs)))

pub rest_of : (ps : List Entries) (p : ℕ) (d : Entries) → p < length ps → entries_in (drop p ps) ≡ slice_index_or ps p d ++ entries_in (drop (suc p) ps)
rest_of ps p d w = ap entries_in (drop-cons ps p d w)

-- ---- in order

module _ (ps : List Entries) (p : ℕ) (d : Entries) (ordered : AreOrdered (entries_in ps)) (w : p < length ps) where
  on : AreOrdered (slice_index_or ps p d ++ entries_in (drop (suc p) ps))
  on = ordered_back (entries_in (take p ps)) (slice_index_or ps p d ++ entries_in (drop (suc p) ps)) (subst AreOrdered (page_on ps p d w) ordered)

  pub page_ordered : AreOrdered (slice_index_or ps p d)
  page_ordered = ordered_front (slice_index_or ps p d) (entries_in (drop (suc p) ps)) on

  as_far : AreOrdered (entries_in (take p ps) ++ slice_index_or ps p d)
  as_far =
      ordered_front (entries_in (take p ps) ++ slice_index_or ps p d) (entries_in (drop (suc p) ps))
      (subst AreOrdered (page_on ps p d w ∙ sym (append_assoc (entries_in (take p ps)) (slice_index_or ps p d) (entries_in (drop (suc p) ps)))) ordered)

  module _ (id : Identifier) where
    pub first_below : (f : Identifier) → 0 < length (slice_index_or ps p d) → BeginsWith f (slice_index_or ps p d) → is_lt (id_cmp id f) ≡ false → AreBelow id (entries_in (take p ps))
    first_below f some begins h = earlier (slice_index_or ps p d) some begins as_far
      where
        earlier : (page : Entries) → 0 < length page → BeginsWith f page → AreOrdered (entries_in (take p ps) ++ page) → AreBelow id (entries_in (take p ps))
        earlier [] some begins o = absurd (omega arith)
        earlier (y ∷ page) some begins o = before_below id (entries_in (take p ps)) y page o (subst (λ q. is_lt (id_cmp id q) ≡ false) begins h)

    -- all before an entry of a page that is not above it
    pub up_to : (i : ℕ) (e : Identifier × Record) → i < length (slice_index_or ps p d) → is_lt (id_cmp id (slice_index_or (slice_index_or ps p d) i e).0) ≡ false → AreBelow id (entries_in (take p ps) ++ take i (slice_index_or ps p d))
    up_to i e h k =
        let page : Entries = slice_index_or ps p d in
        let split : entries_in (take p ps) ++ page ≡ (entries_in (take p ps) ++ take i page) ++ slice_index_or page i e ∷ drop (i + 1) page =
        ap (λ y. entries_in (take p ps) ++ y) (sym (take-append-drop i page) ∙ ap (λ r. take i page ++ r) (drop_more page i e h))
        ∙ sym (append_assoc (entries_in (take p ps)) (take i page) (slice_index_or page i e ∷ drop (i + 1) page)) in
        before_below id (entries_in (take p ps) ++ take i page) (slice_index_or page i e) (drop (i + 1) page) (subst AreOrdered split as_far) k

    -- what is above a page's entries is above all those before
    pub page_below : 0 < length (slice_index_or ps p d) → AreBelow id (slice_index_or ps p d) → AreBelow id (entries_in (take p ps))
    page_below some below = earlier (slice_index_or ps p d) some below as_far
      where
        earlier : (page : Entries) → 0 < length page → AreBelow id page → AreOrdered (entries_in (take p ps) ++ page) → AreBelow id (entries_in (take p ps))
        earlier [] some below o = absurd (omega arith)
        earlier (y ∷ page) some below o = before_below id (entries_in (take p ps)) y page o (not_less (id_cmp id y.0) below.0)

    pub first_above : (f : Identifier) → 0 < length (slice_index_or ps p d) → BeginsWith f (slice_index_or ps p d) → is_lt (id_cmp id f) ≡ true → StartsAbove id (entries_in (drop p ps))
    first_above f some begins h = subst (StartsAbove id) (sym (rest_of ps p d w)) (later (slice_index_or ps p d) some begins)
      where
        later : (page : Entries) → 0 < length page → BeginsWith f page → StartsAbove id (page ++ entries_in (drop (suc p) ps))
        later [] some begins = absurd (omega arith)
        later (y ∷ page) some begins = subst (λ q. is_lt (id_cmp id q) ≡ true) begins h

-- what is above the last page is above all
pub all_below : (ps : List Entries) (p : ℕ) (d : Entries) → AreOrdered (entries_in ps) → AreFilledPages ps → p < length ps → length ps ≤ suc p → (id : Identifier) → AreBelow id (slice_index_or ps p d) → AreBelow id (entries_in ps)
all_below ps p d ordered filled w l id below =
    subst (AreBelow id) (sym (page_on ps p d w))
    (below_append id (entries_in (take p ps)) (slice_index_or ps p d ++ entries_in (drop (suc p) ps))
    (page_below ps p d ordered w id (filled_at ps p d filled w) below)
    (below_append id (slice_index_or ps p d) (entries_in (drop (suc p) ps)) below (subst (AreBelow id) (sym (ap entries_in (drop_all (suc p) ps l))) tt)))

-- ---- an entry at a place

record Here (xs : Entries) (i : ℕ) (id : Identifier) : Type 0 where
  pub entry : Identifier × Record
  pub named : entry.0 ≡ id
  pub rest : drop i xs ≡ entry ∷ drop (suc i) xs
  pub is : (e : Identifier × Record) → slice_index_or xs i e ≡ entry
  pub within : i < length xs

here : (xs : Entries) (i : ℕ) (id : Identifier) → StartsAt id (drop i xs) → Here xs i id
here [] zero id h = absurd h
here [] (suc i) id h = absurd h
here (x ∷ xs) zero id h = record { entry = x; named = h; rest = refl; is = λ e. refl; within = omega arith }
here (x ∷ xs) (suc i) id h =
    let r : Here xs i id = here xs i id h in
    record { entry = r.entry; named = r.named; rest = r.rest; is = r.is; within = let q = r.within in omega arith }

pub index_there : (xs : Entries) (i : ℕ) (id : Identifier) → StartsAt id (drop i xs) → i < length xs
index_there xs i id h = (here xs i id h).within

-- the entry that stands there
pub record Stood (ps : List Entries) (p i : ℕ) (id : Identifier) : Type 0 where
  pub entry : Identifier × Record
  pub named : entry.0 ≡ id
  pub behind_it : entries_behind ps p i ≡ entry ∷ entries_behind ps p (suc i)
  pub is : (d : Entries) (e : Identifier × Record) → p < length ps → slice_index_or (slice_index_or ps p d) i e ≡ entry

pub stood : (ps : List Entries) (p i : ℕ) (id : Identifier) (d : Entries) → p < length ps → StartsAt id (drop i (slice_index_or ps p d)) → Stood ps p i id
stood [] p i id d w h = absurd (omega arith)
stood (x ∷ xs) zero i id d w h =
    let r : Here x i id = here x i id h in
    record { entry = r.entry; named = r.named; behind_it = ap (λ y. y ++ entries_in xs) r.rest; is = λ d e w. r.is e }
stood (x ∷ xs) (suc p) i id d w h =
    let r : Stood xs p i id = stood xs p i id d (omega arith) h in
    record { entry = r.entry; named = r.named; behind_it = r.behind_it; is = λ d e w. r.is d e (omega arith) }

-- ---- pages that change

-- the last page gets more
pub extended : (ps : List Entries) (p : ℕ) (more d : Entries) → p < length ps → length ps ≤ suc p → entries_in (slice_set ps p (slice_index_or ps p d ++ more)) ≡ entries_in ps ++ more
extended [] p more d w l = absurd (omega arith)
extended (x ∷ []) zero more d w l = append-nil (x ++ more) ∙ ap (λ y. y ++ more) (sym (append-nil x))
extended (x ∷ y ∷ xs) zero more d w l = absurd (omega arith)
extended (x ∷ xs) (suc p) more d w l = ap (λ r. x ++ r) (extended xs p more d (omega arith) (omega arith)) ∙ sym (append_assoc x (entries_in xs) more)

-- what stands in a page from an index on is in front of the page behind it
pub spilled : (ps : List Entries) (p cut : ℕ) (d e f : Entries) → suc p < length ps → entries_in (slice_set (slice_set ps (suc p) (drop cut (slice_index_or ps p d) ++ slice_index_or ps (suc p) e)) p (take cut (slice_index_or (slice_set ps (suc p) (drop cut (slice_index_or ps p d) ++ slice_index_or ps (suc p) e)) p f))) ≡ entries_in ps
spilled [] p cut d e f w = absurd (omega arith)
spilled (x ∷ []) p cut d e f w = absurd (omega arith)
spilled (x ∷ y ∷ xs) zero cut d e f w =
    ap (λ r. take cut x ++ r) (append_assoc (drop cut x) y (entries_in xs))
    ∙ sym (append_assoc (take cut x) (drop cut x) (y ++ entries_in xs))
    ∙ ap (λ r. r ++ (y ++ entries_in xs)) (take-append-drop cut x)
spilled (x ∷ y ∷ xs) (suc p) cut d e f w = ap (λ r. x ++ r) (spilled (y ∷ xs) p cut d e f (omega arith))

pub insert_some : (xs : Entries) (i : ℕ) (e : Identifier × Record) → 0 < length (insert xs i e)
insert_some xs i e = omega (arith, length-append (take i xs) (e ∷ drop i xs))
