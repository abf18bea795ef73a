-- Local edits: the operations of an allowed splice, and of several in turn, are taken, and they change the text and the
-- order at their place.
use Rattle.rga_doc.proofs.Prelude.{◌≡◌, ℕ, ◌+◌, ◌<◌, ◌≤◌, suc, Bool, true, ◌&&◌, nat_le, leb-true, List, [], ◌∷◌, ◌++◌, map, take, drop, length, refl, sym, ap, ◌∙◌, subst, arith, drop_at, drop-drop, length-take-le, all_map}
use Rattle.rga_doc.proofs.Prelude.{Some, None, Ok, unwrap_or, slice_get, filter_map, and_parts, slice_get_within, Identifier, identifier, root, Content, known_ids, clock_of, join, single, content_of, order, text, visible, Splice, spliced}
use Rattle.rga_doc.proofs.Prelude.{text_after, are_falling, new_characters, list_answer, text_long, newest_element, order-newest, visible-deletion_at, order-deletion, Op, Insert, Delete}
use Rattle.rga_doc.proofs.Prelude.{left_of, chain, splice_operations, splices_operations, draft_operations, counter_answer, edit_answer, splice_answer, splices_answer, new_ids, put_row_behind, order_after, elements_after}
use Rattle.rga_ops.proofs.NewestTextLaws.{visible_at}
use Rattle.rga_doc.proofs.FallingLaws.{falls_first}
use Rattle.rga_doc.proofs.SplicedCharacters.{cut, length-cut, same_begin}
use Rattle.rga_doc.proofs.SplicedLists.{get_at_drop, same_left, put_no_row, put_row_on}
use Rattle.rga_doc.proofs.EditSteps.{Leads, leads_nowhere, leads_on, Shows, shows_itself, shows_on, shows_begin, shows_long, deletion_leads, deletion_shows, IsLeft, left_is, left_stands, newest, insertion_leads, insertion_visible, insertion_shows}
use Rattle.rga_doc.proofs.EditSteps.{not_in_order}
use Rattle.rga_doc.proofs.UndoLists.{Reading, reads_behind, new_ids-newer}
use Rattle.std.specs.FinSet as finite_set

-- ---- deletions of visible elements in a row

record Deletes (c : Content) (lo hi : ℕ) (ids : List Identifier) : Type 0 where
  outcome : Content
  leads : Leads c outcome (map Delete ids) 0
  shows : Shows c outcome lo hi [] []
  stays : order outcome ≡ order c

deletes : (ids : List Identifier) (c : Content) (lo hi : ℕ) (rest : List Identifier) → lo ≤ length (visible c) → drop lo (visible c) ≡ ids ++ rest → hi ≡ lo + length ids → Deletes c lo hi ids
deletes [] c lo hi rest within split at =
    let here : lo ≡ hi = omega (arith, at) in
    record { outcome = c; leads = leads_nowhere c; shows = subst (λ n. Shows c c lo n [] []) here (shows_itself c lo); stays = refl }
deletes (id ∷ ids) c lo hi rest within split at =
    let here : slice_get (visible c) lo ≡ Some id = get_at_drop (visible c) lo id (ids ++ rest) split in
    let d : Content = join c (single (Delete id)) in
    let first : Shows c d lo (lo + 1) [] [] = deletion_shows c id lo here in
    let further : drop lo (visible d) ≡ ids ++ rest =
    ap (drop lo) (visible-deletion_at c id lo here) ∙ drop_at (take lo (visible c)) (drop (lo + 1) (visible c)) lo (length-take-le lo (visible c) within)
    ∙ sym (drop-drop 1 lo (visible c)) ∙ ap (drop 1) split in
    let later = deletes ids d lo (lo + length ids) rest (shows_long c d lo (lo + 1) [] [] within first) further refl in
    record {
      outcome = later.outcome;
      leads = leads_on c d later.outcome (Delete id ∷ []) (map Delete ids) 0 0 0 refl (deletion_leads c id (visible_at c lo id here).0) later.leads;
      shows = shows_on c d later.outcome lo (lo + 1) lo (lo + length ids) (length ids) hi [] [] [] [] within refl (omega arith) refl (omega (arith, at)) first later.shows;
      stays = later.stays ∙ order-deletion c id;
    }

-- ---- insertions in a row, each newer than all before

record Inserts (c : Content) (replica lo last : ℕ) (after : Identifier) (put : List ℕ) : Type 0 where
  outcome : Content
  leads : Leads c outcome (chain replica last after put) (length put)
  shows : Shows c outcome lo lo (new_ids replica last put) put
  stands : order outcome ≡ put_row_behind after (new_ids replica last put) (order c)

inserts : (put : List ℕ) (c : Content) (replica lo last : ℕ) (after : Identifier) → last ≡ clock_of c → lo ≤ length (visible c) → after ≡ left_of (visible c) lo → Inserts c replica lo last after put
inserts [] c replica lo last after now within is =
    record { outcome = c; leads = leads_nowhere c; shows = shows_itself c lo; stands = sym (put_no_row after (order c)) }
inserts (ch ∷ put) c replica lo last after now within is =
    let id : Identifier = identifier (last + 1) replica in
    let next : last + 1 ≡ clock_of c + 1 = ap (λ n. n + 1) now in
    let at : IsLeft c lo after = left_is c lo after within is in
    let d : Content = join c (single (Insert id after ch)) in
    let first : Shows c d lo lo (id ∷ []) (ch ∷ []) = insertion_shows c id after ch lo next at in
    let leads : Leads c d (Insert id after ch ∷ []) 1 = insertion_leads c id after ch next (left_stands c lo after at) in
    let begins : drop lo (visible d) ≡ id ∷ drop lo (visible c) =
    ap (drop lo) (insertion_visible c id after ch lo next at) ∙ drop_at (take lo (visible c)) (id ∷ drop lo (visible c)) lo (length-take-le lo (visible c) within) in
    let here : slice_get (visible d) lo ≡ Some id = get_at_drop (visible d) lo id (drop lo (visible c)) begins in
    let newer : clock_of c < id.counter = newest c id next in
    let row : List Identifier = new_ids replica (last + 1) put in
    let later = inserts put d replica (suc lo) (last + 1) id (next ∙ sym leads.time) (slice_get_within (visible d) lo id here) (sym (ap (λ o. unwrap_or o root) here)) in
    record {
      outcome = later.outcome;
      leads = leads_on c d later.outcome (Insert id after ch ∷ []) (chain replica (last + 1) id put) 1 (length put) (suc (length put)) (omega arith) leads later.leads;
      shows = shows_on c d later.outcome lo lo (suc lo) (suc lo) 0 lo (id ∷ []) row (ch ∷ []) put within refl (omega arith) (omega arith) (omega arith) first later.shows;
      stands =
          later.stands ∙ ap (put_row_behind id row) (order-newest c id newer after ch)
          ∙ put_row_on id row (newest_element c id newer) after (order c) (not_in_order c id after ch lo next at);
    }

-- ---- one splice

-- what the operations of a splice lead to, and what it shows
pub record SplicesAt (c : Content) (replica lo hi : ℕ) (put : List ℕ) : Type 0 where
  pub outcome : Content
  pub leads : Leads c outcome (splice_operations replica c lo hi put) (length put)
  pub shows : Shows c outcome lo hi (new_ids replica (clock_of c) put) put
  pub stands : order outcome ≡ put_row_behind (left_of (visible c) lo) (new_ids replica (clock_of c) put) (order c)

-- the deletions, and then the insertions
splice_of : (c : Content) (replica lo hi : ℕ) (put : List ℕ) → lo ≤ length (visible c) → (gone : Deletes c lo hi (drop lo (take hi (visible c)))) → Inserts gone.outcome replica lo (clock_of c) (left_of (visible c) lo) put → SplicesAt c replica lo hi put
splice_of c replica lo hi put reaches gone come =
    let ids : List Identifier = new_ids replica (clock_of c) put in
    let after : Identifier = left_of (visible c) lo in
    record {
      outcome = come.outcome;
      leads = leads_on c gone.outcome come.outcome (map Delete (drop lo (take hi (visible c)))) (chain replica (clock_of c) after put) 0 (length put) (length put) (omega arith) gone.leads come.leads;
      shows = shows_on c gone.outcome come.outcome lo hi lo lo 0 hi [] ids [] put reaches refl (omega arith) (omega arith) (omega arith) gone.shows come.shows;
      stands = come.stands ∙ ap (put_row_behind after ids) gone.stays;
    }

pub splices_at : (c : Content) (replica lo hi : ℕ) (put : List ℕ) → lo ≤ hi → hi ≤ length (visible c) → SplicesAt c replica lo hi put
splices_at c replica lo hi put up within =
    let reaches : lo ≤ length (visible c) = omega (arith, up, within) in
    let gone : Deletes c lo hi (drop lo (take hi (visible c))) =
    deletes (drop lo (take hi (visible c))) c lo hi (drop hi (visible c)) reaches (cut (visible c) lo hi up within) (length-cut (visible c) lo hi up within) in
    let now : clock_of c ≡ clock_of gone.outcome = omega (arith, gone.leads.time) in
    let begins : take lo (visible c) ≡ take lo (visible gone.outcome) = sym (shows_begin c gone.outcome lo hi [] [] reaches gone.shows) in
    splice_of c replica lo hi put reaches gone
    (inserts put gone.outcome replica lo (clock_of c) (left_of (visible c) lo) now (shows_long c gone.outcome lo hi [] [] reaches gone.shows) (same_left (visible c) (visible gone.outcome) lo begins))

-- ---- what is true of an allowed edit

pub allowed : (limit : ℕ) (c : Content) (in_range : Bool) (new : ℕ) → edit_answer limit c in_range new ≡ Ok tt → (finite_set.len (known_ids c) + new ≤ limit) × (in_range ≡ true)
allowed limit c in_range new h = grind arith

-- there are counters for what is new
pub allowed_counters : (limit : ℕ) (c : Content) (in_range : Bool) (new : ℕ) → edit_answer limit c in_range new ≡ Ok tt → counter_answer c new ≡ Ok tt
allowed_counters limit c in_range new h = grind arith

-- operations that lead to another content are taken where that has no more identifiers than the limit
pub taken_if : (limit : ℕ) (c d : Content) (ops : List Op) (new : ℕ) → Leads c d ops new → finite_set.len (known_ids c) + new ≤ limit → list_answer limit c ops ≡ Ok tt
taken_if limit c d ops new s room = grind arith

-- ---- the laws of one splice

splicing : (limit replica lo hi : ℕ) (c : Content) (put : List ℕ) → splice_answer limit c lo hi put ≡ Ok tt → SplicesAt c replica lo hi put × (finite_set.len (known_ids c) + length put ≤ limit)
splicing limit replica lo hi c put h =
    let s = allowed limit c (nat_le lo hi && nat_le hi (length (text c))) (length put) h in
    let parts = and_parts (nat_le lo hi) (nat_le hi (length (text c))) s.1 in
    let within : hi ≤ length (text c) = leb-true hi (length (text c)) parts.1 in
    (splices_at c replica lo hi put (leb-true lo hi parts.0) (omega (arith, within, text_long c)), s.0)

pub splice_taken : (limit replica lo hi : ℕ) (c : Content) (put : List ℕ) → splice_answer limit c lo hi put ≡ Ok tt → list_answer limit c (splice_operations replica c lo hi put) ≡ Ok tt
splice_taken limit replica lo hi c put h =
    let s = splicing limit replica lo hi c put h in
    taken_if limit c s.0.outcome (splice_operations replica c lo hi put) (length put) s.0.leads s.1

pub splice_text : (limit replica lo hi : ℕ) (c : Content) (put : List ℕ) → splice_answer limit c lo hi put ≡ Ok tt → text (join c (content_of (splice_operations replica c lo hi put))) ≡ spliced (text c) lo hi put
splice_text limit replica lo hi c put h =
    let s = splicing limit replica lo hi c put h in
    ap text (sym s.0.leads.joined) ∙ s.0.shows.characters

pub splice_order : (limit replica lo hi : ℕ) (c : Content) (put : List ℕ) → splice_answer limit c lo hi put ≡ Ok tt → order (join c (content_of (splice_operations replica c lo hi put))) ≡ order_after replica c lo put
splice_order limit replica lo hi c put h =
    let s = splicing limit replica lo hi c put h in
    ap order (sym s.0.leads.joined) ∙ s.0.stands

-- ---- several splices in turn

-- what shows nothing of newer elements reads the order as before
pub record SplicesAll (c : Content) (replica : ℕ) (splices : List Splice) : Type 0 where
  pub outcome : Content
  pub leads : Leads c outcome (splices_operations replica c splices) (new_characters splices)
  pub reads : text outcome ≡ text_after (text c) splices
  pub elements : visible outcome ≡ elements_after replica (clock_of c) (visible c) splices
  pub keeps : (p : Reading) → ((id : Identifier) → clock_of c < id.counter → p id ≡ None) → filter_map p (order outcome) ≡ filter_map p (order c)

splices_all : (splices : List Splice) (c : Content) (replica bound : ℕ) → bound ≤ length (visible c) → are_falling bound splices ≡ true → SplicesAll c replica splices
splices_all [] c replica bound reaches falling = record { outcome = c; leads = leads_nowhere c; reads = refl; elements = refl; keeps = λ p hides. refl }
splices_all (s ∷ splices) c replica bound reaches falling =
    let falls = falls_first s splices bound falling in
    let here : s.hi ≤ length (visible c) = omega (arith, falls.within, reaches) in
    let low : s.lo ≤ length (visible c) = omega (arith, falls.up, here) in
    let one = splices_at c replica s.lo s.hi s.put falls.up here in
    let own : List Op = splice_operations replica c s.lo s.hi s.put in
    let row : List Identifier = new_ids replica (clock_of c) s.put in
    let later = splices_all splices one.outcome replica s.lo (shows_long c one.outcome s.lo s.hi row s.put low one.shows) falls.further in
    record {
      outcome = later.outcome;
      leads = subst (λ d. Leads c later.outcome (own ++ splices_operations replica d splices) (length s.put + new_characters splices)) one.leads.joined
          (leads_on c one.outcome later.outcome own (splices_operations replica one.outcome splices) (length s.put) (new_characters splices) (length s.put + new_characters splices) refl one.leads later.leads);
      reads = later.reads ∙ ap (λ chars. text_after chars splices) one.shows.characters;
      elements = later.elements ∙ (λ k. elements_after replica (one.leads.time k) (one.shows.elements k) splices);
      keeps = λ p hides.
          later.keeps p (λ id newer. hides id (omega (arith, one.leads.time, newer)))
          ∙ ap (filter_map p) one.stands
          ∙ reads_behind p (left_of (visible c) s.lo) row (order c) (all_map (λ (id : Identifier). clock_of c < id.counter) (λ id. p id ≡ None) hides row (new_ids-newer replica (clock_of c) s.put));
    }

pub editing : (limit replica : ℕ) (c : Content) (splices : List Splice) → splices_answer limit c splices ≡ Ok tt → SplicesAll c replica splices × (finite_set.len (known_ids c) + new_characters splices ≤ limit)
editing limit replica c splices h =
    let s = allowed limit c (are_falling (length (text c)) splices) (new_characters splices) h in
    (splices_all splices c replica (length (text c)) (omega (arith, text_long c)) s.1, s.0)

pub splices_taken : (limit replica : ℕ) (c : Content) (splices : List Splice) → splices_answer limit c splices ≡ Ok tt → list_answer limit c (splices_operations replica c splices) ≡ Ok tt
splices_taken limit replica c splices h =
    let s = editing limit replica c splices h in
    taken_if limit c s.0.outcome (splices_operations replica c splices) (new_characters splices) s.0.leads s.1

pub splices_text : (limit replica : ℕ) (c : Content) (splices : List Splice) → splices_answer limit c splices ≡ Ok tt → text (join c (content_of (splices_operations replica c splices))) ≡ text_after (text c) splices
splices_text limit replica c splices h =
    let s = editing limit replica c splices h in
    ap text (sym s.0.leads.joined) ∙ s.0.reads

pub splices_visible : (limit replica : ℕ) (c : Content) (splices : List Splice) → splices_answer limit c splices ≡ Ok tt → visible (join c (content_of (splices_operations replica c splices))) ≡ elements_after replica (clock_of c) (visible c) splices
splices_visible limit replica c splices h =
    let s = editing limit replica c splices h in
    ap visible (sym s.0.leads.joined) ∙ s.0.elements

-- and so where they were taken
pub splices_taken_text : (limit replica : ℕ) (c d : Content) (splices : List Splice) (ops : List Op) → splices_answer limit c splices ≡ Ok tt → ops ≡ splices_operations replica c splices → d ≡ join c (content_of ops) → text d ≡ text_after (text c) splices
splices_taken_text limit replica c d splices ops h are taken =
    ap text (taken ∙ ap (λ done. join c (content_of done)) are) ∙ splices_text limit replica c splices h

-- ---- drafts

-- up to the bound the visible elements are those of the old text, and all further splices are there
drafted_from : (splices : List Splice) (c : Content) (replica : ℕ) (elements : List Identifier) (last bound : ℕ) → last ≡ clock_of c → bound ≤ length (visible c) → take bound (visible c) ≡ take bound elements → are_falling bound splices ≡ true → splices_operations replica c splices ≡ draft_operations replica elements last splices
drafted_from [] c replica elements last bound now reaches same falling = refl
drafted_from (s ∷ splices) c replica elements last bound now reaches same falling =
    let falls = falls_first s splices bound falling in
    let here : s.hi ≤ length (visible c) = omega (arith, falls.within, reaches) in
    let low : s.lo ≤ length (visible c) = omega (arith, falls.up, here) in
    let put : List ℕ = s.put in
    let one = splices_at c replica s.lo s.hi put falls.up here in
    let ids : List Identifier = new_ids replica (clock_of c) put in
    let front : take s.hi (visible c) ≡ take s.hi elements = same_begin (visible c) elements s.hi bound falls.within same in
    let before : take s.lo (visible c) ≡ take s.lo elements = same_begin (visible c) elements s.lo s.hi falls.up front in
    let after : left_of (visible c) s.lo ≡ left_of elements s.lo = same_left (visible c) elements s.lo before in
    let begins : take s.lo (visible one.outcome) ≡ take s.lo (visible c) = shows_begin c one.outcome s.lo s.hi ids put low one.shows in
    let later : splices_operations replica one.outcome splices ≡ draft_operations replica elements (last + length put) splices =
    drafted_from splices one.outcome replica elements (last + length put) s.lo (ap (λ n. n + length put) now ∙ sym one.leads.time) (shows_long c one.outcome s.lo s.hi ids put low one.shows) (begins ∙ before) falls.further in
    ap (λ d. splice_operations replica c s.lo s.hi put ++ splices_operations replica d splices) (sym one.leads.joined)
    ∙ (λ j. (map Delete (drop s.lo (front j)) ++ chain replica (sym now j) (after j) put) ++ later j)

-- the operations of several splices, each on what the ones before left, are those by the old text alone
pub splices_drafted : (limit replica : ℕ) (c : Content) (splices : List Splice) → splices_answer limit c splices ≡ Ok tt → splices_operations replica c splices ≡ draft_operations replica (visible c) (clock_of c) splices
splices_drafted limit replica c splices h = grind (arith, allowed, are_falling, length, text, new_characters, drafted_from, visible, clock_of, text_long)
