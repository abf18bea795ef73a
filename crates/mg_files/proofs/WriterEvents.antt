-- What a writer does, as events at its site.
use Rattle.std.proofs.Common.{◌≡◌, ◌<◌, ◌≤◌, ◌^◌, ℕ, List, [], ◌∷◌, ◌++◌, length, Some, Vec, slice_get, refl, sym, ap, subst, ◌∙◌, arith, le_refl, le_trans, lt_of_le_of_lt, le-add_left, add-zero, lit≤, ◌+◌, ◌&&◌, Bool, true, false, cond, nat_le, map, take, drop, not, filter, true≢false, inl, inr, Option, None}
use Rattle.std.specs.Prelude.{Ok, Contains, ◌⊎◌}
use Rattle.std.specs.List.{AllByRecursion, list_any}
use Rattle.std.specs.declared.alloc.Global.{Global}
use denote.RawPtr.{null_ptr}
use Rattle.rga_ops.specs.Content.{Content, known_count, clock_of, join, content_of, single, Holds, IsWithin, nothing}
use Rattle.rga_ops.proofs.MemberLaws.{all_append, all_map}
use Rattle.rga_store.proofs.CountedLaws.{within_limits}
use Rattle.rga_world.specs.Sites.{Site, site, World}
use Rattle.rga_world.specs.Steps.{stepped, kept, world_after, replica_of}
use Rattle.rga_world.specs.Together.{PutsCharacters, IsReached}
use Rattle.rga_world.specs.Words.{with_site}
use Rattle.rga_world.specs.declared.event.Event.{Event}
use Rattle.rga_world.proofs.ListPlaces.{set_here, set_old}
use Rattle.rga_world.proofs.RunLaws.{reached_on, world_after-append}
use Rattle.rga_world.proofs.SiteSteps.{set_same}
use Rattle.rga_world.proofs.StoredLaws.{reached_storable}
use Rattle.mg_files.specs.Kept.{IsLogged, IsWritableWhole, IsLoggedBy}
use Rattle.mg_files.specs.Writers.{Writer, own_files, own_limit, own_content, own_replica, IsOpenedAnew, IsSiteOf}
use Rattle.std.specs.Char.{IsScalar}
use Rattle.std.proofs.lemmas.Bool.Decides.{nat_tests}
use Rattle.std.proofs.lemmas.List.Elements.{Contains-append_left, Contains-append_right}
use Rattle.rga_ops.specs.Identifier.{Identifier, identifier, is_id}
use Rattle.rga_ops.specs.ListAnswer.{IsJoinable}
use Rattle.rga_ops.specs.Order.{text, order}
use Rattle.rga_ops.specs.Places.{visible, is_visible}
use Rattle.rga_ops.specs.Splice.{Splice, are_falling, new_characters}
use Rattle.rga_ops.specs.declared.id.TheConstants.Id.{MAX_COUNTER}
use Rattle.rga_ops.specs.declared.op.Op.{Op}
use Rattle.rga_ops.specs.declared.op.Op.TheVariants.{Insert, Delete}
use Rattle.rga_ops.proofs.ContentLaws.{join_assoc, join_nothing, nothing_join}
use Rattle.rga_ops.proofs.OperationLaws.{Contains-first, Contains-later, content_of-append}
use Rattle.rga_ops.proofs.VisibleLaws.{text_long}
use Rattle.rga_doc.proofs.FallingLaws.{falls_first}
use Rattle.rga_doc.specs.LocalEdit.{left_of, chain, splice_operations, splices_operations, edit_answer, splice_answer, splices_answer, new_ids}
use Rattle.rga_doc.proofs.EditAnswers.{counters_suffice}
use Rattle.rga_doc.proofs.EditLaws.{allowed, allowed_counters, splices_at, splice_taken}
use Rattle.rga_doc.proofs.EditSteps.{shows_long}
use Rattle.rga_lines.specs.Spelling.{IsWritable}
use Rattle.rga_exchange.specs.Sending.{AreWritable}
use Rattle.rga_world.specs.declared.event.Event.TheVariants.{Edit, Revert, Deliver, SaveOne, Restart}
use Rattle.rga_world.proofs.WordLaws.{edited-iff, reverted-iff, delivered-iff, restarted-iff, answered_ok}
use Rattle.rga_ops.specs.RootPath.{is_complete}
use Rattle.rga_ops.proofs.DeletionLaws.{order-deletion}
use Rattle.rga_ops.proofs.TakenLaws.{held_adds_nothing, taken_is, held_stays}
use Rattle.rga_doc.specs.Revert.{distinct_elements, restorations, revert_operations, are_restorable, revert_answer}
use Rattle.rga_doc.proofs.RevertLaws.{AreComplete, complete_by_order, removes, gone_complete}
use Rattle.rga_ops.specs.Answer.{answer, taken, taken_one_by_one}
use Rattle.rga_ops.specs.Operations.{operations}
use Rattle.rga_ops.specs.declared.refusal.Taken.{Taken}
use Rattle.rga_ops.proofs.OperationsLaws.{content_of-operations, operations_hold}
use Rattle.rga_world.proofs.ProgramLaws.{held_can_be_saved, held_place, set_twice, take_ok}
use Rattle.mg_files.proofs.LogSteps.{join_within, writable_all}
use Rattle.rga_ops.proofs.ListAnswerLaws.{list_taken-iff}
use Rattle.rga_store.specs.Limit.{is_limit}
use Rattle.rga_lines.specs.Log.{log_operations}
use Rattle.rga_exchange.specs.declared.log.LogEnd.TheVariants.{Whole}
use Rattle.mg_buffer.specs.OpenState.{OpenState, with_brief, with_runs}
use Rattle.mg_files.specs.Files.{Files}
use Rattle.mg_files.specs.Loading.{Loaded, loaded, log_loaded, text_insertions, either_loaded, files_loaded}
use Rattle.mg_files.proofs.LoadedLaws.{limit_of}
use Rattle.mg_files.specs.Held.{log_bytes}
use Rattle.mg_files.proofs.OpenSteps.{IsInserted, IsOpenedBy, opened_by, good, same_loaded, text_content, opened_kept}
use Rattle.std.specs.FinSet as finite_set
use Rattle.rga_world.proofs.StepLaws.{same_Ok}

-- ---- events that lead from one world to another, and what they make of one of its sites

-- ---- lists that events have

-- a list as one of a program
abbrev pub list_of : {A : Type 0} (xs : List A) → length xs < 2 ^ 63 → Vec A Global
list_of xs short = record { ptr = null_ptr; len = length xs; cap = length xs; alloc = record { memory = record { seal = tt } }; items = xs; ok = (refl, le_refl (length xs)); small = short }

-- ---- events in a row

-- events that put characters lead from one world to another
pub record LeadsTo (w v : World) : Type 0 where
  pub events : List Event
  pub characters : AllByRecursion PutsCharacters events
  pub after : world_after w events ≡ v

pub no_event : (w : World) → LeadsTo w w
no_event w = record { events = []; characters = tt; after = refl }

pub one_event : (w v : World) (event : Event) → stepped w event ≡ Ok v → PutsCharacters event → LeadsTo w v
one_event w v event h characters = record { events = event ∷ []; characters = (characters, tt); after = ap (kept w) h }

pub then_events : (w v u : World) → LeadsTo w v → LeadsTo v u → LeadsTo w u
then_events w v u first second = record {
  events = first.events ++ second.events;
  characters = all_append PutsCharacters first.events second.events first.characters second.characters;
  after = world_after-append w first.events second.events ∙ ap (λ (x : World). world_after x second.events) first.after ∙ second.after;
}

pub leads_to_reached : (w v : World) → IsReached w → LeadsTo w v → IsReached v
leads_to_reached w v reached leads = subst IsReached leads.after (reached_on w leads.events reached leads.characters)

-- ---- one site

-- events make of the site of a number this one
abbrev pub Makes : World → ℕ → Site → Type 0
Makes w number t = LeadsTo w (with_site w number t)

pub stays_site : (w : World) (number : ℕ) (s : Site) → slice_get w.sites number ≡ Some s → Makes w number s
stays_site w number s at = subst (λ xs. LeadsTo w (record w { sites = xs })) (sym (set_same w.sites number s at)) (no_event w)

pub then_makes : (w : World) (number : ℕ) (t u : Site) → Makes w number t → Makes (with_site w number t) number u → Makes w number u
then_makes w number t u first second =
    then_events w (with_site w number t) (with_site w number u) first
    (subst (λ xs. LeadsTo (with_site w number t) (record w { sites = xs })) (set_twice w.sites number t u) second)

pub made_there : (w : World) (number : ℕ) (s t : Site) → slice_get w.sites number ≡ Some s → slice_get (with_site w number t).sites number ≡ Some t
made_there w number s t at = set_here w.sites number s t at

pub makes_same : (w : World) (number : ℕ) (t u : Site) → t ≡ u → Makes w number t → Makes w number u
makes_same w number t u same made = subst (Makes w number) same made

-- ---- limits

-- a limit is no longer than a list of a program may be
pub limit_is_short : (w : World) → IsReached w → w.limit < 2 ^ 63
limit_is_short w reached = lt_of_le_of_lt (within_limits w.limit (reached_storable w reached).limited) (lit≤ tt)

-- ---- the site of a writer

-- x became y, and the site of that number goes along: it holds what y holds, and has saved what the log of y stands for
pub record Follows (w : World) (number : ℕ) (x y : Writer) : Type 0 where
  pub saved : Content
  pub logged : IsLogged saved y.buffer (own_files y).log
  pub makes : Makes w number (site (own_content y) saved)
  pub limit : own_limit y ≡ own_limit x

-- ---- splices of a buffer, as edits at its site

-- ---- what an edit is answered

pub edit_allowed : (limit : ℕ) (c : Content) (in_range : Bool) (new : ℕ) → in_range ≡ true → known_count c + new ≤ limit → (0 < new → clock_of c + new ≤ MAX_COUNTER) → edit_answer limit c in_range new ≡ Ok tt
edit_allowed limit c in_range new ranged fits clocked = grind (arith, nat_tests)

splice_allowed : (limit lo hi : ℕ) (c : Content) (put : List ℕ) → lo ≤ hi → hi ≤ length (visible c) → known_count c + length put ≤ limit → (0 < length put → clock_of c + length put ≤ MAX_COUNTER) → splice_answer limit c lo hi put ≡ Ok tt
splice_allowed limit lo hi c put up within fits clocked = grind (arith, nat_tests, text_long)

-- ---- what is put can be written, so it is characters

chain_scalars : (put : List ℕ) (replica last : ℕ) (after : Identifier) → AreWritable (chain replica last after put) → AllByRecursion IsScalar put
chain_scalars [] replica last after writable = tt
chain_scalars (ch ∷ put) replica last after writable =
    let id : Identifier = identifier (last + 1) replica in
    let first : Op = Insert id after ch in
    let rest : List Op = chain replica (last + 1) id put in
    let own : IsWritable first = writable first (Contains-first first rest) in
    (own.2, chain_scalars put replica (last + 1) id (λ op m. writable op (Contains-later first op rest m)))

pub splice_scalars : (replica lo hi : ℕ) (c : Content) (put : List ℕ) → AreWritable (splice_operations replica c lo hi put) → AllByRecursion IsScalar put
splice_scalars replica lo hi c put writable =
    let gone : List Op = map Delete (drop lo (take hi (visible c))) in
    let come : List Op = chain replica (clock_of c) (left_of (visible c) lo) put in
    chain_scalars put replica (clock_of c) (left_of (visible c) lo) (λ op m. writable op (Contains-append_right gone come op m))

-- ---- one splice

pub edit_makes : (w : World) (number lo hi : ℕ) (put : List ℕ) (s : Site) → slice_get w.sites number ≡ Some s → w.limit < 2 ^ 63 → splice_answer w.limit s.content lo hi put ≡ Ok tt → AllByRecursion IsScalar put
    → Makes w number (site (join s.content (content_of (splice_operations (replica_of number) s.content lo hi put))) s.saved)
edit_makes w number lo hi put s at small answered characters =
    let fits : known_count s.content + length put ≤ w.limit = (allowed w.limit s.content (nat_le lo hi && nat_le hi (length (text s.content))) (length put) answered).0 in
    let short : length put < 2 ^ 63 = lt_of_le_of_lt (le_trans (le-add_left (length put) (known_count s.content)) fits) small in
    let t : Site = site (join s.content (content_of (splice_operations (replica_of number) s.content lo hi put))) s.saved in
    one_event w (with_site w number t) (Edit number lo hi (list_of put short))
    ((edited-iff w (with_site w number t) number lo hi (list_of put short)).1 (record { before = s; at = at; allowed = answered; is = refl })) characters

-- ---- several splices

-- what is new of those that are left has counters
later_counters : (a b now next most : ℕ) → (0 < a + b → now + (a + b) ≤ most) → next ≡ now + a → 0 < b → next + b ≤ most
later_counters a b now next most all time some = let whole = all (omega (arith, some)) in omega (arith, whole, time)

first_counters : (a b now most : ℕ) → (0 < a + b → now + (a + b) ≤ most) → 0 < a → now + a ≤ most
first_counters a b now most all some = let whole = all (omega (arith, some)) in omega (arith, whole)

-- the splices that are left fall within the bound, and there are room and counters for them
pub record AreDue (limit bound : ℕ) (c : Content) (splices : List Splice) : Type 0 where
  pub reaches : bound ≤ length (visible c)
  pub falling : are_falling bound splices ≡ true
  pub fits : known_count c + new_characters splices ≤ limit
  pub counters : 0 < new_characters splices → clock_of c + new_characters splices ≤ MAX_COUNTER

pub due_at_first : (limit : ℕ) (c : Content) (splices : List Splice) → splices_answer limit c splices ≡ Ok tt → AreDue limit (length (text c)) c splices
due_at_first limit c splices h =
    let s = allowed limit c (are_falling (length (text c)) splices) (new_characters splices) h in
    record {
      reaches = subst (λ n. length (text c) ≤ n) (text_long c) (omega arith);
      falling = s.1;
      fits = s.0;
      counters = counters_suffice c (new_characters splices) (allowed_counters limit c (are_falling (length (text c)) splices) (new_characters splices) h);
    }

pub splices_make : (splices : List Splice) (w : World) (number bound : ℕ) (s : Site) → slice_get w.sites number ≡ Some s → w.limit < 2 ^ 63
    → AreDue w.limit bound s.content splices → AreWritable (splices_operations (replica_of number) s.content splices)
    → Makes w number (site (join s.content (content_of (splices_operations (replica_of number) s.content splices))) s.saved)
splices_make [] w number bound s at small due writable = makes_same w number s (site (join s.content (content_of [])) s.saved) (ap (λ c. site c s.saved) (sym (join_nothing s.content))) (stays_site w number s at)
splices_make (x ∷ splices) w number bound s at small due writable =
    let c : Content = s.content in
    let falls = falls_first x splices bound due.falling in
    let here : x.hi ≤ length (visible c) = omega (arith, falls.within, due.reaches) in
    let low : x.lo ≤ length (visible c) = omega (arith, falls.up, here) in
    let own : List Op = splice_operations (replica_of number) c x.lo x.hi x.put in
    let d : Content = join c (content_of own) in
    let rest : List Op = splices_operations (replica_of number) d splices in
    let t : Site = site d s.saved in
    let one = splices_at c (replica_of number) x.lo x.hi x.put falls.up here in
    let size : known_count d ≡ known_count c + length x.put = subst (λ e. known_count e ≡ known_count c + length x.put) one.leads.joined one.leads.size in
    let time : clock_of d ≡ clock_of c + length x.put = subst (λ e. clock_of e ≡ clock_of c + length x.put) one.leads.joined one.leads.time in
    let reaches : x.lo ≤ length (visible d) =
    subst (λ e. x.lo ≤ length (visible e)) one.leads.joined (shows_long c one.outcome x.lo x.hi (new_ids (replica_of number) (clock_of c) x.put) x.put low one.shows) in
    let fits : known_count c + (length x.put + new_characters splices) ≤ w.limit = due.fits in
    let answered : splice_answer w.limit c x.lo x.hi x.put ≡ Ok tt =
    splice_allowed w.limit x.lo x.hi c x.put falls.up here (omega (arith, fits)) (first_counters (length x.put) (new_characters splices) (clock_of c) MAX_COUNTER due.counters) in
    let later : AreDue w.limit x.lo d splices = record {
      reaches = reaches;
      falling = falls.further;
      fits = omega (arith, fits, size);
      counters = later_counters (length x.put) (new_characters splices) (clock_of c) (clock_of d) MAX_COUNTER due.counters time;
    } in
    let first : Makes w number t =
    edit_makes w number x.lo x.hi x.put s at small answered (splice_scalars (replica_of number) x.lo x.hi c x.put (λ op m. writable op (Contains-append_left own rest op m))) in
    let second = splices_make splices (with_site w number t) number x.lo t (made_there w number s t at) small later (λ op m. writable op (Contains-append_right own rest op m)) in
    makes_same w number (site (join d (content_of rest)) s.saved) (site (join c (content_of (own ++ rest))) s.saved)
    (ap (λ e. site e s.saved) (join_assoc c (content_of own) (content_of rest) ∙ ap (join c) (sym (content_of-append own rest))))
    (then_makes w number t (site (join d (content_of rest)) s.saved) first second)

-- ---- an undo of a buffer, as reverts at its site: each deletion, and then what is restored

-- what is restored are characters
abbrev pub AreScalars : List (Identifier × ℕ) → Type 0
AreScalars back = AllByRecursion (λ (b : Identifier × ℕ). IsScalar b.1) back

restored_scalars : (back : List (Identifier × ℕ)) (replica last : ℕ) → AreWritable (restorations replica last back) → AreScalars back
restored_scalars [] replica last writable = tt
restored_scalars (b ∷ back) replica last writable =
    let first : Op = Insert (identifier (last + 1) replica) b.0 b.1 in
    let rest : List Op = restorations replica (last + 1) back in
    let own : IsWritable first = writable first (Contains-first first rest) in
    (own.2, restored_scalars back replica (last + 1) (λ op m. writable op (Contains-later first op rest m)))

-- ---- one revert

revert_makes : (w : World) (number : ℕ) (s : Site) (gone : List Identifier) (back : List (Identifier × ℕ)) → slice_get w.sites number ≡ Some s → length gone < 2 ^ 63 → length back < 2 ^ 63
    → revert_answer w.limit s.content back ≡ Ok tt → AreScalars back
    → Makes w number (site (join s.content (content_of (revert_operations (replica_of number) s.content gone back))) s.saved)
revert_makes w number s gone back at few short answered characters =
    let t : Site = site (join s.content (content_of (revert_operations (replica_of number) s.content gone back))) s.saved in
    one_event w (with_site w number t) (Revert number (list_of gone few) (list_of back short))
    ((reverted-iff w (with_site w number t) number (list_of gone few) (list_of back short)).1 (record { before = s; at = at; allowed = answered; is = refl })) characters

-- ---- deletions, each by a revert

-- a complete element that is deleted: its deletion is joined, or it was known
one_deleted : (c : Content) (replica : ℕ) (id : Identifier) → is_complete c id ≡ true → join c (content_of (revert_operations replica c (id ∷ []) [])) ≡ join c (single (Delete id))
one_deleted c replica id complete = by (is_visible c id) refl
  where
    known : (d : Bool) → finite_set.contains c.deleted id ≡ d → (true && not d) ≡ false → finite_set.contains c.deleted id ≡ true
    known true is h = is
    known false is h = absurd (true≢false h)

    by : (b : Bool) → is_visible c id ≡ b → join c (content_of (map Delete (distinct_elements (cond b (id ∷ []) [])) ++ [])) ≡ join c (single (Delete id))
    by true shown = ap (join c) (join_nothing (single (Delete id)))
    by false hidden =
        let deleted : finite_set.contains c.deleted id ≡ true =
        known (finite_set.contains c.deleted id) refl (ap (λ b. b && not (finite_set.contains c.deleted id)) (sym complete) ∙ hidden) in
        join_nothing c ∙ sym (held_adds_nothing c (Delete id) deleted)

-- it knows no more
same_known : (c : Content) (id : Identifier) → is_complete c id ≡ true → known_count (join c (single (Delete id))) ≡ known_count c
same_known c id complete =
    let r = removes (id ∷ []) c (complete, tt) in
    let is : r.outcome ≡ join c (single (Delete id)) = r.leads.joined ∙ ap (join c) (join_nothing (single (Delete id))) in
    ap (λ d. known_count d) (sym is) ∙ r.leads.size ∙ add-zero (known_count c)

-- and what was complete is so
still_complete : (c : Content) (id : Identifier) (ids : List Identifier) → AreComplete c ids → AreComplete (join c (single (Delete id))) ids
still_complete c id ids all =
    let d : Content = join c (single (Delete id)) in
    all_map (λ q. is_complete c q ≡ true) (λ q. is_complete d q ≡ true) (λ q h. complete_by_order c d (order-deletion c id) q ∙ h) ids all

one_is_few : 1 < 2 ^ 63
one_is_few = lit≤ tt

deletions_make : (ids : List Identifier) (w : World) (number : ℕ) (s : Site) → slice_get w.sites number ≡ Some s → AreComplete s.content ids → known_count s.content ≤ w.limit
    → Makes w number (site (join s.content (content_of (map Delete ids))) s.saved)
deletions_make [] w number s at complete fits = makes_same w number s (site (join s.content (content_of [])) s.saved) (ap (λ c. site c s.saved) (sym (join_nothing s.content))) (stays_site w number s at)
deletions_make (id ∷ ids) w number s at complete fits =
    let c : Content = s.content in
    let d : Content = join c (single (Delete id)) in
    let t : Site = site d s.saved in
    let answered : revert_answer w.limit c [] ≡ Ok tt = edit_allowed w.limit c true 0 refl (omega (arith, fits)) (λ more. absurd (omega (arith, more))) in
    let first : Makes w number t =
    makes_same w number (site (join c (content_of (revert_operations (replica_of number) c (id ∷ []) []))) s.saved) t (ap (λ e. site e s.saved) (one_deleted c (replica_of number) id complete.0))
    (revert_makes w number s (id ∷ []) [] at one_is_few (lit≤ tt) answered tt) in
    let size : known_count d ≡ known_count c = same_known c id complete.0 in
    let second : Makes (with_site w number t) number (site (join d (content_of (map Delete ids))) s.saved) =
    deletions_make ids (with_site w number t) number t (made_there w number s t at) (still_complete c id ids complete.1) (omega (arith, fits, size)) in
    makes_same w number (site (join d (content_of (map Delete ids))) s.saved) (site (join c (content_of (map Delete (id ∷ ids)))) s.saved)
    (ap (λ e. site e s.saved) (join_assoc c (single (Delete id)) (content_of (map Delete ids))))
    (then_makes w number t (site (join d (content_of (map Delete ids))) s.saved) first second)

-- ---- an undo

restorable_by_order : (c d : Content) → order d ≡ order c → (back : List (Identifier × ℕ)) → are_restorable d back ≡ are_restorable c back
restorable_by_order c d same [] = refl
restorable_by_order c d same (b ∷ back) =
    λ k. (complete_by_order c d same b.0 k && not (list_any (λ (x : Identifier × ℕ). is_id x.0 b.0) back)) && restorable_by_order c d same back k

pub undo_makes : (w : World) (number : ℕ) (s : Site) (gone : List Identifier) (back : List (Identifier × ℕ)) → slice_get w.sites number ≡ Some s → w.limit < 2 ^ 63 → revert_answer w.limit s.content back ≡ Ok tt
    → AreWritable (revert_operations (replica_of number) s.content gone back)
    → Makes w number (site (join s.content (content_of (revert_operations (replica_of number) s.content gone back))) s.saved)
undo_makes w number s gone back at small answered writable =
    let c : Content = s.content in
    let ids : List Identifier = distinct_elements (filter (is_visible c) gone) in
    let complete : AreComplete c ids = gone_complete c gone in
    let fit = allowed w.limit c (are_restorable c back) (length back) answered in
    let room : known_count c + length back ≤ w.limit = fit.0 in
    let counters = counters_suffice c (length back) (allowed_counters w.limit c (are_restorable c back) (length back) answered) in
    let d : Content = join c (content_of (map Delete ids)) in
    let t : Site = site d s.saved in
    let r = removes ids c complete in
    let size : known_count d ≡ known_count c + 0 = subst (λ e. known_count e ≡ known_count c + 0) r.leads.joined r.leads.size in
    let time : clock_of d ≡ clock_of c + 0 = subst (λ e. clock_of e ≡ clock_of c + 0) r.leads.joined r.leads.time in
    let clock : clock_of d ≡ clock_of c = omega (arith, time) in
    let stays : order d ≡ order c = subst (λ e. order e ≡ order c) r.leads.joined r.stays in
    let again : revert_answer w.limit d back ≡ Ok tt =
    edit_allowed w.limit d (are_restorable d back) (length back) (restorable_by_order c d stays back ∙ fit.1) (omega (arith, room, size))
    (λ some. subst (λ n. n + length back ≤ MAX_COUNTER) (sym clock) (counters some)) in
    let put : List Op = restorations (replica_of number) (clock_of c) back in
    let characters : AreScalars back = restored_scalars back (replica_of number) (clock_of c) (λ op m. writable op (Contains-append_right (map Delete ids) put op m)) in
    let short : length back < 2 ^ 63 = lt_of_le_of_lt (le_trans (le-add_left (length back) (known_count c)) room) small in
    let first : Makes w number t = deletions_make ids w number s at complete (omega (arith, room)) in
    let second : Makes (with_site w number t) number (site (join d (content_of (restorations (replica_of number) (clock_of d) back))) s.saved) =
    revert_makes (with_site w number t) number t [] back (made_there w number s t at) (lit≤ tt) short again characters in
    makes_same w number (site (join d (content_of (restorations (replica_of number) (clock_of d) back))) s.saved) (site (join c (content_of (map Delete ids ++ put))) s.saved)
    (ap (λ n. site (join d (content_of (restorations (replica_of number) n back))) s.saved) clock
    ∙ ap (λ e. site e s.saved) (join_assoc c (content_of (map Delete ids)) (content_of put) ∙ ap (join c) (sym (content_of-append (map Delete ids) put))))
    (then_makes w number t (site (join d (content_of (restorations (replica_of number) (clock_of d) back))) s.saved) first second)

-- ---- operations of others that a buffer takes, as deliveries to its site; and a save, operation by operation

-- ---- one operation that a site has saved

pub record IsSavedIn (w : World) (op : Op) : Type 0 where
  pub giver : ℕ
  pub origin : Site
  pub there : slice_get w.sites giver ≡ Some origin
  pub saved : Holds origin.saved op

-- and is saved still, whatever a site takes
saved_still : (w : World) (taker : ℕ) (s : Site) (c : Content) (op : Op) → slice_get w.sites taker ≡ Some s → IsSavedIn w op → IsSavedIn (with_site w taker (site c s.saved)) op
saved_still w taker s c op at g = elim (set_old w.sites taker g.giver s (site c s.saved) g.origin at g.there) [
  | inl here ↦ record { giver = g.giver; origin = site c s.saved; there = here.2; saved = subst (λ (x : Site). Holds x.saved op) here.1 g.saved }
  | inr stays ↦ record { giver = g.giver; origin = g.origin; there = stays; saved = g.saved }
]

one_taken : (w : World) (taker : ℕ) (s : Site) (op : Op) (how : Taken) → slice_get w.sites taker ≡ Some s → answer w.limit s.content op ≡ Ok how → IsSavedIn w op → Makes w taker (site (join s.content (single op)) s.saved)
one_taken w taker s op how at took g =
    let place = held_place g.origin.saved op g.saved in
    let v : World = with_site w taker (site (join s.content (single op)) s.saved) in
    one_event w v (Deliver taker g.giver place.0) ((delivered-iff w v taker g.giver place.0).1 (record {
      op = op;
      given = record { before = s; origin = g.origin; at = at; there = g.there; saved = place.1 };
      how = how;
      took = took;
      is = refl;
    })) tt

-- ---- several in turn

pub all_taken : (ops : List Op) (w : World) (taker : ℕ) (s : Site) (d : Content) → slice_get w.sites taker ≡ Some s → ((op : Op) → Contains ops op → IsSavedIn w op) → taken_one_by_one w.limit s.content ops ≡ Ok d
    → Makes w taker (site d s.saved)
all_taken [] w taker s d at each took = makes_same w taker s (site d s.saved) (ap (λ c. site c s.saved) (same_Ok s.content d took)) (stays_site w taker s at)
all_taken (op ∷ ops) w taker s d at each took =
    let (c, first, rest) = take_ok (taken w.limit s.content op) (λ e. taken_one_by_one w.limit e ops) d took in
    let how = answered_ok w.limit s.content c op first in
    let t : Site = site (join s.content (single op)) s.saved in
    let later : taken_one_by_one w.limit t.content ops ≡ Ok d = ap (λ e. taken_one_by_one w.limit e ops) (sym (taken_is w.limit s.content op c first).joined) ∙ rest in
    then_makes w taker t (site d s.saved) (one_taken w taker s op how.0 at how.1 (each op (Contains-first op ops)))
    (all_taken ops (with_site w taker t) taker t d (made_there w taker s t at) (λ o m. saved_still w taker s t.content o at (each o (Contains-later op o ops m))) later)

-- ---- a save

-- operations that a site holds are saved one by one
all_saved : (ops : List Op) (w : World) (number : ℕ) (s : Site) → IsReached w → slice_get w.sites number ≡ Some s → ((op : Op) → Contains ops op → Holds s.content op) → Makes w number (site s.content (join s.saved (content_of ops)))
all_saved [] w number s reached at each = makes_same w number s (site s.content (join s.saved (content_of []))) (ap (site s.content) (sym (join_nothing s.saved))) (stays_site w number s at)
all_saved (op ∷ ops) w number s reached at each =
    let t : Site = site s.content (join s.saved (single op)) in
    let one = held_can_be_saved w number s op reached at (each op (Contains-first op ops)) in
    let first : Makes w number t = one_event w (with_site w number t) (SaveOne number one.0) one.1 tt in
    let second : Makes (with_site w number t) number (site s.content (join (join s.saved (single op)) (content_of ops))) =
    all_saved ops (with_site w number t) number t (leads_to_reached w (with_site w number t) reached first) (made_there w number s t at) (λ o m. each o (Contains-later op o ops m)) in
    makes_same w number (site s.content (join (join s.saved (single op)) (content_of ops))) (site s.content (join s.saved (content_of (op ∷ ops))))
    (ap (site s.content) (join_assoc s.saved (single op) (content_of ops)))
    (then_makes w number t (site s.content (join (join s.saved (single op)) (content_of ops))) first second)

-- a save that failed or not: what the site has saved becomes more of what it holds
pub save_makes : (w : World) (number : ℕ) (c held now : Content) → IsReached w → slice_get w.sites number ≡ Some (site c held) → IsWithin held now → IsWithin now c → Makes w number (site c now)
save_makes w number c held now reached at grown within =
    makes_same w number (site c (join held (content_of (operations now)))) (site c now)
    (ap (λ d. site c (join held d)) (content_of-operations now) ∙ ap (site c) (join_within held now grown))
    (all_saved (operations now) w number (site c held) reached at (λ op m. held_stays now c op within (operations_hold now op m)))

-- ---- a buffer that is opened anew, as a restart of its site, and an edit of what a text has

-- ---- what is loaded

-- of a log, the content of its operations
log_content : (limit : ℕ) (bytes : List ℕ) (l : Loaded) → log_loaded limit bytes ≡ good l → l.content ≡ content_of (log_operations bytes)
log_content limit bytes l h = grind arith

-- of neither, nothing
no_log_content : (replica limit : ℕ) (text : Option (List ℕ)) (l : Loaded) → is_limit limit ≡ true → either_loaded replica limit None text ≡ good l → (l.content ≡ nothing) ⊎ IsInserted replica limit l
no_log_content replica limit (Some bytes) l limited h = inr (text_content replica limit bytes l limited h)
no_log_content replica limit None l limited h = inl (ap (λ (x : Loaded). x.content) (sym (same_loaded (loaded nothing [] Whole) l h)))

-- what is inserted can be written, where the content can
inserted_writable : (replica limit : ℕ) (l : Loaded) (i : IsInserted replica limit l) → IsWritableWhole l.content → AreWritable (text_insertions replica i.put)
inserted_writable replica limit l i writable =
    let ops : List Op = text_insertions replica i.put in
    let joinable : IsJoinable nothing ops = ((list_taken-iff limit nothing ops).0 (splice_taken limit replica 0 0 nothing i.put i.allowed)).1 in
    writable_all nothing l.content ops (ap (λ (x : Loaded). x.content) i.is ∙ sym (nothing_join (content_of ops))) joinable writable

-- ---- the site of what is opened anew

restart_makes : (w : World) (number : ℕ) (s : Site) → slice_get w.sites number ≡ Some s → Makes w number (site s.saved s.saved)
restart_makes w number s at =
    let v : World = with_site w number (site s.saved s.saved) in
    one_event w v (Restart number) ((restarted-iff w v number).1 (record { before = s; at = at; is = refl })) tt

-- a restart, and the characters of a text
insertion_makes : (w : World) (number replica : ℕ) (s : Site) (l : Loaded) → IsReached w → slice_get w.sites number ≡ Some s → s.saved ≡ nothing → replica ≡ replica_of number → (i : IsInserted replica w.limit l) → IsWritableWhole l.content
    → Makes w number (site l.content nothing)
insertion_makes w number replica s l reached at none numbered i writable =
    let t : Site = site nothing nothing in
    let put : List ℕ = i.put in
    let first : Makes w number t = makes_same w number (site s.saved s.saved) t (λ k. site (none k) (none k)) (restart_makes w number s at) in
    let made : List Op = splice_operations (replica_of number) nothing 0 0 put in
    let characters = splice_scalars replica 0 0 nothing put (inserted_writable replica w.limit l i writable) in
    let second : Makes (with_site w number t) number (site (join nothing (content_of made)) nothing) =
    edit_makes (with_site w number t) number 0 0 put t (made_there w number s t at) (limit_is_short w reached) i.allowed characters in
    makes_same w number (site (join nothing (content_of made)) nothing) (site l.content nothing)
    (ap (λ c. site c nothing) (nothing_join (content_of made) ∙ ap (λ r. content_of (splice_operations r nothing 0 0 put)) (sym numbered) ∙ sym (ap (λ (x : Loaded). x.content) i.is)))
    (then_makes w number t (site (join nothing (content_of made)) nothing) first second)

-- what bytes of a log stand for
abbrev stood : Option (List ℕ) → Content
stood log = content_of (log_operations (log_bytes log))

-- by what was loaded of x's files, and is kept beside its log
module _ (w : World) (x : Writer) (h : IsSiteOf w x) (reached : IsReached w) (found : Files) (same : found.log ≡ (own_files x).log) (l : Loaded) (files : files_loaded (own_replica x) (own_limit x) found ≡ good l) (saved : Content) (b : OpenState) (kept : IsLogged saved b found.log) where
  restarts : h.saved ≡ l.content → h.saved ≡ saved → Makes w h.number (site l.content saved)
  restarts first second =
      makes_same w h.number (site h.saved h.saved) (site l.content saved) (λ k. site (first k) (second k)) (restart_makes w h.number (site (own_content x) h.saved) h.there)

  with_log : (bytes : List ℕ) → found.log ≡ Some bytes → Makes w h.number (site l.content saved)
  with_log bytes e =
      let read : l.content ≡ stood (Some bytes) = log_content (own_limit x) bytes l (ap (λ log. either_loaded (own_replica x) (own_limit x) log found.text) (sym e) ∙ files) in
      let old : h.saved ≡ stood (Some bytes) = h.logged.stands.content ∙ ap stood (sym same ∙ e) in
      restarts (old ∙ sym read) (old ∙ sym (kept.stands.content ∙ ap stood e))

  with_no_log : is_limit (own_limit x) ≡ true → IsWritableWhole l.content → found.log ≡ None → Makes w h.number (site l.content saved)
  with_no_log limited writable e =
      let old : h.saved ≡ nothing = h.logged.absent (sym same ∙ e) in
      let new : saved ≡ nothing = kept.absent e in
      elim (no_log_content (own_replica x) (own_limit x) found.text l limited (ap (λ log. either_loaded (own_replica x) (own_limit x) log found.text) (sym e) ∙ files)) [
        | inl none ↦ restarts (old ∙ sym none) (old ∙ sym new)
        | inr i ↦
            makes_same w h.number (site l.content nothing) (site l.content saved) (ap (site l.content) (sym new))
            (insertion_makes w h.number (own_replica x) (site (own_content x) h.saved) l reached h.there old h.numbered (subst (λ n. IsInserted (own_replica x) n l) h.limit i) writable)
      ]

  pub loaded_makes : is_limit (own_limit x) ≡ true → IsWritableWhole l.content → Makes w h.number (site l.content saved)
  loaded_makes limited writable = by found.log refl
    where
      by : (log : Option (List ℕ)) → found.log ≡ log → Makes w h.number (site l.content saved)
      by (Some bytes) e = with_log bytes e
      by None e = with_no_log limited writable e

pub opening_follows : (w : World) (x y : Writer) (h : IsSiteOf w x) → IsReached w → IsOpenedAnew x y → Follows w h.number x y
opening_follows w x y h reached o =
    let name : List ℕ = x.buffer.buffer.name in
    let b : OpenState = with_brief o.brief (with_runs o.runs o.loaded) in
    let by_load : IsOpenedBy name (own_replica x) (own_limit x) o.found o.loaded = opened_by name (own_replica x) (own_limit x) o.found o.loaded o.end o.outcome in
    let l : Loaded = by_load.loaded in
    let kept : IsLoggedBy b o.found.log = opened_kept name (own_replica x) (own_limit x) o.found o.loaded o.end o.runs o.brief o.outcome o.kept in
    let log_is : o.found.log ≡ (own_files y).log = o.answers.log ∙ ap (λ (f : Files). f.log) (sym o.held) in
    let made : o.loaded.buffer.content ≡ l.content = ap (λ (v : OpenState). v.buffer.content) by_load.is in
    record {
      saved = kept.held;
      logged = subst (λ (v : OpenState). IsLogged kept.held v (own_files y).log) (sym o.is) (subst (IsLogged kept.held b) log_is kept.logged);
      makes = makes_same w h.number (site l.content kept.held) (site (own_content y) kept.held)
          (ap (λ c. site c kept.held) (sym made ∙ ap (λ (v : OpenState). v.buffer.content) (sym o.is)))
          (loaded_makes w x h reached o.found o.answers.log l by_load.files kept.held b kept.logged (limit_of (own_replica x) (own_limit x) by_load.opening) (subst IsWritableWhole made o.kept.writable));
      limit = ap (λ (v : OpenState). v.buffer.limit) o.is ∙ ap (λ (v : OpenState). v.buffer.limit) by_load.is;
    }

pub opening_replica : (x y : Writer) → IsOpenedAnew x y → own_replica y ≡ own_replica x
opening_replica x y o =
    ap (λ (v : OpenState). v.buffer.replica) o.is
    ∙ ap (λ (v : OpenState). v.buffer.replica) (opened_by x.buffer.buffer.name (own_replica x) (own_limit x) o.found o.loaded o.end o.outcome).is
