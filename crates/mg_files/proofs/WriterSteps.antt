-- Writers, and the world in which they are sites.
use Rattle.std.proofs.Common.{◌≡◌, ◌<◌, ℕ, Bool, List, length, Some, Result, Ok, slice_get, refl, sym, ap, subst, ◌∙◌, ◌≤◌, zero, suc, [], ◌∷◌, slice_set, inl, inr, arith, ◌+◌, ◌-◌, true, replicate, true≢false, map, ◌++◌}
use Rattle.std.specs.Prelude.{Contains, ◌⊎◌, Err}
use Rattle.rga_ops.specs.Content.{Content, join, content_of, Holds, IsWithin, nothing, known_ids, IsSound, HasAnother, Agree}
use Rattle.rga_ops.specs.NewOperations.{new_operations}
use Rattle.rga_ops.specs.ListAnswer.{list_answer, IsJoinable}
use Rattle.rga_ops.specs.Order.{text}
use Rattle.rga_ops.specs.Splice.{Splice}
use Rattle.rga_ops.specs.declared.op.Op.{Op}
use Rattle.rga_ops.proofs.ListAnswerLaws.{list_one_by_one, no_conflict-iff, first_conflict-iff, list_conflict-iff}
use Rattle.rga_doc.specs.LocalEdit.{splices_operations, splices_answer}
use Rattle.rga_doc.specs.Revert.{revert_operations, revert_answer}
use Rattle.rga_exchange.specs.Sending.{AreWritable, StandsFor}
use Rattle.rga_lines.specs.Log.{log_operations}
use Rattle.rga_world.specs.Sites.{Site, site, World, new_world}
use Rattle.rga_world.specs.Steps.{replica_of, world_after}
use Rattle.rga_world.specs.Together.{IsReached, PutsCharacters, HaveSameIdentifiers, AllAgree, contents, join_of}
use Rattle.mg_buffer.specs.Groups.{Past}
use Rattle.mg_buffer.specs.Ran.{Ran}
use Rattle.mg_buffer.specs.Sight.{CommandCall, Notes}
use Rattle.mg_buffer.specs.State.{State}
use Rattle.mg_files.specs.Files.{Files}
use Rattle.mg_files.specs.declared.port.PortFault.{PortFault}
use Rattle.mg_files.specs.Held.{log_bytes}
use Rattle.mg_files.specs.Kept.{IsLogged, IsWritableWhole}
use Rattle.mg_files.specs.Run.{BufferStep, Saves, Runs, Undoes, Takes, Rests, ChangesAlone, KeepsOperations, UndoesOne, TakesAll, SavesOnce, MayStep, HoldsMore}
use Rattle.mg_files.specs.Writers.{Writer, own_files, own_replica, own_limit, own_content, IsInALog, TakesLogged, IsSiteOf, AreSites, Act, Steps, Opens, Becomes, MayAct, MayActOn, HaveOwnNumbers, IsFresh, AreFresh, AreReached, all_written, logged_content, all_logged}
use Rattle.mg_files.proofs.ChangeSteps.{Joins, after_change, ran_joins, undo_allowed, undid_joins, taken_joins, kept_logged, save_keeps, after_save, step_replica, after_step}
use Rattle.mg_files.proofs.LogSteps.{writable_all, held_within, empty_stands}
use Rattle.mg_files.proofs.WriterEvents.{due_at_first, splices_make, undo_makes, IsSavedIn, all_taken, save_makes, Makes, stays_site, makes_same, limit_is_short, Follows, opening_follows, opening_replica, LeadsTo, no_event, then_events, leads_to_reached, made_there}
use Rattle.std.specs.List.{AllByRecursion}
use Rattle.std.proofs.lemmas.Option.{same_Some, none-some}
use Rattle.rga_world.specs.Words.{with_site}
use Rattle.rga_world.specs.declared.event.Event.{Event}
use Rattle.rga_world.proofs.ListPlaces.{contains_at, contains_place, set_old, mapped_place, place_mapped}
use Rattle.rga_ops.specs.Identifier.{Identifier}
use Rattle.rga_ops.specs.declared.op.Op.TheVariants.{Insert}
use Rattle.rga_ops.proofs.AgreeLaws.{joinable_nothing, held_agree, agree_within}
use Rattle.rga_ops.proofs.ContentLaws.{nothing_join, within_itself, within_chain}
use Rattle.rga_ops.proofs.KnownLaws.{known_nothing}
use Rattle.rga_store.specs.Limit.{is_limit}
use Rattle.rga_lines.specs.Stream.{rest_of}
use Rattle.rga_world.proofs.RunLaws.{reached_begin, reached_consistent}
use Rattle.rga_ops.specs.Answer.{answer}
use Rattle.rga_ops.specs.declared.refusal.Refusal.TheVariants.{Conflict}
use Rattle.rga_ops.proofs.AnswerLaws.{conflict-iff}
use Rattle.rga_ops.proofs.OperationLaws.{content_inserted}
use Rattle.rga_ops.proofs.TakenLaws.{held_stays}
use Rattle.rga_world.proofs.Consistent.{IsConsistent, sites_agree}
use Rattle.rga_world.proofs.TogetherLaws.{within_all, within_join_of, same_if_same_identifiers, join_of_least}
use Rattle.std.specs.FinSet as finite_set
use Rattle.rga_world.proofs.StoredLaws.{nothing_holds}

-- ---- what a writer does, at its site

-- the log of a buffer that changed alone is as it was
log_stays : (saved : Content) (x y : Writer) → y.buffer.buffer.name ≡ x.buffer.buffer.name → ChangesAlone x.buffer y.buffer x.files y.files → IsLogged saved y.buffer (own_files x).log → IsLogged saved y.buffer (own_files y).log
log_stays saved x y name alone h =
    subst (λ n. IsLogged saved y.buffer (y.files n).log) (sym name) (subst (λ (f : Files). IsLogged saved y.buffer f.log) (sym alone.held) h)

-- the same of one that joined operations
joined_logged : (saved : Content) (x y : Writer) (ops : List Op) → IsLogged saved x.buffer (own_files x).log → ChangesAlone x.buffer y.buffer x.files y.files → Joins x.buffer.buffer y.buffer.buffer ops → IsLogged saved y.buffer (own_files y).log
joined_logged saved x y ops h alone j = log_stays saved x y j.name alone (after_change saved x.buffer y.buffer x.files y.files (own_files x).log ops h alone j)

-- what is in a log is saved at a site
saved_at_site : (ws : List Writer) (w : World) (op : Op) → AreSites ws w → IsInALog ws op → IsSavedIn w op
saved_at_site ws w op sites g =
    let q : IsSiteOf w g.giver = sites g.giver g.among in
    record { giver = q.number; origin = site (own_content g.giver) q.saved; there = q.there; saved = subst (λ c. Holds c op) (g.stands.content ∙ sym q.logged.stands.content) g.holds }

module _ (w : World) (x y : Writer) (h : IsSiteOf w x) (reached : IsReached w) where
  abbrev here : Site
  here = site (own_content x) h.saved

  -- what its buffer holds became this
  content_is : (c : Content) → own_content y ≡ c → Makes w h.number (site c h.saved) → Makes w h.number (site (own_content y) h.saved)
  content_is c is made = makes_same w h.number (site c h.saved) (site (own_content y) h.saved) (ap (λ d. site d h.saved) (sym is)) made

  save_follows : (answer : Result Bool PortFault) → SavesOnce answer x.buffer y.buffer x.files y.files → Follows w h.number x y
  save_follows answer m =
      let more : HoldsMore h.saved y.buffer y.files = after_save h.saved answer x.buffer y.buffer x.files y.files h.logged m in
      let same : own_content y ≡ own_content x = save_keeps (λ (b : State). b.content) (λ b. refl) answer x.buffer y.buffer x.files y.files m in
      let within : IsWithin more.now (own_content x) = subst (IsWithin more.now) same (held_within more.now y.buffer (own_files y).log more.logged) in
      record {
        saved = more.now;
        logged = more.logged;
        makes =
            makes_same w h.number (site (own_content x) more.now) (site (own_content y) more.now) (ap (λ c. site c more.now) (sym same))
            (save_makes w h.number (own_content x) h.saved more.now reached h.there more.grown within);
        limit = save_keeps (λ (b : State). b.limit) (λ b. refl) answer x.buffer y.buffer x.files y.files m;
      }

  run_follows : (call : CommandCall) (old new : Notes) → ChangesAlone x.buffer y.buffer x.files y.files → Ran call x.buffer.buffer old y.buffer.buffer new → Follows w h.number x y
  run_follows call old new alone ran =
      let c : Content = own_content x in
      let splices : List Splice = ran.plan.splices in
      let j : Joins x.buffer.buffer y.buffer.buffer (splices_operations (own_replica x) c splices) = ran_joins call x.buffer.buffer old y.buffer.buffer new ran in
      let writable : AreWritable (splices_operations (replica_of h.number) c splices) =
      subst (λ r. AreWritable (splices_operations r c splices)) h.numbered (writable_all c (own_content y) (splices_operations (own_replica x) c splices) j.content j.joinable alone.writable) in
      let answered : splices_answer w.limit c splices ≡ Ok tt = subst (λ n. splices_answer n c splices ≡ Ok tt) h.limit ran.edited.allowed in
      record {
        saved = h.saved;
        logged = joined_logged h.saved x y (splices_operations (own_replica x) c splices) h.logged alone j;
        makes =
            content_is (join c (content_of (splices_operations (replica_of h.number) c splices))) (j.content ∙ ap (λ r. join c (content_of (splices_operations r c splices))) h.numbered)
            (splices_make splices w h.number (length (text c)) here h.there (limit_is_short w reached) (due_at_first w.limit c splices answered) writable);
        limit = ran.edited.limit;
      }

  undo_follows : (old new : Notes) → ChangesAlone x.buffer y.buffer x.files y.files → UndoesOne x.buffer.buffer old y.buffer.buffer new → Follows w h.number x y
  undo_follows old new alone u =
      let c : Content = own_content x in
      let g : Past = u.undid.group in
      let j : Joins x.buffer.buffer y.buffer.buffer (revert_operations (own_replica x) c g.inserted g.deleted) = undid_joins x.buffer.buffer old y.buffer.buffer new u in
      let writable : AreWritable (revert_operations (replica_of h.number) c g.inserted g.deleted) =
      subst (λ r. AreWritable (revert_operations r c g.inserted g.deleted)) h.numbered (writable_all c (own_content y) (revert_operations (own_replica x) c g.inserted g.deleted) j.content j.joinable alone.writable) in
      let answered : revert_answer w.limit c g.deleted ≡ Ok tt = subst (λ n. revert_answer n c g.deleted ≡ Ok tt) h.limit (undo_allowed x.buffer.buffer old y.buffer.buffer new u) in
      record {
        saved = h.saved;
        logged = joined_logged h.saved x y (revert_operations (own_replica x) c g.inserted g.deleted) h.logged alone j;
        makes =
            content_is (join c (content_of (revert_operations (replica_of h.number) c g.inserted g.deleted))) (j.content ∙ ap (λ r. join c (content_of (revert_operations r c g.inserted g.deleted))) h.numbered)
            (undo_makes w h.number here g.inserted g.deleted h.there (limit_is_short w reached) answered writable);
        limit = u.undid.reverted.limit;
      }

  taking_follows : (ops : List Op) → ChangesAlone x.buffer y.buffer x.files y.files → TakesAll x.buffer.buffer ops y.buffer.buffer → ((op : Op) → Contains ops op → IsSavedIn w op) → Follows w h.number x y
  taking_follows ops alone takes saved =
      let c : Content = own_content x in
      let j = taken_joins x.buffer.buffer ops y.buffer.buffer takes in
      record {
        saved = h.saved;
        logged = joined_logged h.saved x y (new_operations c ops) h.logged alone j;
        makes =
            content_is (join c (content_of ops)) takes.follows.content
            (all_taken ops w h.number here (join c (content_of ops)) h.there saved (list_one_by_one w.limit c ops (subst (λ n. list_answer n c ops ≡ Ok tt) h.limit takes.allowed)));
        limit = ap (λ (b : State). b.limit) takes.follows.rest;
      }

  rest_follows : ChangesAlone x.buffer y.buffer x.files y.files → KeepsOperations x.buffer.buffer y.buffer.buffer → Follows w h.number x y
  rest_follows alone kept = record {
    saved = h.saved;
    logged = log_stays h.saved x y kept.name alone (kept_logged h.saved x.buffer y.buffer x.files y.files (own_files x).log h.logged alone kept);
    makes = content_is (own_content x) kept.content (stays_site w h.number here h.there);
    limit = kept.limit;
  }

pub step_follows : (step : BufferStep) (ws : List Writer) (w : World) (x y : Writer) (h : IsSiteOf w x) → IsReached w → AreSites ws w → MayStep step x.buffer x.files y.buffer y.files → TakesLogged ws step → Follows w h.number x y
step_follows (Saves answer) ws w x y h reached sites m taken = save_follows w x y h reached answer m
step_follows (Runs call old new) ws w x y h reached sites (alone, ran) taken = run_follows w x y h reached call old new alone ran
step_follows (Undoes old new) ws w x y h reached sites (alone, undid) taken = undo_follows w x y h reached old new alone undid
step_follows (Takes ops) ws w x y h reached sites (alone, takes) taken =
    taking_follows w x y h reached ops alone takes (λ op m. saved_at_site ws w op sites (taken op m))
step_follows Rests ws w x y h reached sites (alone, kept) taken = rest_follows w x y h reached alone kept

-- ---- one writer changes, and its site with it: the others and their sites stay

-- what stands at an index of a list of which one element was put
changed_at : {A : Type 0} (xs : List A) (i j : ℕ) (y z : A) → slice_get (slice_set xs i y) j ≡ Some z → ((j ≡ i) × (z ≡ y)) ⊎ ((j ≡ i → ⊥) × (slice_get xs j ≡ Some z))
changed_at [] i j y z h = absurd (none-some z h)
changed_at (x ∷ xs) zero zero y z h = inl (refl, sym (same_Some y z h))
changed_at (x ∷ xs) zero (suc j) y z h = inr (λ e. omega (arith, e), h)
changed_at (x ∷ xs) (suc i) zero y z h = inr (λ e. omega (arith, e), h)
changed_at (x ∷ xs) (suc i) (suc j) y z h = grind (arith, changed_at xs i j y z h)

module _ (ws : List Writer) (number : ℕ) (x y : Writer) (was : slice_get ws number ≡ Some x) (own : HaveOwnNumbers ws) (same : own_replica y ≡ own_replica x) where
  abbrev now : List Writer
  now = slice_set ws number y

  -- the others have other replicas
  other_replica : (j : ℕ) (z : Writer) → (j ≡ number → ⊥) → slice_get ws j ≡ Some z → own_replica z ≡ own_replica x → ⊥
  other_replica j z other there e = other (own.apart j number z x there was e)

  -- each still has a replica of its own
  pub own_still : HaveOwnNumbers (slice_set ws number y)
  own_still = record {
    ranged = λ z m.
        let place = contains_place now z m in
        elim (changed_at ws number place.0 y z place.1) [
          | inl here ↦
              let is : own_replica z ≡ own_replica x = ap own_replica here.1 ∙ same in
              let range = own.ranged x (contains_at ws number x was) in
              (subst (λ n. 1 ≤ n) (sym is) range.0, subst (λ n. n ≤ 65535) (sym is) range.1)
          | inr other ↦ own.ranged z (contains_at ws place.0 z other.1)
        ];
    apart = λ i j a b there those e. elim (changed_at ws number i y a there) [
      | inl here ↦ elim (changed_at ws number j y b those) [
        | inl both ↦ here.0 ∙ sym both.0
        | inr other ↦ absurd (other_replica j b other.0 other.1 (sym e ∙ ap own_replica here.1 ∙ same))
      ]
      | inr first ↦ elim (changed_at ws number j y b those) [
        | inl here ↦ absurd (other_replica i a first.0 first.1 (e ∙ ap own_replica here.1 ∙ same))
        | inr second ↦ own.apart i j a b first.1 second.1 e
      ]
    ];
  }

  -- and each its site
  pub sites_still : (w : World) → AreSites ws w → (h : IsSiteOf w x) → (f : Follows w h.number x y) → AreSites (slice_set ws number y) (with_site w h.number (site (own_content y) f.saved))
  sites_still w sites h f z m =
      let place = contains_place now z m in
      let t : Site = site (own_content y) f.saved in
      let v : World = with_site w h.number t in
      let own_site : IsSiteOf v y = record {
        saved = f.saved;
        logged = f.logged;
        number = h.number;
        numbered = same ∙ h.numbered;
        there = made_there w h.number (site (own_content x) h.saved) t h.there;
        limit = f.limit ∙ h.limit;
      } in
      elim (changed_at ws number place.0 y z place.1) [
        | inl here ↦ subst (IsSiteOf v) (sym here.1) own_site
        | inr other ↦
            let q : IsSiteOf w z = sites z (contains_at ws place.0 z other.1) in
            elim (set_old w.sites h.number q.number (site (own_content x) h.saved) t (site (own_content z) q.saved) h.there q.there) [
              | inl clash ↦ absurd (other_replica place.0 z other.0 other.1 (q.numbered ∙ ap replica_of clash.0 ∙ sym h.numbered))
              | inr stays ↦ record { saved = q.saved; logged = q.logged; number = q.number; numbered = q.numbered; there = stays; limit = q.limit }
            ]
      ]

-- ---- an act

-- events lead to a world of which the writers are sites
pub record GoAlong (w : World) (vs : List Writer) : Type 0 where
  pub world : World
  pub leads : LeadsTo w world
  pub sites : AreSites vs world

one_goes : (ws vs : List Writer) (w : World) (number : ℕ) (x y : Writer) → AreSites ws w → HaveOwnNumbers ws → Becomes number ws x y vs → own_replica y ≡ own_replica x → (h : IsSiteOf w x) → Follows w h.number x y → GoAlong w vs
one_goes ws vs w number x y sites own b same h f = record {
  world = with_site w h.number (site (own_content y) f.saved);
  leads = f.makes;
  sites = subst (λ us. AreSites us (with_site w h.number (site (own_content y) f.saved))) (sym b.now) (sites_still ws number x y b.was own same w sites h f);
}

-- numbers stay
pub act_numbers : (ws vs : List Writer) (act : Act) → HaveOwnNumbers ws → MayAct ws act vs → HaveOwnNumbers vs
act_numbers ws vs (Steps number step) own (x, y, b, steps, taken) = subst HaveOwnNumbers (sym b.now) (own_still ws number x y b.was own (step_replica step x.buffer y.buffer x.files y.files steps))
act_numbers ws vs (Opens number) own (x, y, b, opens) = subst HaveOwnNumbers (sym b.now) (own_still ws number x y b.was own (opening_replica x y opens))

act_goes : (ws vs : List Writer) (act : Act) (w : World) → IsReached w → AreSites ws w → HaveOwnNumbers ws → MayAct ws act vs → GoAlong w vs
act_goes ws vs (Steps number step) w reached sites own (x, y, b, steps, taken) =
    let h : IsSiteOf w x = sites x (contains_at ws number x b.was) in
    one_goes ws vs w number x y sites own b (step_replica step x.buffer y.buffer x.files y.files steps) h (step_follows step ws w x y h reached sites steps taken)
act_goes ws vs (Opens number) w reached sites own (x, y, b, opens) =
    let h : IsSiteOf w x = sites x (contains_at ws number x b.was) in
    one_goes ws vs w number x y sites own b (opening_replica x y opens) h (opening_follows w x y h reached opens)

pub act_is_events : (ws vs : List Writer) (act : Act) (w : World) → IsReached w → AreSites ws w → HaveOwnNumbers ws → MayAct ws act vs → (events : List Event) × AllByRecursion PutsCharacters events × AreSites vs (world_after w events)
act_is_events ws vs act w reached sites own acts =
    let g = act_goes ws vs act w reached sites own acts in
    (g.leads.events, g.leads.characters, subst (AreSites vs) (sym g.leads.after) g.sites)

-- ---- acts in a row

pub acts_go : (acts : List Act) (ws vs : List Writer) (w : World) → IsReached w → AreSites ws w → HaveOwnNumbers ws → MayActOn ws acts vs → GoAlong w vs
acts_go [] ws vs w reached sites own same = record { world = w; leads = no_event w; sites = subst (λ us. AreSites us w) (sym same) sites }
acts_go (act ∷ acts) ws vs w reached sites own (us, first, later) =
    let g = act_goes ws us act w reached sites own first in
    let rest = acts_go acts us vs g.world (leads_to_reached w g.world reached g.leads) g.sites (act_numbers ws us act own first) later in
    record { world = rest.world; leads = then_events w g.world rest.world g.leads rest.leads; sites = rest.sites }

-- ---- writers that hold nothing are sites of a world in which nothing has happened; those that are reached are sites of a
-- world that is reached.

-- nothing is kept beside no log
fresh_logged : (most : ℕ) (x : Writer) → IsFresh most x → IsLogged nothing x.buffer (own_files x).log
fresh_logged most x f = record {
  stands = subst (λ log. StandsFor (log_bytes log) nothing) (sym f.log) empty_stands;
  absent = λ _. refl;
  ended = λ _. ap (λ log. rest_of (log_bytes log)) f.log;
  content = f.content ∙ sym (nothing_join nothing) ∙ ap (λ ops. join nothing (content_of ops)) (sym f.unsaved);
  joinable = subst (IsJoinable nothing) (sym f.unsaved) (joinable_nothing nothing);
  sound = subst IsSound (sym f.content) (λ op h. absurd (nothing_holds op h));
  writable = subst IsWritableWhole (sym f.content) (λ op h. absurd (nothing_holds op h));
  fits = subst (λ c. finite_set.len (known_ids c) ≤ own_limit x) (sym f.content) (subst (λ n. n ≤ own_limit x) (sym known_nothing) (omega arith));
  waits = λ e. absurd (true≢false (sym e ∙ f.waits));
}

replicated : {A : Type 0} (n i : ℕ) (x : A) → i < n → slice_get (replicate n x) i ≡ Some x
replicated zero i x within = absurd (omega (arith, within))
replicated (suc n) zero x within = refl
replicated (suc n) (suc i) x within = replicated n i x (omega (arith, within))

number_of : (r most : ℕ) → 1 ≤ r → r ≤ most → (n : ℕ) × (r ≡ n + 1) × (n < most)
number_of r most some within = (r - 1, omega (arith, some), omega (arith, some, within))

fresh_site : (count most : ℕ) (x : Writer) → IsFresh most x → 1 ≤ own_replica x → own_replica x ≤ count → IsSiteOf (new_world count most) x
fresh_site count most x f some within =
    let (n, is, below) = number_of (own_replica x) count some within in
    record {
      saved = nothing;
      logged = fresh_logged most x f;
      number = n;
      numbered = is;
      there = replicated count n (site nothing nothing) below ∙ ap (λ c. Some (site c nothing)) (sym f.content);
      limit = f.limit;
    }

pub fresh_sites : (ws : List Writer) (most : ℕ) → is_limit most ≡ true → AreFresh ws most → HaveOwnNumbers ws → IsReached (new_world 65535 most) × AreSites ws (new_world 65535 most)
fresh_sites ws most limited fresh own = (
  reached_begin 65535 most refl limited,
  λ x m. fresh_site 65535 most x (fresh x m) (own.ranged x m).0 (own.ranged x m).1,
)

pub reached_sites : (ws : List Writer) → AreReached ws → (w : World) × IsReached w × AreSites ws w
reached_sites ws r =
    let begin = fresh_sites r.first r.most r.limited r.fresh r.own in
    let g = acts_go r.acts r.first ws (new_world 65535 r.most) begin.0 begin.1 r.own r.lead in
    (g.world, leads_to_reached (new_world 65535 r.most) g.world begin.0 g.leads, g.sites)

-- ---- what writers that are sites of one world share: no conflict, one order, one text

-- ---- what is within a content does not conflict with what it holds

no_other : (c all : Content) (op : Op) → IsWithin c all → Holds all op → HasAnother c op → ⊥
no_other c all op w holds another = grind arith

all_joinable : (c all : Content) (ops : List Op) → IsWithin c all → ((op : Op) → Contains ops op → Holds all op) → IsJoinable c ops
all_joinable c all ops w holds = record {
  agreed = held_agree all ops (λ id parent ch m. holds (Insert id parent ch) m);
  agree = λ id x y here given. same_Some x y (sym (w.inserted id x here) ∙ holds (Insert id y.parent y.ch) (content_inserted ops id y given));
}

-- ---- writers and their world

module _ (ws : List Writer) (w : World) (reached : IsReached w) (sites : AreSites ws w) where
  consistent : IsConsistent w.sites
  consistent = reached_consistent w reached

  within_world : (x : Writer) → Contains ws x → IsWithin (own_content x) (join_of (contents w))
  within_world x m =
      let h : IsSiteOf w x = sites x m in
      within_all w consistent (site (own_content x) h.saved) (contains_at w.sites h.number (site (own_content x) h.saved) h.there)

  -- what is in a log
  logged_in_world : (op : Op) → IsInALog ws op → Holds (join_of (contents w)) op
  logged_in_world op g =
      let h : IsSiteOf w g.giver = sites g.giver g.among in
      let saved : Holds h.saved op = subst (λ c. Holds c op) (g.stands.content ∙ sym h.logged.stands.content) g.holds in
      held_stays (own_content g.giver) (join_of (contents w)) op (within_world g.giver g.among)
      (held_stays h.saved (own_content g.giver) op (held_within h.saved g.giver.buffer (own_files g.giver).log h.logged) saved)

  both_agree : (x y : Writer) → Contains ws x → Contains ws y → Agree (own_content x) (own_content y)
  both_agree x y m n =
      let h : IsSiteOf w x = sites x m in
      let k : IsSiteOf w y = sites y n in
      sites_agree w.sites consistent h.number k.number (site (own_content x) h.saved) (site (own_content y) k.saved) h.there k.there

  all_agree : AllAgree (map own_content ws)
  all_agree c d m n =
      let first = contains_place (map own_content ws) c m in
      let second = contains_place (map own_content ws) d n in
      let (x, x_there, x_is) = mapped_place own_content ws first.0 c first.1 in
      let (y, y_there, y_is) = mapped_place own_content ws second.0 d second.1 in
      subst (λ e. Agree e d) (sym x_is) (subst (Agree (own_content x)) (sym y_is) (both_agree x y (contains_at ws first.0 x x_there) (contains_at ws second.0 y y_there)))

  pub in_all_written : (x : Writer) → Contains ws x → IsWithin (own_content x) (all_written ws)
  in_all_written x m =
      let place = contains_place ws x m in
      within_join_of (map own_content ws) (own_content x) all_agree
      (contains_at (map own_content ws) place.0 (own_content x) (place_mapped own_content ws place.0 x place.1))

-- ---- writers that are reached

pub no_conflict : (ws : List Writer) (x : Writer) (op : Op) (id : Identifier) → AreReached ws → Contains ws x → IsInALog ws op → answer (own_limit x) (own_content x) op ≡ Err (Conflict id) → ⊥
no_conflict ws x op id r m g h =
    let (w, reached, sites) = reached_sites ws r in
    no_other (own_content x) (join_of (contents w)) op (within_world ws w reached sites x m) (logged_in_world ws w reached sites op g) ((conflict-iff (own_limit x) (own_content x) op id).0 h).1

pub no_list_conflict : (ws : List Writer) (x : Writer) (ops : List Op) (id : Identifier) → AreReached ws → Contains ws x → ((op : Op) → Contains ops op → IsInALog ws op) → list_answer (own_limit x) (own_content x) ops ≡ Err (Conflict id) → ⊥
no_list_conflict ws x ops id r m each h =
    let (w, reached, sites) = reached_sites ws r in
    let joinable : IsJoinable (own_content x) ops =
    all_joinable (own_content x) (join_of (contents w)) ops (within_world ws w reached sites x m) (λ op n. logged_in_world ws w reached sites op (each op n)) in
    none-some id
    (sym ((no_conflict-iff (own_content x) ops).1 joinable)
    ∙ (first_conflict-iff (own_content x) ops id).1 ((list_conflict-iff (own_limit x) (own_content x) ops id).0 h).1)

pub one_text : (ws : List Writer) (x y : Writer) → AreReached ws → Contains ws x → Contains ws y → HaveSameIdentifiers (own_content x) (own_content y) → text (own_content x) ≡ text (own_content y)
one_text ws x y r m n same =
    let (w, reached, sites) = reached_sites ws r in
    ap text (same_if_same_identifiers (own_content x) (own_content y) (both_agree ws w reached sites x y m n) same)

pub within_written : (ws : List Writer) (x : Writer) → AreReached ws → Contains ws x → IsWithin (own_content x) (all_written ws)
within_written ws x r m = let (w, reached, sites) = reached_sites ws r in in_all_written ws w reached sites x m

pub writers_agree : (ws : List Writer) (x y : Writer) → AreReached ws → Contains ws x → Contains ws y → Agree (own_content x) (own_content y)
writers_agree ws x y r m n = let (w, reached, sites) = reached_sites ws r in both_agree ws w reached sites x y m n

-- ---- what is in logs stays there

-- ---- one act more

acts_append : (acts : List Act) (ws us vs : List Writer) (act : Act) → MayActOn ws acts us → MayAct us act vs → MayActOn ws (acts ++ act ∷ []) vs
acts_append [] ws us vs act same more = (vs, subst (λ x. MayAct x act vs) same more, refl)
acts_append (a ∷ acts) ws us vs act (xs, first, later) more = (xs, first, acts_append acts xs us vs act later more)

pub reached_further : (ws vs : List Writer) (act : Act) → AreReached ws → MayAct ws act vs → AreReached vs
reached_further ws vs act r more = record {
  first = r.first;
  most = r.most;
  limited = r.limited;
  fresh = r.fresh;
  own = r.own;
  acts = r.acts ++ act ∷ [];
  lead = acts_append r.acts r.first ws vs act r.lead more;
}

-- ---- logs grow

-- each log says what it said, and more, if anything
abbrev Grow : List Writer → List Writer → Type 0
Grow ws vs = (i : ℕ) (x : Writer) → slice_get ws i ≡ Some x → (y : Writer) × (slice_get vs i ≡ Some y) × IsWithin (logged_content x) (logged_content y)

one_grows : (number : ℕ) (ws vs : List Writer) (x y : Writer) → Becomes number ws x y vs → IsWithin (logged_content x) (logged_content y) → Grow ws vs
one_grows number ws vs x y b more i z at = elim (set_old ws number i x y z b.was at) [
  | inl here ↦ (y, ap (λ us. slice_get us i) b.now ∙ here.2, subst (λ (u : Writer). IsWithin (logged_content u) (logged_content y)) (sym here.1) more)
  | inr stays ↦ (z, ap (λ us. slice_get us i) b.now ∙ stays, within_itself (logged_content z))
]

act_grows : (ws vs : List Writer) (act : Act) → AreReached ws → MayAct ws act vs → Grow ws vs
act_grows ws vs (Steps number step) r (x, y, b, steps, taken) =
    let (w, reached, sites) = reached_sites ws r in
    let h : IsSiteOf w x = sites x (contains_at ws number x b.was) in
    let more : HoldsMore h.saved y.buffer y.files = after_step h.saved step x.buffer y.buffer x.files y.files h.logged steps in
    one_grows number ws vs x y b
    (subst (λ c. IsWithin c (logged_content y)) h.logged.stands.content (subst (IsWithin h.saved) more.logged.stands.content more.grown))
act_grows ws vs (Opens number) r (x, y, b, opens) =
    one_grows number ws vs x y b
    (subst (λ (f : Files). IsWithin (logged_content x) (content_of (log_operations (log_bytes f.log)))) (sym opens.held) (within_itself (logged_content x)))

acts_grow : (acts : List Act) (ws vs : List Writer) → AreReached ws → MayActOn ws acts vs → Grow ws vs × AreReached vs
acts_grow [] ws vs r same = (λ i x at. (x, ap (λ us. slice_get us i) same ∙ at, within_itself (logged_content x)), subst AreReached (sym same) r)
acts_grow (act ∷ acts) ws vs r (us, first, later) =
    let one : Grow ws us = act_grows ws us act r first in
    let rest = acts_grow acts us vs (reached_further ws us act r first) later in (
      λ i x at.
          let (y, y_at, more) = one i x at in
          let (z, z_at, still) = rest.0 i y y_at in
          (z, z_at, within_chain (logged_content x) (logged_content y) (logged_content z) more still),
      rest.1,
    )

-- ---- what all logs say

logged_within : (ws : List Writer) (x : Writer) → AreReached ws → Contains ws x → IsWithin (logged_content x) (own_content x)
logged_within ws x r m =
    let (w, reached, sites) = reached_sites ws r in
    let h : IsSiteOf w x = sites x m in
    subst (λ c. IsWithin c (own_content x)) h.logged.stands.content (held_within h.saved x.buffer (own_files x).log h.logged)

logs_agree : (ws : List Writer) → AreReached ws → AllAgree (map logged_content ws)
logs_agree ws r c d m n =
    let first = contains_place (map logged_content ws) c m in
    let second = contains_place (map logged_content ws) d n in
    let (x, x_there, x_is) = mapped_place logged_content ws first.0 c first.1 in
    let (y, y_there, y_is) = mapped_place logged_content ws second.0 d second.1 in
    let x_in : Contains ws x = contains_at ws first.0 x x_there in
    let y_in : Contains ws y = contains_at ws second.0 y y_there in
    agree_within c d (own_content x) (own_content y)
    (subst (λ e. IsWithin e (own_content x)) (sym x_is) (logged_within ws x r x_in))
    (subst (λ e. IsWithin e (own_content y)) (sym y_is) (logged_within ws y r y_in))
    (writers_agree ws x y r x_in y_in)

pub all_logged_grows : (ws vs : List Writer) (acts : List Act) → AreReached ws → MayActOn ws acts vs → IsWithin (all_logged ws) (all_logged vs)
all_logged_grows ws vs acts r lead =
    let g = acts_grow acts ws vs r lead in
    join_of_least (map logged_content ws) (all_logged vs) (λ c m.
    let place = contains_place (map logged_content ws) c m in
    let (x, x_there, x_is) = mapped_place logged_content ws place.0 c place.1 in
    let (y, y_there, more) = g.0 place.0 x x_there in
    subst (λ e. IsWithin e (all_logged vs)) (sym x_is)
    (within_chain (logged_content x) (logged_content y) (all_logged vs) more
    (within_join_of (map logged_content vs) (logged_content y) (logs_agree vs g.1)
    (contains_at (map logged_content vs) place.0 (logged_content y) (place_mapped logged_content vs place.0 y y_there)))))
