-- What becomes of a live buffer, as acts of a writer of mg_files.
use Rattle.std.proofs.Common.{◌≡◌, ◌≤◌, inl, inr, ◌∙◌, ℕ, List, [], ◌∷◌, Some, Ok, slice_get, slice_set, refl, sym, ap, subst}
use Rattle.std.specs.List.{Contains}
use Rattle.std.proofs.lemmas.List.{set-set}
use Rattle.rga_ops.specs.Content.{Content, Holds, IsSound, IsWithin, known_count}
use Rattle.rga_ops.specs.declared.op.Op.{Op}
use Rattle.rga_ops.proofs.ContentLaws.{within_chain}
use Rattle.rga_ops.proofs.TakenLaws.{held_stays}
use Rattle.rga_exchange.specs.Sending.{StandsFor}
use Rattle.rga_world.proofs.ListPlaces.{contains_at, contains_place, set_here, set_old}
use Rattle.mg_buffer.specs.OpenState.{OpenState}
use Rattle.mg_files.specs.Files.{Files}
use Rattle.mg_files.specs.Loading.{load_outcome}
use Rattle.mg_files.specs.Held.{Held, AnswersLoad, log_bytes}
use Rattle.mg_files.specs.Kept.{IsBuffer, IsWritableWhole}
use Rattle.mg_files.specs.Run.{BufferStep, Takes, Rests, ChangesAlone, HoldsMore, KeepsOperations, MayGo, MayStep, TakesOnly}
use Rattle.mg_files.specs.Writers.{Writer, Act, Steps, Opens, own_files, own_limit, own_replica, AreReached, Becomes, IsInALog, IsOpenedAnew, IsSiteOf, MayAct, TakesLogged, all_logged}
use Rattle.mg_files.proofs.WriterSteps.{reached_sites, all_logged_grows, reached_further, step_follows}
use Rattle.mg_files.proofs.ChangeSteps.{step_replica, after_step}
use Rattle.mg_files.proofs.WriterEvents.{opening_follows, opening_replica}
use Rattle.mg_workspace.specs.Workspaces.{Workspace}
use Rattle.mg_editor.specs.Holding.{IsOpenedBy}
use Rattle.mg_live.proofs.StageLaws.{opened_as}

-- ---- what is in a log stays there

moved_log : (number : ℕ) (ws vs : List Writer) (x y : Writer) (op : Op) → Becomes number ws x y vs
    → ((saved : Content) → StandsFor (log_bytes (own_files x).log) saved → Holds saved op → (now : Content) × StandsFor (log_bytes (own_files y).log) now × Holds now op)
    → IsInALog ws op → IsInALog vs op
moved_log number ws vs x y op b grows g =
    let place = contains_place ws g.giver g.among in
    elim (set_old ws number place.0 x y g.giver b.was place.1) [
      | inl here ↦
          let stands : StandsFor (log_bytes (own_files x).log) g.saved = subst (λ (u : Writer). StandsFor (log_bytes (own_files u).log) g.saved) here.1 g.stands in
          let now = grows g.saved stands g.holds in
          let there : slice_get vs place.0 ≡ Some y = ap (λ us. slice_get us place.0) b.now ∙ here.2 in
          record { giver = y; among = contains_at vs place.0 y there; saved = now.0; stands = now.1; holds = now.2 }
      | inr stays ↦
          let there : slice_get vs place.0 ≡ Some g.giver = ap (λ us. slice_get us place.0) b.now ∙ stays in
          record { giver = g.giver; among = contains_at vs place.0 g.giver there; saved = g.saved; stands = g.stands; holds = g.holds }
    ]

pub act_keeps_logs : (ws vs : List Writer) (act : Act) (op : Op) → AreReached ws → MayAct ws act vs → IsInALog ws op → IsInALog vs op
act_keeps_logs ws vs (Steps number step) op r (x, y, b, m, taken) g =
    let (w, reached, sites) = reached_sites ws r in
    let h : IsSiteOf w x = sites x (contains_at ws number x b.was) in
    let more : HoldsMore h.saved y.buffer y.files = after_step h.saved step x.buffer y.buffer x.files y.files h.logged m in
    moved_log number ws vs x y op b
    (λ saved stands holds. (
      more.now,
      more.logged.stands,
      held_stays h.saved more.now op more.grown (subst (λ c. Holds c op) (stands.content ∙ sym h.logged.stands.content) holds),
    )) g
act_keeps_logs ws vs (Opens number) op r (x, y, b, opens) g =
    moved_log number ws vs x y op b
    (λ saved stands holds. (saved, subst (λ (f : Files). StandsFor (log_bytes f.log) saved) (sym opens.held) stands, holds)) g

-- ---- acts of one writer

abbrev pub writer : OpenState → Held → Writer
writer b s = record { buffer = b; files = s }

-- Acts make of the writer w at that index z, and leave the others. What was in a log is in one.
pub record Moved (ws : List Writer) (number : ℕ) (w z : Writer) : Type 0 where
  pub writers : List Writer
  pub now : writers ≡ slice_set ws number z
  pub reached : AreReached writers
  pub here : slice_get writers number ≡ Some z
  pub replica : own_replica z ≡ own_replica w
  pub limit : own_limit z ≡ own_limit w
  pub logs : (op : Op) → IsInALog ws op → IsInALog writers op
  pub grown : IsWithin (all_logged ws) (all_logged writers)

moved_once : (ws : List Writer) (number : ℕ) (act : Act) (w z : Writer) → AreReached ws → slice_get ws number ≡ Some w → own_replica z ≡ own_replica w
    → own_limit z ≡ own_limit w → MayAct ws act (slice_set ws number z) → Moved ws number w z
moved_once ws number act w z r was replica limit acts = record {
  writers = slice_set ws number z;
  now = refl;
  reached = reached_further ws (slice_set ws number z) act r acts;
  here = set_here ws number w z was;
  replica = replica;
  limit = limit;
  logs = λ op g. act_keeps_logs ws (slice_set ws number z) act op r acts g;
  grown = all_logged_grows ws (slice_set ws number z) (act ∷ []) r (slice_set ws number z, acts, refl);
}

moved_on : (ws : List Writer) (number : ℕ) (w y z : Writer) (m : Moved ws number w y) → Moved m.writers number y z → Moved ws number w z
moved_on ws number w y z m n = record {
  writers = n.writers;
  now = n.now ∙ ap (λ us. slice_set us number z) m.now ∙ set-set ws number y z;
  reached = n.reached;
  here = n.here;
  replica = n.replica ∙ m.replica;
  limit = n.limit ∙ m.limit;
  logs = λ op g. n.logs op (m.logs op g);
  grown = within_chain (all_logged ws) (all_logged m.writers) (all_logged n.writers) m.grown n.grown;
}

-- ---- steps

-- what the steps take is in logs
takes_logged : (ops : List Op) (ws : List Writer) (step : BufferStep) (steps : List BufferStep) → ((op : Op) → Contains ops op → IsInALog ws op)
    → TakesOnly ops (step ∷ steps) → TakesLogged ws step × TakesOnly ops steps
takes_logged ops ws (Takes taken) steps logged only = ((λ op has. logged op (only.0 op has)), only.1)
takes_logged ops ws step steps logged only = (tt, only)

-- one step
steps_once : (step : BufferStep) (ws : List Writer) (number : ℕ) (w z : Writer) → AreReached ws → slice_get ws number ≡ Some w
    → MayStep step w.buffer w.files z.buffer z.files → TakesLogged ws step → Moved ws number w z
steps_once step ws number w z r was m taken =
    let (world, reached, sites) = reached_sites ws r in
    let h : IsSiteOf world w = sites w (contains_at ws number w was) in
    moved_once ws number (Steps number step) w z r was (step_replica step w.buffer z.buffer w.files z.files m)
    (step_follows step ws world w z h reached sites m taken).limit (w, z, record { was = was; now = refl }, m, taken)

-- a buffer that rests, whatever becomes of what is held under other names
pub rests : (ws : List Writer) (number : ℕ) (w : Writer) (t : Held) → AreReached ws → slice_get ws number ≡ Some w → t w.buffer.buffer.name ≡ own_files w
    → Moved ws number w (writer w.buffer t)
rests ws number w t r was same =
    let (world, reached, sites) = reached_sites ws r in
    let writable : IsWritableWhole w.buffer.buffer.content = (sites w (contains_at ws number w was)).logged.writable in
    let alone : ChangesAlone w.buffer w.buffer w.files t = record { rest = refl; writable = writable; held = same } in
    let keeps : KeepsOperations w.buffer.buffer w.buffer.buffer = record { name = refl; content = refl; unsaved = refl; limit = refl; replica = refl } in
    steps_once Rests ws number w (writer w.buffer t) r was (alone, keeps) tt

pub goes : (ops : List Op) (steps : List BufferStep) (ws : List Writer) (number : ℕ) (w : Writer) (d : OpenState) (t : Held) → AreReached ws
    → slice_get ws number ≡ Some w → ((op : Op) → Contains ops op → IsInALog ws op) → TakesOnly ops steps → MayGo steps w.buffer w.files d t
    → Moved ws number w (writer d t)
goes ops [] ws number w d t r was logged only (is, same) = subst (λ (b : OpenState). Moved ws number w (writer b t)) (sym is) (rests ws number w t r was same)
goes ops (step ∷ steps) ws number w d t r was logged only (c, u, first, more) =
    let taken = takes_logged ops ws step steps logged only in
    let y : Writer = writer c u in
    let one : Moved ws number w y = steps_once step ws number w y r was first taken.0 in
    moved_on ws number w y (writer d t) one
    (goes ops steps one.writers number y d t one.reached one.here (λ op has. one.logs op (logged op has)) taken.1 more)

-- ---- an opening

pub opens : (name : List ℕ) (v : Workspace) (ws : List Writer) (number : ℕ) (w : Writer) (d : OpenState) (t : Held) → AreReached ws → slice_get ws number ≡ Some w
    → w.buffer.buffer.name ≡ name → own_replica w ≡ v.replica → own_limit w ≡ v.limit → IsBuffer d → IsOpenedBy name v w.files d t
    → Moved ws number w (writer d t)
opens name v ws number w d t r was named numbered limited kept o =
    let y : Writer = writer d t in
    let content : d.buffer.content ≡ o.loaded.buffer.content = ap (λ (b : OpenState). b.buffer.content) o.is in
    let limit_is : d.buffer.limit ≡ o.loaded.buffer.limit = ap (λ (b : OpenState). b.buffer.limit) o.is in
    let is_buffer : IsBuffer o.loaded = record {
      sound = subst IsSound content kept.sound;
      writable = subst IsWritableWhole content kept.writable;
      fits = subst (λ n. known_count o.loaded.buffer.content ≤ n) limit_is (subst (λ c. known_count c ≤ d.buffer.limit) content kept.fits);
    } in
    let anew : IsOpenedAnew w y = record {
      found = o.found;
      answers = subst (λ n. AnswersLoad (w.files n) o.found) (sym named) o.answers;
      loaded = o.loaded;
      end = o.end;
      outcome =
          subst (λ n. load_outcome n (own_replica w) (own_limit w) o.found ≡ Ok (o.loaded, o.end)) (sym named)
          (subst (λ n. load_outcome name n (own_limit w) o.found ≡ Ok (o.loaded, o.end)) (sym numbered)
          (subst (λ n. load_outcome name v.replica n o.found ≡ Ok (o.loaded, o.end)) (sym limited) o.outcome));
      kept = is_buffer;
      runs = v.runs;
      brief = v.brief;
      is = o.is;
      held = ap t (opened_as name v w.files t d o) ∙ o.held ∙ ap w.files (sym named);
    } in
    let (world, reached, sites) = reached_sites ws r in
    let follows = opening_follows world w y (sites w (contains_at ws number w was)) reached anew in
    moved_once ws number (Opens number) w y r was (opening_replica w y anew) follows.limit (w, y, record { was = was; now = refl }, anew)
