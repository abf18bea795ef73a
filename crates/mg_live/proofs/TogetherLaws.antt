-- Writers in live sessions are writers of mg_files, whatever they do.
use Rattle.std.proofs.Common.{◌≡◌, ◌≤◌, ◌⊎◌, inl, inr, ◌∙◌, ℕ, true, List, [], ◌∷◌, map, Some, None, Err, slice_get, slice_set, filter, refl, sym, ap, subst}
use Rattle.std.specs.Prelude.{encode_utf8_all, IfSome}
use Rattle.std.specs.List.{Contains}
use Rattle.std.specs.Str.{all_scalars}
use Rattle.std.proofs.lemmas.List.{map-set}
use Rattle.std.proofs.lemmas.List.Elements.{Contains-get_or}
use Rattle.std.proofs.lemmas.Option.{same_Some}
use Rattle.rga_ops.specs.Content.{nothing, content_of, IsWithin}
use Rattle.rga_ops.specs.Identifier.{Identifier}
use Rattle.rga_ops.specs.ListAnswer.{list_answer}
use Rattle.rga_ops.specs.Order.{order, text}
use Rattle.rga_ops.specs.RootPath.{is_complete}
use Rattle.rga_ops.specs.declared.op.Op.{Op}
use Rattle.rga_ops.specs.declared.refusal.Refusal.TheVariants.{Conflict}
use Rattle.rga_ops.proofs.ContentLaws.{within_chain, within_itself}
use Rattle.rga_ops.proofs.GrowLaws.{complete_stays, order_within}
use Rattle.rga_ops.proofs.OperationLaws.{Contains-append, Contains-nil}
use Rattle.rga_lines.specs.Log.{log_operations}
use Rattle.rga_exchange.specs.Sending.{StandsFor}
use Rattle.rga_exchange.specs.declared.log.LogEnd.TheVariants as log_end
use Rattle.rga_world.specs.Together.{HaveSameIdentifiers, join_of}
use Rattle.rga_world.proofs.ListPlaces.{contains_at, contains_place, mapped_place, place_mapped, set_here, set_new, set_old}
use Rattle.mg_buffer.specs.OpenState.{OpenState}
use Rattle.mg_files.specs.Files.{Files}
use Rattle.mg_files.specs.Loading.{loaded, opened}
use Rattle.mg_files.specs.Held.{Held, log_bytes}
use Rattle.mg_files.specs.Run.{MayGo}
use Rattle.mg_files.specs.Writers.{Writer, IsFresh, HaveOwnNumbers, AreReached, IsInALog, all_logged, logged_content, own_files, own_limit, own_replica}
use Rattle.mg_files.proofs.WriterSteps.{no_list_conflict, one_text}
use Rattle.mg_events.specs.Reading.{Told, key, report, refused}
use Rattle.mg_workspace.specs.Buffers.{current_buffer, no_buffer}
use Rattle.mg_workspace.specs.Workspaces.{Workspace}
use Rattle.mg_editor.specs.Editors.{Editor}
use Rattle.mg_editor.specs.Holding.{GoesOn, IsOpen, IsOpenedBy}
use Rattle.mg_editor.proofs.RemovalLaws.{gone_on_named}
use Rattle.mg_live.specs.Running.{TakesEvent}
use Rattle.mg_live.specs.Standing.{AreKeptWithin, ComesBy, Stands, live_name, operations_at}
use Rattle.mg_live.specs.States.{Live, Moment}
use Rattle.mg_live.specs.Together.{LiveWriter, at_moment, IsLiveBuffer, IsLoggedByOne, IsShared, SaysShared, StartsSession, TakesShared, EndsTelling, StaysSame, LiveAct, Starts, Takes, Ends, Stays, Dies, Becomes, MayLive, MayLiveOn, IsNew, HaveOwnReplicas, AreLive, AreWriters, live_logged, all_live_logged}
use Rattle.mg_live.proofs.BlockLaws.{Goes, block_goes, told_held, written_name}
use Rattle.mg_live.proofs.EventLaws.{event_goes}
use Rattle.mg_live.proofs.KeyLaws.{stands_at, stands_so}
use Rattle.mg_live.proofs.NameLaws.{open_or_not, same_buffer}
use Rattle.mg_live.proofs.ShapeLaws.{KeepsNumbers, press_numbers, same_numbers}
use Rattle.mg_live.proofs.StageLaws.{is_buffer, opened_as}
use Rattle.mg_live.proofs.StartLaws.{opened_at_start, name_at_start, numbers_at_start, start_stands}
use Rattle.mg_live.proofs.TogetherActs.{Moved, goes, opens, rests, writer}

-- ---- one writer and its session

-- the session stands beside what is held, and its live buffer is the writer's
record RunsBeside (x : LiveWriter) (w : Writer) (m : Moment) : Type 0 where
  stands : Stands x.held m
  named : live_name m ≡ x.name
  is : (b : OpenState) → Contains m.editor.work.buffers.all b → b.buffer.name ≡ x.name → b ≡ w.buffer
  replica : m.editor.work.replica ≡ x.replica
  limit : m.editor.work.limit ≡ x.limit

record Matches (x : LiveWriter) (w : Writer) : Type 0 where
  name : w.buffer.buffer.name ≡ x.name
  replica : own_replica w ≡ x.replica
  limit : own_limit w ≡ x.limit
  files : w.files ≡ x.held
  session : IfSome x.session (RunsBeside x w)

session_at : (x : LiveWriter) (w : Writer) (m : Moment) → Matches x w → x.session ≡ Some m → RunsBeside x w m
session_at x w m fit is = subst (λ o. IfSome o (RunsBeside x w)) is fit.session

-- the files of its note
own_is : (x : LiveWriter) (w : Writer) → Matches x w → own_files w ≡ x.held x.name
own_is x w fit = ap w.files fit.name ∙ ap (λ (s : Held). s x.name) fit.files

-- how a session went on from one moment to another
abbrev SessionGoes : LiveWriter → List Op → Moment → Moment → Held → Type 0
SessionGoes x ops before after t = Goes before after x.held t
    (λ d. GoesOn ops before.editor.work.buffers x.held d t
    ⊎ ((n : List ℕ) × (v : Workspace) × KeepsNumbers before.editor.work v × IsOpenedBy n v x.held d t))

goes_as : {before after : Moment} {s t : Held} {P Q : OpenState → Type 0} → Goes before after s t P → ((d : OpenState) → P d → Q d) → Goes before after s t Q
goes_as g as_so = record { stands = g.stands; name = g.name; numbers = g.numbers; each = λ d c. as_so d (g.each d c); spares = g.spares }

-- where the writer went along
record Along (ws : List Writer) (number : ℕ) (w : Writer) (y : LiveWriter) : Type 0 where
  z : Writer
  moved : Moved ws number w z
  matches : Matches y z

module _ (ws : List Writer) (number : ℕ) (w : Writer) (reached : AreReached ws) (was : slice_get ws number ≡ Some w) where
  -- to another buffer of its name, which is the only live one
  to_buffer : (x : LiveWriter) (after : Moment) (d : OpenState) (t : Held) → Matches x w → Stands t after → live_name after ≡ x.name
      → after.editor.work.replica ≡ x.replica → after.editor.work.limit ≡ x.limit → d.buffer.name ≡ x.name
      → ((b : OpenState) → Contains after.editor.work.buffers.all b → b.buffer.name ≡ x.name → b ≡ d) → Moved ws number w (writer d t)
      → Along ws number w (at_moment t (Some after) x)
  to_buffer x after d t fit stands named replica limit is only moved = record {
    z = writer d t;
    moved = moved;
    matches = record {
      name = is;
      replica = moved.replica ∙ fit.replica;
      limit = moved.limit ∙ fit.limit;
      files = refl;
      session = record { stands = stands; named = named; is = only; replica = replica; limit = limit };
    };
  }

  session_along : (x : LiveWriter) (ops : List Op) (before after : Moment) (t : Held) → Matches x w → x.session ≡ Some before
      → ((op : Op) → Contains ops op → IsInALog ws op) → SessionGoes x ops before after t → Along ws number w (at_moment t (Some after) x)
  session_along x ops before after t fit running logged go = by (open_or_not after.live.name after.editor.work.buffers go.stands.spelled go.stands.kept.named)
    where
      beside : RunsBeside x w before
      beside = session_at x w before fit running

      named : live_name after ≡ x.name
      named = ap encode_utf8_all go.name ∙ beside.named

      replica : after.editor.work.replica ≡ x.replica
      replica = go.numbers.replica ∙ beside.replica

      limit : after.editor.work.limit ≡ x.limit
      limit = go.numbers.limit ∙ beside.limit

      live : (d : OpenState) → Contains after.editor.work.buffers.all d → d.buffer.name ≡ x.name → Moved ws number w (writer d t) → Along ws number w (at_moment t (Some after) x)
      live d c is moved =
          to_buffer x after d t fit go.stands named replica limit is
          (λ b there at. same_buffer after.editor.work.buffers b d go.stands.own there c (at ∙ sym is)) moved

      went : (d : OpenState) → d.buffer.name ≡ x.name → GoesOn ops before.editor.work.buffers x.held d t → Moved ws number w (writer d t)
      went d is g =
          let same : g.b ≡ w.buffer = beside.is g.b g.was (sym (gone_on_named ops before.editor.work.buffers x.held t d g) ∙ is) in
          let from : MayGo g.steps w.buffer w.files d t =
          subst (λ (b : OpenState). MayGo g.steps b w.files d t) same (subst (λ (s : Held). MayGo g.steps g.b s d t) (sym fit.files) g.goes) in
          goes ops g.steps ws number w d t reached was logged g.takes from

      anew : (d : OpenState) → Contains after.editor.work.buffers.all d → d.buffer.name ≡ x.name → (n : List ℕ) (v : Workspace) → KeepsNumbers before.editor.work v
          → IsOpenedBy n v x.held d t → Moved ws number w (writer d t)
      anew d c is n v numbers o =
          opens n v ws number w d t reached was (fit.name ∙ sym is ∙ opened_as n v x.held t d o) (fit.replica ∙ sym (numbers.replica ∙ beside.replica))
          (fit.limit ∙ sym (numbers.limit ∙ beside.limit)) (is_buffer after.editor.work.buffers go.stands.kept d c)
          (subst (λ (s : Held). IsOpenedBy n v s d t) (sym fit.files) o)

      by : IsOpen (live_name after) after.editor.work.buffers ⊎ (IsOpen (live_name after) after.editor.work.buffers → ⊥) → Along ws number w (at_moment t (Some after) x)
      by (inl (d, c, at)) =
          let is : d.buffer.name ≡ x.name = at ∙ named in
          elim (go.each d c) [
            | inl g ↦ live d c is (went d is g)
            | inr o ↦ live d c is (anew d c is o.0 o.1 o.2 o.3)
          ]
      by (inr closed) =
          let same : live_name after ≡ live_name before = ap encode_utf8_all go.name in
          let spared = go.spares (λ found. closed (subst (λ n. IsOpen n after.editor.work.buffers) (sym same) found)) in
          let held : t x.name ≡ x.held x.name = subst (λ n. t n ≡ x.held n) beside.named spared in
          let moved : Moved ws number w (writer w.buffer t) = rests ws number w t reached was (ap t fit.name ∙ held ∙ sym (own_is x w fit)) in
          to_buffer x after w.buffer t fit go.stands named replica limit fit.name
          (λ b there at. absurd (closed (b, there, at ∙ sym named))) moved

-- ---- what sessions do

takes_goes : (xs : List LiveWriter) (told : List Op) (event : Told) (x : LiveWriter) (before after : Moment) (t : Held) → Stands x.held before
    → TakesShared xs told event x.held before after t
    → (ops : List Op) × SessionGoes x ops before after t × ((op : Op) → Contains ops op → IsShared xs told op)
takes_goes xs told event x before after t stands k = by event k.taken k.within k.shared
  where
    went : (event : Told) (taken : TakesEvent event before after) → AreKeptWithin event before after taken
        → Goes before after x.held t (λ d. ComesBy event before after taken x.held d t)
    went event taken within =
        event_goes x.held t k.leads.told k.leads.made k.leads.leads event before after taken stands within k.kept k.leads.calls k.leads.adds

    by : (event : Told) (taken : TakesEvent event before after) → AreKeptWithin event before after taken → SaysShared xs told event before after taken
        → (ops : List Op) × SessionGoes x ops before after t × ((op : Op) → Contains ops op → IsShared xs told op)
    by (key byte) taken within alone = (
      [],
      goes_as (went (key byte) taken within)
          (λ d comes. elim comes [
            | inl g ↦ inl (subst (λ (ops : List Op). GoesOn ops before.editor.work.buffers x.held d t) (g.1 alone) g.2)
            | inr o ↦ inr (o.0, taken.1.pressed.work, press_numbers byte before.editor taken.1.pressed taken.1.answer taken.1.presses, o.1)
          ]),
      λ op has. absurd (Contains-nil op has),
    )
    by (report line) taken within shared = (operations_at line, goes_as (went (report line) taken within) (λ d comes. inl comes), shared)
    by (refused fault) taken within shared = ([], goes_as (went (refused fault) taken within) (λ d comes. inl comes), λ op has. absurd (Contains-nil op has))

ends_goes : (x : LiveWriter) (before after : Moment) (t : Held) (ops : List Op) → Stands x.held before → EndsTelling x.held before after t ops
    → SessionGoes x [] before after t
ends_goes x before after t ops stands k =
    goes_as (block_goes before after k.block x.held t k.leads.told k.leads.made k.leads.leads stands k.kept k.leads.calls k.leads.adds) (λ d g. inl g)

-- neither what is held nor a buffer changed
stays_goes : (x : LiveWriter) (before after : Moment) → Stands x.held before → StaysSame before after → SessionGoes x [] before after x.held
stays_goes x before after stands same = record {
  stands = stands_at x.held after (subst (λ n. all_scalars n ≡ true) (sym same.name) stands.spelled)
      (rw (same.name, same.untold, same.editor) (stands_so x.held before stands));
  name = same.name;
  numbers = same_numbers before.editor.work after.editor.work (ap (λ (e : Editor). e.work) same.editor);
  each = λ d c. inl (record { b = d; was = there d c; steps = []; takes = tt; goes = (refl, refl) });
  spares = λ closed. refl;
}
  where
    there : (d : OpenState) → Contains after.editor.work.buffers.all d → Contains before.editor.work.buffers.all d
    there d c = subst (λ (e : Editor). Contains e.work.buffers.all d) same.editor c

starts_along : (ws : List Writer) (number : ℕ) (w : Writer) (x : LiveWriter) (m : Moment) (t : Held) → AreReached ws → slice_get ws number ≡ Some w → Matches x w
    → StartsSession x m t → Along ws number w (at_moment t (Some m) x)
starts_along ws number w x m t reached was fit k =
    let v = k.values in
    let stands : Stands t m = start_stands v k.noted k.first k.told k.made x.held t m k.loads k.leads k.kept k.editor k.live in
    let numbers = numbers_at_start v k.first k.told k.made k.loads in
    let bs = k.first.work.buffers in
    let d : OpenState = current_buffer bs in
    let c : Contains bs.all d = Contains-get_or bs.all bs.current no_buffer k.kept.are.current in
    let opened = opened_at_start v k.first k.told k.made x.held t k.loads k.leads k.kept d c in
    let d_named : d.buffer.name ≡ v.name = opened_as v.name k.first.work x.held t d opened in
    let named : live_name m ≡ x.name =
    ap (λ (l : Live). encode_utf8_all l.name) k.live ∙ name_at_start v k.first k.told k.made x.held t k.loads k.leads k.kept ∙ k.name in
    let there : Contains m.editor.work.buffers.all d = subst (λ (e : Editor). Contains e.work.buffers.all d) (sym k.editor) c in
    let moved : Moved ws number w (writer d t) =
    opens v.name k.first.work ws number w d t reached was (fit.name ∙ sym k.name) (fit.replica ∙ sym (numbers.0 ∙ k.replica)) (fit.limit ∙ sym (numbers.1 ∙ k.limit))
    (is_buffer bs k.kept d c) (subst (λ (s : Held). IsOpenedBy v.name k.first.work s d t) (sym fit.files) opened) in
    to_buffer ws number w reached was x m d t fit stands named (ap (λ (e : Editor). e.work.replica) k.editor ∙ numbers.0 ∙ k.replica)
    (ap (λ (e : Editor). e.work.limit) k.editor ∙ numbers.1 ∙ k.limit) (d_named ∙ k.name)
    (λ b at is. same_buffer m.editor.work.buffers b d stands.own at there (is ∙ sym (d_named ∙ k.name))) moved

dies_along : (ws : List Writer) (number : ℕ) (w : Writer) (x : LiveWriter) → AreReached ws → slice_get ws number ≡ Some w → Matches x w
    → Along ws number w (at_moment x.held None x)
dies_along ws number w x reached was fit = record {
  z = writer w.buffer x.held;
  moved = rests ws number w x.held reached was (ap x.held fit.name ∙ sym (own_is x w fit));
  matches = record { name = fit.name; replica = fit.replica; limit = fit.limit; files = refl; session = tt };
}

-- ---- all of them

record Beside (xs : List LiveWriter) (ops : List Op) (ws : List Writer) : Type 0 where
  reached : AreReached ws
  each : (i : ℕ) (x : LiveWriter) → slice_get xs i ≡ Some x → (w : Writer) × (slice_get ws i ≡ Some w) × Matches x w
  told : (op : Op) → Contains ops op → IsInALog ws op
  logs : map live_logged xs ≡ map logged_content ws

log_same : (x : LiveWriter) (w : Writer) → Matches x w → live_logged x ≡ logged_content w
log_same x w fit = sym (ap (λ (f : Files). content_of (log_operations (log_bytes f.log))) (own_is x w fit))

-- what is shared is in a log
shared_logged : (xs : List LiveWriter) (told : List Op) (ws : List Writer) (op : Op) → Beside xs told ws → IsShared xs told op → IsInALog ws op
shared_logged xs told ws op b (inl has) = b.told op has
shared_logged xs told ws op b (inr g) =
    let place = contains_place xs g.giver g.among in
    let (w, at, fit) = b.each place.0 g.giver place.1 in
    record {
      giver = w;
      among = contains_at ws place.0 w at;
      saved = g.saved;
      stands = subst (λ (f : Files). StandsFor (log_bytes f.log) g.saved) (sym (own_is g.giver w fit)) g.stands;
      holds = g.holds;
    }

-- and what is in a log is in one of theirs
logged_by_one : (xs : List LiveWriter) (told : List Op) (ws : List Writer) (op : Op) → Beside xs told ws → IsInALog ws op → IsLoggedByOne xs op
logged_by_one xs told ws op b g =
    let place = contains_place ws g.giver g.among in
    let at : slice_get (map live_logged xs) place.0 ≡ Some (logged_content g.giver) =
    ap (λ l. slice_get l place.0) b.logs ∙ place_mapped logged_content ws place.0 g.giver place.1 in
    let (x, there, is) = mapped_place live_logged xs place.0 (logged_content g.giver) at in
    let (w, here, fit) = b.each place.0 x there in
    let same : w ≡ g.giver = same_Some w g.giver (sym here ∙ place.1) in
    record {
      giver = x;
      among = contains_at xs place.0 x there;
      saved = g.saved;
      stands = subst (λ (f : Files). StandsFor (log_bytes f.log) g.saved) (own_is x w fit) (subst (λ (u : Writer). StandsFor (log_bytes (own_files u).log) g.saved) (sym same) g.stands);
      holds = g.holds;
    }

-- one of them went along
module _ (xs ys : List LiveWriter) (told : List Op) (ws : List Writer) (number : ℕ) (x y : LiveWriter) (b : Beside xs told ws) (becomes : Becomes number xs x y ys) where
  along_all : (w : Writer) → slice_get ws number ≡ Some w → (a : Along ws number w y) → Beside ys told a.moved.writers
  along_all w was a = record {
    reached = a.moved.reached;
    each = λ i z at. by i z (set_new xs number i y z (sym (ap (λ us. slice_get us i) becomes.now) ∙ at)) at;
    told = λ op has. a.moved.logs op (b.told op has);
    logs =
        ap (map live_logged) becomes.now ∙ map-set live_logged xs number y ∙ ap (λ l. slice_set l number (live_logged y)) b.logs
        ∙ ap (slice_set (map logged_content ws) number) (log_same y a.z a.matches) ∙ sym (map-set logged_content ws number a.z) ∙ sym (ap (map logged_content) a.moved.now);
  }
    where
      Own : ℕ → LiveWriter → Type 0
      Own i z = (u : Writer) × (slice_get a.moved.writers i ≡ Some u) × Matches z u

      here : Own number y
      here = (a.z, a.moved.here, a.matches)

      by : (i : ℕ) (z : LiveWriter) → ((i ≡ number) × (z ≡ y)) ⊎ (slice_get xs i ≡ Some z) → slice_get ys i ≡ Some z → Own i z
      by i z (inl is) at = subst (λ k. Own k z) (sym is.0) (subst (Own number) (sym is.1) here)
      by i z (inr stays) at =
          let (u, there, fit) = b.each i z stays in
          elim (set_old ws number i w a.z u was there) [
            | inl same ↦
                let now : slice_get ys i ≡ Some y = ap (λ k. slice_get ys k) same.0 ∙ ap (λ us. slice_get us number) becomes.now ∙ set_here xs number x y becomes.was in
                let is : y ≡ z = same_Some y z (sym now ∙ at) in
                subst (λ k. Own k z) (sym same.0) (subst (Own number) is here)
            | inr other ↦ (u, ap (λ us. slice_get us i) a.moved.now ∙ other, fit)
          ]

-- writers of mg_files that go along, whose logs grew
record Follows (ys : List LiveWriter) (more : List Op) (ws : List Writer) : Type 0 where
  writers : List Writer
  beside : Beside ys more writers
  grown : IsWithin (all_logged ws) (all_logged writers)

as_told : (ys : List LiveWriter) (told more : List Op) (ws : List Writer) → more ≡ told → Beside ys told ws → Beside ys more ws
as_told ys told more ws is b = subst (λ ops. Beside ys ops ws) (sym is) b

module _ (xs ys : List LiveWriter) (told : List Op) (ws : List Writer) (number : ℕ) (x y : LiveWriter) (b : Beside xs told ws) (becomes : Becomes number xs x y ys) where
  moves : (more : List Op) → more ≡ told → ((w : Writer) → slice_get ws number ≡ Some w → Matches x w → Along ws number w y) → Follows ys more ws
  moves more is along =
      let (w, was, fit) = b.each number x becomes.was in
      let a = along w was fit in
      record { writers = a.moved.writers; beside = as_told ys told more a.moved.writers is (along_all xs ys told ws number x y b becomes w was a); grown = a.moved.grown }

act_follows : (act : LiveAct) (xs ys : List LiveWriter) (told more : List Op) (ws : List Writer) → Beside xs told ws → MayLive xs told act ys more → Follows ys more ws
act_follows (Starts number) xs ys told more ws b (x, m, t, becomes, none, starts, is) =
    moves xs ys told ws number x (at_moment t (Some m) x) b becomes more is (λ w was fit. starts_along ws number w x m t b.reached was fit starts)
act_follows (Takes number event) xs ys told more ws b (x, before, after, t, becomes, running, takes, is) =
    moves xs ys told ws number x (at_moment t (Some after) x) b becomes more is
    (λ w was fit.
    let go = takes_goes xs told event x before after t (session_at x w before fit running).stands takes in
    session_along ws number w b.reached was x go.0 before after t fit running (λ op has. shared_logged xs told ws op b (go.2 op has)) go.1)
act_follows (Stays number) xs ys told more ws b (x, before, after, becomes, running, same, is) =
    moves xs ys told ws number x (at_moment x.held (Some after) x) b becomes more is
    (λ w was fit.
    session_along ws number w b.reached was x [] before after x.held fit running (λ op has. absurd (Contains-nil op has))
    (stays_goes x before after (session_at x w before fit running).stands same))
act_follows (Dies number) xs ys told more ws b (x, becomes, is) =
    moves xs ys told ws number x (at_moment x.held None x) b becomes more is (λ w was fit. dies_along ws number w x b.reached was fit)
act_follows (Ends number) xs ys told more ws b (x, before, after, t, becomes, running, ops, ends, is) =
    let (w, was, fit) = b.each number x becomes.was in
    let beside = session_at x w before fit running in
    let y = at_moment t (Some after) x in
    let a = session_along ws number w b.reached was x [] before after t fit running (λ op has. absurd (Contains-nil op has)) (ends_goes x before after t ops beside.stands ends) in
    let l = ends.leads in
    let held = told_held before after ends.block x.held t l.told l.made l.leads beside.stands ends.kept l.calls l.adds in
    let name : live_name ends.block.written ≡ x.name =
    ap encode_utf8_all (written_name before after ends.block x.held t l.told l.made l.leads beside.stands ends.kept l.calls l.adds) ∙ beside.named in
    let all : Beside ys told a.moved.writers = along_all xs ys told ws number x y b becomes w was a in
    let in_log : (op : Op) → Contains ops op → IsInALog a.moved.writers op =
    λ op has. record {
      giver = a.z;
      among = contains_at a.moved.writers number a.z a.moved.here;
      saved = held.0;
      stands = subst (λ (f : Files). StandsFor (log_bytes f.log) held.0) (sym (own_is y a.z a.matches))
          (subst (λ n. StandsFor (log_bytes (t n).log) held.0) name held.1);
      holds = held.2 op (subst (λ xs. Contains xs op) ends.told has);
    } in
    record {
      writers = a.moved.writers;
      beside = record {
        reached = all.reached;
        each = all.each;
        told = λ op has. elim (Contains-append told ops op (subst (λ xs. Contains xs op) is has)) [
          | inl before ↦ all.told op before
          | inr now ↦ in_log op now
        ];
        logs = all.logs;
      };
      grown = a.moved.grown;
    }

acts_follow : (acts : List LiveAct) (xs ys : List LiveWriter) (told more : List Op) (ws : List Writer) → Beside xs told ws → MayLiveOn xs told acts ys more → Follows ys more ws
acts_follow [] xs ys told more ws b (same, is) = record {
  writers = ws;
  beside = as_told ys told more ws is (subst (λ us. Beside us told ws) (sym same) b);
  grown = within_itself (all_logged ws);
}
acts_follow (act ∷ acts) xs ys told more ws b (mid, ops, first, later) =
    let one = act_follows act xs mid told ops ws b first in
    let rest = acts_follow acts mid ys ops more one.writers one.beside later in
    record {
      writers = rest.writers;
      beside = rest.beside;
      grown = within_chain (all_logged ws) (all_logged one.writers) (all_logged rest.writers) one.grown rest.grown;
    }

-- ---- at first

abbrev new_writer : LiveWriter → Writer
new_writer x = writer (opened x.name x.replica x.limit (loaded nothing [] log_end.Whole)) x.held

new_fresh : (most : ℕ) (x : LiveWriter) → IsNew most x → IsFresh most (new_writer x)
new_fresh most x n = record { content = refl; unsaved = refl; waits = refl; log = n.log; limit = n.limit }

new_matches : (most : ℕ) (x : LiveWriter) → IsNew most x → Matches x (new_writer x)
new_matches most x n = record {
  name = refl;
  replica = refl;
  limit = refl;
  files = refl;
  session = subst (λ o. IfSome o (RunsBeside x (new_writer x))) (sym n.session) tt;
}

new_logs : (xs : List LiveWriter) → map live_logged xs ≡ map logged_content (map new_writer xs)
new_logs [] = refl
new_logs (x ∷ xs) = ap (λ l. live_logged x ∷ l) (new_logs xs)

new_numbers : (xs : List LiveWriter) → HaveOwnReplicas xs → HaveOwnNumbers (map new_writer xs)
new_numbers xs own = record {
  ranged = λ w m.
      let place = contains_place (map new_writer xs) w m in
      let (x, at, is) = mapped_place new_writer xs place.0 w place.1 in
      subst (λ (u : Writer). (1 ≤ own_replica u) × (own_replica u ≤ 65535)) (sym is) (own.ranged x (contains_at xs place.0 x at));
  apart = λ i j v w there those same.
      let (x, at, is) = mapped_place new_writer xs i v there in
      let (y, to, are) = mapped_place new_writer xs j w those in
      own.apart i j x y at to (sym (ap own_replica is) ∙ same ∙ ap own_replica are);
}

module _ (xs : List LiveWriter) (told : List Op) (a : AreLive xs told) where
  at_first : Beside a.first [] (map new_writer a.first)
  at_first = record {
    reached = record {
      first = map new_writer a.first;
      most = a.most;
      limited = a.limited;
      fresh = λ w m.
          let place = contains_place (map new_writer a.first) w m in
          let (x, at, is) = mapped_place new_writer a.first place.0 w place.1 in
          subst (IsFresh a.most) (sym is) (new_fresh a.most x (a.new x (contains_at a.first place.0 x at)));
      own = new_numbers a.first a.own;
      acts = [];
      lead = refl;
    };
    each = λ i x at. (new_writer x, place_mapped new_writer a.first i x at, new_matches a.most x (a.new x (contains_at a.first i x at)));
    told = λ op has. absurd (Contains-nil op has);
    logs = new_logs a.first;
  }

  beside_them : (ws : List Writer) × Beside xs told ws
  beside_them = let f = acts_follow a.acts a.first xs [] told (map new_writer a.first) at_first a.lead in (f.writers, f.beside)

  live_at : (ws : List Writer) → Beside xs told ws → (x : LiveWriter) → Contains xs x → (w : Writer) × Contains ws w × ((b : OpenState) → IsLiveBuffer x b → b ≡ w.buffer)
  live_at ws b x m =
      let place = contains_place xs x m in
      let (w, at, fit) = b.each place.0 x place.1 in
      (w, contains_at ws place.0 w at, λ d live. (session_at x w live.moment fit live.runs).is d live.there live.named)

  pub are_writers : (ws : List Writer) × AreReached ws × AreWriters xs ws × ((op : Op) → Contains told op → IsInALog ws op)
  are_writers =
      let (ws, b) = beside_them in (
        ws,
        b.reached,
        λ i x at.
            let (w, there, fit) = b.each i x at in (
              w,
              there,
              record {
                name = fit.name;
                replica = fit.replica;
                limit = fit.limit;
                files = fit.files;
                buffer = λ d live. (session_at x w live.moment fit live.runs).is d live.there live.named;
              },
            ),
        b.told,
      )

  pub told_logged : (op : Op) → Contains told op → IsLoggedByOne xs op
  told_logged op has = let (ws, b) = beside_them in logged_by_one xs told ws op b (b.told op has)

  pub shared_joins : (x : LiveWriter) (b : OpenState) (ops : List Op) (id : Identifier) → Contains xs x → IsLiveBuffer x b → ((op : Op) → Contains ops op → IsShared xs told op)
      → list_answer b.buffer.limit b.buffer.content ops ≡ Err (Conflict id) → ⊥
  shared_joins x b ops id m live shared h =
      let (ws, beside) = beside_them in
      let (w, there, is) = live_at ws beside x m in
      no_list_conflict ws w ops id beside.reached there (λ op has. shared_logged xs told ws op beside (shared op has))
      (subst (λ (d : OpenState). list_answer d.buffer.limit d.buffer.content ops ≡ Err (Conflict id)) (is b live) h)

  pub live_texts : (x y : LiveWriter) (b d : OpenState) → Contains xs x → Contains xs y → IsLiveBuffer x b → IsLiveBuffer y d
      → HaveSameIdentifiers b.buffer.content d.buffer.content → text b.buffer.content ≡ text d.buffer.content
  live_texts x y b d m n one two same =
      let (ws, beside) = beside_them in
      let (w, w_there, is) = live_at ws beside x m in
      let (v, v_there, are) = live_at ws beside y n in
      let b_is : b ≡ w.buffer = is b one in
      let d_is : d ≡ v.buffer = are d two in
      let ids : HaveSameIdentifiers w.buffer.buffer.content v.buffer.buffer.content =
      subst (λ (e : OpenState). HaveSameIdentifiers e.buffer.content v.buffer.buffer.content) b_is
      (subst (λ (e : OpenState). HaveSameIdentifiers b.buffer.content e.buffer.content) d_is same) in
      ap (λ (e : OpenState). text e.buffer.content) b_is ∙ one_text ws w v beside.reached w_there v_there ids ∙ sym (ap (λ (e : OpenState). text e.buffer.content) d_is)

  module _ (ys : List LiveWriter) (more : List Op) (acts : List LiveAct) (lead : MayLiveOn xs told acts ys more) where
    pub logs_grow : IsWithin (all_live_logged xs) (all_live_logged ys)
    logs_grow =
        let (ws, b) = beside_them in
        let f = acts_follow acts xs ys told more ws b lead in
        subst (λ c. IsWithin c (all_live_logged ys)) (sym (ap join_of b.logs)) (subst (IsWithin (all_logged ws)) (sym (ap join_of f.beside.logs)) f.grown)

    pub complete_for_good : (id : Identifier) → is_complete (all_live_logged xs) id ≡ true → is_complete (all_live_logged ys) id ≡ true
    complete_for_good id = complete_stays (all_live_logged xs) (all_live_logged ys) logs_grow id

    pub order_for_good : order (all_live_logged xs) ≡ filter (is_complete (all_live_logged xs)) (order (all_live_logged ys))
    order_for_good = order_within (all_live_logged xs) (all_live_logged ys) logs_grow
