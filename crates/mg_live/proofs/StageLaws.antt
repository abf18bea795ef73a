-- What stands of open buffers stands as they go on, and as more is made in them.
use Rattle.std.proofs.Common.{◌≡◌, ◌∙◌, ◌++◌, List, [], ◌∷◌, Some, refl, sym, ap, subst, ◌⊎◌, inl, inr, ℕ, Option, arith, ◌<◌, Bool, true, false, length, take, drop, None, append-nil}
use Rattle.std.specs.List.{Contains}
use Rattle.std.specs.Prelude.{encode_utf8_all, nat_eq}
use Rattle.std.proofs.lemmas.Bool.{eqb-true}
use Rattle.std.proofs.lemmas.List.{take-append-drop}
use Rattle.std.proofs.lemmas.List.Elements.{Contains-append_right, Contains-get_or}
use Rattle.rga_ops.specs.Content.{Content, IsWithin, Holds, join, content_of}
use Rattle.rga_ops.specs.declared.op.Op.{Op}
use Rattle.rga_ops.proofs.ContentLaws.{within_itself, within_chain, within_join, join_nothing}
use Rattle.rga_ops.proofs.TakenLaws.{held_stays}
use Rattle.mg_buffer.specs.OpenState.{OpenState}
use Rattle.mg_buffer.specs.Ran.{operations_of_splices}
use Rattle.mg_buffer.specs.State.{State}
use Rattle.mg_buffer.specs.Undid.{undo_operations}
use Rattle.mg_files.specs.Held.{Held, log_bytes}
use Rattle.mg_files.specs.Kept.{IsLoggedBy, IsBuffer}
use Rattle.mg_files.specs.Run.{BufferStep, Saves, Runs, Undoes, Takes, Rests, MayStep, MayGo}
use Rattle.mg_files.proofs.LogSteps.{joined_hold, held_within}
use Rattle.mg_editor.proofs.CourseLaws.{save_keeps}
use Rattle.rga_ops.proofs.OperationLaws.{Contains-append}
use Rattle.rga_exchange.specs.Sending.{StandsFor}
use Rattle.mg_files.specs.Files.{Files}
use Rattle.mg_files.proofs.OpenSteps.{opened_name}
use Rattle.mg_workspace.specs.Buffers.{Buffers, buffer_at, no_buffer}
use Rattle.mg_workspace.specs.Workspaces.{Workspace}
use Rattle.mg_editor.specs.Holding.{AreLogged, GoesOn, HaveOwnNames, IsOpen, IsOpenedBy}
use Rattle.mg_editor.proofs.LoggedLaws.{stays_logged}
use Rattle.mg_editor.specs.Editors.{Editor}
use Rattle.mg_live.specs.Standing.{AreHeld, AreInLog, AreKept, AreSafe}
use Rattle.mg_live.proofs.NameLaws.{same_buffer, AreNamed, found_so}
use Rattle.mg_live.specs.Keys.{with_opened}
use Rattle.mg_live.specs.Made.{is_live, live_index, made_at, opened_operations, unsaved_at, with_made}
use Rattle.mg_live.specs.States.{Live}
use Rattle.mg_live.proofs.ShapeLaws.{SameNames}

-- ---- a buffer that steps lead to has what it had

pub record Grows (b d : OpenState) : Type 0 where
  pub name : d.buffer.name ≡ b.buffer.name
  pub within : IsWithin b.buffer.content d.buffer.content

joins : (b d : OpenState) (c : Content) → d.buffer.name ≡ b.buffer.name → d.buffer.content ≡ join b.buffer.content c → Grows b d
joins b d c name content = record { name = name; within = subst (IsWithin b.buffer.content) (sym content) (within_join b.buffer.content c) }

stays : (b d : OpenState) → d.buffer.name ≡ b.buffer.name → d.buffer.content ≡ b.buffer.content → Grows b d
stays b d name content = record { name = name; within = subst (IsWithin b.buffer.content) (sym content) (within_itself b.buffer.content) }

step_grows : (step : BufferStep) (b d : OpenState) (s t : Held) → MayStep step b s d t → Grows b d
step_grows (Saves answer) b d s t m = let k = save_keeps answer (Some m.before) (Some (m.before ++ m.made)) b d m.saves in stays b d k.name k.content
step_grows (Runs call old new) b d s t (alone, ran) =
    joins b d (content_of (operations_of_splices b.buffer ran.plan.splices)) ran.edited.name ran.edited.content
step_grows (Undoes old new) b d s t (alone, u) = joins b d (content_of (undo_operations b.buffer u.undid.group)) u.undid.reverted.name u.undid.reverted.content
step_grows (Takes ops) b d s t (alone, takes) = joins b d (content_of ops) (ap (λ (x : State). x.name) takes.follows.rest) takes.follows.content
step_grows Rests b d s t (alone, kept) = stays b d kept.name kept.content

pub steps_grow : (steps : List BufferStep) (b d : OpenState) (s t : Held) → MayGo steps b s d t → Grows b d
steps_grow [] b d s t (is, here) = subst (Grows b) (sym is) (stays b b refl refl)
steps_grow (step ∷ steps) b d s t (c, u, first, later) =
    let one = step_grows step b c s u first in
    let two = steps_grow steps c d u t later in
    record { name = two.name ∙ one.name; within = within_chain b.buffer.content c.buffer.content d.buffer.content one.within two.within }

-- what a content has, a greater one has
pub held_longer : (ops : List Op) (c d : Content) → IsWithin c d → AreHeld ops c → AreHeld ops d
held_longer ops c d within held op has = held_stays c d op within (held op has)

-- a buffer has what is unsaved in it
pub unsaved_held : (b : OpenState) (log : _) → IsLoggedBy b log → AreHeld b.buffer.unsaved b.buffer.content
unsaved_held b log l op has = subst (λ c. Holds c op) (sym l.logged.content) (joined_hold l.held b.buffer.unsaved l.logged.joinable op has)

-- ---- open buffers that go on

pub is_buffer : (bs : Buffers) → AreKept bs → (d : OpenState) → Contains bs.all d → IsBuffer d
is_buffer bs kept d c = record { sound = kept.sound d c; writable = kept.are.writable d c; fits = kept.are.fits d c }

same_content : (bytes : List ℕ) (c d : Content) → StandsFor bytes c → StandsFor bytes d → c ≡ d
same_content bytes c d one two = one.content ∙ sym two.content

-- the name of a buffer that was opened
pub opened_as : (name : List ℕ) (v : Workspace) (s t : Held) (d : OpenState) → IsOpenedBy name v s d t → d.buffer.name ≡ name
opened_as name v s t d o = ap (λ (b : OpenState). b.buffer.name) o.is ∙ opened_name name v.replica v.limit o.found o.loaded o.end o.outcome

pub in_same_log : (ops : List Op) (a b : Option (List ℕ)) → b ≡ a → AreInLog ops a → AreInLog ops b
in_same_log ops a b is held = subst (AreInLog ops) (sym is) held

-- a buffer was open before, and steps lead to it; or it was opened, and no buffer of that name was open
abbrev pub Comes : List ℕ → Workspace → Held → OpenState → Held → Type 0
Comes name old s d t =
    ((taken : List Op) × GoesOn taken old.buffers s d t)
    ⊎ ((n : List ℕ) × IsOpenedBy n old s d t × (n ≡ name → IsOpen name old.buffers → ⊥))

-- How each open buffer came to be; that one of that name had nothing unsaved, if it is gone; and that its log stays, if none was open.
pub record GoOn (name : List ℕ) (old new : Workspace) (s t : Held) : Type 0 where
  pub each : (d : OpenState) → Contains new.buffers.all d → Comes name old s d t
  pub removed : (b : OpenState) → Contains old.buffers.all b → b.buffer.name ≡ name → (IsOpen name new.buffers → ⊥) → (b.buffer.unsaved ≡ []) × (t name ≡ s name)
  pub spared : (IsOpen name old.buffers → ⊥) → t name ≡ s name

module _ (name : List ℕ) (old new : Workspace) (s t : Held) (kept : AreKept new.buffers) (go : GoOn name old new s t) where
  pub still_logged : AreLogged old.buffers s → AreLogged new.buffers t
  still_logged logged d c = by (go.each d c)
    where
      by : Comes name old s d t → IsLoggedBy d (t d.buffer.name).log
      by (inl (taken, goes)) = stays_logged taken [] old s t d logged (inl goes) (is_buffer new.buffers kept d c)
      by (inr (n, opened, none)) = stays_logged [] n old s t d logged (inr opened) (is_buffer new.buffers kept d c)

  module _ (ops : List Op) (logged : AreLogged old.buffers s) (safe : AreSafe name ops old.buffers s) where
    still_there : (d : OpenState) → Contains new.buffers.all d → d.buffer.name ≡ name → Comes name old s d t → AreHeld ops d.buffer.content
    still_there d c is (inl (taken, goes)) =
        let grown = steps_grow goes.steps goes.b d s t goes.goes in
        held_longer ops goes.b.buffer.content d.buffer.content grown.within (safe.open_buffer goes.b goes.was (sym grown.name ∙ is))
    still_there d c is (inr (n, o, none)) =
        let named : d.buffer.name ≡ n = opened_as n old s t d o in
        let at : n ≡ name = sym named ∙ is in
        let before : AreInLog ops (s n).log = subst (λ m. AreInLog ops (s m).log) (sym at) (safe.closed (none at)) in
        let held : AreInLog ops (t d.buffer.name).log =
        in_same_log ops (s n).log (t d.buffer.name).log (ap (λ m. (t m).log) named ∙ ap (λ (f : Files). f.log) o.held) before in
        let l = still_logged logged d c in
        let same : held.0 ≡ l.held = same_content (log_bytes (t d.buffer.name).log) held.0 l.held held.1 l.logged.stands in
        let within : IsWithin held.0 d.buffer.content =
        subst (λ x. IsWithin x d.buffer.content) (sym same) (held_within l.held d (t d.buffer.name).log l.logged) in
        held_longer ops held.0 d.buffer.content within held.2

    -- nothing unsaved: the log has all
    all_in_log : (b : OpenState) → Contains old.buffers.all b → b.buffer.name ≡ name → b.buffer.unsaved ≡ [] → AreInLog ops (s name).log
    all_in_log b c is none =
        let l = logged b c in
        let content : b.buffer.content ≡ l.held = l.logged.content ∙ ap (λ (xs : List Op). join l.held (content_of xs)) none ∙ join_nothing l.held in
        let here : AreHeld ops l.held = subst (AreHeld ops) content (safe.open_buffer b c is) in
        subst (λ n. AreInLog ops (s n).log) is (l.held, l.logged.stands, here)

    gone : IsOpen name old.buffers ⊎ (IsOpen name old.buffers → ⊥) → (IsOpen name new.buffers → ⊥) → AreInLog ops (t name).log
    gone (inl (b, c, is)) none =
        let r = go.removed b c is none in
        in_same_log ops (s name).log (t name).log (ap (λ (f : Files). f.log) r.1) (all_in_log b c is r.0)
    gone (inr closed) none = in_same_log ops (s name).log (t name).log (ap (λ (f : Files). f.log) (go.spared closed)) (safe.closed closed)

    pub still_safe : IsOpen name old.buffers ⊎ (IsOpen name old.buffers → ⊥) → AreSafe name ops new.buffers t
    still_safe open_or_not = record { open_buffer = λ d c is. still_there d c is (go.each d c); closed = gone open_or_not }

-- more that the open buffer of that name has
pub safe_more : (name : List ℕ) (ops made : List Op) (bs : Buffers) (s : Held) (x : OpenState) → HaveOwnNames bs → Contains bs.all x → x.buffer.name ≡ name
    → AreHeld made x.buffer.content → AreSafe name ops bs s → AreSafe name (ops ++ made) bs s
safe_more name ops made bs s x own there is held safe = record {
  open_buffer = λ d c named op has. by d c named op (Contains-append ops made op has);
  closed = λ none. absurd (none (x, there, is));
}
  where
    by : (d : OpenState) → Contains bs.all d → d.buffer.name ≡ name → (op : Op) → Contains ops op ⊎ Contains made op → Holds d.buffer.content op
    by d c named op (inl has) = safe.open_buffer d c named op has
    by d c named op (inr has) = subst (λ (b : OpenState). Holds b.buffer.content op) (same_buffer bs x d own there c (is ∙ sym named)) (held op has)

-- ---- what is made in them

among : (n : ℕ) (ops : List Op) (op : Op) → Contains (drop n ops) op → Contains ops op
among n ops op has = subst (λ l. Contains l op) (take-append-drop n ops) (Contains-append_right (take n ops) (drop n ops) op has)

opened_is : (name : List ℕ) (old e : Editor) (i : ℕ) → live_index name old ≡ None → live_index name e ≡ Some i → opened_operations name old e ≡ unsaved_at i e
opened_is name old e i was now = grind arith

module _ (name : List ℕ) (s : Held) (e : Editor) (own : HaveOwnNames e.work.buffers) (named : AreNamed e.work.buffers) (logged : AreLogged e.work.buffers s) where
  abbrev IsSafe : List Op → Type 0
  IsSafe ops = AreSafe (encode_utf8_all name) ops e.work.buffers s

  -- some of what is unsaved in the buffer at an index, which has the name
  safe_with : (i : ℕ) (untold made : List Op) → i < length e.work.buffers.all → (buffer_at i e.work.buffers).buffer.name ≡ encode_utf8_all name
      → ((op : Op) → Contains made op → Contains (unsaved_at i e) op) → IsSafe untold → IsSafe (untold ++ made)
  safe_with i untold made lt is some safe =
      let x = buffer_at i e.work.buffers in
      let there = Contains-get_or e.work.buffers.all i no_buffer lt in
      let held : AreHeld made x.buffer.content = λ op has. unsaved_held x (s x.buffer.name).log (logged x there) op (some op has) in
      safe_more (encode_utf8_all name) untold made e.work.buffers s x own there is held safe

  -- what was made at an index, which was that of the live buffer
  made_there : (old : Editor) (i : ℕ) (untold : List Op) → AreNamed old.work.buffers → live_index name old ≡ Some i
      → (length e.work.buffers.all ≡ length old.work.buffers.all → SameNames old.work e.work) → IsSafe untold → IsSafe (untold ++ made_at i old e)
  made_there old i untold texts at same safe = by (nat_eq (length e.work.buffers.all) (length old.work.buffers.all)) refl
    where
      by : (as_many : Bool) → nat_eq (length e.work.buffers.all) (length old.work.buffers.all) ≡ as_many → IsSafe (untold ++ made_at i old e)
      by false other = rw other (subst IsSafe (sym (append-nil untold)) safe)
      by true is =
          let count = eqb-true (length e.work.buffers.all) (length old.work.buffers.all) is in
          let f = found_so name old.work.buffers i texts at in
          let names = same count in
          rw is
          (safe_with i untold (drop (length (unsaved_at i old)) (unsaved_at i e)) (subst (λ n. i < n) (sym count) f.within) (names.names i ∙ f.named)
          (among (length (unsaved_at i old)) (unsaved_at i e)) safe)

  pub made_safe : (told noted : Bool) (old : Editor) (i : ℕ) (live : Live) → AreNamed old.work.buffers → (told ≡ true → live_index name old ≡ Some i)
      → (length e.work.buffers.all ≡ length old.work.buffers.all → SameNames old.work e.work) → IsSafe live.telling.untold
      → IsSafe (with_made told noted (made_at i old e) live).telling.untold
  made_safe true true old i live texts at same safe = made_there old i live.telling.untold texts (at refl) same safe
  made_safe true false old i live texts at same safe = safe
  made_safe false noted old i live texts at same safe = safe

  -- what the load of the live buffer made is noted
  pub opened_safe : (noted : Bool) (old : Editor) (live : Live) → live.name ≡ name → IsSafe live.telling.untold → IsSafe (with_opened noted old e live).telling.untold
  opened_safe noted old live is safe = by (live_index live.name old) (live_index live.name e) refl refl
    where
      by : (was now : Option ℕ) → live_index live.name old ≡ was → live_index live.name e ≡ now → IsSafe (with_opened noted old e live).telling.untold
      by (Some k) now at to = rw at safe
      by None None at to = rw (at, to) safe
      by None (Some i) at to = by_memory noted
        where
          by_memory : (noted : Bool) → IsSafe (with_opened noted old e live).telling.untold
          by_memory false = rw (at, to) safe
          by_memory true =
              let f = found_so name e.work.buffers i named (subst (λ n. live_index n e ≡ Some i) is to) in
              rw (at, to)
              (subst (λ (ops : List Op). IsSafe (live.telling.untold ++ ops)) (sym (opened_is live.name old e i at to))
              (safe_with i live.telling.untold (unsaved_at i e) f.within f.named (λ op has. has) safe))

-- the live buffer is at that index
pub live_there : (name : List ℕ) (i : ℕ) (e : Editor) → is_live name i e ≡ true → live_index name e ≡ Some i
live_there name i e is = grind (arith, eqb-true)

pub opened_keeps_name : (noted : Bool) (old e : Editor) (live : Live) → (with_opened noted old e live).name ≡ live.name
opened_keeps_name noted old e live = grind arith
