-- What a session opens with, and that it stands at its start.
use Rattle.std.proofs.Common.{◌≡◌, ◌<◌, arith, [], append-nil, Result, Ok, Err, length, is_ok, refl, sym, ap, subst, true≢false, inl, inr, ◌∙◌, ◌++◌, zero, Bool, true, false, List, ◌∷◌, get_or, Some}
use Rattle.std.specs.Prelude.{encode_utf8_all, chars}
use Rattle.std.specs.List.{Contains}
use Rattle.std.specs.Str.{is_utf8}
use Rattle.std.proofs.lemmas.List.Elements.{Contains-push_cases}
use Rattle.std.proofs.lemmas.Str.{IsUtf8-from_is_utf8, encodes-chars, scalars-chars}
use Rattle.mg_files.specs.Calls.{Adds, Call, found_call}
use Rattle.mg_files.specs.Files.{Files}
use Rattle.mg_files.specs.Loading.{load_outcome}
use Rattle.mg_files.specs.declared.fault.LoadFault.{LoadFault}
use Rattle.mg_editor.specs.Editors.{Editor}
use Rattle.mg_editor.specs.Opening.{opened_editor}
use Rattle.mg_session.specs.Moments.{ToldCalls}
use Rattle.mg_session.specs.Opening.{LoadsTo}
use Rattle.mg_screen.specs.Settings.{Values}
use Rattle.rga_ops.specs.declared.op.Op.{Op}
use Rattle.rga_ops.proofs.OperationLaws.{Contains-nil}
use Rattle.rga_exchange.specs.declared.log.LogEnd.{LogEnd}
use Rattle.mg_buffer.specs.OpenState.{OpenState, with_brief, with_runs}
use Rattle.mg_files.specs.Held.{Held, MayLead}
use Rattle.mg_files.specs.Kept.{IsBuffer, IsLoggedBy}
use Rattle.mg_files.proofs.OpenSteps.{opened_kept, opened_name}
use Rattle.mg_files.proofs.ChangeSteps.{made_are}
use Rattle.mg_workspace.specs.Buffers.{no_buffer}
use Rattle.mg_workspace.specs.Opening.{workspace}
use Rattle.mg_workspace.specs.Workspaces.{Workspace}
use Rattle.mg_editor.specs.Holding.{AreLogged, HaveOwnNames, IsOpenedBy}
use Rattle.mg_editor.proofs.NamesLaws.{one_own}
use Rattle.mg_live.specs.Made.{unsaved_at}
use Rattle.mg_live.specs.Running.{live_at_start}
use Rattle.mg_live.specs.Standing.{AreHeld, AreKept, AreSafe, Stands}
use Rattle.mg_live.specs.States.{Live, Moment}
use Rattle.mg_live.proofs.StageLaws.{unsaved_held}

-- a port that was not called
pub adds_nothing : (calls : ToldCalls) → Adds calls calls []
adds_nothing calls = grind (arith, append-nil)

abbrev Outcome : Type 0
Outcome = Result (OpenState × LogEnd) LoadFault

pub record Opens (v : Values) (found : Files) (first : Editor) : Type 0 where
  pub loaded : OpenState
  pub end : LogEnd
  pub outcome : load_outcome v.name v.replica v.limit found ≡ Ok (loaded, end)
  pub work : first.work ≡ workspace v loaded

abbrev work_of : Workspace → Result Editor LoadFault → Workspace
work_of w (Ok e) = e.work
work_of w (Err fault) = w

opened_by : (v : Values) (found : Files) (first : Editor) (o : Outcome) → load_outcome v.name v.replica v.limit found ≡ o → opened_editor v found ≡ Ok first
    → Opens v found first
opened_by v found first (Ok (loaded, end)) outcome is = record {
  loaded = loaded;
  end = end;
  outcome = outcome;
  work = sym (ap (work_of first.work) (rw (outcome, opened_editor) at is));
}
opened_by v found first (Err fault) outcome is = absurd (true≢false (sym (ap is_ok (rw (outcome, opened_editor) at is))))

opened_so : (v : Values) (found : Files) (first : Editor) → opened_editor v found ≡ Ok first → Opens v found first
opened_so v found first is = opened_by v found first (load_outcome v.name v.replica v.limit found) refl is

-- a buffer is open
pub one_open : (v : Values) (calls told : ToldCalls) (first : Editor) → LoadsTo v calls told (Ok first) → 0 < length first.work.buffers.all
one_open v calls told first (found, adds, opens) =
    subst (λ (w : Workspace). 0 < length w.buffers.all) (sym (opened_so v found first opens).work) (omega arith)

-- one of one
only : (x d : OpenState) → Contains (x ∷ []) d → d ≡ x
only x d c = elim (Contains-push_cases [] x d c) [
  | inl none ↦ absurd (omega (arith, none.1))
  | inr is ↦ sym is
]

module _ (v : Values) (noted : Bool) (first : Editor) (found : Files) (before made : List Call) (s t : Held) (adds : Adds (Some before) (Some (before ++ made)) (found_call v.name found ∷ [])) (opens : Opens v found first) (leads : MayLead made s t) (kept : AreKept first.work.buffers) where
  abbrev buffer : OpenState
  buffer = with_brief v.brief (with_runs v.runs opens.loaded)

  all : first.work.buffers.all ≡ buffer ∷ []
  all = ap (λ (w : Workspace). w.buffers.all) opens.work

  there : Contains first.work.buffers.all buffer
  there = subst (λ (l : List OpenState). Contains l buffer) (sym all) (zero, omega arith, refl)

  named : buffer.buffer.name ≡ v.name
  named = opened_name v.name v.replica v.limit found opens.loaded opens.end opens.outcome

  text : is_utf8 v.name ≡ true
  text = subst (λ n. is_utf8 n ≡ true) named (kept.named buffer there)

  pub spelled : encode_utf8_all (chars v.name) ≡ v.name
  spelled = encodes-chars v.name (IsUtf8-from_is_utf8 v.name text)

  led : MayLead (found_call v.name found ∷ []) s t
  led = subst (λ l. MayLead l s t) (made_are before made (found_call v.name found ∷ []) adds) leads

  -- what is held stays
  log_is : found.log ≡ (t buffer.buffer.name).log
  log_is =
      led.1.found.log ∙ sym (ap (λ (f : Files). f.log) (led.2 v.name ∙ led.1.here)) ∙ ap (λ n. (t n).log) (sym named)

  logged_so : IsLoggedBy buffer (t buffer.buffer.name).log
  logged_so =
      let is : IsBuffer opens.loaded = record { sound = kept.sound buffer there; writable = kept.are.writable buffer there; fits = kept.are.fits buffer there } in
      subst (IsLoggedBy buffer) log_is (opened_kept v.name v.replica v.limit found opens.loaded opens.end v.runs v.brief opens.outcome is)

  each_logged : AreLogged first.work.buffers t
  each_logged d c =
      let is : d ≡ buffer = only buffer d (subst (λ (l : List OpenState). Contains l d) all c) in
      subst (λ (x : OpenState). IsLoggedBy x (t x.buffer.name).log) (sym is) logged_so

  own : HaveOwnNames first.work.buffers
  own = subst (λ (w : Workspace). HaveOwnNames w.buffers) (sym opens.work) (one_own v opens.loaded)

  untold_safe : (noted : Bool) → AreSafe (encode_utf8_all (chars v.name)) (live_at_start noted v first).telling.untold first.work.buffers t
  untold_safe noted = record {
    open_buffer = λ d c is. by noted d c;
    closed = λ none. absurd (none (buffer, there, named ∙ sym spelled));
  }
    where
      at : unsaved_at 0 first ≡ buffer.buffer.unsaved
      at = ap (λ (w : Workspace). (get_or w.buffers.all 0 no_buffer).buffer.unsaved) opens.work

      by : (noted : Bool) (d : OpenState) → Contains first.work.buffers.all d → AreHeld (live_at_start noted v first).telling.untold d.buffer.content
      by true d c =
          let is : d ≡ buffer = only buffer d (subst (λ (l : List OpenState). Contains l d) all c) in
          subst (λ (x : OpenState). AreHeld (unsaved_at 0 first) x.buffer.content) (sym is)
          (subst (λ (xs : List Op). AreHeld xs buffer.buffer.content) (sym at) (unsaved_held buffer (t buffer.buffer.name).log logged_so))
      by false d c = λ op has. absurd (Contains-nil op has)

  pub start_opened : (d : OpenState) → Contains first.work.buffers.all d → IsOpenedBy v.name first.work s d t
  start_opened d c =
      let opened : IsOpenedBy v.name (workspace v opens.loaded) s d t = record {
        found = found;
        answers = led.1.found;
        loaded = opens.loaded;
        end = opens.end;
        outcome = opens.outcome;
        is = only buffer d (subst (λ (l : List OpenState). Contains l d) all c);
        held = led.2 v.name ∙ led.1.here;
      } in
      subst (λ (w : Workspace). IsOpenedBy v.name w s d t) (sym opens.work) opened

  start_so : (m : Moment) → m.editor ≡ first → m.live ≡ live_at_start noted v first → Stands t m
  start_so m editor live =
      let at : Stands t (record m { editor = first; live = live_at_start noted v first }) = record {
        kept = kept;
        own = own;
        logged = each_logged;
        spelled = scalars-chars v.name (IsUtf8-from_is_utf8 v.name text);
        untold = untold_safe noted;
      } in
      subst (λ (e : Editor). Stands t (record m { editor = e })) (sym editor) (subst (λ (l : Live). Stands t (record m { editor = first; live = l })) (sym live) at)

pub start_stands : (v : Values) (noted : Bool) (first : Editor) (before made : List Call) (s t : Held) (m : Moment) → LoadsTo v (Some before) (Some (before ++ made)) (Ok first)
    → MayLead made s t → AreKept first.work.buffers → m.editor ≡ first → m.live ≡ live_at_start noted v first → Stands t m
start_stands v noted first before made s t m (found, adds, opens) leads kept =
    start_so v noted first found before made s t adds (opened_so v found first opens) leads kept m

pub opened_at_start : (v : Values) (first : Editor) (before made : List Call) (s t : Held) → LoadsTo v (Some before) (Some (before ++ made)) (Ok first)
    → MayLead made s t → AreKept first.work.buffers → (d : OpenState) → Contains first.work.buffers.all d → IsOpenedBy v.name first.work s d t
opened_at_start v first before made s t (found, adds, is) leads kept =
    start_opened v true first found before made s t adds (opened_so v found first is) leads kept

-- the numbers are those of the settings
pub numbers_at_start : (v : Values) (first : Editor) (before made : List Call) → LoadsTo v (Some before) (Some (before ++ made)) (Ok first)
    → (first.work.replica ≡ v.replica) × (first.work.limit ≡ v.limit)
numbers_at_start v first before made (found, adds, is) =
    let o = opened_so v found first is in
    (ap (λ (w : Workspace). w.replica) o.work, ap (λ (w : Workspace). w.limit) o.work)

pub name_at_start : (v : Values) (first : Editor) (before made : List Call) (s t : Held) → LoadsTo v (Some before) (Some (before ++ made)) (Ok first)
    → MayLead made s t → AreKept first.work.buffers → encode_utf8_all (chars v.name) ≡ v.name
name_at_start v first before made s t (found, adds, is) leads kept = spelled v true first found before made s t adds (opened_so v found first is) leads kept
