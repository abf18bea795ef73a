-- A session stands after an event, and each open buffer came by steps.
use Rattle.std.proofs.Common.{◌≡◌, ◌⊎◌, inl, inr, ◌∙◌, ◌++◌, ℕ, true, List, [], ◌∷◌, Option, Some, None, refl, sym, ap, subst}
use Rattle.std.specs.Prelude.{encode_utf8_all}
use Rattle.std.specs.List.{Contains}
use Rattle.std.specs.Str.{all_scalars}
use Rattle.rga_ops.specs.declared.op.Op.{Op}
use Rattle.mg_buffer.specs.OpenState.{OpenState}
use Rattle.mg_files.specs.Calls.{Call}
use Rattle.mg_files.specs.Held.{Held, MayLead}
use Rattle.mg_files.specs.Kept.{IsWritableWhole}
use Rattle.mg_files.specs.Run.{BufferStep, Rests, ChangesAlone, KeepsOperations, MayGo, Takes, TakesOnly}
use Rattle.mg_events.specs.Reading.{Told, key, report, refused}
use Rattle.mg_minibuffer.specs.declared.ending.Request.TheVariants.{Find}
use Rattle.mg_session.specs.Keys.{request_of, said}
use Rattle.mg_session.specs.declared.course.Course.TheVariants.{On}
use Rattle.mg_files.specs.Asking.{Role}
use Rattle.mg_workspace.specs.Buffers.{Buffers}
use Rattle.mg_workspace.specs.Workspaces.{Workspace}
use Rattle.mg_editor.specs.Editors.{Editor}
use Rattle.mg_editor.specs.Holding.{GoesOn, HaveOwnNames, IsOpen, IsOpenedBy}
use Rattle.mg_editor.specs.Meeting.{role_of}
use Rattle.mg_editor.proofs.EachLaws.{nothing_made, stay_here}
use Rattle.mg_editor.proofs.HoldingLaws.{pressed_on}
use Rattle.mg_editor.proofs.RequestLaws as requests
use Rattle.mg_live.specs.Keys.{TakesKey}
use Rattle.rga_lines.specs.declared.fault.LineFault.{LineFault}
use Rattle.mg_live.specs.Reports.{TakesLine, RefusesLine, counted}
use Rattle.mg_live.specs.Running.{Noted, TakesEvent}
use Rattle.mg_live.specs.Standing.{AreKept, AreKeptWithin, ComesBy, Stands, live_name, operations_at}
use Rattle.mg_live.specs.States.{Live, Moment}
use Rattle.mg_live.specs.declared.fault.ReportFault.TheVariants.{Line}
use Rattle.mg_live.proofs.BlockLaws.{Goes, Same, as_before}
use Rattle.mg_live.proofs.KeyLaws.{asking_stands, carried, meets, key_stands, key_name, noted_stands, request_goes_on, stands_at, stands_so}
use Rattle.mg_live.proofs.NameLaws.{open_or_not}
use Rattle.mg_live.proofs.ShapeLaws.{KeepsNumbers, carry_numbers, numbers_as, numbers_on, press_numbers, same_numbers}
use Rattle.mg_live.proofs.TakenKeyLaws.{said_work}
use Rattle.mg_live.proofs.ReachLaws.{refused_told}
use Rattle.mg_live.proofs.ReportLaws.{Came, line_came}
use Rattle.mg_live.proofs.ToldLaws.{notes_so}

-- ---- steps after steps

takes_both : (ops : List Op) (xs ys : List BufferStep) → TakesOnly ops xs → TakesOnly ops ys → TakesOnly ops (xs ++ ys)
takes_both ops [] ys one two = two
takes_both ops (Takes zs ∷ steps) ys one two = (one.0, takes_both ops steps ys one.1 two)
takes_both ops (step ∷ steps) ys one two = takes_both ops steps ys one two

-- a buffer that rested between
goes_both : (xs ys : List BufferStep) (b c d : OpenState) (r s t : Held) → IsWritableWhole c.buffer.content → MayGo xs b r c s → MayGo ys c s d t
    → MayGo (xs ++ Rests ∷ ys) b r d t
goes_both [] ys b c d r s t writable (is, here) later =
    let alone : ChangesAlone b b r s = record { rest = refl; writable = subst (λ (x : OpenState). IsWritableWhole x.buffer.content) is writable; held = here } in
    let keeps : KeepsOperations b.buffer b.buffer = record { name = refl; content = refl; unsaved = refl; limit = refl; replica = refl } in
    (b, s, (alone, keeps), subst (λ (x : OpenState). MayGo ys x s d t) is later)
goes_both (step ∷ xs) ys b c d r s t writable (o, v, first, more) later = (o, v, first, goes_both xs ys o c d v s t writable more later)

on_from : (ops : List Op) (bs mid : Buffers) (s t : Held) (d : OpenState) → ((c : OpenState) → Contains mid.all c → IsWritableWhole c.buffer.content)
    → ((c : OpenState) → Contains mid.all c → GoesOn ops bs s c s) → GoesOn ops mid s d t → GoesOn ops bs s d t
on_from ops bs mid s t d writable press go =
    let one = press go.b go.was in
    record {
      b = one.b;
      was = one.was;
      steps = one.steps ++ Rests ∷ go.steps;
      takes = takes_both ops one.steps (Rests ∷ go.steps) one.takes go.takes;
      goes = goes_both one.steps go.steps one.b go.b d s s t (writable go.b go.was) one.goes go.goes;
    }

-- ---- how the text changed is noted beside

noted_editor : (taken after : Moment) → Noted taken after → after.editor ≡ taken.editor
noted_editor taken after (notes, same) = ap (λ (m : Moment). m.editor) same

noted_calls : (taken after : Moment) → Noted taken after → after.calls ≡ taken.calls
noted_calls taken after (notes, same) = ap (λ (m : Moment). m.calls) same

noted_name : (taken after : Moment) → Noted taken after → after.live.name ≡ taken.live.name
noted_name taken after (notes, same) = ap (λ (l : Live). l.name) (notes_so taken.editor taken.course taken.live after.live after.course notes).0

-- ---- a key

module _ (byte : ℕ) (before taken : Moment) (k : TakesKey byte before taken) (s t : Held) (told made : List Call) (stands : Stands s before) (now : AreKept k.pressed.work.buffers) (calls : before.calls ≡ Some told) (adds : taken.calls ≡ Some (told ++ made)) (leads : MayLead made s t) (later : AreKept taken.editor.work.buffers) (spelled : (n : List ℕ) → request_of k.answer ≡ Find n → all_scalars n ≡ true) where
  abbrev from : Editor
  from = said k.answer k.pressed

  from_work : from.work ≡ k.pressed.work
  from_work = said_work k.answer k.pressed

  from_kept : AreKept from.work.buffers
  from_kept = (asking_stands byte before taken k s stands now).kept

  from_own : HaveOwnNames from.work.buffers
  from_own = (asking_stands byte before taken k s stands now).own

  press : (ops : List Op) (c : OpenState) → Contains from.work.buffers.all c → GoesOn ops before.editor.work.buffers s c s
  press ops c there =
      pressed_on ops s byte before.editor k.pressed k.answer stands.kept.are now.are k.presses c (subst (λ (w : Workspace). Contains w.buffers.all c) from_work there)

  further : (ops : List Op) (d : OpenState) → GoesOn ops from.work.buffers s d t → GoesOn ops before.editor.work.buffers s d t
  further ops d go = on_from ops before.editor.work.buffers from.work.buffers s t d from_kept.are.writable (press ops) go

  key_numbers : KeepsNumbers before.editor.work taken.editor.work
  key_numbers =
      numbers_on before.editor.work k.pressed.work taken.editor.work (press_numbers byte before.editor k.pressed k.answer k.presses)
      (numbers_on k.pressed.work from.work taken.editor.work (same_numbers k.pressed.work from.work from_work)
      (carry_numbers (request_of k.answer) before.calls taken.calls from taken.editor k.carry_answer k.carried))

  key_each : (d : OpenState) → Contains taken.editor.work.buffers.all d
      → ((ops : List Op) × (role_of (request_of k.answer) ≡ None → ops ≡ []) × GoesOn ops before.editor.work.buffers s d t)
      ⊎ ((name : List ℕ) × IsOpenedBy name k.pressed.work s d t)
  key_each d c = by (role_of (request_of k.answer)) refl
    where
      by : (role : Option Role) → role_of (request_of k.answer) ≡ role
          → ((ops : List Op) × (role_of (request_of k.answer) ≡ None → ops ≡ []) × GoesOn ops before.editor.work.buffers s d t)
          ⊎ ((name : List ℕ) × IsOpenedBy name k.pressed.work s d t)
      by None alone =
          elim (requests.request_goes (request_of k.answer) told made from taken.editor k.carry_answer s t alone from_kept.are from_own
          (carried byte before taken k s stands now t told made calls adds leads later spelled) leads d c) [
            | inl go ↦ inl ([], (λ _. refl), further [] d go)
            | inr (n, is, opened) ↦ inr (encode_utf8_all n, subst (λ (w : Workspace). IsOpenedBy (encode_utf8_all n) w s d t) from_work opened)
          ]
      by (Some role) is =
          let so = meets byte before taken k s stands now t told made calls adds leads later spelled role is told made s t from_kept.are from_own later.are refl refl leads in
          inl (so.ops, (λ none. absurd (clash role (sym is ∙ none))), further so.ops d (so.go_on d c))
        where
          clash : (role : Role) → Some role ≡ None → ⊥
          clash role same = absurd cc

  pub key_goes : (after : Moment) (noted : Noted taken after) → Goes before after s t (λ d. ComesBy (key byte) before after (taken, k, noted) s d t)
  key_goes after noted =
      let editor = noted_editor taken after noted in
      let named = key_name byte before taken k s stands now t told made calls adds leads later spelled in
      let go = request_goes_on byte before taken k s stands now t told made calls adds leads later spelled in
      let gone = λ (none : IsOpen (live_name before) after.editor.work.buffers → ⊥) (found : IsOpen (live_name before) taken.editor.work.buffers).
      none (subst (λ (e : Editor). IsOpen (live_name before) e.work.buffers) (sym editor) found) in
      record {
        stands = noted_stands taken after t before.live.name stands.spelled named (key_stands byte before taken k s stands now t told made calls adds leads later spelled) noted;
        name = noted_name taken after noted ∙ named;
        numbers = numbers_on before.editor.work taken.editor.work after.editor.work key_numbers (same_numbers taken.editor.work after.editor.work (ap (λ (e : Editor). e.work) editor));
        each = λ d c. key_each d (subst (λ (e : Editor). Contains e.work.buffers.all d) editor c);
        spares = λ none. elim (open_or_not before.live.name from.work.buffers stands.spelled from_kept.named) [
          | inl (b, c, is) ↦ (go.removed b c is (gone none)).1
          | inr closed ↦ go.spared closed
        ];
      }

-- ---- any event

-- nothing was asked of the port
same_held : (told made : List Call) (s t : Held) (a b : Moment) → b.calls ≡ a.calls → a.calls ≡ Some told → b.calls ≡ Some (told ++ made) → MayLead made s t → t ≡ s
same_held told made s t a b same calls adds leads = λ k. λ name. nothing_made told made s t (sym adds ∙ same ∙ calls) leads name k

-- a report that could not be read
line_refused : (fault : LineFault) (before after : Moment) → RefusesLine fault before.live after.live after.course
    → after ≡ record before { course = after.course; live = after.live } → Same before after
line_refused fault before after so same =
    let keeps = refused_told (Line fault) On (counted before.live) after.live after.course so in
    record {
      buffers = ap (λ (m : Moment). m.editor.work.buffers) same;
      untold = keeps.untold;
      name = keeps.name;
      calls = ap (λ (m : Moment). m.calls) same;
      numbers = numbers_as before.editor.work after.editor.work before.editor.work (ap (λ (m : Moment). m.editor.work) same) refl refl;
    }

module _ (s t : Held) (told made : List Call) (leads : MayLead made s t) where
  report_came : (line : List ℕ) (before after mid : Moment) (stands : Stands s before) → TakesLine line before.editor before.live mid.editor mid.live mid.course
      → AreKept mid.editor.work.buffers → Came before.live.name stands.spelled s before.editor (operations_at line) mid.editor mid.live
  report_came line before after mid stands taken later =
      line_came before.live.name stands.spelled s before.editor before.live (stands_so s before stands) refl mid.editor mid.live mid.course later line taken

  pub event_goes : (event : Told) (before after : Moment) (taken : TakesEvent event before after) → Stands s before → AreKeptWithin event before after taken
      → AreKept after.editor.work.buffers → before.calls ≡ Some told → after.calls ≡ Some (told ++ made)
      → Goes before after s t (λ d. ComesBy event before after taken s d t)
  event_goes (key byte) before after (mid, k, noted) stands (now, spelled) later calls adds =
      key_goes byte before mid k s t told made stands now calls (sym (noted_calls mid after noted) ∙ adds) leads
      (subst (λ (e : Editor). AreKept e.work.buffers) (noted_editor mid after noted) later) spelled after noted
  event_goes (report line) before after (mid, taken, same, noted) stands within later calls adds =
      let editor = noted_editor mid after noted in
      let came = report_came line before after mid stands taken (subst (λ (e : Editor). AreKept e.work.buffers) editor later) in
      let still = noted_calls mid after noted ∙ ap (λ (m : Moment). m.calls) same in
      let here : Goes before after s s (λ d. GoesOn (operations_at line) before.editor.work.buffers s d s) = record {
        stands = noted_stands mid after s before.live.name stands.spelled came.named came.stands noted;
        name = noted_name mid after noted ∙ came.named;
        numbers = numbers_on before.editor.work mid.editor.work after.editor.work came.numbers (same_numbers mid.editor.work after.editor.work (ap (λ (e : Editor). e.work) editor));
        each = λ d c. came.each d (subst (λ (e : Editor). Contains e.work.buffers.all d) editor c);
        spares = λ none. refl;
      } in
      subst (λ (u : Held). Goes before after s u (λ d. GoesOn (operations_at line) before.editor.work.buffers s d u))
      (sym (same_held told made s t before after still calls adds leads)) here
  event_goes (refused fault) before after (taken, same) stands within later calls adds =
      let is = line_refused fault before after taken same in
      let so = as_before s before after is (stands_so s before stands) in
      let here : Goes before after s s (λ d. GoesOn [] before.editor.work.buffers s d s) = record {
        stands = stands_at s after (subst (λ n. all_scalars n ≡ true) (sym is.name) stands.spelled) so;
        name = is.name;
        numbers = is.numbers;
        each = stay_here before.editor.work.buffers after.editor.work.buffers.all s s (ap (λ (bs : Buffers). bs.all) is.buffers) (λ name. refl);
        spares = λ none. refl;
      } in
      subst (λ (u : Held). Goes before after s u (λ d. GoesOn [] before.editor.work.buffers s d u))
      (sym (same_held told made s t before after is.calls calls adds leads)) here
