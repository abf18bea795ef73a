-- A session stands after the end of a block, and what is told is in the log.
use Rattle.std.proofs.Common.{◌≡◌, ◌≢◌, inl, ◌∙◌, ◌<◌, ◌+◌, ◌++◌, arith, ℕ, zero, Bool, true, false, List, [], ◌∷◌, length, Option, Some, refl, sym, ap, subst, append_assoc, append-nil, inr, ◌&&◌, None, nat_eq, get_or}
use Rattle.std.specs.List.{Contains}
use Rattle.std.proofs.lemmas.List.{append_cancel_left, get_or_default, nil_from_length}
use Rattle.std.proofs.lemmas.List.Elements.{Contains-append_right, Contains-get_or}
use Rattle.std.proofs.lemmas.Option.{same_Some}
use Rattle.std.specs.Prelude.{encode_utf8_all, if◌then◌else◌}
use Rattle.std.specs.Str.{all_scalars}
use Rattle.std.proofs.lemmas.Bool.{eqb-true}
use Rattle.mg_buffer.specs.OpenState.{OpenState}
use Rattle.mg_files.specs.Calls.{Call}
use Rattle.mg_files.specs.Held.{Held, MayLead}
use Rattle.mg_workspace.specs.Buffers.{buffer_at, no_buffer, Buffers}
use Rattle.mg_editor.specs.Holding.{HaveOwnNames, GoesOn, IsOpen}
use Rattle.mg_editor.specs.declared.live_saving.Writing.{Writing}
use Rattle.mg_editor.proofs.CallLaws.{AllSpare, all_spared, both_spare}
use Rattle.mg_editor.proofs.CourseLaws.{save_goes}
use Rattle.mg_editor.proofs.EachLaws.{stay_here, nothing_made}
use Rattle.mg_editor.proofs.SweepLaws.{saved_as}
use Rattle.mg_editor.proofs.SweepSteps.{swept_goes, own_names_stay}
use Rattle.rga_ops.specs.Content.{join, content_of}
use Rattle.rga_ops.specs.declared.op.Op.{Op}
use Rattle.rga_ops.proofs.ContentLaws.{join_nothing}
use Rattle.rga_ops.proofs.OperationLaws.{Contains-nil}
use Rattle.mg_editor.specs.Editors.{Editor}
use Rattle.mg_session.specs.Moments.{StepIf}
use Rattle.mg_session.proofs.TakenLaws.{after_step}
use Rattle.mg_editor.specs.LiveSaving as saving
use Rattle.mg_live.proofs.StageLaws.{GoOn}
use Rattle.mg_live.specs.Blocks.{EndsBlock, Tells, Writes, can_tell, has_more, reported, saves_due, told_operations, with_told, writing_due}
use Rattle.mg_live.specs.Made.{live_index, unsaved_at}
use Rattle.mg_live.specs.Standing.{AreHeld, AreInLog, AreKept, AreSafe, Stands, live_name}
use Rattle.mg_live.specs.States.{Live, Moment}
use Rattle.mg_live.specs.Statuses.{Shows, can_show}
use Rattle.mg_live.proofs.KeyLaws.{StandsSo, goes_on, stands_at, stands_so}
use Rattle.mg_live.proofs.NameLaws.{found_so, none_so, open_or_not}
use Rattle.mg_live.proofs.ShapeLaws.{KeepsNumbers, numbers_on, same_numbers}
use Rattle.mg_live.proofs.ToldLaws.{redrawn, swept_alike}

-- ---- writings of buffers in turn

-- calls that leave what is held under the names that these buffers do not have
record Spares (bs : List OpenState) (before : List Call) (new : Option (List Call)) : Type 0 where
  made : List Call
  told : new ≡ Some (before ++ made)
  spares : (name : List ℕ) → ((b : OpenState) → Contains bs b → b.buffer.name ≢ name) → AllSpare name made

no_calls : (bs : List OpenState) (before : List Call) (new : Option (List Call)) → new ≡ Some before → Spares bs before new
no_calls bs before new is = record { made = []; told = is ∙ ap Some (sym (append-nil before)); spares = λ name other. tt }

turn_spares : (due : Bool) (writing : Writing) (i : ℕ) (b d : OpenState) (bs : List OpenState) (old mid : saving.Course) (before : List Call) → saving.is_due writing i b ≡ due
    → old.calls ≡ Some before → saving.TakesTurn due writing i b d old mid → Spares (b ∷ bs) before mid.calls
turn_spares false writing i b d bs old mid before at is (same, stays) = no_calls (b ∷ bs) before mid.calls (ap (λ (c : saving.Course). c.calls) stays ∙ is)
turn_spares true writing i b d bs old mid before at is (ended, w) =
    let save = saved_as writing i ended old.calls mid.calls b d at w.writes in
    let course = save_goes save.0 before old.calls mid.calls b d is save.1 in
    record { made = course.made; told = course.told; spares = λ name other. course.spares name (other b (zero, omega arith, refl)) }

sweep_spares : (writing : Writing) (n : ℕ) (bs ds : List OpenState) (old new : saving.Course) (before : List Call) → old.calls ≡ Some before
    → saving.Sweeps writing n bs ds old new → Spares bs before new.calls
sweep_spares writing n [] [] old new before is s = no_calls [] before new.calls (ap (λ (c : saving.Course). c.calls) s ∙ is)
sweep_spares writing n [] (d ∷ ds) old new before is s = absurd s
sweep_spares writing n (b ∷ bs) [] old new before is s = absurd s
sweep_spares writing n (b ∷ bs) (d ∷ ds) old new before is (mid, turn, rest) =
    let one = turn_spares (saving.is_due writing n b) writing n b d bs old mid before refl is turn in
    let more = sweep_spares writing (n + 1) bs ds mid new (before ++ one.made) one.told rest in
    record {
      made = one.made ++ more.made;
      told = more.told ∙ ap Some (append_assoc before one.made more.made);
      spares = λ name other. both_spare name one.made more.made (one.spares name other) (more.spares name (λ x c. other x (Contains-append_right (b ∷ []) bs x c)));
    }

-- each name stays open
named_still : (writing : Writing) (bs ds : List OpenState) (old new : saving.Course) → saving.Sweeps writing 0 bs ds old new → (b : OpenState) → Contains bs b
    → (d : OpenState) × Contains ds d × (d.buffer.name ≡ b.buffer.name)
named_still writing bs ds old new sweep b (k, lt, at) =
    let (count, same) = swept_alike writing 0 bs ds old new sweep in (
      get_or ds k no_buffer,
      Contains-get_or ds k no_buffer (subst (λ n. k < n) (sym count) lt),
      (same k).0 ∙ ap (λ (x : OpenState). x.buffer.name) (get_or_default bs k no_buffer b lt ∙ at),
    )

-- ---- a status changes none of it

-- the buffers, what is to be told, and the calls
pub record Same (a b : Moment) : Type 0 where
  pub buffers : b.editor.work.buffers ≡ a.editor.work.buffers
  pub untold : b.live.telling.untold ≡ a.live.telling.untold
  pub name : b.live.name ≡ a.live.name
  pub calls : b.calls ≡ a.calls
  pub numbers : KeepsNumbers a.editor.work b.editor.work

same_as : (a b : Moment) → b ≡ a → Same a b
same_as a b is = grind arith

shown_same : {fresh more : Bool} {told : List ℕ} (a b : Moment) → Shows fresh more told a b → Same a b
shown_same a b shows =
    let r = redrawn a b shows in
    record {
      buffers = r.buffers;
      untold = ap (λ (l : Live). l.telling.untold) r.live;
      name = ap (λ (l : Live). l.name) r.live;
      calls = r.calls;
      numbers = r.numbers;
    }

shown_if : (go fresh more : Bool) (told : List ℕ) (a b : Moment) → StepIf go (Shows fresh more told) a b → Same a b
shown_if true fresh more told a b shows = shown_same a b shows
shown_if false fresh more told a b is = same_as a b is

-- ---- what stands of a moment, while the buffers stay

abbrev StandsAt : Held → Moment → Type 0
StandsAt s m = StandsSo m.live.name m.live.telling.untold m.editor.work.buffers s

pub as_before : (s : Held) (a b : Moment) → Same a b → StandsAt s a → StandsAt s b
as_before s a b same stands = rw (same.buffers, same.name, same.untold) stands

none_held : (ops : List Op) (bs : Buffers) (name : List ℕ) (s : Held) → AreSafe name ops bs s → AreSafe name [] bs s
none_held ops bs name s safe = record {
  open_buffer = λ b c is op has. absurd (Contains-nil op has);
  closed = λ none. let l = safe.closed none in (l.0, l.1, λ op has. absurd (Contains-nil op has));
}

-- ---- the logs, or all

abbrev course_of : Moment → saving.Course
course_of m = saving.course m.calls m.faults m.editor.work.failures m.live.saved

module _ (s t : Held) (told made : List Call) (leads : MayLead made s t) where
  write_each : (writing : Option Writing) (a b : Moment) → StandsAt s a → Writes writing a b → a.calls ≡ Some told → b.calls ≡ Some (told ++ made)
      → (d : OpenState) → Contains b.editor.work.buffers.all d → GoesOn [] a.editor.work.buffers s d t
  write_each None a b stands is calls adds =
      stay_here a.editor.work.buffers b.editor.work.buffers.all s t (ap (λ (m : Moment). m.editor.work.buffers.all) is)
      (nothing_made told made s t (sym adds ∙ ap (λ (m : Moment). m.calls) is ∙ calls) leads)
  write_each (Some writing) a b stands (swept, is) calls adds =
      swept_goes writing told made a.editor.work.buffers b.editor.work.buffers.all (course_of a) (course_of b) s t stands.kept.are stands.own calls adds swept leads

  write_goes : (name : List ℕ) (writing : Option Writing) (a b : Moment) → StandsAt s a → Writes writing a b → a.calls ≡ Some told → b.calls ≡ Some (told ++ made)
      → GoOn name a.editor.work b.editor.work s t
  write_goes name None a b stands is calls adds = record {
    each = λ d c. inl ([], write_each None a b stands is calls adds d c);
    removed = λ x c at gone. absurd (gone (x, subst (λ (m : Moment). Contains m.editor.work.buffers.all x) (sym is) c, at));
    spared = λ closed. nothing_made told made s t (sym adds ∙ ap (λ (m : Moment). m.calls) is ∙ calls) leads name;
  }
  write_goes name (Some writing) a b stands (swept, is) calls adds = record {
    each = λ d c. inl ([], write_each (Some writing) a b stands (swept, is) calls adds d c);
    removed = λ x c at gone.
        let still = named_still writing a.editor.work.buffers.all b.editor.work.buffers.all (course_of a) (course_of b) swept x c in
        absurd (gone (still.0, still.1, still.2 ∙ at));
    spared = λ closed.
        let more = sweep_spares writing 0 a.editor.work.buffers.all b.editor.work.buffers.all (course_of a) (course_of b) told calls swept in
        let same : made ≡ more.made = append_cancel_left told made more.made (same_Some (told ++ made) (told ++ more.made) (sym adds ∙ more.told)) in
        all_spared name more.made s t (more.spares name (λ x c at. absurd (closed (x, c, at)))) (subst (λ l. MayLead l s t) same leads);
  }

  write_own : (writing : Option Writing) (a b : Moment) → HaveOwnNames a.editor.work.buffers → Writes writing a b → HaveOwnNames b.editor.work.buffers
  write_own None a b own is = subst (λ (m : Moment). HaveOwnNames m.editor.work.buffers) (sym is) own
  write_own (Some writing) a b own (swept, is) = subst HaveOwnNames (sym (ap (λ (m : Moment). m.editor.work.buffers) is)) (own_names_stay writing a.editor.work.buffers b.editor.work.buffers.all (course_of a) (course_of b) own swept)

  write_telling : (writing : Option Writing) (a b : Moment) → Writes writing a b → (b.live.telling.untold ≡ a.live.telling.untold) × (b.live.name ≡ a.live.name)
  write_telling writing a b writes = grind arith

  written_stands : (writing : Option Writing) (a b : Moment) → all_scalars a.live.name ≡ true → StandsAt s a → AreKept b.editor.work.buffers → Writes writing a b
      → a.calls ≡ Some told → b.calls ≡ Some (told ++ made) → StandsAt t b
  written_stands writing a b right stands later writes calls adds =
      let on = goes_on a.live.name a.live.telling.untold a.editor b.editor s t right stands later (write_own writing a b stands.own writes)
      (write_goes (encode_utf8_all a.live.name) writing a b stands writes calls adds) in
      let same = write_telling writing a b writes in
      rw (same.1, same.0) on

-- ---- what is told

-- by the index of the live buffer: nothing of it is missing in its log
abbrev can_at : Editor → Option ℕ → Bool
can_at e (Some i) = nat_eq (length (unsaved_at i e)) 0
can_at e None = true

-- what was told is told no more
told_stands : (t : Held) (fresh : Bool) (a b : Moment) → Tells fresh a b → StandsAt t a → StandsAt t b
told_stands t fresh a b tells stands =
    let shown = as_before t a tells.shown (shown_same a tells.shown tells.shows) stands in
    let is_told = can_show tells.shown.course && can_tell a.live a.editor in
    subst (StandsAt t) (sym tells.left) (by is_told shown)
  where
    by : (is_told : Bool) → StandsAt t tells.shown → StandsAt t (record tells.shown { live = with_told is_told tells.shown.live })
    by true shown = record { kept = shown.kept; own = shown.own; logged = shown.logged; safe = none_held tells.shown.live.telling.untold tells.shown.editor.work.buffers (encode_utf8_all tells.shown.live.name) t shown.safe }
    by false shown = shown

write_numbers : (writing : Option Writing) (a b : Moment) → Writes writing a b → KeepsNumbers a.editor.work b.editor.work
write_numbers writing a b writes = grind arith

tell_buffers : (go fresh : Bool) (a b : Moment) → StepIf go (Tells fresh) a b
    → (b.editor.work.buffers ≡ a.editor.work.buffers) × (b.live.name ≡ a.live.name) × (b.calls ≡ a.calls) × KeepsNumbers a.editor.work b.editor.work
tell_buffers true fresh a b tells =
    let shown = shown_same a tells.shown tells.shows in (
      ap (λ (m : Moment). m.editor.work.buffers) tells.left ∙ shown.buffers,
      ap (λ (m : Moment). m.live.name) tells.left ∙ shown.name,
      ap (λ (m : Moment). m.calls) tells.left ∙ shown.calls,
      numbers_on a.editor.work tells.shown.editor.work b.editor.work shown.numbers
          (same_numbers tells.shown.editor.work b.editor.work (ap (λ (m : Moment). m.editor.work) tells.left)),
    )
tell_buffers false fresh a b is = let same = same_as a b is in (same.buffers, same.name, same.calls, same.numbers)

-- How a session goes on: it stands beside what is held then, its name and its numbers stay, each open buffer came so, and what is held
-- under its name stays, if no buffer of that name is open afterwards.
pub record Goes (before after : Moment) (s t : Held) (Comes : OpenState → Type 0) : Type 0 where
  pub stands : Stands t after
  pub name : after.live.name ≡ before.live.name
  pub numbers : KeepsNumbers before.editor.work after.editor.work
  pub each : (d : OpenState) → Contains after.editor.work.buffers.all d → Comes d
  pub spares : (IsOpen (live_name before) after.editor.work.buffers → ⊥) → t (live_name before) ≡ s (live_name before)

module _ (before after : Moment) (e : EndsBlock before after) (s t : Held) (told made : List Call) (leads : MayLead made s t) where
  shown : Same before e.shown
  shown = shown_if (can_show before.course) true (has_more before.live before.editor) [] before e.shown e.shows

  abbrev ready : Moment
  ready = record e.shown { live = reported e.shown.live }

  telling : (e.told.editor.work.buffers ≡ e.written.editor.work.buffers) × (e.told.live.name ≡ e.written.live.name) × (e.told.calls ≡ e.written.calls)
      × KeepsNumbers e.written.editor.work e.told.editor.work
  telling = tell_buffers (has_more before.live before.editor && can_show e.written.course) (saves_due before.live before.editor) e.written e.told e.tells

  kept_as : after.editor.work.buffers ≡ e.written.editor.work.buffers
  kept_as = ap (λ (m : Moment). m.editor.work.buffers) e.left ∙ telling.0

  block_numbers : KeepsNumbers before.editor.work after.editor.work
  block_numbers =
      let last = same_numbers e.told.editor.work after.editor.work (ap (λ (m : Moment). m.editor.work) e.left) in
      numbers_on before.editor.work e.shown.editor.work after.editor.work shown.numbers
      (numbers_on e.shown.editor.work e.written.editor.work after.editor.work (write_numbers (writing_due before.live before.editor) ready e.written e.writes)
      (numbers_on e.written.editor.work e.told.editor.work after.editor.work telling.3 last))

  calls_as : after.calls ≡ e.written.calls
  calls_as = ap (λ (m : Moment). m.calls) e.left ∙ telling.2

  module _ (stands : Stands s before) (later : AreKept after.editor.work.buffers) (calls : before.calls ≡ Some told) (adds : after.calls ≡ Some (told ++ made)) where
    ready_stands : StandsAt s ready
    ready_stands = as_before s before e.shown shown (stands_so s before stands)

    right : all_scalars ready.live.name ≡ true
    right = subst (λ n. all_scalars n ≡ true) (sym shown.name) stands.spelled

    ready_calls : ready.calls ≡ Some told
    ready_calls = shown.calls ∙ calls

    written_calls : e.written.calls ≡ Some (told ++ made)
    written_calls = sym calls_as ∙ adds

    pub written_so : StandsAt t e.written
    written_so =
        written_stands s t told made leads (writing_due before.live before.editor) ready e.written right ready_stands (subst AreKept kept_as later) e.writes
        ready_calls written_calls

    pub written_name : e.written.live.name ≡ before.live.name
    written_name = (write_telling s t told made leads (writing_due before.live before.editor) ready e.written e.writes).1 ∙ shown.name

    block_name : after.live.name ≡ before.live.name
    block_name = ap (λ (m : Moment). m.live.name) e.left ∙ telling.1 ∙ written_name

    -- each buffer came by steps
    block_each : (d : OpenState) → Contains after.editor.work.buffers.all d → GoesOn [] before.editor.work.buffers s d t
    block_each d c =
        subst (λ (bs : Buffers). GoesOn [] bs s d t) shown.buffers
        (write_each s t told made leads (writing_due before.live before.editor) ready e.written ready_stands e.writes ready_calls written_calls d
        (subst (λ (bs : Buffers). Contains bs.all d) kept_as c))

    pub block_goes : Goes before after s t (λ d. GoesOn [] before.editor.work.buffers s d t)
    block_goes =
        let fresh = saves_due before.live before.editor in
        let so = after_step (StandsAt t) (Tells fresh) (has_more before.live before.editor && can_show e.written.course) e.written e.told written_so
        (λ _ tells. told_stands t fresh e.written e.told tells written_so) e.tells in
        let go = write_goes s t told made leads (live_name before) (writing_due before.live before.editor) ready e.written ready_stands e.writes ready_calls written_calls in
        let gone = λ (none : IsOpen (live_name before) after.editor.work.buffers → ⊥) (found : IsOpen (live_name before) e.written.editor.work.buffers).
        none (subst (IsOpen (live_name before)) (sym kept_as) found) in
        record {
          stands = stands_at t after (subst (λ n. all_scalars n ≡ true) (sym block_name) stands.spelled) (subst (StandsAt t) (sym e.left) so);
          name = block_name;
          numbers = block_numbers;
          each = block_each;
          spares = λ none. elim (open_or_not before.live.name ready.editor.work.buffers stands.spelled ready_stands.kept.named) [
            | inl (b, c, is) ↦ (go.removed b c is (gone none)).1
            | inr closed ↦ go.spared closed
          ];
        }

    -- ---- what is told is in the log

    abbrev now : Moment
    now = e.written

    abbrev InLog : List Op → Type 0
    InLog ops = AreInLog ops (t (live_name now)).log

    open_told : (i : ℕ) (none : Bool) → live_index now.live.name now.editor ≡ Some i → nat_eq (length (unsaved_at i now.editor)) 0 ≡ none
        → InLog (if none then now.live.telling.untold else [])
    open_told i none at is =
        let f = found_so now.live.name now.editor.work.buffers i written_so.kept.named at in
        let x = buffer_at i now.editor.work.buffers in
        let l = written_so.logged x f.there in
        subst (λ n. AreInLog (if none then now.live.telling.untold else []) (t n).log) f.named (l.held, l.logged.stands, by none is)
      where
        by : (none : Bool) → nat_eq (length (unsaved_at i now.editor)) 0 ≡ none
            → AreHeld (if none then now.live.telling.untold else []) (written_so.logged (buffer_at i now.editor.work.buffers) (found_so now.live.name now.editor.work.buffers i written_so.kept.named at).there).held
        by true is =
            let f = found_so now.live.name now.editor.work.buffers i written_so.kept.named at in
            let x = buffer_at i now.editor.work.buffers in
            let l = written_so.logged x f.there in
            let content : x.buffer.content ≡ l.held =
            l.logged.content ∙ ap (λ (xs : List Op). join l.held (content_of xs)) (nil_from_length x.buffer.unsaved (eqb-true (length x.buffer.unsaved) 0 is)) ∙ join_nothing l.held in
            subst (AreHeld now.live.telling.untold) content (written_so.safe.open_buffer x f.there f.named)
        by false is = λ op has. absurd (Contains-nil op has)

    pub told_held : InLog (told_operations now.live now.editor)
    told_held = by (live_index now.live.name now.editor) refl
      where
        spelled : all_scalars now.live.name ≡ true
        spelled = subst (λ n. all_scalars n ≡ true) (sym written_name) stands.spelled

        by : (o : Option ℕ) → live_index now.live.name now.editor ≡ o → InLog (if can_at now.editor o then now.live.telling.untold else [])
        by (Some i) at = open_told i (nat_eq (length (unsaved_at i now.editor)) 0) at refl
        by None at = written_so.safe.closed (none_so now.live.name now.editor.work.buffers spelled at)
