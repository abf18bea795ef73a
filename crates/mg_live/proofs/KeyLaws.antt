-- A session stands after a key.
use Rattle.std.proofs.Common.{arith, ◌≡◌, inl, inr, ◌∙◌, ◌++◌, ℕ, true, false, List, [], Option, Some, refl, sym, ap, subst}
use Rattle.std.specs.Prelude.{encode_utf8_all, IfSome}
use Rattle.std.specs.Str.{all_scalars}
use Rattle.rga_ops.specs.declared.op.Op.{Op}
use Rattle.mg_buffer.specs.OpenState.{OpenState, is_changed}
use Rattle.mg_files.specs.Calls.{Call}
use Rattle.mg_files.specs.Held.{Held, MayLead}
use Rattle.mg_minibuffer.specs.declared.ending.Request.TheVariants.{Find}
use Rattle.mg_session.specs.Keys.{request_of, said}
use Rattle.mg_files.specs.Asking.{Role}
use Rattle.mg_workspace.specs.Buffers.{Buffers}
use Rattle.mg_workspace.specs.Workspaces.{Workspace}
use Rattle.mg_editor.specs.Carrying.{Carried}
use Rattle.mg_editor.specs.Editors.{Editor}
use Rattle.mg_editor.specs.Holding.{AreLogged, HaveOwnNames, IsOpen}
use Rattle.mg_editor.specs.Meeting.{role_of}
use Rattle.mg_editor.proofs.HoldingLaws.{pressed_on}
use Rattle.mg_editor.proofs.NamesLaws.{press_own, carry_own}
use Rattle.mg_editor.proofs.RemovalLaws.{pressed_so}
use Rattle.mg_live.specs.Keys.{TakesKey, Meets, is_save, saved_by}
use Rattle.mg_live.specs.Made.{is_live, made_at, with_made}
use Rattle.mg_live.specs.Running.{Noted}
use Rattle.mg_live.specs.Standing.{AreKept, AreSafe, Stands}
use Rattle.mg_live.specs.States.{Live, Moment}
use Rattle.mg_live.specs.Tallies.{with_key}
use Rattle.mg_live.proofs.CarryLaws.{carry_goes}
use Rattle.mg_live.proofs.StageLaws.{live_there, made_safe, opened_keeps_name, opened_safe, GoOn, still_logged, still_safe}
use Rattle.mg_live.proofs.NameLaws.{open_or_not}
use Rattle.mg_live.proofs.ShapeLaws.{press_same}
use Rattle.mg_live.proofs.TakenKeyLaws.{said_work}
use Rattle.mg_live.proofs.ToldLaws.{notes_so}

-- ---- what stands of the buffers, and of what is not told

pub record StandsSo (name : List ℕ) (ops : List Op) (bs : Buffers) (s : Held) : Type 0 where
  pub kept : AreKept bs
  pub own : HaveOwnNames bs
  pub logged : AreLogged bs s
  pub safe : AreSafe (encode_utf8_all name) ops bs s

pub stands_so : (s : Held) (m : Moment) → Stands s m → StandsSo m.live.name m.live.telling.untold m.editor.work.buffers s
stands_so s m stands = record { kept = stands.kept; own = stands.own; logged = stands.logged; safe = stands.untold }

pub stands_at : (s : Held) (m : Moment) → all_scalars m.live.name ≡ true → StandsSo m.live.name m.live.telling.untold m.editor.work.buffers s → Stands s m
stands_at s m spelled so = record { kept = so.kept; own = so.own; logged = so.logged; spelled = spelled; untold = so.safe }

-- the buffers went on
pub goes_on : (name : List ℕ) (ops : List Op) (old new : Editor) (s t : Held) → all_scalars name ≡ true → StandsSo name ops old.work.buffers s → AreKept new.work.buffers
    → HaveOwnNames new.work.buffers → GoOn (encode_utf8_all name) old.work new.work s t → StandsSo name ops new.work.buffers t
goes_on name ops old new s t right stands kept own go = record {
  kept = kept;
  own = own;
  logged = still_logged (encode_utf8_all name) old.work new.work s t kept go stands.logged;
  safe = still_safe (encode_utf8_all name) old.work new.work s t kept go ops stands.logged stands.safe (open_or_not name old.work.buffers right stands.kept.named);
}

no_unsaved : (b : OpenState) → is_changed b ≡ false → b.buffer.unsaved ≡ []
no_unsaved b unchanged = grind arith

module _ (byte : ℕ) (before taken : Moment) (k : TakesKey byte before taken) (s : Held) where
  -- the editor that the request was carried from
  abbrev asking : Editor
  asking = said k.answer k.pressed

  press_goes : (name : List ℕ) → AreKept before.editor.work.buffers → AreKept k.pressed.work.buffers → GoOn name before.editor.work k.pressed.work s s
  press_goes name kept now = record {
    each = λ d c. inl ([], pressed_on [] s byte before.editor k.pressed k.answer kept.are now.are k.presses d c);
    removed = λ b c is none. elim (pressed_so byte before.editor k.pressed k.answer k.presses b c) [
      | inl still ↦ absurd (none (subst (λ n. IsOpen n k.pressed.work.buffers) is still))
      | inr unchanged ↦ (no_unsaved b unchanged, refl)
    ];
    spared = λ closed. refl;
  }

  abbrev counted : Live
  counted = record before.live { tally = with_key before.live.tally }

  abbrev current : ℕ
  current = before.editor.work.buffers.current

  abbrev made : Live
  made = with_made (is_live counted.name current before.editor) k.noted (made_at current before.editor k.pressed) counted

  module _ (stands : Stands s before) (now : AreKept k.pressed.work.buffers) where
    pressed_stands : StandsSo before.live.name made.telling.untold k.pressed.work.buffers s
    pressed_stands =
        let own = press_own byte before.editor k.pressed k.answer stands.own k.presses in
        let on = goes_on before.live.name before.live.telling.untold before.editor k.pressed s s stands.spelled (stands_so s before stands) now own
        (press_goes (encode_utf8_all before.live.name) stands.kept now) in
        record {
          kept = now;
          own = own;
          logged = on.logged;
          safe = made_safe before.live.name s k.pressed own now.named on.logged (is_live before.live.name current before.editor) k.noted before.editor current
              counted stands.kept.named (live_there before.live.name current before.editor)
              (press_same byte before.editor k.pressed k.answer k.presses) on.safe;
        }

    pub asking_stands : StandsSo before.live.name made.telling.untold asking.work.buffers s
    asking_stands =
        subst (λ (w : Workspace). StandsSo before.live.name made.telling.untold w.buffers s) (sym (said_work k.answer k.pressed)) pressed_stands

    module _ (t : Held) (told more : List Call) (calls : before.calls ≡ Some told) (adds : taken.calls ≡ Some (told ++ more)) (leads : MayLead more s t) (later : AreKept taken.editor.work.buffers) (spelled : (n : List ℕ) → request_of k.answer ≡ Find n → all_scalars n ≡ true) where
      pub carried : Carried (request_of k.answer) (Some told) (Some (told ++ more)) asking taken.editor k.carry_answer
      carried = rw (calls, adds) at k.carried

      abbrev MetSo : Type 0
      MetSo = Meets (Some told) (Some (told ++ more)) asking.work.buffers taken.editor.work.buffers

      met : IfSome (role_of (request_of k.answer)) (λ _. MetSo)
      met = rw (calls, adds) at k.met

      pub meets : (role : Role) → role_of (request_of k.answer) ≡ Some role → Meets (Some told) (Some (told ++ more)) asking.work.buffers taken.editor.work.buffers
      meets role is = subst (λ (o : Option Role). IfSome o (λ _. MetSo)) is met

      pub request_goes_on : GoOn (encode_utf8_all before.live.name) asking.work taken.editor.work s t
      request_goes_on =
          carry_goes told more s t leads before.live.name stands.spelled asking taken.editor asking_stands.kept.are asking_stands.own (request_of k.answer)
          k.carry_answer later.are spelled carried meets

      carried_stands : StandsSo before.live.name made.telling.untold taken.editor.work.buffers t
      carried_stands =
          goes_on before.live.name made.telling.untold asking taken.editor s t stands.spelled asking_stands later
          (carry_own (request_of k.answer) before.calls taken.calls asking taken.editor k.carry_answer spelled asking_stands.own k.carried) request_goes_on

      abbrev asked : Live
      asked = record made { saved = saved_by (is_save (request_of k.answer)) k.carry_answer made.saved }

      pub key_stands : StandsSo before.live.name taken.live.telling.untold taken.editor.work.buffers t
      key_stands =
          let c = carried_stands in
          let safe = opened_safe before.live.name t taken.editor c.own later.named c.logged k.noted_opened asking asked refl c.safe in
          record {
            kept = later;
            own = c.own;
            logged = c.logged;
            safe = subst (λ (l : Live). AreSafe (encode_utf8_all before.live.name) l.telling.untold taken.editor.work.buffers t) (sym k.live) safe;
          }

      pub key_name : taken.live.name ≡ before.live.name
      key_name = ap (λ (l : Live). l.name) k.live ∙ opened_keeps_name k.noted_opened asking taken.editor asked

-- how the text changed is noted beside
pub noted_stands : (taken after : Moment) (t : Held) (name : List ℕ) → all_scalars name ≡ true → taken.live.name ≡ name
    → StandsSo name taken.live.telling.untold taken.editor.work.buffers t → Noted taken after → Stands t after
noted_stands taken after t name right is stands (notes, same) =
    let so = (notes_so taken.editor taken.course taken.live after.live after.course notes).0 in
    let named : after.live.name ≡ name = ap (λ (l : Live). l.name) so ∙ is in
    let untold : after.live.telling.untold ≡ taken.live.telling.untold = ap (λ (l : Live). l.telling.untold) so in
    let buffers : after.editor.work.buffers ≡ taken.editor.work.buffers = ap (λ (m : Moment). m.editor.work.buffers) same in
    stands_at t after (subst (λ n. all_scalars n ≡ true) (sym named) right) (rw (named, untold, buffers) stands)
