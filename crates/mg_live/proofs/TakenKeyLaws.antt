-- A key that was taken, by what the code did.
use Rattle.std.proofs.Common.{arith, ◌≡◌, ◌∙◌, ℕ, Bool, List, Option, Some, None, is_some, sym, ap, subst}
use Rattle.std.specs.Prelude.{IfSome}
use Rattle.mg_minibuffer.specs.declared.ending.Request.{Request}
use Rattle.mg_session.specs.Keys.{request_of, said}
use Rattle.mg_files.specs.Asking.{Role}
use Rattle.mg_files.specs.Linking.{Account, ExchangesOver}
use Rattle.mg_workspace.specs.Workspaces.{Workspace}
use Rattle.mg_workspace.specs.declared.failures.Task.TheVariants as task
use Rattle.mg_editor.specs.Editors.{Editor}
use Rattle.mg_editor.specs.Meeting.{meeting_outcome}
use Rattle.mg_editor.specs.Presses.{PressAnswer}
use Rattle.mg_editor.specs.Telling.{CarryAnswer, ChangesCurrent}
use Rattle.mg_live.specs.Keys.{Meets, is_save, saved_by, with_opened}
use Rattle.mg_live.specs.Made.{is_live, live_index, made_at, with_made}
use Rattle.mg_live.specs.States.{Live}
use Rattle.mg_live.specs.Tallies.{with_key}
use Rattle.mg_live.proofs.CarryLaws.{have_met}

pub said_work : (r : PressAnswer) (e : Editor) → (said r e).work ≡ e.work
said_work r e = grind arith

module _ {L : Type 0} (a : Account L) where
  abbrev Met : Role → Editor → Editor → CarryAnswer → Type 0
  Met role old new r = ChangesCurrent task.Exchange (λ answer b d. ExchangesOver a b d role answer) meeting_outcome old new r

  pub met_as : (role : Option Role) (old new : Editor) (r : CarryAnswer) → IfSome role (λ x. Met x old new r)
      → IfSome role (λ _. Meets a.calls a.made old.work.buffers new.work.buffers)
  met_as None old new r met = met
  met_as (Some role) old new r met = have_met a role old new r met

-- what the session keeps
module _ (e e1 e2 pressed : Editor) (answer : PressAnswer) (l l1 l2 l3 l4 : Live) (noted noted_opened was_open saves : Bool) (r : CarryAnswer) (asked : Request) where
  abbrev current : ℕ
  current = e.work.buffers.current

  abbrev counted : Live
  counted = record l { tally = with_key l.tally }

  abbrev made : Live
  made = with_made (is_live counted.name current e) noted (made_at current e pressed) counted

  abbrev with_saved : Bool → Live → Live
  with_saved s x = record x { saved = saved_by s r x.saved }

  pub key_live : l1 ≡ counted → l2 ≡ with_made (is_live l1.name current e) noted (made_at current e e1) l1 → e1 ≡ said answer pressed
      → l3 ≡ with_saved saves l2 → saves ≡ is_save asked → asked ≡ request_of answer
      → ((old : Editor) → was_open ≡ is_some (live_index l3.name old) → l4 ≡ with_opened noted_opened old e2 l3)
      → was_open ≡ is_some (live_index l2.name e1)
      → l4 ≡ with_opened noted_opened (said answer pressed) e2 (with_saved (is_save (request_of answer)) made)
  key_live is1 is2 press is3 save request opened was =
      let work : e1.work ≡ pressed.work = ap (λ (x : Editor). x.work) press ∙ said_work answer pressed in
      let first : l2 ≡ with_made (is_live counted.name current e) noted (made_at current e e1) counted =
      subst (λ (x : Live). l2 ≡ with_made (is_live x.name current e) noted (made_at current e e1) x) is1 is2 in
      let second : l2 ≡ made =
      first ∙ ap (λ (w : Workspace). with_made (is_live counted.name current e) noted (made_at current e (record e1 { work = w })) counted) work in
      let third : l3 ≡ with_saved (is_save (request_of answer)) made =
      is3 ∙ ap (with_saved saves) second ∙ ap (λ (s : Bool). with_saved s made) (save ∙ ap is_save request) in
      let open_then : was_open ≡ is_some (live_index l3.name (said answer pressed)) =
      was ∙ ap (λ (x : Editor). is_some (live_index l2.name x)) press
      ∙ ap (λ (n : List ℕ). is_some (live_index n (said answer pressed))) (sym (ap (λ (x : Live). x.name) is3)) in
      opened (said answer pressed) open_then ∙ ap (with_opened noted_opened (said answer pressed) e2) third
