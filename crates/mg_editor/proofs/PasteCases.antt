-- What commands in a row lead to, a text that is pasted leads to.
use Rattle.std.proofs.Common.{◌≡◌, inl, inr, ℕ, true, List, [], ◌∷◌, Option, Some, None, Ok, Err, refl, ap}
use Rattle.mg_plain.specs.declared.command.Command.TheVariants.{InsertText}
use Rattle.mg_minibuffer.specs.Dialogues.{takes_text}
use Rattle.mg_minibuffer.specs.declared.ending.Request.TheVariants.{Idle}
use Rattle.mg_minibuffer.specs.declared.prompt.Prompt.{Prompt}
use Rattle.mg_minibuffer.specs.declared.prompt.Prompt.TheVariants.{Replacing, Quitting}
use Rattle.mg_workspace.specs.Workspaces.{Workspace}
use Rattle.mg_editor.specs.Editors.{Editor}
use Rattle.mg_editor.specs.Pasting.{PasteAnswer, Pasted, PastedAt, Inserts, Types, first_line}
use Rattle.mg_editor.proofs.ActionCases.{RunsOne}
use Rattle.mg_editor.proofs.TypingLaws.{typed_one}

module _ (Leads : Workspace → Workspace → Type 0) (one : (w v : Workspace) → RunsOne w v → Leads w v) (both : (w u v : Workspace) → Leads w u → Leads u v → Leads w v) where
  nowhere : (old new : Editor) → new.work ≡ old.work → Leads old.work new.work
  nowhere old new is = one old.work new.work (inl is)

  types : (cs : List ℕ) (old new : Editor) (r : PasteAnswer) → takes_text old.talk.prompt ≡ true → Types cs old new r → Leads old.work new.work
  types [] old new r ready (is, answer) = nowhere old new (ap (λ (e : Editor). e.work) is)
  types (c ∷ cs) old new r ready (inl (mid, step, rest)) =
      let first = typed_one c old mid Idle ready step in
      both old.work mid.work new.work (one old.work mid.work first.2) (types cs mid new r first.1 rest)
  types (c ∷ cs) old new r ready (inr (refused, answer)) = nowhere old new (ap (λ (e : Editor). e.work) refused)

  inserts : (put : List ℕ) (old new : Editor) (r : PasteAnswer) → Inserts put old new r → Leads old.work new.work
  inserts put old new (Ok u) it = one old.work new.work (inr (InsertText put, Ok tt, it.0))
  inserts put old new (Err fault) it = nowhere old new (ap (λ (e : Editor). e.work) it.0)

  pastes_at : (p : Option Prompt) (put : List ℕ) (old new : Editor) (r : PasteAnswer) → old.talk.prompt ≡ p → PastedAt p put old new r → Leads old.work new.work
  pastes_at None put old new r is it = inserts put old new r it
  pastes_at (Some (Replacing pattern other count)) put old new r is it = nowhere old new (ap (λ (e : Editor). e.work) it.0)
  pastes_at (Some Quitting) put old new r is it = nowhere old new (ap (λ (e : Editor). e.work) it.0)
  pastes_at (Some p) put old new r is it = types (first_line put) old new r (ap takes_text is) it

  pub behind_a_paste : (put : List ℕ) (old new : Editor) (r : PasteAnswer) → Pasted put old new r → Leads old.work new.work
  behind_a_paste put old new r (inl (begun, busy)) = nowhere old new (ap (λ (e : Editor). e.work) busy.0)
  behind_a_paste put old new r (inr (begun, it)) = pastes_at old.talk.prompt put old new r refl it
