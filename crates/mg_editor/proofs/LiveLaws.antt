-- An open search that was put behind its elements went where the text went; and what operations leave of the buffer at an index.
use Rattle.std.proofs.Common.{◌≡◌, ◌∙◌, ℕ, ◌<◌, Bool, true, List, length, Option, Some, None, refl, sym, ap, subst}
use Rattle.std.specs.Prelude.{nat_eq, slice_get, if◌then◌else◌}
use Rattle.std.specs.Option.{option_and_then, option_map}
use Rattle.std.proofs.lemmas.List.{length-set}
use Rattle.rga_ops.specs.Content.{Content}
use Rattle.rga_ops.specs.Places.{visible}
use Rattle.rga_ops.specs.declared.op.Op.{Op}
use Rattle.mg_buffer.specs.Carried.{carried, carried_match}
use Rattle.mg_buffer.specs.Following.{with_operations}
use Rattle.mg_minibuffer.specs.Dialogues.{Dialogue, search_of}
use Rattle.mg_minibuffer.specs.declared.prompt.Prompt.{Prompt}
use Rattle.mg_minibuffer.specs.declared.prompt.Prompt.TheVariants.{Searching}
use Rattle.mg_workspace.specs.AtIndex.{state_at, with_operations_at}
use Rattle.mg_workspace.specs.Buffers.{buffer_at}
use Rattle.mg_workspace.specs.Workspaces.{Workspace}
use Rattle.mg_editor.specs.Editors.{Editor}
use Rattle.mg_editor.specs.declared.live_taking.Anchors.{Anchors}
use Rattle.mg_editor.specs.LiveTaking.{anchors_at, anchors_of, anchored_talk, carried_prompt, carried_talk, match_at, taking, with_changed}

-- ---- the search

carried_found : (pattern : List ℕ) (old new : Content) (found : Option ℕ)
    → option_and_then (match_at pattern new) (option_and_then (slice_get (visible old)) found) ≡ option_and_then (carried_match pattern old new) found
carried_found pattern old new None = refl
carried_found pattern old new (Some i) = refl

goes_along : (here : Bool) (old new : Content) (d : Dialogue) (p : Option Prompt)
    → anchored_talk new (if here then option_map (anchors_of old) (search_of p) else None) (record d { prompt = p })
    ≡ (if here then record d { prompt = carried_prompt old new p } else record d { prompt = p })
goes_along true old new d (Some (Searching s)) =
    ap (λ (f : Option ℕ). record d { prompt = Some (Searching (record s { origin = carried old new s.origin; found = f })) }) (carried_found s.pattern old new s.found)
goes_along here old new d p = refl

pub talk_goes_along : (i : ℕ) (e : Editor) (w : Workspace)
    → anchored_talk (state_at i w).content (anchors_at i e) e.talk ≡ carried_talk i e.work w e.talk
talk_goes_along i e w = goes_along (nat_eq i e.work.buffers.current) (state_at i e.work).content (state_at i w).content e.talk e.talk.prompt

-- the editor whose search was put behind its elements
pub is_changed_so : (i : ℕ) (old : Editor) (w : Workspace) (new : Editor)
    → new ≡ record { work = w; talk = anchored_talk (state_at i w).content (anchors_at i old) old.talk } → new ≡ with_changed i w old
is_changed_so i old w new is = is ∙ ap (λ t. record { work = w; talk = t }) (talk_goes_along i old w)

-- the same of operations that were taken, where the editor before is known by its parts
pub took_so : (i : ℕ) (ops : List Op) (whole old : Editor) (w : Workspace) (anchors : Option Anchors) (new : Editor) → old ≡ whole → anchors ≡ anchors_at i whole
    → w ≡ with_operations_at i ops old.work → new ≡ record { work = w; talk = anchored_talk (state_at i w).content anchors old.talk } → new ≡ taking i ops whole
took_so i ops whole old w anchors new same are took is =
    is_changed_so i whole w new (is ∙ (λ k. record { work = w; talk = anchored_talk (state_at i w).content (are k) (same k).talk }))
    ∙ ap (λ v. with_changed i v whole) (took ∙ ap (λ (e : Editor). with_operations_at i ops e.work) same)

-- ---- the buffer

pub as_many : (i : ℕ) (ops : List Op) (w v : Workspace) → i < length w.buffers.all → v ≡ with_operations_at i ops w → i < length v.buffers.all
as_many i ops w v within is =
    subst (λ n. i < n) (sym (ap (λ (x : Workspace). length x.buffers.all) is ∙ length-set w.buffers.all i (record (buffer_at i w.buffers) { buffer = with_operations ops (state_at i w) }))) within
