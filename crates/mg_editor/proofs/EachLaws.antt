-- What becomes of each open buffer, where the current one took its course.
use Rattle.std.proofs.Common.{◌≡◌, inl, inr, ◌∙◌, ℕ, ◌<◌, List, [], ◌++◌, length, get_or, set, Some, refl, sym, ap, subst, append-nil}
use Rattle.std.specs.List.{Contains}
use Rattle.std.proofs.lemmas.List.{append_cancel_left, get_or_default}
use Rattle.std.proofs.lemmas.List.Elements.{Contains-get_or}
use Rattle.std.proofs.lemmas.Option.{same_Some}
use Rattle.rga_ops.specs.declared.op.Op.{Op}
use Rattle.mg_buffer.specs.OpenState.{OpenState}
use Rattle.mg_files.specs.Calls.{Call}
use Rattle.mg_files.specs.Held.{Held, MayLead}
use Rattle.mg_files.specs.Run.{MayGo}
use Rattle.mg_workspace.specs.Buffers.{Buffers, current_buffer, no_buffer}
use Rattle.mg_editor.specs.Holding.{HaveOwnNames, GoesOn}
use Rattle.mg_editor.proofs.SetLaws.{set_cases}
use Rattle.mg_editor.proofs.CallLaws.{all_spared}
use Rattle.mg_editor.proofs.CourseLaws.{Course}

pub all_go : (ops : List Op) (before made : List Call) (s t : Held) (bs : Buffers) (after : OpenState) (all : List OpenState) → bs.current < length bs.all → HaveOwnNames bs → all ≡ set bs.all bs.current after
    → Course ops before (Some (before ++ made)) (current_buffer bs) after → MayLead made s t → (d : OpenState) → Contains all d → GoesOn ops bs s d t
all_go ops before made s t bs after all there own is course leads d c =
    let led : MayLead course.made s t = subst (λ l. MayLead l s t) (append_cancel_left before made course.made (same_Some (before ++ made) (before ++ course.made) course.told)) leads in
    elim (set_cases bs.all bs.current after d (subst (λ l. Contains l d) is c)) [
      | inl same ↦
          let going = course.goes s t led in
          record { b = current_buffer bs; was = Contains-get_or bs.all bs.current no_buffer there; steps = going.0; takes = going.1; goes = subst (λ x. MayGo going.0 (current_buffer bs) s x t) same going.2 }
      | inr o ↦
          let at : (get_or bs.all o.0 no_buffer).buffer.name ≡ d.buffer.name = ap (λ (x : OpenState). x.buffer.name) (get_or_default bs.all o.0 no_buffer d o.1 ∙ o.3) in
          record { b = d; was = (o.0, o.1, o.3); steps = []; takes = tt; goes = (refl, all_spared d.buffer.name course.made s t (course.spares d.buffer.name (λ e. o.2 (own o.0 bs.current o.1 there (at ∙ sym e)))) led) }
    ]

pub stay_here : (bs : Buffers) (all : List OpenState) (s t : Held) → all ≡ bs.all → ((name : List ℕ) → t name ≡ s name) → (d : OpenState) → Contains all d → GoesOn [] bs s d t
stay_here bs all s t is same d c = record { b = d; was = subst (λ l. Contains l d) is c; steps = []; takes = tt; goes = (refl, same d.buffer.name) }

pub nothing_made : (before made : List Call) (s t : Held) → Some (before ++ made) ≡ Some before → MayLead made s t → (name : List ℕ) → t name ≡ s name
nothing_made before made s t is leads =
    subst (λ l. MayLead l s t) (append_cancel_left before made [] (same_Some (before ++ made) before is ∙ sym (append-nil before))) leads
