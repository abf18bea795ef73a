-- Buffers beside their logs, where steps lead to them or they are opened.
use Rattle.std.proofs.Common.{◌≡◌, ◌⊎◌, inl, inr, ◌∙◌, ℕ, ◌≤◌, List, sym, ap, subst}
use Rattle.rga_ops.specs.Content.{IsSound, known_count}
use Rattle.rga_ops.specs.declared.op.Op.{Op}
use Rattle.mg_buffer.specs.OpenState.{OpenState, with_brief, with_runs}
use Rattle.mg_buffer.specs.State.{State}
use Rattle.mg_files.specs.Files.{Files}
use Rattle.mg_files.specs.Held.{Held}
use Rattle.mg_files.specs.Kept.{IsBuffer, IsLoggedBy, IsWritableWhole}
use Rattle.mg_files.proofs.OpenSteps.{opened_kept, opened_name}
use Rattle.mg_files.proofs.ChangeSteps.{after_run}
use Rattle.mg_workspace.specs.Workspaces.{Workspace}
use Rattle.mg_editor.specs.Holding.{AreLogged, GoesOn, IsOpenedBy}

pub stays_logged : (ops : List Op) (name : List ℕ) (w : Workspace) (s t : Held) (d : OpenState) → AreLogged w.buffers s → GoesOn ops w.buffers s d t ⊎ IsOpenedBy name w s d t → IsBuffer d → IsLoggedBy d (t d.buffer.name).log
stays_logged ops name w s t d are (inl g) is =
    let l = are g.b g.was in
    let more = after_run g.steps l.held g.b d s t l.logged g.goes in
    record { held = more.now; logged = more.logged }
stays_logged ops name w s t d are (inr o) is =
    let same : d.buffer ≡ o.loaded.buffer = ap (λ (x : OpenState). x.buffer) o.is in
    let buffer : IsBuffer o.loaded = record {
      sound = subst (λ (b : State). IsSound b.content) same is.sound;
      writable = subst (λ (b : State). IsWritableWhole b.content) same is.writable;
      fits = subst (λ (b : State). known_count b.content ≤ b.limit) same is.fits;
    } in
    let named : d.buffer.name ≡ name = ap (λ (b : State). b.name) same ∙ opened_name name w.replica w.limit o.found o.loaded o.end o.outcome in
    let log : o.found.log ≡ (t d.buffer.name).log = o.answers.log ∙ sym (ap (λ (f : Files). f.log) o.held) ∙ ap (λ n. (t n).log) (sym named) in
    subst (λ x. IsLoggedBy x (t d.buffer.name).log) (sym o.is)
    (subst (λ l. IsLoggedBy (with_brief w.brief (with_runs w.runs o.loaded)) l) log (opened_kept name w.replica w.limit o.found o.loaded o.end w.runs w.brief o.outcome buffer))
