-- A log in memory, under the empty name.
use Rattle.std.proofs.Common.{◌≡◌, ◌∙◌, subst, ℕ, true, false, List, [], ◌∷◌, ◌++◌, Some, Err, refl, sym, ap, inl, inr, append_assoc}
use Rattle.std.proofs.lemmas.List.{append-nil}
use Rattle.mg_files.specs.declared.port.PortFault.{PortFault}
use Rattle.mgr_port.specs.Disk.{DiskStep, BeginsSteps, Removes, unnamed_steps}
use Rattle.mgr_port.specs.Logs.{Names}
use Rattle.test_ports.specs.Steps.{StopsBefore, with_steps}

-- ---- the steps of a disk

begins_none : (wanted : List DiskStep) → BeginsSteps [] wanted
begins_none [] = refl
begins_none (step ∷ later) = inl refl

-- the step that comes next failed
pub stops_here : (a b wanted : List DiskStep) → b ≡ a → StopsBefore a b wanted
stops_here a b wanted is = record { made = []; begins = begins_none wanted; tells = is ∙ sym (append-nil a) }

-- it was done, and a later one failed
pub stops_behind : (a b c : List DiskStep) (step : DiskStep) (later : List DiskStep) → b ≡ a ++ step ∷ [] → StopsBefore b c later → StopsBefore a c (step ∷ later)
stops_behind a b c step later one s = record {
  made = step ∷ s.made;
  begins = inr (inr (s.made, refl, s.begins));
  tells = s.tells ∙ ap (λ (l : List DiskStep). l ++ s.made) one ∙ append_assoc a (step ∷ []) s.made;
}

-- ---- what is answered to the steps of `put_whole`

pub given_up_as : (fault : PortFault) (bytes log : List ℕ) (begun steps : List DiskStep) → begun ≡ [] → StopsBefore begun steps (unnamed_steps bytes)
    → Names {A = Unit {0}} (Err fault) bytes (with_steps log [] false) (Some (with_steps log steps true))
given_up_as fault bytes log begun steps none s =
    let is : steps ≡ s.made = s.tells ∙ ap (λ (l : List DiskStep). l ++ s.made) none in
    inl (steps ++ Removes ∷ [], record { begun = s.made; begins = s.begins; is = ap (λ (l : List DiskStep). l ++ Removes ∷ []) is }, refl)
