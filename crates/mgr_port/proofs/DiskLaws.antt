-- What stands under a name behind each beginning of the steps that give it a file.
use Rattle.std.proofs.Common.{◌≡◌, ◌⊎◌, inl, inr, ℕ, List, [], ◌∷◌, ◌++◌, Bool, true, false, Option, Some, refl, sym, ap, ◌∙◌, subst}
use Rattle.mgr_port.specs.Disk.{DiskStep, Writes, Removes, BeginsSteps, AreGivenUp, Place, behind_step, behind_steps, MayBeFound, IsUntouched, unnamed_steps, whole_steps}

-- It holds of a place, of it behind a part of the first step where that is a write, and so on behind that step.
abbrev Always : (Place → Type 0) → Place → List DiskStep → Type 0
Always Q p [] = Q p
Always Q p (step ∷ later) =
    Q p × ((part more : List ℕ) → step ≡ Writes (part ++ more) → Q (behind_step p (Writes part))) × Always Q (behind_step p step) later

-- so it holds behind any beginning of these steps
always : (Q : Place → Type 0) (p : Place) (steps made : List DiskStep) → Always Q p steps → BeginsSteps made steps → Q (behind_steps p made)
always Q p [] made now is = subst (λ (l : List DiskStep). Q (behind_steps p l)) (sym is) now
always Q p (step ∷ later) made (now, half, further) begins = elim begins [
  | inl is ↦ subst (λ (l : List DiskStep). Q (behind_steps p l)) (sym is) now
  | inr (inl w) ↦ subst (λ (l : List DiskStep). Q (behind_steps p l)) (sym w.3) (half w.0 w.1 w.2)
  | inr (inr f) ↦ subst (λ (l : List DiskStep). Q (behind_steps p l)) (sym f.1) (always Q (behind_step p step) later f.0 further f.2)
]

abbrev untouched : List ℕ → Bool → Place
untouched beside synced = record { beside = beside; is_synced = synced; is_kept = false; is_named = false; is_settled = false }

-- it is enough to look at places of which the rest is known
from_untouched : (Q : Place → Type 0) (p : Place) (steps made : List DiskStep) → IsUntouched p → ((beside : List ℕ) (synced : Bool) → Always Q (untouched beside synced) steps)
    → BeginsSteps made steps → Q (behind_steps p made)
from_untouched Q p steps made u holds begins =
    let is : untouched p.beside p.is_synced ≡ p =
    λ k. record { beside = p.beside; is_synced = p.is_synced; is_kept = sym u.unkept k; is_named = sym u.unnamed k; is_settled = sym u.unsettled k } in
    subst (λ (q : Place). Q (behind_steps q made)) is (always Q (untouched p.beside p.is_synced) steps made (holds p.beside p.is_synced) begins)

module _ (old found : Option (List ℕ)) (bytes : List ℕ) where
  abbrev IsOneOf : Place → Type 0
  IsOneOf p = MayBeFound old p found → (found ≡ old) ⊎ (found ≡ Some bytes)

  -- the file beside has just got the name, with all of its bytes on the device
  late : (found ≡ old) ⊎ (true ≡ true → found ≡ Some bytes) → (found ≡ old) ⊎ (found ≡ Some bytes)
  late (inl is) = inl is
  late (inr beside) = inr (beside refl)

  stand : (beside : List ℕ) (synced : Bool) → Always IsOneOf (untouched beside synced) (whole_steps bytes)
  stand beside synced = (inl, λ _ _ _. inl, (inl, λ _ _ _. inl, (inl, λ _ _ _. inl, (inl, λ _ _ _. inl, (inl, λ _ _ _. inl, (late, λ part more same. absurd cc, λ may. inr (may refl)))))))

  pub one_of_them : (p : Place) (made : List DiskStep) → IsUntouched p → BeginsSteps made (whole_steps bytes) → IsOneOf (behind_steps p made)
  one_of_them p made u begins = from_untouched IsOneOf p (whole_steps bytes) made u stand begins

-- ---- a file beside that was given up

then_removed : (p : Place) (made : List DiskStep) → behind_steps p (made ++ Removes ∷ []) ≡ behind_step (behind_steps p made) Removes
then_removed p [] = refl
then_removed p (step ∷ made) = then_removed (behind_step p step) made

module _ (old found : Option (List ℕ)) where
  abbrev IsOld : Place → Type 0
  IsOld p = MayBeFound old (behind_step p Removes) found → found ≡ old

  stay : (bytes beside : List ℕ) (synced : Bool) → Always IsOld (untouched beside synced) (unnamed_steps bytes)
  stay bytes beside synced = (λ m. m, λ _ _ _ m. m, (λ m. m, λ _ _ _ m. m, (λ m. m, λ _ _ _ m. m, (λ m. m, λ _ _ _ m. m, λ m. m))))

  pub old_stands : (p : Place) (bytes : List ℕ) (made : List DiskStep) → IsUntouched p → AreGivenUp bytes made → MayBeFound old (behind_steps p made) found → found ≡ old
  old_stands p bytes made u given may =
      from_untouched IsOld p (unnamed_steps bytes) given.begun u (stay bytes) given.begins
      (subst (λ (q : Place). MayBeFound old q found) (ap (behind_steps p) given.is ∙ then_removed p given.begun) may)

-- ---- what stood there

-- it is kept once the file beside has the name
abbrev IsKept : Place → Type 0
IsKept p = p.is_named ≡ true → p.is_kept ≡ true

pub kept_before : (p : Place) (bytes : List ℕ) (made : List DiskStep) → IsUntouched p → BeginsSteps made (whole_steps bytes) → IsKept (behind_steps p made)
kept_before p bytes made u begins = from_untouched IsKept p (whole_steps bytes) made u
    (λ beside synced. (λ e. e, λ _ _ _ e. e, (λ e. e, λ _ _ _ e. e, (λ e. e, λ _ _ _ e. e, (λ e. e, λ _ _ _ e. e, (λ _. refl, λ _ _ _ _. refl, (λ _. refl, λ _ _ _ _. refl, λ _. refl))))))) begins
