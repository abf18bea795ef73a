-- Where buffers stand once one is removed.
use Rattle.std.proofs.Common.{◌≡◌, ℕ, ◌-◌, ◌<◌, nat_eq, nat_lt, if◌then◌else◌, refl, arith}
use Rattle.std.proofs.lemmas.Bool.{cond_both, ltb-true, ltb-false, eqb-false}
use Rattle.mg_workspace.specs.Names.{moved}

pub moved_first : (gone : ℕ) → moved gone 0 ≡ 0
moved_first gone =
    cond_both (nat_eq 0 gone) 0 (if nat_lt gone 0 then 0 - 1 else 0) (λ x. x ≡ 0) (λ _. refl)
    (λ _. cond_both (nat_lt gone 0) (0 - 1) 0 (λ x. x ≡ 0) (λ _. refl) (λ _. refl))

pub moved_within : (gone n i : ℕ) → gone < n → i < n → 1 < n → moved gone i < n - 1
moved_within gone n i inside here others =
    cond_both (nat_eq i gone) 0 (if nat_lt gone i then i - 1 else i) (λ x. x < n - 1) (λ _. omega (arith, others))
    (λ other. cond_both (nat_lt gone i) (i - 1) i (λ x. x < n - 1) (λ later. omega (arith, ltb-true gone i later, here))
    (λ earlier. omega (arith, ltb-false gone i earlier, eqb-false i gone other, inside)))
