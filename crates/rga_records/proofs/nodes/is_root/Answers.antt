use Rattle.std.proofs.Common.{◌≡◌, ◌==◌, ◌||◌, ◌&&◌, ℕ, Bool, zero, suc, true, false, refl, sym, ap, ◌∙◌, arith}
use Rattle.std.proofs.lemmas.Bool.{ne_eqb}
use Rattle.rga_ops.specs.Identifier.{identifier, is_in_range, is_root}
use Rattle.rga_records.proofs.nodes.is_root.Goals as goal

or_none : (b : Bool) → b || false ≡ b
or_none true = refl
or_none false = refl

by_counter : (counter replica : ℕ) → is_root (identifier counter replica) || is_in_range counter replica ≡ true → (counter == 0) ≡ is_root (identifier counter replica)
by_counter zero r h = sym h ∙ or_none (is_root (identifier 0 r))
by_counter (suc n) r h =
    let other : (suc n == 0) ≡ false = ne_eqb (suc n) 0 (λ e. omega (arith, e)) in
    other ∙ sym (ap (λ b. b && (r == 0)) other)

pub returns : goal.returns
returns c = ap (λ n. n == 0) c.counter.ensures.value ∙ by_counter c.args.id.counter c.args.id.replica c.counter.ensures.kept
