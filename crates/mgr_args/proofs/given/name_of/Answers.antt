use Rattle.std.proofs.Common.{rules, ◌≡◌, ◌∙◌, ◌≤◌, List, ℕ, ap, sym, subst, codes, length, None, Some, arith}
use Rattle.std.proofs.lemmas.Bool.{eqb-true, eqb-false}
use Rattle.clap.specs.Matches.{first_value, found_of}
use Rattle.clap.proofs.WalkLemmas.{first_value-rows}
use Rattle.mgr_args.proofs.GivenLemmas.{same_some}
use Rattle.mgr_args.proofs.given.name_of.Goals as goal

pub returns-in_default : goal.returns-in_default
returns-in_default c = λ name given some.
    let none : first_value (found_of c.args.found.now) (codes "name") ≡ None = search rules in
    let clash : None ≡ Some name = sym none ∙ first_value-rows (found_of c.args.found.now) (codes "name") ∙ given in
    absurd cc

pub returns-then-is_empty : goal.returns-then-is_empty
returns-then-is_empty c = λ name given some.
    let is : c.in-Some.name.now ≡ name =
    same_some _ _ _ (sym (first_value-rows (found_of c.args.found.now) (codes "name")) ∙ sym c.in-Some.ensures) given in
    let none : length c.in-Some.name.now ≡ 0 = eqb-true _ _ (sym c.if-is_empty.ensures) in
    omega (arith, some, none, ap length is)

pub returns : goal.returns
returns c =
    let some = eqb-false _ _ (sym c.if-is_empty.ensures) in
    record {
      given = sym (first_value-rows (found_of c.args.found.now) (codes "name")) ∙ sym c.in-Some.ensures ∙ ap Some (sym c.in_ok-from_str.ensures.ok);
      some = subst (λ (l : List ℕ). 1 ≤ length l) (sym c.in_ok-from_str.ensures.ok) (omega (arith, some));
    }
