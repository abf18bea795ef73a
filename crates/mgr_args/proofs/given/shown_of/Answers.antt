use Rattle.std.proofs.Common.{rules, ◌≡◌, ◌∙◌, ◌≤◌, inl, inr, List, ℕ, ap, sym, subst, codes, length, None, Some, arith}
use Rattle.std.proofs.lemmas.Bool.{eqb-true, eqb-false}
use Rattle.std.proofs.lemmas.List.{nil_from_length}
use Rattle.clap.specs.Matches.{first_value, found_of}
use Rattle.clap.proofs.WalkLemmas.{first_value-rows}
use Rattle.mgr_args.proofs.given.shown_of.Goals as goal

pub returns-in-Some-lines : goal.returns-in-Some-lines
returns-in-Some-lines c =
    let none : first_value (found_of c.args.found.now) (codes "name") ≡ None = search rules in
    inr (sym (first_value-rows (found_of c.args.found.now) (codes "name")) ∙ none, c.in-Some-lines.field-0, c.in-Some-lines.ensures)

pub returns-in-None : goal.returns-in-None
returns-in-None c =
    let none : first_value (found_of c.args.found.now) (codes "name") ≡ None = search rules in
    (sym (first_value-rows (found_of c.args.found.now) (codes "name")) ∙ none, c.in-None.ensures)

pub returns-then-is_empty : goal.returns-then-is_empty
returns-then-is_empty c =
    let none : length c.in-Some.name.now ≡ 0 = eqb-true _ _ (sym c.if-is_empty.ensures) in
    inl (sym (first_value-rows (found_of c.args.found.now) (codes "name")) ∙ sym c.in-Some.ensures ∙ ap Some (nil_from_length c.in-Some.name.now none))

pub returns : goal.returns
returns c =
    let some = eqb-false _ _ (sym c.if-is_empty.ensures) in (
      record {
        given = sym (first_value-rows (found_of c.args.found.now) (codes "name")) ∙ sym c.in-Some.ensures ∙ ap Some (sym c.in_ok-name.ensures.ok);
        some = subst (λ (l : List ℕ). 1 ≤ length l) (sym c.in_ok-name.ensures.ok) (omega (arith, some));
      },
      c.lines-lines.ensures,
    )
