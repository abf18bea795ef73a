use Rattle.std.proofs.Common.{rules, ◌≡◌, ◌∙◌, ap, sym, codes, None, Some}
use Rattle.clap.specs.Matches.{first_value, found_of}
use Rattle.clap.proofs.WalkLemmas.{first_value-rows}
use Rattle.mgr_args.proofs.GivenLemmas.{settled}
use Rattle.mgr_args.proofs.given.settings_of.Goals as goal

pub returns-in_default : goal.returns-in_default
returns-in_default c = λ v given allowed.
    let none : first_value (found_of c.args.found.now) (codes "name") ≡ None = search rules in
    let clash : None ≡ Some v.name = sym none ∙ first_value-rows (found_of c.args.found.now) (codes "name") ∙ given.name in
    absurd cc

pub returns : goal.returns
returns c =
    let name = sym (first_value-rows (found_of c.args.found.now) (codes "name")) ∙ sym c.in-Some.ensures
    ∙ ap Some (sym (c.in-Some-values_of.ensures.name ∙ c.in_ok-from_str.ensures.ok)) in
    settled _ _ c.new.result (record { name = name; options = c.in-Some-values_of.ensures.options }) c.new.ensures.exact c.new.ensures.values

pub returns-in_default-values_of : goal.returns-in_default-values_of
returns-in_default-values_of c = λ v given allowed.
    let none : c.values_of.result ≡ None = search rules in
    c.values_of.ensures.none none v given.options
