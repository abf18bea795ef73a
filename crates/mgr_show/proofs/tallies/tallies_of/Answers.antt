use Rattle.std.proofs.Common.{◌≡◌, ◌+◌, ◌≤◌, ◌∷◌, suc, length, ap, sym, subst, ◌∙◌, arith}
use Rattle.std.specs.List.{All}
use Rattle.std.specs.Map.{values_of}
use Rattle.rga_ops.specs.declared.op.Op.{Op}
use Rattle.rga_ops.specs.declared.op.Op.TheVariants.{Insert}
use Rattle.mgr_show.specs.Tallies.{and_tallies}
use Rattle.mgr_show.specs.declared.tallies.Tally.{Tally}
use Rattle.mgr_show.proofs.TallyLaws.{few_after}
use Rattle.mgr_show.proofs.tallies.tallies_of.Goals as goal

pub ops-preserved-in_ok-add_character : goal.ops-preserved-in_ok-add_character
ops-preserved-in_ok-add_character c =
    let parts = c.in-Some.ensures.cases in
    let is : c.ops.rest.now ≡ Insert c.in-Insert.id c.in-Insert.parent c.in-Insert.ch ∷ c.in-Some.behind.now = parts.0 ∙ ap (λ (op : Op). op ∷ c.in-Some.behind.now) c.in-Insert.is in
    let long : length c.ops.rest.now ≡ suc (length c.in-Some.behind.now) = ap length parts.0 in
    record {
      told = ap (λ es. and_tallies es c.in-Some.behind.now) c.in_ok-add_character.ensures ∙ ap (and_tallies c.ops.tallies.entries) (sym is) ∙ c.ops.invariant.told;
      left = omega (arith, long, c.ops.invariant.left);
      few =
          subst (λ es. All (λ (t : Tally). t.characters + length c.in-Some.behind.now ≤ length c.args.ops.now) (values_of es)) (sym c.in_ok-add_character.ensures)
          (few_after (length c.args.ops.now) (length c.in-Some.behind.now) c.ops.tallies.entries c.in-Insert.id.replica c.in-Insert.id.counter (subst (λ n. n ≤ length c.args.ops.now) long c.ops.invariant.left)
          (subst (λ n. All (λ (t : Tally). t.characters + n ≤ length c.args.ops.now) (values_of c.ops.tallies.entries)) long c.ops.invariant.few));
    }
