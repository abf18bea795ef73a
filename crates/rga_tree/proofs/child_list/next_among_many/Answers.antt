use Rattle.std.proofs.Common.{arith, ◌≡◌, true, ◌&&◌, List, [], ◌∷◌, filter, refl, sym, ◌∙◌}
use Rattle.std.specs.Prelude.{Some, None}
use Rattle.std.specs.Ordering.{is_lt}
use Rattle.rga_ops.specs.Identifier.{Identifier, id_cmp}
use Rattle.rga_tree.specs.Children.{next_newer}
use Rattle.rga_tree.proofs.child_list.next_among_many.Goals as goal

abbrev newer : Identifier → List Identifier → List Identifier
newer id ks = filter (λ k. is_lt (id_cmp id k) && true) ks

-- the first that is left of a filtered list is the first that passes
first_newer : (id k : Identifier) (ks rest : List Identifier) → newer id ks ≡ k ∷ rest → next_newer id ks ≡ Some k
first_newer id k [] rest h = absurd (cc)
first_newer id k (x ∷ ks) rest h = grind (arith, first_newer id k ks rest, h)

none_newer : (id : Identifier) (ks : List Identifier) → newer id ks ≡ [] → next_newer id ks ≡ None
none_newer id [] h = refl
none_newer id (x ∷ ks) h = grind (arith, none_newer id ks, h)

pub returns-in-Some : goal.returns-in-Some
returns-in-Some c = sym (first_newer c.args.id c.in-Some.child.now c.args.set.now.keys c.next.new.self (sym (c.range.ensures.between tt) ∙ c.in-Some.ensures.steps))

pub returns-in-None : goal.returns-in-None
returns-in-None c = sym (none_newer c.args.id c.args.set.now.keys (sym (c.range.ensures.between tt) ∙ c.in-None.ensures.steps.0))
