use Rattle.mg_buffer.proofs.Prelude.{rules, [], ◌∷◌, refl, single}
use Rattle.rga_store.proofs.TakingLaws.{joined_taken}
use Rattle.mg_buffer.proofs.KeptLaws.{kept_taken}
use Rattle.mg_buffer.proofs.TakingLaws.{known_adds_nothing, new_is_added}
use Rattle.mg_buffer.proofs.taking.BufferTaker.apply.Goals as goal

pub returns-then-eq-clause-follows : goal.returns-then-eq-clause-follows
returns-then-eq-clause-follows g c = known_adds_nothing c.args.self.now _ c.args.op (search rules) (search rules)

pub returns-then-eq-clause-took : goal.returns-then-eq-clause-took
returns-then-eq-clause-took g c = joined_taken _ _ (c.args.op ∷ []) (returns-then-eq-clause-follows g c).content

pub invariant_of-self-2 : goal.invariant_of-self-2
invariant_of-self-2 g c =
    kept_taken c.self.inside.doc c.take_one.new.doc c.self.inside.point c.self.inside.line _ c.self.inside.mark c.self.inside.history c.self.inside.listed (single c.args.op) c.self.invariant (search rules) refl refl

pub returns-clause-follows : goal.returns-clause-follows
returns-clause-follows g c = new_is_added c.args.self.now _ c.args.op (search rules) (search rules)

pub returns-clause-took : goal.returns-clause-took
returns-clause-took g c = joined_taken _ _ (c.args.op ∷ []) (returns-clause-follows g c).content
