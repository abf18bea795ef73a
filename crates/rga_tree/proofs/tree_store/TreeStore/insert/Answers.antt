use Rattle.std.proofs.Common.{rules, refl, ◌≡◌, ◌≤◌, ◌+◌, cond, ◌&&◌, ◌||◌, sym, ap, ◌∙◌, subst, arith}
use Rattle.std.specs.Prelude.{Ok, max}
use Rattle.std.specs.FinMap as finite_map
use Rattle.std.specs.FinSet as finite_set
use Rattle.rga_ops.specs.Identifier.{Identifier, is_id}
use Rattle.rga_ops.specs.Content.{Content, join, single}
use Rattle.rga_ops.specs.Answer.{facts, answer, answer_from}
use Rattle.rga_ops.specs.Found.{facts_of}
use Rattle.rga_ops.proofs.AnswerLaws.{ok}
use Rattle.rga_ops.specs.declared.op.Op.TheVariants.{Insert}
use Rattle.rga_ops.specs.declared.refusal.Taken.TheVariants.{New}
use Rattle.rga_store.specs.Kept.{Kept}
use Rattle.rga_store.specs.Rising.{IsRising}
use Rattle.rga_tree.specs.Children.{has_child}
use Rattle.rga_tree.specs.Nodes.{content_of_nodes, children_of}
use Rattle.rga_store.proofs.CountedLaws.{few_inserted}
use Rattle.rga_tree.proofs.TreeLaws.{tree_same, tree_insertion}
use Rattle.rga_tree.proofs.tree_store.TreeStore.insert.Goals as goal

pub overflow_add-self : goal.overflow_add-self
overflow_add-self c = let few = few_inserted _ _ _ _ _ c.self.invariant.counted in omega arith

-- until the element comes the content is as it was
before : (c : goal.After-raise) → content_of_nodes c.add_child.new.nodes.entries ≡ content_of_nodes c.self.inside.nodes.entries
before c = c.in_ok-add_child.ensures.content ∙ c.in_ok-index.ensures.content ∙ c.in_ok-above.ensures.content

children : (c : goal.After-raise) (p k : Identifier) → has_child (children_of c.set_element-deleted.new.nodes.entries p) k ≡ (has_child (children_of c.self.inside.nodes.entries p) k || (is_id c.args.parent p && is_id c.args.id k))
children c p k =
    ap (λ ks. has_child ks k) (c.set_element-deleted.ensures.children p) ∙ c.in_ok-add_child.ensures.added p k
    ∙ ap (λ ks. has_child ks k || (is_id c.args.parent p && is_id c.args.id k)) (c.in_ok-index.ensures.children p ∙ c.in_ok-above.ensures.children p)

-- what is found of the identifier is what the store knows
found : (c : goal.After-raise) → facts_of c.found_at-found.result ≡ facts c.self.inside.limit (content_of_nodes c.self.inside.nodes.entries) c.args.id
found c =
    λ k. record {
      found = (c.found_at-found.ensures.found ∙ ap (λ (d : Content). finite_map.get d.inserted c.args.id) (c.in_ok-index.ensures.content ∙ c.in_ok-above.ensures.content)) k;
      deleted = (c.found_at-found.ensures.deleted ∙ ap (λ (d : Content). finite_set.contains d.deleted c.args.id) (c.in_ok-index.ensures.content ∙ c.in_ok-above.ensures.content)) k;
      known = (c.found_at-found.ensures.known ∙ c.self.invariant.counted.known) k;
      limit = c.found_at-found.ensures.limit k;
    }

answered : (c : goal.After-raise) → answer c.self.inside.limit (content_of_nodes c.self.inside.nodes.entries) (Insert c.args.id c.args.parent c.args.ch) ≡ Ok New
answered c =
    let is_new : c.answer_to-answer.result ≡ ok New = search rules in
    ap (answer_from (Insert c.args.id c.args.parent c.args.ch)) (sym (found c)) ∙ sym c.answer_to-answer.ensures ∙ is_new

pub invariant_of-self-2 : goal.invariant_of-self-2
invariant_of-self-2 c =
    tree_insertion _ _ _ _ _ _ c.self.invariant c.set_element-deleted.ensures.apart c.args.id c.args.parent c.args.ch _ _ (answered c)
    (c.set_element-deleted.ensures.content ∙ ap (λ d. join d (single (Insert c.args.id c.args.parent c.args.ch))) (before c))
    (children c)
    (λ p. rw (c.set_element-deleted.ensures.children p) (c.in_ok-add_child.ensures.rising p))
    (c.raise.ensures ∙ ap (max c.self.inside.clock) c.counter.ensures.value)
    (c.count_unless.ensures ∙ ap (λ b. cond b c.self.inside.known (c.self.inside.known + 1)) (c.set_element-deleted.ensures.deleted ∙ ap (λ (d : Content). finite_set.contains d.deleted c.args.id) (before c)))

pub add_child-requires-clause-rising : goal.add_child-requires-clause-rising
add_child-requires-clause-rising c = λ p. rw (c.in_ok-index.ensures.children p, c.in_ok-above.ensures.children p) (c.self.invariant.family.rising p)

pub set_element-deleted-requires-clause-index : goal.set_element-deleted-requires-clause-index
set_element-deleted-requires-clause-index c = c.add_child.ensures.others c.in_ok-index.index c.args.id c.in_ok-index.ensures.index

-- ---- where it is not new, or there is no memory for it, content and children are as they were

pub invariant_of-self-then-ne : goal.invariant_of-self-then-ne
invariant_of-self-then-ne c =
    tree_same _ _ _ _ _ _ c.self.invariant c.in_ok-index.ensures.apart (c.in_ok-index.ensures.content ∙ c.in_ok-above.ensures.content) (λ p. c.in_ok-index.ensures.children p ∙ c.in_ok-above.ensures.children p)

pub invariant_of-self-in_err-add_child : goal.invariant_of-self-in_err-add_child
invariant_of-self-in_err-add_child c =
    tree_same _ _ _ _ _ _ c.self.invariant c.add_child.ensures.apart
    (c.add_child.ensures.content ∙ c.in_ok-index.ensures.content ∙ c.in_ok-above.ensures.content) (λ p. c.in_err-add_child.ensures.same p ∙ c.in_ok-index.ensures.children p ∙ c.in_ok-above.ensures.children p)

pub returns-then-ne-clause-same : goal.returns-then-ne-clause-same
returns-then-ne-clause-same c = λ _. c.in_ok-index.ensures.content ∙ c.in_ok-above.ensures.content ∙ ap (λ (v : Kept). v.content) c.self.view_is

pub returns-then-ne-clause-limit : goal.returns-then-ne-clause-limit
returns-then-ne-clause-limit c = ap (λ (v : Kept). v.limit) c.self.view_is

-- ---- what is new is there

pub returns-clause-new : goal.returns-clause-new
returns-clause-new c = λ _.
    c.set_element-deleted.ensures.content
    ∙ ap (λ d. join d (single (Insert c.args.id c.args.parent c.args.ch)))
    (c.in_ok-add_child.ensures.content ∙ c.in_ok-index.ensures.content ∙ c.in_ok-above.ensures.content ∙ ap (λ (v : Kept). v.content) c.self.view_is)

pub returns-clause-same : goal.returns-clause-same
returns-clause-same c = λ other. absurd (other refl)

pub returns-clause-limit : goal.returns-clause-limit
returns-clause-limit c = ap (λ (v : Kept). v.limit) c.self.view_is
