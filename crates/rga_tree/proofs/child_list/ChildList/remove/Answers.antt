use Rattle.std.proofs.Common.{arith, rules, ◌≡◌, Bool, false, cond, not, ◌&&◌, sym, ap, ◌∙◌, subst}
use Rattle.std.specs.List.{list_any}
use Rattle.std.proofs.lemmas.List.Kept.{IsStrictlySortedBy-filter}
use Rattle.rga_ops.specs.Identifier.{id_cmp, is_id}
use Rattle.rga_ops.proofs.IdentifierLaws.{is, is_swap, is_id-same}
use Rattle.rga_store.specs.Rising.{IsRising}
use Rattle.rga_store.proofs.RetainLaws.{filter_retained}
use Rattle.rga_tree.specs.Children.{has_child, children_in, others_than}
use Rattle.rga_tree.proofs.ChildListLaws.{has-any, has-others}
use Rattle.rga_tree.proofs.child_list.ChildList.remove.Goals as goal

pub returns-in-Few-clause-removed : goal.returns-in-Few-clause-removed
returns-in-Few-clause-removed c = λ k.
    let left : c.retain.new.self.items ≡ others_than c.args.id c.in-Few.few.items =
    filter_retained _ (λ x. not (is_id x c.args.id)) _ (λ x b f y k. search rules) c.in-Few.few.items c.retain.new.self.items c.retain.ensures.filtered in
    ap (λ ks. has_child ks k) left ∙ has-others c.args.id k c.in-Few.few.items
    ∙ ap (λ l. has_child (children_in l) k && not (is_id c.args.id k)) (sym c.in-Few.is)

pub returns-in-Few-clause-rising : goal.returns-in-Few-clause-rising
returns-in-Few-clause-rising c =
    let left : c.retain.new.self.items ≡ others_than c.args.id c.in-Few.few.items =
    filter_retained _ (λ x. not (is_id x c.args.id)) _ (λ x b f y k. search rules) c.in-Few.few.items c.retain.new.self.items c.retain.ensures.filtered in
    subst (λ ks. IsRising ks) (sym left)
    (IsStrictlySortedBy-filter id_cmp (λ x. not (is_id x c.args.id)) c.in-Few.few.items (subst (λ l. IsRising (children_in l)) c.in-Few.is c.requires))

-- the child is gone, and any other one is there as before
apart : (here there : Bool) → cond here false there ≡ (there && not here)
apart here there = grind arith

pub returns-in-Many-clause-removed : goal.returns-in-Many-clause-removed
returns-in-Many-clause-removed c = λ k.
    has-any c.remove-was_there.new.self.keys k
    ∙ c.remove-was_there.ensures.updates.0 k
    ∙ apart (is c.args.id k) (list_any (is k) c.in-Many.set.keys)
    ∙ (λ i. sym (has-any c.in-Many.set.keys k) i && not ((is_swap c.args.id k ∙ sym (is_id-same c.args.id k)) i))
    ∙ ap (λ l. has_child (children_in l) k && not (is_id c.args.id k)) (sym c.in-Many.is)
