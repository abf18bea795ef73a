use Rattle.std.proofs.Common.{◌≡◌, ◌≤◌, length, sym, ap, ◌∙◌, subst}
use Rattle.std.specs.List.Sorted.{IsPartitionPoint}
use Rattle.std.specs.declared.cmp.Ordering.TheVariants.{Less, Greater}
use Rattle.rga_ops.specs.Identifier.{id_cmp}
use Rattle.rga_store.specs.Rising.{IsRising}
use Rattle.rga_tree.specs.Children.{has_child}
use Rattle.rga_tree.proofs.ChildListLaws.{has-insert, rising-insert}
use Rattle.rga_tree.proofs.child_list.put_among_few.Goals as goal

pub returns-clause-added : goal.returns-clause-added
returns-clause-added c = λ k. ap (λ ks. has_child ks k) c.in_ok-insert.ensures.ok ∙ has-insert c.args.id k c.args.few.now.items c.insertion_index-index.result

pub returns-clause-rising : goal.returns-clause-rising
returns-clause-rising c =
    let within : c.insertion_index-index.result ≤ length c.args.few.now.items = subst (λ xs. c.insertion_index-index.result ≤ length xs) c.as_slice.ensures c.insertion_index-index.ensures.within in
    let parts : IsPartitionPoint (λ y. id_cmp y c.args.id ≡ Less) (λ y. id_cmp y c.args.id ≡ Greater) c.args.few.now.items c.insertion_index-index.result =
    subst (λ xs. IsPartitionPoint (λ y. id_cmp y c.args.id ≡ Less) (λ y. id_cmp y c.args.id ≡ Greater) xs c.insertion_index-index.result) c.as_slice.ensures c.insertion_index-index.ensures.index in
    subst (λ ks. IsRising ks) (sym c.in_ok-insert.ensures.ok) (rising-insert c.args.id c.args.few.now.items c.insertion_index-index.result within c.requires.rising parts.0 parts.1)
