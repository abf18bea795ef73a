use Rattle.std.proofs.Common.{false, sym, ap, ◌∙◌}
use Rattle.std.specs.Option.{option_copied, option_map_or}
use Rattle.rga_tree.proofs.MergingLaws.{means_something, known_at}
use Rattle.rga_tree.proofs.merging.knows.Goals as goal

pub returns-in-Some : goal.returns-in-Some
returns-in-Some c =
    c.is_known.ensures
    ∙ ap (λ o. option_map_or means_something o false) (ap option_copied (sym c.in-Some.is) ∙ c.get.ensures.value)
    ∙ sym (known_at c.args.nodes.now.entries c.requires c.args.id)

pub returns-in-None : goal.returns-in-None
returns-in-None c =
    ap (λ o. option_map_or means_something o false) (ap option_copied (sym c.in-None.is) ∙ c.get.ensures.value)
    ∙ sym (known_at c.args.nodes.now.entries c.requires c.args.id)
