use Rattle.std.proofs.Common.{ℕ, sym, ap, ◌∙◌}
use Rattle.std.specs.Prelude.{Option}
use Rattle.std.specs.Option.{option_map, option_copied}
use Rattle.rga_ops.specs.Identifier.{Identifier}
use Rattle.rga_ops.specs.Content.{Element}
use Rattle.rga_tree.proofs.NodeLaws.{inserted_at, element_shown}
use Rattle.rga_tree.proofs.NodeLaws as laws
use Rattle.rga_tree.proofs.nodes.element_of.Goals as goal

shown : Option Element → Option (Identifier × ℕ)
shown = option_map (λ x. (x.parent, x.ch))

pub returns-in_err-get : goal.returns-in_err-get
unfolding shown
returns-in_err-get c =
    c.from_residual.ensures
    ∙ sym (ap shown (inserted_at c.args.nodes.now.entries c.requires c.args.id ∙ ap laws.element_of (sym c.get.ensures.value ∙ ap option_copied c.in_err-get.was)))

pub returns : goal.returns
unfolding shown
returns c =
    sym (ap shown (inserted_at c.args.nodes.now.entries c.requires c.args.id ∙ ap laws.element_of (sym c.get.ensures.value ∙ ap option_copied c.in_ok-get.was))
    ∙ element_shown c.in_ok-get.field-0.now.element)
