use Rattle.std.proofs.Common.{rules, ◌≡◌, is_some, not, sym, ap, ◌∙◌}
use Rattle.std.specs.Prelude.{Some}
use Rattle.std.specs.Option.{option_copied_mut}
use Rattle.std.specs.Map.{lookup}
use Rattle.rga_ops.specs.Identifier.{is_id}
use Rattle.rga_ops.specs.Placement.{without}
use Rattle.rga_ops.proofs.IdentifierLaws.{is}
use Rattle.rga_store.proofs.RetainLaws.{filter_retained}
use Rattle.rga_flat.proofs.WaitingLaws.{changed_under, kept_list, list_items}
use Rattle.rga_flat.proofs.waiting.remove_child.Goals as goal

pub returns-in-Some-clause-under : goal.returns-in-Some-clause-under
returns-in-Some-clause-under c =
    let found : lookup (is c.args.parent) c.args.waiting.now.entries ≡ Some c.in-Some.list.now = sym c.get_mut.ensures.value ∙ ap option_copied_mut c.in-Some.is in
    let left : c.retain_mut.new.self.items ≡ without c.args.id c.in-Some.list.now.items =
    filter_retained _ (λ x. not (is_id x c.args.id)) _ (λ x b f y k. search rules) c.in-Some.list.now.items c.retain_mut.new.self.items c.retain_mut.ensures.filtered in
    changed_under c.args.waiting.now (c.get_mut.follows.lender c.retain_mut.new.self) c.args.parent c.retain_mut.new.self ((c.get_mut.follows.holds c.retain_mut.new.self).3 (ap is_some found)).0
    (without c.args.id) (left ∙ ap (without c.args.id) (sym (ap list_items found)))

pub returns-in-Some-clause-lists : goal.returns-in-Some-clause-lists
returns-in-Some-clause-lists c =
    let found : lookup (is c.args.parent) c.args.waiting.now.entries ≡ Some c.in-Some.list.now = sym c.get_mut.ensures.value ∙ ap option_copied_mut c.in-Some.is in
    kept_list c.args.waiting.now (c.get_mut.follows.lender c.retain_mut.new.self) c.args.parent c.retain_mut.new.self ((c.get_mut.follows.holds c.retain_mut.new.self).3 (ap is_some found)).0
    (ap is_some found)
