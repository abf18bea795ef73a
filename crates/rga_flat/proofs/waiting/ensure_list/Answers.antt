use Rattle.std.proofs.Common.{rules, ◌≡◌, sym, ap, ◌∙◌, subst}
use Rattle.std.specs.Option.{unwrap_or}
use Rattle.std.specs.Map.{lookup}
use Rattle.std.specs.BTreeMap.Entry.{IsEntryFor, map_with_value}
use Rattle.rga_ops.specs.Identifier.{id_cmp}
use Rattle.rga_ops.proofs.IdentifierLaws.{is}
use Rattle.rga_flat.specs.Waiting.{Waiting, under, KeepsUnder, KeepsLists}
use Rattle.rga_flat.proofs.WaitingLaws.{found_or_new, same_under, lists_now}
use Rattle.rga_flat.proofs.waiting.ensure_list.Goals as goal

pub returns-clause-under : goal.returns-clause-under
returns-clause-under c =
    let entry : IsEntryFor id_cmp c.args.waiting.now c.args.id c.in_ok-waiting.field-0 = c.in_ok-waiting.ensures.update in
    let kept : (m : Waiting) → m ≡ map_with_value c.in_ok-waiting.field-0 c.or_insert-list.result.now → KeepsUnder c.args.waiting.now m = λ m written p.
    ap (λ (n : Waiting). under n p) written
    ∙ same_under c.args.waiting.now (map_with_value c.in_ok-waiting.field-0 c.or_insert-list.result.now) c.args.id c.or_insert-list.result.now (entry.0 c.or_insert-list.result.now).0
    (found_or_new (lookup (is c.args.id) c.args.waiting.now.entries) c.or_insert-list.result.now c.new.result (c.or_insert-list.ensures.value ∙ ap (λ o. unwrap_or o c.new.result) c.in_ok-waiting.ensures.value) c.new.ensures.items) p in
    search (rules, kept)

pub returns-clause-lists : goal.returns-clause-lists
returns-clause-lists c =
    let entry : IsEntryFor id_cmp c.args.waiting.now c.args.id c.in_ok-waiting.field-0 = c.in_ok-waiting.ensures.update in
    let kept : (m : Waiting) → m ≡ map_with_value c.in_ok-waiting.field-0 c.or_insert-list.result.now → KeepsLists c.args.waiting.now m c.args.id = λ m written.
    subst (λ (n : Waiting). KeepsLists c.args.waiting.now n c.args.id) (sym written)
    (lists_now c.args.waiting.now (map_with_value c.in_ok-waiting.field-0 c.or_insert-list.result.now) c.args.id c.or_insert-list.result.now (entry.0 c.or_insert-list.result.now).0) in
    search (rules, kept)
