use Rattle.std.proofs.Common.{rules, ◌≡◌, true, false, cond, [], ◌∷◌, ◌++◌, sym, ap, ◌∙◌, subst}
use Rattle.std.specs.Prelude.{OnErr}
use Rattle.std.specs.Option.{unwrap_or}
use Rattle.std.specs.Map.{lookup}
use Rattle.std.specs.BTreeMap.Entry.{IsEntryFor, map_with_value}
use Rattle.rga_ops.specs.Identifier.{Identifier, id_cmp}
use Rattle.rga_ops.proofs.IdentifierLaws.{is}
use Rattle.rga_flat.specs.Waiting.{Waiting, under, has_list, KeepsUnder, KeepsLists}
use Rattle.rga_ops.proofs.CaseSteps.{on_err_always}
use Rattle.rga_flat.proofs.WaitingLaws.{found_or_new, same_under, pushed_under, lists_now}
use Rattle.rga_flat.proofs.waiting.push_under.Goals as goal

pub returns-in_err-push-clause-same : goal.returns-in_err-push-clause-same
returns-in_err-push-clause-same c =
    let entry : IsEntryFor id_cmp c.args.waiting.now c.args.parent c.in_ok-waiting.field-0 = c.in_ok-waiting.ensures.update in
    let kept : (m : Waiting) → m ≡ map_with_value c.in_ok-waiting.field-0 c.push.new.self → OnErr c.from_residual-in_err-push.result (KeepsUnder c.args.waiting.now m) = λ m written.
    on_err_always c.from_residual-in_err-push.result (λ p. ap (λ (n : Waiting). under n p) written
    ∙ same_under c.args.waiting.now (map_with_value c.in_ok-waiting.field-0 c.push.new.self) c.args.parent c.push.new.self (entry.0 c.push.new.self).0
    (c.in_err-push.ensures.items ∙ found_or_new (lookup (is c.args.parent) c.args.waiting.now.entries) c.or_insert-list.result.now c.new.result (c.or_insert-list.ensures.value ∙ ap (λ o. unwrap_or o c.new.result) c.in_ok-waiting.ensures.value) c.new.ensures.items) p) in
    search (rules, kept)

pub returns-in_err-push-clause-lists : goal.returns-in_err-push-clause-lists
returns-in_err-push-clause-lists c =
    let entry : IsEntryFor id_cmp c.args.waiting.now c.args.parent c.in_ok-waiting.field-0 = c.in_ok-waiting.ensures.update in
    let kept : (m : Waiting) → m ≡ map_with_value c.in_ok-waiting.field-0 c.push.new.self → KeepsLists c.args.waiting.now m c.args.parent = λ m written.
    subst (λ (n : Waiting). KeepsLists c.args.waiting.now n c.args.parent) (sym written)
    (lists_now c.args.waiting.now (map_with_value c.in_ok-waiting.field-0 c.push.new.self) c.args.parent c.push.new.self (entry.0 c.push.new.self).0) in
    search (rules, kept)

pub returns-clause-ok : goal.returns-clause-ok
returns-clause-ok c =
    let entry : IsEntryFor id_cmp c.args.waiting.now c.args.parent c.in_ok-waiting.field-0 = c.in_ok-waiting.ensures.update in
    let pushed : (m : Waiting) → m ≡ map_with_value c.in_ok-waiting.field-0 c.push.new.self → (p : Identifier) → under m p ≡ cond (is c.args.parent p) (under c.args.waiting.now p ++ c.args.id ∷ []) (under c.args.waiting.now p) = λ m written p.
    ap (λ (n : Waiting). under n p) written
    ∙ pushed_under c.args.waiting.now (map_with_value c.in_ok-waiting.field-0 c.push.new.self) c.args.parent c.push.new.self (entry.0 c.push.new.self).0 c.args.id
    (c.in_ok-push.ensures.items ∙ ap (λ xs. xs ++ c.args.id ∷ []) (found_or_new (lookup (is c.args.parent) c.args.waiting.now.entries) c.or_insert-list.result.now c.new.result (c.or_insert-list.ensures.value ∙ ap (λ o. unwrap_or o c.new.result) c.in_ok-waiting.ensures.value) c.new.ensures.items)) p in
    search (rules, pushed)

pub returns-clause-lists : goal.returns-clause-lists
returns-clause-lists c =
    let entry : IsEntryFor id_cmp c.args.waiting.now c.args.parent c.in_ok-waiting.field-0 = c.in_ok-waiting.ensures.update in
    let kept : (m : Waiting) → m ≡ map_with_value c.in_ok-waiting.field-0 c.push.new.self → KeepsLists c.args.waiting.now m c.args.parent = λ m written.
    subst (λ (n : Waiting). KeepsLists c.args.waiting.now n c.args.parent) (sym written)
    (lists_now c.args.waiting.now (map_with_value c.in_ok-waiting.field-0 c.push.new.self) c.args.parent c.push.new.self (entry.0 c.push.new.self).0) in
    let stays : (m : Waiting) → m ≡ map_with_value c.in_ok-waiting.field-0 c.push.new.self → (p : Identifier) → has_list c.args.waiting.now p ≡ true → has_list m p ≡ true = λ m written. (kept m written).0 in
    let others : (m : Waiting) → m ≡ map_with_value c.in_ok-waiting.field-0 c.push.new.self → (p : Identifier) → is c.args.parent p ≡ false → has_list m p ≡ has_list c.args.waiting.now p = λ m written. (kept m written).1 in
    (search (rules, stays), search (rules, others))
