use Rattle.mg_buffer.proofs.Prelude.{rules, ◌≡◌, ℕ, List, map, sym, subst, ap, map-id, Identifier, PastList, Restored, latest}
use Rattle.mg_buffer.proofs.RestoredLaws.{others_settled}
use Rattle.mg_buffer.proofs.history.History.settle.Goals as goal

abbrev settled_by : List (Identifier × ℕ) → Restored → Type 0
settled_by deleted rs = map (λ (b : Identifier × ℕ). (latest rs b.0, b.1)) deleted ≡ deleted

pub returns-then-not-is_any_restored-clause-settled : goal.returns-then-not-is_any_restored-clause-settled
returns-then-not-is_any_restored-clause-settled c =
    let own : settled_by c.args.deleted.now c.self.inside.restored.entries = others_settled c.self.inside.restored.entries c.args.deleted.now (search rules) in
    let here : settled_by c.args.deleted.now c.args.self.now.restored = subst (settled_by c.args.deleted.now) (ap (λ (h : PastList). h.restored) c.self.view_is) own in
    search rules

pub returns-clause-settled : goal.returns-clause-settled
returns-clause-settled c =
    let here : settled_by c.args.deleted.now c.clear.new.self.entries = subst (settled_by c.args.deleted.now) (sym c.clear.ensures.empty) (map-id c.args.deleted.now) in
    search rules
