use Rattle.rga_store.proofs.Prelude.{rules, ◌≡◌, None, sym, ◌∙◌, Content}
use Rattle.rga_store.proofs.PositionLaws.{uninserted_position, deleted_position, placeless_position, placed_position}
use Rattle.rga_store.proofs.positions.position_of.Goals as goal

pub returns-in_err-get-clause-exact : goal.returns-in_err-get-clause-exact
returns-in_err-get-clause-exact g c =
    let content : Content = g.S.Taker.content c.args.store.now in
    let none : c.from_residual.result ≡ None = search rules in
    none ∙ uninserted_position content c.args.id (sym c.get.ensures ∙ c.in_err-get.was)

pub returns-then-is_deleted-clause-exact : goal.returns-then-is_deleted-clause-exact
returns-then-is_deleted-clause-exact g c = deleted_position (g.S.Taker.content c.args.store.now) c.args.id (sym c.is_deleted.ensures ∙ c.if-is_deleted.true)

pub returns-in_err-place_of-clause-exact : goal.returns-in_err-place_of-clause-exact
returns-in_err-place_of-clause-exact g c =
    let content : Content = g.S.Taker.content c.args.store.now in
    let none : c.from_residual-in_err-place_of.result ≡ None = search rules in
    none ∙ placeless_position content c.args.id (sym c.place_of.ensures ∙ c.in_err-place_of.was)

pub returns-clause-exact : goal.returns-clause-exact
returns-clause-exact g c =
    (placed_position (g.S.Taker.content c.args.store.now) c.args.id c.in_ok-place_of.field-0 c.checked_sub.result
    (sym c.is_deleted.ensures ∙ c.if-is_deleted.false) (sym c.place_of.ensures ∙ c.in_ok-place_of.was) c.checked_sub.ensures).0

pub returns-clause-there : goal.returns-clause-there
returns-clause-there g c =
    (placed_position (g.S.Taker.content c.args.store.now) c.args.id c.in_ok-place_of.field-0 c.checked_sub.result
    (sym c.is_deleted.ensures ∙ c.if-is_deleted.false) (sym c.place_of.ensures ∙ c.in_ok-place_of.was) c.checked_sub.ensures).1
