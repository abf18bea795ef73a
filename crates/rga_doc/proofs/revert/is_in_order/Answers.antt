use Rattle.rga_doc.proofs.Prelude.{◌≡◌, false, not, ◌&&◌, ◌||◌, is_some, refl, sym, ap, ◌∙◌, Option, Some, None, is_root, Element, Content, is_complete, root_path}
use Rattle.rga_store.proofs.ElementSteps.{pair_of}
use Rattle.rga_doc.proofs.CompleteLaws.{inserted_complete}
use Rattle.rga_doc.proofs.PlaceLaws.{stands_is}
use Rattle.std.specs.FinMap as finite_map
use Rattle.rga_doc.proofs.revert.is_in_order.Goals as goal

inserted : (o : Option Element) → is_some (pair_of o) ≡ is_some o
inserted None = refl
inserted (Some x) = refl

pub returns-then-waits-eq0 : goal.returns-then-waits-eq0
returns-then-waits-eq0 g c =
    let content : Content = g.S.Taker.content c.args.store.now in
    c.is_some.ensures ∙ ap is_some c.get.ensures ∙ inserted (finite_map.get content.inserted c.args.id)
    ∙ inserted_complete content (sym c.requires ∙ c.if-waits-eq0.true) c.args.id

pub returns-then-eq : goal.returns-then-eq
returns-then-eq g c =
    let content : Content = g.S.Taker.content c.args.store.now in
    λ k. not (sym (sym c.eq.ensures ∙ c.if-eq.true) k) && is_some (root_path content c.args.id)

pub returns : goal.returns
returns g c =
    let content : Content = g.S.Taker.content c.args.store.now in
    let other : is_root c.args.id ≡ false = sym c.eq.ensures ∙ c.if-eq.false in
    c.is_some-2.ensures ∙ ap is_some c.place_of.ensures ∙ stands_is content c.args.id ∙ ap (λ b. b || is_complete content c.args.id) other
