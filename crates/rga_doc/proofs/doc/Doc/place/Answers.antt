use Rattle.rga_doc.proofs.Prelude.{◌≡◌, true, false, cond, not, ◌&&◌, filter, length, is_some, sym, ap, ◌∙◌, Ok, Some, None, same_Some, none-some, Identifier, is_root, Content, element_at, order, is_visible, up_to, place, is_complete}
use Rattle.rga_doc.proofs.Prelude.{root_path-absent, no_place, Document}
use Rattle.rga_store.proofs.ElementSteps.{found_none}
use Rattle.std.specs.FinMap as finite_map
use Rattle.rga_doc.proofs.doc.Doc.place.Goals as goal

root_place : (c : Content) (id : Identifier) → is_root id ≡ true → place c id ≡ Some 0
root_place c id r = ap (λ b. cond b (Some 0) (cond (is_complete c id) (Some (length (filter (is_visible c) (up_to id (order c))))) None)) r

absent_place : (c : Content) (id : Identifier) → is_root id ≡ false → element_at c id ≡ None → place c id ≡ None
absent_place c id other none =
    (no_place c id).1 (other, λ k. not (other k) && is_some (root_path-absent c id other (found_none (finite_map.get c.inserted id) none) k))

pub returns-in-Some-clause-root : goal.returns-in-Some-clause-root
returns-in-Some-clause-root g c = λ r.
    ap Ok (same_Some _ _ (sym c.in-Some.is ∙ c.place_of.ensures ∙ root_place (g.S.Taker.content c.self.inside.store) c.args.anchor.element r))

pub returns-in-Some-clause-absent : goal.returns-in-Some-clause-absent
returns-in-Some-clause-absent g c = λ other none.
    absurd (none-some _ (sym (absent_place (g.S.Taker.content c.self.inside.store) c.args.anchor.element other
    (ap (λ (d : Document). element_at d.content c.args.anchor.element) c.self.view_is ∙ none)) ∙ sym c.place_of.ensures ∙ c.in-Some.is))

pub returns-in-None-clause-root : goal.returns-in-None-clause-root
returns-in-None-clause-root g c = λ r.
    absurd (none-some _ (sym c.in-None.is ∙ c.place_of.ensures ∙ root_place (g.S.Taker.content c.self.inside.store) c.args.anchor.element r))
