use Rattle.rga_store.proofs.Prelude.{◌≡◌, ℕ, Bool, true, false, cond, refl, sym, ap, ◌∙◌, Option, Some, None, option_or, Identifier, is_id, Element, element, Content, join, single, is, same_id, is_id-same, get-join, or_none, get-single, first_none, get-insertion, Insert}
use Rattle.std.specs.FinMap as finite_map
use Rattle.indexmap.specs.IndexMap.{get}
use Rattle.rga_store.proofs.ElementSteps.{pair_of, found_element, found_none, looked_up, added_element}
use Rattle.rga_store.proofs.answers.new_operations.insertion_is_new.Goals as goal

-- an identifier that is inserted stays as it is
get-known : (d : Content) (id parent : Identifier) (ch : ℕ) (x : Element) (q : Identifier) → finite_map.get d.inserted id ≡ Some x → finite_map.get (join d (single (Insert id parent ch))).inserted q ≡ finite_map.get d.inserted q
get-known d id parent ch x q there =
    get-join d (single (Insert id parent ch)) q ∙ ap (option_or (finite_map.get d.inserted q)) (get-single id parent ch q)
    ∙ by (finite_map.get d.inserted q) (is q id) (λ t. ap (finite_map.get d.inserted) (same_id q id t) ∙ there)
  where
    by : (o : Option Element) (b : Bool) → (b ≡ true → o ≡ Some x) → option_or o (cond b (Some (element parent ch)) None) ≡ o
    by o true h = ap (λ p. option_or p (Some (element parent ch))) (h refl) ∙ sym (h refl)
    by o false h = or_none o

pub returns-in-Some-clause-added : goal.returns-in-Some-clause-added
returns-in-Some-clause-added g c = λ d reached q.
    let there : finite_map.get d.inserted c.args.id ≡ Some (element c.in-Some.first.0 c.in-Some.first.1) =
    found_element (finite_map.get d.inserted c.args.id) c.in-Some.first (sym (reached c.args.id) ∙ looked_up (c.copied.ensures ∙ c.get-2.ensures.value) c.get.ensures c.or.ensures ∙ c.in-Some.is) in
    reached q ∙ ap pair_of (sym (get-known d c.args.id c.args.element.0 c.args.element.1 (element c.in-Some.first.0 c.in-Some.first.1) q there))

pub returns-in_ok-_none-in-None-clause-added : goal.returns-in_ok-_none-in-None-clause-added
returns-in_ok-_none-in-None-clause-added g c = λ d reached q.
    let s : Content = g.S.Taker.content c.args.store.now in
    let neither : option_or (pair_of (finite_map.get s.inserted c.args.id)) (get is_id c.args.added.now c.args.id) ≡ None = looked_up (c.copied.ensures ∙ c.get-2.ensures.value) c.get.ensures c.or.ensures ∙ c.in-None.is in
    let told : option_or (pair_of (finite_map.get s.inserted c.args.id)) (get is_id c.args.added.now c.args.id) ≡ pair_of (finite_map.get d.inserted c.args.id) = reached c.args.id in
    let absent : finite_map.get d.inserted c.args.id ≡ None = found_none (finite_map.get d.inserted c.args.id) (sym told ∙ neither) in
    ap (option_or (pair_of (finite_map.get s.inserted q))) (c.in_ok-_none-in-None.ensures.updates.0 q
    ∙ ap (λ t. cond t (Some (c.args.element.0, c.args.element.1)) (get is_id c.args.added.now q)) (is_id-same c.args.id q))
    ∙ added_element (is q c.args.id) (pair_of (finite_map.get s.inserted q)) (get is_id c.args.added.now q) (finite_map.get d.inserted q) c.args.element.0 c.args.element.1
    (λ t. ap (λ k. pair_of (finite_map.get s.inserted k)) (same_id q c.args.id t) ∙ first_none _ _ neither)
    (reached q)
    ∙ ap pair_of (sym (get-insertion d c.args.id c.args.element.0 c.args.element.1 q absent))
