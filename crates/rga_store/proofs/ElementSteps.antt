-- An element as a store tells it, its parent and its character, and one that is looked up in two places.
use Rattle.rga_store.proofs.Prelude.{◌≡◌, ℕ, Bool, true, false, cond, refl, sym, ap, ◌∙◌, Option, Some, None, option_map, option_or, same_Some, none-some, Identifier, Element, element}

abbrev pub pair_of : Option Element → Option (Identifier × ℕ)
pair_of = option_map (λ x. (x.parent, x.ch))

pub found_element : (o : Option Element) (e : Identifier × ℕ) → pair_of o ≡ Some e → o ≡ Some (element e.0 e.1)
found_element None e h = absurd (none-some _ h)
found_element (Some x) e h = ap (λ (p : Identifier × ℕ). Some (element p.0 p.1)) (same_Some _ _ h)

pub found_none : (o : Option Element) → pair_of o ≡ None → o ≡ None
found_none None h = refl
found_none (Some x) h = absurd (none-some _ (sym h))

-- what is looked up in two places is looked up where each told what it has
pub looked_up : {a b x added o : Option (Identifier × ℕ)} → x ≡ added → a ≡ b → o ≡ option_or a x → option_or b added ≡ o
looked_up {b = b} {x = x} had told is = sym (is ∙ ap (λ y. option_or y x) told ∙ ap (option_or b) had)

-- an element that neither has is added
pub added_element : (t : Bool) (a b : Option (Identifier × ℕ)) (o : Option Element) (parent : Identifier) (ch : ℕ) → (t ≡ true → a ≡ None) → option_or a b ≡ pair_of o → option_or a (cond t (Some (parent, ch)) b) ≡ pair_of (cond t (Some (element parent ch)) o)
added_element true a b o parent ch h e = ap (λ x. option_or x (Some (parent, ch))) (h refl)
added_element false a b o parent ch h e = e
