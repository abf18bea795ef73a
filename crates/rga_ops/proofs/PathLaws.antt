-- The root path: the function finds it exactly where the relation has it, there is one at most, and it stays as a
-- content grows.
use Rattle.std.proofs.Common.{◌≡◌, ℕ, ◌+◌, ◌≤◌, suc, zero, true, false, cond, not, ◌&&◌, ◌||◌, [], ◌∷◌, ◌++◌, length, refl, sym, ap, ◌∙◌, subst, arith, is_some, length-append, true≢false, inl, inr}
use Rattle.std.specs.Prelude.{Option, Some, None, ◌↔◌}
use Rattle.std.specs.Option.{option_map, option_and_then}
use Rattle.std.specs.Cmp.{eq_by_cmp_equiv}
use Rattle.std.specs.List.{IsDistinct, list_any}
use Rattle.std.specs.FinMap as finite_map
use Rattle.std.proofs.Math.Bool.{or-false}
use Rattle.std.proofs.lemmas.Bool.{or_cases, false_from_ne_true}
use Rattle.std.proofs.lemmas.Option.{same_Some, none-some}
use Rattle.std.proofs.lemmas.List.{length-map}
use Rattle.std.proofs.lemmas.List.Folds.{list_any-append}
use Rattle.std.proofs.lemmas.Map.Keys.{IsDistinct-push}
use Rattle.std.proofs.lemmas.Map.Made.{length-le_from_is_member}
use Rattle.rga_ops.specs.Identifier.{Identifier, is_root}
use Rattle.rga_ops.specs.Content.{Element, Content, IsWithin}
use Rattle.rga_ops.specs.RootPath.{Path, path_within, root_path, is_complete, IsRootPath, at_root, below, IsComplete, below_root, below_element}
use Rattle.rga_ops.proofs.IdentifierLaws.{ids_total, is, same_id}
use Rattle.rga_ops.proofs.ContentLaws.{same_option}

-- what is found is the root path
pub found : (n : ℕ) (c : Content) (id : Identifier) (p : Path) → path_within n c.inserted id ≡ Some p → IsRootPath c id p
found zero c id p e =
    elim (is_root id) as (λ b. is_root id ≡ b → cond b (Some []) None ≡ Some p → IsRootPath c id p) [
      | true ↦ λ r e. at_root r (sym (same_Some _ _ e))
      | false ↦ λ r e. absurd (none-some _ e)
    ] refl e
found (suc n) c id p e =
    let at_parent : Element → Option Path = λ x. option_map (λ q. q ++ id ∷ []) (path_within n c.inserted x.parent) in
    elim (is_root id) as (λ b. is_root id ≡ b → cond b (Some []) (option_and_then at_parent (finite_map.get c.inserted id)) ≡ Some p → IsRootPath c id p) [
      | true ↦ λ r e. at_root r (sym (same_Some _ _ e))
      | false ↦ λ r e. elim (finite_map.get c.inserted id) as (λ o. finite_map.get c.inserted id ≡ o → option_and_then at_parent o ≡ Some p → IsRootPath c id p) [
        | None ↦ λ g e. absurd (none-some _ e)
        | Some x ↦ λ g e. elim (path_within n c.inserted x.parent) as (λ o. path_within n c.inserted x.parent ≡ o → option_map (λ q. q ++ id ∷ []) o ≡ Some p → IsRootPath c id p) [
          | None ↦ λ f e. absurd (none-some _ e)
          | Some q ↦ λ f e. below x q r g (found n c x.parent q f) (sym (same_Some _ _ e))
        ] refl e
      ] refl e
    ] refl e

-- and the root path is found, where the bound is no less than its length
pub reached : {c : Content} {id : Identifier} {p : Path} (n : ℕ) → IsRootPath c id p → length p ≤ n → path_within n c.inserted id ≡ Some p
reached zero (at_root r e) h = rw r (ap Some (sym e))
reached (suc n) (at_root r e) h = rw r (ap Some (sym e))
reached {c} {id} {p} zero (below x q r g s e) h = absurd (omega (arith, ap length e, length-append q (id ∷ [])))
reached {c} {id} {p} (suc n) (below x q r g s e) h =
    let short : length q ≤ n = omega (arith, ap length e, length-append q (id ∷ [])) in
    let t : path_within n c.inserted x.parent ≡ Some q = reached n s short in
    let at_parent : Element → Option Path = λ x. option_map (λ q. q ++ id ∷ []) (path_within n c.inserted x.parent) in
    ap (λ b. cond b (Some []) (option_and_then at_parent (finite_map.get c.inserted id))) r
    ∙ ap (option_and_then at_parent) g ∙ ap (option_map (λ q. q ++ id ∷ [])) t ∙ ap Some (sym e)

-- an identifier has one root path at most
pub one_path : {c : Content} {id : Identifier} {p q : Path} → IsRootPath c id p → IsRootPath c id q → p ≡ q
one_path {c} {id} {p} {q} a b = same_Some _ _ (sym (reached (length p + length q) a (omega arith)) ∙ reached (length p + length q) b (omega arith))

-- each identifier on a root path is inserted, and has a root path that is no longer
pub record IsOn (c : Content) (p : Path) (id : Identifier) : Type 0 where
  pub path : Path
  pub is_path : IsRootPath c id path
  pub no_longer : length path ≤ length p
  pub inserted : list_any (is id) (finite_map.keys c.inserted) ≡ true

pub key_of : (c : Content) (id : Identifier) (x : Element) → finite_map.get c.inserted id ≡ Some x → list_any (is id) (finite_map.keys c.inserted) ≡ true
key_of c id x g = sym (finite_map.contains_key-keys c.inserted id) ∙ ap is_some g

pub on_path : {c : Content} {id : Identifier} {p : Path} → IsRootPath c id p → (a : Identifier) → list_any (is a) p ≡ true → IsOn c p a
on_path (at_root r e) a h = absurd (true≢false (sym h ∙ ap (list_any (is a)) e))
on_path {c} {id} {p} (below x q r g s e) a h =
    let parts : (list_any (is a) q || (is a id || false)) ≡ true = sym (list_any-append (is a) q (id ∷ [])) ∙ sym (ap (list_any (is a)) e) ∙ h in
    let longer : length q + 1 ≡ length p = omega (arith, ap length e, length-append q (id ∷ [])) in
    elim (or_cases (list_any (is a) q) (is a id || false) parts) [
      | inl above ↦ let w : IsOn c q a = on_path s a above in record { path = w.path; is_path = w.is_path; no_longer = omega (arith, w.no_longer, longer); inserted = w.inserted }
      | inr here ↦
          let same : a ≡ id = same_id a id (sym (or-false (is a id)) ∙ here) in
          subst (λ b. IsOn c p b) (sym same) (record { path = p; is_path = below x q r g s e; no_longer = omega arith; inserted = key_of c id x g })
    ]

-- no identifier stands twice on a root path
pub path_distinct : {c : Content} {id : Identifier} {p : Path} → IsRootPath c id p → IsDistinct is p
unfolding IsDistinct
path_distinct (at_root r e) = subst (λ p. IsDistinct is p) (sym e) tt
path_distinct {c} {id} {p} (below x q r g s e) =
    let apart : list_any (is id) q ≡ false = false_from_ne_true (list_any (is id) q) (λ h.
    let w : IsOn c q id = on_path s id h in
    let same : w.path ≡ p = one_path w.is_path (below x q r g s e) in
    omega (arith, w.no_longer, ap length same, ap length e, length-append q (id ∷ []))) in
    subst (λ p. IsDistinct is p) (sym e) (IsDistinct-push (eq_by_cmp_equiv ids_total) q id (path_distinct s) apart)

-- and it has no more identifiers than there are insertions
pub path_short : {c : Content} {id : Identifier} {p : Path} → IsRootPath c id p → length p ≤ finite_map.len c.inserted
path_short {c} {id} {p} s =
    let h : length p ≤ length (finite_map.keys c.inserted) = length-le_from_is_member (eq_by_cmp_equiv ids_total) p (finite_map.keys c.inserted) (path_distinct s) (λ a on. (on_path s a on).inserted) in
    omega (arith, h, length-map (finite_map.entries c.inserted) (λ e. e.0), finite_map.len-entries c.inserted)

-- the function and the relation say the same
pub root_path-is : {c : Content} {id : Identifier} {p : Path} → root_path c id ≡ Some p → IsRootPath c id p
root_path-is {c} {id} {p} e = found (finite_map.len c.inserted) c id p e

pub is-root_path : {c : Content} {id : Identifier} {p : Path} → IsRootPath c id p → root_path c id ≡ Some p
is-root_path {c} s = reached (finite_map.len c.inserted) s (path_short s)

-- a root path stays as the content grows
pub path_stays : {c d : Content} {id : Identifier} {p : Path} → IsWithin c d → IsRootPath c id p → IsRootPath d id p
path_stays w (at_root r e) = at_root r e
path_stays {c} {d} {id} w (below x q r g s e) = below x q r (w.inserted id x g) (path_stays w s) e

-- a path ends in its element
pub ends : {c : Content} {id : Identifier} {p : Path} → is_root id ≡ false → IsRootPath c id p → (q : Path) × (p ≡ q ++ id ∷ [])
ends other (at_root r e) = absurd (true≢false (sym r ∙ other))
ends other (below x q r g s e) = (q, e)

last_of : Identifier → Path → Identifier
last_of d [] = d
last_of d (x ∷ xs) = last_of x xs

last_of-push : (d : Identifier) (q : Path) (id : Identifier) → last_of d (q ++ id ∷ []) ≡ id
unfolding last_of
last_of-push d [] id = refl
last_of-push d (x ∷ xs) id = last_of-push x xs id

-- so two elements have two paths
pub one_element : {c : Content} {a b : Identifier} {p : Path} → is_root a ≡ false → is_root b ≡ false → IsRootPath c a p → IsRootPath c b p → a ≡ b
one_element {c} {a} {b} {p} no_a no_b s t =
    let e : (q : Path) × (p ≡ q ++ a ∷ []) = ends no_a s in
    let f : (q : Path) × (p ≡ q ++ b ∷ []) = ends no_b t in
    sym (last_of-push a e.0 a) ∙ ap (last_of a) (sym e.1 ∙ f.1) ∙ last_of-push a f.0 b

-- the root's path is empty
pub root_path-root : (c : Content) (id : Identifier) → is_root id ≡ true → root_path c id ≡ Some []
root_path-root c id r = is-root_path {c = c} (at_root r refl)

-- what is not inserted has none
pub root_path-absent : (c : Content) (id : Identifier) → is_root id ≡ false → finite_map.get c.inserted id ≡ None → root_path c id ≡ None
root_path-absent c id other g = grind arith

-- and else it is the parent's, and then the element
pub root_path-step : (c : Content) (id : Identifier) (x : Element) → is_root id ≡ false → finite_map.get c.inserted id ≡ Some x → root_path c id ≡ option_map (λ q. q ++ id ∷ []) (root_path c x.parent)
root_path-step c id x other g =
    same_option (root_path c id) (option_map (λ q. q ++ id ∷ []) (root_path c x.parent)) (λ p h. up (root_path-is {c = c} h)) (λ p h. down p h)
  where
    up : {p : Path} → IsRootPath c id p → option_map (λ q. q ++ id ∷ []) (root_path c x.parent) ≡ Some p
    up (at_root r e) = absurd (true≢false (sym r ∙ other))
    up {p} (below y q r f s e) =
        let same : y ≡ x = same_Some _ _ (sym f ∙ g) in
        ap (option_map (λ q. q ++ id ∷ [])) (is-root_path {c = c} (subst (λ (z : Element). IsRootPath c z.parent q) same s)) ∙ ap Some (sym e)

    down : (p : Path) → option_map (λ q. q ++ id ∷ []) (root_path c x.parent) ≡ Some p → root_path c id ≡ Some p
    down p h =
        elim (root_path c x.parent) as (λ o. root_path c x.parent ≡ o → option_map (λ q. q ++ id ∷ []) o ≡ Some p → root_path c id ≡ Some p) [
          | None ↦ λ f h. absurd (none-some _ h)
          | Some q ↦ λ f h. is-root_path {c = c} (below x q other g (root_path-is {c = c} f) (sym (same_Some _ _ h)))
        ] refl h

-- ---- complete elements

-- a complete element has a root path
pub path_of_complete : {c : Content} {id : Identifier} → IsComplete c id → (p : Path) × IsRootPath c id p
path_of_complete {c} {id} (below_root x other g r) = (id ∷ [], below x [] other g (at_root r refl) refl)
path_of_complete {c} {id} (below_element x other g s) =
    let up : (q : Path) × IsRootPath c x.parent q = path_of_complete s in
    (up.0 ++ id ∷ [], below x up.0 other g up.1 refl)

-- and what has one, the root aside, is complete
pub complete_of_path : {c : Content} {id : Identifier} {p : Path} → is_root id ≡ false → IsRootPath c id p → IsComplete c id
complete_of_path other (at_root r e) = absurd (true≢false (sym r ∙ other))
complete_of_path {c} {id} other (below x q r g s e) =
    elim (is_root x.parent) as (λ b. is_root x.parent ≡ b → IsComplete c id) [
      | true ↦ λ t. below_root x other g t
      | false ↦ λ f. below_element x other g (complete_of_path f s)
    ] refl

pub not_complete_root : {c : Content} {id : Identifier} → IsComplete c id → is_root id ≡ false
not_complete_root (below_root x other g r) = other
not_complete_root (below_element x other g s) = other

-- the test is the relation
pub is_complete-iff : (c : Content) (id : Identifier) → (is_complete c id ≡ true) ↔ IsComplete c id
is_complete-iff c id = (there, back)
  where
    there : is_complete c id ≡ true → IsComplete c id
    there h = grind (arith, λ (p : Path) (e : root_path c id ≡ Some p) (f : is_root id ≡ false). complete_of_path f (root_path-is {c = c} {id = id} {p = p} e))

    back : IsComplete c id → is_complete c id ≡ true
    back s =
        let up : (p : Path) × IsRootPath c id p = path_of_complete s in
        λ k. not (not_complete_root s k) && is_some (is-root_path up.1 k)

inserted_by : {c : Content} {id : Identifier} → IsComplete c id → (x : Element) × (finite_map.get c.inserted id ≡ Some x)
inserted_by (below_root x other g r) = (x, g)
inserted_by (below_element x other g s) = (x, g)

-- a complete element is inserted
pub inserted_if_complete : (c : Content) (id : Identifier) → is_complete c id ≡ true → (x : Element) × (finite_map.get c.inserted id ≡ Some x)
inserted_if_complete c id h = inserted_by ((is_complete-iff c id).0 h)
