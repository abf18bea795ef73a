-- A content with one insertion more: what it has, which elements are complete, and that the new element goes into the
-- order at its root path, or waits, while nothing else moves.
use Rattle.std.proofs.Common.{◌≡◌, ℕ, true, false, cond, not, ◌&&◌, ◌||◌, Bool, [], ◌∷◌, ◌++◌, length, refl, sym, ap, ◌∙◌, subst, is_some, true≢false, arith, length-append}
use Rattle.std.specs.Prelude.{Some, None}
use Rattle.std.specs.Option.{option_or}
use Rattle.std.specs.Cmp.{tied_itself}
use Rattle.std.specs.Ordering.{eq_by_cmp, is_eq}
use Rattle.std.specs.FinMap as finite_map
use Rattle.std.specs.FinSet as finite_set
use Rattle.std.specs.FinMap.{same_map}
use Rattle.std.specs.FinMap.Entries.{put}
use Rattle.std.proofs.Math.Bool.{or-false}
use Rattle.std.proofs.lemmas.Option.{same_Some, none-some}
use Rattle.rga_ops.specs.Identifier.{Identifier, id_cmp, is_root}
use Rattle.rga_ops.specs.Content.{Element, element, Content, IsWithin, join, single}
use Rattle.rga_ops.specs.RootPath.{Path, path_cmp, root_path, is_complete, IsRootPath, at_root, below}
use Rattle.rga_ops.specs.Order.{by_path, order}
use Rattle.rga_ops.proofs.IdentifierLaws.{is, same_id, is_itself}
use Rattle.rga_ops.proofs.BeforeLaws.{paths_total, paths_exact}
use Rattle.rga_ops.proofs.ContentLaws.{same_option, get-join, contains-join, within_join}
use Rattle.rga_ops.proofs.OperationLaws.{get-single}
use Rattle.rga_ops.proofs.PathLaws.{root_path-is, is-root_path, one_path, one_element, path_stays, root_path-root, root_path-absent}
use Rattle.rga_ops.proofs.PlacedLaws.{same_path, IsPlaced, get-by_path, by_path-get}
use Rattle.rga_ops.specs.declared.op.Op.TheVariants.{Insert}

-- an identifier that is not inserted, and that no element waits for
pub record IsNewLeaf (c : Content) (id : Identifier) : Type 0 where
  pub element : is_root id ≡ false
  pub absent : finite_map.get c.inserted id ≡ None
  pub childless : (k : Identifier) (x : Element) → finite_map.get c.inserted k ≡ Some x → is x.parent id ≡ false

-- it is not complete
pub not_complete_before : (c : Content) (id : Identifier) → IsNewLeaf c id → is_complete c id ≡ false
not_complete_before c id w = (λ k. not (w.element k) && is_some (root_path-absent c id w.element w.absent k))

-- whether an element below it would be complete
abbrev pub is_root_or_complete : Content → Identifier → Bool
is_root_or_complete c parent = is_root parent || is_complete c parent

pub root_or_complete-is : (c : Content) (parent : Identifier) → is_root_or_complete c parent ≡ is_some (root_path c parent)
root_or_complete-is c parent = grind (arith, root_path-root c parent)

module _ (c : Content) (id parent : Identifier) (ch : ℕ) where
  abbrev d : Content
  d = join c (single (Insert id parent ch))

  pub get-insertion : (q : Identifier) → finite_map.get d.inserted q ≡ option_or (finite_map.get c.inserted q) (cond (is q id) (Some (element parent ch)) None)
  get-insertion q = get-join c (single (Insert id parent ch)) q ∙ ap (option_or (finite_map.get c.inserted q)) (get-single id parent ch q)

  pub contains-insertion : (q : Identifier) → finite_set.contains d.deleted q ≡ finite_set.contains c.deleted q
  contains-insertion q = grind (arith, contains-join c (single (Insert id parent ch)) q, finite_set.contains-empty id_cmp q)

  -- at other identifiers nothing is new
  pub get-elsewhere : (q : Identifier) → is q id ≡ false → finite_map.get d.inserted q ≡ finite_map.get c.inserted q
  get-elsewhere q f = grind (arith, get-insertion q)

  pub get-inserted : finite_map.get c.inserted id ≡ None → finite_map.get d.inserted id ≡ Some (element parent ch)
  get-inserted absent = grind (arith, get-insertion id, is_itself id)

  grows : IsWithin c d
  grows = within_join c (single (Insert id parent ch))

  module _ (w : IsNewLeaf c id) where
    -- no other path is new
    pub old_path : {k : Identifier} {p : Path} → is k id ≡ false → IsRootPath d k p → IsRootPath c k p
    old_path f (at_root r h) = at_root r h
    old_path {k} f (below x q r g s h) =
        let old : finite_map.get c.inserted k ≡ Some x = sym (get-elsewhere k f) ∙ g in
        below x q r old (old_path (w.childless k x old) s) h

    pub new_path : {above : Path} → IsRootPath c parent above → IsRootPath d id (above ++ id ∷ [])
    new_path {above} s = below (element parent ch) above w.element (get-inserted w.absent) (path_stays grows s) refl

    -- where the new element has a root path its parent had one
    pub path_above : {p : Path} → IsRootPath d id p → (above : Path) × (IsRootPath c parent above × (p ≡ above ++ id ∷ []))
    path_above (at_root r h) = absurd (true≢false (sym r ∙ w.element))
    path_above {p} (below x q r g s h) =
        let same : element parent ch ≡ x = same_Some _ _ (sym (get-inserted w.absent) ∙ g) in
        let up : IsRootPath d parent q = subst (λ (y : Element). IsRootPath d y.parent q) (sym same) s in
        elim (is parent id) as (λ b. is parent id ≡ b → (above : Path) × (IsRootPath c parent above × (p ≡ above ++ id ∷ []))) [
          | true ↦ λ t.
              let again : IsRootPath d id q = subst (λ i. IsRootPath d i q) (same_id parent id t) up in
              let loop : q ≡ p = one_path again (below x q r g s h) in
              absurd (omega (arith, ap length loop, ap length h, length-append q (id ∷ [])))
          | false ↦ λ f. (q, (old_path f up, h))
        ] refl

    -- ---- complete elements

    pub root_path-elsewhere : (q : Identifier) → is q id ≡ false → root_path d q ≡ root_path c q
    root_path-elsewhere q f = same_option (root_path d q) (root_path c q)
        (λ p h. is-root_path (old_path f (root_path-is h)))
        (λ p h. is-root_path (path_stays grows (root_path-is h)))

    has_path : is_some (root_path d id) ≡ is_some (root_path c parent)
    has_path =
        elim (root_path c parent) as (λ o. root_path c parent ≡ o → is_some (root_path d id) ≡ is_some o) [
          | Some above ↦ λ up. ap is_some (is-root_path (new_path (root_path-is up)))
          | None ↦ λ none. elim (root_path d id) as (λ o. root_path d id ≡ o → is_some o ≡ false) [
            | None ↦ λ h. refl
            | Some p ↦ λ h. let above = path_above (root_path-is h) in absurd (none-some _ (sym none ∙ is-root_path above.1.0))
          ] refl
        ] refl

    -- the complete elements are those that were, and the new one where its parent is the root or complete
    pub is_complete-insertion : (q : Identifier) → is_complete d q ≡ ((is q id && is_root_or_complete c parent) || is_complete c q)
    is_complete-insertion q =
        elim (is q id) as (λ b. is q id ≡ b → is_complete d q ≡ ((b && is_root_or_complete c parent) || is_complete c q)) [
          | true ↦ λ t.
              let same : q ≡ id = same_id q id t in
              let before : is_complete c q ≡ false = ap (is_complete c) same ∙ not_complete_before c id w in
              ap (is_complete d) same ∙ (λ k. not (w.element k) && has_path k) ∙ sym (root_or_complete-is c parent)
              ∙ sym (or-false (is_root_or_complete c parent)) ∙ ap (λ b. is_root_or_complete c parent || b) (sym before)
          | false ↦ λ f. ap (λ o. not (is_root q) && is_some o) (root_path-elsewhere q f)
        ] refl

    -- ---- the order

    -- where its parent has no root path, the new element waits
    pub by_path-waiting : root_path c parent ≡ None → by_path d ≡ by_path c
    by_path-waiting none = same_map paths_total paths_exact (by_path d) (by_path c) (λ p.
        same_option (finite_map.get (by_path d) p) (finite_map.get (by_path c) p)
        (λ k h. let s : IsPlaced d k p = get-by_path d p k h in
        elim (is k id) as (λ b. is k id ≡ b → finite_map.get (by_path c) p ≡ Some k) [
          | true ↦ λ t.
              let above = path_above (subst (λ i. IsRootPath d i p) (same_id k id t) s.path) in
              absurd (none-some _ (sym none ∙ is-root_path above.1.0))
          | false ↦ λ f. by_path-get c p k (record { element = s.element; path = old_path f s.path })
        ] refl)
        (λ k h. let s : IsPlaced c k p = get-by_path c p k h in by_path-get d p k (record { element = s.element; path = path_stays grows s.path })))

    pub order-waiting : root_path c parent ≡ None → order d ≡ order c
    order-waiting none = ap (λ m. finite_map.values m) (by_path-waiting none)

    module _ (above : Path) (up : IsRootPath c parent above) where
      abbrev here : Path
      here = above ++ id ∷ []

      forth : (p : Path) (k : Identifier) → finite_map.get (by_path d) p ≡ Some k → cond (eq_by_cmp path_cmp p here) (Some id) (finite_map.get (by_path c) p) ≡ Some k
      forth p k h =
          let s : IsPlaced d k p = get-by_path d p k h in
          elim (is k id) as (λ b. is k id ≡ b → cond (eq_by_cmp path_cmp p here) (Some id) (finite_map.get (by_path c) p) ≡ Some k) [
            | true ↦ λ t.
                let same : k ≡ id = same_id k id t in
                let p_is : p ≡ here = one_path (subst (λ i. IsRootPath d i p) same s.path) (new_path up) in
                ap (λ b. cond b (Some id) (finite_map.get (by_path c) p)) (ap (eq_by_cmp path_cmp p) (sym p_is) ∙ ap is_eq (tied_itself paths_total p)) ∙ ap Some (sym same)
            | false ↦ λ f.
                let old : finite_map.get (by_path c) p ≡ Some k = by_path-get c p k (record { element = s.element; path = old_path f s.path }) in
                elim (eq_by_cmp path_cmp p here) as (λ b. eq_by_cmp path_cmp p here ≡ b → cond b (Some id) (finite_map.get (by_path c) p) ≡ Some k) [
                  | true ↦ λ t.
                      let p_is : p ≡ here = same_path p here t in
                      ap Some (one_element w.element s.element (subst (λ q. IsRootPath d id q) (sym p_is) (new_path up)) s.path)
                  | false ↦ λ t. old
                ] refl
          ] refl

      back : (p : Path) (k : Identifier) → cond (eq_by_cmp path_cmp p here) (Some id) (finite_map.get (by_path c) p) ≡ Some k → finite_map.get (by_path d) p ≡ Some k
      back p k h =
          elim (eq_by_cmp path_cmp p here) as (λ b. eq_by_cmp path_cmp p here ≡ b → cond b (Some id) (finite_map.get (by_path c) p) ≡ Some k → finite_map.get (by_path d) p ≡ Some k) [
            | true ↦ λ t h.
                let p_is : p ≡ here = same_path p here t in
                by_path-get d p id (record { element = w.element; path = subst (λ q. IsRootPath d id q) (sym p_is) (new_path up) }) ∙ h
            | false ↦ λ t h.
                let s : IsPlaced c k p = get-by_path c p k h in
                by_path-get d p k (record { element = s.element; path = path_stays grows s.path })
          ] refl h

      -- the order gains the new element at its path, and nothing else
      pub entries-insertion : finite_map.entries (by_path d) ≡ put path_cmp here id (finite_map.entries (by_path c))
      entries-insertion =
          ap finite_map.entries (same_map paths_total paths_exact (by_path d) (finite_map.insert (by_path c) here id) (λ p.
          same_option (finite_map.get (by_path d) p) (cond (eq_by_cmp path_cmp p here) (Some id) (finite_map.get (by_path c) p)) (forth p) (back p)
          ∙ sym (finite_map.get-insert paths_total (by_path c) here id p)))
          ∙ finite_map.entries-insert paths_total (by_path c) here id
