-- How a new element goes into the order: what stands before its parent stays, and what stands behind that is changed as
-- the paths there say.
use Rattle.std.proofs.Common.{◌≡◌, ℕ, true, false, cond, not, ◌&&◌, is_some, T, List, [], ◌∷◌, ◌++◌, map, refl, sym, ap, ◌∙◌, subst, append_assoc, arith}
use Rattle.std.specs.Prelude.{Some, None}
use Rattle.std.specs.Cmp.{tied_itself}
use Rattle.std.specs.Ordering.{eq_by_cmp, is_lt, ordering_then, ordering_reverse}
use Rattle.std.specs.List.{list_any, AllByRecursion}
use Rattle.std.specs.declared.cmp.Ordering.TheVariants.{Less, Greater}
use Rattle.std.specs.FinMap as finite_map
use Rattle.std.specs.FinMap.{find, is_sorted}
use Rattle.std.specs.FinMap.Entries.{put, by_order, below_all}
use Rattle.std.proofs.lemmas.Bool.{false_from_ne_true}
use Rattle.std.proofs.lemmas.Option.{same_Some, none-some}
use Rattle.rga_ops.specs.Identifier.{Identifier, is_id, is_root}
use Rattle.rga_ops.specs.Content.{Content, join, single}
use Rattle.rga_ops.specs.RootPath.{Path, path_cmp, root_path, IsRootPath, at_root}
use Rattle.rga_ops.specs.Order.{by_path, order}
use Rattle.rga_ops.specs.Placement.{change_after, change_behind}
use Rattle.rga_ops.proofs.MemberLaws.{all_map, all_append}
use Rattle.rga_ops.proofs.IdentifierLaws.{ids_total, is, is_id-same, is_id-is, is_id-itself}
use Rattle.rga_ops.proofs.BeforeLaws.{paths_total}
use Rattle.rga_ops.proofs.ContentLaws.{within_join}
use Rattle.rga_ops.proofs.SortedLaws.{both_so, less_of}
use Rattle.rga_ops.proofs.PathLaws.{root_path-is, is-root_path, one_path, one_element, ends, path_stays, root_path-root, root_path-absent}
use Rattle.rga_ops.proofs.PlacedLaws.{IsPlaced, by_path-get, entries_placed, same_path}
use Rattle.rga_ops.proofs.OrderLaws.{order_list}
use Rattle.rga_ops.proofs.InsertionLaws.{IsNewLeaf, new_path, order-waiting, entries-insertion}
use Rattle.rga_ops.specs.declared.op.Op.TheVariants.{Insert}

-- ---- paths

-- a path stands behind its beginning
pub behind_beginning : (p : Path) (id : Identifier) → path_cmp (p ++ id ∷ []) p ≡ Greater
behind_beginning [] id = refl
behind_beginning (x ∷ p) id = ap (λ o. ordering_then o (path_cmp (p ++ id ∷ []) p)) (tied_itself ids_total x) ∙ behind_beginning p id

pub later_than : (p q : Path) → path_cmp p q ≡ Less → path_cmp q p ≡ Greater
later_than p q h = paths_total.antisymm q p ∙ ap ordering_reverse h

pub earlier_than : (p q : Path) → path_cmp p q ≡ Greater → path_cmp q p ≡ Less
earlier_than p q h = paths_total.antisymm q p ∙ ap ordering_reverse h

-- ---- entries in the order of their paths

abbrev pub Entry : Type 0
Entry = Path × Identifier

abbrev pub ids : List Entry → List Identifier
ids es = map (λ e. e.1) es

abbrev pub ArePlaced : Content → List Entry → Type 0
ArePlaced c = AllByRecursion (λ (e : Entry). IsPlaced c e.1 e.0)

-- each stands behind the path, or before it
abbrev pub AreLater : Path → List Entry → Type 0
AreLater p = AllByRecursion (λ (e : Entry). path_cmp p e.0 ≡ Less)

abbrev pub AreEarlier : Path → List Entry → Type 0
AreEarlier p = AllByRecursion (λ (e : Entry). path_cmp p e.0 ≡ Greater)

pub earlier-push : (p : Path) (es : List Entry) (e : Entry) → AreEarlier p es → path_cmp p e.0 ≡ Greater → AreEarlier p (es ++ e ∷ [])
earlier-push p es e h g = all_append (λ (y : Entry). path_cmp p y.0 ≡ Greater) es (e ∷ []) h (g, tt)

pub all_later : (p : Path) (es : List Entry) → T (below_all path_cmp p es) → AreLater p es
all_later p [] h = tt
all_later p (e ∷ es) h =
    let s : T (is_lt (path_cmp p e.0)) × T (below_all path_cmp p es) = both_so (is_lt (path_cmp p e.0)) (below_all path_cmp p es) h in
    (less_of (path_cmp p e.0) s.0, all_later p es s.1)

-- what is found stands behind a path that all of the list stand behind
pub found_later : (p q : Path) (v : Identifier) (es : List Entry) → find path_cmp q es ≡ Some v → AreLater p es → path_cmp p q ≡ Less
found_later p q v [] h later = absurd (none-some _ h)
found_later p q v (e ∷ es) h later = grind (arith, found_later p q v es, same_path q e.0, later.0, later.1)

-- ---- the new element

module _ (c : Content) (id parent : Identifier) (ch : ℕ) (w : IsNewLeaf c id) (above : Path) (up : IsRootPath c parent above) where
  abbrev here : Path
  here = above ++ id ∷ []

  abbrev d : Content
  d = join c (single (Insert id parent ch))

  abbrev es : List Entry
  es = finite_map.entries (by_path c)

  -- its path is new
  pub path_is_new : (e : Entry) → IsPlaced c e.1 e.0 → here ≡ e.0 → ⊥
  path_is_new e there same =
      let stays : IsRootPath d e.1 here = subst (λ p. IsRootPath d e.1 p) (sym same) (path_stays (within_join c (single (Insert id parent ch))) there.path) in
      let twin : id ≡ e.1 = one_element w.element there.element (new_path c id parent ch w up) stays in
      none-some _ (sym (root_path-absent c id w.element w.absent) ∙ ap (root_path c) twin ∙ is-root_path there.path)

  -- no other element has the path of the parent
  other_path : (e : Entry) → IsPlaced c e.1 e.0 → eq_by_cmp path_cmp above e.0 ≡ false → is_id e.1 parent ≡ false
  other_path e at t = grind (arith, false_from_ne_true, one_path, is_id-is, paths_total)

  -- how the new element goes into the entries behind its parent's
  abbrev pub GoesIn : (List Identifier → List Identifier) → Type 0
  GoesIn change = (done left : List Entry) → es ≡ done ++ left → AreEarlier here done → AreLater above left → ArePlaced c left → ids (put path_cmp here id left) ≡ change (ids left)

  goes_after : (change : List Identifier → List Identifier) → GoesIn change → (done left : List Entry) → es ≡ done ++ left → AreEarlier here done → find path_cmp above left ≡ Some parent → T (is_sorted path_cmp left) → ArePlaced c left → ids (put path_cmp here id left) ≡ change_after parent change (ids left)
  goes_after change goes done [] split passed found sorted there = absurd (none-some _ found)
  goes_after change goes done (e ∷ left) split passed found sorted there =
      let later : AreLater e.0 left = all_later e.0 left (both_so (below_all path_cmp e.0 left) (is_sorted path_cmp left) sorted).0 in
      let sorted_left : T (is_sorted path_cmp left) = (both_so (below_all path_cmp e.0 left) (is_sorted path_cmp left) sorted).1 in
      elim (eq_by_cmp path_cmp above e.0) as (λ b. eq_by_cmp path_cmp above e.0 ≡ b → cond b (Some e.1) (find path_cmp above left) ≡ Some parent → ids (by_order (path_cmp here e.0) ((here, id) ∷ e ∷ left) ((e.0, id) ∷ left) (e ∷ put path_cmp here id left)) ≡ cond (is_id e.1 parent) (e.1 ∷ change (ids left)) (e.1 ∷ change_after parent change (ids left))) [
        | true ↦ λ t found.
            let at_parent : above ≡ e.0 = same_path above e.0 t in
            let past : path_cmp here e.0 ≡ Greater = ap (path_cmp here) (sym at_parent) ∙ behind_beginning above id in
            ap (λ o. ids (by_order o ((here, id) ∷ e ∷ left) ((e.0, id) ∷ left) (e ∷ put path_cmp here id left))) past
            ∙ ap (λ r. e.1 ∷ r) (goes (done ++ e ∷ []) left (split ∙ sym (append_assoc done (e ∷ []) left)) (earlier-push here done e passed past)
            (subst (λ q. AreLater q left) (sym at_parent) later) there.1)
            ∙ sym (ap (λ b. cond b (e.1 ∷ change (ids left)) (e.1 ∷ change_after parent change (ids left))) (ap (λ i. is_id i parent) (same_Some _ _ found) ∙ is_id-itself parent))
        | false ↦ λ t found.
            let before : path_cmp e.0 above ≡ Less = found_later e.0 above parent left found later in
            let past : path_cmp here e.0 ≡ Greater = later_than e.0 here (paths_total.trans e.0 above here before (earlier_than here above (behind_beginning above id))) in
            ap (λ o. ids (by_order o ((here, id) ∷ e ∷ left) ((e.0, id) ∷ left) (e ∷ put path_cmp here id left))) past
            ∙ ap (λ r. e.1 ∷ r) (goes_after change goes (done ++ e ∷ []) left (split ∙ sym (append_assoc done (e ∷ []) left)) (earlier-push here done e passed past) found sorted_left there.1)
            ∙ sym (ap (λ b. cond b (e.1 ∷ change (ids left)) (e.1 ∷ change_after parent change (ids left))) (other_path e there.0 t))
      ] refl found

  -- all elements stand behind the root
  later_than_root : (e : Entry) → IsPlaced c e.1 e.0 → path_cmp [] e.0 ≡ Less
  later_than_root e h = let q : (g : Path) × (e.0 ≡ g ++ e.1 ∷ []) = ends h.element h.path in ap (path_cmp []) q.1 ∙ start q.0
    where
      start : (g : Path) → path_cmp [] (g ++ e.1 ∷ []) ≡ Less
      start [] = refl
      start (x ∷ g) = refl

  -- in the order list it goes in behind its parent in the same way
  pub order-behind : (change : List Identifier → List Identifier) → GoesIn change → order d ≡ change_behind parent change (order c)
  order-behind change goes =
      ap ids (entries-insertion c id parent ch w above up)
      ∙ elim (is_root parent) as (λ b. is_root parent ≡ b → ids (put path_cmp here id es) ≡ cond b (change (ids es)) (change_after parent change (ids es))) [
        | true ↦ λ t. goes [] es refl tt (all_map (λ (e : Entry). IsPlaced c e.1 e.0) (λ (e : Entry). path_cmp above e.0 ≡ Less) (λ e h. ap (λ q. path_cmp q e.0) (one_path up (at_root t refl)) ∙ later_than_root e h) es (entries_placed c)) (entries_placed c)
        | false ↦ λ f. goes_after change goes [] es refl tt (sym (finite_map.get-entries (by_path c) above) ∙ by_path-get c above parent (record { element = f; path = up })) (finite_map.entries_sorted (by_path c)) (entries_placed c)
      ] refl

-- ---- a parent that has no root path

-- what is not in the list has nothing behind it
change_after-absent : (parent : Identifier) (change : List Identifier → List Identifier) (xs : List Identifier) → list_any (is parent) xs ≡ false → change_after parent change xs ≡ xs
change_after-absent parent change [] h = refl
change_after-absent parent change (x ∷ xs) h = grind (arith, change_after-absent parent change xs, is_id-same x parent)

-- a new element goes in behind its parent, or waits as its parent does
pub order-change :
    (c : Content) (id parent : Identifier) (ch : ℕ) (w : IsNewLeaf c id) (change : List Identifier → List Identifier)
    → ((above : Path) (up : IsRootPath c parent above) → GoesIn c id parent ch w above up change)
    → order (join c (single (Insert id parent ch))) ≡ change_behind parent change (order c)
order-change c id parent ch w change goes =
    elim (root_path c parent) as (λ o. root_path c parent ≡ o → order (join c (single (Insert id parent ch))) ≡ change_behind parent change (order c)) [
      | Some above ↦ λ h. let up : IsRootPath c parent above = root_path-is h in order-behind c id parent ch w above up change (goes above up)
      | None ↦ λ h.
          let other : is_root parent ≡ false = false_from_ne_true (is_root parent) (λ t. none-some _ (sym h ∙ root_path-root c parent t)) in
          let absent : list_any (is parent) (order c) ≡ false = (order_list c).elements parent ∙ (λ k. not (other k) && is_some (h k)) in
          order-waiting c id parent ch w h ∙ sym (ap (λ b. cond b (change (order c)) (change_after parent change (order c))) other ∙ change_after-absent parent change (order c) absent)
    ] refl
