-- The order of a content within a larger one.
use Rattle.std.proofs.Common.{◌≡◌, true, false, cond, List, [], ◌∷◌, filter, refl, sym, ap, ◌∙◌, arith}
use Rattle.std.specs.List.{list_any, AllByRecursion}
use Rattle.rga_ops.specs.Identifier.{Identifier}
use Rattle.rga_ops.specs.Content.{Content, IsWithin}
use Rattle.rga_ops.specs.RootPath.{Path, is_complete, IsRootPath, root_path}
use Rattle.rga_ops.specs.Order.{order, Precedes, IsInOrder}
use Rattle.rga_ops.proofs.IdentifierLaws.{is, same_id, ids_total}
use Rattle.rga_ops.proofs.PathLaws.{path_stays, path_of_complete, complete_of_path, not_complete_root, is_complete-iff, is-root_path}
use Rattle.rga_ops.proofs.OrderLaws.{precedes_later, order_unique, order_list}
use Rattle.std.specs.Cmp.{eq_by_cmp_equiv}
use Rattle.std.proofs.lemmas.Map.Made.{is_member-filter}

module _ (c d : Content) (w : IsWithin c d) where
  path : (id : Identifier) → is_complete c id ≡ true → (p : Path) × IsRootPath c id p
  path id h = path_of_complete ((is_complete-iff c id).0 h)

  -- what is complete stays so, and keeps its root path

  pub complete_stays : (id : Identifier) → is_complete c id ≡ true → is_complete d id ≡ true
  complete_stays id h =
      let root = not_complete_root ((is_complete-iff c id).0 h) in
      (is_complete-iff d id).1 (complete_of_path root (path_stays w (path id h).1))

  pub root_path_stays : (id : Identifier) → is_complete c id ≡ true → root_path d id ≡ root_path c id
  root_path_stays id h =
      is-root_path (path_stays w (path id h).1) ∙ sym (is-root_path (path id h).1)

  -- ---- the order of the larger one, of the elements that are complete in the smaller one

  precedes_back : (a b : Identifier) → is_complete c a ≡ true → is_complete c b ≡ true → Precedes d a b → Precedes c a b
  precedes_back a b h k s = record {
    here = s.here;
    there = s.there;
    path_here = sym (root_path_stays a h) ∙ s.path_here;
    path_there = sym (root_path_stays b k) ∙ s.path_there;
    before = s.before;
  }

  kept_later : (x : Identifier) (ys : List Identifier) → is_complete c x ≡ true → AllByRecursion (Precedes d x) ys → AllByRecursion (Precedes c x) (filter (is_complete c) ys)
  kept_later x [] h all = tt
  kept_later x (y ∷ ys) h all =
      elim (is_complete c y) as (λ b. is_complete c y ≡ b → AllByRecursion (Precedes c x) (cond b (y ∷ filter (is_complete c) ys) (filter (is_complete c) ys))) [
        | true ↦ λ t. (precedes_back x y h t all.0, kept_later x ys h all.1)
        | false ↦ λ f. kept_later x ys h all.1
      ] refl

  put_first : (x : Identifier) (ys : List Identifier) → AllByRecursion (Precedes c x) ys → IsInOrder c ys → IsInOrder c (x ∷ ys)
  put_first x [] all o = tt
  put_first x (y ∷ ys) all o = (all.0, o)

  rest_in_order : (x : Identifier) (ys : List Identifier) → IsInOrder d (x ∷ ys) → IsInOrder d ys
  rest_in_order x [] o = tt
  rest_in_order x (y ∷ ys) o = o.1

  kept_in_order : (xs : List Identifier) → IsInOrder d xs → IsInOrder c (filter (is_complete c) xs)
  kept_in_order [] o = tt
  kept_in_order (x ∷ xs) o =
      elim (is_complete c x) as (λ b. is_complete c x ≡ b → IsInOrder c (cond b (x ∷ filter (is_complete c) xs) (filter (is_complete c) xs))) [
        | true ↦ λ t. put_first x (filter (is_complete c) xs) (kept_later x xs t (precedes_later d x xs o)) (kept_in_order xs (rest_in_order x xs o))
        | false ↦ λ f. kept_in_order xs (rest_in_order x xs o)
      ] refl

  kept_elements : (id : Identifier) → list_any (is id) (filter (is_complete c) (order d)) ≡ is_complete c id
  kept_elements id =
      grind (arith, is_member-filter (eq_by_cmp_equiv ids_total) (is_complete c) id (λ x t. ap (is_complete c) (same_id id x t)) (order d), (order_list d).elements id, complete_stays id)

  pub order_within : order c ≡ filter (is_complete c) (order d)
  order_within = sym (order_unique c (filter (is_complete c) (order d)) (record {
    elements = kept_elements;
    in_order = kept_in_order (order d) (order_list d).in_order;
  }))
