-- Complete elements under their root paths, and the entries of the map that has them.
use Rattle.std.proofs.Common.{◌≡◌, true, false, cond, ◌||◌, T, List, [], ◌∷◌, map, refl, sym, ap, ◌∙◌, subst, true≢false, arith}
use Rattle.std.specs.Prelude.{Some, None}
use Rattle.std.specs.Option.{option_map}
use Rattle.std.specs.Cmp.{Equal-is, tied_itself}
use Rattle.std.specs.Ordering.{eq_by_cmp, is_eq}
use Rattle.std.specs.List.{list_any, filter_map, cons_option, AllByRecursion}
use Rattle.std.specs.FinMap as finite_map
use Rattle.std.specs.FinMap.{find, is_sorted}
use Rattle.std.specs.FinMap.Entries.{same_entries}
use Rattle.std.proofs.lemmas.Option.{same_Some, none-some}
use Rattle.rga_ops.specs.Identifier.{Identifier, is_root}
use Rattle.rga_ops.specs.Content.{Content}
use Rattle.rga_ops.specs.RootPath.{Path, path_cmp, root_path, IsRootPath}
use Rattle.rga_ops.specs.Order.{placed, by_path, order}
use Rattle.rga_ops.proofs.IdentifierLaws.{ids_total, is, same_id}
use Rattle.rga_ops.proofs.BeforeLaws.{paths_total, paths_exact}
use Rattle.rga_ops.proofs.ContentLaws.{same_option}
use Rattle.rga_ops.proofs.SortedLaws.{all_zip, each_found}
use Rattle.rga_ops.proofs.PathLaws.{root_path-is, is-root_path, one_element, key_of}

pub same_path : (p q : Path) → eq_by_cmp path_cmp p q ≡ true → p ≡ q
same_path p q e = paths_exact p q ((Equal-is (path_cmp p q)).0 e)

tied_path : (p : Path) → eq_by_cmp path_cmp p p ≡ true
tied_path p = ap is_eq (tied_itself paths_total p)

-- an element with its root path
pub record IsPlaced (c : Content) (id : Identifier) (p : Path) : Type 0 where
  pub element : is_root id ≡ false
  pub path : IsRootPath c id p

pub placed-is : (c : Content) (id : Identifier) (e : Path × Identifier) → placed c id ≡ Some e → (e.1 ≡ id) × IsPlaced c id e.0
placed-is c id e h = grind (arith, root_path-is {c = c} {id = id} {p = e.0})

pub is-placed : (c : Content) (id : Identifier) (p : Path) → IsPlaced c id p → placed c id ≡ Some (p, id)
is-placed c id p h = ap (λ b. cond b None (option_map (λ p. (p, id)) (root_path c id))) h.element ∙ ap (option_map (λ p. (p, id))) (is-root_path h.path)

-- what the entries of a list of identifiers give under a path
pub find-placed : (c : Content) (ks : List Identifier) (p : Path) (id : Identifier) → find path_cmp p (filter_map (placed c) ks) ≡ Some id → IsPlaced c id p
find-placed c [] p id h = absurd (none-some _ h)
find-placed c (k ∷ ks) p id h =
    elim (placed c k) as (λ o. placed c k ≡ o → find path_cmp p (cons_option o (filter_map (placed c) ks)) ≡ Some id → IsPlaced c id p) [
      | None ↦ λ f h. find-placed c ks p id h
      | Some e ↦ λ f h. elim (eq_by_cmp path_cmp p e.0) as (λ b. eq_by_cmp path_cmp p e.0 ≡ b → cond b (Some e.1) (find path_cmp p (filter_map (placed c) ks)) ≡ Some id → IsPlaced c id p) [
        | true ↦ λ t h.
            let w : (e.1 ≡ k) × IsPlaced c k e.0 = placed-is c k e f in
            subst (λ i. IsPlaced c i p) (sym w.0 ∙ same_Some _ _ h) (subst (λ q. IsPlaced c k q) (sym (same_path p e.0 t)) w.1)
        | false ↦ λ t h. find-placed c ks p id h
      ] refl h
    ] refl h

pub placed-find : (c : Content) (ks : List Identifier) (p : Path) (id : Identifier) → IsPlaced c id p → list_any (is id) ks ≡ true → find path_cmp p (filter_map (placed c) ks) ≡ Some id
placed-find c [] p id w h = absurd (true≢false (sym h))
placed-find c (k ∷ ks) p id w h =
    elim (is id k) as (λ b. is id k ≡ b → (b || list_any (is id) ks) ≡ true → find path_cmp p (cons_option (placed c k) (filter_map (placed c) ks)) ≡ Some id) [
      | true ↦ λ t h.
          let here : placed c k ≡ Some (p, id) = ap (placed c) (sym (same_id id k t)) ∙ is-placed c id p w in
          ap (λ o. find path_cmp p (cons_option o (filter_map (placed c) ks))) here
          ∙ ap (λ b. cond b (Some id) (find path_cmp p (filter_map (placed c) ks))) (tied_path p)
      | false ↦ λ t h. elim (placed c k) as (λ o. placed c k ≡ o → find path_cmp p (cons_option o (filter_map (placed c) ks)) ≡ Some id) [
        | None ↦ λ f. placed-find c ks p id w h
        | Some e ↦ λ f. elim (eq_by_cmp path_cmp p e.0) as (λ b. eq_by_cmp path_cmp p e.0 ≡ b → cond b (Some e.1) (find path_cmp p (filter_map (placed c) ks)) ≡ Some id) [
          | true ↦ λ s.
              let v : (e.1 ≡ k) × IsPlaced c k e.0 = placed-is c k e f in
              let u : IsPlaced c k p = subst (λ q. IsPlaced c k q) (sym (same_path p e.0 s)) v.1 in
              let same : id ≡ k = one_element w.element u.element w.path u.path in
              absurd (true≢false (sym (ap is_eq (tied_itself ids_total k)) ∙ ap (λ i. is i k) (sym same) ∙ t))
          | false ↦ λ s. placed-find c ks p id w h
        ] refl
      ] refl
    ] refl h

-- an element that has a root path is inserted
pub placed_key : (c : Content) (id : Identifier) (p : Path) → IsPlaced c id p → list_any (is id) (finite_map.keys c.inserted) ≡ true
placed_key c id p w = grind (arith, is, key_of)

pub get-by_path : (c : Content) (p : Path) (id : Identifier) → finite_map.get (by_path c) p ≡ Some id → IsPlaced c id p
get-by_path c p id h = find-placed c (finite_map.keys c.inserted) p id (sym (finite_map.get-from_entries paths_total _ p) ∙ h)

pub by_path-get : (c : Content) (p : Path) (id : Identifier) → IsPlaced c id p → finite_map.get (by_path c) p ≡ Some id
by_path-get c p id w = finite_map.get-from_entries paths_total _ p ∙ placed-find c (finite_map.keys c.inserted) p id w (placed_key c id p w)

-- entries in the order of their paths, of each element that has a root path and of no other, are those of the order
pub entries_are : (c : Content) (es : List (Path × Identifier)) → T (is_sorted path_cmp es) → ((p : Path) (id : Identifier) → find path_cmp p es ≡ Some id → IsPlaced c id p) → ((p : Path) (id : Identifier) → IsPlaced c id p → find path_cmp p es ≡ Some id) → es ≡ finite_map.entries (by_path c)
entries_are c es sorted sound full =
    same_entries path_cmp paths_total paths_exact es (finite_map.entries (by_path c)) sorted (finite_map.entries_sorted (by_path c))
    (λ p. same_option (find path_cmp p es) (find path_cmp p (finite_map.entries (by_path c)))
    (λ id h. sym (finite_map.get-entries (by_path c) p) ∙ by_path-get c p id (sound p id h))
    (λ id h. full p id (get-by_path c p id (finite_map.get-entries (by_path c) p ∙ h))))

pub order_is : (c : Content) (es : List (Path × Identifier)) → T (is_sorted path_cmp es) → ((p : Path) (id : Identifier) → find path_cmp p es ≡ Some id → IsPlaced c id p) → ((p : Path) (id : Identifier) → IsPlaced c id p → find path_cmp p es ≡ Some id) → map (λ e. e.1) es ≡ order c
order_is c es sorted sound full = ap (map (λ (e : Path × Identifier). e.1)) (entries_are c es sorted sound full)

-- ---- entries in the order of their paths

pub entries_placed : (c : Content) → AllByRecursion (λ (e : Path × Identifier). IsPlaced c e.1 e.0) (finite_map.entries (by_path c))
entries_placed c =
    let f : AllByRecursion (λ (e : Path × Identifier). find path_cmp e.0 (finite_map.entries (by_path c)) ≡ Some e.1) (finite_map.entries (by_path c)) = each_found path_cmp paths_total (finite_map.entries (by_path c)) (finite_map.entries_sorted (by_path c)) in
    all_zip (λ (e : Path × Identifier). find path_cmp e.0 (finite_map.entries (by_path c)) ≡ Some e.1) (λ (e : Path × Identifier). find path_cmp e.0 (finite_map.entries (by_path c)) ≡ Some e.1) (λ (e : Path × Identifier). IsPlaced c e.1 e.0)
    (λ e h _. get-by_path c e.0 e.1 (finite_map.get-entries (by_path c) e.0 ∙ h)) (finite_map.entries (by_path c)) f f
