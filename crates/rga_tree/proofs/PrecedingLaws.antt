-- What stands directly before an element in the order: the last under its next newer sibling, or else its parent.
use Rattle.std.proofs.Common.{◌≡◌, ◌-◌, ◌<◌, true, false, cond, not, ◌&&◌, ◌||◌, List, [], ◌∷◌, ◌++◌, length, is_some, refl, sym, ap, ◌∙◌, subst, arith, append_assoc, append-nil, true≢false, inl, inr}
use Rattle.std.specs.Prelude.{Option, Some, None, ◌⊎◌, slice_get, nat_le}
use Rattle.std.specs.Option.{option_map, option_map_or}
use Rattle.std.specs.Cmp.{tied_itself}
use Rattle.std.specs.Ordering.{ordering_then, ordering_reverse, is_lt}
use Rattle.std.specs.declared.cmp.Ordering.{Ordering}
use Rattle.std.specs.declared.cmp.Ordering.TheVariants.{Less, Equal, Greater}
use Rattle.std.specs.List.{AllByRecursion}
use Rattle.std.specs.List.Sorted.{IsStrictlySortedBy}
use Rattle.std.specs.FinMap as finite_map
use Rattle.std.proofs.lemmas.Bool.{false_from_ne_true, or_cases, or_left, or_right}
use Rattle.std.proofs.lemmas.Bool.Decides.{nat_tests}
use Rattle.std.proofs.lemmas.Option.{same_Some, none-some}
use Rattle.rga_ops.specs.Identifier.{Identifier, id_cmp, is_id, is_root, root}
use Rattle.rga_ops.specs.Content.{Element, Content, IsSound, clock_of}
use Rattle.rga_ops.specs.RootPath.{Path, path_cmp, root_path, is_complete, IsRootPath}
use Rattle.rga_ops.specs.RootPath.IsRootPath.{at_root, below}
use Rattle.rga_ops.specs.Order.{order, Precedes, IsInOrder}
use Rattle.rga_ops.specs.Places.{up_to, place}
use Rattle.rga_ops.proofs.IdentifierLaws.{ids_total, ids_exact, is_id-is, is_id-itself}
use Rattle.rga_ops.proofs.MemberLaws.{of_member}
use Rattle.rga_ops.proofs.PathLaws.{root_path-is, is-root_path, root_path-root, root_path-step, one_path, one_element, ends, is_complete-iff, path_of_complete, not_complete_root}
use Rattle.rga_ops.proofs.AnswerLaws.{well_formed_insertion}
use Rattle.rga_ops.proofs.ClockLaws.{within_clock}
use Rattle.rga_ops.proofs.OrderLaws.{order_list, precedes_irreflexive, precedes_transitive, precedes_later}
use Rattle.rga_ops.specs.declared.op.Op.TheVariants.{Insert}
use Rattle.rga_store.specs.Rising.{IsRising}
use Rattle.rga_tree.specs.Children.{has_child, next_newer}
use Rattle.rga_store.specs.Child.{is_child}
use Rattle.rga_tree.specs.Tree.{IsFamily}
use Rattle.rga_tree.specs.Preceding.{beginning, visible_up_to, IsUnder, IsLastUnder}
use Rattle.rga_tree.proofs.ChildListLaws.{has-any}
use Rattle.rga_store.proofs.StepLaws.{IsChild, child_found}

-- ---- orderings

not_less : {P : Type 0} (o : Ordering) → o ≡ Greater → o ≡ Less → P
not_less o e l = absurd (let clash : Greater ≡ Less = sym e ∙ l in cc)

equal_less : {P : Type 0} → Equal ≡ Less → P
equal_less h = absurd (cc)

later_id : (a b : Identifier) → id_cmp a b ≡ Less → id_cmp b a ≡ Greater
later_id a b h = ids_total.antisymm b a ∙ ap ordering_reverse h

-- ---- paths

-- a common beginning changes nothing
common : (p q r : Path) → path_cmp (p ++ q) (p ++ r) ≡ path_cmp q r
common [] q r = refl
common (x ∷ p) q r = ap (λ o. ordering_then o (path_cmp (p ++ q) (p ++ r))) (tied_itself ids_total x) ∙ common p q r

child_later : (p : Path) (k : Identifier) → path_cmp p (p ++ k ∷ []) ≡ Less
child_later p k = ap (λ q. path_cmp q (p ++ k ∷ [])) (sym (append-nil p)) ∙ common p [] (k ∷ [])

-- what stands between a path and one of its children's paths begins with the path
begins : (p z : Path) (x : Identifier) → path_cmp p z ≡ Less → path_cmp z (p ++ x ∷ []) ≡ Less → (m : Identifier) × (rest : Path) × (z ≡ p ++ m ∷ rest)
begins [] [] x low high = equal_less low
begins [] (m ∷ z) x low high = (m, z, refl)
begins (a ∷ p) [] x low high = not_less Greater refl low
begins (a ∷ p) (b ∷ z) x low high =
    elim (id_cmp b a) as (λ o. id_cmp b a ≡ o → ordering_then o (path_cmp p z) ≡ Less → (m : Identifier) × (rest : Path) × (b ∷ z ≡ a ∷ p ++ m ∷ rest)) [
      | Less ↦ λ t low. not_less (ordering_then (id_cmp a b) (path_cmp z (p ++ x ∷ []))) (ap (λ o. ordering_then o (path_cmp z (p ++ x ∷ []))) (later_id b a t)) high
      | Equal ↦ λ t low.
          let same : b ≡ a = ids_exact b a t in
          let w = begins p z x low (ap (λ o. ordering_then o (path_cmp z (p ++ x ∷ []))) (sym (ap (id_cmp a) same ∙ tied_itself ids_total a)) ∙ high) in
          (w.0, w.1, λ k. same k ∷ w.2 k)
      | Greater ↦ λ t low. not_less Greater refl low
    ] refl low

-- what stands behind a child of a path, and goes on from the path, goes on from that child or from an older one
from_child : (p rest : Path) (o m : Identifier) → path_cmp (p ++ o ∷ []) (p ++ m ∷ rest) ≡ Less → (m ≡ o) ⊎ (id_cmp m o ≡ Less)
from_child p rest o m h =
    elim (id_cmp m o) as (λ r. id_cmp m o ≡ r → ordering_then r (path_cmp [] rest) ≡ Less → (m ≡ o) ⊎ (id_cmp m o ≡ Less)) [
      | Less ↦ λ t h. inr t
      | Equal ↦ λ t h. inl (ids_exact m o t)
      | Greater ↦ λ t h. not_less Greater refl h
    ] refl (sym (common p (o ∷ []) (m ∷ rest)) ∙ h)

-- and what stands before one goes on from a newer one
to_child : (p rest : Path) (m x : Identifier) → path_cmp (p ++ m ∷ rest) (p ++ x ∷ []) ≡ Less → id_cmp x m ≡ Less
to_child p [] m x h = grind (arith, common p (m ∷ []) (x ∷ []), h)
to_child p (y ∷ rest) m x h = grind (arith, common p (m ∷ y ∷ rest) (x ∷ []), h)

never_empty : (p q : Path) (m : Identifier) → p ++ m ∷ q ≡ [] → ⊥
never_empty [] q m h = cc
never_empty (x ∷ p) q m h = cc

-- a path that goes on ends where the path goes on by one, or further on
IsSplit : Path → Identifier → Path → Path → Identifier → Type 0
IsSplit p m rest q z = ((rest ≡ []) × (p ≡ q) × (m ≡ z)) ⊎ ((r : Path) × (q ≡ p ++ m ∷ r))

split_last : (p : Path) (m : Identifier) (rest q : Path) (z : Identifier) → p ++ m ∷ rest ≡ q ++ z ∷ [] → IsSplit p m rest q z
unfolding IsSplit
split_last [] m rest [] z h = let first : m ≡ z = cc in let left : rest ≡ [] = cc in inl (left, refl, first)
split_last [] m rest (y ∷ q) z h = let first : m ≡ y = cc in inr (q, λ k. sym first k ∷ q)
split_last (x ∷ p) m rest [] z h = let left : p ++ m ∷ rest ≡ [] = cc in absurd (never_empty p rest m left)
split_last (x ∷ p) m rest (y ∷ q) z h =
    let first : x ≡ y = cc in
    let left : p ++ m ∷ rest ≡ q ++ z ∷ [] = cc in
    elim (split_last p m rest q z left) [
      | inl w ↦ inl (w.0, λ k. first k ∷ w.1 k, w.2)
      | inr w ↦ inr (w.0, λ k. sym first k ∷ w.1 k)
    ]

-- ---- who is on a root path

same_owner : {c : Content} {a b : Identifier} {p : Path} → IsRootPath c a p → IsRootPath c b p → a ≡ b
same_owner {c} {a} {b} {p} s t =
    elim (is_root a) as (λ r. is_root a ≡ r → a ≡ b) [
      | true ↦ λ r. elim (is_root b) as (λ v. is_root b ≡ v → a ≡ b) [
        | true ↦ λ v. is_id-is a root r ∙ sym (is_id-is b root v)
        | false ↦ λ v. let e = ends v t in absurd (never_empty e.0 [] b (sym e.1 ∙ one_path s (at_root r refl)))
      ] refl
      | false ↦ λ r. elim (is_root b) as (λ v. is_root b ≡ v → a ≡ b) [
        | true ↦ λ v. let e = ends r s in absurd (never_empty e.0 [] a (sym e.1 ∙ one_path t (at_root v refl)))
        | false ↦ λ v. one_element r v s t
      ] refl
    ] refl

-- where a root path goes on from an element's, it goes on by a child of the element
on_path_child : {c : Content} {z : Identifier} {q : Path} → IsRootPath c z q → (id : Identifier) (p : Path) → IsRootPath c id p → (m : Identifier) (rest : Path) → q ≡ p ++ m ∷ rest → is_child c id m ≡ true
unfolding IsSplit
on_path_child (at_root r e) id p up m rest h = absurd (never_empty p rest m (sym h ∙ e))
on_path_child {c} {z} {q} (below x above r g s e) id p up m rest h =
    elim (split_last p m rest above z (sym h ∙ e)) [
      | inl w ↦
          let parent : x.parent ≡ id = same_owner s (subst (λ y. IsRootPath c id y) w.1 up) in
          ap (λ (o : Option Element). option_map_or (λ y. is_id y.parent id) o false) (ap (finite_map.get c.inserted) w.2 ∙ g)
          ∙ ap (λ y. is_id y id) parent ∙ is_id-itself id
      | inr w ↦ on_path_child s id p up m w.0 w.1
    ]

-- ---- lists of children

pub all_of : (P : Identifier → Type 0) (ks : List Identifier) (m : Identifier) → AllByRecursion P ks → has_child ks m ≡ true → P m
all_of P ks m h has = of_member P ks m h (sym (has-any ks m) ∙ has)

oldest_least : (ks : List Identifier) (o : Identifier) → IsRising ks → slice_get ks 0 ≡ Some o → (m : Identifier) → has_child ks m ≡ true → (m ≡ o) ⊎ (id_cmp o m ≡ Less)
unfolding IsStrictlySortedBy
oldest_least [] o up h m has = absurd (none-some _ h)
oldest_least (k ∷ ks) o up h m has =
    let first : k ≡ o = same_Some _ _ h in
    elim (or_cases (is_id k m) (has_child ks m) has) [
      | inl t ↦ inl (sym (is_id-is k m t) ∙ first)
      | inr t ↦ inr (ap (λ y. id_cmp y m) (sym first) ∙ all_of (λ y. id_cmp k y ≡ Less) ks m up.0 t)
    ]

oldest_there : (ks : List Identifier) (o : Identifier) → slice_get ks 0 ≡ Some o → has_child ks o ≡ true
oldest_there [] o h = absurd (none-some _ h)
oldest_there (k ∷ ks) o h = or_left (is_id k o) (has_child ks o) (ap (λ y. is_id y o) (same_Some _ _ h) ∙ is_id-itself o)

childless : (ks : List Identifier) (m : Identifier) → slice_get ks 0 ≡ None → has_child ks m ≡ false
childless [] m h = refl
childless (k ∷ ks) m h = absurd (none-some _ (sym h))

newer_none : (ks : List Identifier) (x m : Identifier) → next_newer x ks ≡ None → has_child ks m ≡ true → id_cmp x m ≡ Less → ⊥
newer_none [] x m h has less = true≢false (sym has)
newer_none (k ∷ ks) x m h has less = grind (arith, is_id-is k m, newer_none ks x m, h, has, less)

-- the next newer one: it is there, it is newer, and no newer one is less
record IsNextNewer (ks : List Identifier) (x k : Identifier) : Type 0 where
  pub there : has_child ks k ≡ true
  pub newer : id_cmp x k ≡ Less
  pub least : (m : Identifier) → has_child ks m ≡ true → id_cmp x m ≡ Less → (m ≡ k) ⊎ (id_cmp k m ≡ Less)

less_of : (o : Ordering) → is_lt o ≡ true → o ≡ Less
less_of o h = grind arith

newer_some : (ks : List Identifier) (x k : Identifier) → IsRising ks → next_newer x ks ≡ Some k → IsNextNewer ks x k
unfolding IsStrictlySortedBy
newer_some [] x k up h = absurd (none-some _ h)
newer_some (y ∷ ks) x k up h =
    elim (is_lt (id_cmp x y)) as (λ b. is_lt (id_cmp x y) ≡ b → cond b (Some y) (next_newer x ks) ≡ Some k → IsNextNewer (y ∷ ks) x k) [
      | true ↦ λ t h.
          let first : y ≡ k = same_Some _ _ h in
          record {
            there = or_left (is_id y k) (has_child ks k) (ap (λ i. is_id i k) first ∙ is_id-itself k);
            newer = ap (id_cmp x) (sym first) ∙ less_of (id_cmp x y) t;
            least = λ m has less. elim (or_cases (is_id y m) (has_child ks m) has) [
              | inl s ↦ inl (sym (is_id-is y m s) ∙ first)
              | inr s ↦ inr (ap (λ i. id_cmp i m) (sym first) ∙ all_of (λ i. id_cmp y i ≡ Less) ks m up.0 s)
            ];
          }
      | false ↦ λ t h.
          let w : IsNextNewer ks x k = newer_some ks x k up.1 h in
          record {
            there = or_right (is_id y k) (has_child ks k) w.there;
            newer = w.newer;
            least = λ m has less. elim (or_cases (is_id y m) (has_child ks m) has) [
              | inl s ↦ absurd (true≢false (sym (ap is_lt (ap (id_cmp x) (is_id-is y m s) ∙ less)) ∙ t))
              | inr s ↦ w.least m s less
            ];
          }
    ] refl h

-- ---- who precedes whom

precedes_path : {c : Content} {a b : Identifier} {p q : Path} → Precedes c a b → root_path c a ≡ Some p → root_path c b ≡ Some q → path_cmp p q ≡ Less
precedes_path s h g = (λ k. path_cmp (same_Some _ _ (sym h ∙ s.path_here) k) (same_Some _ _ (sym g ∙ s.path_there) k)) ∙ s.before

precedes_by : {c : Content} {a b : Identifier} {p q : Path} → root_path c a ≡ Some p → root_path c b ≡ Some q → path_cmp p q ≡ Less → Precedes c a b
precedes_by {c} {a} {b} {p} {q} h g less = record { here = p; there = q; path_here = h; path_there = g; before = less }

-- the first precedes the second, and nothing stands between
pub record IsJustBefore (c : Content) (e x : Identifier) : Type 0 where
  pub before : Precedes c e x
  pub nothing : (z : Identifier) → Precedes c e z → Precedes c z x → ⊥

-- of what stands under the first, all that stands behind the second stands under it
pub record IsDescent (c : Content) (id at : Identifier) : Type 0 where
  pub under : IsUnder c id at
  pub further : (k : Identifier) → IsUnder c id k → Precedes c at k → IsUnder c at k

-- an identifier is the root or complete
abbrev pub Stands : Content → Identifier → Type 0
Stands c id = is_root id ≡ false → is_complete c id ≡ true

path_of_standing : (c : Content) (id : Identifier) → Stands c id → (p : Path) × (root_path c id ≡ Some p)
path_of_standing c id h =
    elim (is_root id) as (λ b. is_root id ≡ b → (b ≡ false → is_complete c id ≡ true) → (p : Path) × (root_path c id ≡ Some p)) [
      | true ↦ λ r h. ([], root_path-root c id r)
      | false ↦ λ r h. let up = path_of_complete ((is_complete-iff c id).0 (h refl)) in (up.0, is-root_path up.1)
    ] refl h

pub descent_start : (c : Content) (id : Identifier) → Stands c id → IsDescent c id id
descent_start c id h =
    let up : (p : Path) × (root_path c id ≡ Some p) = path_of_standing c id h in
    record {
      under = record { path = up.0; rest = []; path_first = up.1; path_second = up.1 ∙ ap Some (sym (append-nil up.0)) };
      further = λ k u b. u;
    }

-- an insertion is not of the root, and its counter is above its parent's
pub proper : (c : Content) → IsSound c → (k : Identifier) (x : Element) → finite_map.get c.inserted k ≡ Some x → (is_root k ≡ false) × (nat_le k.counter x.parent.counter ≡ false)
proper c sound k x g = well_formed_insertion k x.parent x.ch (sound (Insert k x.parent x.ch) g)

module _ (c : Content) (K : Identifier → List Identifier) (w : IsFamily c K) (sound : IsSound c) where
  child_in : (p k : Identifier) → has_child (K p) k ≡ true → IsChild c p k
  child_in p k has = child_found c p k (sym (w.children p k) ∙ has)

  child_path : (p k : Identifier) (above : Path) → root_path c p ≡ Some above → has_child (K p) k ≡ true → root_path c k ≡ Some (above ++ k ∷ [])
  child_path p k above h has =
      let ch : IsChild c p k = child_in p k has in
      root_path-step c k ch.element (proper c sound k ch.element ch.found).0 ch.found ∙ ap (option_map (λ q. q ++ k ∷ [])) (ap (root_path c) ch.parent ∙ h)

  -- where a root path goes on from an element's, it goes on by one of the element's children
  goes_on : (z id : Identifier) (p : Path) (m : Identifier) (rest : Path) → root_path c id ≡ Some p → root_path c z ≡ Some (p ++ m ∷ rest) → has_child (K id) m ≡ true
  goes_on z id p m rest h g = w.children id m ∙ on_path_child (root_path-is {c = c} g) id p (root_path-is {c = c} h) m rest refl

  -- ---- down to the last

  module _ (id at : Identifier) (d : IsDescent c id at) where
    rest_of : (k : Identifier) → IsUnder c id k → Precedes c at k → (rest : Path) × (root_path c k ≡ Some ((d.under).path ++ (d.under).rest ++ rest))
    rest_of k u b =
        let v : IsUnder c at k = d.further k u b in
        let same : v.path ≡ (d.under).path ++ (d.under).rest = same_Some _ _ (sym v.path_first ∙ (d.under).path_second) in
        (v.rest, v.path_second ∙ ap (λ q. Some (q ++ v.rest)) same)

    pub descent_step : (o : Identifier) → slice_get (K at) 0 ≡ Some o → IsDescent c id o
    descent_step o oldest =
        record {
          under = record { path = (d.under).path; rest = (d.under).rest ++ o ∷ []; path_first = (d.under).path_first; path_second = path_o ∙ ap Some (append_assoc (d.under).path (d.under).rest (o ∷ [])) };
          further = λ k u b. let v = rest_of k u (precedes_transitive c at o k (precedes_by (d.under).path_second path_o (child_later ((d.under).path ++ (d.under).rest) o)) b) in beyond k b v.0 v.1;
        }
      where
        path_o : root_path c o ≡ Some ((d.under).path ++ (d.under).rest ++ o ∷ [])
        path_o = child_path at o ((d.under).path ++ (d.under).rest) (d.under).path_second (oldest_there (K at) o oldest)

        beyond : (k : Identifier) → Precedes c o k → (rest : Path) → root_path c k ≡ Some ((d.under).path ++ (d.under).rest ++ rest) → IsUnder c o k
        beyond k b [] h = not_less Greater refl (sym (common ((d.under).path ++ (d.under).rest) (o ∷ []) []) ∙ precedes_path b path_o h)
        beyond k b (m ∷ rest) h =
            let p : Path = (d.under).path ++ (d.under).rest in
            let has : has_child (K at) m ≡ true = goes_on k at p m rest (d.under).path_second h in
            let same : m ≡ o = elim (from_child p rest o m (precedes_path b path_o h)) [
              | inl same ↦ same
              | inr older ↦ elim (oldest_least (K at) o (w.rising at) oldest m has) [
                | inl same ↦ same
                | inr newer ↦ not_less (id_cmp m o) (later_id o m newer) older
              ]
            ] in
            record {
              path = p ++ o ∷ [];
              rest = rest;
              path_first = path_o;
              path_second = h ∙ (λ j. Some (p ++ same j ∷ rest)) ∙ ap Some (sym (append_assoc p (o ∷ []) rest));
            }

    pub descent_end : slice_get (K at) 0 ≡ None → IsLastUnder c id at
    descent_end childless_at = record {
      under = d.under;
      last = λ k u b. let v = rest_of k u b in none k b v.0 v.1;
    }
      where
        none : (k : Identifier) → Precedes c at k → (rest : Path) → root_path c k ≡ Some ((d.under).path ++ (d.under).rest ++ rest) → ⊥
        none k b [] h = precedes_irreflexive c at (precedes_by (d.under).path_second (d.under).path_second (ap (path_cmp ((d.under).path ++ (d.under).rest)) (sym (append-nil ((d.under).path ++ (d.under).rest))) ∙ precedes_path b (d.under).path_second h))
        none k b (m ∷ rest) h = true≢false (sym (goes_on k at ((d.under).path ++ (d.under).rest) m rest (d.under).path_second h) ∙ childless (K at) m childless_at)

  -- a child's counter is nearer to the clock
  pub descent_smaller : (at o : Identifier) → slice_get (K at) 0 ≡ Some o → clock_of c - o.counter < clock_of c - at.counter
  descent_smaller at o oldest =
      let ch : IsChild c at o = child_in at o (oldest_there (K at) o oldest) in
      grind (arith, nat_tests, ch.parent, (proper c sound o ch.element ch.found).1, (within_clock c).own o ch.element ch.found)

  -- ---- the one directly before

  module _ (p x : Identifier) (above : Path) (path_p : root_path c p ≡ Some above) (path_x : root_path c x ≡ Some (above ++ x ∷ [])) where
    -- what stands between the parent and the element goes on from the parent by a newer sibling
    record IsAside (z : Identifier) : Type 0 where
      pub sibling : Identifier
      pub rest : Path
      pub path : root_path c z ≡ Some (above ++ sibling ∷ rest)
      pub there : has_child (K p) sibling ≡ true
      pub newer : id_cmp x sibling ≡ Less

    aside : (z : Identifier) → Precedes c p z → Precedes c z x → IsAside z
    aside z a b =
        let low : path_cmp above a.there ≡ Less = precedes_path a path_p a.path_there in
        let high : path_cmp a.there (above ++ x ∷ []) ≡ Less = precedes_path b a.path_there path_x in
        let v : (m : Identifier) × (rest : Path) × (a.there ≡ above ++ m ∷ rest) = begins above a.there x low high in
        let path : root_path c z ≡ Some (above ++ v.0 ∷ v.1) = a.path_there ∙ ap Some v.2 in
        record {
          sibling = v.0;
          rest = v.1;
          path = path;
          there = goes_on z p above v.0 v.1 path_p path;
          newer = to_child above v.1 v.0 x (ap (λ q. path_cmp q (above ++ x ∷ [])) (sym v.2) ∙ high);
        }

    pub parent_before : next_newer x (K p) ≡ None → IsJustBefore c p x
    parent_before none = record {
      before = precedes_by path_p path_x (child_later above x);
      nothing = λ z a b. let s : IsAside z = aside z a b in newer_none (K p) x s.sibling none s.there s.newer;
    }

    -- the next newer sibling is complete
    pub sibling_complete : (k : Identifier) → next_newer x (K p) ≡ Some k → is_complete c k ≡ true
    sibling_complete k next =
        let has : has_child (K p) k ≡ true = (newer_some (K p) x k (w.rising p) next).there in
        let ch : IsChild c p k = child_in p k has in
        λ j. not ((proper c sound k ch.element ch.found).0 j) && is_some (child_path p k above path_p has j)

    pub last_before : (k e : Identifier) → next_newer x (K p) ≡ Some k → IsLastUnder c k e → IsJustBefore c e x
    last_before k e next last =
        record {
          before = precedes_by path_e path_x (common above (k ∷ (last.under).rest) (x ∷ []) ∙ ap (λ o. ordering_then o (path_cmp (last.under).rest [])) its.newer);
          nothing = λ z a b. let s : IsAside z = aside z (precedes_transitive c p e z parent_first a) b in elim (its.least s.sibling s.there s.newer) [
            | inl same ↦ last.last z (record { path = above ++ k ∷ []; rest = s.rest; path_first = path_k; path_second = s.path ∙ (λ j. Some (above ++ same j ∷ s.rest)) ∙ ap Some (sym (append_assoc above (k ∷ []) s.rest)) }) a
            | inr newer ↦ not_less (ordering_then (id_cmp s.sibling k) (path_cmp (last.under).rest s.rest)) (ap (λ o. ordering_then o (path_cmp (last.under).rest s.rest)) (later_id k s.sibling newer))
                (sym (common above (k ∷ (last.under).rest) (s.sibling ∷ s.rest)) ∙ precedes_path a path_e s.path)
          ];
        }
      where
        its : IsNextNewer (K p) x k
        its = newer_some (K p) x k (w.rising p) next

        path_k : root_path c k ≡ Some (above ++ k ∷ [])
        path_k = child_path p k above path_p its.there

        path_e : root_path c e ≡ Some (above ++ k ∷ (last.under).rest)
        path_e =
            (last.under).path_second ∙ ap (λ q. Some (q ++ (last.under).rest)) (same_Some _ _ (sym (last.under).path_first ∙ path_k))
            ∙ ap Some (append_assoc above (k ∷ []) (last.under).rest)

        parent_first : Precedes c p e
        parent_first = precedes_by path_p path_e (ap (λ q. path_cmp q (above ++ k ∷ (last.under).rest)) (sym (append-nil above)) ∙ common above [] (k ∷ (last.under).rest))

-- ---- a complete element and its parent

pub record IsPathed (c : Content) (p x : Identifier) : Type 0 where
  pub above : Path
  pub path_parent : root_path c p ≡ Some above
  pub path : root_path c x ≡ Some (above ++ x ∷ [])

pub pathed : (c : Content) (p x : Identifier) → is_child c p x ≡ true → is_complete c x ≡ true → IsPathed c p x
pathed c p x child complete =
    let whole = (is_complete-iff c x).0 complete in
    by (not_complete_root whole) (path_of_complete whole).1
  where
    its : IsChild c p x
    its = child_found c p x child

    by : {q : Path} → is_root x ≡ false → IsRootPath c x q → IsPathed c p x
    by other (at_root r e) = absurd (true≢false (sym r ∙ other))
    by other (below y above r g s e) =
        let parent : y.parent ≡ p = ap (λ (z : Element). z.parent) (same_Some _ _ (sym g ∙ its.found)) ∙ its.parent in
        record { above = above; path_parent = is-root_path {c = c} (subst (λ i. IsRootPath c i above) parent s); path = is-root_path {c = c} (below y above r g s refl) }

pub complete_if_pathed : (c : Content) (id : Identifier) (p : Path) → root_path c id ≡ Some p → is_root id ≡ false → is_complete c id ≡ true
complete_if_pathed c id p path other = λ k. not (other k) && is_some (path k)

-- ---- the order up to an element

pub tail_in_order : (c : Content) (x : Identifier) (ys : List Identifier) → IsInOrder c (x ∷ ys) → IsInOrder c ys
tail_in_order c x ys o = grind arith

-- an element before which nothing stands is the first
up_to-first : (c : Content) (x : Identifier) (ys : List Identifier) → IsInOrder c ys → has_child ys x ≡ true → ((z : Identifier) → has_child ys z ≡ true → Precedes c z x → ⊥) → up_to x ys ≡ x ∷ []
up_to-first c x [] o m none = absurd (true≢false (sym m))
up_to-first c x (y ∷ ys) o m none = grind (arith, is_id-is y x, is_id-itself y, none y, all_of (Precedes c y) ys x (precedes_later c y ys o), m)

-- what stands behind the first of a list is up to an element what it is in the rest
past_first : (c : Content) (y x : Identifier) (ys : List Identifier) → Precedes c y x → has_child (y ∷ ys) x ≡ true → (has_child ys x ≡ true) × (up_to x (y ∷ ys) ≡ y ∷ up_to x ys)
past_first c y x ys before m =
    let other : is_id y x ≡ false = false_from_ne_true (is_id y x) (λ t. precedes_irreflexive c x (subst (λ i. Precedes c i x) (is_id-is y x t) before)) in
    grind (arith, other, m)

up_to-next : (c : Content) (e x : Identifier) (ys : List Identifier) → IsInOrder c ys → has_child ys e ≡ true → has_child ys x ≡ true → IsJustBefore c e x → up_to x ys ≡ up_to e ys ++ x ∷ []
up_to-next c e x [] o me mx j = absurd (true≢false (sym me))
up_to-next c e x (y ∷ ys) o me mx j =
    let later : AllByRecursion (Precedes c y) ys = precedes_later c y ys o in
    elim (is_id y e) as (λ b. is_id y e ≡ b → (b || has_child ys e) ≡ true → up_to x (y ∷ ys) ≡ cond b (y ∷ []) (y ∷ up_to e ys) ++ x ∷ []) [
      | true ↦ λ t me.
          let same : y ≡ e = is_id-is y e t in
          let rest = past_first c y x ys (subst (λ i. Precedes c i x) (sym same) j.before) mx in
          rest.1 ∙ ap (λ r. y ∷ r) (up_to-first c x ys (tail_in_order c y ys o) rest.0
          (λ z m a. j.nothing z (subst (λ i. Precedes c i z) same (all_of (Precedes c y) ys z later m)) a))
      | false ↦ λ t me.
          let rest = past_first c y x ys (precedes_transitive c y e x (all_of (Precedes c y) ys e later me) j.before) mx in
          rest.1 ∙ ap (λ r. y ∷ r) (up_to-next c e x ys (tail_in_order c y ys o) me rest.0 j)
    ] refl me

pub in_list : (c : Content) (id : Identifier) → is_complete c id ≡ true → has_child (order c) id ≡ true
in_list c id h = has-any (order c) id ∙ (order_list c).elements id ∙ h

-- each element of the order stands behind the root
pub behind_root : (c : Content) (e z : Identifier) → is_root e ≡ true → has_child (order c) z ≡ true → Precedes c e z
behind_root c e z r m =
    let whole = (is_complete-iff c z).0 (sym ((order_list c).elements z) ∙ sym (has-any (order c) z) ∙ m) in
    let up = path_of_complete whole in
    let end = ends (not_complete_root whole) up.1 in
    precedes_by (root_path-root c e r) (is-root_path up.1) (ap (path_cmp []) end.1 ∙ starts end.0)
  where
    starts : (q : Path) → path_cmp [] (q ++ z ∷ []) ≡ Less
    starts [] = refl
    starts (y ∷ q) = refl

-- the order up to an element ends in it, and before that is the order up to what stands directly before it
pub beginning_before : (c : Content) (e x : Identifier) → IsJustBefore c e x → is_complete c x ≡ true → beginning c x ≡ beginning c e ++ x ∷ []
beginning_before c e x j complete =
    ap (λ b. cond b [] (up_to x (order c))) (not_complete_root ((is_complete-iff c x).0 complete))
    ∙ elim (is_root e) as (λ b. is_root e ≡ b → up_to x (order c) ≡ cond b [] (up_to e (order c)) ++ x ∷ []) [
      | true ↦ λ r. up_to-first c x (order c) (order_list c).in_order (in_list c x complete) (λ z m a. j.nothing z (behind_root c e z r m) a)
      | false ↦ λ r. up_to-next c e x (order c) (order_list c).in_order (in_list c e (complete_if_pathed c e (j.before).here (j.before).path_here r)) (in_list c x complete) j
    ] refl

-- ---- places

pub place_by : (c : Content) (id : Identifier) → Stands c id → place c id ≡ Some (length (visible_up_to c id))
place_by c id h =
    grind (arith, h)
