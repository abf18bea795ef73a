-- Visible elements counted back through the order, and where the order ends.
use Rattle.std.proofs.Common.{◌≡◌, ℕ, append_assoc, reverse, ◌+◌, ◌<◌, ◌≤◌, true, false, cond, not, ◌&&◌, ◌||◌, Bool, List, [], ◌∷◌, ◌++◌, filter, length, length-append, is_some, suc, zero, refl, sym, ap, ◌∙◌, subst, arith, append-nil}
use Rattle.std.specs.Prelude.{Option, Some, None, slice_get}
use Rattle.std.specs.Option.{option_map_or}
use Rattle.std.specs.List.{AllByRecursion, cons_option, filter_map}
use Rattle.std.specs.FinMap as finite_map
use Rattle.std.proofs.lemmas.Bool.Decides.{nat_tests}
use Rattle.std.proofs.lemmas.List.{reverse-append}
use Rattle.std.proofs.lemmas.List.Elements.{filter-append, filter_map-append}
use Rattle.std.proofs.lemmas.List.Sums.{length-filter, count_by-le-length}
use Rattle.std.specs.Int.{from_bool}
use Rattle.rga_ops.specs.Identifier.{Identifier, is_id, is_root}
use Rattle.rga_ops.specs.Content.{Element, Content, IsSound}
use Rattle.rga_ops.specs.RootPath.{root_path, is_complete}
use Rattle.rga_ops.specs.Order.{order, shown, Precedes, IsInOrder}
use Rattle.rga_ops.specs.Places.{is_visible, up_to, place}
use Rattle.rga_ops.proofs.IdentifierLaws.{is_id-is, is_id-itself}
use Rattle.rga_ops.proofs.PathLaws.{root_path-root, root_path-absent, root_path-step, inserted_if_complete}
use Rattle.rga_ops.proofs.OrderLaws.{order_list, precedes_later}
use Rattle.rga_ops.proofs.WaitingLaws.{ordered_and_waiting}
use Rattle.rga_tree.specs.Children.{has_child}
use Rattle.rga_store.specs.Child.{is_child}
use Rattle.rga_tree.specs.Preceding.{beginning, visible_up_to, IsLastUnder, IsShownChild}
use Rattle.rga_store.proofs.StepLaws.{len-keys}
use Rattle.rga_tree.proofs.NodeLaws.{is_some-mapped}
use Rattle.rga_tree.proofs.PrecedingLaws.{Stands, in_list, behind_root, tail_in_order, complete_if_pathed, proper}

-- ---- the end of the order

-- a list up to an element behind which nothing stands is the whole list
up_to-last : (c : Content) (e : Identifier) (ys : List Identifier) → IsInOrder c ys → has_child ys e ≡ true → ((z : Identifier) → has_child ys z ≡ true → Precedes c e z → ⊥) → up_to e ys ≡ ys
up_to-last c e [] o m none = refl
up_to-last c e (y ∷ ys) o m none =
    elim (is_id y e) as (λ b. is_id y e ≡ b → (b || has_child ys e) ≡ true → cond b (y ∷ []) (y ∷ up_to e ys) ≡ y ∷ ys) [
      | true ↦ λ t m. ap (λ zs. y ∷ zs) (sym (alone ys (subst (λ i. AllByRecursion (Precedes c i) ys) (is_id-is y e t) (precedes_later c y ys o)) (λ z has. none z (later z has))))
      | false ↦ λ t m. ap (λ zs. y ∷ zs) (up_to-last c e ys (tail_in_order c y ys o) m (λ z has. none z (later z has)))
    ] refl m
  where
    later : (z : Identifier) → has_child ys z ≡ true → has_child (y ∷ ys) z ≡ true
    later z has = elim (is_id y z) as (λ b. (b || has_child ys z) ≡ true) [ true ↦ refl | false ↦ has ]

    alone : (zs : List Identifier) → AllByRecursion (Precedes c e) zs → ((z : Identifier) → has_child zs z ≡ true → Precedes c e z → ⊥) → zs ≡ []
    alone [] all none = refl
    alone (z ∷ zs) all none = absurd (none z (ap (λ b. b || has_child zs z) (is_id-itself z)) all.0)

module _ (c : Content) (r e : Identifier) (start : is_root r ≡ true) (last : IsLastUnder c r e) where
  pub end_stands : Stands c e
  end_stands = complete_if_pathed c e ((last.under).path ++ (last.under).rest) (last.under).path_second

  -- each element of the order stands under the root
  nothing_behind : (z : Identifier) → has_child (order c) z ≡ true → Precedes c e z → ⊥
  nothing_behind z has before =
      last.last z (record { path = []; rest = before.there; path_first = root_path-root c r start; path_second = before.path_there }) before

  empty : (ys : List Identifier) → ((z : Identifier) → has_child ys z ≡ true → ⊥) → ys ≡ []
  empty [] none = refl
  empty (y ∷ ys) none = absurd (none y (ap (λ b. b || has_child ys y) (is_id-itself y)))

  -- the order up to what is last under the root is the whole order
  pub end_of_order : beginning c e ≡ order c
  end_of_order =
      elim (is_root e) as (λ b. is_root e ≡ b → cond b [] (up_to e (order c)) ≡ order c) [
        | true ↦ λ t. sym (empty (order c) (λ z has. nothing_behind z has (behind_root c e z t has)))
        | false ↦ λ t. up_to-last c e (order c) (order_list c).in_order (in_list c e (end_stands t)) nothing_behind
      ] refl

-- ---- one element back

-- the elements up to the root are none
pub none_up_to : (c : Content) (id : Identifier) → is_root id ≡ true → beginning c id ≡ []
none_up_to c id r = ap (λ b. cond b [] (up_to id (order c))) r

pub one_less : (c : Content) (e x : Identifier) → beginning c x ≡ beginning c e ++ x ∷ [] → visible_up_to c x ≡ visible_up_to c e ++ cond (is_visible c x) (x ∷ []) []
one_less c e x before = ap (filter (is_visible c)) before ∙ filter-append (is_visible c) (beginning c e) (x ∷ [])

-- a list made from the last to the first, and what is still to come, turned round
pub turned : {A : Type 0} (before here items more : List A) → here ≡ before ++ more → reverse more ≡ more → before ++ reverse (items ++ more) ≡ here ++ reverse items
turned before here items more is alike =
    ap (λ xs. before ++ xs) (reverse-append items more ∙ ap (λ xs. xs ++ reverse items) alike)
    ∙ sym (append_assoc before more (reverse items)) ∙ ap (λ xs. xs ++ reverse items) (sym is)

pub ids_turned : (c : Content) (e x : Identifier) (b : Bool) (old new : List Identifier) → beginning c x ≡ beginning c e ++ x ∷ [] → b ≡ is_visible c x → new ≡ old ++ cond b (x ∷ []) []
    → visible_up_to c e ++ reverse new ≡ visible_up_to c x ++ reverse old
ids_turned c e x b old new before is more =
    ap (λ xs. visible_up_to c e ++ reverse xs) more
    ∙ turned (visible_up_to c e) (visible_up_to c x) old (cond b (x ∷ []) []) (one_less c e x before ∙ ap (λ v. visible_up_to c e ++ cond v (x ∷ []) []) (sym is)) (grind arith)

-- the characters up to an element
abbrev pub chars_up_to : Content → Identifier → List ℕ
chars_up_to c id = filter_map (shown c) (beginning c id)

pub chars_turned : (c : Content) (e x : Identifier) (ch : Option ℕ) (old new : List ℕ) → beginning c x ≡ beginning c e ++ x ∷ [] → ch ≡ shown c x → new ≡ old ++ cons_option ch []
    → chars_up_to c e ++ reverse new ≡ chars_up_to c x ++ reverse old
chars_turned c e x ch old new before is more =
    ap (λ xs. chars_up_to c e ++ reverse xs) more
    ∙ turned (chars_up_to c e) (chars_up_to c x) old (cons_option ch [])
    (ap (filter_map (shown c)) before ∙ filter_map-append (shown c) (beginning c e) (x ∷ []) ∙ ap (λ o. chars_up_to c e ++ cons_option o []) (sym is)) (grind arith)

-- by one where the element is visible
pub count_less : (c : Content) (e x : Identifier) (b : Bool) → beginning c x ≡ beginning c e ++ x ∷ [] → b ≡ is_visible c x → length (visible_up_to c x) ≡ length (visible_up_to c e) + from_bool b
count_less c e x b before is =
    ap length (one_less c e x before) ∙ length-append (visible_up_to c e) (cond (is_visible c x) (x ∷ []) [])
    ∙ grind (arith, is)

pub shorter : (c : Content) (e x : Identifier) → beginning c x ≡ beginning c e ++ x ∷ [] → length (beginning c e) < length (beginning c x)
shorter c e x before = omega (arith, ap length before, length-append (beginning c e) (x ∷ []))

-- ---- no more elements than are inserted

up_to-short : (id : Identifier) (xs : List Identifier) → length (up_to id xs) ≤ length xs
up_to-short id [] = omega arith
up_to-short id (x ∷ xs) = let rest = up_to-short id xs in grind arith

beginning-short : (c : Content) (id : Identifier) → length (beginning c id) ≤ length (order c)
beginning-short c id = let rest = up_to-short id (order c) in grind arith

pub few_up_to : (c : Content) (id : Identifier) → length (visible_up_to c id) ≤ finite_map.len c.inserted
few_up_to c id = omega (arith, length-filter (is_visible c) (beginning c id), count_by-le-length (is_visible c) (beginning c id), beginning-short c id, ordered_and_waiting c, len-keys c)

-- ---- the element at an index

got_before : (xs ys : List Identifier) (k : ℕ) → k < length xs → slice_get (xs ++ ys) k ≡ slice_get xs k
got_before [] ys k h = absurd (omega arith)
got_before (x ∷ xs) ys zero h = refl
got_before (x ∷ xs) ys (suc k) h = got_before xs ys k (omega arith)

got_last : (xs : List Identifier) (x : Identifier) (k : ℕ) → k ≡ length xs → slice_get (xs ++ x ∷ []) k ≡ Some x
got_last [] x zero h = refl
got_last [] x (suc k) h = absurd (omega arith)
got_last (y ∷ xs) x zero h = absurd (omega arith)
got_last (y ∷ xs) x (suc k) h = got_last xs x k (omega arith)

-- the element is at the index where no more than that many are before it, and more up to it
pub at_here : (c : Content) (e x : Identifier) (k : ℕ) → beginning c x ≡ beginning c e ++ x ∷ [] → k < length (visible_up_to c x) → length (visible_up_to c e) ≤ k → slice_get (visible_up_to c x) k ≡ Some x
at_here c e x k before within reached =
    elim (is_visible c x) as (λ b. visible_up_to c x ≡ visible_up_to c e ++ cond b (x ∷ []) [] → slice_get (visible_up_to c x) k ≡ Some x) [
      | true ↦ λ is.
          let at : k ≡ length (visible_up_to c e) = omega (arith, within, reached, ap length is, length-append (visible_up_to c e) (x ∷ [])) in
          ap (λ xs. slice_get xs k) is ∙ got_last (visible_up_to c e) x k at
      | false ↦ λ is. absurd (omega (arith, within, reached, ap length (is ∙ append-nil (visible_up_to c e))))
    ] (one_less c e x before)

pub at_before : (c : Content) (e x : Identifier) (k : ℕ) → beginning c x ≡ beginning c e ++ x ∷ [] → k < length (visible_up_to c e) → slice_get (visible_up_to c x) k ≡ slice_get (visible_up_to c e) k
at_before c e x k before within = ap (λ xs. slice_get xs k) (one_less c e x before) ∙ got_before (visible_up_to c e) (cond (is_visible c x) (x ∷ []) []) k within

-- ---- up the parents

pub child_of_parent : (c : Content) (x p : Identifier) (ch : Option ℕ) → IsShownChild c x p ch → is_child c p x ≡ true
child_of_parent c x p ch w =
    ap (λ (o : Option Element). option_map_or (λ y. is_id y.parent p) o false) w.found ∙ ap (λ y. is_id y p) w.parent ∙ is_id-itself p

-- what stands and is not inserted is the root
pub root_if_absent : (c : Content) (x : Identifier) → Stands c x → finite_map.get c.inserted x ≡ None → is_root x ≡ true
root_if_absent c x stands h =
    grind (arith, inserted_if_complete c x, stands, h)

module _ (c : Content) (sound : IsSound c) (x p : Identifier) (ch : Option ℕ) (w : IsShownChild c x p ch) where
  pub no_root : is_root x ≡ false
  no_root = (proper c sound x w.element w.found).0

  pub parent_less : p.counter < x.counter
  parent_less = grind (arith, nat_tests, w.parent, (proper c sound x w.element w.found).1)

  -- an element has a root path where its parent has one
  pub reaches_by_parent : is_some (root_path c x) ≡ is_some (root_path c p)
  reaches_by_parent =
      ap is_some (root_path-step c x w.element no_root w.found) ∙ is_some-mapped (λ q. q ++ x ∷ []) (root_path c w.element.parent)
      ∙ ap (λ q. is_some (root_path c q)) w.parent

pub reaches_if_root : (c : Content) (x : Identifier) → finite_map.get c.inserted x ≡ None → is_root x ≡ is_some (root_path c x)
reaches_if_root c x h =
    grind (arith, root_path-root c x, root_path-absent c x, h)

-- what has a root path stands, and what has none has no place
pub stands_if_reaching : (c : Content) (x : Identifier) → is_some (root_path c x) ≡ true → Stands c x
stands_if_reaching c x h = λ r k. not (r k) && h k

pub no_place_if_not : (c : Content) (x : Identifier) → is_some (root_path c x) ≡ false → None ≡ place c x
no_place_if_not c x h =
    grind (arith, root_path-root c x, h)

-- a complete element is visible where it shows a character
pub visible_if_shown : (c : Content) (x p : Identifier) (ch : Option ℕ) → IsShownChild c x p ch → is_complete c x ≡ true → is_some ch ≡ is_visible c x
visible_if_shown c x p ch w complete =
    grind (arith, w.shows, w.found, complete)
