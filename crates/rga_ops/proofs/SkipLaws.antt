-- The skip rule: where parents are smaller than their children, a new element goes in behind its parent, past the larger
-- identifiers that stand there.
use Rattle.std.proofs.Common.{◌≡◌, ◌≢◌, ℕ, true, false, cond, T, List, [], ◌∷◌, ◌++◌, refl, sym, ap, ◌∙◌, subst, true≢false, append_assoc, arith}
use Rattle.std.specs.Prelude.{Some, None, Ok}
use Rattle.std.specs.Ordering.{is_eq, is_gt}
use Rattle.std.specs.declared.cmp.Ordering.TheVariants.{Less, Equal, Greater}
use Rattle.std.specs.FinMap as finite_map
use Rattle.std.specs.FinMap.{find, is_sorted}
use Rattle.std.specs.FinMap.Entries.{put, by_order, below_all}
use Rattle.std.proofs.lemmas.Option.{none-some}
use Rattle.std.proofs.lemmas.Bool.{false_from_ne_true}
use Rattle.rga_ops.specs.Identifier.{Identifier, id_cmp, is_root}
use Rattle.rga_ops.specs.Operation.{checked}
use Rattle.rga_ops.specs.Content.{Element, Content, IsSound, join, single}
use Rattle.rga_ops.specs.RootPath.{Path, path_cmp, IsRootPath, at_root, below}
use Rattle.rga_ops.specs.Order.{by_path, order}
use Rattle.rga_ops.specs.Placement.{put_past_larger, put_by_skip_rule}
use Rattle.rga_ops.proofs.IdentifierLaws.{is, same_id}
use Rattle.rga_ops.proofs.MemberLaws.{all_map}
use Rattle.rga_ops.proofs.BeforeLaws.{paths_total, paths_exact}
use Rattle.rga_ops.proofs.SortedLaws.{both_so}
use Rattle.rga_ops.proofs.PathLaws.{one_path}
use Rattle.rga_ops.proofs.PlacedLaws.{IsPlaced, by_path-get, same_path}
use Rattle.rga_ops.proofs.RisingPathLaws.{IsRisingTo, ParentsAreSmaller, between, beyond, rising-push, rising_path}
use Rattle.rga_ops.proofs.AnswerLaws.{well_formed_insertion}
use Rattle.rga_ops.proofs.InsertionLaws.{IsNewLeaf}
use Rattle.rga_ops.proofs.BehindLaws.{behind_beginning, earlier_than, Entry, ids, AreLater, AreEarlier, GoesIn, all_later, earlier-push, path_is_new, order-change}
use Rattle.rga_ops.specs.declared.op.Op.TheVariants.{Insert}

-- ---- entries before and behind the new path

-- what is found under a path stands before all that are left, and so was passed
located : (p g : Path) (v : Identifier) (xs ys : List Entry) → find path_cmp g (xs ++ ys) ≡ Some v → AreEarlier p xs → AreLater g ys → path_cmp p g ≡ Greater
located p g v [] [] h passed left = absurd (none-some _ h)
located p g v [] (y ∷ ys) h passed left = located p g v [] ys (sym (ap (λ o. cond (is_eq o) (Some y.1) (find path_cmp g ys)) left.0) ∙ h) tt left.1
located p g v (x ∷ xs) ys h passed left = grind (arith, located p g v xs ys, same_path g x.0, passed.0, passed.1, left)

sorted_rest : (xs ys : List Entry) → T (is_sorted path_cmp (xs ++ ys)) → T (is_sorted path_cmp ys)
sorted_rest [] ys h = h
sorted_rest (x ∷ xs) ys h = sorted_rest xs ys (both_so (below_all path_cmp x.0 (xs ++ ys)) (is_sorted path_cmp (xs ++ ys)) h).1

module _ (c : Content) (id parent : Identifier) (ch : ℕ) (w : IsNewLeaf c id) (rises : ParentsAreSmaller c) (lower : id_cmp parent id ≡ Less) where
  module _ (above : Path) (up : IsRootPath c parent above) where
    abbrev here : Path
    here = above ++ id ∷ []

    abbrev es : List Entry
    es = finite_map.entries (by_path c)

    here_rises : IsRisingTo here id
    unfolding IsRisingTo
    here_rises = elim (is_root parent) as (λ b. is_root parent ≡ b → IsRisingTo (above ++ id ∷ []) id) [
      | true ↦ λ t. subst (λ z. IsRisingTo (z ++ id ∷ []) id) (sym (one_path up (at_root t refl))) refl
      | false ↦ λ f. rising-push above parent id (rising_path rises f up) lower
    ] refl

    here_after_root : path_cmp here [] ≡ Greater
    here_after_root = start above
      where
        start : (q : Path) → path_cmp (q ++ id ∷ []) [] ≡ Greater
        start [] = refl
        start (x ∷ q) = refl

    -- the parent of the first entry behind the new path stands before the new path
    parent_passed : (done : List Entry) (e : Entry) (left : List Entry) → es ≡ done ++ e ∷ left → AreEarlier here done → (parent_of : Identifier) (g : Path) → IsRootPath c parent_of g → e.0 ≡ g ++ e.1 ∷ [] → path_cmp here g ≡ Greater
    parent_passed done e left split passed parent_of g s h =
        elim (is_root parent_of) as (λ b. is_root parent_of ≡ b → path_cmp here g ≡ Greater) [
          | true ↦ λ t. ap (path_cmp here) (one_path s (at_root t refl)) ∙ here_after_root
          | false ↦ λ f.
              let found : find path_cmp g es ≡ Some parent_of = sym (finite_map.get-entries (by_path c) g) ∙ by_path-get c g parent_of (record { element = f; path = s }) in
              let before : path_cmp g e.0 ≡ Less = ap (path_cmp g) h ∙ earlier_than (g ++ e.1 ∷ []) g (behind_beginning g e.1) in
              let sorted : T (is_sorted path_cmp (e ∷ left)) = sorted_rest done (e ∷ left) (subst (λ xs. T (is_sorted path_cmp xs)) split (finite_map.entries_sorted (by_path c))) in
              let after : AreLater e.0 left = all_later e.0 left (both_so (below_all path_cmp e.0 left) (is_sorted path_cmp left) sorted).0 in
              located here g parent_of done (e ∷ left) (ap (find path_cmp g) (sym split) ∙ found) passed
              (before, all_map (λ (y : Entry). path_cmp e.0 y.0 ≡ Less) (λ (y : Entry). path_cmp g y.0 ≡ Less) (λ y k. paths_total.trans g e.0 y.0 before k) left after)
        ] refl

    -- and so that entry has a smaller identifier
    first_behind : (done : List Entry) (e : Entry) (left : List Entry) → es ≡ done ++ e ∷ left → AreEarlier here done → IsPlaced c e.1 e.0 → path_cmp here e.0 ≡ Less → id_cmp e.1 id ≡ Less
    first_behind done e left split passed there behind = go there.element there.path
      where
        go : is_root e.1 ≡ false → IsRootPath c e.1 e.0 → id_cmp e.1 id ≡ Less
        go other (at_root r h) = absurd (true≢false (sym r ∙ other))
        go other (below x g r f s h) =
            let behind_g : path_cmp here (g ++ e.1 ∷ []) ≡ Less = ap (path_cmp here) (sym h) ∙ behind in
            beyond g here id e.1 here_rises (parent_passed done e left split passed x.parent g s h) behind_g

    past_larger : GoesIn c id parent ch w above up (put_past_larger id)
    past_larger done [] split passed later there = refl
    past_larger done (e ∷ left) split passed later there =
        elim (path_cmp here e.0) as (λ o. path_cmp here e.0 ≡ o → ids (by_order o ((here, id) ∷ e ∷ left) ((e.0, id) ∷ left) (e ∷ put path_cmp here id left)) ≡ cond (is_gt (id_cmp e.1 id)) (e.1 ∷ put_past_larger id (ids left)) (id ∷ e.1 ∷ ids left)) [
          | Less ↦ λ t. sym (ap (λ o. cond (is_gt o) (e.1 ∷ put_past_larger id (ids left)) (id ∷ e.1 ∷ ids left)) (first_behind done e left split passed there.0 t))
          | Equal ↦ λ t. absurd (path_is_new c id parent ch w above up e there.0 (paths_exact here e.0 t))
          | Greater ↦ λ t.
              ap (λ r. e.1 ∷ r) (past_larger (done ++ e ∷ []) left (split ∙ sym (append_assoc done (e ∷ []) left)) (earlier-push here done e passed t) later.1 there.1)
              ∙ sym (ap (λ o. cond (is_gt o) (e.1 ∷ put_past_larger id (ids left)) (id ∷ e.1 ∷ ids left)) (between above e.0 id e.1 (rising_path rises (there.0).element (there.0).path) later.0 t))
        ] refl

  pub order_by_skip_rule : order (join c (single (Insert id parent ch))) ≡ put_by_skip_rule parent id (order c)
  order_by_skip_rule = order-change c id parent ch w (put_past_larger id) (λ above up. past_larger above up)

-- ---- well-formed insertions

smaller_parent : (id parent : Identifier) (ch : ℕ) → checked (Insert id parent ch) ≡ Ok tt → id_cmp parent id ≡ Less
smaller_parent id parent ch h = grind arith

pub sound_rises : (c : Content) → IsSound c → ParentsAreSmaller c
sound_rises c sound k x g = smaller_parent k x.parent x.ch (sound (Insert k x.parent x.ch) g)

-- a well-formed insertion goes into a sound content by the skip rule
pub order-skip :
    (c : Content) (id parent : Identifier) (ch : ℕ) → IsSound c → checked (Insert id parent ch) ≡ Ok tt → finite_map.get c.inserted id ≡ None
    → ((k : Identifier) (x : Element) → finite_map.get c.inserted k ≡ Some x → x.parent ≢ id)
    → order (join c (single (Insert id parent ch))) ≡ put_by_skip_rule parent id (order c)
order-skip c id parent ch sound well_formed absent childless =
    order_by_skip_rule c id parent ch
    (record { element = (well_formed_insertion id parent ch well_formed).0; absent = absent; childless = λ k x g. false_from_ne_true (is x.parent id) (λ t. childless k x g (same_id x.parent id t)) })
    (sound_rises c sound) (smaller_parent id parent ch well_formed)
