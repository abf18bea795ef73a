-- Paths on which each identifier is larger than the one before it, and what stands between such a path and its beginning.
use Rattle.std.proofs.Common.{◌≡◌, ◌≢◌, true, false, [], ◌∷◌, ◌++◌, refl, sym, ap, ◌∙◌, subst, true≢false, arith}
use Rattle.std.specs.Prelude.{Some}
use Rattle.std.specs.Cmp.{tied_itself}
use Rattle.std.specs.Ordering.{ordering_then, ordering_reverse}
use Rattle.std.specs.declared.cmp.Ordering.TheVariants.{Less, Equal, Greater}
use Rattle.std.specs.FinMap as finite_map
use Rattle.rga_ops.specs.Identifier.{Identifier, id_cmp, is_root}
use Rattle.rga_ops.specs.Content.{Element, Content}
use Rattle.rga_ops.specs.RootPath.{Path, path_cmp, IsRootPath, at_root, below}
use Rattle.rga_ops.proofs.IdentifierLaws.{ids_total, ids_exact}
use Rattle.rga_ops.proofs.PathLaws.{one_path}
use Rattle.rga_ops.proofs.BeforeLaws.{paths_total}

-- each identifier on the path is smaller than the next, and the last is the given one
unfoldable pub IsRisingTo : Path → Identifier → Type 0
IsRisingTo [] k = ⊥
IsRisingTo (x ∷ []) k = x ≡ k
IsRisingTo (x ∷ y ∷ r) k = (id_cmp x y ≡ Less) × IsRisingTo (y ∷ r) k

nothing_after : (r : Path) → path_cmp [] r ≡ Greater → ⊥
nothing_after r h = grind arith

nothing_before : (p : Path) → path_cmp p [] ≡ Less → ⊥
nothing_before [] h = cc
nothing_before (x ∷ p) h = cc

-- from x > k, where x < y
passes_on : (x y k : Identifier) → id_cmp x y ≡ Less → id_cmp x k ≡ Greater → id_cmp y k ≡ Greater
passes_on x y k h e = ids_total.antisymm y k ∙ ap ordering_reverse (ids_total.trans k x y (ids_total.antisymm k x ∙ ap ordering_reverse e) h)

-- the first is the last, or below it
first_below : (x : Identifier) (r : Path) (k : Identifier) → IsRisingTo (x ∷ r) k → id_cmp x k ≢ Greater
unfolding IsRisingTo
first_below x [] k h e = let same : id_cmp k k ≡ Greater = ap (λ z. id_cmp z k) (sym h) ∙ e in cc (tied_itself ids_total k)
first_below x (y ∷ r) k h e = first_below y r k h.1 (passes_on x y k h.0 e)

-- what is above the first of a rising path's beginning: from x > id, k > id
above : (x k id : Identifier) → id_cmp x k ≢ Greater → id_cmp x id ≡ Greater → id_cmp k id ≡ Greater
above x k id low high =
    elim (id_cmp x k) as (λ o. id_cmp x k ≡ o → id_cmp k id ≡ Greater) [
      | Less ↦ λ t. passes_on x k id t high
      | Equal ↦ λ t. ap (λ z. id_cmp z id) (sym (ids_exact x k t)) ∙ high
      | Greater ↦ λ t. absurd (low t)
    ] refl

-- what stands between a path and that path with id ends in a greater identifier
pub between : (p q : Path) (id k : Identifier) → IsRisingTo q k → path_cmp p q ≡ Less → path_cmp (p ++ id ∷ []) q ≡ Greater → id_cmp k id ≡ Greater
unfolding IsRisingTo
between [] [] id k up low high = absurd up
between [] (s ∷ r) id k up low high =
    elim (id_cmp s id) as (λ o. id_cmp s id ≡ o → ordering_then o (path_cmp [] r) ≡ Greater → id_cmp k id ≡ Greater) [
      | Less ↦ λ t h. absurd (cc)
      | Equal ↦ λ t h. absurd (nothing_after r h)
      | Greater ↦ λ t h. above s k id (first_below s r k up) t
    ] refl high
between (a ∷ p) [] id k up low high = absurd up
between (a ∷ p) (s ∷ r) id k up low high =
    elim (id_cmp s a) as (λ o. ordering_then o (path_cmp p r) ≡ Less → ordering_then o (path_cmp (p ++ id ∷ []) r) ≡ Greater → id_cmp k id ≡ Greater) [
      | Less ↦ λ l h. absurd (cc)
      | Equal ↦ λ l h. deeper r up (λ up l h. between p r id k up l h) l h
      | Greater ↦ λ l h. absurd (cc)
    ] low high
  where
    deeper : (r : Path) → IsRisingTo (s ∷ r) k → (IsRisingTo r k → path_cmp p r ≡ Less → path_cmp (p ++ id ∷ []) r ≡ Greater → id_cmp k id ≡ Greater) → path_cmp p r ≡ Less → path_cmp (p ++ id ∷ []) r ≡ Greater → id_cmp k id ≡ Greater
    deeper [] up again l h = absurd (nothing_before p l)
    deeper (y ∷ r) up again l h = again up.1 l h

-- what begins before a path and ends behind it ends in a smaller identifier
pub beyond : (g p : Path) (id k : Identifier) → IsRisingTo p id → path_cmp p g ≡ Greater → path_cmp p (g ++ k ∷ []) ≡ Less → id_cmp k id ≡ Less
unfolding IsRisingTo
beyond g p id k up high low =
    ids_total.antisymm k id
    ∙ ap ordering_reverse (between g p k id up (paths_total.antisymm g p ∙ ap ordering_reverse high) (paths_total.antisymm (g ++ k ∷ []) p ∙ ap ordering_reverse low))

pub rising-push : (q : Path) (a id : Identifier) → IsRisingTo q a → id_cmp a id ≡ Less → IsRisingTo (q ++ id ∷ []) id
unfolding IsRisingTo
rising-push [] a id up h = absurd up
rising-push (x ∷ []) a id up h = (ap (λ z. id_cmp z id) up ∙ h, refl)
rising-push (x ∷ y ∷ r) a id up h = (up.0, rising-push (y ∷ r) a id up.1 h)

-- each inserted element's parent is smaller
abbrev pub ParentsAreSmaller : Content → Type 0
ParentsAreSmaller c = (k : Identifier) (x : Element) → finite_map.get c.inserted k ≡ Some x → id_cmp x.parent k ≡ Less

pub rising_path : {c : Content} {id : Identifier} {p : Path} → ParentsAreSmaller c → is_root id ≡ false → IsRootPath c id p → IsRisingTo p id
unfolding IsRisingTo
rising_path rises other (at_root r e) = absurd (true≢false (sym r ∙ other))
rising_path {c} {id} {p} rises other (below x q r g s e) =
    subst (λ z. IsRisingTo z id) (sym e) (elim (is_root x.parent) as (λ b. is_root x.parent ≡ b → IsRisingTo (q ++ id ∷ []) id) [
      | true ↦ λ t. subst (λ z. IsRisingTo (z ++ id ∷ []) id) (sym (one_path s (at_root t refl))) refl
      | false ↦ λ f. rising-push q x.parent id (rising_path rises f s) (rises id x g)
    ] refl)
