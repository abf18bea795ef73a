-- A content with one deletion more: the insertions and the order stay, and the element is no longer visible.
use Rattle.std.proofs.Common.{◌≡◌, ℕ, ◌+◌, ◌≤◌, true, ◌||◌, List, [], ◌∷◌, ◌++◌, map, filter, take, drop, refl, sym, ap, ◌∙◌, arith}
use Rattle.std.specs.Prelude.{Some}
use Rattle.std.specs.Option.{option_map}
use Rattle.std.specs.List.{slice_get}
use Rattle.std.specs.FinMap as finite_map
use Rattle.std.specs.FinSet as finite_set
use Rattle.std.specs.FinMap.{same_map}
use Rattle.rga_ops.specs.Identifier.{Identifier}
use Rattle.rga_ops.specs.Content.{Element, Content, join, single, clock_of}
use Rattle.rga_ops.specs.RootPath.{is_complete}
use Rattle.rga_ops.specs.Order.{order, text}
use Rattle.rga_ops.specs.Placement.{without}
use Rattle.rga_ops.specs.Places.{visible, character}
use Rattle.rga_ops.proofs.PathLaws.{inserted_if_complete}
use Rattle.rga_ops.proofs.IdentifierLaws.{ids_total, ids_exact, is, is_swap, is_id-same}
use Rattle.rga_ops.proofs.ContentLaws.{get-join, contains-join}
use Rattle.rga_ops.proofs.OperationLaws.{contains-single}
use Rattle.rga_ops.proofs.VisibleLaws.{is_kept, visible_is, text_is, visible_distinct, own_index}
use Rattle.rga_ops.proofs.PlacementLaws.{without-at}
use Rattle.rga_ops.proofs.SpliceLaws.{same_characters, characters_without}
use Rattle.rga_ops.proofs.ClockLaws.{within_clock, clock_deletion}
use Rattle.rga_ops.specs.declared.op.Op.TheVariants.{Delete}

module _ (c : Content) (id : Identifier) where
  abbrev d : Content
  d = join c (single (Delete id))

  pub inserted-deletion : d.inserted ≡ c.inserted
  inserted-deletion = same_map ids_total ids_exact _ _ (λ q. grind (arith, get-join c (single (Delete id)) q, finite_map.get-empty))

  pub contains-deletion : (q : Identifier) → finite_set.contains d.deleted q ≡ (finite_set.contains c.deleted q || is q id)
  contains-deletion q = grind (arith, contains-join c (single (Delete id)) q, contains-single id q)

  pub order-deletion : order d ≡ order c
  order-deletion = ap (λ m. order (record { inserted = m; deleted = c.deleted })) inserted-deletion

  -- ---- visible elements and text

  kept_among : (xs : List Identifier) → filter (is_kept d) xs ≡ without id (filter (is_kept c) xs)
  kept_among [] = refl
  kept_among (x ∷ xs) = grind (arith, kept_among xs, contains-deletion x, is_swap x id, is_id-same x id)

  pub visible-deletion : visible d ≡ without id (visible c)
  visible-deletion =
      visible_is d ∙ ap (filter (is_kept d)) order-deletion ∙ kept_among (order c) ∙ ap (without id) (sym (visible_is c))

  pub character-deletion : character d ≡ character c
  character-deletion = λ k q. option_map (λ (x : Element). x.ch) (finite_map.get (inserted-deletion k) q)

  -- a visible element is left out at its index
  pub visible-deletion_at : (i : ℕ) → slice_get (visible c) i ≡ Some id → visible d ≡ take i (visible c) ++ drop (i + 1) (visible c)
  visible-deletion_at i h = visible-deletion ∙ without-at id (visible c) i (visible_distinct c) (own_index c id i h)

  pub text-deletion_at : (i : ℕ) → slice_get (visible c) i ≡ Some id → text d ≡ take i (text c) ++ drop (i + 1) (text c)
  text-deletion_at i h = same_characters _ _ (
      text_is d ∙ (λ k. map (character-deletion k) (visible-deletion_at i h k))
      ∙ characters_without (character c) i (visible c) (text c) (text_is c))

  -- ---- the clock

  pub clock-deletion : id.counter ≤ clock_of c → clock_of d ≡ clock_of c
  clock-deletion within = omega (arith, clock_deletion c id)

  pub clock-deletion_inserted : (x : Element) → finite_map.get c.inserted id ≡ Some x → clock_of d ≡ clock_of c
  clock-deletion_inserted x g = clock-deletion ((within_clock c).own id x g)

  pub clock-deletion_complete : is_complete c id ≡ true → clock_of d ≡ clock_of c
  clock-deletion_complete h = let at : (x : Element) × (finite_map.get c.inserted id ≡ Some x) = inserted_if_complete c id h in clock-deletion_inserted at.0 at.1
