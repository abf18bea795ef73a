-- The order of a content that grows, and of contents in which nothing waits.
use Rattle.std.proofs.Common.{◌≡◌, ℕ, Bool, true, cond, List, [], ◌∷◌, filter, refl, ap, ◌∙◌, arith}
use Rattle.std.specs.Prelude.{◌≢◌, Some, None, Ok}
use Rattle.std.specs.List.{AllByRecursion}
use Rattle.std.specs.FinMap as finite_map
use Rattle.rga_ops.specs.Identifier.{Identifier}
use Rattle.rga_ops.specs.Operation.{checked}
use Rattle.rga_ops.specs.Content.{Element, Content, IsWithin, IsSound, join, single}
use Rattle.rga_ops.specs.RootPath.{is_complete}
use Rattle.rga_ops.specs.Order.{order}
use Rattle.rga_ops.specs.Placement.{put_by_skip_rule}
use Rattle.rga_ops.specs.declared.op.Op.TheVariants.{Insert}
use Rattle.rga_ops.proofs.MemberLaws.{all_map}
use Rattle.rga_ops.proofs.PathLaws.{is_complete-iff, inserted_if_complete}
use Rattle.rga_ops.proofs.GrowLaws.{order_within}
use Rattle.rga_ops.proofs.VisibleLaws.{order_complete}
use Rattle.rga_ops.proofs.AnswerLaws.{well_formed_insertion}
use Rattle.rga_ops.proofs.SkipLaws.{order-skip}
use Rattle.rga_flat.specs.Placing.{IsClosed}

all_kept : (p : Identifier → Bool) (xs : List Identifier) → AllByRecursion (λ x. p x ≡ true) xs → filter p xs ≡ xs
all_kept p [] h = refl
all_kept p (x ∷ xs) h = ap (λ b. cond b (x ∷ filter p xs) (filter p xs)) h.0 ∙ ap (λ r. x ∷ r) (all_kept p xs h.1)

-- where no element becomes complete the order stays
pub order-finished : (c d : Content) → IsWithin c d → ((id : Identifier) → is_complete d id ≡ true → is_complete c id ≡ true) → order c ≡ order d
order-finished c d w whole = grind (arith, order_within c d w, all_kept (is_complete c) (order d), all_map, order_complete d)

-- where nothing waits no element has an absent parent
pub childless : (p : Content) (id parent : Identifier) (ch : ℕ) → IsClosed p → checked (Insert id parent ch) ≡ Ok tt → finite_map.get p.inserted id ≡ None → (k : Identifier) (x : Element) → finite_map.get p.inserted k ≡ Some x → x.parent ≢ id
childless p id parent ch closed well_formed absent k x g same = grind (arith, is_complete-iff p k, well_formed_insertion, inserted_if_complete)

pub order-placing : (p : Content) (id parent : Identifier) (ch : ℕ) → IsSound p → IsClosed p → checked (Insert id parent ch) ≡ Ok tt → finite_map.get p.inserted id ≡ None → order (join p (single (Insert id parent ch))) ≡ put_by_skip_rule parent id (order p)
order-placing p id parent ch sound closed well_formed absent = order-skip p id parent ch sound well_formed absent (childless p id parent ch closed well_formed absent)
