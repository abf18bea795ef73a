-- The inserted elements are those in the order and those that wait.
use Rattle.std.proofs.Common.{◌≡◌, ◌+◌, Bool, not, ◌&&◌, List, [], ◌∷◌, filter, length, refl, sym, ap, ◌∙◌, arith}
use Rattle.std.specs.Cmp.{eq_by_cmp_equiv}
use Rattle.std.specs.List.{list_any, IsDistinct}
use Rattle.std.specs.FinMap as finite_map
use Rattle.std.proofs.lemmas.Map.Views.{any-filter_same}
use Rattle.rga_ops.specs.Identifier.{Identifier, id_cmp}
use Rattle.rga_ops.specs.Content.{Content}
use Rattle.rga_ops.specs.RootPath.{is_complete}
use Rattle.rga_ops.specs.Order.{order, waiting, IsOrderList}
use Rattle.rga_ops.proofs.IdentifierLaws.{ids_total, is, same_id}
use Rattle.rga_ops.proofs.MemberLaws.{distinct_filter}
use Rattle.rga_ops.proofs.PathLaws.{is_complete-iff, path_of_complete, not_complete_root}
use Rattle.rga_ops.proofs.PlacedLaws.{placed_key}
use Rattle.rga_ops.proofs.OrderLaws.{order_list, order_distinct}
use Rattle.rga_ops.proofs.SortedLaws.{distinct_keys}
use Rattle.std.proofs.lemmas.Map.Made.{length-from_same_keys}

split_length : (p : Identifier → Bool) (xs : List Identifier) → length (filter p xs) + length (filter (λ x. not (p x)) xs) ≡ length xs
split_length p [] = refl
split_length p (x ∷ xs) = grind (arith, split_length p xs)

-- two lists with the same members, each once, have one length
pub same_length : (xs ys : List Identifier) → IsDistinct is xs → IsDistinct is ys → ((q : Identifier) → list_any (is q) xs ≡ list_any (is q) ys) → length xs ≡ length ys
same_length xs ys d e h = length-from_same_keys (eq_by_cmp_equiv ids_total) xs ys d e h

pub distinct_inserted : (c : Content) → IsDistinct is (finite_map.keys c.inserted)
distinct_inserted c = distinct_keys id_cmp ids_total (finite_map.entries c.inserted) (finite_map.entries_sorted c.inserted)

-- a complete element is inserted
complete_key : (c : Content) (q : Identifier) → (is_complete c q && list_any (is q) (finite_map.keys c.inserted)) ≡ is_complete c q
complete_key c q = grind (arith, is, is_complete-iff, path_of_complete, placed_key, not_complete_root)

pub ordered_and_waiting : (c : Content) → length (order c) + length (waiting c) ≡ length (finite_map.keys c.inserted)
ordered_and_waiting c =
    let keys : List Identifier = finite_map.keys c.inserted in
    let w : IsOrderList c (order c) = order_list c in
    let same : length (order c) ≡ length (filter (is_complete c) keys) =
    same_length (order c) (filter (is_complete c) keys) (order_distinct c (order c) w.in_order) (distinct_filter (is_complete c) keys (distinct_inserted c))
    (λ q. w.elements q ∙ sym (any-filter_same (is q) (is_complete c) (is_complete c q) (λ x t. ap (is_complete c) (sym (same_id q x t))) keys ∙ complete_key c q)) in
    omega (arith, same, split_length (is_complete c) keys)
