-- Whose characters a text has, and the pieces that these make.
use Rattle.std.proofs.Common.{◌≡◌, ℕ, ◌+◌, suc, Bool, true, false, cond, ◌==◌, List, [], ◌∷◌, ◌++◌, map, filter, take, drop, refl, sym, ap, ◌∙◌, arith}
use Rattle.std.specs.Prelude.{Some}
use Rattle.std.specs.Option.{option_map}
use Rattle.std.specs.List.{filter_map, flat_map, zip, prefix_len, slice_get, AllByRecursion}
use Rattle.std.specs.FinMap as finite_map
use Rattle.std.proofs.lemmas.Bool.Decides.{nat_tests}
use Rattle.std.proofs.lemmas.Option.{none-some}
use Rattle.rga_ops.specs.Identifier.{Identifier}
use Rattle.rga_ops.specs.Content.{Element, Content}
use Rattle.rga_ops.specs.RootPath.{is_complete}
use Rattle.rga_ops.specs.Order.{order, shown, text}
use Rattle.rga_ops.specs.Places.{visible, character}
use Rattle.rga_ops.proofs.PathLaws.{inserted_if_complete}
use Rattle.rga_ops.proofs.VisibleLaws.{is_kept, order_complete, visible_is}
use Rattle.mgr_show.specs.Authors.{Authored, authored_of, authored, characters, Piece, piece, before_pieces, pieces}

-- ---- characters

abbrev replicas : List Identifier → List ℕ
replicas ids = map (λ (id : Identifier). id.replica) ids

among : (c : Content) (xs : List Identifier) → AllByRecursion (λ id. is_complete c id ≡ true) xs → zip (replicas (filter (is_kept c) xs)) (filter_map (shown c) xs) ≡ filter_map (authored_of c) xs
among c [] h = refl
among c (x ∷ xs) h =
    let w : (y : Element) × (finite_map.get c.inserted x ≡ Some y) = inserted_if_complete c x h.0 in
    let rest : zip (replicas (filter (is_kept c) xs)) (filter_map (shown c) xs) ≡ filter_map (authored_of c) xs = among c xs h.1 in
    let here : character c x ≡ Some w.0.ch = ap (option_map (λ (y : Element). y.ch)) w.1 in
    grind (arith, here, rest)

-- the visible elements and the characters of the text, side by side
pub authored_is : (c : Content) → zip (replicas (visible c)) (text c) ≡ authored c
authored_is c = ap (λ ids. zip (replicas ids) (text c)) (visible_is c) ∙ among c (order c) (order_complete c)

-- ---- pieces

abbrev is_of : ℕ → Authored → Bool
is_of replica x = x.0 == replica

pub same_replica : (n m : ℕ) → (n == m) ≡ true → n ≡ m
same_replica n m h = grind (arith, nat_tests, h)

pub own_replica : (n : ℕ) → (n == n) ≡ true
own_replica n = grind (arith, nat_tests)

pub one_plus : (k : ℕ) → 1 + k ≡ suc k
one_plus k = omega arith

-- the first piece has all characters from the front on that are of one replica
peel : (r ch : ℕ) (xs : List Authored) → pieces ((r, ch) ∷ xs) ≡ piece r (ch ∷ characters (take (prefix_len (is_of r) xs) xs)) ∷ pieces (drop (prefix_len (is_of r) xs) xs)
peel r ch [] = refl
peel r ch (y ∷ ys) = elim (y.0 == r) as (λ b. (y.0 == r) ≡ b → before_pieces (r, ch) (pieces (y ∷ ys)) ≡ piece r (ch ∷ characters (take (cond b (1 + prefix_len (is_of r) ys) 0) (y ∷ ys))) ∷ pieces (drop (cond b (1 + prefix_len (is_of r) ys) 0) (y ∷ ys))) [
  | true ↦ λ h.
      let n : ℕ = prefix_len (is_of r) ys in
      ap (λ m. before_pieces (r, ch) (pieces ((m, y.1) ∷ ys))) (same_replica y.0 r h)
      ∙ ap (before_pieces (r, ch)) (peel r y.1 ys)
      ∙ ap (λ b. cond b (piece r (ch ∷ y.1 ∷ characters (take n ys)) ∷ pieces (drop n ys)) (piece r (ch ∷ []) ∷ piece r (y.1 ∷ characters (take n ys)) ∷ pieces (drop n ys))) (own_replica r)
      ∙ ap (λ m. piece r (ch ∷ characters (take m (y ∷ ys))) ∷ pieces (drop m (y ∷ ys))) (sym (one_plus n))
  | false ↦ λ h.
      let n : ℕ = prefix_len (is_of y.0) ys in
      let first : Piece = piece y.0 (y.1 ∷ characters (take n ys)) in
      let apart : pieces (y ∷ ys) ≡ first ∷ pieces (drop n ys) = peel y.0 y.1 ys in
      ap (before_pieces (r, ch)) apart
      ∙ ap (λ b. cond b (piece r (ch ∷ first.chars) ∷ pieces (drop n ys)) (piece r (ch ∷ []) ∷ first ∷ pieces (drop n ys))) h
      ∙ ap (λ ps. piece r (ch ∷ []) ∷ ps) (sym apart)
] refl

peeled : (x : Authored) (xs : List Authored) → pieces (x ∷ xs) ≡ piece x.0 (characters (take (prefix_len (is_of x.0) (x ∷ xs)) (x ∷ xs))) ∷ pieces (drop (prefix_len (is_of x.0) (x ∷ xs)) (x ∷ xs))
peeled x xs = rw (own_replica, one_plus) (peel x.0 x.1 xs)

-- what is made of the pieces: the first one, and then those of the characters that are left
pub first_piece : (f : Piece → List ℕ) (xs : List Authored) (x : Authored) (n : ℕ) → Some x ≡ slice_get xs 0 → n ≡ prefix_len (is_of x.0) xs → f (piece x.0 (characters (take n xs))) ++ flat_map f (pieces (drop n xs)) ≡ flat_map f (pieces xs)
first_piece f [] x n first is = absurd (none-some _ (sym first))
first_piece f (y ∷ ys) x n first is = grind (arith, first, is, peeled y ys)
