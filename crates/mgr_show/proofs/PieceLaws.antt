-- Pieces are what is meant by the word, and nothing else is.
use Rattle.std.proofs.Common.{◌≡◌, ℕ, ◌<◌, List, [], ◌∷◌, ◌++◌, map, length, refl, sym, ap, ◌∙◌, arith}
use Rattle.std.specs.Prelude.{Option, Some, None}
use Rattle.std.specs.Option.{option_map}
use Rattle.std.specs.List.{filter_map, flat_map, cons_option, AllByRecursion}
use Rattle.std.proofs.lemmas.Bool.Decides.{nat_tests}
use Rattle.rga_ops.specs.Identifier.{Identifier}
use Rattle.rga_ops.specs.Content.{Content}
use Rattle.rga_ops.specs.Order.{order, shown, text}
use Rattle.mgr_show.specs.Authors.{Authored, authored_of, authored, characters, Piece, piece, before_pieces, pieces}
use Rattle.mgr_show.specs.Meant.{authored_in, Differ, ArePieces}
use Rattle.mgr_show.proofs.AuthorLaws.{same_replica, own_replica}

-- ---- the text

spread : (r : ℕ) (o : Option ℕ) (xs : List Authored) (ys : List ℕ) → characters xs ≡ ys → characters (cons_option (option_map (λ ch. (r, ch)) o) xs) ≡ cons_option o ys
spread r None xs ys h = h
spread r (Some ch) xs ys h = ap (λ l. ch ∷ l) h

characters_among : (c : Content) (ids : List Identifier) → characters (filter_map (authored_of c) ids) ≡ filter_map (shown c) ids
characters_among c [] = refl
characters_among c (x ∷ xs) = spread x.replica (shown c x) _ _ (characters_among c xs)

abbrev all_characters : List Piece → List ℕ
all_characters ps = flat_map (λ (p : Piece). p.chars) ps

before_characters : (x : Authored) (ps : List Piece) → all_characters (before_pieces x ps) ≡ x.1 ∷ all_characters ps
before_characters x [] = refl
before_characters x (p ∷ ps) = grind arith

characters_of_pieces : (xs : List Authored) → all_characters (pieces xs) ≡ characters xs
characters_of_pieces [] = refl
characters_of_pieces (x ∷ xs) = before_characters x (pieces xs) ∙ ap (λ l. x.1 ∷ l) (characters_of_pieces xs)

pub text_of_pieces : (c : Content) → all_characters (pieces (authored c)) ≡ text c
text_of_pieces c = characters_of_pieces (authored c) ∙ characters_among c (order c)

-- ---- they are pieces

before_whole : (x : Authored) (ps : List Piece) → flat_map authored_in (before_pieces x ps) ≡ x ∷ flat_map authored_in ps
before_whole x [] = refl
before_whole x (p ∷ ps) = grind (arith, same_replica)

abbrev Filled : List Piece → Type 0
Filled ps = AllByRecursion (λ (p : Piece). 0 < length p.chars) ps

before_filled : (x : Authored) (ps : List Piece) → Filled ps → Filled (before_pieces x ps)
before_filled x [] h = grind arith
before_filled x (p ∷ ps) h = grind (arith, h)

differ_first : (r : ℕ) (chars : List ℕ) (p : Piece) (ps : List Piece) → r ≡ p.replica → Differ (p ∷ ps) → Differ (piece r chars ∷ ps)
differ_first r chars p ps same h = grind (arith, same, h)

before_differ : (x : Authored) (ps : List Piece) → Differ ps → Differ (before_pieces x ps)
before_differ x [] h = tt
before_differ x (p ∷ ps) h = grind (arith, nat_tests, differ_first, h)

pub are_pieces : (xs : List Authored) → ArePieces xs (pieces xs)
are_pieces [] = record { whole = refl; filled = tt; differ = tt }
are_pieces (x ∷ xs) =
    let rest = are_pieces xs in
    record {
      whole = before_whole x (pieces xs) ∙ ap (λ l. x ∷ l) rest.whole;
      filled = before_filled x (pieces xs) rest.filled;
      differ = before_differ x (pieces xs) rest.differ;
    }

-- ---- nothing else is

begins : (r ch : ℕ) (chars : List ℕ) (ps : List Piece) → Differ (piece r chars ∷ ps) → before_pieces (r, ch) ps ≡ piece r (ch ∷ []) ∷ ps
begins r ch chars [] h = refl
begins r ch chars (q ∷ ps) h = grind (arith, nat_tests, h.0)

joins : (r : ℕ) (ch : ℕ) (chars : List ℕ) (rest : List Authored) (ps : List Piece) → pieces rest ≡ ps → Differ (piece r (ch ∷ chars) ∷ ps) → pieces (map (λ d. (r, d)) (ch ∷ chars) ++ rest) ≡ piece r (ch ∷ chars) ∷ ps
joins r ch [] rest ps is h = grind (arith, is, begins, h)
joins r ch (d ∷ chars) rest ps is h = grind (arith, own_replica, joins r d chars rest ps is (differ_first r (d ∷ chars) (piece r (ch ∷ d ∷ chars)) ps refl h))

differ_rest : (p : Piece) (ps : List Piece) → Differ (p ∷ ps) → Differ ps
differ_rest p ps h = grind (arith, h)

back : (ps : List Piece) → Filled ps → Differ ps → pieces (flat_map authored_in ps) ≡ ps
back [] filled h = refl
back (p ∷ ps) filled h = by p.chars refl (back ps filled.1 (differ_rest p ps h))
  where
    by : (chars : List ℕ) → p.chars ≡ chars → pieces (flat_map authored_in ps) ≡ ps → pieces (authored_in p ++ flat_map authored_in ps) ≡ p ∷ ps
    by [] is rest = grind (arith, is, filled)
    by (ch ∷ chars) is rest = grind (arith, is, joins p.replica ch chars (flat_map authored_in ps) ps rest (differ_first p.replica (ch ∷ chars) p ps refl h))

pub no_others : (xs : List Authored) (ps : List Piece) → ArePieces xs ps → ps ≡ pieces xs
no_others xs ps h = sym (back ps h.filled h.differ) ∙ ap pieces h.whole
