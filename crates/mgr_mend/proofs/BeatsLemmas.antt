-- Which operations beat which.
use Rattle.std.proofs.Common.{◌≡◌, ℕ, Bool, true, false, ◌&&◌, List, get_or, refl, sym, ap, subst, ◌∙◌}
use Rattle.std.specs.Prelude.{Contains}
use Rattle.std.specs.List.{list_any}
use Rattle.std.specs.Ordering.{nat_cmp, is_lt, ordering_reverse}
use Rattle.std.specs.declared.cmp.Ordering.{Ordering}
use Rattle.std.specs.declared.cmp.Ordering.TheVariants.{Less, Equal, Greater}
use Rattle.std.specs.Cmp.{IsTotalOrder}
use Rattle.std.specs.Cmp.Lexicographic.{slice_cmp, nat_list_cmp_total}
use Rattle.std.proofs.lemmas.Bool.{true≢false, false≢true, and_parts, and_from, and_right, false_from_ne_true}
use Rattle.std.proofs.lemmas.Cmp.{tied_itself}
use Rattle.std.proofs.lemmas.List.Elements.{Contains-get_or}
use Rattle.std.proofs.lemmas.List.Folds.{Any-from_list_any, list_any-from_Any, list_any_none}
use Rattle.rga_ops.specs.Identifier.{Identifier, is_id}
use Rattle.rga_ops.specs.Operation.{id_of}
use Rattle.rga_ops.specs.declared.op.Op.{Op}
use Rattle.rga_ops.specs.declared.op.Op.TheVariants.{Insert, Delete}
use Rattle.rga_ops.proofs.IdentifierLaws.{is_id-is, is_id-itself}
use Rattle.rga_lines.specs.Spelling.{line}
use Rattle.mgr_mend.specs.Mending.{Beats, IsBeaten, is_less_line, beats, is_beaten}
use Rattle.mgr_mend.specs.Parts.{inserts}

-- ---- lines

abbrev order : List ℕ → List ℕ → Ordering
order = slice_cmp nat_cmp

total : IsTotalOrder order
total = nat_list_cmp_total

less : (r : Ordering) → is_lt r ≡ true → r ≡ Less
less Less e = refl
less Equal e = absurd (false≢true e)
less Greater e = absurd (false≢true e)

less-itself : (a : List ℕ) → is_lt (order a a) ≡ false
less-itself a = ap is_lt (tied_itself total a)

less-trans : (a b c : List ℕ) → is_lt (order a b) ≡ true → is_lt (order b c) ≡ true → is_lt (order a c) ≡ true
less-trans a b c p q = ap is_lt (total.trans a b c (less (order a b) p) (less (order b c) q))

-- what is less than one is less than the other, or the other is less than the one
less-between : (z x y : List ℕ) → is_lt (order z x) ≡ true → is_lt (order z y) ≡ false → is_lt (order y x) ≡ true
less-between z x y p q = by (order z y) refl
  where
    by : (r : Ordering) → order z y ≡ r → is_lt (order y x) ≡ true
    by Less e = absurd (true≢false (sym (ap is_lt e) ∙ q))
    by Equal e = ap is_lt (sym (total.congr z y x e)) ∙ p
    by Greater e = ap is_lt (total.trans y z x (total.antisymm y z ∙ ap ordering_reverse e) (less (order z x) p))

-- ---- operations

pub beats-itself : (op : Op) → beats op op ≡ false
beats-itself (Insert id parent ch) = and_right (is_id id id) (is_less_line (Insert id parent ch) (Insert id parent ch)) (less-itself (line (Insert id parent ch)))
beats-itself (Delete id) = refl

pub beats-trans : (x y z : Op) → beats x y ≡ true → beats y z ≡ true → beats x z ≡ true
beats-trans (Insert a f c) (Insert b g d) (Insert e h k) p q =
    let first = and_parts (is_id a b) (is_less_line (Insert a f c) (Insert b g d)) p in
    let second = and_parts (is_id b e) (is_less_line (Insert b g d) (Insert e h k)) q in
    and_from (is_id a e) (is_less_line (Insert a f c) (Insert e h k))
    (subst (λ (i : Identifier). is_id i e ≡ true) (sym (is_id-is a b first.0)) second.0)
    (less-trans (line (Insert a f c)) (line (Insert b g d)) (line (Insert e h k)) first.1 second.1)
beats-trans (Insert a f c) (Insert b g d) (Delete e) p q = absurd (false≢true q)
beats-trans x y z p q = absurd (false≢true p)

-- what inserts an identifier has it
pub inserts-id : (id : Identifier) (op : Op) → inserts id op ≡ true → id ≡ id_of op
inserts-id id (Insert other parent ch) e = is_id-is id other e
inserts-id id (Delete other) e = absurd (false≢true e)

-- what beats an operation inserts its identifier
pub beats-inserts : (id : Identifier) (x y : Op) → inserts id y ≡ true → beats x y ≡ true → inserts id x ≡ true
beats-inserts id (Insert a f c) (Insert b g d) i p =
    let same = is_id-is a b (and_parts (is_id a b) (is_less_line (Insert a f c) (Insert b g d)) p).0 in
    subst (λ (k : Identifier). is_id id k ≡ true) (sym same) i
beats-inserts id x y i p = absurd (false≢true p)

-- what beats an insertion beats another one of the identifier, or that one beats this one
pub beats-between : (id : Identifier) (z x y : Op) → inserts id x ≡ true → inserts id y ≡ true → beats z x ≡ true → beats z y ≡ false → beats y x ≡ true
beats-between id (Delete a) x y i j p q = absurd (false≢true p)
beats-between id (Insert a f c) (Delete b) y i j p q = absurd (false≢true i)
beats-between id (Insert a f c) (Insert b g d) (Delete e) i j p q = absurd (false≢true j)
beats-between id (Insert a f c) (Insert b g d) (Insert e h k) i j p q =
    let here = is_id-is id b i in
    let there = is_id-is id e j in
    let parts = and_parts (is_id a b) (is_less_line (Insert a f c) (Insert b g d)) p in
    let same = is_id-is a b parts.0 in
    let one : is_id a e ≡ true = subst (λ (n : Identifier). is_id a n ≡ true) (same ∙ sym here ∙ there) (is_id-itself a) in
    let other : is_id e b ≡ true = subst (λ (n : Identifier). is_id e n ≡ true) (sym there ∙ here) (is_id-itself e) in
    let not_less : is_less_line (Insert a f c) (Insert e h k) ≡ false = sym (ap (λ (t : Bool). t && is_less_line (Insert a f c) (Insert e h k)) one) ∙ q in
    and_from (is_id e b) (is_less_line (Insert e h k) (Insert b g d)) other
    (less-between (line (Insert a f c)) (line (Insert b g d)) (line (Insert e h k)) parts.1 not_less)

-- ---- in words

pub beats_says : (x y : Op) → beats x y ≡ true → Beats x y
beats_says (Insert a f c) (Insert b g d) p =
    let parts = and_parts (is_id a b) (is_less_line (Insert a f c) (Insert b g d)) p in
    (is_id-is a b parts.0, less (order (line (Insert a f c)) (line (Insert b g d))) parts.1)
beats_says x y p = absurd (false≢true p)

pub says_beats : (x y : Op) → Beats x y → beats x y ≡ true
says_beats (Insert a f c) (Insert b g d) p =
    and_from (is_id a b) (is_less_line (Insert a f c) (Insert b g d))
    (subst (λ (n : Identifier). is_id a n ≡ true) p.0 (is_id-itself a)) (ap is_lt p.1)
says_beats x y p = absurd p

-- ---- lists of operations

pub none_of : (test : Op → Bool) (ops : List Op) → ((op : Op) → Contains ops op → test op ≡ false) → list_any test ops ≡ false
none_of test ops none = list_any_none test ops (λ k d within. none (get_or ops k d) (Contains-get_or ops k d within))

pub beaten_of : (ops : List Op) (x y : Op) → Contains ops x → beats x y ≡ true → is_beaten ops y ≡ true
beaten_of ops x y (k, within, is) e = list_any-from_Any (λ other. beats other y) ops (k, x, within, is, e)

pub unbeaten_of : (ops : List Op) (x y : Op) → is_beaten ops y ≡ false → Contains ops x → beats x y ≡ false
unbeaten_of ops x y none there = false_from_ne_true (beats x y) (λ e. true≢false (sym (beaten_of ops x y there e) ∙ none))

pub is_beaten_says : (ops : List Op) (op : Op) → is_beaten ops op ≡ true → IsBeaten ops op
is_beaten_says ops op e =
    let found = Any-from_list_any (λ other. beats other op) ops e in
    (found.1, (found.0, found.2, found.3), beats_says found.1 op found.4)

pub says_is_beaten : (ops : List Op) (op : Op) → IsBeaten ops op → is_beaten ops op ≡ true
says_is_beaten ops op (other, there, e) = beaten_of ops other op there (says_beats other op e)
