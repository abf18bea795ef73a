-- Laws of contents: what a join has, that it is a least upper bound, and that within is an order.
use Rattle.std.proofs.Common.{◌≡◌, Bool, cond, ◌||◌, List, [], ◌∷◌, ◌++◌, refl, sym, ap, ◌∙◌, subst, arith}
use Rattle.std.specs.Prelude.{Option, Some, None}
use Rattle.std.specs.Option.{option_or}
use Rattle.std.specs.FinMap as finite_map
use Rattle.std.specs.FinSet as finite_set
use Rattle.std.specs.FinMap.{FinMap, find, same_map}
use Rattle.std.specs.FinSet.{same_set, contains-union, contains-empty}
use Rattle.std.proofs.Math.Bool as bool
use Rattle.rga_ops.specs.Identifier.{Identifier, id_cmp}
use Rattle.rga_ops.specs.Content.{Element, Content, nothing, union, join, Agree, IsWithin}
use Rattle.rga_ops.proofs.IdentifierLaws.{ids_total, ids_exact, is}

-- two options that give the same values are the same
pub same_option : {A : Type 0} (a b : Option A) → ((x : A) → a ≡ Some x → b ≡ Some x) → ((x : A) → b ≡ Some x → a ≡ Some x) → a ≡ b
same_option a b f g = grind arith

-- contents with the same insertions and deletions are one
pub same_content : (c d : Content) → ((id : Identifier) → finite_map.get c.inserted id ≡ finite_map.get d.inserted id) → ((id : Identifier) → finite_set.contains c.deleted id ≡ finite_set.contains d.deleted id) → c ≡ d
same_content c d i x =
    let p = same_map ids_total ids_exact c.inserted d.inserted i in
    let q = same_set ids_total ids_exact c.deleted d.deleted x in
    λ k. record { inserted = p k; deleted = q k }

pub or_cond : {A : Type 0} (b : Bool) (x : A) (o r : Option A) → option_or (cond b (Some x) o) r ≡ cond b (Some x) (option_or o r)
or_cond b x o r = grind arith

find-append : (es fs : List (Identifier × Element)) (q : Identifier) → find id_cmp q (es ++ fs) ≡ option_or (find id_cmp q es) (find id_cmp q fs)
find-append [] fs q = refl
find-append (e ∷ es) fs q = ap (cond (is q e.0) (Some e.1)) (find-append es fs q) ∙ sym (or_cond (is q e.0) e.1 (find id_cmp q es) (find id_cmp q fs))

-- what a union has: what the first has, and else what the second has
pub get-union : (m n : FinMap id_cmp Element) (q : Identifier) → finite_map.get (union m n) q ≡ option_or (finite_map.get m q) (finite_map.get n q)
get-union m n q =
    finite_map.get-from_entries ids_total _ q ∙ find-append (finite_map.entries m) (finite_map.entries n) q
    ∙ (λ k. option_or (sym (finite_map.get-entries m q) k) (sym (finite_map.get-entries n q) k))

or_assoc : {A : Type 0} (a b c : Option A) → option_or (option_or a b) c ≡ option_or a (option_or b c)
or_assoc a b c = grind arith

pub or_none : {A : Type 0} (a : Option A) → option_or a None ≡ a
or_none a = grind arith

-- the value of the first, or else of the second
pub either_option : {A : Type 0} (a b : Option A) (x : A) {P : Type 0} → (a ≡ Some x → P) → (b ≡ Some x → P) → option_or a b ≡ Some x → P
either_option a b x f g h = grind arith

pub get-join : (c d : Content) (q : Identifier) → finite_map.get (join c d).inserted q ≡ option_or (finite_map.get c.inserted q) (finite_map.get d.inserted q)
get-join c d q = get-union c.inserted d.inserted q

pub contains-join : (c d : Content) (q : Identifier) → finite_set.contains (join c d).deleted q ≡ (finite_set.contains c.deleted q || finite_set.contains d.deleted q)
contains-join c d q = contains-union ids_total c.deleted d.deleted q

pub join_assoc : (c d e : Content) → join (join c d) e ≡ join c (join d e)
join_assoc c d e = same_content _ _ (λ q. simp (get-join, or_assoc)) (λ q. simp (contains-join, bool.or_assoc))

pub join_same : (c : Content) → join c c ≡ c
join_same c = same_content _ _ (λ q. grind (arith, get-join)) (λ q. grind (arith, contains-join))

pub join_swap : (c d : Content) → Agree c d → join c d ≡ join d c
join_swap c d h = same_content _ _ (λ q. grind (arith, get-join, h q)) (λ q. grind (arith, contains-join))

pub join_nothing : (c : Content) → join c nothing ≡ c
join_nothing c = same_content _ _ (λ q. simp (get-join, finite_map.get-empty, or_none)) (λ q. simp (contains-join, contains-empty, bool.or-false))

pub nothing_join : (c : Content) → join nothing c ≡ c
nothing_join c = same_content _ _ (λ q. simp (get-join, finite_map.get-empty)) (λ q. simp (contains-join, contains-empty))

-- ---- the order of contents

pub within_itself : (c : Content) → IsWithin c c
within_itself c = record { inserted = λ id x h. h; deleted = λ id h. h }

pub within_chain : (c d e : Content) → IsWithin c d → IsWithin d e → IsWithin c e
within_chain c d e v w = record { inserted = λ id x h. w.inserted id x (v.inserted id x h); deleted = λ id h. w.deleted id (v.deleted id h) }

pub within_both : (c d : Content) → IsWithin c d → IsWithin d c → c ≡ d
within_both c d v w = same_content c d (λ id. grind (arith, v.inserted id, w.inserted id)) (λ id. grind (arith, v.deleted id, w.deleted id))

-- a content is within its join with any other
pub within_join : (c d : Content) → IsWithin c (join c d)
within_join c d = record { inserted = λ id x h. grind (arith, get-join); deleted = λ id h. grind (arith, contains-join) }

-- and the second is within it where they agree
pub within_join_second : (c d : Content) → Agree c d → IsWithin d (join c d)
within_join_second c d agree = subst (λ e. IsWithin d e) (sym (join_swap c d agree)) (within_join d c)

-- it is within all that both are within
pub join_least : (c d e : Content) → IsWithin c e → IsWithin d e → IsWithin (join c d) e
join_least c d e v w = grind (arith, get-join, contains-join)
