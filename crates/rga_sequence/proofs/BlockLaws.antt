-- What a block keeps: an identifier that none is less than.
use Rattle.std.proofs.Common.{arith, rules, ◌≡◌, ℕ, suc, zero, Bool, true, false, List, [], ◌∷◌, ◌++◌, take, drop, refl, sym, ap, ◌∙◌, true≢false, length, ◌<◌, ◌+◌, subst, slice_index_or}
use Rattle.std.specs.Prelude.{remove}
use Rattle.std.specs.Cmp.{tied_itself}
use Rattle.std.specs.Ordering.{is_gt}
use Rattle.std.specs.declared.cmp.Ordering.TheVariants.{Greater}
use Rattle.std.proofs.lemmas.Bool.{false_from_ne_true}
use Rattle.std.proofs.lemmas.List.{take_more}
use Rattle.rga_pages.proofs.EntryLaws.{greater, turn}
use Rattle.rga_ops.specs.Identifier.{Identifier, id_cmp}
use Rattle.rga_ops.proofs.IdentifierLaws.{ids_total, ids_exact}
use Rattle.rga_sequence.specs.declared.entry.Entry.{Entry}
use Rattle.rga_sequence.specs.Blocks.{AreFrom, larger_at_front, insert_all, mark_at_index}

-- where the least is larger than an identifier, so is each from it on
larger_from : (least id k : Identifier) → is_gt (id_cmp least id) ≡ true → is_gt (id_cmp least k) ≡ false → id_cmp k id ≡ Greater
larger_from least id k big from = search (rules, turn, greater, ids_exact)

pub all_larger : (least id : Identifier) (xs : List Entry) → is_gt (id_cmp least id) ≡ true → AreFrom least xs → larger_at_front id xs ≡ length xs
all_larger least id [] big from = refl
all_larger least id (x ∷ xs) big from = grind (arith, larger_from, all_larger least id xs big from.1)

-- what is not larger than another, that is not larger than a third
pub not_larger : (a b d : Identifier) → is_gt (id_cmp a b) ≡ false → is_gt (id_cmp b d) ≡ false → is_gt (id_cmp a d) ≡ false
not_larger a b d h k = false_from_ne_true (is_gt (id_cmp a d)) (λ t. true≢false (sym (ap is_gt (larger_from a d b t h)) ∙ k))

-- what is larger than another, than that the other is not larger
pub never_less : (a b : Identifier) → is_gt (id_cmp a b) ≡ true → is_gt (id_cmp b a) ≡ false
never_less a b h = ap is_gt (turn a b Greater (greater (id_cmp a b) h))

pub itself : (id : Identifier) → is_gt (id_cmp id id) ≡ false
itself id = ap is_gt (tied_itself ids_total id)

from_both : (least : Identifier) (xs ys : List Entry) → AreFrom least xs → AreFrom least ys → AreFrom least (xs ++ ys)
from_both least [] ys from h = h
from_both least (x ∷ xs) ys from h = (from.0, from_both least xs ys from.1 h)

pub from_put : (least : Identifier) (es xs : List Entry) (i : ℕ) → AreFrom least xs → AreFrom least es → AreFrom least (insert_all xs i es)
from_put least es xs zero from h = from_both least es xs h from
from_put least es [] (suc i) from h = from_both least es [] h tt
from_put least es (x ∷ xs) (suc i) from h = (from.0, from_put least es xs i from.1 h)

pub from_remove : (least : Identifier) (xs : List Entry) (i : ℕ) → AreFrom least xs → AreFrom least (remove xs i)
from_remove least [] zero from = tt
from_remove least [] (suc i) from = tt
from_remove least (x ∷ xs) zero from = from.1
from_remove least (x ∷ xs) (suc i) from = (from.0, from_remove least xs i from.1)

pub from_marked : (mark : Bool) (least : Identifier) (xs : List Entry) (i : ℕ) → AreFrom least xs → AreFrom least (mark_at_index mark i xs)
from_marked mark least [] i from = tt
from_marked mark least (x ∷ xs) zero from = from
from_marked mark least (x ∷ xs) (suc i) from = (from.0, from_marked mark least xs i from.1)

-- the lesser one of two
pub lesser_from : (least less : Identifier) (xs : List Entry) → is_gt (id_cmp less least) ≡ false → AreFrom least xs → AreFrom less xs
lesser_from least less [] h from = tt
lesser_from least less (x ∷ xs) h from = (not_larger less least x.id h from.0, lesser_from least less xs h from.1)

pub from_drop : (least : Identifier) (xs : List Entry) (i : ℕ) → AreFrom least xs → AreFrom least (drop i xs)
from_drop least xs zero from = from
from_drop least [] (suc i) from = tt
from_drop least (x ∷ xs) (suc i) from = from_drop least xs i from.1

-- ---- one more of a list

from_push : (least : Identifier) (xs : List Entry) (x : Entry) → is_gt (id_cmp least x.id) ≡ false → AreFrom least xs → AreFrom least (xs ++ x ∷ [])
from_push least [] x h from = (h, tt)
from_push least (y ∷ xs) x h from = (from.0, from_push least xs x h from.1)

pub from_more : (least less : Identifier) (xs : List Entry) (i : ℕ) (x : Entry) → i < length xs → x ≡ slice_index_or xs i x → is_gt (id_cmp less least) ≡ false → is_gt (id_cmp less x.id) ≡ false → AreFrom least (take i xs) → AreFrom less (take (i + 1) xs)
from_more least less xs i x w is h k from =
    subst (AreFrom less) (sym (take_more xs i x w ∙ ap (λ y. take i xs ++ y ∷ []) (sym is)))
    (from_push less (take i xs) x k (lesser_from least less (take i xs) h from))
