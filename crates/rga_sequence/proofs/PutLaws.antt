-- Blocks into which an entry comes or from which one goes: what stands in them, apart and in no empty block.
use Rattle.std.proofs.Common.{◌≡◌, ℕ, ◌+◌, ◌-◌, ◌<◌, ◌≤◌, suc, zero, Bool, true, false, cond, not, List, [], ◌∷◌, ◌++◌, length, slice_index_or, refl, sym, ap, ◌∙◌, subst, arith, append_assoc, length-drop, add-one}
use Rattle.std.proofs.lemmas.List.{length-take}
use Rattle.std.proofs.lemmas.List.Elements.{All-filter, All-from_recursion, recursion_from_All}
use Rattle.std.specs.Prelude.{insert}
use Rattle.std.specs.List.{AllByRecursion, IsDistinct}
use Rattle.rga_ops.specs.Identifier.{Identifier, is_id}
use Rattle.rga_sequence.specs.declared.entry.Entry.{Entry}
use Rattle.rga_sequence.specs.Entries.{has, without_entry, as_marked, mark_entry, AreApart, IsPart}
use Rattle.rga_sequence.specs.Blocks.{Blocks, flat, before, behind, cut_in, IsPlace}
use Rattle.rga_pages.proofs.PartLaws.{parted}
use Rattle.rga_sequence.proofs.StandLaws.{id_swap, parts}

-- ---- apart

all_put : (P : Entry → Type 0) (front : List Entry) (e : Entry) (back : List Entry) → P e → AllByRecursion P (front ++ back) → AllByRecursion P (front ++ e ∷ back)
all_put P [] e back h all = (h, all)
all_put P (x ∷ front) e back h all = (all.0, all_put P front e back h all.1)

all_other : (e : Entry) (xs : List Entry) → has e.id xs ≡ false → AllByRecursion (λ y. is_id e.id y.id ≡ false) xs
all_other e [] h = tt
all_other e (x ∷ xs) h = (id_swap x.id e.id (parts e.id x xs h).0, all_other e xs (parts e.id x xs h).1)

pub apart_put : (front : List Entry) (e : Entry) (back : List Entry) → has e.id (front ++ back) ≡ false → AreApart (front ++ back) → AreApart (front ++ e ∷ back)
unfolding IsDistinct
apart_put [] e back h apart = (all_other e back h, apart)
apart_put (x ∷ front) e back h apart =
    (all_put (λ y. is_id x.id y.id ≡ false) front e back (parts e.id x (front ++ back) h).0 apart.0, apart_put front e back (parts e.id x (front ++ back) h).1 apart.1)

all_kept : (P : Entry → Type 0) (id : Identifier) (xs : List Entry) → AllByRecursion P xs → AllByRecursion P (without_entry id xs)
all_kept P id xs all = recursion_from_All P (without_entry id xs) (All-filter (λ e. not (is_id e.id id)) P xs (All-from_recursion P xs all))

pub apart_without : (id : Identifier) (xs : List Entry) → AreApart xs → AreApart (without_entry id xs)
unfolding IsDistinct
apart_without id [] apart = tt
apart_without id (x ∷ xs) apart = grind (arith, all_kept, apart_without id xs apart.1)

same_id : (mark : Bool) (id : Identifier) (x : Entry) → (cond (is_id x.id id) (as_marked mark x) x).id ≡ x.id
same_id mark id x = elim (is_id x.id id) as (λ b. (cond b (as_marked mark x) x).id ≡ x.id) [ true ↦ refl | false ↦ refl ]

all_marked : (mark : Bool) (id y : Identifier) (xs : List Entry) → AllByRecursion (λ q. is_id y q.id ≡ false) xs → AllByRecursion (λ q. is_id y q.id ≡ false) (mark_entry mark id xs)
all_marked mark id y [] all = tt
all_marked mark id y (x ∷ xs) all = (ap (is_id y) (same_id mark id x) ∙ all.0, all_marked mark id y xs all.1)

pub apart_marked : (mark : Bool) (id : Identifier) (xs : List Entry) → AreApart xs → AreApart (mark_entry mark id xs)
unfolding IsDistinct
apart_marked mark id [] apart = tt
apart_marked mark id (x ∷ xs) apart =
    (subst (λ y. AllByRecursion (λ q. is_id y q.id ≡ false) (mark_entry mark id xs)) (sym (same_id mark id x)) (all_marked mark id x.id xs apart.0), apart_marked mark id xs apart.1)

pub apart_none : AreApart []
unfolding IsDistinct
apart_none = tt

-- ---- no block is empty

-- ---- what stands in blocks that change

-- ---- with numbers as code has them

pub own_front : (bs : Blocks) (b : ℕ) (es : List Entry) → b < length bs → flat (insert bs b es) ≡ before bs b 0 ++ (es ++ behind bs b 0)
own_front [] b es w = absurd (omega arith)
own_front (x ∷ xs) zero es w = refl
own_front (x ∷ xs) (suc b) es w = ap (λ r. x ++ r) (own_front xs b es (omega arith)) ∙ sym (append_assoc x (before xs b 0) (es ++ behind xs b 0))

-- ---- both blocks of a cut one have room

pub room_first : (bs : Blocks) (b cut : ℕ) → length (slice_index_or (cut_in bs b cut) b []) ≤ cut
room_first [] b cut = omega arith
room_first (x ∷ xs) zero cut = omega (arith, length-take cut x)
room_first (x ∷ xs) (suc b) cut = room_first xs b cut

room_next : (bs : Blocks) (b cut : ℕ) → length (slice_index_or (cut_in bs b cut) (suc b) []) ≤ length (slice_index_or bs b []) - cut
room_next [] b cut = omega arith
room_next (x ∷ xs) zero cut = omega (arith, length-drop cut x)
room_next (x ∷ xs) (suc b) cut = room_next xs b cut

pub room_second : (bs : Blocks) (b cut : ℕ) → length (slice_index_or (cut_in bs b cut) (b + 1) []) ≤ length (slice_index_or bs b []) - cut
room_second bs b cut = subst (λ n. length (slice_index_or (cut_in bs b cut) n []) ≤ length (slice_index_or bs b []) - cut) (sym (add-one b)) (room_next bs b cut)

-- ---- a block is a part of all

pub part_of : (bs : Blocks) (i : ℕ) (d : List Entry) → i < length bs → IsPart (slice_index_or bs i d) (flat bs)
part_of [] i d w = absurd (omega arith)
part_of (x ∷ xs) zero d w = ([], flat xs, refl)
part_of (x ∷ xs) (suc i) d w =
    let rest : IsPart (slice_index_or xs i d) (flat xs) = part_of xs i d (omega arith) in
    (x ++ rest.0, rest.1, ap (λ r. x ++ r) rest.2 ∙ sym (append_assoc x (rest.0 ++ slice_index_or xs i d) rest.1) ∙ ap (λ r. r ++ rest.1) (sym (append_assoc x rest.0 (slice_index_or xs i d))))

-- ---- an entry behind its parent

pub apart_there : (bs : Blocks) (b i : ℕ) (e : Entry) → IsPlace bs b i → has e.id (flat bs) ≡ false → AreApart (flat bs) → AreApart (before bs b i ++ e ∷ behind bs b i)
apart_there bs b i e p h apart = grind (arith, parts, parted, apart_put)
