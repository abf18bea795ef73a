-- A list in parts: its places, and what stands in it when parts change, come and go.
use Rattle.std.proofs.Common.{◌≡◌, ℕ, ◌+◌, ◌<◌, ◌≤◌, suc, zero, List, [], ◌∷◌, ◌++◌, length, take, drop, slice_index_or, refl, sym, ap, ◌∙◌, arith, append_assoc, add-one}
use Rattle.std.proofs.lemmas.List.{append-nil, take-append-drop, take_all, drop_all, nil_from_length, length-take, length-drop}
use Rattle.std.proofs.lemmas.List.Edits.{length-remove}
use Rattle.std.specs.Prelude.{insert, remove, slice_set}
use Rattle.rga_pages.specs.Parts.{flat, before, behind, cut_in, IsPlace, AreFilled}

-- ---- places

pub place_at : {A : Type 0} (ps : List (List A)) (p i : ℕ) (d : List A) → p < length ps → i ≤ length (slice_index_or ps p d) → IsPlace ps p i
place_at [] p i d w h = absurd (omega arith)
place_at (x ∷ xs) zero i d w h = h
place_at (x ∷ xs) (suc p) i d w h = place_at xs p i d (omega arith) h

pub index_within : {A : Type 0} (ps : List (List A)) (p i : ℕ) (d : List A) → IsPlace ps p i → i ≤ length (slice_index_or ps p d)
index_within [] p i d h = absurd h
index_within (x ∷ xs) zero i d h = h
index_within (x ∷ xs) (suc p) i d h = index_within xs p i d h

pub flat_both : {A : Type 0} (ps qs : List (List A)) → flat (ps ++ qs) ≡ flat ps ++ flat qs
flat_both [] qs = refl
flat_both (x ∷ xs) qs = ap (λ r. x ++ r) (flat_both xs qs) ∙ sym (append_assoc x (flat xs) (flat qs))

pub flat_push : {A : Type 0} (ps : List (List A)) (y : List A) → flat (ps ++ y ∷ []) ≡ flat ps ++ y
flat_push ps y = flat_both ps (y ∷ []) ∙ ap (λ r. flat ps ++ r) (append-nil y)

pub parted : {A : Type 0} (ps : List (List A)) (p i : ℕ) → flat ps ≡ before ps p i ++ behind ps p i
parted [] p i = refl
parted (x ∷ xs) zero i = ap (λ y. y ++ flat xs) (sym (take-append-drop i x)) ∙ append_assoc (take i x) (drop i x) (flat xs)
parted (x ∷ xs) (suc p) i = ap (λ r. x ++ r) (parted xs p i) ∙ sym (append_assoc x (before xs p i) (behind xs p i))

pub before_is : {A : Type 0} (ps : List (List A)) (p i : ℕ) (d : List A) → p < length ps → before ps p i ≡ flat (take p ps) ++ take i (slice_index_or ps p d)
before_is [] p i d w = absurd (omega arith)
before_is (x ∷ xs) zero i d w = refl
before_is (x ∷ xs) (suc p) i d w = ap (λ r. x ++ r) (before_is xs p i d (omega arith)) ∙ sym (append_assoc x (flat (take p xs)) (take i (slice_index_or xs p d)))

-- ---- parts that change

-- what stands from one index to the one before another is another list
pub changed_there : {A : Type 0} (ps : List (List A)) (p i j : ℕ) (es d : List A) → p < length ps → flat (slice_set ps p (take i (slice_index_or ps p d) ++ (es ++ drop j (slice_index_or ps p d)))) ≡ before ps p i ++ (es ++ behind ps p j)
changed_there [] p i j es d w = absurd (omega arith)
changed_there (x ∷ xs) zero i j es d w = append_assoc (take i x) (es ++ drop j x) (flat xs) ∙ ap (λ r. take i x ++ r) (append_assoc es (drop j x) (flat xs))
changed_there (x ∷ xs) (suc p) i j es d w = ap (λ r. x ++ r) (changed_there xs p i j es d (omega arith)) ∙ sym (append_assoc x (before xs p i) (es ++ behind xs p j))

-- a part of one element goes with it
pub part_gone : {A : Type 0} (ps : List (List A)) (p i : ℕ) (d : List A) → p < length ps → length (slice_index_or ps p d) ≡ 1 → i < 1 → flat (remove ps p) ≡ before ps p i ++ behind ps p (suc i)
part_gone [] p i d w one h = absurd (omega arith)
part_gone (x ∷ xs) zero i d w one h =
    let single : length x ≡ 1 = one in
    let there : i < length x = omega (arith, single, h) in
    ap (λ y. y ++ flat xs) (sym (nil_from_length (remove x i) (omega (arith, length-remove x i there, single)))) ∙ append_assoc (take i x) (drop (suc i) x) (flat xs)
part_gone (x ∷ xs) (suc p) i d w one h = ap (λ r. x ++ r) (part_gone xs p i d (omega arith) one h) ∙ sym (append_assoc x (before xs p i) (behind xs p (suc i)))

-- a part comes in behind the end of another
own_there : {A : Type 0} (ps : List (List A)) (p i : ℕ) (es d : List A) → p < length ps → length (slice_index_or ps p d) ≡ i → flat (insert ps (suc p) es) ≡ before ps p i ++ (es ++ behind ps p i)
own_there [] p i es d w full = absurd (omega arith)
own_there (x ∷ xs) zero i es d w full =
    let long : length x ≡ i = full in
    let whole : length x ≤ i = omega (arith, long) in
    (λ k. sym (take_all i x whole) k ++ (es ++ (sym (drop_all i x whole) k ++ flat xs)))
own_there (x ∷ xs) (suc p) i es d w full = ap (λ r. x ++ r) (own_there xs p i es d (omega arith) full) ∙ sym (append_assoc x (before xs p i) (es ++ behind xs p i))

pub own_behind : {A : Type 0} (ps : List (List A)) (p i : ℕ) (es d : List A) → p < length ps → length (slice_index_or ps p d) ≡ i → flat (insert ps (p + 1) es) ≡ before ps p i ++ (es ++ behind ps p i)
own_behind ps p i es d w full = ap (λ n. flat (insert ps n es)) (add-one p) ∙ own_there ps p i es d w full

cut_is : {A : Type 0} (ps : List (List A)) (p cut : ℕ) (d e : List A) → p < length ps → slice_set (insert ps (suc p) (drop cut (slice_index_or ps p d))) p (take cut (slice_index_or (insert ps (suc p) (drop cut (slice_index_or ps p d))) p e)) ≡ cut_in ps p cut
cut_is [] p cut d e w = absurd (omega arith)
cut_is (x ∷ xs) zero cut d e w = refl
cut_is (x ∷ xs) (suc p) cut d e w = ap (λ r. x ∷ r) (cut_is xs p cut d e (omega arith))

pub halved : {A : Type 0} (ps : List (List A)) (p cut : ℕ) (d e : List A) → p < length ps → slice_set (insert ps (p + 1) (drop cut (slice_index_or ps p d))) p (take cut (slice_index_or (insert ps (p + 1) (drop cut (slice_index_or ps p d))) p e)) ≡ cut_in ps p cut
halved ps p cut d e w = ap (λ n. slice_set (insert ps n (drop cut (slice_index_or ps p d))) p (take cut (slice_index_or (insert ps n (drop cut (slice_index_or ps p d))) p e))) (add-one p) ∙ cut_is ps p cut d e w

pub cut_flat : {A : Type 0} (ps : List (List A)) (p cut : ℕ) → flat (cut_in ps p cut) ≡ flat ps
cut_flat [] p cut = refl
cut_flat (x ∷ xs) zero cut = sym (append_assoc (take cut x) (drop cut x) (flat xs)) ∙ ap (λ y. y ++ flat xs) (take-append-drop cut x)
cut_flat (x ∷ xs) (suc p) cut = ap (λ r. x ++ r) (cut_flat xs p cut)

-- ---- no part is empty

pub filled_set : {A : Type 0} (ps : List (List A)) (p : ℕ) (y : List A) → AreFilled ps → 0 < length y → AreFilled (slice_set ps p y)
filled_set [] p y f h = f
filled_set (x ∷ xs) zero y f h = (h, f.1)
filled_set (x ∷ xs) (suc p) y f h = (f.0, filled_set xs p y f.1 h)

pub filled_insert : {A : Type 0} (ps : List (List A)) (p : ℕ) (y : List A) → AreFilled ps → 0 < length y → AreFilled (insert ps p y)
filled_insert ps zero y f h = (h, f)
filled_insert [] (suc p) y f h = (h, tt)
filled_insert (x ∷ xs) (suc p) y f h = (f.0, filled_insert xs p y f.1 h)

pub filled_remove : {A : Type 0} (ps : List (List A)) (p : ℕ) → AreFilled ps → AreFilled (remove ps p)
filled_remove [] zero f = tt
filled_remove [] (suc p) f = tt
filled_remove (x ∷ xs) zero f = f.1
filled_remove (x ∷ xs) (suc p) f = (f.0, filled_remove xs p f.1)

pub filled_cut : {A : Type 0} (ps : List (List A)) (p cut : ℕ) (d : List A) → AreFilled ps → 0 < cut → cut < length (slice_index_or ps p d) → AreFilled (cut_in ps p cut)
filled_cut [] p cut d f h w = tt
filled_cut (x ∷ xs) zero cut d f h w =
    let within : cut < length x = w in
    (omega (arith, length-take cut x, h, within), (omega (arith, length-drop cut x, within), f.1))
filled_cut (x ∷ xs) (suc p) cut d f h w = (f.0, filled_cut xs p cut d f.1 h w)
