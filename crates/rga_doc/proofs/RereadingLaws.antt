-- A revert leaves the text outside the margins round what it deletes and what it inserts.
use Rattle.rga_doc.proofs.Prelude.{◌≡◌, ℕ, zero, suc, ◌+◌, ◌-◌, ◌<◌, ◌≤◌, Bool, true, false, cond, not, ◌&&◌, ◌||◌, nat_le, List, [], ◌∷◌, ◌++◌, map, filter, take, drop, length, get_or, refl, sym, ap, ◌∙◌, subst, true≢false, arith, append_assoc}
use Rattle.rga_doc.proofs.Prelude.{length-append, length-drop, take-append-drop, take_at, drop_at, Option, Some, None, Ok, IfSome, option_map, list_any, slice_get, AllByRecursion, and-true, and-false, and_parts, not-true, not-false, nat_tests}
use Rattle.rga_doc.proofs.Prelude.{map-append, take-map, drop-map, take_more, same_Some, Identifier, identifier, is_id, is_root, Element, element_at, Content, clock_of, join, content_of, id_of, is_complete, order, text, is_visible, visible}
use Rattle.rga_doc.proofs.Prelude.{character, change_after, put_behind, spliced, Op, Delete, is, all_map, all_members, of_member, filter_alike, within_join, inserted_if_complete, is_kept, order_complete, visible_is, text_is, text_long, filtered}
use Rattle.rga_doc.proofs.Prelude.{characters_within, own_index, place_at, StandsBetween, AllBetween, AgreeOutside, distinct_elements, restorations, revert_operations, revert_answer, put_back, inserted_elements}
use Rattle.rga_ops.proofs.ClockLaws.{within_clock}
use Rattle.rga_ops.proofs.PlacementLaws.{member_at}
use Rattle.rga_ops.proofs.SpliceLaws.{same_characters}
use Rattle.rga_doc.proofs.SplicedCharacters.{cut}
use Rattle.rga_doc.proofs.RevertLaws.{all_once, all_that_pass, revert_order}
use Rattle.rga_doc.proofs.UndoLists.{AreNewer, not_among_newer, newer_still, deleted_by_revert}
use Rattle.std.specs.FinMap as finite_map
use Rattle.std.specs.FinSet as finite_set

-- ---- lists that differ in what stands between margins

-- those that pass one test and those that pass another begin alike, where all that differ stand behind
module _ (p q : Identifier → Bool) where
  common_front : (xs : List Identifier) (n : ℕ) → ((i : ℕ) (x : Identifier) → slice_get (filter p xs) i ≡ Some x → q x ≡ false → n ≤ i) → ((i : ℕ) (x : Identifier) → slice_get (filter q xs) i ≡ Some x → p x ≡ false → n ≤ i) → take n (filter p xs) ≡ take n (filter q xs)
  common_front xs zero hp hq = refl
  common_front [] (suc n) hp hq = refl
  common_front (x ∷ xs) (suc n) hp hq = by (common_front xs) (p x) (q x) refl refl hp hq
    where
      by : ((m : ℕ) → ((i : ℕ) (y : Identifier) → slice_get (filter p xs) i ≡ Some y → q y ≡ false → m ≤ i) → ((i : ℕ) (y : Identifier) → slice_get (filter q xs) i ≡ Some y → p y ≡ false → m ≤ i) → take m (filter p xs) ≡ take m (filter q xs)) → (a b : Bool) → p x ≡ a → q x ≡ b → ((i : ℕ) (y : Identifier) → slice_get (cond a (x ∷ filter p xs) (filter p xs)) i ≡ Some y → q y ≡ false → suc n ≤ i) → ((i : ℕ) (y : Identifier) → slice_get (cond b (x ∷ filter q xs) (filter q xs)) i ≡ Some y → p y ≡ false → suc n ≤ i) → take (suc n) (cond a (x ∷ filter p xs) (filter p xs)) ≡ take (suc n) (cond b (x ∷ filter q xs) (filter q xs))
      by again true true t u hp hq = ap (λ ys. x ∷ ys) (again n (λ i y at f. omega (arith, hp (suc i) y at f)) (λ i y at f. omega (arith, hq (suc i) y at f)))
      by again true false t f hp hq = absurd (omega (arith, hp zero x refl f))
      by again false true f t hp hq = absurd (omega (arith, hq zero x refl f))
      by again false false f g hp hq = again (suc n) hp hq

-- one more item in front of lists that end alike
one_in_front : (x : Identifier) (ys zs : List Identifier) (n : ℕ) → drop (length ys - n) ys ≡ drop (length zs - n) zs → drop (suc (length ys) - n) (x ∷ ys) ≡ drop (suc (length zs) - n) (x ∷ zs)
one_in_front x ys zs n h = by (nat_le n (length ys)) refl
  where
    by : (a : Bool) → nat_le n (length ys) ≡ a → drop (suc (length ys) - n) (x ∷ ys) ≡ drop (suc (length zs) - n) (x ∷ zs)
    by true t =
        let few : n ≤ length ys = grind (arith, nat_tests) in
        let also : n ≤ length zs = omega (arith, few, length-drop (length ys - n) ys, length-drop (length zs - n) zs, ap length h) in
        let next : suc (length ys) - n ≡ suc (length ys - n) = omega (arith, few) in
        let next_too : suc (length zs) - n ≡ suc (length zs - n) = omega (arith, also) in
        ap (λ m. drop m (x ∷ ys)) next ∙ h ∙ sym (ap (λ m. drop m (x ∷ zs)) next_too)
    by false t =
        let many : length ys < n = grind (arith, nat_tests) in
        let also : length zs < n = omega (arith, many, length-drop (length ys - n) ys, length-drop (length zs - n) zs, ap length h) in
        let none : length ys - n ≡ 0 = omega (arith, many) in
        let none_too : length zs - n ≡ 0 = omega (arith, also) in
        let whole : suc (length ys) - n ≡ 0 = omega (arith, many) in
        let whole_too : suc (length zs) - n ≡ 0 = omega (arith, also) in
        ap (λ m. drop m (x ∷ ys)) whole
        ∙ ap (λ r. x ∷ r) (sym (ap (λ m. drop m ys) none) ∙ h ∙ ap (λ m. drop m zs) none_too)
        ∙ sym (ap (λ m. drop m (x ∷ zs)) whole_too)

-- and so they end alike, where all that differ stand before
common_back : (p q : Identifier → Bool) (n : ℕ) (xs : List Identifier) → ((i : ℕ) (x : Identifier) → slice_get (filter p xs) i ≡ Some x → q x ≡ false → i + n < length (filter p xs)) → ((i : ℕ) (x : Identifier) → slice_get (filter q xs) i ≡ Some x → p x ≡ false → i + n < length (filter q xs)) → drop (length (filter p xs) - n) (filter p xs) ≡ drop (length (filter q xs) - n) (filter q xs)
common_back p q n [] hp hq = refl
common_back p q n (x ∷ xs) hp hq = by (common_back p q n xs) (p x) (q x) refl refl hp hq
  where
    ys : List Identifier
    ys = filter p xs

    zs : List Identifier
    zs = filter q xs

    by : (((i : ℕ) (y : Identifier) → slice_get ys i ≡ Some y → q y ≡ false → i + n < length ys) → ((i : ℕ) (y : Identifier) → slice_get zs i ≡ Some y → p y ≡ false → i + n < length zs) → drop (length ys - n) ys ≡ drop (length zs - n) zs) → (a b : Bool) → p x ≡ a → q x ≡ b → ((i : ℕ) (y : Identifier) → slice_get (cond a (x ∷ ys) ys) i ≡ Some y → q y ≡ false → i + n < length (cond a (x ∷ ys) ys)) → ((i : ℕ) (y : Identifier) → slice_get (cond b (x ∷ zs) zs) i ≡ Some y → p y ≡ false → i + n < length (cond b (x ∷ zs) zs)) → drop (length (cond a (x ∷ ys) ys) - n) (cond a (x ∷ ys) ys) ≡ drop (length (cond b (x ∷ zs) zs) - n) (cond b (x ∷ zs) zs)
    by again true true t u hp hq = one_in_front x ys zs n (again (λ i y at f. omega (arith, hp (suc i) y at f)) (λ i y at f. omega (arith, hq (suc i) y at f)))
    by again true false t f hp hq =
        let next : suc (length ys) - n ≡ suc (length ys - n) = omega (arith, hp zero x refl f) in
        ap (λ m. drop m (x ∷ ys)) next ∙ again (λ i y at g. omega (arith, hp (suc i) y at g)) hq
    by again false true f t hp hq =
        let next : suc (length zs) - n ≡ suc (length zs - n) = omega (arith, hq zero x refl f) in
        again hp (λ i y at g. omega (arith, hq (suc i) y at g)) ∙ sym (ap (λ m. drop m (x ∷ zs)) next)
    by again false false f g hp hq = again hp hq

-- ---- texts by their elements

-- the characters from one place to another are those of the elements there
pub part_of_text : (c : Content) (lo hi : ℕ) → map Some (drop lo (take hi (text c))) ≡ map (character c) (drop lo (take hi (visible c)))
part_of_text c lo hi =
    sym (drop-map Some lo (take hi (text c)))
    ∙ ap (drop lo) (sym (take-map Some hi (text c)) ∙ ap (take hi) (text_is c) ∙ take-map (character c) hi (visible c))
    ∙ drop-map (character c) lo (take hi (visible c))

-- the character of an element more
pub read_more : (c : Content) (ids : List Identifier) (i : ℕ) (id : Identifier) (e : Identifier × ℕ) (characters : List ℕ) → i < length ids → id ≡ get_or ids i id → element_at c id ≡ Some e → map Some characters ≡ map (character c) (take i ids) → map Some (characters ++ e.1 ∷ []) ≡ map (character c) (take (i + 1) ids)
read_more c ids i id e characters within is found before =
    map-append Some characters (e.1 ∷ []) ∙ (λ k. before k ++ sym (by (finite_map.get c.inserted id) found) k ∷ [])
    ∙ sym (map-append (character c) (take i ids) (id ∷ []))
    ∙ ap (map (character c)) (sym (take_more ids i id within ∙ ap (λ x. take i ids ++ x ∷ []) (sym is)))
  where
    by : (o : Option Element) → option_map (λ x. (x.parent, x.ch)) o ≡ Some e → option_map (λ x. x.ch) o ≡ Some e.1
    by None h = ap (option_map (λ (p : Identifier × ℕ). p.1)) h
    by (Some x) h = ap (option_map (λ (p : Identifier × ℕ). p.1)) h

-- elements that agree outside margins, and keep their characters, have texts that do
texts_agree : (c d : Content) (front back : ℕ) → map (character c) (visible c) ≡ map (character d) (visible c) → take front (visible c) ≡ take front (visible d) → drop (length (visible c) - back) (visible c) ≡ drop (length (visible d) - back) (visible d) → AgreeOutside front back (text c) (text d)
texts_agree c d front back alike begin end =
    let old : map Some (text c) ≡ map (character d) (visible c) = text_is c ∙ alike in
    record {
      same_front =
          same_characters (take front (text c)) (take front (text d))
          (sym (take-map Some front (text c)) ∙ ap (take front) old ∙ take-map (character d) front (visible c) ∙ ap (map (character d)) begin
          ∙ sym (take-map (character d) front (visible d)) ∙ ap (take front) (sym (text_is d)) ∙ take-map Some front (text d));
      same_back =
          let m : ℕ = length (visible c) - back in
          let n : ℕ = length (visible d) - back in
          ap (λ k. drop (k - back) (text c)) (text_long c)
          ∙ same_characters (drop m (text c)) (drop n (text d))
          (sym (drop-map Some m (text c)) ∙ ap (drop m) old ∙ drop-map (character d) m (visible c) ∙ ap (map (character d)) end
          ∙ sym (drop-map (character d) n (visible d)) ∙ ap (drop n) (sym (text_is d)) ∙ drop-map Some n (text d))
          ∙ sym (ap (λ k. drop (k - back) (text d)) (text_long d));
    }

-- a text that is read anew between margins is the new one
pub read_anew : (front back old_end end : ℕ) (old new : List ℕ) → AgreeOutside front back old new → old_end ≡ length old - back → end ≡ length new - back → front ≤ end → spliced old front old_end (drop front (take end new)) ≡ new
read_anew front back old_end end old new agree before now up = grind (arith, length, drop, take, append_assoc, cut, take-append-drop)

-- ---- elements that stand between margins

-- a visible element that does is within them by its index
index_between : (c : Content) (front back i : ℕ) (id : Identifier) → StandsBetween c front back id → slice_get (visible c) i ≡ Some id → (front ≤ i) × (i + back < length (visible c))
index_between c front back i id between at =
    let same : i + 1 ≡ suc between.index = same_Some _ _ (sym (place_at c id i (own_index c id i at)) ∙ between.placed) in
    (omega (arith, same, between.not_in_front), omega (arith, same, between.not_at_back))

-- narrower margins hold too
pub narrower : (c : Content) (front back f b : ℕ) (id : Identifier) → f ≤ front → b ≤ back → StandsBetween c front back id → StandsBetween c f b id
narrower c front back f b id less fewer between = grind (arith)

pub all_narrower : (c : Content) (front back f b : ℕ) (ops : List Op) → f ≤ front → b ≤ back → AllBetween c front back ops → AllBetween c f b ops
all_narrower c front back f b [] less fewer all = tt
all_narrower c front back f b (op ∷ ops) less fewer all = (narrower c front back f b (id_of op) less fewer all.0, all_narrower c front back f b ops less fewer all.1)

-- one more operation
all_then : (c : Content) (f b : ℕ) (ops : List Op) (op : Op) → AllBetween c f b ops → StandsBetween c f b (id_of op) → AllBetween c f b (ops ++ op ∷ [])
all_then c f b [] op all here = (here, tt)
all_then c f b (x ∷ ops) op all here = (all.0, all_then c f b ops op all.1 here)

pub between_more : (c : Content) (front back f b i : ℕ) (ops : List Op) (op : Op) → i < length ops → op ≡ get_or ops i op → f ≤ front → b ≤ back → AllBetween c front back (take i ops) → StandsBetween c f b (id_of op) → AllBetween c f b (take (i + 1) ops)
between_more c front back f b i ops op within is less fewer all here =
    subst (AllBetween c f b) (ap (λ x. take i ops ++ x ∷ []) is ∙ sym (take_more ops i op within)) (all_then c f b (take i ops) op (all_narrower c front back f b (take i ops) less fewer all) here)

-- what two clauses say of a value that may be there
pub both_say : {X : Type 0} (o : Option X) (P Q R : X → Type 0) → IfSome o P → IfSome o Q → ((x : X) → P x → Q x → R x) → IfSome o R
both_say None P Q R p q f = tt
both_say (Some x) P Q R p q f = f x p q

-- ---- what a revert leaves

-- what does not pass may be put behind others
filter_put : (p : Identifier → Bool) (parent id : Identifier) (xs : List Identifier) → p id ≡ false → filter p (put_behind parent id xs) ≡ filter p xs
filter_put p parent id xs f = elim (is_root parent) as (λ b. filter p (cond b (id ∷ xs) (change_after parent (λ ys. id ∷ ys) xs)) ≡ filter p xs) [
  | true ↦ ap (λ b. cond b (id ∷ filter p xs) (filter p xs)) f
  | false ↦ inside xs
]
  where
    inside : (xs : List Identifier) → filter p (change_after parent (λ ys. id ∷ ys) xs) ≡ filter p xs
    inside [] = refl
    inside (x ∷ xs) = elim (is_id x parent) as (λ b. filter p (cond b (x ∷ id ∷ xs) (x ∷ change_after parent (λ ys. id ∷ ys) xs)) ≡ filter p (x ∷ xs)) [
      | true ↦ ap (λ b. cond (p x) (x ∷ cond b (id ∷ filter p xs) (filter p xs)) (cond b (id ∷ filter p xs) (filter p xs))) f
      | false ↦ ap (λ r. cond (p x) (x ∷ r) r) (inside xs)
    ]

filter_put_back : (p : Identifier → Bool) (back : List (Identifier × ℕ)) (replica last : ℕ) (xs : List Identifier) → AllByRecursion (λ x. p x ≡ false) (inserted_elements (restorations replica last back)) → filter p (put_back replica last back xs) ≡ filter p xs
filter_put_back p [] replica last xs h = refl
filter_put_back p (b ∷ back) replica last xs h = grind (arith, put_behind, identifier, filter_put, filter_put_back p back replica (last + 1) (put_behind b.0 (identifier (last + 1) replica) xs) h.1)

restorations_newer : (replica last : ℕ) (back : List (Identifier × ℕ)) → AreNewer last (inserted_elements (restorations replica last back))
restorations_newer replica last [] = tt
restorations_newer replica last (b ∷ back) = grind (arith, newer_still, inserted_elements, restorations, restorations_newer replica (last + 1) back)

-- the elements of deletions, and of restorations
all_deleted : (P : Identifier → Type 0) (ids : List Identifier) → AllByRecursion (λ op. P (id_of op)) (map Delete ids) → AllByRecursion P ids
all_deleted P [] h = tt
all_deleted P (id ∷ ids) h = (h.0, all_deleted P ids h.1)

all_restored : (P : Identifier → Type 0) (replica last : ℕ) (back : List (Identifier × ℕ)) → AllByRecursion (λ op. P (id_of op)) (restorations replica last back) → AllByRecursion P (inserted_elements (restorations replica last back))
all_restored P replica last [] h = tt
all_restored P replica last (b ∷ back) h = (h.0, all_restored P replica (last + 1) back h.1)

module _ (limit replica : ℕ) (c : Content) (gone : List Identifier) (back : List (Identifier × ℕ)) (allowed : revert_answer limit c back ≡ Ok tt) where
  abbrev gone_ones : List Identifier
  gone_ones = distinct_elements (filter (is_visible c) gone)

  abbrev ops : List Op
  ops = revert_operations replica c gone back

  abbrev then_content : Content
  then_content = join c (content_of ops)

  abbrev new_ones : List Identifier
  new_ones = inserted_elements (restorations replica (clock_of c) back)

  all_gone_visible : AllByRecursion (λ x. is_visible c x ≡ true) gone_ones
  all_gone_visible = all_once (λ x. is_visible c x ≡ true) (filter (is_visible c) gone) (all_that_pass (is_visible c) gone)

  -- what was visible before, told by what the content deletes then
  abbrev was_visible : Identifier → Bool
  was_visible x = (is_kept then_content x || list_any (is x) gone_ones) && not (list_any (is x) new_ones)

  -- a new one was not
  not_yet : AllByRecursion (λ x. was_visible x ≡ false) new_ones
  not_yet = all_members (λ x. was_visible x ≡ false) new_ones (λ x m.
      ap (λ b. (is_kept then_content x || list_any (is x) gone_ones) && not b) m
      ∙ and-false (is_kept then_content x || list_any (is x) gone_ones))

  -- those that were there were visible where they were kept
  visible_as_kept : (x : Identifier) → is_complete c x ≡ true → was_visible x ≡ is_kept c x
  visible_as_kept x complete =
      let at : (y : Element) × (finite_map.get c.inserted x ≡ Some y) = inserted_if_complete c x complete in
      let old : x.counter ≤ clock_of c = (within_clock c).own x at.0 at.1 in
      let not_new : list_any (is x) new_ones ≡ false = not_among_newer (clock_of c) x new_ones old (restorations_newer replica (clock_of c) back) in
      (λ k. (not (deleted_by_revert c gone_ones replica (clock_of c) back x k) || list_any (is x) gone_ones) && not (not_new k))
      ∙ and-true (not (finite_set.contains c.deleted x || list_any (is x) gone_ones) || list_any (is x) gone_ones)
      ∙ by (finite_set.contains c.deleted x) (list_any (is x) gone_ones) (λ m. not-true (finite_set.contains c.deleted x) (and_parts (is_complete c x) (is_kept c x) (of_member (λ y. is_visible c y ≡ true) gone_ones x all_gone_visible m)).1)
    where
      by : (d g : Bool) → (g ≡ true → d ≡ false) → (not (d || g) || g) ≡ not d
      by true true h = absurd (true≢false (h refl))
      by true false h = refl
      by false true h = refl
      by false false h = refl

  visible_before : visible c ≡ filter was_visible (order then_content)
  visible_before = sym (
      ap (filter was_visible) (revert_order limit replica c gone back allowed)
      ∙ filter_put_back was_visible back replica (clock_of c) (order c) not_yet
      ∙ filter_alike was_visible (is_kept c) (order c) (all_map (λ x. is_complete c x ≡ true) (λ x. was_visible x ≡ is_kept c x) visible_as_kept (order c) (order_complete c))
      ∙ sym (visible_is c))

  characters_stay : map (character c) (visible c) ≡ map (character then_content) (visible c)
  characters_stay = sym (text_is c) ∙ characters_within c then_content (within_join c (content_of ops))

  -- of the elements only those that it deletes were visible and are kept no more, and only new ones are kept that were not
  deleted_only : (x : Identifier) → was_visible x ≡ true → is_kept then_content x ≡ false → list_any (is x) gone_ones ≡ true
  deleted_only x t f = sym (ap (λ b. b || list_any (is x) gone_ones) f) ∙ (and_parts (is_kept then_content x || list_any (is x) gone_ones) (not (list_any (is x) new_ones)) t).0

  inserted_only : (x : Identifier) → is_kept then_content x ≡ true → was_visible x ≡ false → list_any (is x) new_ones ≡ true
  inserted_only x t f = not-false (list_any (is x) new_ones) (sym (ap (λ b. (b || list_any (is x) gone_ones) && not (list_any (is x) new_ones)) t) ∙ f)

  -- the margins round both
  pub revert_agrees : (front back_margin f b : ℕ) → f ≤ front → b ≤ back_margin → AllBetween c front back_margin (map Delete gone_ones) → AllBetween then_content f b (restorations replica (clock_of c) back) → AgreeOutside f b (text c) (text then_content)
  revert_agrees front back_margin f b less fewer deletions insertions =
      let gone_between : AllByRecursion (StandsBetween c f b) gone_ones = all_deleted (StandsBetween c f b) gone_ones (all_narrower c front back_margin f b (map Delete gone_ones) less fewer deletions) in
      let new_between : AllByRecursion (StandsBetween then_content f b) new_ones = all_restored (StandsBetween then_content f b) replica (clock_of c) back insertions in
      let cut_at : (i : ℕ) (x : Identifier) → slice_get (filter was_visible (order then_content)) i ≡ Some x → is_kept then_content x ≡ false → (f ≤ i) × (i + b < length (filter was_visible (order then_content))) =
      λ i x at gone.
      let there : slice_get (visible c) i ≡ Some x = ap (λ xs. slice_get xs i) visible_before ∙ at in
      let shown : was_visible x ≡ true = passes was_visible (order then_content) i x at in
      let both = index_between c f b i x (of_member (StandsBetween c f b) gone_ones x gone_between (deleted_only x shown gone)) there in
      (both.0, omega (arith, both.1, ap length visible_before)) in
      let put_at : (i : ℕ) (x : Identifier) → slice_get (filter (is_kept then_content) (order then_content)) i ≡ Some x → was_visible x ≡ false → (f ≤ i) × (i + b < length (filter (is_kept then_content) (order then_content))) =
      λ i x at new.
      let there : slice_get (visible then_content) i ≡ Some x = ap (λ xs. slice_get xs i) (visible_is then_content) ∙ at in
      let shown : is_kept then_content x ≡ true = passes (is_kept then_content) (order then_content) i x at in
      let both = index_between then_content f b i x (of_member (StandsBetween then_content f b) new_ones x new_between (inserted_only x shown new)) there in
      (both.0, omega (arith, both.1, ap length (visible_is then_content))) in
      texts_agree c then_content f b characters_stay
      (ap (take f) visible_before
      ∙ common_front was_visible (is_kept then_content) (order then_content) f (λ i x at gone. (cut_at i x at gone).0) (λ i x at new. (put_at i x at new).0)
      ∙ ap (take f) (sym (visible_is then_content)))
      ((λ k. drop (length (visible_before k) - b) (visible_before k))
      ∙ common_back was_visible (is_kept then_content) b (order then_content) (λ i x at gone. (cut_at i x at gone).1) (λ i x at new. (put_at i x at new).1)
      ∙ (λ k. drop (length (sym (visible_is then_content) k) - b) (sym (visible_is then_content) k)))
    where
      passes : (p : Identifier → Bool) (xs : List Identifier) (i : ℕ) (x : Identifier) → slice_get (filter p xs) i ≡ Some x → p x ≡ true
      passes p xs i x h = (and_parts (list_any (is x) xs) (p x) (sym (filtered p x xs) ∙ member_at (filter p xs) i x h)).1

  -- ---- its operations, cut in two

  as_many_restored : (last : ℕ) (bs : List (Identifier × ℕ)) → length (restorations replica last bs) ≡ length bs
  as_many_restored last [] = refl
  as_many_restored last (b ∷ bs) = ap suc (as_many_restored (last + 1) bs)

  pub revert_long : length ops ≡ length (map Delete gone_ones) + length back
  revert_long = length-append (map Delete gone_ones) (restorations replica (clock_of c) back) ∙ ap (λ n. length (map Delete gone_ones) + n) (as_many_restored (clock_of c) back)

  cut_there : length (map Delete gone_ones) ≡ length ops - length back
  cut_there = omega (arith, revert_long)

  pub revert_deletions : take (length ops - length back) ops ≡ map Delete gone_ones
  revert_deletions = take_at (map Delete gone_ones) (restorations replica (clock_of c) back) (length ops - length back) cut_there

  pub revert_insertions : drop (length ops - length back) ops ≡ restorations replica (clock_of c) back
  revert_insertions = drop_at (map Delete gone_ones) (restorations replica (clock_of c) back) (length ops - length back) cut_there
