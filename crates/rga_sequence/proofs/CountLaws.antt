-- How many entries are visible in a list that changes, and which these are.
use Rattle.std.proofs.Common.{min, ◌≡◌, ℕ, ◌+◌, ◌-◌, ◌<◌, ◌≤◌, suc, zero, Bool, true, false, cond, not, List, [], ◌∷◌, ◌++◌, length, take, drop, slice_index_or, refl, sym, ap, ◌∙◌, arith, length-append, drop-cons}
use Rattle.std.specs.Prelude.{remove}
use Rattle.std.specs.List.{slice_get}
use Rattle.std.proofs.lemmas.List.{append-nil, take_more, drop_more, map-append, take-append-drop, drop-take, length-take, length-take-le, take_min, length-map, take-map, drop-map, drop_all}
use Rattle.std.proofs.lemmas.List.Sums.{length-filter, count_by-le-length}
use Rattle.std.proofs.lemmas.List.Elements.{filter-append}
use Rattle.rga_ops.specs.Identifier.{Identifier}
use Rattle.rga_pages.proofs.PartLaws.{before_is, flat_both}
use Rattle.rga_sequence.specs.declared.entry.Entry.{Entry}
use Rattle.rga_sequence.specs.Entries.{ids, visible_entries, visible_count, visible_ids}
use Rattle.rga_sequence.specs.Blocks.{Blocks, flat, before, insert_all, mark_at_index}

pub visible_both : (xs ys : List Entry) → visible_entries (xs ++ ys) ≡ visible_entries xs ++ visible_entries ys
visible_both xs ys = filter-append (λ e. not e.deleted) xs ys

pub ids_both : (xs ys : List Entry) → visible_ids (xs ++ ys) ≡ visible_ids xs ++ visible_ids ys
ids_both xs ys = ap ids (visible_both xs ys) ∙ map-append (λ e. e.id) (visible_entries xs) (visible_entries ys)

pub count_both : (xs ys : List Entry) → visible_count (xs ++ ys) ≡ visible_count xs + visible_count ys
count_both xs ys = ap length (visible_both xs ys) ∙ length-append (visible_entries xs) (visible_entries ys)

pub count_ids : (xs : List Entry) → length (visible_ids xs) ≡ visible_count xs
count_ids xs = length-map (visible_entries xs) (λ (e : Entry). e.id)

pub count_within : (xs : List Entry) → visible_count xs ≤ length xs
count_within xs = omega (arith, length-filter (λ (e : Entry). not e.deleted) xs, count_by-le-length (λ (e : Entry). not e.deleted) xs)

-- where as many are visible as there are, these are all
pub all_visible : (xs : List Entry) → length xs ≤ visible_count xs → visible_entries xs ≡ xs
all_visible [] h = refl
all_visible (x ∷ xs) h =
    elim x.deleted as (λ b. suc (length xs) ≤ length (cond (not b) (x ∷ visible_entries xs) (visible_entries xs)) → cond (not b) (x ∷ visible_entries xs) (visible_entries xs) ≡ x ∷ xs) [
      | true ↦ λ k. absurd (omega (arith, count_within xs))
      | false ↦ λ k. ap (λ r. x ∷ r) (all_visible xs (omega arith))
    ] h

pub count_all : (xs : List Entry) (i : ℕ) → i ≤ length xs → length xs ≤ visible_count xs → visible_count (take i xs) ≡ i
count_all xs i w h =
    let parts : visible_count (take i xs ++ drop i xs) ≡ visible_count xs = ap visible_count (take-append-drop i xs) in
    let long : length (take i xs ++ drop i xs) ≡ length xs = ap length (take-append-drop i xs) in
    omega (arith, parts, long, count_both (take i xs) (drop i xs), length-append (take i xs) (drop i xs), length-take-le i xs w, count_within (take i xs), count_within (drop i xs))

-- ---- some entries more, one less, one deleted

pub count_put : (xs : List Entry) (i : ℕ) (es : List Entry) → visible_count (insert_all xs i es) ≡ visible_count xs + visible_count es
count_put xs i es =
    let parts : visible_count (take i xs ++ drop i xs) ≡ visible_count xs = ap visible_count (take-append-drop i xs) in
    omega (arith, parts, count_both (take i xs) (drop i xs), count_both (take i xs) (es ++ drop i xs), count_both es (drop i xs))

pub count_remove : (xs : List Entry) (i : ℕ) (x : Entry) → i < length xs → x ≡ slice_index_or xs i x → visible_count xs ≡ visible_count (remove xs i) + visible_count (x ∷ [])
count_remove xs i x w is =
    let parts : visible_count (take i xs ++ drop i xs) ≡ visible_count xs = ap visible_count (take-append-drop i xs) in
    let rest : visible_count (drop i xs) ≡ visible_count (x ∷ drop (suc i) xs) = ap visible_count (drop-cons xs i x w ∙ ap (λ e. e ∷ drop (suc i) xs) (sym is)) in
    omega (arith, parts, rest, count_both (take i xs) (drop i xs), count_both (take i xs) (drop (suc i) xs), count_both (x ∷ []) (drop (suc i) xs))

pub length_insert : (xs : List Entry) (i : ℕ) (es : List Entry) → length (insert_all xs i es) ≡ length xs + length es
length_insert xs i es =
    let parts : length (take i xs ++ drop i xs) ≡ length xs = ap length (take-append-drop i xs) in
    omega (arith, parts, length-append (take i xs) (drop i xs), length-append (take i xs) (es ++ drop i xs), length-append es (drop i xs))

pub length_marked : (mark : Bool) (xs : List Entry) (i : ℕ) → length (mark_at_index mark i xs) ≡ length xs
length_marked mark [] i = refl
length_marked mark (x ∷ xs) zero = refl
length_marked mark (x ∷ xs) (suc i) = ap (λ n. suc n) (length_marked mark xs i)

remove_marked : (mark : Bool) (xs : List Entry) (i : ℕ) → remove (mark_at_index mark i xs) i ≡ remove xs i
remove_marked mark [] i = refl
remove_marked mark (x ∷ xs) zero = refl
remove_marked mark (x ∷ xs) (suc i) = ap (λ r. x ∷ r) (remove_marked mark xs i)

pub count_marked : (mark : Bool) (xs : List Entry) (i : ℕ) (x y : Entry) → i < length xs → x ≡ slice_index_or xs i x → y ≡ slice_index_or (mark_at_index mark i xs) i y → visible_count (mark_at_index mark i xs) + visible_count (x ∷ []) ≡ visible_count xs + visible_count (y ∷ [])
count_marked mark xs i x y w old new = grind (arith, length_marked, count_remove, remove_marked)

-- ---- by index

slice_front : (xs ys : List Identifier) (k : ℕ) → k < length xs → slice_get (xs ++ ys) k ≡ slice_get xs k
slice_front [] ys k w = absurd (omega arith)
slice_front (x ∷ xs) ys zero w = refl
slice_front (x ∷ xs) ys (suc k) w = slice_front xs ys k (omega arith)

pub slice_back : (xs ys : List Identifier) (k j : ℕ) → k ≡ length xs + j → slice_get (xs ++ ys) k ≡ slice_get ys j
slice_back [] ys k j e = let same : k ≡ j = omega arith in ap (slice_get ys) same
slice_back (x ∷ xs) ys zero j e = absurd (omega arith)
slice_back (x ∷ xs) ys (suc k) j e = slice_back xs ys k j (omega arith)

-- the rest of the blocks from one on
pub rest_of : (bs : Blocks) (i : ℕ) (b : List Entry) → i < length bs → b ≡ slice_index_or bs i b → flat (drop i bs) ≡ b ++ flat (drop (i + 1) bs)
rest_of bs i b w is = ap flat (drop_more bs i b w) ∙ ap (λ x. x ++ flat (drop (i + 1) bs)) (sym is)

pub element_here : (bs : Blocks) (i k : ℕ) (b : List Entry) → i < length bs → b ≡ slice_index_or bs i b → k < visible_count b → slice_get (visible_ids (flat (drop i bs))) k ≡ slice_get (visible_ids b) k
element_here bs i k b w is h =
    let few : k < length (visible_ids b) = omega (arith, h, count_ids b) in
    ap (λ xs. slice_get (visible_ids xs) k) (rest_of bs i b w is)
    ∙ ap (λ xs. slice_get xs k) (ids_both b (flat (drop (i + 1) bs)))
    ∙ slice_front (visible_ids b) (visible_ids (flat (drop (i + 1) bs))) k few

pub element_later : (bs : Blocks) (i k j : ℕ) (b : List Entry) → i < length bs → b ≡ slice_index_or bs i b → k ≡ visible_count b + j → slice_get (visible_ids (flat (drop (i + 1) bs))) j ≡ slice_get (visible_ids (flat (drop i bs))) k
element_later bs i k j b w is h =
    sym (ap (λ xs. slice_get (visible_ids xs) k) (rest_of bs i b w is)
    ∙ ap (λ xs. slice_get xs k) (ids_both b (flat (drop (i + 1) bs)))
    ∙ slice_back (visible_ids b) (visible_ids (flat (drop (i + 1) bs))) k j (h ∙ ap (λ n. n + j) (sym (count_ids b))))

-- ---- a range

pub none_left : (lo hi : ℕ) (xs : List Identifier) → hi ≤ lo → drop lo (take hi xs) ≡ []
none_left lo hi xs h = drop_all lo (take hi xs) (omega (arith, length-take hi xs, h))

pub range_none : (xs : List Identifier) (lo hi : ℕ) → length xs ≤ lo → drop lo (take hi xs) ≡ []
range_none xs lo hi h = drop_all lo (take hi xs) (omega (arith, length-take hi xs, h))

pub range_both : (xs ys : List Identifier) (lo hi lo_left hi_left : ℕ) → lo_left ≡ lo - length xs → hi_left ≡ hi - length xs → drop lo (take hi (xs ++ ys)) ≡ drop lo (take hi xs) ++ drop lo_left (take hi_left ys)
range_both [] ys lo hi lo_left hi_left e f = grind (arith, range_none)
range_both (x ∷ xs) ys lo zero lo_left hi_left e f = grind (arith, append-nil, none_left)
range_both (x ∷ xs) ys zero (suc hi) lo_left hi_left e f =
    ap (λ r. x ∷ r) (range_both xs ys zero hi lo_left hi_left (omega arith) (omega arith))
range_both (x ∷ xs) ys (suc lo) (suc hi) lo_left hi_left e f = range_both xs ys lo hi lo_left hi_left (omega arith) (omega arith)

pub ids_range : (xs : List Entry) (lo hi end : ℕ) → lo ≤ end → end ≡ min hi (length xs) → ids (take (end - lo) (drop lo xs)) ≡ drop lo (take hi (ids xs))
ids_range xs lo hi end h e =
    sym (ap (take (end - lo)) (drop-map (λ (x : Entry). x.id) lo xs) ∙ take-map (λ (x : Entry). x.id) (end - lo) (drop lo xs))
    ∙ sym (drop-take lo (end - lo) (ids xs))
    ∙ ap (λ n. drop lo (take n (ids xs))) (up lo end h ∙ e ∙ ap (min hi) (sym (length-map xs (λ (x : Entry). x.id))))
    ∙ ap (drop lo) (take_min hi (ids xs))
  where
    up : (i n : ℕ) → i ≤ n → i + (n - i) ≡ n
    up i n w = omega arith

-- ---- before a place

pub count_one_more : (bs : Blocks) (i : ℕ) (b : List Entry) → i < length bs → b ≡ slice_index_or bs i b → visible_count (flat (take (i + 1) bs)) ≡ visible_count (flat (take i bs)) + visible_count b
count_one_more bs i b w is =
    let more : flat (take (i + 1) bs) ≡ flat (take i bs) ++ (b ++ []) = ap flat (take_more bs i b w ∙ ap (λ x. take i bs ++ x ∷ []) (sym is)) ∙ flat_both (take i bs) (b ∷ []) in
    omega (arith, ap visible_count more, count_both (flat (take i bs)) (b ++ []), ap visible_count (append-nil b))

pub count_before : (bs : Blocks) (b i : ℕ) (x : List Entry) → x ≡ slice_index_or bs b x → b < length bs → visible_count (before bs b i) ≡ visible_count (flat (take b bs)) + visible_count (take i x)
count_before bs b i x is w =
    ap visible_count (before_is bs b i x w ∙ ap (λ y. flat (take b bs) ++ take i y) (sym is))
    ∙ count_both (flat (take b bs)) (take i x)

-- a beginning has no more than all
pub count_beginning : (bs : Blocks) (i : ℕ) → visible_count (flat (take i bs)) ≤ length (flat bs)
count_beginning bs i =
    let whole : length (flat (take i bs) ++ flat (drop i bs)) ≡ length (flat bs) = ap length (sym (flat_both (take i bs) (drop i bs)) ∙ ap flat (take-append-drop i bs)) in
    omega (arith, whole, count_within (flat (take i bs)), length-append (flat (take i bs)) (flat (drop i bs)))
