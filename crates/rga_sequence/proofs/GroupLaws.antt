-- What is noted of groups of blocks: how it stays where blocks change, and what is counted by it.
use Rattle.std.proofs.Common.{inl, inr, ◌≡◌, ℕ, suc, zero, ◌+◌, ◌-◌, ◌*◌, ◌≤◌, ◌<◌, List, [], ◌∷◌, ◌++◌, length, take, drop, slice_index_or, refl, sym, ap, ◌∙◌, subst, arith, length-append, add-one}
use Rattle.std.specs.Prelude.{insert, remove, slice_get, slice_set, sum}
use Rattle.rga_ops.specs.Identifier.{Identifier}
use Rattle.std.proofs.lemmas.List.{get_or_default, get_or_append_left, get_or_push, take_at, length-set, length-take, length-take-le, take-append-drop, take-take, take-set-le, get_or-take, get_or-set_same, get_or-set_other}
use Rattle.std.proofs.lemmas.Bool.{cases_eq, cases_order}
use Rattle.std.proofs.lemmas.List.Sums.{sum_by_more}
use Rattle.rga_sequence.specs.declared.entry.Entry.{Entry}
use Rattle.rga_sequence.specs.declared.groups.TheConstants.{GROUP}
use Rattle.rga_sequence.specs.Entries.{visible_count, visible_ids}
use Rattle.rga_sequence.specs.Blocks.{Blocks, flat, cut_in, AreNotes, IsCount, AreCounts}
use Rattle.rga_pages.proofs.PartLaws.{flat_both}
use Rattle.rga_sequence.proofs.CountLaws.{count_both, count_ids, count_one_more, ids_both, slice_back, range_both, range_none}

-- ---- blocks that come or go stand behind a beginning that stays

pub take_insert : (bs : Blocks) (b : ℕ) (y : List Entry) → b ≤ length bs → take b (insert bs b y) ≡ take b bs
take_insert bs b y w = take_at (take b bs) (y ∷ drop b bs) b (length-take-le b bs w)

pub take_remove : (bs : Blocks) (b : ℕ) → take b (remove bs b) ≡ take b bs
take_remove bs zero = refl
take_remove [] (suc b) = refl
take_remove (x ∷ bs) (suc b) = ap (λ r. x ∷ r) (take_remove bs b)

pub take_cut : (bs : Blocks) (b cut : ℕ) → take b (cut_in bs b cut) ≡ take b bs
take_cut bs zero cut = refl
take_cut [] (suc b) cut = refl
take_cut (x ∷ bs) (suc b) cut = ap (λ r. x ∷ r) (take_cut bs b cut)

take_sooner : (bs cs : Blocks) (n b : ℕ) → n ≤ b → take b cs ≡ take b bs → take n cs ≡ take n bs
take_sooner bs cs n b h same = sym (take-take n b cs h) ∙ ap (take n) same ∙ take-take n b bs h

-- ---- notes change

pub taken_early : {A : Type 0} (n b : ℕ) (xs : List A) → n * GROUP ≤ b → length (take n xs) * GROUP ≤ b
taken_early n b xs h = omega (arith, length-take n xs, h)

pub notes_taken : {A : Type 0} (IsNoted : A → ℕ → ℕ → Blocks → Type 0) (n : ℕ) (notes : List A) (bs : Blocks) → AreNotes IsNoted notes bs → AreNotes IsNoted (take n notes) bs
notes_taken IsNoted n notes bs all k d w = grind (arith, length-take, get_or-take)

pub notes_more : {A : Type 0} (IsNoted : A → ℕ → ℕ → Blocks → Type 0) (notes : List A) (x : A) (bs : Blocks) → AreNotes IsNoted notes bs → IsNoted x (length notes * GROUP) (length notes * GROUP + GROUP) bs → AreNotes IsNoted (notes ++ x ∷ []) bs
notes_more {A} IsNoted notes x bs all one k d w = grind (arith, cases_eq, get_or_push, length-append, get_or_append_left)

-- ---- counts

-- those before a block, and those in the blocks from there on
count_part : (bs : Blocks) (lo hi : ℕ) → lo ≤ hi → visible_count (flat (take hi bs)) ≡ visible_count (flat (take lo bs)) + visible_count (flat (drop lo (take hi bs)))
count_part bs lo hi h =
    ap (λ xs. visible_count (flat xs)) (sym (take-append-drop lo (take hi bs)) ∙ ap (λ x. x ++ drop lo (take hi bs)) (take-take lo hi bs h))
    ∙ ap visible_count (flat_both (take lo bs) (drop lo (take hi bs)))
    ∙ count_both (flat (take lo bs)) (flat (drop lo (take hi bs)))

pub is_count : (bs : Blocks) (n lo hi : ℕ) → lo ≤ hi → visible_count (flat (take hi bs)) ≡ visible_count (flat (take lo bs)) + n → IsCount n lo hi bs
is_count bs n lo hi h e = omega (arith, count_part bs lo hi h, e)

count_at : (counts : List ℕ) (bs : Blocks) (k d : ℕ) → AreCounts counts bs → k < length counts → visible_count (flat (take (k * GROUP + GROUP) bs)) ≡ visible_count (flat (take (k * GROUP) bs)) + slice_index_or counts k d
count_at counts bs k d all w = grind (arith, count_part)

pub counts_taken : (n : ℕ) (counts : List ℕ) (bs : Blocks) → AreCounts counts bs → AreCounts (take n counts) bs
counts_taken n counts bs all =
    record { whole = omega (arith, length-take n counts, all.whole); counted = notes_taken IsCount n counts bs all.counted }

-- the groups that end before a block
pub counts_below : (counts : List ℕ) (bs cs : Blocks) (b : ℕ) → AreCounts counts bs → length counts * GROUP ≤ b → b ≤ length bs → take b cs ≡ take b bs → AreCounts counts cs
counts_below counts bs cs b all early w same =
    let long : length (take b cs) ≡ b = ap length same ∙ length-take-le b bs w in
    record {
      whole = omega (arith, long, length-take b cs, early);
      counted = λ k d v.
          let within : k * GROUP + GROUP ≤ b = omega (arith, early, v) in
          all.counted k d v ∙ ap (λ xs. visible_count (flat (drop (k * GROUP) xs))) (sym (take_sooner bs cs (k * GROUP + GROUP) b within same));
    }

-- a block changes behind the groups that are counted
pub counts_aside : (counts : List ℕ) (bs : Blocks) (b : ℕ) (y : List Entry) → AreCounts counts bs → length counts * GROUP ≤ b → AreCounts counts (slice_set bs b y)
counts_aside counts bs b y all h =
    counts_below counts bs (slice_set bs b y) (length counts * GROUP) all (omega arith) all.whole (take-set-le (length counts * GROUP) bs b y h)

-- a block changes in a group that is counted
count_set : (bs : Blocks) (b j : ℕ) (y : List Entry) → b < j → b < length bs → visible_count (flat (take j (slice_set bs b y))) + visible_count (slice_index_or bs b []) ≡ visible_count (flat (take j bs)) + visible_count y
count_set [] b j y h w = absurd (omega arith)
count_set (x ∷ bs) b zero y h w = absurd (omega arith)
count_set (x ∷ bs) zero (suc j) y h w = grind (arith, count_both)
count_set (x ∷ bs) (suc b) (suc j) y h w = grind (arith, count_both, count_set bs b j y (omega arith) (omega arith))

pub counts_set : (counts : List ℕ) (bs : Blocks) (b g n v : ℕ) (y : List Entry) → AreCounts counts bs → g < length counts → g * GROUP ≤ b → b < g * GROUP + GROUP → n + visible_count (slice_index_or bs b []) ≡ slice_index_or counts g v + visible_count y → AreCounts (slice_set counts g n) (slice_set bs b y)
counts_set counts bs b g n v y all h first last e =
    let within : b < length bs = omega (arith, all.whole, h, last) in
    record {
      whole = omega (arith, length-set counts g n, length-set bs b y, all.whole);
      counted = λ k d w.
          let there : k < length counts = subst (λ m. k < m) (length-set counts g n) w in
          elim (cases_order g k) [
            | inl same ↦ subst (λ m. IsCount (slice_index_or (slice_set counts g n) m d) (m * GROUP) (m * GROUP + GROUP) (slice_set bs b y)) same (here within d)
            | inr apart ↦ elim apart [ inl more ↦ behind within k d there more | inr less ↦ before k d there less ]
          ];
    }
  where
    before : (k d : ℕ) → k < length counts → k < g → IsCount (slice_index_or (slice_set counts g n) k d) (k * GROUP) (k * GROUP + GROUP) (slice_set bs b y)
    before k d w less =
        let sooner : k * GROUP + GROUP ≤ b = omega (arith, first, less) in
        get_or-set_other counts g k n d (λ q. absurd (omega (arith, q, less)))
        ∙ all.counted k d w
        ∙ ap (λ xs. visible_count (flat (drop (k * GROUP) xs))) (sym (take-set-le (k * GROUP + GROUP) bs b y sooner))

    behind : b < length bs → (k d : ℕ) → k < length counts → g < k → IsCount (slice_index_or (slice_set counts g n) k d) (k * GROUP) (k * GROUP + GROUP) (slice_set bs b y)
    behind within k d w more =
        let lo : visible_count (flat (take (k * GROUP) (slice_set bs b y))) + visible_count (slice_index_or bs b []) ≡ visible_count (flat (take (k * GROUP) bs)) + visible_count y = count_set bs b (k * GROUP) y (omega (arith, last, more)) within in
        let hi : visible_count (flat (take (k * GROUP + GROUP) (slice_set bs b y))) + visible_count (slice_index_or bs b []) ≡ visible_count (flat (take (k * GROUP + GROUP) bs)) + visible_count y = count_set bs b (k * GROUP + GROUP) y (omega (arith, last, more)) within in
        get_or-set_other counts g k n d (λ q. absurd (omega (arith, q, more)))
        ∙ is_count (slice_set bs b y) (slice_index_or counts k d) (k * GROUP) (k * GROUP + GROUP) (omega arith) (omega (arith, lo, hi, count_at counts bs k d all w))

    here : b < length bs → (d : ℕ) → IsCount (slice_index_or (slice_set counts g n) g d) (g * GROUP) (g * GROUP + GROUP) (slice_set bs b y)
    here within d =
        let lo : visible_count (flat (take (g * GROUP) (slice_set bs b y))) ≡ visible_count (flat (take (g * GROUP) bs)) = ap (λ xs. visible_count (flat xs)) (take-set-le (g * GROUP) bs b y first) in
        let hi : visible_count (flat (take (g * GROUP + GROUP) (slice_set bs b y))) + visible_count (slice_index_or bs b []) ≡ visible_count (flat (take (g * GROUP + GROUP) bs)) + visible_count y = count_set bs b (g * GROUP + GROUP) y last within in
        get_or-set_same counts g n d h
        ∙ is_count (slice_set bs b y) n (g * GROUP) (g * GROUP + GROUP) (omega arith) (omega (arith, lo, hi, e, count_at counts bs g v all h))

-- a block has no more than its group
pub count_of_block : (counts : List ℕ) (bs : Blocks) (b g d : ℕ) → AreCounts counts bs → g < length counts → g * GROUP ≤ b → b < g * GROUP + GROUP → visible_count (slice_index_or bs b []) ≤ slice_index_or counts g d
count_of_block counts bs b g d all v first last =
    let within : b < length bs = omega (arith, all.whole, v, last) in
    omega (arith, count_at counts bs g d all v, count_part bs (g * GROUP) b first, count_one_more bs b (slice_index_or bs b []) within (is_block within), count_part bs (b + 1) (g * GROUP + GROUP) (omega (arith, last)))
  where
    is_block : b < length bs → slice_index_or bs b [] ≡ slice_index_or bs b (slice_index_or bs b [])
    is_block w = get_or_default bs b [] (slice_index_or bs b []) w

-- the first groups have as many as are counted
pub sum_counts : (counts : List ℕ) (bs : Blocks) (g : ℕ) → AreCounts counts bs → g ≤ length counts → sum (take g counts) ≡ visible_count (flat (take (g * GROUP) bs))
sum_counts counts bs zero all w = refl
sum_counts counts bs (suc g) all w =
    let within : g < length counts = omega (arith, w) in
    let sooner : sum (take g counts) ≡ visible_count (flat (take (g * GROUP) bs)) = sum_counts counts bs g all (omega (arith, w)) in
    ap (λ n. sum (take n counts)) (sym (add-one g))
    ∙ sum_by_more (λ n. n) counts g 0 within
    ∙ ap (λ n. n + slice_index_or counts g 0) sooner
    ∙ sym (count_at counts bs g 0 all within)
    ∙ ap (λ n. visible_count (flat (take n bs))) (next g)
  where
    next : (n : ℕ) → n * GROUP + GROUP ≡ suc n * GROUP
    next n = omega arith

-- ---- what is visible behind the groups that are counted

ids_parts : (bs : Blocks) (n : ℕ) → visible_ids (flat bs) ≡ visible_ids (flat (take n bs)) ++ visible_ids (flat (drop n bs))
ids_parts bs n =
    ap (λ xs. visible_ids (flat xs)) (sym (take-append-drop n bs))
    ∙ ap visible_ids (flat_both (take n bs) (drop n bs))
    ∙ ids_both (flat (take n bs)) (flat (drop n bs))

sum_ids : (counts : List ℕ) (bs : Blocks) (g : ℕ) → AreCounts counts bs → g ≤ length counts → length (visible_ids (flat (take (g * GROUP) bs))) ≡ sum (take g counts)
sum_ids counts bs g all w = count_ids (flat (take (g * GROUP) bs)) ∙ sym (sum_counts counts bs g all w)

pub element_behind : (counts : List ℕ) (bs : Blocks) (g rest k : ℕ) → AreCounts counts bs → g ≤ length counts → sum (take g counts) + rest ≡ k → slice_get (visible_ids (flat (drop (g * GROUP) bs))) rest ≡ slice_get (visible_ids (flat bs)) k
element_behind counts bs g rest k all w e =
    sym (ap (λ xs. slice_get xs k) (ids_parts bs (g * GROUP))
    ∙ slice_back (visible_ids (flat (take (g * GROUP) bs))) (visible_ids (flat (drop (g * GROUP) bs))) k rest (omega (arith, e, sum_ids counts bs g all w)))

pub range_behind : (counts : List ℕ) (bs : Blocks) (g rest lo hi : ℕ) → AreCounts counts bs → g ≤ length counts → sum (take g counts) + rest ≡ lo → drop rest (take (hi - (lo - rest)) (visible_ids (flat (drop (g * GROUP) bs)))) ≡ drop lo (take hi (visible_ids (flat bs)))
range_behind counts bs g rest lo hi all w e =
    let xs : List Identifier = visible_ids (flat (take (g * GROUP) bs)) in
    let ys : List Identifier = visible_ids (flat (drop (g * GROUP) bs)) in
    let long : length xs + rest ≡ lo = omega (arith, e, sum_ids counts bs g all w) in
    sym (ap (λ zs. drop lo (take hi zs)) (ids_parts bs (g * GROUP))
    ∙ range_both xs ys lo hi rest (hi - (lo - rest)) (omega (arith, long)) (omega (arith, long))
    ∙ ap (λ zs. zs ++ drop rest (take (hi - (lo - rest)) ys)) (range_none xs lo hi (omega (arith, long))))
