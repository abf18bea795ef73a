-- Places in a list in blocks.
use Rattle.std.proofs.lemmas.Bool.Decides.{nat_tests}
use Rattle.std.proofs.Common.{nat_lt, true, false, subst, ◌≡◌, ℕ, ◌+◌, ◌-◌, ◌<◌, ◌≤◌, suc, zero, List, [], ◌∷◌, ◌++◌, length, take, drop, slice_index_or, refl, sym, ap, ◌∙◌, append_assoc, arith, add-one}
use Rattle.std.proofs.lemmas.List.{append-nil, take-take, drop-drop, drop_all, take_all, length-take, length-drop}
use Rattle.rga_pages.proofs.PartLaws.{index_within}
use Rattle.rga_sequence.specs.declared.entry.Entry.{Entry}
use Rattle.rga_sequence.specs.Entries.{put_entry_past_larger}
use Rattle.rga_sequence.specs.Blocks.{Blocks, flat, before, behind, IsPlace, larger_at_front, cut_in}
use Rattle.rga_sequence.proofs.ListLaws.{drop_early, take_both, passed, stopped}

pub block_within : (bs : Blocks) (b i : ℕ) → IsPlace bs b i → b < length bs
block_within [] b i h = absurd h
block_within (x ∷ xs) zero i h = omega arith
block_within (x ∷ xs) (suc b) i h = let rest : b < length xs = block_within xs b i h in omega arith

-- ---- entries come in

-- ---- a block becomes two

pub early_place : (bs : Blocks) (b i cut : ℕ) → IsPlace bs b i → IsPlace bs b cut → i ≤ cut → IsPlace (cut_in bs b cut) b i
early_place [] b i cut p q h = absurd p
early_place (x ∷ xs) zero i cut p q h = omega (arith, length-take cut x, p, h)
early_place (x ∷ xs) (suc b) i cut p q h = early_place xs b i cut p q h

pub early_before : (bs : Blocks) (b i cut : ℕ) → i ≤ cut → before (cut_in bs b cut) b i ≡ before bs b i
early_before [] b i cut h = refl
early_before (x ∷ xs) zero i cut h = take-take i cut x h
early_before (x ∷ xs) (suc b) i cut h = ap (λ r. x ++ r) (early_before xs b i cut h)

pub early_behind : (bs : Blocks) (b i cut : ℕ) → i ≤ cut → behind (cut_in bs b cut) b i ≡ behind bs b i
early_behind [] b i cut h = refl
early_behind (x ∷ xs) zero i cut h = sym (append_assoc (drop i (take cut x)) (drop cut x) (flat xs)) ∙ ap (λ r. r ++ flat xs) (drop_early i cut x h)
early_behind (x ∷ xs) (suc b) i cut h = early_behind xs b i cut h

sum_back : (i cut : ℕ) → cut ≤ i → cut + (i - cut) ≡ i
sum_back i cut h = omega arith

pub late_place : (bs : Blocks) (b i cut : ℕ) → IsPlace bs b i → cut ≤ i → IsPlace (cut_in bs b cut) (suc b) (i - cut)
late_place [] b i cut p h = absurd p
late_place (x ∷ xs) zero i cut p h = omega (arith, length-drop cut x)
late_place (x ∷ xs) (suc b) i cut p h = late_place xs b i cut p h

pub late_before : (bs : Blocks) (b i cut : ℕ) → cut ≤ i → IsPlace bs b i → before (cut_in bs b cut) (suc b) (i - cut) ≡ before bs b i
late_before [] b i cut h p = absurd p
late_before (x ∷ xs) zero i cut h p = take_both cut (i - cut) x ∙ ap (λ n. take n x) (sum_back i cut h)
late_before (x ∷ xs) (suc b) i cut h p = ap (λ r. x ++ r) (late_before xs b i cut h p)

pub late_behind : (bs : Blocks) (b i cut : ℕ) → cut ≤ i → IsPlace bs b i → behind (cut_in bs b cut) (suc b) (i - cut) ≡ behind bs b i
late_behind [] b i cut h p = absurd p
late_behind (x ∷ xs) zero i cut h p = ap (λ r. r ++ flat xs) (drop-drop (i - cut) cut x ∙ ap (λ n. drop n x) (sum_back i cut h))
late_behind (x ∷ xs) (suc b) i cut h p = late_behind xs b i cut h p

-- ---- past the larger ones

pub past : (bs : Blocks) (b i : ℕ) (entry : Entry) (d : List Entry) → IsPlace bs b i → (j : ℕ) → j ≡ i + larger_at_front entry.id (drop i (slice_index_or bs b d)) → before bs b i ++ put_entry_past_larger entry (behind bs b i) ≡ before bs b j ++ put_entry_past_larger entry (behind bs b j)
past [] b i entry d p j e = absurd p
past (x ∷ xs) zero i entry d p j e =
    let n : ℕ = larger_at_front entry.id (drop i x) in
    ap (λ r. take i x ++ r) (passed entry (drop i x) (flat xs))
    ∙ sym (append_assoc (take i x) (take n (drop i x)) (put_entry_past_larger entry (drop n (drop i x) ++ flat xs)))
    ∙ (λ k. take_both i n x k ++ put_entry_past_larger entry (drop-drop n i x k ++ flat xs))
    ∙ ap (λ m. take m x ++ put_entry_past_larger entry (drop m x ++ flat xs)) (sym e)
past (x ∷ xs) (suc b) i entry d p j e = grind (arith, append_assoc, past xs b i entry d p j e)

pub stops : (bs : Blocks) (b i : ℕ) (entry : Entry) (d : List Entry) → IsPlace bs b i → (j : ℕ) → j ≡ i + larger_at_front entry.id (drop i (slice_index_or bs b d)) → j < length (slice_index_or bs b d) → put_entry_past_larger entry (behind bs b j) ≡ entry ∷ behind bs b j
stops [] b i entry d p j e w = absurd p
stops (x ∷ xs) zero i entry d p j e w =
    let n : ℕ = larger_at_front entry.id (drop i x) in
    let whole : i + length (drop i x) ≡ length x = omega (arith, length-drop i x, p) in
    let here : drop n (drop i x) ≡ drop j x = drop-drop n i x ∙ ap (λ m. drop m x) (sym e) in
    ap (λ y. put_entry_past_larger entry (y ++ flat xs)) (sym here)
    ∙ stopped entry (drop i x) (flat xs) (omega arith)
    ∙ ap (λ y. entry ∷ y ++ flat xs) here
stops (x ∷ xs) (suc b) i entry d p j e w = stops xs b i entry d p j e w

-- the end of a block is the front of the next
pub next_before : (bs : Blocks) (b : ℕ) (d : List Entry) → suc b < length bs → before bs b (length (slice_index_or bs b d)) ≡ before bs (suc b) 0
next_before [] b d w = absurd (omega arith)
next_before (x ∷ []) zero d w = absurd (omega arith)
next_before (x ∷ y ∷ xs) zero d w = take_all (length x) x (omega arith) ∙ sym (append-nil x)
next_before (x ∷ xs) (suc b) d w = ap (λ r. x ++ r) (next_before xs b d (omega arith))

pub next_behind : (bs : Blocks) (b : ℕ) (d : List Entry) → suc b < length bs → behind bs b (length (slice_index_or bs b d)) ≡ behind bs (suc b) 0
next_behind [] b d w = absurd (omega arith)
next_behind (x ∷ []) zero d w = absurd (omega arith)
next_behind (x ∷ y ∷ xs) zero d w = ap (λ r. r ++ (y ++ flat xs)) (drop_all (length x) x (omega arith))
next_behind (x ∷ xs) (suc b) d w = next_behind xs b d (omega arith)

-- the end of the last block is the end
pub end_behind : (bs : Blocks) (b : ℕ) (d : List Entry) → suc b ≡ length bs → behind bs b (length (slice_index_or bs b d)) ≡ []
end_behind [] b d w = refl
end_behind (x ∷ []) zero d w = ap (λ r. r ++ []) (drop_all (length x) x (omega arith))
end_behind (x ∷ y ∷ xs) zero d w = absurd (omega arith)
end_behind (x ∷ xs) (suc b) d w = end_behind xs b d (omega arith)

pub other_place : (bs : Blocks) (b i j : ℕ) (d : List Entry) → IsPlace bs b i → j ≤ length (slice_index_or bs b d) → IsPlace bs b j
other_place [] b i j d h w = absurd h
other_place (x ∷ xs) zero i j d h w = w
other_place (x ∷ xs) (suc b) i j d h w = other_place xs b i j d h w

pub front_place : (bs : Blocks) (b : ℕ) → b < length bs → IsPlace bs b 0
front_place [] b w = absurd (omega arith)
front_place (x ∷ xs) zero w = omega arith
front_place (x ∷ xs) (suc b) w = front_place xs b (omega arith)

-- ---- with numbers as code has them

pub lt_so : (a b : ℕ) → nat_lt a b ≡ true → a < b
lt_so a b h = grind (arith, nat_tests)

pub le_so : (a b : ℕ) → nat_lt a b ≡ false → b ≤ a
le_so a b h = grind (arith, nat_tests)

full : (bs : Blocks) (b i : ℕ) (d : List Entry) → IsPlace bs b i → length (slice_index_or bs b d) ≤ i → i ≡ length (slice_index_or bs b d)
full bs b i d p h = let most : i ≤ length (slice_index_or bs b d) = index_within bs b i d p in omega arith

pub on_before : (bs : Blocks) (b i : ℕ) (d : List Entry) → IsPlace bs b i → length (slice_index_or bs b d) ≤ i → b + 1 < length bs → before bs b i ≡ before bs (b + 1) 0
on_before bs b i d p h w = ap (λ n. before bs b n) (full bs b i d p h) ∙ next_before bs b d (omega arith) ∙ ap (λ n. before bs n 0) (sym (add-one b))

pub on_behind : (bs : Blocks) (b i : ℕ) (d : List Entry) → IsPlace bs b i → length (slice_index_or bs b d) ≤ i → b + 1 < length bs → behind bs b i ≡ behind bs (b + 1) 0
on_behind bs b i d p h w = ap (λ n. behind bs b n) (full bs b i d p h) ∙ next_behind bs b d (omega arith) ∙ ap (λ n. behind bs n 0) (sym (add-one b))

pub at_end : (bs : Blocks) (b i : ℕ) (d : List Entry) (entry : Entry) → IsPlace bs b i → length (slice_index_or bs b d) ≤ i → b < length bs → length bs ≤ b + 1 → put_entry_past_larger entry (behind bs b i) ≡ entry ∷ behind bs b i
at_end bs b i d entry p h w e = grind (arith, full, end_behind)

-- the front of a block is the end of the one before it
pub back_before : (bs : Blocks) (b c i j : ℕ) (d : List Entry) → suc b ≡ c → j ≡ 0 → i ≡ length (slice_index_or bs b d) → c < length bs → before bs b i ≡ before bs c j
back_before bs b c i j d next front end w =
    ap (λ n. before bs b n) end ∙ next_before bs b d (omega (arith, next, w)) ∙ ap (λ n. before bs n 0) next ∙ ap (λ n. before bs c n) (sym front)

pub back_behind : (bs : Blocks) (b c i j : ℕ) (d : List Entry) → suc b ≡ c → j ≡ 0 → i ≡ length (slice_index_or bs b d) → c < length bs → behind bs b i ≡ behind bs c j
back_behind bs b c i j d next front end w =
    ap (λ n. behind bs b n) end ∙ next_behind bs b d (omega (arith, next, w)) ∙ ap (λ n. behind bs n 0) next ∙ ap (λ n. behind bs c n) (sym front)

pub moved_place : (bs : Blocks) (b i cut : ℕ) → IsPlace bs b i → cut ≤ i → IsPlace (cut_in bs b cut) (b + 1) (i - cut)
moved_place bs b i cut p h = subst (λ n. IsPlace (cut_in bs b cut) n (i - cut)) (sym (add-one b)) (late_place bs b i cut p h)

pub moved_before : (bs : Blocks) (b i cut : ℕ) → cut ≤ i → IsPlace bs b i → before (cut_in bs b cut) (b + 1) (i - cut) ≡ before bs b i
moved_before bs b i cut h p = ap (λ n. before (cut_in bs b cut) n (i - cut)) (add-one b) ∙ late_before bs b i cut h p

pub moved_behind : (bs : Blocks) (b i cut : ℕ) → cut ≤ i → IsPlace bs b i → behind (cut_in bs b cut) (b + 1) (i - cut) ≡ behind bs b i
moved_behind bs b i cut h p = ap (λ n. behind (cut_in bs b cut) n (i - cut)) (add-one b) ∙ late_behind bs b i cut h p
