-- Bounds of groups of blocks: how they stay, and what is passed by them.
use Rattle.std.proofs.Common.{rules, ◌≡◌, ℕ, suc, zero, false, true, ◌+◌, ◌*◌, ◌≤◌, ◌<◌, List, [], ◌∷◌, ◌++◌, length, take, slice_index_or, refl, sym, ap, ◌∙◌, subst, arith}
use Rattle.std.specs.Prelude.{slice_set}
use Rattle.std.specs.Ordering.{is_gt}
use Rattle.std.proofs.lemmas.Bool.{cases_eq}
use Rattle.std.proofs.lemmas.List.{length-set, get_or-set_same, get_or-take}
use Rattle.rga_ops.specs.Identifier.{Identifier, id_cmp}
use Rattle.rga_sequence.specs.declared.entry.Entry.{Entry}
use Rattle.rga_sequence.specs.declared.groups.TheConstants.{GROUP}
use Rattle.rga_sequence.specs.Entries.{put_entry_past_larger}
use Rattle.rga_sequence.specs.Blocks.{Blocks, larger_at_front, insert_all, AreFrom, Passes, AreBlocksFrom, AreLarger, AreBounds, IsLow}
use Rattle.rga_sequence.proofs.PlaceLaws.{past, front_place, next_before, next_behind}
use Rattle.rga_sequence.proofs.BlockLaws.{all_larger, itself, lesser_from, from_put}

-- ---- blocks change

-- what holds of a block, of each or of the one that is set
set_at : (P : List Entry → Type 0) (bs : Blocks) (b i : ℕ) (y : List Entry) → P (slice_index_or bs i []) → (i ≡ b → P y) → P (slice_index_or (slice_set bs b y) i [])
set_at P [] b i y h k = h
set_at P (x ∷ bs) zero zero y h k = k refl
set_at P (x ∷ bs) zero (suc i) y h k = h
set_at P (x ∷ bs) (suc b) zero y h k = h
set_at P (x ∷ bs) (suc b) (suc i) y h k = set_at P bs b i y h (λ e. k (ap (λ n. suc n) e))

pub bounds_set : (bounds : List Identifier) (bs : Blocks) (b : ℕ) (y : List Entry) → AreBounds bounds bs → ((k : ℕ) (d : Identifier) → k < length bounds → k * GROUP ≤ b → b < k * GROUP + GROUP → AreFrom (slice_index_or bounds k d) (slice_index_or bs b []) → AreFrom (slice_index_or bounds k d) y) → AreBounds bounds (slice_set bs b y)
bounds_set bounds bs b y all on k d w i lo hi =
    set_at (AreFrom (slice_index_or bounds k d)) bs b i y (all k d w i lo hi)
    (λ e. on k d w (subst (λ n. k * GROUP ≤ n) e lo) (subst (λ n. n < k * GROUP + GROUP) e hi) (subst (λ n. AreFrom (slice_index_or bounds k d) (slice_index_or bs n [])) e (all k d w i lo hi)))

pub bounds_put : (bounds : List Identifier) (bs : Blocks) (b i : ℕ) (least : Identifier) (es : List Entry) → AreBounds bounds bs → AreFrom least es → IsLow bounds b least → AreBounds bounds (slice_set bs b (insert_all (slice_index_or bs b []) i es))
bounds_put bounds bs b i least es all above low = search (rules, bounds_set, from_put, lesser_from)

-- ---- blocks come and go behind the groups

pub bounds_below : (bounds : List Identifier) (bs cs : Blocks) (b : ℕ) → AreBounds bounds bs → length bounds * GROUP ≤ b → take b cs ≡ take b bs → AreBounds bounds cs
bounds_below bounds bs cs b all early same k d w i lo hi =
    let within : i < b = omega (arith, early, w, hi) in
    let there : slice_index_or cs i [] ≡ slice_index_or bs i [] = sym (get_or-take b cs i [] within) ∙ ap (λ xs. slice_index_or xs i []) same ∙ get_or-take b bs i [] within in
    subst (AreFrom (slice_index_or bounds k d)) (sym there) (all k d w i lo hi)

-- ---- bounds change

low_set : (bounds : List Identifier) (g k : ℕ) (l d e : Identifier) → is_gt (id_cmp l (slice_index_or bounds g d)) ≡ false → is_gt (id_cmp (slice_index_or (slice_set bounds g l) k e) (slice_index_or bounds k e)) ≡ false
low_set [] g k l d e h = itself (slice_index_or [] k e)
low_set (x ∷ xs) zero zero l d e h = h
low_set (x ∷ xs) zero (suc k) l d e h = itself (slice_index_or xs k e)
low_set (x ∷ xs) (suc g) zero l d e h = itself x
low_set (x ∷ xs) (suc g) (suc k) l d e h = low_set xs g k l d e h

pub bounds_lowered : (bounds : List Identifier) (g : ℕ) (l d : Identifier) (bs : Blocks) → is_gt (id_cmp l (slice_index_or bounds g d)) ≡ false → AreBounds bounds bs → AreBounds (slice_set bounds g l) bs
bounds_lowered bounds g l d bs h all k e w i lo hi =
    lesser_from (slice_index_or bounds k e) (slice_index_or (slice_set bounds g l) k e) (slice_index_or bs i []) (low_set bounds g k l d e h)
    (all k e (subst (λ n. k < n) (length-set bounds g l) w) i lo hi)

pub is_low : (bounds : List Identifier) (g block : ℕ) (l id : Identifier) → g * GROUP ≤ block → block < g * GROUP + GROUP → g < length bounds → is_gt (id_cmp l id) ≡ false → IsLow (slice_set bounds g l) block id
is_low bounds g block l id first last w h k d v lo hi = grind (arith, get_or-set_same)

-- ---- what none is less than in some blocks

pub blocks_more : (least less next : Identifier) (lo n : ℕ) (bs : Blocks) → is_gt (id_cmp less least) ≡ false → is_gt (id_cmp less next) ≡ false → AreFrom next (slice_index_or bs n []) → AreBlocksFrom least lo n bs → AreBlocksFrom less lo (n + 1) bs
blocks_more least less next lo n bs h k from all i w v = grind (arith, cases_eq, lesser_from)

pub larger_by : (bound id : Identifier) (lo hi : ℕ) (bs : Blocks) → is_gt (id_cmp bound id) ≡ true → AreBlocksFrom bound lo hi bs → AreLarger id lo hi bs
larger_by bound id lo hi bs big from i w v = all_larger bound id (slice_index_or bs i []) big (from i w v)

-- ---- blocks are passed

pass_one : (bs : Blocks) (b : ℕ) (e : Entry) → suc b < length bs → larger_at_front e.id (slice_index_or bs b []) ≡ length (slice_index_or bs b []) → Passes bs b 0 (suc b) 0 e
pass_one bs b e w h =
    past bs b 0 e [] (front_place bs b (omega arith)) (length (slice_index_or bs b [])) (omega (arith, h))
    ∙ (λ k. next_before bs b [] w k ++ put_entry_past_larger e (next_behind bs b [] w k))

pub pass_blocks : (bs : Blocks) (b n : ℕ) (e : Entry) → b + n < length bs → AreLarger e.id b (b + n) bs → Passes bs b 0 (b + n) 0 e
pass_blocks bs b zero e w all = grind (arith)
pass_blocks bs b (suc n) e w all = grind (arith, pass_one, pass_blocks bs (suc b) n e (omega (arith, w)) (λ i lo hi. all i (omega (arith, lo)) (omega (arith, hi))))
