-- There is one summary for each content; it comes back from its claims, of which the last of each block counts.
use Rattle.rga_brief.proofs.Prelude.{◌≡◌, T, cond, List, [], ◌∷◌, refl, sym, ap, ◌∙◌, subst, Bool, true, false, ◌++◌, map, append_assoc, true≢false, Some, Option, None, AllByRecursion, Content, Block, Digests, block_cmp, Summary, IsSummary, digests_at, option_or, append-nil, Claim, entry_claim, claims_of, put_claims, summary_from, last_claimed}
use Rattle.std.specs.List.Sorted.{IsStrictlySortedBy}
use Rattle.std.specs.Map.{lookup, keys_of}
use Rattle.std.specs.Ordering.{eq_by_cmp, is_lt, nat_cmp, is_eq, match_ordering, ordering_reverse}
use Rattle.std.specs.Cmp.{IsTotalOrder, then_total, on_total, nat_cmp_total}
use Rattle.std.specs.FinMap.{find, is_sorted, IsAntisymmetric}
use Rattle.std.specs.FinMap.Entries.{below_all, same_entries}
use Rattle.std.specs.declared.cmp.Ordering.TheVariants.{Less, Equal, Greater}
use Rattle.std.proofs.lemmas.Map.Lookups.{exact_pairs, exact_unsigned}
use Rattle.rga_ops.proofs.SortedLaws.{both_hold}
use Rattle.std.specs.BTreeMap.{insert_entry}
use Rattle.std.specs.declared.cmp.Ordering.{Ordering}

-- ---- there is one summary for each content

pub blocks_total : IsTotalOrder block_cmp
blocks_total = then_total (on_total (λ (b : Block). b.replica) nat_cmp_total) (on_total (λ (b : Block). b.number) nat_cmp_total)

blocks_exact : IsAntisymmetric block_cmp
blocks_exact a b h =
    let same : (a.replica, a.number) ≡ (b.replica, b.number) = exact_pairs nat_cmp nat_cmp exact_unsigned exact_unsigned (a.replica, a.number) (b.replica, b.number) h in
    λ k. record { replica = (same k).0; number = (same k).1 }

found_so : (b : Block) (es : List (Block × Digests)) → find block_cmp b es ≡ lookup (eq_by_cmp block_cmp b) es
found_so b [] = refl
found_so b (e ∷ es) = ap (cond (eq_by_cmp block_cmp b e.0) (Some e.1)) (found_so b es)

below_so : (b : Block) (es : List (Block × Digests)) → AllByRecursion (λ y. block_cmp b y ≡ Less) (keys_of es) → T (below_all block_cmp b es)
below_so b [] h = tt
below_so b (e ∷ es) h = both_hold (is_lt (block_cmp b e.0)) (below_all block_cmp b es) (subst (λ o. T (is_lt o)) (sym h.0) tt) (below_so b es h.1)

sorted_so : (es : List (Block × Digests)) → IsStrictlySortedBy block_cmp (keys_of es) → T (is_sorted block_cmp es)
unfolding IsStrictlySortedBy
sorted_so [] h = tt
sorted_so (e ∷ es) h = both_hold (below_all block_cmp e.0 es) (is_sorted block_cmp es) (below_so e.0 es h.0) (sorted_so es h.1)

pub one_summary : (c : Content) (s t : Summary) → IsSummary c s → IsSummary c t → s ≡ t
one_summary c s t here there =
    same_entries block_cmp blocks_total blocks_exact s t (sorted_so s here.in_order) (sorted_so t there.in_order) (λ b. found_so b s ∙ here.digests b ∙ sym (there.digests b) ∙ sym (found_so b t))

-- ---- a summary comes back from its claims, and of claims the last of each block counts

-- ---- what comes back

-- a block behind all others goes to the end
put_last : (es : Summary) (b : Block) (d : Digests) → AllByRecursion (λ k. block_cmp k b ≡ Less) (keys_of es) → insert_entry block_cmp es b d ≡ es ++ (b, d) ∷ []
put_last [] b d h = refl
put_last (e ∷ es) b d h =
    ap (λ o. match_ordering o ((b, d) ∷ e ∷ es) ((e.0, d) ∷ es) (e ∷ insert_entry block_cmp es b d)) (blocks_total.antisymm b e.0 ∙ ap ordering_reverse h.0)
    ∙ ap (λ xs. e ∷ xs) (put_last es b d h.1)

in_middle : (P : Block → Type 0) (es : Summary) (f : Block × Digests) (fs : Summary) → AllByRecursion P (keys_of (es ++ f ∷ fs)) → P f.0
in_middle P [] f fs h = h.0
in_middle P (e ∷ es) f fs h = in_middle P es f fs h.1

all_before : (es : Summary) (f : Block × Digests) (fs : Summary) → IsStrictlySortedBy block_cmp (keys_of (es ++ f ∷ fs)) → AllByRecursion (λ k. block_cmp k f.0 ≡ Less) (keys_of es)
unfolding IsStrictlySortedBy
all_before [] f fs up = tt
all_before (e ∷ es) f fs up = (in_middle (λ y. block_cmp e.0 y ≡ Less) es f fs up.0, all_before es f fs up.1)

digests_back : (es fs : Summary) → IsStrictlySortedBy block_cmp (keys_of (es ++ fs)) → put_claims es (map entry_claim fs) ≡ es ++ fs
digests_back es [] up = sym (append-nil es)
digests_back es (f ∷ fs) up =
    ap (λ xs. put_claims xs (map entry_claim fs)) (put_last es f.0 f.1 (all_before es f fs up))
    ∙ digests_back (es ++ f ∷ []) fs (subst (λ xs. IsStrictlySortedBy block_cmp (keys_of xs)) (sym (append_assoc es (f ∷ []) fs)) up)
    ∙ append_assoc es (f ∷ []) fs

pub comes_back : (c : Content) (s : Summary) → IsSummary c s → summary_from (claims_of s) ≡ s
comes_back c s is = digests_back [] s is.in_order

-- ---- the last claim of a block

same_key : (b c : Bool) (x y z : Option Digests) → b ≡ c → cond c x z ≡ cond b x (cond c y z)
same_key true true x y z h = refl
same_key true false x y z h = absurd (true≢false h)
same_key false true x y z h = absurd (true≢false (sym h))
same_key false false x y z h = refl

-- a key that is above another equals no key that the other equals
other_key : (q k f : Block) (x y z : Option Digests) → block_cmp k f ≡ Greater → cond (eq_by_cmp block_cmp q f) y (cond (eq_by_cmp block_cmp q k) x z) ≡ cond (eq_by_cmp block_cmp q k) x (cond (eq_by_cmp block_cmp q f) y z)
other_key q k f x y z above = by (block_cmp q k) refl
  where
    by : (o : Ordering) → block_cmp q k ≡ o → cond (eq_by_cmp block_cmp q f) y (cond (is_eq o) x z) ≡ cond (is_eq o) x (cond (eq_by_cmp block_cmp q f) y z)
    by Less h = refl
    by Equal h = ap (λ o. cond (is_eq o) y x) (blocks_total.congr q k f h ∙ above)
    by Greater h = refl

alike : (q k f : Block) → block_cmp k f ≡ Equal → eq_by_cmp block_cmp q k ≡ eq_by_cmp block_cmp q f
alike q k f same = ap is_eq (blocks_total.antisymm q k ∙ ap ordering_reverse (blocks_total.congr k f q same) ∙ sym (blocks_total.antisymm q f))

found_put : (q k : Block) (d : Digests) (es : Summary) → digests_at (insert_entry block_cmp es k d) q ≡ cond (eq_by_cmp block_cmp q k) (Some d) (digests_at es q)
found_put q k d [] = refl
found_put q k d (e ∷ es) = by (block_cmp k e.0) refl (found_put q k d es)
  where
    by : (o : Ordering) → block_cmp k e.0 ≡ o → digests_at (insert_entry block_cmp es k d) q ≡ cond (eq_by_cmp block_cmp q k) (Some d) (digests_at es q)
        → digests_at (match_ordering o ((k, d) ∷ e ∷ es) ((e.0, d) ∷ es) (e ∷ insert_entry block_cmp es k d)) q ≡ cond (eq_by_cmp block_cmp q k) (Some d) (cond (eq_by_cmp block_cmp q e.0) (Some e.1) (digests_at es q))
    by Less h rest = refl
    by Equal h rest = same_key (eq_by_cmp block_cmp q k) (eq_by_cmp block_cmp q e.0) (Some d) (Some e.1) (digests_at es q) (alike q k e.0 h)
    by Greater h rest = ap (cond (eq_by_cmp block_cmp q e.0) (Some e.1)) rest ∙ other_key q k e.0 (Some d) (Some e.1) (digests_at es q) h

chosen : (o p : Option Digests) (b : Bool) (d : Digests) → option_or o (cond b (Some d) p) ≡ option_or (option_or o (cond b (Some d) None)) p
chosen None p true d = refl
chosen None p false d = refl
chosen (Some e) p b d = refl

last_put : (q : Block) (es : Summary) (claims : List Claim) → digests_at (put_claims es claims) q ≡ option_or (last_claimed q claims) (digests_at es q)
last_put q es [] = refl
last_put q es (claim ∷ claims) =
    last_put q (insert_entry block_cmp es claim.block claim.digests) claims
    ∙ ap (option_or (last_claimed q claims)) (found_put q claim.block claim.digests es)
    ∙ chosen (last_claimed q claims) (digests_at es q) (eq_by_cmp block_cmp q claim.block) claim.digests

or_none : (o : Option Digests) → option_or o None ≡ o
or_none None = refl
or_none (Some d) = refl

pub last_counts : (claims : List Claim) (q : Block) → digests_at (summary_from claims) q ≡ last_claimed q claims
last_counts claims q = last_put q [] claims ∙ or_none (last_claimed q claims)
