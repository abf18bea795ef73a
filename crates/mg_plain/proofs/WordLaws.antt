-- The words between two places.
use Rattle.std.proofs.Common.{Bool, List, None, Option, Some, [], ap, arith, false, inl, inr, length, not, option_map, refl, subst, suc, sym, true, true≢false, zero, ℕ, ◌+◌, ◌-◌, ◌<◌, ◌∙◌, ◌∷◌, ◌≡◌, ◌≤◌, ◌⊎◌}
use Rattle.std.specs.List.{All, Contains}
use Rattle.std.proofs.lemmas.Bool.{cases_lt}
use Rattle.std.proofs.lemmas.List.Elements.{All-cons, All-contains, All-nil, Contains-append_right}
use Rattle.std.proofs.lemmas.Option.{none-some, same_Some}
use Rattle.mg_plain.specs.Paragraphs.{IsWord, is_nonblank, next_word, word_at, words}
use Rattle.mg_plain.specs.Scans.{IsLeast, least, least_from}
use Rattle.mg_plain.specs.Spans.{AreRisingSpans, Span, span_chain}
use Rattle.mg_plain.proofs.RangeLaws.{FindsWithin, span_chain-rising, least_found, least_from-is, least_from-within, none_found}
use Rattle.mg_plain.proofs.ScanLaws.{scan_on}

-- a scan for the first place that is blank ends at the end of the run
pub run_ends : (text : List ℕ) (b hi e : ℕ) → b < e → e ≤ hi → ((k : ℕ) → b ≤ k → k < e → is_nonblank text k ≡ true) → (e ≡ hi) ⊎ (is_nonblank text e ≡ false) → least_from (λ k. not (is_nonblank text k)) b hi ≡ e
run_ends text b hi e some up_to nonblank ends =
    let blank : ℕ → Bool = λ k. not (is_nonblank text k) in
    ends_there (least_from-within blank b hi (omega (arith, some, up_to))) (least_from-is blank b hi (omega (arith, some, up_to)))
  where
    ends_there : (b ≤ least_from (λ k. not (is_nonblank text k)) b hi) × (least_from (λ k. not (is_nonblank text k)) b hi ≤ hi)
        → ((least_from (λ k. not (is_nonblank text k)) b hi ≡ hi) ⊎ (not (is_nonblank text (least_from (λ k. not (is_nonblank text k)) b hi)) ≡ true)) × ((k : ℕ) → b ≤ k → k < least_from (λ k. not (is_nonblank text k)) b hi → not (is_nonblank text k) ≡ false)
        → least_from (λ k. not (is_nonblank text k)) b hi ≡ e
    ends_there range is = grind arith

pub finds_words : (text : List ℕ) (hi : ℕ) → FindsWithin (next_word text hi) hi
finds_words text hi = λ q w up h. at q w (least (is_nonblank text) q (hi - q)) refl up h
  where
    at : (q : ℕ) (w : Span) (o : Option ℕ) → least (is_nonblank text) q (hi - q) ≡ o → q ≤ hi → option_map (word_at text hi) o ≡ Some w → (q ≤ w.lo) × (w.lo ≤ w.hi) × (w.hi ≤ hi)
    at q w None e up h = absurd (none-some _ h)
    at q w (Some b) e up h =
        let same : word_at text hi b ≡ w = same_Some _ _ h in
        let found = least_found (is_nonblank text) q (hi - q) b e in
        let ends = least_from-within (λ k. not (is_nonblank text k)) b hi (omega (arith, found.below, up)) in
        subst (λ (r : Span). (q ≤ r.lo) × (r.lo ≤ r.hi) × (r.hi ≤ hi)) same (found.from, ends.0, ends.1)

-- a place behind which a run may begin
abbrev MayBegin : List ℕ → ℕ → ℕ → ℕ → Type 0
MayBegin text lo hi from = (from ≡ lo) ⊎ ((from ≡ hi) ⊎ (is_nonblank text from ≡ false))

-- the first run from such a place on is a word
found_word : (text : List ℕ) (lo hi from b : ℕ) → lo ≤ from → from ≤ hi → MayBegin text lo hi from → least (is_nonblank text) from (hi - from) ≡ Some b → IsWord text lo hi (word_at text hi b) × MayBegin text lo hi (word_at text hi b).hi
found_word text lo hi from b low up may h =
    let found = least_found (is_nonblank text) from (hi - from) b h in
    let below : b < hi = omega (arith, found.below, up) in
    let blank : ℕ → Bool = λ k. not (is_nonblank text k) in
    let first : least_from blank b hi ≡ least_from blank (b + 1) hi = scan_on blank b hi below (ap not found.passes) in
    let behind = least_from-within blank (b + 1) hi (omega (arith, below)) in
    let range = least_from-within blank b hi (omega (arith, below)) in
    let is = least_from-is blank b hi (omega (arith, below)) in (
      record {
        from = omega (arith, found.from, low);
        some = omega (arith, first, behind.0);
        up_to = range.1;
        nonblank = λ k at before. not_not (is_nonblank text k) (is.1 k at before);
        begins = begin may (cases_lt from b) found;
        ends = stop is.0;
      },
      inr (stop is.0),
    )
  where
    not_not : (t : Bool) → not t ≡ false → t ≡ true
    not_not true e = refl
    not_not false e = absurd (true≢false e)

    stop : (least_from (λ k. not (is_nonblank text k)) b hi ≡ hi) ⊎ (not (is_nonblank text (least_from (λ k. not (is_nonblank text k)) b hi)) ≡ true) → ((word_at text hi b).hi ≡ hi) ⊎ (is_nonblank text (word_at text hi b).hi ≡ false)
    stop (inl at_end) = inl at_end
    stop (inr blank) = inr (is_not (is_nonblank text (least_from (λ k. not (is_nonblank text k)) b hi)) blank)
      where
        is_not : (t : Bool) → not t ≡ true → t ≡ false
        is_not true e = absurd (true≢false (sym e))
        is_not false e = refl

    begin : MayBegin text lo hi from → (from < b) ⊎ (b ≤ from) → IsLeast (is_nonblank text) from (from + (hi - from)) b → (b ≡ lo) ⊎ (is_nonblank text (b - 1) ≡ false)
    begin may (inl later) found = inr (found.least (b - 1) (omega (arith, later)) (omega (arith, later)))
    begin (inl at_lo) (inr here) found = inl (omega (arith, at_lo, here, found.from))
    begin (inr (inl at_hi)) (inr here) found = absurd (omega (arith, at_hi, here, found.below))
    begin (inr (inr blank)) (inr here) found =
        let same : b ≡ from = omega (arith, here, found.from) in
        absurd (true≢false (sym found.passes ∙ ap (is_nonblank text) same ∙ blank))

all_words : (text : List ℕ) (lo hi left from : ℕ) → lo ≤ from → from ≤ hi → MayBegin text lo hi from → All (IsWord text lo hi) (span_chain (next_word text hi) left from)
all_words text lo hi zero from low up may = All-nil (IsWord text lo hi)
all_words text lo hi (suc left) from low up may = elim (least (is_nonblank text) from (hi - from)) as (λ o. least (is_nonblank text) from (hi - from) ≡ o → All (IsWord text lo hi) (elim (option_map (word_at text hi) o) [ None ↦ [] | Some s ↦ s ∷ span_chain (next_word text hi) left s.hi ])) [
  | None ↦ λ h. All-nil (IsWord text lo hi)
  | Some b ↦ λ h.
      let w = found_word text lo hi from b low up may h in
      All-cons (IsWord text lo hi) (word_at text hi b) (span_chain (next_word text hi) left (word_at text hi b).hi) w.0 (all_words text lo hi left (word_at text hi b).hi (omega (arith, w.0.from, w.0.some)) w.0.up_to w.1)
] refl

-- a word that is not behind a place is found from there on
found_later_on : (text : List ℕ) (lo hi left from : ℕ) (w : Span) → lo ≤ from → hi ≤ length text → length text ≤ left + from → IsWord text lo hi w → from ≤ w.lo → Contains (span_chain (next_word text hi) left from) w
found_later_on text lo hi zero from w low within enough is ahead = absurd (omega (arith, enough, ahead, is.some, is.up_to, within))
found_later_on text lo hi (suc left) from w low within enough is ahead = elim (least (is_nonblank text) from (hi - from)) as (λ o. least (is_nonblank text) from (hi - from) ≡ o → Contains (elim (option_map (word_at text hi) o) [ None ↦ [] | Some s ↦ s ∷ span_chain (next_word text hi) left s.hi ]) w) [
  | None ↦ λ h.
      let blank : is_nonblank text w.lo ≡ false = none_found (is_nonblank text) from (hi - from) h w.lo ahead (omega (arith, ahead, is.some, is.up_to)) in
      absurd (true≢false (sym here ∙ blank))
  | Some b ↦ λ h.
      let found = least_found (is_nonblank text) from (hi - from) b h in
      let below : b < hi = omega (arith, found.below, ahead, is.some, is.up_to) in
      elim (cases_lt b w.lo) [
        | inl before ↦
            let blank : is_nonblank text (w.lo - 1) ≡ false = elim is.begins [ inl at_lo ↦ absurd (omega (arith, at_lo, before, low, found.from)) | inr stops ↦ stops ] in
            let test : ℕ → Bool = λ k. not (is_nonblank text k) in
            let first : least_from test b hi ≡ least_from test (b + 1) hi = scan_on test b hi below (ap not found.passes) in
            let behind = least_from-within test (b + 1) hi (omega (arith, below)) in
            let end : least_from test b hi ≤ w.lo - 1 = ends_by b before blank below in
            Contains-append_right (word_at text hi b ∷ []) (span_chain (next_word text hi) left (word_at text hi b).hi) w
            (found_later_on text lo hi left (word_at text hi b).hi w (omega (arith, low, found.from, first, behind.0)) within (omega (arith, enough, found.from, first, behind.0)) is (omega (arith, end)))
        | inr not_before ↦
            let same : b ≡ w.lo = omega (arith, not_before, least_is b found) in
            let end : least_from (λ k. not (is_nonblank text k)) w.lo hi ≡ w.hi = run_ends text w.lo hi w.hi is.some is.up_to is.nonblank is.ends in
            let whole : word_at text hi b ≡ w = ap (word_at text hi) same ∙ ap (λ e. record { lo = w.lo; hi = e }) end in
            (0, omega arith, whole)
      ]
] refl
  where
    here : is_nonblank text w.lo ≡ true
    here = is.nonblank w.lo (omega arith) is.some

    least_is : (b : ℕ) → IsLeast (is_nonblank text) from (from + (hi - from)) b → b ≤ w.lo
    least_is b found = elim (cases_lt w.lo b) [
      | inl past ↦ absurd (true≢false (sym here ∙ found.least w.lo ahead past))
      | inr up ↦ up
    ]

    ends_by : (b : ℕ) → b < w.lo → is_nonblank text (w.lo - 1) ≡ false → b < hi → least_from (λ k. not (is_nonblank text k)) b hi ≤ w.lo - 1
    ends_by b before blank below =
        let test : ℕ → Bool = λ k. not (is_nonblank text k) in
        let stops = least_from-is test b hi (omega (arith, below)) in
        elim (cases_lt (w.lo - 1) (least_from test b hi)) [
          | inl past ↦ absurd (true≢false (sym (ap not blank) ∙ stops.1 (w.lo - 1) (omega (arith, before)) past))
          | inr up ↦ up
        ]

pub word_is_run : (text : List ℕ) (lo hi : ℕ) (w : Span) → lo ≤ hi → Contains (words text lo hi) w → IsWord text lo hi w
word_is_run text lo hi w up at = All-contains (IsWord text lo hi) (words text lo hi) w (all_words text lo hi (length text) lo (omega arith) up (inl refl)) at

pub run_is_word : (text : List ℕ) (lo hi : ℕ) (w : Span) → hi ≤ length text → IsWord text lo hi w → Contains (words text lo hi) w
run_is_word text lo hi w within is = found_later_on text lo hi (length text) lo w (omega arith) within (omega arith) is is.from

pub words-rising : (text : List ℕ) (lo hi : ℕ) → lo ≤ hi → AreRisingSpans lo hi (words text lo hi)
words-rising text lo hi up = span_chain-rising (next_word text hi) hi (finds_words text hi) (length text) lo up
