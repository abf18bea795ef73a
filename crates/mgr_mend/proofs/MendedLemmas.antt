-- A log as it is mended, line by line.
use Rattle.std.proofs.Common.{◌≡◌, ℕ, suc, ◌+◌, ◌<◌, ◌≤◌, Bool, true, false, not, if◌then◌else◌, ◌&&◌, ◌==◌, List, [], ◌∷◌, ◌++◌, length, take, drop, map, Option, Some, Ok, Err, unwrap_or, refl, sym, ap, ap₂, subst, ◌∙◌, arith, append_assoc, append-nil, length-append}
use Rattle.std.specs.List.{flat_map, slice_get}
use Rattle.std.proofs.Math.Bool.{and-true}
use Rattle.std.proofs.lemmas.Bool.{and_right, cond_both, ne_eqb}
use Rattle.std.proofs.lemmas.List.{map-append, length-map, take_at, drop_at}
use Rattle.rga_ops.specs.declared.op.Op.{Op}
use Rattle.rga_lines.specs.Log.{operations_at}
use Rattle.rga_lines.specs.Stream.{newline, to_first_line, lines_of, rest_of}
use Rattle.mgr_mend.specs.Mending.{Said, operations_said, line_operations, all_lines, whole_operations, is_beaten, unbeaten, have_beaten, fate, mended_as, refused_as, mended_part, refused_part, mended_line, refused_line, mended_from, refused_from, mended, refused_of, is_faulty, is_beaten_line, one_if, fate_count, is_torn}
use Rattle.mgr_mend.specs.Parts.{count_said, counts_of, judged, staying, any_beaten, judged_fate}
use Rattle.mgr_mend.specs.declared.fate.Fate.{Fate}
use Rattle.mgr_mend.specs.declared.judging.Judged.{Judged}
use Rattle.mgr_mend.proofs.LinesLemmas.{FirstPart, all_lines-first}

-- ---- one line

pub count-said : (s : Said) → unwrap_or (count_said s) 0 ≡ length (operations_said s)
count-said (Ok ops) = refl
count-said (Err e) = refl

any_beaten-judged : (all ops : List Op) → any_beaten (map (judged all) ops) ≡ have_beaten all ops
any_beaten-judged all [] = refl
any_beaten-judged all (op ∷ ops) = rw (any_beaten-judged all ops) refl

pub staying-judged : (all ops : List Op) → staying (map (judged all) ops) ≡ unbeaten all ops
staying-judged all [] = refl
staying-judged all (op ∷ ops) = by (is_beaten all op) (staying-judged all ops)
  where
    by : {xs ys : List Op} (t : Bool) → xs ≡ ys → (if t then xs else op ∷ xs) ≡ (if not t then op ∷ ys else ys)
    by true e = e
    by false e = ap (λ (l : List Op). op ∷ l) e

pub fate-judged : (all : List Op) (s : Said) → judged_fate (count_said s) (map (judged all) (operations_said s)) ≡ fate all s
fate-judged all (Ok ops) = rw (any_beaten-judged all ops) refl
fate-judged all (Err e) = refl

-- ---- the lines that were mended, and those that follow

-- What is left of a log after some of its lines, with how many operations each line of it has, and these operations.
pub record IsLeft (bytes rest : List ℕ) (counts : List (Option ℕ)) (own : List Judged) : Type 0 where
  pub counted : counts ≡ counts_of (all_lines rest)
  pub told : own ≡ map (judged (whole_operations bytes)) (flat_map line_operations (all_lines rest))

-- what is mended, with what is made of the rest, is all
pub record IsMendedUpTo (bytes rest log refused : List ℕ) (faulty beaten : ℕ) : Type 0 where
  pub kept : log ++ mended_from (whole_operations bytes) (lines_of rest) (rest_of rest) ≡ mended bytes
  pub left : refused ++ refused_from (whole_operations bytes) (lines_of rest) (rest_of rest) ≡ refused_of bytes
  pub no_operations : faulty + fate_count is_faulty (whole_operations bytes) (lines_of rest) ≡ fate_count is_faulty (whole_operations bytes) (lines_of bytes)
  pub same_rest : rest_of rest ≡ rest_of bytes
  pub with_beaten : beaten + fate_count is_beaten_line (whole_operations bytes) (all_lines rest) ≡ fate_count is_beaten_line (whole_operations bytes) (all_lines bytes)

pub begins : (bytes : List ℕ) → IsMendedUpTo bytes bytes [] [] 0 0
begins bytes = record { kept = refl; left = refl; no_operations = omega arith; same_rest = refl; with_beaten = omega arith }

-- The first line's part of what is left, and what is left after it.
pub record IsFirstLeft (bytes line behind : List ℕ) (count : Option ℕ) (counts : List (Option ℕ)) (own : List Judged) : Type 0 where
  pub count_is : count ≡ count_said (operations_at line)
  pub some : 0 < length counts
  pub later_counts : drop 1 counts ≡ counts_of (all_lines behind)
  pub within : unwrap_or count 0 ≤ length own
  pub own_is : take (unwrap_or count 0) own ≡ map (judged (whole_operations bytes)) (line_operations line)
  pub later_own : drop (unwrap_or count 0) own ≡ map (judged (whole_operations bytes)) (flat_map line_operations (all_lines behind))

pub first_left : (bytes rest : List ℕ) (n : ℕ) (counts : List (Option ℕ)) (own : List Judged) (count : Option ℕ) → FirstPart rest n → IsLeft bytes rest counts own → slice_get counts 0 ≡ Some count
    → IsFirstLeft bytes (take n rest) (drop (n + 1) rest) count counts own
first_left bytes rest n counts own count first left is =
    let line = take n rest in
    let later = all_lines (drop (n + 1) rest) in
    let j = judged (whole_operations bytes) in
    let counted_as : counts ≡ count_said (operations_at line) ∷ counts_of later = left.counted ∙ ap counts_of (all_lines-first rest n first) in
    let told : own ≡ map j (line_operations line) ++ map j (flat_map line_operations later) =
    left.told ∙ ap (λ (ls : List (List ℕ)). map j (flat_map line_operations ls)) (all_lines-first rest n first) ∙ map-append j (line_operations line) (flat_map line_operations later) in
    let found : Some count ≡ Some (count_said (operations_at line)) = sym is ∙ ap (λ (cs : List (Option ℕ)). slice_get cs 0) counted_as in
    let this : count ≡ count_said (operations_at line) = cc in
    let long : length (map j (line_operations line)) ≡ unwrap_or count 0 = length-map (line_operations line) j ∙ sym (count-said (operations_at line)) ∙ ap (λ (o : Option ℕ). unwrap_or o 0) (sym this) in
    record {
      count_is = this;
      some = rw counted_as (omega arith);
      later_counts = ap (drop 1) counted_as;
      within = rw told (omega (arith, length-append (map j (line_operations line)) (map j (flat_map line_operations later)), long));
      own_is = ap (take (unwrap_or count 0)) told ∙ take_at (map j (line_operations line)) (map j (flat_map line_operations later)) (unwrap_or count 0) long;
      later_own = ap (drop (unwrap_or count 0)) told ∙ drop_at (map j (line_operations line)) (map j (flat_map line_operations later)) (unwrap_or count 0) long;
    }

-- the fate that a line's own operations tell
pub fate_told : (bytes line : List ℕ) (count : Option ℕ) (own : List Judged) → count ≡ count_said (operations_at line) → own ≡ map (judged (whole_operations bytes)) (line_operations line)
    → judged_fate count own ≡ fate (whole_operations bytes) (operations_at line)
fate_told bytes line count own c o = ap₂ judged_fate c o ∙ fate-judged (whole_operations bytes) (operations_at line)

pub stays_told : (bytes line : List ℕ) (own : List Judged) → own ≡ map (judged (whole_operations bytes)) (line_operations line) → staying own ≡ unbeaten (whole_operations bytes) (line_operations line)
stays_told bytes line own o = ap staying o ∙ staying-judged (whole_operations bytes) (line_operations line)

shifted : (log part more rest : List ℕ) → (log ++ part) ++ (more ++ rest) ≡ log ++ ((part ++ more) ++ rest)
shifted log part more rest = append_assoc log part (more ++ rest) ∙ ap (λ (l : List ℕ). log ++ l) (sym (append_assoc part more rest))

-- one line more
pub mends_line : (bytes rest : List ℕ) (n : ℕ) (log refused : List ℕ) (faulty beaten : ℕ) (f : Fate) → FirstPart rest n → f ≡ fate (whole_operations bytes) (operations_at (take n rest)) → IsMendedUpTo bytes rest log refused faulty beaten
    → IsMendedUpTo bytes (drop (n + 1) rest) (log ++ mended_as f (take (n + 1) rest) (unbeaten (whole_operations bytes) (line_operations (take n rest)))) (refused ++ refused_as f (take (n + 1) rest)) (faulty + one_if (is_faulty f)) (beaten + one_if (is_beaten_line f))
mends_line bytes rest n log refused faulty beaten f first is sofar = record {
  kept =
      ap₂ (λ (g : Fate) (part : List ℕ). (log ++ mended_as g part (unbeaten all (line_operations line))) ++ mended_from all (lines_of behind) (rest_of behind)) is first.part
      ∙ shifted log (mended_line all line) (flat_map (mended_line all) (lines_of behind)) (mended_part all (rest_of behind) (operations_at (rest_of behind)))
      ∙ ap₂ (λ (ls : List (List ℕ)) (r : List ℕ). log ++ mended_from all ls r) (sym first.lines) (sym first.rest)
      ∙ sofar.kept;
  left =
      ap₂ (λ (g : Fate) (part : List ℕ). (refused ++ refused_as g part) ++ refused_from all (lines_of behind) (rest_of behind)) is first.part
      ∙ shifted refused (refused_line all line) (flat_map (refused_line all) (lines_of behind)) (refused_part all (rest_of behind) (operations_at (rest_of behind)))
      ∙ ap₂ (λ (ls : List (List ℕ)) (r : List ℕ). refused ++ refused_from all ls r) (sym first.lines) (sym first.rest)
      ∙ sofar.left;
  same_rest = sym first.rest ∙ sofar.same_rest;
  no_operations = counts is_faulty faulty (lines_of rest) (lines_of behind) first.lines ∙ sofar.no_operations;
  with_beaten = counts is_beaten_line beaten (all_lines rest) (all_lines behind) (all_lines-first rest n first) ∙ sofar.with_beaten;
}
  where
    all : List Op
    all = whole_operations bytes

    line : List ℕ
    line = take n rest

    behind : List ℕ
    behind = drop (n + 1) rest

    counts : (test : Fate → Bool) (k : ℕ) (ls more : List (List ℕ)) → ls ≡ line ∷ more → (k + one_if (test f)) + fate_count test all more ≡ k + fate_count test all ls
    counts test k ls more e =
        let one : one_if (test f) ≡ one_if (test (fate all (operations_at line))) = ap (λ (g : Fate). one_if (test g)) is in
        let whole : fate_count test all ls ≡ one_if (test (fate all (operations_at line))) + fate_count test all more = ap (fate_count test all) e in
        omega (arith, one, whole)

pub left_step : (bytes rest behind : List ℕ) (n : ℕ) (counts later_counts : List (Option ℕ)) (own later_own : List Judged) (count : Option ℕ) (k : ℕ) → FirstPart rest n → IsLeft bytes rest counts own → slice_get counts 0 ≡ Some count
    → behind ≡ drop (n + 1) rest → later_counts ≡ drop 1 counts → k ≡ unwrap_or count 0 → later_own ≡ drop k own → IsLeft bytes behind later_counts later_own
left_step bytes rest behind n counts later_counts own later_own count k first left is back counted many told =
    let parts = first_left bytes rest n counts own count first left is in
    record {
      counted = counted ∙ parts.later_counts ∙ ap (λ (b : List ℕ). counts_of (all_lines b)) (sym back);
      told = told ∙ ap (λ (m : ℕ). drop m own) many ∙ parts.later_own ∙ ap (λ (b : List ℕ). map (judged (whole_operations bytes)) (flat_map line_operations (all_lines b))) (sym back);
    }

pub own_step : (bytes rest : List ℕ) (n : ℕ) (counts : List (Option ℕ)) (own front : List Judged) (count : Option ℕ) (k : ℕ) → FirstPart rest n → IsLeft bytes rest counts own → slice_get counts 0 ≡ Some count
    → k ≡ unwrap_or count 0 → front ≡ take k own → front ≡ map (judged (whole_operations bytes)) (line_operations (take n rest))
own_step bytes rest n counts own front count k first left is many told =
    told ∙ ap (λ (m : ℕ). take m own) many ∙ (first_left bytes rest n counts own count first left is).own_is

pub more_left : (bytes rest : List ℕ) (n : ℕ) (counts : List (Option ℕ)) (own : List Judged) → FirstPart rest n → IsLeft bytes rest counts own → 0 < length counts
more_left bytes rest n counts own first left = rw (left.counted ∙ ap counts_of (all_lines-first rest n first)) (omega arith)

abbrev State : Type 0
State = List ℕ × List ℕ × List ℕ × ℕ × ℕ

-- the same by what the steps of the loop are told of each other
pub mends_step : (bytes rest part behind : List ℕ) (n : ℕ) (count : Option ℕ) (own : List Judged) (log refused log' refused' : List ℕ) (faulty beaten one two : ℕ) (f : Fate)
    → FirstPart rest n → count ≡ count_said (operations_at (take n rest)) → own ≡ map (judged (whole_operations bytes)) (line_operations (take n rest))
    → part ≡ take (n + 1) rest → behind ≡ drop (n + 1) rest → f ≡ judged_fate count own → log' ≡ log ++ mended_as f part (staying own) → refused' ≡ refused ++ refused_as f part
    → one ≡ one_if (is_faulty f) → two ≡ one_if (is_beaten_line f) → IsMendedUpTo bytes rest log refused faulty beaten → IsMendedUpTo bytes behind log' refused' (faulty + one) (beaten + two)
mends_step bytes rest part behind n count own log refused log' refused' faulty beaten one two f first counted told front back fated kept left no_operation with_beaten sofar =
    let line = take n rest in
    let fate_is : f ≡ fate (whole_operations bytes) (operations_at line) = fated ∙ fate_told bytes line count own counted told in
    let log_is : log' ≡ log ++ mended_as f (take (n + 1) rest) (unbeaten (whole_operations bytes) (line_operations line)) =
    kept ∙ ap₂ (λ (p : List ℕ) (s : List Op). log ++ mended_as f p s) front (stays_told bytes line own told) in
    let refused_is : refused' ≡ refused ++ refused_as f (take (n + 1) rest) = left ∙ ap (λ (p : List ℕ). refused ++ refused_as f p) front in
    let base = mends_line bytes rest n log refused faulty beaten f first fate_is sofar in
    let here : State = (drop (n + 1) rest, log ++ mended_as f (take (n + 1) rest) (unbeaten (whole_operations bytes) (line_operations line)), refused ++ refused_as f (take (n + 1) rest), faulty + one_if (is_faulty f), beaten + one_if (is_beaten_line f)) in
    let there : State = (behind, log', refused', faulty + one, beaten + two) in
    let same : here ≡ there = sym (λ i. (back i, log_is i, refused_is i, faulty + no_operation i, beaten + with_beaten i)) in
    subst (λ (t : State). IsMendedUpTo bytes t.0 t.1 t.2 t.3 t.4) same base

-- ---- the rest, which is the last

pub mends_rest : (bytes rest log refused : List ℕ) (faulty beaten : ℕ) (f : Fate) → lines_of rest ≡ [] → rest_of rest ≡ rest → f ≡ fate (whole_operations bytes) (operations_at rest) → IsMendedUpTo bytes rest log refused faulty beaten
    → (log ++ mended_as f rest (unbeaten (whole_operations bytes) (line_operations rest)) ≡ mended bytes) × (refused ++ refused_as f rest ≡ refused_of bytes)
mends_rest bytes rest log refused faulty beaten f none only is sofar = (
  ap (λ (g : Fate). log ++ mended_as g rest (unbeaten (whole_operations bytes) (line_operations rest))) is
      ∙ ap₂ (λ (ls : List (List ℕ)) (r : List ℕ). log ++ mended_from (whole_operations bytes) ls r) (sym none) (sym only) ∙ sofar.kept,
  ap (λ (g : Fate). refused ++ refused_as g rest) is
      ∙ ap₂ (λ (ls : List (List ℕ)) (r : List ℕ). refused ++ refused_from (whole_operations bytes) ls r) (sym none) (sym only) ∙ sofar.left,
)

-- how many operations the rest has, and these
pub rest_left : (bytes rest : List ℕ) (counts : List (Option ℕ)) (own : List Judged) (count : Option ℕ) → all_lines rest ≡ rest ∷ [] → IsLeft bytes rest counts own → slice_get counts 0 ≡ Some count
    → (count ≡ count_said (operations_at rest)) × (own ≡ map (judged (whole_operations bytes)) (line_operations rest))
rest_left bytes rest counts own count only left is =
    let found : Some count ≡ Some (count_said (operations_at rest)) = sym is ∙ ap (λ (cs : List (Option ℕ)). slice_get cs 0) (left.counted ∙ ap counts_of only) in
    let this : count ≡ count_said (operations_at rest) = cc in (
      this,
      left.told ∙ ap (λ (ls : List (List ℕ)). map (judged (whole_operations bytes)) (flat_map line_operations ls)) only
          ∙ ap (map (judged (whole_operations bytes))) (append-nil (line_operations rest)),
    )

pub some_left : (bytes rest : List ℕ) (counts : List (Option ℕ)) (own : List Judged) → all_lines rest ≡ rest ∷ [] → IsLeft bytes rest counts own → 0 < length counts
some_left bytes rest counts own only left = rw (left.counted ∙ ap counts_of only) (omega arith)

-- ---- how many lines there are

pub counts_lines : (test : Fate → Bool) (all : List Op) (lines : List (List ℕ)) → fate_count test all lines ≤ length lines
counts_lines test all [] = omega arith
counts_lines test all (line ∷ lines) =
    let one : one_if (test (fate all (operations_at line))) ≤ 1 = cond_both (test (fate all (operations_at line))) 1 0 (λ n. n ≤ 1) (λ e. omega arith) (λ e. omega arith) in
    omega (arith, one, counts_lines test all lines)

-- each line ends in a newline
pub lines_within : (bytes : List ℕ) → length (lines_of bytes) ≤ length bytes
lines_within [] = omega arith
lines_within (b ∷ bytes) = by (b == newline) (lines_of bytes) (lines_within bytes)
  where
    first : (lines : List (List ℕ)) → length (to_first_line b lines) ≤ length lines
    first [] = omega arith
    first (line ∷ lines) = omega arith

    by : (t : Bool) (lines : List (List ℕ)) → length lines ≤ length bytes → length (if t then [] ∷ lines else to_first_line b lines) ≤ suc (length bytes)
    by true lines h = omega (arith, h)
    by false lines h = omega (arith, h, first lines)

-- so the numbers of lines are in range
pub faulty_within : (bytes rest log refused : List ℕ) (faulty beaten n : ℕ) (f : Fate) → FirstPart rest n → f ≡ fate (whole_operations bytes) (operations_at (take n rest)) → IsMendedUpTo bytes rest log refused faulty beaten → faulty + one_if (is_faulty f) ≤ length bytes
faulty_within bytes rest log refused faulty beaten n f first is sofar =
    let next = (mends_line bytes rest n log refused faulty beaten f first is sofar).no_operations in
    omega (arith, next, counts_lines is_faulty (whole_operations bytes) (lines_of bytes), lines_within bytes)

pub beaten_within : (bytes rest log refused : List ℕ) (faulty beaten n : ℕ) (f : Fate) → FirstPart rest n → f ≡ fate (whole_operations bytes) (operations_at (take n rest)) → IsMendedUpTo bytes rest log refused faulty beaten → beaten + one_if (is_beaten_line f) ≤ length bytes + 1
beaten_within bytes rest log refused faulty beaten n f first is sofar =
    let next = (mends_line bytes rest n log refused faulty beaten f first is sofar).with_beaten in
    let more : length (all_lines bytes) ≡ length (lines_of bytes) + 1 = length-append (lines_of bytes) (rest_of bytes ∷ []) in
    omega (arith, next, more, counts_lines is_beaten_line (whole_operations bytes) (all_lines bytes), lines_within bytes)

-- ---- the numbers at the end

torn_told : (all : List Op) (rest : List ℕ) (f : Fate) → f ≡ fate all (operations_at rest) → is_faulty f && not (length rest == 0) ≡ is_torn all rest
torn_told all [] f is = and_right (is_faulty f) false refl
torn_told all (b ∷ rest) f is =
    ap (λ (t : Bool). is_faulty f && not t) (ne_eqb (length (b ∷ rest)) 0 (λ zero. omega arith)) ∙ and-true (is_faulty f) ∙ ap is_faulty is

pub last_beaten : (bytes rest log refused : List ℕ) (faulty beaten : ℕ) (f : Fate) → all_lines rest ≡ rest ∷ [] → f ≡ fate (whole_operations bytes) (operations_at rest) → IsMendedUpTo bytes rest log refused faulty beaten
    → beaten + one_if (is_beaten_line f) ≡ fate_count is_beaten_line (whole_operations bytes) (all_lines bytes)
last_beaten bytes rest log refused faulty beaten f only is sofar =
    let one : one_if (is_beaten_line f) ≡ one_if (is_beaten_line (fate (whole_operations bytes) (operations_at rest))) = ap (λ (g : Fate). one_if (is_beaten_line g)) is in
    let whole : fate_count is_beaten_line (whole_operations bytes) (all_lines rest) ≡ one_if (is_beaten_line (fate (whole_operations bytes) (operations_at rest))) + 0 = ap (fate_count is_beaten_line (whole_operations bytes)) only in
    omega (arith, one, whole, sofar.with_beaten)

pub last_within : (bytes rest log refused : List ℕ) (faulty beaten : ℕ) (f : Fate) → all_lines rest ≡ rest ∷ [] → f ≡ fate (whole_operations bytes) (operations_at rest) → IsMendedUpTo bytes rest log refused faulty beaten → beaten + one_if (is_beaten_line f) ≤ length bytes + 1
last_within bytes rest log refused faulty beaten f only is sofar =
    let more : length (all_lines bytes) ≡ length (lines_of bytes) + 1 = length-append (lines_of bytes) (rest_of bytes ∷ []) in
    omega (arith, more, last_beaten bytes rest log refused faulty beaten f only is sofar, counts_lines is_beaten_line (whole_operations bytes) (all_lines bytes), lines_within bytes)

pub left_out_is : (bytes rest log refused : List ℕ) (faulty beaten : ℕ) (f : Fate) → lines_of rest ≡ [] → rest_of rest ≡ rest → f ≡ fate (whole_operations bytes) (operations_at rest) → IsMendedUpTo bytes rest log refused faulty beaten
    → (faulty ≡ fate_count is_faulty (whole_operations bytes) (lines_of bytes)) × (is_faulty f && not (length rest == 0) ≡ is_torn (whole_operations bytes) (rest_of bytes))
left_out_is bytes rest log refused faulty beaten f none only is sofar =
    let zero : fate_count is_faulty (whole_operations bytes) (lines_of rest) ≡ 0 = ap (fate_count is_faulty (whole_operations bytes)) none in (
      omega (arith, zero, sofar.no_operations),
      torn_told (whole_operations bytes) rest f is ∙ ap (is_torn (whole_operations bytes)) (sym only ∙ sofar.same_rest),
    )
