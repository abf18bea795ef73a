-- No line of a log holds the first operations of two lines to which it is compacted, so these are no more than its own.
use Rattle.std.proofs.Common.{◌≡◌, ℕ, zero, suc, ◌+◌, ◌-◌, ◌<◌, ◌≤◌, Bool, true, false, cond, ◌&&◌, ◌||◌, nat_lt, List, [], ◌∷◌, ◌++◌, map, length, Some, Result, Ok, refl, sym, ap, ◌∙◌, subst, arith, inl, inr, ◌⊎◌, T, length-append, true≢false}
use Rattle.std.specs.Prelude.{Contains}
use Rattle.std.specs.List.{AllByRecursion}
use Rattle.std.specs.Ordering.{is_lt}
use Rattle.std.specs.FinMap as finite_map
use Rattle.std.specs.FinSet as finite_set
use Rattle.std.proofs.lemmas.Bool.{lt-ltb, or_left, or_right, or_parts}
use Rattle.std.proofs.lemmas.List.{length-map}
use Rattle.std.proofs.lemmas.List.Elements.{Contains-append_left, Contains-append_right, recursion_from_All, All-weaker, All-contains_itself}
use Rattle.rga_ops.specs.Identifier.{Identifier, id_cmp}
use Rattle.rga_ops.specs.Content.{Element, element, Content, content_of, Holds, IsAgreed}
use Rattle.rga_ops.specs.Operations.{insertion_of, rising}
use Rattle.rga_ops.specs.declared.id.TheConstants.Id.{MAX_COUNTER}
use Rattle.rga_ops.specs.declared.op.Op.{Op}
use Rattle.rga_ops.specs.declared.op.Op.TheVariants.{Insert, Delete}
use Rattle.rga_ops.proofs.OperationLaws.{Contains-cases, Contains-nil, Contains-append, content_inserted, content_deleted, inserted-iff, deleted-iff}
use Rattle.rga_ops.proofs.MemberLaws.{all_map}
use Rattle.rga_ops.proofs.SortedLaws.{all_zip}
use Rattle.rga_lines.specs.declared.run.TheConstants.{MAX_RUN}
use Rattle.rga_lines.specs.declared.line.Line.TheVariants.{One, Run, Deletions}
use Rattle.rga_lines.specs.declared.fault.LineFault.{LineFault}
use Rattle.rga_lines.specs.Runs.{next, run_operations, deletions_from, IsRun, IsDeletionRun}
use Rattle.rga_lines.specs.Table.{AnyReading, any_line_at}
use Rattle.rga_lines.specs.Log.{operations_in, operations_of, operations_at, then_operations, IsOperation}
use Rattle.rga_lines.proofs.ReadingLemmas.{any_run, any_deletions}
use Rattle.rga_lines.proofs.StandLemmas.{stands}
use Rattle.rga_exchange.specs.DeletionRuns.{is_deletion_run, have_deletion_runs}
use Rattle.rga_exchange.specs.Compacting.{next_character, going_on, is_among, is_in_some, beginnings, run_size, run_beginnings, is_next_deleted, deletions_behind, most_deletions, deletion_size, deletion_beginnings, compact_lines}
use Rattle.rga_exchange.specs.FewLines.{said, Says, AreApart, AllApart, first_operations}
use Rattle.rga_exchange.proofs.GoingOnLemmas.{goes_on, one_deleted}
use Rattle.rga_exchange.proofs.CompactLaws.{IsAmong, begin_all, all_run_beginnings, all_deletion_beginnings}
use Rattle.rga_exchange.proofs.TurnLaws.{Rise, larger_counter, entries_rise, rising_rise}

-- ---- an injection into lines

-- one of the lines does
abbrev Said : List (List ℕ) → Op → Type 0
Said [] op = ⊥
Said (line ∷ lines) op = Says line op ⊎ Said lines op

apart_behind : (line : List ℕ) (lines : List (List ℕ)) (ops : List Op) → AllApart (line ∷ lines) ops → AllApart lines ops
apart_behind line lines [] h = tt
apart_behind line lines (op ∷ ops) h = (all_map (AreApart (line ∷ lines) op) (AreApart lines op) (λ b apart. apart.1) ops h.0, apart_behind line lines ops h.1)

-- some of the operations, all but one, are in the later lines
record Behind (lines : List (List ℕ)) (ops : List Op) : Type 1 where
  rest : List Op
  fewer : length ops ≤ suc (length rest)
  said : AllByRecursion (Said lines) rest
  apart : AllApart lines rest
  some : (P : Op → Type 0) → AllByRecursion P ops → AllByRecursion P rest

behind : (line : List ℕ) (lines : List (List ℕ)) (ops : List Op) → AllByRecursion (Said (line ∷ lines)) ops → AllApart (line ∷ lines) ops → Behind lines ops
behind line lines [] h apart = record { rest = []; fewer = omega arith; said = tt; apart = tt; some = λ P all. tt }
behind line lines (op ∷ ops) (inl here, h) apart = record {
  rest = ops;
  fewer = omega arith;
  said = all_zip (Said (line ∷ lines)) (AreApart (line ∷ lines) op) (Said lines) (λ b m k. elim m [ inl there ↦ absurd (k.0 here there) | inr later ↦ later ]) ops h apart.0;
  apart = apart_behind line lines ops apart.1;
  some = λ P all. all.1;
}
behind line lines (op ∷ ops) (inr later, h) apart =
    let w = behind line lines ops h apart.1 in
    record {
      rest = op ∷ w.rest;
      fewer = omega (arith, w.fewer);
      said = (later, w.said);
      apart = (all_map (AreApart (line ∷ lines) op) (AreApart lines op) (λ b k. k.1) w.rest (w.some (AreApart (line ∷ lines) op) apart.0), w.apart);
      some = λ P all. (all.0, w.some P all.1);
    }

-- operations that are in the lines, of which no line stands for two, are no more than the lines
no_more : (lines : List (List ℕ)) (ops : List Op) → AllByRecursion (Said lines) ops → AllApart lines ops → length ops ≤ length lines
no_more [] [] h apart = omega arith
no_more [] (op ∷ ops) h apart = absurd h.0
no_more (line ∷ lines) ops h apart =
    let w = behind line lines ops h apart in
    omega (arith, w.fewer, no_more lines w.rest w.said w.apart)

-- ---- those that begin a run are apart

module _ {A : Type 0} (name : A → Identifier) (size : A → ℕ) where
  -- the second one is behind the first one, and not in its run
  pub record IsBehind (x y : A) : Type 0 where
    pub above : T (is_lt (id_cmp (name x) (name y)))
    pub outside : is_among (name x) (size x) (name y) ≡ false

  abbrev pub AreBehind : List A → Type 0
  AreBehind [] = Unit {0}
  AreBehind (x ∷ xs) = AllByRecursion (IsBehind x) xs × AreBehind xs

  abbrev IsOutside : List A → A → Type 0
  IsOutside begun y = is_in_some name size begun (name y) ≡ false

  in_no_run : (begun xs : List A) → AllByRecursion (IsOutside begun) (beginnings name size begun xs)
  in_no_run begun [] = tt
  in_no_run begun (x ∷ xs) = elim (is_in_some name size begun (name x)) as (λ b. is_in_some name size begun (name x) ≡ b → AllByRecursion (IsOutside begun) (cond b (beginnings name size begun xs) (x ∷ beginnings name size (x ∷ begun) xs))) [
    | true ↦ λ is. in_no_run begun xs
    | false ↦ λ is. (is, all_map (IsOutside (x ∷ begun)) (IsOutside begun) (λ y out. (or_parts (is_among (name x) (size x) (name y)) (is_in_some name size begun (name y)) out).1) (beginnings name size (x ∷ begun) xs) (in_no_run (x ∷ begun) xs))
  ] refl

  pub beginnings_behind : (begun xs : List A) → Rise name xs → AreBehind (beginnings name size begun xs)
  beginnings_behind begun [] rise = tt
  beginnings_behind begun (x ∷ xs) rise = elim (is_in_some name size begun (name x)) as (λ b. AreBehind (cond b (beginnings name size begun xs) (x ∷ beginnings name size (x ∷ begun) xs))) [
    | true ↦ beginnings_behind begun xs rise.1
    | false ↦ (
      all_zip (λ y. T (is_lt (id_cmp (name x) (name y)))) (IsOutside (x ∷ begun)) (IsBehind x)
          (λ y above out. record { above = above; outside = (or_parts (is_among (name x) (size x) (name y)) (is_in_some name size begun (name y)) out).0 })
          (beginnings name size (x ∷ begun) xs)
          (begin_all name size (λ y. T (is_lt (id_cmp (name x) (name y)))) (x ∷ begun) xs rise.0)
          (in_no_run (x ∷ begun) xs),
      beginnings_behind (x ∷ begun) xs rise.1,
    )
  ]

not_among : (first : Identifier) (count : ℕ) (id : Identifier) → is_among first count id ≡ false → IsAmong first count id → ⊥
not_among first count id out h = grind arith

-- ---- what is in a line

abbrev name_of : Op → Identifier
name_of (Insert id parent ch) = id
name_of (Delete id) = id

abbrev is_deletion : Op → Bool
is_deletion (Insert id parent ch) = false
is_deletion (Delete id) = true

-- what is in a run is among it
among_run : (first parent : Identifier) (chars : List ℕ) (op : Op) → Contains (run_operations first parent chars) op → IsAmong first (length chars) (name_of op) × (is_deletion op ≡ false)
among_run first parent [] op m = absurd (Contains-nil op m)
among_run first parent (ch ∷ chars) op m = elim (Contains-cases (Insert first parent ch) op (run_operations (next first) first chars) m) [
  | inl same ↦ subst (λ (o : Op). IsAmong first (suc (length chars)) (name_of o) × (is_deletion o ≡ false)) same (record { replica = refl; from = omega arith; to = omega arith }, refl)
  | inr later ↦
      let w = among_run (next first) first chars op later in
      (record { replica = (w.0).replica; from = omega (arith, (w.0).from); to = omega (arith, (w.0).to) }, w.1)
]

among_deletions : (first : Identifier) (count : ℕ) (op : Op) → Contains (deletions_from first count) op → IsAmong first count (name_of op) × (is_deletion op ≡ true)
among_deletions first zero op m = absurd (Contains-nil op m)
among_deletions first (suc count) op m = elim (Contains-cases (Delete first) op (deletions_from (next first) count) m) [
  | inl same ↦ subst (λ (o : Op). IsAmong first (suc count) (name_of o) × (is_deletion o ≡ true)) same (record { replica = refl; from = omega arith; to = omega arith }, refl)
  | inr later ↦
      let w = among_deletions (next first) count op later in
      (record { replica = (w.0).replica; from = omega (arith, (w.0).from); to = omega (arith, (w.0).to) }, w.1)
]

module _ (c : Content) where
  abbrev AreHeld : List Op → Type 0
  AreHeld ops = AllByRecursion (Holds c) ops

  -- ---- a run of the content reaches as far as any line does

  next_found : (last : Identifier) (ch : ℕ) → Holds c (Insert (next last) last ch) → last.counter < MAX_COUNTER → next_character c last ≡ Some ch
  next_found last ch held below = grind arith

  going_reaches : (last : Identifier) (room : ℕ) (chars : List ℕ) → AreHeld (run_operations (next last) last chars) → last.counter + length chars ≤ MAX_COUNTER → length chars ≤ room → length chars ≤ length (going_on c last room)
  going_reaches last room [] held end fits = omega arith
  going_reaches last zero (ch ∷ chars) held end fits = absurd (omega (arith, fits))
  going_reaches last (suc room) (ch ∷ chars) held end fits =
      let one = goes_on c last room ch (next_found last ch held.0 (omega (arith, end))) in
      let more = going_reaches (next last) room chars held.1 (omega (arith, end)) (omega (arith, fits)) in
      omega (arith, ap length one, more)

  deleted_reach : (last : Identifier) (room count : ℕ) → AreHeld (deletions_from (next last) count) → last.counter + count ≤ MAX_COUNTER → count ≤ room → count ≤ deletions_behind c last room
  deleted_reach last room zero held end fits = omega arith
  deleted_reach last zero (suc count) held end fits = absurd (omega (arith, fits))
  deleted_reach last (suc room) (suc count) held end fits =
      let below : nat_lt last.counter MAX_COUNTER ≡ true = lt-ltb last.counter MAX_COUNTER (omega (arith, end)) in
      let is : is_next_deleted c last ≡ true = (λ k. below k && held.0 k) in
      let more = deleted_reach (next last) room count held.1 (omega (arith, end)) (omega (arith, fits)) in
      omega (arith, one_deleted c last room is, more)

  run_reaches : (first parent : Identifier) (chars : List ℕ) (x : Identifier × Element) → AreHeld (run_operations first parent chars) → first.counter + length chars ≤ MAX_COUNTER + 1 → length chars ≤ MAX_RUN
      → Contains (run_operations first parent chars) (insertion_of x) → first.counter + length chars ≤ x.0.counter + run_size c x
  run_reaches first parent [] x held end few m = absurd (Contains-nil (insertion_of x) m)
  run_reaches first parent (ch ∷ chars) x held end few m = elim (Contains-cases (Insert first parent ch) (insertion_of x) (run_operations (next first) first chars) m) [
    | inl same ↦
        let far = going_reaches first (MAX_RUN - 1) chars held.1 (omega (arith, end)) (omega (arith, few)) in
        subst (λ (i : Identifier). first.counter + suc (length chars) ≤ i.counter + suc (length (going_on c i (MAX_RUN - 1)))) (ap name_of same) (omega (arith, far))
    | inr later ↦ omega (arith, run_reaches (next first) first chars x held.1 (omega (arith, end)) (omega (arith, few)) later)
  ]

  deletions_reach : (first : Identifier) (count : ℕ) (x : Identifier) → AreHeld (deletions_from first count) → first.counter + count ≤ MAX_COUNTER + 1 → count ≤ MAX_RUN
      → Contains (deletions_from first count) (Delete x) → first.counter + count ≤ x.counter + deletion_size c MAX_RUN x
  deletions_reach first zero x held end few m = absurd (Contains-nil (Delete x) m)
  deletions_reach first (suc count) x held end few m = elim (Contains-cases (Delete first) (Delete x) (deletions_from (next first) count) m) [
    | inl same ↦
        let far = deleted_reach first (MAX_RUN - 1) count held.1 (omega (arith, end)) (omega (arith, few)) in
        subst (λ (i : Identifier). first.counter + suc count ≤ i.counter + suc (deletions_behind c i (MAX_RUN - 1))) (ap name_of same) (omega (arith, far))
    | inr later ↦ omega (arith, deletions_reach (next first) count x held.1 (omega (arith, end)) (omega (arith, few)) later)
  ]

  -- ---- no line has two of them

  only : (o a : Op) → Contains (o ∷ []) a → o ≡ a
  only o a m = elim (Contains-cases o a [] m) [ inl same ↦ same | inr later ↦ absurd (Contains-nil a later) ]

  -- two of one operation have one name
  one_name : (o a b : Op) → Contains (o ∷ []) a → Contains (o ∷ []) b → T (is_lt (id_cmp (name_of a) (name_of b))) → ⊥
  one_name o a b m n above = grind arith

  module _ (line : List ℕ) (held : AreHeld (said (operations_at line))) where
    -- by what the line says
    held_in : (r : AnyReading) → any_line_at line ≡ r → AreHeld (said (operations_in r))
    held_in r says = subst AreHeld (ap said (stands line r says)) held

    says_in : (r : AnyReading) (op : Op) → any_line_at line ≡ r → Says line op → Contains (said (operations_in r)) op
    says_in r op says m = subst (λ (ops : List Op). Contains ops op) (ap said (stands line r says)) m

    insertions_apart : (x y : Identifier × Element) → IsBehind (λ (e : Identifier × Element). e.0) (run_size c) x y → Says line (insertion_of x) → Says line (insertion_of y) → ⊥
    insertions_apart x y behind m n = by_reading (any_line_at line) refl
      where
        by_reading : (r : AnyReading) → any_line_at line ≡ r → ⊥
        by_reading (Ok (One op)) says = one_name op (insertion_of x) (insertion_of y) (says_in (Ok (One op)) (insertion_of x) says m) (says_in (Ok (One op)) (insertion_of y) says n) behind.above
        by_reading (Ok (Run r)) says =
            let run : IsRun r = any_run line r says in
            let first = says_in (Ok (Run r)) (insertion_of x) says m in
            let second = says_in (Ok (Run r)) (insertion_of y) says n in
            let within = (among_run r.id r.parent r.chars (insertion_of y) second).0 in
            let same : y.0.replica ≡ x.0.replica = within.replica ∙ sym (among_run r.id r.parent r.chars (insertion_of x) first).0.replica in
            let less : x.0.counter < y.0.counter = larger_counter x.0 y.0 behind.above same in
            not_among x.0 (run_size c x) y.0 behind.outside (record {
              replica = same;
              from = omega (arith, less);
              to = omega (arith, within.to, run_reaches r.id r.parent r.chars x (held_in (Ok (Run r)) says) run.end run.few first);
            })
        by_reading (Ok (Deletions r)) says = true≢false (sym (among_deletions r.id r.count (insertion_of x) (says_in (Ok (Deletions r)) (insertion_of x) says m)).1)
        by_reading r says = Contains-nil (insertion_of x) (says_in r (insertion_of x) says m)

    deletions_apart : (most : ℕ) → (is_deletion_run (any_line_at line) ≡ true → most ≡ MAX_RUN) → (x y : Identifier) → IsBehind (λ (id : Identifier). id) (deletion_size c most) x y → Says line (Delete x) → Says line (Delete y) → ⊥
    deletions_apart most runs x y behind m n = by_reading (any_line_at line) refl
      where
        by_reading : (r : AnyReading) → any_line_at line ≡ r → ⊥
        by_reading (Ok (One op)) says = one_name op (Delete x) (Delete y) (says_in (Ok (One op)) (Delete x) says m) (says_in (Ok (One op)) (Delete y) says n) behind.above
        by_reading (Ok (Run r)) says = true≢false (among_run r.id r.parent r.chars (Delete x) (says_in (Ok (Run r)) (Delete x) says m)).1
        by_reading (Ok (Deletions r)) says =
            let run : IsDeletionRun r = any_deletions line r says in
            let first = says_in (Ok (Deletions r)) (Delete x) says m in
            let second = says_in (Ok (Deletions r)) (Delete y) says n in
            let within = (among_deletions r.id r.count (Delete y) second).0 in
            let same : y.replica ≡ x.replica = within.replica ∙ sym (among_deletions r.id r.count (Delete x) first).0.replica in
            let less : x.counter < y.counter = larger_counter x y behind.above same in
            let all : most ≡ MAX_RUN = runs (ap is_deletion_run says) in
            not_among x (deletion_size c most x) y behind.outside (record {
              replica = same;
              from = omega (arith, less);
              to = subst (λ (size : ℕ). y.counter < x.counter + deletion_size c size x) (sym all) (omega (arith, within.to, deletions_reach r.id r.count x (held_in (Ok (Deletions r)) says) run.end run.few first));
            })
        by_reading r says = Contains-nil (Delete x) (says_in r (Delete x) says m)

    kinds_apart : (a b : Op) → is_deletion a ≡ false → is_deletion b ≡ true → Says line a → Says line b → ⊥
    kinds_apart a b p q m n = by_reading (any_line_at line) refl
      where
        by_reading : (r : AnyReading) → any_line_at line ≡ r → ⊥
        by_reading (Ok (One op)) says = true≢false (sym q ∙ ap is_deletion (sym (only op b (says_in (Ok (One op)) b says n)) ∙ only op a (says_in (Ok (One op)) a says m)) ∙ p)
        by_reading (Ok (Run r)) says = true≢false (sym q ∙ (among_run r.id r.parent r.chars b (says_in (Ok (Run r)) b says n)).1)
        by_reading (Ok (Deletions r)) says = true≢false (sym (among_deletions r.id r.count a (says_in (Ok (Deletions r)) a says m)).1 ∙ p)
        by_reading r says = Contains-nil a (says_in r a says m)

  -- ---- of all lines

  record Fits (most : ℕ) (line : List ℕ) : Type 0 where
    held : AreHeld (said (operations_at line))
    runs : is_deletion_run (any_line_at line) ≡ true → most ≡ MAX_RUN

  all_lines_apart : (most : ℕ) (a b : Op) (lines : List (List ℕ)) → ((line : List ℕ) → Fits most line → Says line a → Says line b → ⊥) → AllByRecursion (Fits most) lines → AreApart lines a b
  all_lines_apart most a b lines apart h = all_map (Fits most) (λ line. Says line a → Says line b → ⊥) apart lines h

  module _ (most : ℕ) (lines : List (List ℕ)) (fits : AllByRecursion (Fits most) lines) where
    abbrev inserted : Identifier × Element → Identifier
    inserted e = e.0

    abbrev itself : Identifier → Identifier
    itself id = id

    deletion_behind : (x : Identifier) (ids : List Identifier) → AllByRecursion (IsBehind itself (deletion_size c most) x) ids → AllByRecursion (AreApart lines (Delete x)) (map Delete ids)
    deletion_behind x [] h = tt
    deletion_behind x (y ∷ ids) h = (all_lines_apart most (Delete x) (Delete y) lines (λ line f. deletions_apart line f.held most f.runs x y h.0) fits, deletion_behind x ids h.1)

    deletions_behind_apart : (ids : List Identifier) → AreBehind itself (deletion_size c most) ids → AllApart lines (map Delete ids)
    deletions_behind_apart [] h = tt
    deletions_behind_apart (x ∷ ids) h = (deletion_behind x ids h.0, deletions_behind_apart ids h.1)

    insertion_behind : (x : Identifier × Element) (es : List (Identifier × Element)) (ids : List Identifier) → AllByRecursion (IsBehind inserted (run_size c) x) es → AllByRecursion (AreApart lines (insertion_of x)) (map insertion_of es ++ map Delete ids)
    insertion_behind x [] [] h = tt
    insertion_behind x [] (y ∷ ids) h = (all_lines_apart most (insertion_of x) (Delete y) lines (λ line f. kinds_apart line f.held (insertion_of x) (Delete y) refl refl) fits, insertion_behind x [] ids h)
    insertion_behind x (y ∷ es) ids h = (all_lines_apart most (insertion_of x) (insertion_of y) lines (λ line f. insertions_apart line f.held x y h.0) fits, insertion_behind x es ids h.1)

    all_behind_apart : (es : List (Identifier × Element)) (ids : List Identifier) → AreBehind inserted (run_size c) es → AreBehind itself (deletion_size c most) ids → AllApart lines (map insertion_of es ++ map Delete ids)
    all_behind_apart [] ids h k = deletions_behind_apart ids k
    all_behind_apart (x ∷ es) ids h k = (insertion_behind x es ids h.0, all_behind_apart es ids h.1 k)

-- ---- a log that is compacted

-- what a list that agrees has is in its content
agreed_holds : (ops : List Op) → IsAgreed ops → (op : Op) → Contains ops op → Holds (content_of ops) op
agreed_holds ops agreed (Insert id parent ch) m = (inserted-iff ops agreed id (element parent ch)).1 m
agreed_holds ops agreed (Delete id) m = (deleted-iff ops id).1 m

content_has : (ops : List Op) (op : Op) → Holds (content_of ops) op → Contains ops op
content_has ops (Insert id parent ch) h = content_inserted ops id (element parent ch) h
content_has ops (Delete id) h = content_deleted ops id h

list_held : (c : Content) (ops : List Op) → ((op : Op) → Contains ops op → Holds c op) → AllByRecursion (Holds c) ops
list_held c ops h = recursion_from_All (Holds c) ops (All-weaker (Contains ops) (Holds c) h ops (All-contains_itself ops))

abbrev in_line : List (List ℕ) → Op → Result (List Op) LineFault → Type 0
in_line lines op r = Contains (then_operations r (operations_of lines)) op

said_of : (lines : List (List ℕ)) (op : Op) → AllByRecursion IsOperation lines → Contains (operations_of lines) op → Said lines op
said_of [] op all m = absurd (Contains-nil op m)
said_of (line ∷ lines) op all m =
    let ops : List Op = all.0.0 in
    let is : operations_at line ≡ Ok ops = all.0.1 in
    elim (Contains-append ops (operations_of lines) op (subst (in_line lines op) is m)) [
      | inl here ↦ inl (subst (λ (r : Result (List Op) LineFault). Contains (said r) op) (sym is) here)
      | inr later ↦ inr (said_of lines op all.1 later)
    ]

all_said : (lines : List (List ℕ)) → AllByRecursion IsOperation lines → (es : List (Identifier × Element)) (ids : List Identifier)
    → AllByRecursion (λ e. Holds (content_of (operations_of lines)) (insertion_of e)) es → AllByRecursion (λ id. Holds (content_of (operations_of lines)) (Delete id)) ids → AllByRecursion (Said lines) (map insertion_of es ++ map Delete ids)
all_said lines all [] [] h k = tt
all_said lines all [] (id ∷ ids) h k = (said_of lines (Delete id) all (content_has (operations_of lines) (Delete id) k.0), all_said lines all [] ids h k.1)
all_said lines all (e ∷ es) ids h k = (said_of lines (insertion_of e) all (content_has (operations_of lines) (insertion_of e) h.0), all_said lines all es ids h.1 k)

all_fit : (c : Content) (most : ℕ) (lines : List (List ℕ)) → AllByRecursion IsOperation lines → ((op : Op) → Contains (operations_of lines) op → Holds c op) → (have_deletion_runs lines ≡ true → most ≡ MAX_RUN) → AllByRecursion (Fits c most) lines
all_fit c most [] all holds runs = tt
all_fit c most (line ∷ lines) all holds runs =
    let ops : List Op = all.0.0 in
    let is : operations_at line ≡ Ok ops = all.0.1 in (
      record {
        held = subst (λ (r : Result (List Op) LineFault). AllByRecursion (Holds c) (said r)) (sym is)
            (list_held c ops (λ op m. holds op (subst (in_line lines op) (sym is) (Contains-append_left ops (operations_of lines) op m))));
        runs = λ one. runs (or_left (is_deletion_run (any_line_at line)) (have_deletion_runs lines) one);
      },
      all_fit c most lines all.1 (λ op m. holds op (subst (in_line lines op) (sym is) (Contains-append_right ops (operations_of lines) op m))) (λ some. runs (or_right (is_deletion_run (any_line_at line)) (have_deletion_runs lines) some)),
    )

pub first_apart : (dels : Bool) (lines : List (List ℕ)) → AllByRecursion IsOperation lines → IsAgreed (operations_of lines) → AllApart lines (first_operations (dels || have_deletion_runs lines) (content_of (operations_of lines)))
first_apart dels lines all agreed =
    let c = content_of (operations_of lines) in
    let runs = dels || have_deletion_runs lines in
    let most = most_deletions runs in
    let fits = all_fit c most lines all (agreed_holds (operations_of lines) agreed) (λ some. ap most_deletions (or_right dels (have_deletion_runs lines) some)) in
    all_behind_apart c most lines fits (run_beginnings c) (deletion_beginnings c most)
    (beginnings_behind (λ (e : Identifier × Element). e.0) (run_size c) [] (finite_map.entries c.inserted) (entries_rise (finite_map.entries c.inserted) (finite_map.entries_sorted c.inserted)))
    (beginnings_behind (λ (id : Identifier). id) (deletion_size c most) [] (rising (finite_set.items c.deleted)) (rising_rise (finite_set.items c.deleted)))

-- each line has a first operation
as_many : (dels : Bool) (c : Content) → length (first_operations dels c) ≡ length (compact_lines dels c)
as_many dels c = grind (arith, length-append, length-map)

pub no_more_lines : (dels : Bool) (lines : List (List ℕ)) → AllByRecursion IsOperation lines → IsAgreed (operations_of lines) → length (compact_lines (dels || have_deletion_runs lines) (content_of (operations_of lines))) ≤ length lines
no_more_lines dels lines all agreed =
    let c = content_of (operations_of lines) in
    let runs = dels || have_deletion_runs lines in
    let fewer = no_more lines (first_operations runs c) (all_said lines all (run_beginnings c) (deletion_beginnings c (most_deletions runs)) (all_run_beginnings c) (all_deletion_beginnings c (most_deletions runs))) (first_apart dels lines all agreed) in
    omega (arith, fewer, as_many runs c)
