-- The compacted lines of a content stand for that content.
use Rattle.std.proofs.Common.{◌≡◌, ℕ, zero, suc, ◌+◌, ◌-◌, ◌<◌, ◌≤◌, Bool, true, false, cond, ◌||◌, ◌==◌, List, [], ◌∷◌, ◌++◌, map, length, Option, Some, None, Ok, refl, sym, ap, ap₂, ◌∙◌, subst, append_assoc, append-nil, arith, inl, inr, ◌⊎◌, lit≤, lit<}
use Rattle.std.specs.Prelude.{Contains}
use Rattle.std.specs.List.{flat_map, AllByRecursion}
use Rattle.std.specs.Option.{option_map_or}
use Rattle.std.specs.FinMap as finite_map
use Rattle.std.specs.FinSet as finite_set
use Rattle.std.proofs.lemmas.Bool.{eqb-true, cases_eq}
use Rattle.std.proofs.lemmas.List.Elements.{All-nil, All-contains, All-from_recursion, Contains-append_left, Contains-append_right}
use Rattle.rga_ops.specs.Identifier.{Identifier, identifier}
use Rattle.rga_ops.specs.Content.{Element, element, Content, content_of, Holds, IsSound, IsAgreed, HasSameOperations}
use Rattle.rga_ops.specs.Operations.{insertion_of, insertions, rising, deletions, operations}
use Rattle.rga_ops.specs.declared.op.Op.{Op}
use Rattle.rga_ops.specs.declared.op.Op.TheVariants.{Insert, Delete}
use Rattle.rga_ops.proofs.OperationLaws.{Contains-first, Contains-later, Contains-cases, Contains-nil, Contains-append, content_inserted, content_deleted, same_operations_same_content}
use Rattle.rga_ops.proofs.OperationsLaws.{content_of-operations, operations_agree, operations_hold}
use Rattle.rga_lines.specs.declared.run.TheConstants.{MAX_RUN}
use Rattle.rga_lines.specs.declared.deletion_run.DeletionRun.{DeletionRun}
use Rattle.rga_lines.specs.Runs.{next, run_operations, stretch_operations, deletions_from, run_deletions, IsDeletionRun}
use Rattle.rga_lines.specs.Spelling.{line, deletion_run_line, IsElement}
use Rattle.rga_lines.specs.Stream.{rest_of, HasNoNewline}
use Rattle.rga_lines.specs.Log.{operations_at}
use Rattle.rga_lines.proofs.NewlineLemmas.{line_has_none, deletions_have_none}
use Rattle.rga_lines.proofs.DeletionLemmas.{above_root, deletions_checked}
use Rattle.rga_lines.proofs.ReadBack.{within}
use Rattle.rga_lines.proofs.StandLemmas.{line_stands, deletions_stand}
use Rattle.rga_exchange.specs.RunLines.{stretch_line}
use Rattle.rga_exchange.specs.Sending.{AreWritable, StandsFor}
use Rattle.rga_exchange.proofs.AppendedLaws.{Stand, stand_cons, cut_again, stands_so}
use Rattle.rga_exchange.proofs.RunLineLaws.{IsSayable, AreSayable, run_says}
use Rattle.rga_ops.proofs.MemberLaws.{all_map}
use Rattle.rga_exchange.specs.Compacting.{next_character, going_on, run_of, is_among, is_in_some, beginnings, run_size, run_beginnings, is_next_deleted, deletions_behind, most_deletions, deletion_run_of, deletion_size, deletion_beginnings, deletion_line, compact_lines, compact_text}
use Rattle.rga_exchange.proofs.GoingOnLemmas.{next_is, length-going_on, next_deleted_is, few_deleted, deleted_within}

-- ---- those that begin a run, and what is in the runs

-- what holds of all holds of those that begin a run
pub begin_all : {A : Type 0} (name : A → Identifier) (size : A → ℕ) (P : A → Type 0) (begun xs : List A) → AllByRecursion P xs → AllByRecursion P (beginnings name size begun xs)
begin_all name size P begun [] h = tt
begin_all name size P begun (x ∷ xs) h = grind (arith, begin_all name size P begun xs h.1, begin_all name size P (x ∷ begun) xs h.1)

-- what an identifier is that is one of so many
pub record IsAmong (first : Identifier) (count : ℕ) (id : Identifier) : Type 0 where
  pub replica : id.replica ≡ first.replica
  pub from : first.counter ≤ id.counter
  pub to : id.counter < first.counter + count

pub among : (first : Identifier) (count : ℕ) (id : Identifier) → is_among first count id ≡ true → IsAmong first count id
among first count id h = grind arith

-- Each says an operation of its own. The run that begins with one has its operation, and those of all that are among the
-- run's.
module _ {A : Type 0} (name : A → Identifier) (size : A → ℕ) (own : A → Op) (says : A → List Op) (P : A → Type 0) (first : (x : A) → Contains (says x) (own x))
    (others : (x y : A) → P x → P y → IsAmong (name x) (size x) (name y) → Contains (says x) (own y)) where
  in_some : (begun : List A) (y : A) → AllByRecursion P begun → P y → is_in_some name size begun (name y) ≡ true → Contains (flat_map says begun) (own y)
  in_some [] y held h is = absurd cc
  in_some (x ∷ begun) y held h is = by_run (is_among (name x) (size x) (name y)) refl is (λ inside. in_some begun y held.1 h inside)
    where
      by_run : (b : Bool) → is_among (name x) (size x) (name y) ≡ b → (b || is_in_some name size begun (name y)) ≡ true → (is_in_some name size begun (name y) ≡ true → Contains (flat_map says begun) (own y)) → Contains (flat_map says (x ∷ begun)) (own y)
      by_run true inside is later = Contains-append_left (says x) (flat_map says begun) (own y) (others x y held.0 h (among (name x) (size x) (name y) inside))
      by_run false inside is later = Contains-append_right (says x) (flat_map says begun) (own y) (later is)

  all_in : (begun xs : List A) → AllByRecursion P begun → AllByRecursion P xs → (op : Op) → Contains (map own xs) op → Contains (flat_map says begun ++ flat_map says (beginnings name size begun xs)) op
  all_in begun [] held h op m = absurd (Contains-nil op m)
  all_in begun (x ∷ xs) held h op m =
      by_choice (is_in_some name size begun (name x)) refl (Contains-cases (own x) op (map own xs) m) (λ n. all_in begun xs held h.1 op n) (λ n. all_in (x ∷ begun) xs (h.0, held) h.1 op n)
    where
      before : List Op
      before = flat_map says begun

      later : List Op
      later = flat_map says (beginnings name size (x ∷ begun) xs)

      moved : Contains ((says x ++ before) ++ later) op → Contains (before ++ (says x ++ later)) op
      moved n = elim (Contains-append (says x ++ before) later op n) [
        | inl front ↦ elim (Contains-append (says x) before op front) [
          | inl here ↦ Contains-append_right before (says x ++ later) op (Contains-append_left (says x) later op here)
          | inr there ↦ Contains-append_left before (says x ++ later) op there
        ]
        | inr behind ↦ Contains-append_right before (says x ++ later) op (Contains-append_right (says x) later op behind)
      ]

      by_choice : (b : Bool) → is_in_some name size begun (name x) ≡ b → (own x ≡ op) ⊎ Contains (map own xs) op → (Contains (map own xs) op → Contains (before ++ flat_map says (beginnings name size begun xs)) op) → (Contains (map own xs) op → Contains ((says x ++ before) ++ later) op)
          → Contains (before ++ flat_map says (cond b (beginnings name size begun xs) (x ∷ beginnings name size (x ∷ begun) xs))) op
      by_choice true is (inl same) with_it without = Contains-append_left before (flat_map says (beginnings name size begun xs)) op (subst (Contains before) same (in_some begun x held h.0 is))
      by_choice true is (inr n) with_it without = with_it n
      by_choice false is (inl same) with_it without =
          Contains-append_right before (says x ++ later) op (Contains-append_left (says x) later op (subst (Contains (says x)) same (first x)))
      by_choice false is (inr n) with_it without = moved (without n)

-- those of deletions from one on
in_deletions : (first : Identifier) (count : ℕ) (id : Identifier) → IsAmong first count id → Contains (deletions_from first count) (Delete id)
in_deletions first zero id h = absurd (omega (arith, h.from, h.to))
in_deletions first (suc count) id h = elim (cases_eq id.counter first.counter) [
  | inl same ↦
      let is : first ≡ id = ap₂ identifier (sym same) (sym h.replica) in
      subst (λ (i : Identifier). Contains (deletions_from first (suc count)) (Delete i)) is (Contains-first (Delete first) (deletions_from (next first) count))
  | inr other ↦
      Contains-later (Delete first) (Delete id) (deletions_from (next first) count)
      (in_deletions (next first) count id (record { replica = h.replica; from = omega (arith, h.from, other); to = omega (arith, h.to) }))
]

pub most_some : (dels : Bool) → 0 < most_deletions dels
most_some true = lit< tt
most_some false = lit< tt

pub most_few : (dels : Bool) → most_deletions dels ≤ MAX_RUN
most_few true = lit≤ tt
most_few false = lit≤ tt

-- the operations of a content, by runs
abbrev compact_operations : Content → ℕ → List Op
compact_operations c most = flat_map (λ (e : Identifier × Element). stretch_operations (run_of c e)) (run_beginnings c) ++ flat_map (λ (id : Identifier). run_deletions (deletion_run_of c most id)) (deletion_beginnings c most)

module _ (c : Content) where
  -- ---- the runs have operations of the content alone

  abbrev AreHeld : List Op → Type 0
  AreHeld ops = AllByRecursion (Holds c) ops

  going_held : (last : Identifier) (room : ℕ) → AreHeld (run_operations (next last) last (going_on c last room))
  unfolding going_on
  going_held last zero = tt
  going_held last (suc room) = by_next (next_character c last) refl (going_held (next last) room)
    where
      by_next : (o : Option ℕ) → next_character c last ≡ o → AreHeld (run_operations (next (next last)) (next last) (going_on c (next last) room)) → AreHeld (run_operations (next last) last (option_map_or (λ ch. ch ∷ going_on c (next last) room) o []))
      by_next None is later = tt
      by_next (Some ch) is later = ((next_is c last ch is).held, later)

  deletions_held : (last : Identifier) (room : ℕ) → AreHeld (deletions_from (next last) (deletions_behind c last room))
  unfolding deletions_behind
  deletions_held last zero = tt
  deletions_held last (suc room) = by_next (is_next_deleted c last) refl (deletions_held (next last) room)
    where
      by_next : (b : Bool) → is_next_deleted c last ≡ b → AreHeld (deletions_from (next (next last)) (deletions_behind c (next last) room)) → AreHeld (deletions_from (next last) (cond b (suc (deletions_behind c (next last) room)) 0))
      by_next true is later = ((next_deleted_is c last is).held, later)
      by_next false is later = tt

  abbrev IsEntry : Identifier × Element → Type 0
  IsEntry e = Holds c (insertion_of e)

  abbrev IsDeleted : Identifier → Type 0
  IsDeleted id = Holds c (Delete id)

  run_held : (e : Identifier × Element) → IsEntry e → AreHeld (stretch_operations (run_of c e))
  run_held e h = (h, going_held e.0 (MAX_RUN - 1))

  deletion_run_held : (most : ℕ) (id : Identifier) → IsDeleted id → AreHeld (run_deletions (deletion_run_of c most id))
  deletion_run_held most id h = (h, deletions_held id (most - 1))

  -- ---- and all of them

  in_run : (rid parent : Identifier) (chars : List ℕ) (id : Identifier) (x : Element) → AreHeld (run_operations rid parent chars) → IsAmong rid (length chars) id → finite_map.get c.inserted id ≡ Some x
      → Contains (run_operations rid parent chars) (Insert id x.parent x.ch)
  in_run rid parent [] id x held h found = absurd (omega (arith, h.from, h.to))
  in_run rid parent (ch ∷ chars) id x held h found = elim (cases_eq id.counter rid.counter) [
    | inl same ↦
        let is : id ≡ rid = ap₂ identifier same h.replica in
        let both : Some x ≡ Some (element parent ch) = sym found ∙ ap (finite_map.get c.inserted) is ∙ held.0 in
        let one : x ≡ element parent ch = cc in
        subst (Contains (run_operations rid parent (ch ∷ chars))) (λ k. Insert (sym is k) (sym one k).parent (sym one k).ch) (Contains-first (Insert rid parent ch) (run_operations (next rid) rid chars))
    | inr other ↦
        Contains-later (Insert rid parent ch) (Insert id x.parent x.ch) (run_operations (next rid) rid chars)
        (in_run (next rid) rid chars id x held.1 (record { replica = h.replica; from = omega (arith, h.from, other); to = omega (arith, h.to) }) found)
  ]

  each_held : {A : Type 0} (make : A → Op) (xs : List A) → ((op : Op) → Contains (map make xs) op → Holds c op) → AllByRecursion (λ x. Holds c (make x)) xs
  each_held make [] h = tt
  each_held make (x ∷ xs) h = (h (make x) (Contains-first (make x) (map make xs)), each_held make xs (λ op m. h op (Contains-later (make x) op (map make xs) m)))

  pub all_entries : AllByRecursion IsEntry (finite_map.entries c.inserted)
  all_entries = each_held insertion_of (finite_map.entries c.inserted) (λ op m. operations_hold c op (Contains-append_left (insertions c) (deletions c) op m))

  pub all_deleted : AllByRecursion IsDeleted (rising (finite_set.items c.deleted))
  all_deleted = each_held Delete (rising (finite_set.items c.deleted)) (λ op m. operations_hold c op (Contains-append_right (insertions c) (deletions c) op m))

  pub all_run_beginnings : AllByRecursion IsEntry (run_beginnings c)
  all_run_beginnings = begin_all (λ (e : Identifier × Element). e.0) (run_size c) IsEntry [] (finite_map.entries c.inserted) all_entries

  pub all_deletion_beginnings : (most : ℕ) → AllByRecursion IsDeleted (deletion_beginnings c most)
  all_deletion_beginnings most = begin_all (λ (id : Identifier). id) (deletion_size c most) IsDeleted [] (rising (finite_set.items c.deleted)) all_deleted

  all_inserted : (op : Op) → Contains (insertions c) op → Contains (flat_map (λ (e : Identifier × Element). stretch_operations (run_of c e)) (run_beginnings c)) op
  all_inserted = all_in (λ (e : Identifier × Element). e.0) (run_size c) insertion_of (λ (e : Identifier × Element). stretch_operations (run_of c e)) IsEntry
      (λ e. Contains-first (insertion_of e) (run_operations (next e.0) e.0 (going_on c e.0 (MAX_RUN - 1))))
      (λ e f p q h. in_run e.0 e.1.parent (run_of c e).chars f.0 f.1 (run_held e p) h q)
      [] (finite_map.entries c.inserted) tt all_entries

  all_gone : (most : ℕ) (op : Op) → Contains (deletions c) op → Contains (flat_map (λ (id : Identifier). run_deletions (deletion_run_of c most id)) (deletion_beginnings c most)) op
  all_gone most = all_in (λ (id : Identifier). id) (deletion_size c most) Delete (λ (id : Identifier). run_deletions (deletion_run_of c most id)) IsDeleted
      (λ id. Contains-first (Delete id) (deletions_from (next id) (deletions_behind c id (most - 1))))
      (λ id other p q h. in_deletions id (deletion_size c most id) other h)
      [] (rising (finite_set.items c.deleted)) tt all_deleted

  -- ---- the same operations

  pub held_is_had : (op : Op) → Holds c op → Contains (operations c) op
  held_is_had (Insert id parent ch) h = content_inserted (operations c) id (element parent ch) (ap (λ (d : Content). finite_map.get d.inserted id) (content_of-operations c) ∙ h)
  held_is_had (Delete id) h = content_deleted (operations c) id (ap (λ (d : Content). finite_set.contains d.deleted id) (content_of-operations c) ∙ h)

  held_of_list : (ops : List Op) (op : Op) → AreHeld ops → Contains ops op → Holds c op
  held_of_list ops op held m = All-contains (Holds c) ops op (All-from_recursion (Holds c) ops held) m

  held_of_runs : {A : Type 0} (says : A → List Op) (P : A → Type 0) → ((x : A) → P x → AreHeld (says x)) → (xs : List A) (op : Op) → AllByRecursion P xs → Contains (flat_map says xs) op → Holds c op
  held_of_runs says P held [] op h m = absurd (Contains-nil op m)
  held_of_runs says P held (x ∷ xs) op h m = elim (Contains-append (says x) (flat_map says xs) op m) [
    | inl here ↦ held_of_list (says x) op (held x h.0) here
    | inr there ↦ held_of_runs says P held xs op h.1 there
  ]

  abbrev insertion_runs : List Op
  insertion_runs = flat_map (λ (e : Identifier × Element). stretch_operations (run_of c e)) (run_beginnings c)

  abbrev deletion_part : ℕ → List Op
  deletion_part most = flat_map (λ (id : Identifier). run_deletions (deletion_run_of c most id)) (deletion_beginnings c most)

  compact_has : (most : ℕ) → HasSameOperations (compact_operations c most) (operations c)
  compact_has most op = (
    λ m. elim (Contains-append insertion_runs (deletion_part most) op m) [
      | inl here ↦ held_is_had op (held_of_runs (λ (e : Identifier × Element). stretch_operations (run_of c e)) IsEntry run_held (run_beginnings c) op all_run_beginnings here)
      | inr there ↦ held_is_had op (held_of_runs (λ (id : Identifier). run_deletions (deletion_run_of c most id)) IsDeleted (deletion_run_held most) (deletion_beginnings c most) op (all_deletion_beginnings most) there)
    ],
    λ m. elim (Contains-append (insertions c) (deletions c) op m) [
      | inl here ↦ Contains-append_left insertion_runs (deletion_part most) op (all_inserted op here)
      | inr there ↦ Contains-append_right insertion_runs (deletion_part most) op (all_gone most op there)
    ],
  )

  compact_agree : (most : ℕ) → IsAgreed (compact_operations c most)
  compact_agree most id parent other ch char m n = operations_agree c id parent other ch char ((compact_has most (Insert id parent ch)).0 m) ((compact_has most (Insert id other char)).0 n)

  compact_content : (most : ℕ) → content_of (compact_operations c most) ≡ c
  compact_content most = same_operations_same_content (compact_operations c most) (operations c) (compact_agree most) (compact_has most) ∙ content_of-operations c

  -- ---- the lines

  module _ (sound : IsSound c) (writable : AreWritable (operations c)) where
    sayable_held : (ops : List Op) → AreHeld ops → AreSayable ops
    sayable_held = all_map (Holds c) IsSayable (λ op h. (writable op (held_is_had op h), sound op h))

    -- a line that is read as these operations
    abbrev Says : List ℕ → List Op → Type 0
    Says l ops = (operations_at l ≡ Ok ops) × HasNoNewline l

    run_line_stands : (e : Identifier × Element) → IsEntry e → Says (stretch_line (run_of c e)) (stretch_operations (run_of c e))
    run_line_stands e h =
        let chars = going_on c e.0 (MAX_RUN - 1) in
        let says = run_says e.0 e.1.parent e.1.ch chars (sayable_held (stretch_operations (run_of c e)) (run_held e h)) (omega (arith, length-going_on c e.0 (MAX_RUN - 1))) in
        (says.says, says.none)

    lines_stand : {A R : Type 0} (make : A → R) (spell : R → List ℕ) (says : A → List Op) (P : A → Type 0) → ((x : A) → P x → Says (spell (make x)) (says x)) → (xs : List A) (more : List (List ℕ)) (ops : List Op) → AllByRecursion P xs → Stand more ops
        → Stand (map spell (map make xs) ++ more) (flat_map says xs ++ ops)
    lines_stand make spell says P each [] more ops h stand = stand
    lines_stand make spell says P each (x ∷ xs) more ops h stand =
        let first = each x h.0 in
        subst (Stand (map spell (map make (x ∷ xs)) ++ more)) (sym (append_assoc (says x) (flat_map says xs) ops))
        (stand_cons (spell (make x)) (says x) (map spell (map make xs) ++ more) (flat_map says xs ++ ops) first.0 first.1 (lines_stand make spell says P each xs more ops h.1 stand))

    -- the run of a deletion is one
    deletions_are_run : (most : ℕ) (id : Identifier) → 0 < most → most ≤ MAX_RUN → IsDeleted id → IsDeletionRun (deletion_run_of c most id)
    deletions_are_run most id some few h =
        let element : IsElement id = writable (Delete id) (held_is_had (Delete id) h) in
        let end = deleted_within c id (most - 1) (within id element).counter in
        record {
          element = element;
          some = omega arith;
          few = omega (arith, few_deleted c id (most - 1), some, few);
          end = omega (arith, end);
        }

    deletion_stands : (r : DeletionRun) → IsDeletionRun r → Says (deletion_line r) (run_deletions r)
    deletion_stands r h = by_count (r.count == 1) refl
      where
        by_count : (b : Bool) → (r.count == 1) ≡ b → Says (cond b (line (Delete r.id)) (deletion_run_line r)) (run_deletions r)
        by_count true is =
            let one : 1 ≡ r.count = sym (eqb-true r.count 1 is) in
            (line_stands (Delete r.id) h.element (deletions_checked r.id 1 (above_root r.id h.element)).0 ∙ ap (λ n. Ok (deletions_from r.id n)) one, line_has_none (Delete r.id) h.element)
        by_count false is = (deletions_stand r h, deletions_have_none r h)

    all_stand : (dels : Bool) → Stand (compact_lines dels c) (compact_operations c (most_deletions dels))
    all_stand dels =
        let most = most_deletions dels in
        let spelled : List (List ℕ) = map deletion_line (map (deletion_run_of c most) (deletion_beginnings c most)) in
        let ends : Stand (spelled ++ []) (deletion_part most ++ []) = lines_stand (deletion_run_of c most) deletion_line (λ (id : Identifier). run_deletions (deletion_run_of c most id)) IsDeleted
        (λ id h. deletion_stands (deletion_run_of c most id) (deletions_are_run most id (most_some dels) (most_few dels) h))
        (deletion_beginnings c most) [] [] (all_deletion_beginnings most) (record { operations = refl; all = tt; none = All-nil HasNoNewline }) in
        lines_stand (run_of c) stretch_line (λ (e : Identifier × Element). stretch_operations (run_of c e)) IsEntry
        run_line_stands (run_beginnings c) spelled (deletion_part most) all_run_beginnings
        (subst (λ (ls : List (List ℕ)). Stand ls (deletion_part most)) (append-nil spelled) (subst (Stand (spelled ++ [])) (append-nil (deletion_part most)) ends))

    -- the compacted lines stand for the content, and end in a newline
    pub compact_stands : (dels : Bool) → StandsFor (compact_text dels c) c × (rest_of (compact_text dels c) ≡ [])
    compact_stands dels =
        let stand = all_stand dels in
        let most = most_deletions dels in
        let cut = cut_again (compact_lines dels c) stand.none in (
          subst (StandsFor (compact_text dels c)) (compact_content most) (stands_so (compact_text dels c) (compact_lines dels c) (compact_operations c most) (sym cut.0) (sym cut.1) stand.all stand.operations (compact_agree most)),
          sym cut.1,
        )
