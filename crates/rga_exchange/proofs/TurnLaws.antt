-- Operation by operation come the compacted lines.
use Rattle.std.proofs.Common.{◌≡◌, ℕ, ◌+◌, ◌<◌, ◌≤◌, Bool, true, false, cond, List, [], ◌∷◌, ◌++◌, map, length, drop, get_or, Option, Ok, append_assoc, append-nil, refl, sym, ap, ◌∙◌, subst, T, le-ltb, arith}
use Rattle.std.specs.Prelude.{Contains}
use Rattle.std.specs.List.{AllByRecursion}
use Rattle.std.specs.Ordering.{is_lt}
use Rattle.std.specs.FinMap as finite_map
use Rattle.std.specs.FinSet as finite_set
use Rattle.std.specs.FinMap.{FinMap, is_sorted}
use Rattle.std.specs.FinMap.Entries.{below_all}
use Rattle.std.proofs.lemmas.List.{drop_all, drop_more, length-append}
use Rattle.std.proofs.lemmas.List.Concat.{flat_map-append}
use Rattle.rga_ops.specs.Identifier.{Identifier, id_cmp}
use Rattle.rga_ops.specs.Content.{Element, element, Content, IsSound}
use Rattle.rga_ops.specs.Operations.{alone, insertion_of, rising, operations}
use Rattle.rga_ops.specs.declared.op.Op.{Op}
use Rattle.rga_ops.specs.declared.op.Op.TheVariants.{Insert, Delete}
use Rattle.rga_ops.specs.Operation.{checked}
use Rattle.rga_ops.specs.ListAnswer.{AreWellFormed}
use Rattle.rga_ops.proofs.OperationsLaws.{operations_hold}
use Rattle.rga_exchange.specs.Counting.{Calls, WritesAllBut}
use Rattle.rga_lines.specs.Stream.{newline, bytes_of_lines}
use Rattle.rga_exchange.proofs.BegunLemmas.{begun_next}
use Rattle.rga_exchange.proofs.FindingLaws.{later_above, later_sorted}
use Rattle.rga_exchange.specs.RunLines.{stretch_line}
use Rattle.rga_exchange.specs.Compacting.{is_in_some, beginnings, run_of, run_size, deletion_run_of, deletion_size, deletion_runs, most_deletions, deletion_line, compact_lines}
use Rattle.rga_exchange.specs.Turns.{covers, ends_with, ends_behind, deleted_behind, lines_at, lines_from}

-- a larger identifier of the same replica has a larger counter
pub larger_counter : (a b : Identifier) → T (is_lt (id_cmp a b)) → b.replica ≡ a.replica → a.counter < b.counter
larger_counter a b h same = grind arith

-- ---- those that begin a run

module _ {A : Type 0} (name : A → Identifier) where
  -- the identifiers of these rise from this one on
  abbrev pub AreAbove : Identifier → List A → Type 0
  AreAbove id xs = AllByRecursion (λ x. T (is_lt (id_cmp id (name x)))) xs

  abbrev pub Rise : List A → Type 0
  Rise [] = Unit {0}
  Rise (x ∷ xs) = AreAbove (name x) xs × Rise xs

module _ {A : Type 0} (name : A → Identifier) (size : A → ℕ) where
  -- the ends tell of each of these whether it is in one of the runs
  abbrev pub Match : List A → (ℕ → ℕ) → List A → Type 0
  Match begun ends xs = AllByRecursion (λ x. is_in_some name size begun (name x) ≡ covers ends (name x)) xs

  module _ (b : A) (begun : List A) (ends : ℕ → ℕ) (new : covers ends (name b) ≡ false) where
    -- what is behind one that begins a run is in this run, or as before
    matches : (id : Identifier) → T (is_lt (id_cmp (name b) id)) → is_in_some name size begun id ≡ covers ends id → is_in_some name size (b ∷ begun) id ≡ covers (ends_with ends (name b) (size b)) id
    matches id behind before = grind arith

    matches_all : (xs : List A) → AreAbove name (name b) xs → Match begun ends xs → Match (b ∷ begun) (ends_with ends (name b) (size b)) xs
    matches_all [] above h = tt
    matches_all (x ∷ xs) above h = (matches (name x) above.0 h.0, matches_all xs above.1 h.1)

  none_matches : (xs : List A) → Match [] (λ _. 0) xs
  none_matches [] = tt
  none_matches (x ∷ xs) = (sym (le-ltb (name x).counter 0 (omega arith)), none_matches xs)

  -- in turn, those that no run covers are spelled: these begin the runs
  module _ {R : Type 0} (make : A → R) (spell : R → List ℕ) where
    abbrev turned : (ℕ → ℕ) → List A → List (List ℕ)
    turned ends [] = []
    turned ends (x ∷ xs) = cond (covers ends (name x)) [] (spell (make x) ∷ []) ++ turned (cond (covers ends (name x)) ends (ends_with ends (name x) (size x))) xs

    turned_is : (begun : List A) (ends : ℕ → ℕ) (xs : List A) → Rise name xs → Match begun ends xs → turned ends xs ≡ map spell (map make (beginnings name size begun xs))
    turned_is begun ends [] rise h = refl
    turned_is begun ends (x ∷ xs) rise h =
        by_choice (covers ends (name x)) refl (turned_is begun ends xs rise.1 h.1) (λ new. turned_is (x ∷ begun) (ends_with ends (name x) (size x)) xs rise.1 (matches_all x begun ends new xs rise.0 h.1))
        ∙ ap (λ b. map spell (map make (cond b (beginnings name size begun xs) (x ∷ beginnings name size (x ∷ begun) xs)))) (sym h.0)
      where
        by_choice : (b : Bool) → covers ends (name x) ≡ b → turned ends xs ≡ map spell (map make (beginnings name size begun xs)) → (covers ends (name x) ≡ false → turned (ends_with ends (name x) (size x)) xs ≡ map spell (map make (beginnings name size (x ∷ begun) xs)))
            → cond b [] (spell (make x) ∷ []) ++ turned (cond b ends (ends_with ends (name x) (size x))) xs ≡ map spell (map make (cond b (beginnings name size begun xs) (x ∷ beginnings name size (x ∷ begun) xs)))
        by_choice true is with_it without = with_it
        by_choice false is with_it without = ap (λ (ls : List (List ℕ)). spell (make x) ∷ ls) (without is)

module _ {B : Type 0} where
  abbrev key : Identifier × B → Identifier
  key e = e.0

  above_key : (id : Identifier) (es : List (Identifier × B)) → T (below_all id_cmp id es) → AreAbove key id es
  above_key id [] h = tt
  above_key id (e ∷ es) h = ((later_above id e es h).0, above_key id es (later_above id e es h).1)

  pub entries_rise : (es : List (Identifier × B)) → T (is_sorted id_cmp es) → Rise key es
  entries_rise [] h = tt
  entries_rise (e ∷ es) h = (above_key e.0 es (later_sorted e es h).0, entries_rise es (later_sorted e es h).1)

  keys_above : (id : Identifier) (es : List (Identifier × B)) → AreAbove key id es → AreAbove (λ (i : Identifier). i) id (map key es)
  keys_above id [] h = tt
  keys_above id (e ∷ es) h = (h.0, keys_above id es h.1)

  keys_rise : (es : List (Identifier × B)) → Rise key es → Rise (λ (i : Identifier). i) (map key es)
  keys_rise [] h = tt
  keys_rise (e ∷ es) h = (keys_above e.0 es h.0, keys_rise es h.1)

-- the deletions of a content rise
pub rising_rise : (ids : List Identifier) → Rise (λ (i : Identifier). i) (rising ids)
rising_rise ids =
    let m : FinMap id_cmp (Unit {0}) = finite_map.from_entries {R = id_cmp} (map alone ids) in
    keys_rise (finite_map.entries m) (entries_rise (finite_map.entries m) (finite_map.entries_sorted m))

-- ---- the lines in turn

abbrev itself : Identifier → Identifier
itself id = id

module _ (c : Content) (most : ℕ) where
  deletions_turned : (ends deleted : ℕ → ℕ) (ids : List Identifier) → lines_from c most ends deleted (map Delete ids) ≡ turned itself (deletion_size c most) (deletion_run_of c most) deletion_line deleted ids
  deletions_turned ends deleted [] = refl
  deletions_turned ends deleted (id ∷ ids) = ap (λ (ls : List (List ℕ)). lines_at c most ends deleted (Delete id) ++ ls) (deletions_turned ends (deleted_behind c most deleted (Delete id)) ids)

  insertions_turned : (ends deleted : ℕ → ℕ) (es : List (Identifier × Element)) (ops : List Op) (more : List (List ℕ)) → ((f : ℕ → ℕ) → lines_from c most f deleted ops ≡ more) → lines_from c most ends deleted (map insertion_of es ++ ops) ≡ turned key (run_size c) (run_of c) stretch_line ends es ++ more
  insertions_turned ends deleted [] ops more last = last ends
  insertions_turned ends deleted (e ∷ es) ops more last =
      let next = ends_behind c ends (insertion_of e) in
      ap (λ (ls : List (List ℕ)). lines_at c most ends deleted (insertion_of e) ++ ls) (insertions_turned next deleted es ops more last)
      ∙ sym (append_assoc (lines_at c most ends deleted (insertion_of e)) (turned key (run_size c) (run_of c) stretch_line next es) more)

-- where no run is noted yet
pub all_in_turn : (c : Content) (dels : Bool) (ends deleted : ℕ → ℕ) → ((replica : ℕ) → ends replica ≡ 0) → ((replica : ℕ) → deleted replica ≡ 0) → lines_from c (most_deletions dels) ends deleted (operations c) ≡ compact_lines dels c
all_in_turn c dels ends deleted none none_deleted =
    let most = most_deletions dels in
    let ids = rising (finite_set.items c.deleted) in
    let es = finite_map.entries c.inserted in
    let deletions = map deletion_line (deletion_runs c most) in
    (λ k. lines_from c most (λ replica. none replica k) (λ replica. none_deleted replica k) (operations c))
    ∙ insertions_turned c most (λ _. 0) (λ _. 0) es (map Delete ids) deletions (λ f. deletions_turned c most f (λ _. 0) ids
    ∙ turned_is itself (deletion_size c most) (deletion_run_of c most) deletion_line [] (λ _. 0) ids (rising_rise (finite_set.items c.deleted)) (none_matches itself (deletion_size c most) ids))
    ∙ ap (λ (ls : List (List ℕ)). ls ++ deletions) (turned_is key (run_size c) (run_of c) stretch_line [] (λ _. 0) es (entries_rise es (finite_map.entries_sorted c.inserted)) (none_matches key (run_size c) es))

-- one line at most comes for an operation
at_most_one : (l : List ℕ) (b : Bool) → length (cond b [] (l ∷ [])) ≤ 1
at_most_one l true = omega arith
at_most_one l false = omega arith

pub one_at_most : (c : Content) (most : ℕ) (ends deleted : ℕ → ℕ) (op : Op) → length (lines_at c most ends deleted op) ≤ 1
one_at_most c most ends deleted (Insert id parent ch) = at_most_one (stretch_line (run_of c (id, element parent ch))) (covers ends id)
one_at_most c most ends deleted (Delete id) = at_most_one (deletion_line (deletion_run_of c most id)) (covers deleted id)

-- ---- from an operation on

-- where the runs of either kind end behind an operation
pub record Leaves (c : Content) (most : ℕ) (ends next deleted later : ℕ → ℕ) (op : Op) : Type 0 where
  pub next_is : (replica : ℕ) → next replica ≡ ends_behind c ends op replica
  pub later_is : (replica : ℕ) → later replica ≡ deleted_behind c most deleted op replica

pub lines_next : (c : Content) (most : ℕ) (ends next deleted later : ℕ → ℕ) (ops : List Op) (i : ℕ) (op : Op) → i < length ops → op ≡ get_or ops i op → Leaves c most ends next deleted later op
    → lines_from c most ends deleted (drop i ops) ≡ lines_at c most ends deleted op ++ lines_from c most next later (drop (i + 1) ops)
lines_next c most ends next deleted later ops i op within at behind = grind (arith, drop_more)

module _ {W : Type 0} (contents : W → Option (List ℕ)) where
  -- the lines that come for the next operation were added to the block
  pub begun_turn : (a b d : Calls W) (text block left : List ℕ) (c : Content) (most : ℕ) (ends next deleted later : ℕ → ℕ) (ops : List Op) (i : ℕ) (op : Op) → i < length ops → op ≡ get_or ops i op → Leaves c most ends next deleted later op
      → WritesAllBut contents a b text (block ++ bytes_of_lines (lines_from c most ends deleted (drop i ops))) → WritesAllBut contents b d (block ++ bytes_of_lines (lines_at c most ends deleted op)) left
      → WritesAllBut contents a d text (left ++ bytes_of_lines (lines_from c most next later (drop (i + 1) ops)))
  begun_turn a b d text block left c most ends next deleted later ops i op within at behind h k =
      let first : List ℕ = block ++ bytes_of_lines (lines_at c most ends deleted op) in
      let others : List ℕ = bytes_of_lines (lines_from c most next later (drop (i + 1) ops)) in
      let split : block ++ bytes_of_lines (lines_from c most ends deleted (drop i ops)) ≡ first ++ others =
      ap (λ (ls : List (List ℕ)). block ++ bytes_of_lines ls) (lines_next c most ends next deleted later ops i op within at behind)
      ∙ ap (λ (l : List ℕ). block ++ l) (flat_map-append (λ (l : List ℕ). l ++ newline ∷ []) (lines_at c most ends deleted op) (lines_from c most next later (drop (i + 1) ops)))
      ∙ sym (append_assoc block (bytes_of_lines (lines_at c most ends deleted op)) others) in
      begun_next contents a b d text first others left (subst (WritesAllBut contents a b text) split h) k

  -- behind the last operation no line is left
  pub begun_last : (a b : Calls W) (text block : List ℕ) (c : Content) (most : ℕ) (ends deleted : ℕ → ℕ) (ops : List Op) (i : ℕ) → length ops ≤ i
      → WritesAllBut contents a b text (block ++ bytes_of_lines (lines_from c most ends deleted (drop i ops))) → WritesAllBut contents a b text block
  begun_last a b text block c most ends deleted ops i past h =
      subst (WritesAllBut contents a b text) (ap (λ (os : List Op). block ++ bytes_of_lines (lines_from c most ends deleted os)) (drop_all i ops past) ∙ append-nil block) h

-- how many lines are still to come
pub fewer_left : (c : Content) (most : ℕ) (ends next deleted later : ℕ → ℕ) (ops : List Op) (i : ℕ) (op : Op) (lines number all : ℕ) → i < length ops → op ≡ get_or ops i op → Leaves c most ends next deleted later op
    → number ≡ length (lines_at c most ends deleted op) → lines + length (lines_from c most ends deleted (drop i ops)) ≡ all → lines + number + length (lines_from c most next later (drop (i + 1) ops)) ≡ all
fewer_left c most ends next deleted later ops i op lines number all within at behind count h =
    let both : length (lines_from c most ends deleted (drop i ops)) ≡ length (lines_at c most ends deleted op) + length (lines_from c most next later (drop (i + 1) ops)) =
    ap length (lines_next c most ends next deleted later ops i op within at behind) ∙ length-append (lines_at c most ends deleted op) (lines_from c most next later (drop (i + 1) ops)) in
    omega (arith, both, count, h)

pub none_left : (c : Content) (most : ℕ) (ends deleted : ℕ → ℕ) (ops : List Op) (i lines all : ℕ) → length ops ≤ i → lines + length (lines_from c most ends deleted (drop i ops)) ≡ all → lines ≡ all
none_left c most ends deleted ops i lines all past h = grind (arith, drop_all)

-- what stands in a sound content is well-formed
pub operation_well_formed : (c : Content) (ops : List Op) (i : ℕ) (op : Op) → IsSound c → ops ≡ operations c → i < length ops → op ≡ get_or ops i op → checked op ≡ Ok tt
operation_well_formed c ops i op sound are within at = sound op (operations_hold c op (subst (λ (os : List Op). Contains os op) are (i, within, sym at)))

pub operations_well_formed : (c : Content) (ops : List Op) → IsSound c → ops ≡ operations c → AreWellFormed ops
operations_well_formed c ops sound are op m = sound op (operations_hold c op (subst (λ (os : List Op). Contains os op) are m))
