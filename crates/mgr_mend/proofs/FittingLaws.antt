-- What a note makes of the lines that it has room for: they are read whole.
use Rattle.std.proofs.Common.{◌≡◌, ◌≢◌, ◌≤◌, ℕ, ◌+◌, Bool, true, false, not, if◌then◌else◌, List, [], ◌∷◌, ◌++◌, Ok, Err, refl, sym, ap, ap₂, subst, inl, inr, ◌∙◌, arith, append-nil}
use Rattle.std.specs.Prelude.{◌⊎◌, is_ok}
use Rattle.std.specs.FinSet as finite_set
use Rattle.std.specs.List.{flat_map, AllByRecursion}
use Rattle.std.proofs.lemmas.List.Concat.{flat_map-append}
use Rattle.std.proofs.lemmas.List.Elements.{All-nil, All-from_recursion, recursion_from_All}
use Rattle.rga_ops.specs.Answer.{taken_one_by_one}
use Rattle.rga_ops.specs.Content.{Content, nothing, join, content_of, known_ids}
use Rattle.rga_ops.specs.ListAnswer.{list_answer, Verdict}
use Rattle.rga_ops.specs.declared.op.Op.{Op}
use Rattle.rga_ops.proofs.ListAnswerLaws.{list_one_by_one, one_by_one_list, list_taken-iff}
use Rattle.rga_ops.proofs.ContentLaws.{nothing_join}
use Rattle.rga_ops.proofs.KnownLaws.{known_nothing, taken_list_within}
use Rattle.rga_ops.proofs.TakenLaws.{one_by_one-append}
use Rattle.rga_lines.specs.Log.{operations_of, then_operations, log_operations, IsOperation, HasOnlyOperations}
use Rattle.rga_lines.specs.Stream.{newline, lines_of, rest_of, HasNoNewline, bytes_of_lines}
use Rattle.rga_lines.proofs.StandLemmas.{nothing_stands}
use Rattle.rga_lines.proofs.StreamLemmas.{is_cut, only_cut}
use Rattle.rga_exchange.specs.Sending.{AreWritable}
use Rattle.rga_exchange.proofs.LogLaws.{log_only_operations, log_without_fault}
use Rattle.rga_exchange.proofs.TakingLaws.{took_front}
use Rattle.mgr_show.specs.Log.{log_of}
use Rattle.mgr_show.proofs.ShownLaws.{read_is_accepted, read_to_end as shown_to_end, accepted_taken}
use Rattle.mgr_mend.specs.Mending.{Said, operations_said, line_operations, whole_operations, mended, refused_of, left_out_of, one_if}
use Rattle.mgr_mend.specs.Fitting.{rest_line, note_lines, fits, after_line, line_if, fitting, excess, excess_count, fitted, all_refused, all_left_out, with_excess}
use Rattle.mgr_mend.proofs.AcceptedLaws.{log_is_whole}
use Rattle.mgr_mend.proofs.StayingLaws.{staying_only}

-- ---- the lines that stay, as a list

abbrev own_line : Bool → List ℕ → List (List ℕ)
own_line test line = if test then line ∷ [] else []

abbrev staying : Content → List (List ℕ) → List (List ℕ)
staying c [] = []
staying c (line ∷ lines) = own_line (fits c line) line ++ staying (after_line c line) lines

as_bytes : (test : Bool) (line : List ℕ) (lines : List (List ℕ)) → line_if test line ++ bytes_of_lines lines ≡ bytes_of_lines (own_line test line ++ lines)
as_bytes true line lines = refl
as_bytes false line lines = refl

fitting_is : (c : Content) (lines : List (List ℕ)) → fitting c lines ≡ bytes_of_lines (staying c lines)
fitting_is c [] = refl
fitting_is c (line ∷ lines) =
    ap (λ (more : List ℕ). line_if (fits c line) line ++ more) (fitting_is (after_line c line) lines)
    ∙ as_bytes (fits c line) line (staying (after_line c line) lines)

own_all : (P : List ℕ → Type 0) (test : Bool) (line : List ℕ) (lines : List (List ℕ)) → P line → AllByRecursion P lines → AllByRecursion P (own_line test line ++ lines)
own_all P true line lines p all = (p, all)
own_all P false line lines p all = all

staying_all : (P : List ℕ → Type 0) (c : Content) (lines : List (List ℕ)) → AllByRecursion P lines → AllByRecursion P (staying c lines)
staying_all P c [] all = tt
staying_all P c (line ∷ lines) (p, all) = own_all P (fits c line) line (staying (after_line c line) lines) p (staying_all P (after_line c line) lines all)

-- ---- lines that are operations, and have no newline

abbrev IsLine : List ℕ → Type 0
IsLine line = HasNoNewline line × IsOperation line

both : (lines : List (List ℕ)) → AllByRecursion HasNoNewline lines → AllByRecursion IsOperation lines → AllByRecursion IsLine lines
both [] clear are = tt
both (line ∷ lines) (c, clear) (o, are) = ((c, o), both lines clear are)

clear_of : (lines : List (List ℕ)) → AllByRecursion IsLine lines → AllByRecursion HasNoNewline lines
clear_of [] all = tt
clear_of (line ∷ lines) (is, all) = (is.0, clear_of lines all)

operations_are : (lines : List (List ℕ)) → AllByRecursion IsLine lines → AllByRecursion IsOperation lines
operations_are [] all = tt
operations_are (line ∷ lines) (is, all) = (is.1, operations_are lines all)

-- those of a log that has only operations
log_lines : (log : List ℕ) → HasOnlyOperations log → AllByRecursion IsLine (note_lines log)
log_lines log only = with_rest (lines_of log) (both (lines_of log) (recursion_from_All HasNoNewline (lines_of log) (is_cut log).lines_have_none) only.lines) (rest_of log) (is_cut log).rest_has_none only.rest
  where
    last : (rest : List ℕ) → HasNoNewline rest → (rest ≡ []) ⊎ IsOperation rest → AllByRecursion IsLine (rest_line rest)
    last [] clear is = tt
    last (b ∷ rest) clear (inl none) = absurd cc
    last (b ∷ rest) clear (inr is) = ((clear, is), tt)

    with_rest : (lines : List (List ℕ)) → AllByRecursion IsLine lines → (rest : List ℕ) → HasNoNewline rest → (rest ≡ []) ⊎ IsOperation rest → AllByRecursion IsLine (lines ++ rest_line rest)
    with_rest [] all rest clear is = last rest clear is
    with_rest (line ∷ lines) (first, all) rest clear is = (first, with_rest lines all rest clear is)

-- ---- the lines of what stays

module _ (c : Content) (lines : List (List ℕ)) (all : AllByRecursion IsLine lines) where
  stays : AllByRecursion IsLine (staying c lines)
  stays = staying_all IsLine c lines all

  cuts : (staying c lines ≡ lines_of (fitting c lines)) × ([] ≡ rest_of (fitting c lines))
  cuts = only_cut (fitting c lines) (staying c lines) [] (record {
    whole = fitting_is c lines ∙ sym (append-nil (bytes_of_lines (staying c lines)));
    lines_have_none = All-from_recursion HasNoNewline (staying c lines) (clear_of (staying c lines) stays);
    rest_has_none = All-nil (λ b. b ≢ newline);
  })

  fitting_only : HasOnlyOperations (fitting c lines)
  fitting_only = record {
    lines = subst (AllByRecursion IsOperation) cuts.0 (operations_are (staying c lines) stays);
    rest = inl (sym cuts.1);
  }

  fitting_operations : log_operations (fitting c lines) ≡ operations_of (staying c lines ++ [] ∷ [])
  fitting_operations = ap₂ (λ (ls : List (List ℕ)) (r : List ℕ). operations_of (ls ++ r ∷ [])) (sym cuts.0) (sym cuts.1)

-- ---- and they are taken

abbrev Holds : Content → List (List ℕ) → Type 0
Holds c lines = (d : Content) × (taken_one_by_one 1000000 c (operations_of (lines ++ [] ∷ [])) ≡ Ok d)

no_more : operations_of ([] ∷ []) ≡ []
no_more = ap (λ (s : Said). then_operations s []) nothing_stands

is_taken : (v : Verdict) → is_ok v ≡ true → v ≡ Ok tt
is_taken (Ok u) e = refl
is_taken (Err x) e = let no : false ≡ true = e in absurd cc

takes_line : (c : Content) (line : List ℕ) (later : Content → List (List ℕ)) (t : Bool) → fits c line ≡ t → finite_set.len (known_ids c) ≤ 1000000 → IsOperation line
    → ((d : Content) → finite_set.len (known_ids d) ≤ 1000000 → Holds d (later d))
    → let d = if t then join c (content_of (line_operations line)) else c in Holds c (own_line t line ++ later d)
takes_line c line later false fit within is go_on = go_on c within
takes_line c line later true fit within (ops, is) go_on =
    let own : line_operations line ≡ ops = ap operations_said is in
    let first : taken_one_by_one 1000000 c (line_operations line) ≡ Ok (join c (content_of (line_operations line))) =
    list_one_by_one 1000000 c (line_operations line) (is_taken (list_answer 1000000 c (line_operations line)) fit) in
    let d : Content = join c (content_of (line_operations line)) in
    let more = go_on d (taken_list_within 1000000 c (line_operations line) d within first) in
    let parts : operations_of (line ∷ (later d ++ [] ∷ [])) ≡ line_operations line ++ operations_of (later d ++ [] ∷ []) =
    ap (λ (s : Said). then_operations s (operations_of (later d ++ [] ∷ []))) is ∙ ap (λ (front : List Op). front ++ operations_of (later d ++ [] ∷ [])) (sym own) in (
      more.0,
      ap (taken_one_by_one 1000000 c) parts ∙ one_by_one-append 1000000 c d (line_operations line) (operations_of (later d ++ [] ∷ [])) first ∙ more.1,
    )

staying_taken : (lines : List (List ℕ)) (c : Content) → finite_set.len (known_ids c) ≤ 1000000 → AllByRecursion IsOperation lines → Holds c (staying c lines)
staying_taken [] c within all = (c, ap (taken_one_by_one 1000000 c) no_more)
staying_taken (line ∷ lines) c within (is, all) =
    takes_line c line (λ d. staying d lines) (fits c line) refl within is (λ d known. staying_taken lines d known all)

nothing_within : finite_set.len (known_ids nothing) ≤ 1000000
nothing_within = omega (arith, known_nothing)

-- a log whose operations are taken is read
read_to_end : (log : List ℕ) (d : Content) → HasOnlyOperations log → taken_one_by_one 1000000 nothing (log_operations log) ≡ Ok d → log_of 1000000 log ≡ Ok (content_of (log_operations log))
read_to_end log d only taken =
    let ops = log_operations log in
    let said = (list_taken-iff 1000000 nothing ops).0 (one_by_one_list 1000000 nothing d ops nothing_within taken) in
    let read = log_without_fault 1000000 nothing log only said.1 said.2 in
    read_is_accepted 1000000 nothing (join nothing (content_of ops)) log read.0 read.1 read.2
    ∙ ap (λ (c : Content). Ok c) (nothing_join (content_of ops))

module _ (bytes : List ℕ) (writable : AreWritable (whole_operations bytes)) where
  own_lines : AllByRecursion IsLine (note_lines (mended bytes))
  own_lines = log_lines (mended bytes) (staying_only bytes writable)

  pub fitted_only : HasOnlyOperations (fitted bytes)
  fitted_only = fitting_only nothing (note_lines (mended bytes)) own_lines

  pub fitted_ends : rest_of (fitted bytes) ≡ []
  fitted_ends = sym (cuts nothing (note_lines (mended bytes)) own_lines).1

  pub fitted_read : log_of 1000000 (fitted bytes) ≡ Ok (content_of (log_operations (fitted bytes)))
  fitted_read =
      let lines = note_lines (mended bytes) in
      let taken = staying_taken lines nothing nothing_within (operations_are lines own_lines) in
      read_to_end (fitted bytes) taken.0 fitted_only (ap (taken_one_by_one 1000000 nothing) (fitting_operations nothing lines own_lines) ∙ taken.1)

-- ---- where there is room for all

record AllFit (c : Content) (lines : List (List ℕ)) : Type 0 where
  log : fitting c lines ≡ bytes_of_lines lines
  none : excess c lines ≡ []
  count : excess_count c lines ≡ 0

one_fits : (c : Content) (line : List ℕ) (lines : List (List ℕ)) → fits c line ≡ true → AllFit (join c (content_of (line_operations line))) lines → AllFit c (line ∷ lines)
one_fits c line lines fit later = let w = by (fits c line) fit in record { log = w.0; none = w.1; count = w.2 }
  where
    d : Content
    d = join c (content_of (line_operations line))

    by : (t : Bool) → t ≡ true → (line_if t line ++ fitting (if t then d else c) lines ≡ bytes_of_lines (line ∷ lines)) × (line_if (not t) line ++ excess (if t then d else c) lines ≡ []) × (one_if (not t) + excess_count (if t then d else c) lines ≡ 0)
    by false e = absurd cc
    by true e = (ap (λ (more : List ℕ). (line ++ newline ∷ []) ++ more) later.log, later.none, omega (arith, later.count))

all_fit : (lines : List (List ℕ)) (c d : Content) → finite_set.len (known_ids c) ≤ 1000000 → taken_one_by_one 1000000 c (flat_map line_operations lines) ≡ Ok d → AllFit c lines
all_fit [] c d within taken = record { log = refl; none = refl; count = refl }
all_fit (line ∷ lines) c d within taken =
    let own = line_operations line in
    let w = took_front 1000000 c d own (flat_map line_operations lines) taken in
    let listed : list_answer 1000000 c own ≡ Ok tt = one_by_one_list 1000000 c w.0 own within w.1 in
    let next : taken_one_by_one 1000000 c own ≡ Ok (join c (content_of own)) = list_one_by_one 1000000 c own listed in
    let e : Content = join c (content_of own) in
    let same : Ok w.0 ≡ Ok e = sym w.1 ∙ next in
    let is : w.0 ≡ e = cc in
    one_fits c line lines (ap is_ok listed)
    (all_fit lines e d (taken_list_within 1000000 c own e within next) (subst (λ x. taken_one_by_one 1000000 x (flat_map line_operations lines) ≡ Ok d) is w.2))

rest_operations : (rest : List ℕ) → flat_map line_operations (rest ∷ []) ≡ flat_map line_operations (rest_line rest)
rest_operations [] = ap (λ (s : Said). operations_said s ++ []) nothing_stands
rest_operations (b ∷ rest) = refl

note_operations : (log : List ℕ) → flat_map line_operations (lines_of log ++ rest_of log ∷ []) ≡ flat_map line_operations (note_lines log)
note_operations log =
    flat_map-append line_operations (lines_of log) (rest_of log ∷ [])
    ∙ ap (λ (back : List Op). flat_map line_operations (lines_of log) ++ back) (rest_operations (rest_of log))
    ∙ sym (flat_map-append line_operations (lines_of log) (rest_line (rest_of log)))

module _ (bytes : List ℕ) (c : Content) (read : log_of 1000000 (mended bytes) ≡ Ok c) where
  room : AllFit nothing (note_lines (mended bytes))
  room =
      let w = shown_to_end 1000000 nothing c (mended bytes) read in
      let only = log_only_operations 1000000 nothing c w.0 (mended bytes) w.1 w.2 in
      all_fit (note_lines (mended bytes)) nothing c nothing_within
      (ap (taken_one_by_one 1000000 nothing) (sym (note_operations (mended bytes)) ∙ sym (log_is_whole (lines_of (mended bytes)) (rest_of (mended bytes)) only.lines))
      ∙ accepted_taken 1000000 nothing c (mended bytes) read)

  pub room_log : fitted bytes ≡ bytes_of_lines (note_lines (mended bytes))
  room_log = room.log

  pub room_refused : all_refused bytes ≡ refused_of bytes
  room_refused = ap (λ (front : List ℕ). front ++ refused_of bytes) room.none

  pub room_left_out : all_left_out bytes ≡ left_out_of bytes
  room_left_out = ap (λ (n : ℕ). with_excess n (left_out_of bytes)) room.count
