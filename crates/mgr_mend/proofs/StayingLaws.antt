-- What stays in a mended log: the operations that are not beaten, in their order.
use Rattle.std.proofs.Common.{◌≡◌, ◌≢◌, ℕ, Bool, true, false, not, ◌&&◌, ◌||◌, if◌then◌else◌, List, [], ◌∷◌, ◌++◌, map, get_or, Ok, Err, refl, sym, ap, ap₂, subst, inl, inr, ◌∙◌, append_assoc, append-nil}
use Rattle.std.specs.Prelude.{All, Contains, ◌⊎◌, ◌↔◌}
use Rattle.std.specs.Ordering.{nat_cmp, is_lt, ordering_reverse}
use Rattle.std.specs.declared.cmp.Ordering.{Ordering}
use Rattle.std.specs.declared.cmp.Ordering.TheVariants.{Less, Equal, Greater}
use Rattle.std.specs.Cmp.Lexicographic.{slice_cmp, nat_list_cmp_total}
use Rattle.std.specs.FinMap.{slice_cmp-IsAntisymmetric, nat_cmp-IsAntisymmetric}
use Rattle.std.specs.List.{flat_map, AllByRecursion}
use Rattle.std.proofs.lemmas.Bool.{true≢false, false_from_ne_true, not-true}
use Rattle.std.proofs.lemmas.List.Concat.{flat_map-append}
use Rattle.std.proofs.lemmas.List.Elements.{All-nil, All-cons, All-head, All-tail, All-append, All-filter, All-contains, All-contains_itself, All-from_recursion, recursion_from_All, filter-append, filter_passes, Contains-get_or, Contains-append_left, Contains-append_right}
use Rattle.rga_ops.specs.Operation.{checked}
use Rattle.rga_ops.specs.Content.{IsAgreed, HasSameOperations, content_of}
use Rattle.rga_ops.specs.declared.op.Op.{Op}
use Rattle.rga_ops.specs.declared.op.Op.TheVariants.{Insert}
use Rattle.rga_ops.proofs.IdentifierLaws.{is_id-itself}
use Rattle.rga_ops.proofs.OperationLaws.{Contains-first, Contains-later, Contains-cases, Contains-nil, same_operations_same_content}
use Rattle.rga_lines.specs.Log.{operations_at, operations_of, log_operations, IsOperation, HasOnlyOperations}
use Rattle.rga_lines.specs.Spelling.{line as canonical, IsWritable}
use Rattle.rga_lines.specs.Stream.{newline, lines_of, rest_of, HasNoNewline, bytes_of_lines}
use Rattle.rga_lines.proofs.NewlineLemmas.{line_has_none}
use Rattle.rga_lines.proofs.StandLemmas.{AreChecked, stands_for, stand_checked, line_stands, nothing_stands}
use Rattle.rga_lines.proofs.StreamLemmas.{is_cut, only_cut}
use Rattle.rga_exchange.specs.Sending.{log_text, AreWritable}
use Rattle.mgr_mend.specs.Mending.{Said, operations_said, line_operations, all_lines, whole_operations, IsBeaten, is_less_line, is_beaten, unbeaten, have_beaten, fate, mended_as, refused_as, mended_part, refused_part, mended_line, mended_from, mended, StaysWhole, IsLeftOut}
use Rattle.mgr_mend.specs.Parts.{AreWritableIfSound}
use Rattle.mgr_mend.specs.declared.fate.Fate.{Fate}
use Rattle.mgr_mend.specs.declared.fate.Fate.TheVariants.{Kept, Beaten, Faulty}
use Rattle.mgr_mend.proofs.BeatsLemmas.{unbeaten_of, is_beaten_says, says_is_beaten}
use Rattle.mgr_mend.proofs.AcceptedLaws.{log_is_whole}

-- ---- operations that can be written and read back

abbrev IsChecked : Op → Type 0
IsChecked op = checked op ≡ Ok tt

abbrev ReadsBack : Op → Type 0
ReadsBack op = IsWritable op × IsChecked op

said_checked : (l : List ℕ) → AreChecked (line_operations l)
said_checked l = by (operations_at l) refl
  where
    by : (s : Said) → operations_at l ≡ s → AreChecked (operations_said s)
    by (Ok ops) e = stand_checked l ops e
    by (Err fault) e = tt

all_checked : (lines : List (List ℕ)) → All IsChecked (flat_map line_operations lines)
all_checked [] = All-nil IsChecked
all_checked (l ∷ lines) = All-append IsChecked (line_operations l) (flat_map line_operations lines) (All-from_recursion IsChecked (line_operations l) (said_checked l)) (all_checked lines)

read_back : (ops : List Op) → AreWritable ops → All IsChecked ops → All ReadsBack ops
read_back ops writable well = λ k d within. (writable (get_or ops k d) (Contains-get_or ops k d within), well k d within)

in_front : (xs ys : List Op) → All ReadsBack (xs ++ ys) → All ReadsBack xs
in_front xs ys back = λ k d within. All-contains ReadsBack (xs ++ ys) (get_or xs k d) back (Contains-append_left xs ys (get_or xs k d) (Contains-get_or xs k d within))

behind : (xs ys : List Op) → All ReadsBack (xs ++ ys) → All ReadsBack ys
behind xs ys back = λ k d within. All-contains ReadsBack (xs ++ ys) (get_or ys k d) back (Contains-append_right xs ys (get_or ys k d) (Contains-get_or ys k d within))

-- ---- lines and their operations

-- each is an operation, with no newline, and they stand for these
record AreLinesOf (lines : List (List ℕ)) (ops : List Op) : Type 0 where
  clear : All HasNoNewline lines
  are : All IsOperation lines
  operations : flat_map line_operations lines ≡ ops

no_lines : AreLinesOf [] []
no_lines = record { clear = All-nil HasNoNewline; are = All-nil IsOperation; operations = refl }

one_line : (l : List ℕ) (ops : List Op) → HasNoNewline l → operations_at l ≡ Ok ops → AreLinesOf (l ∷ []) ops
one_line l ops none is = record {
  clear = All-cons HasNoNewline l [] none (All-nil HasNoNewline);
  are = All-cons IsOperation l [] (ops, is) (All-nil IsOperation);
  operations = append-nil (line_operations l) ∙ ap operations_said is;
}

more_lines : (xs ys : List (List ℕ)) (a b : List Op) → AreLinesOf xs a → AreLinesOf ys b → AreLinesOf (xs ++ ys) (a ++ b)
more_lines xs ys a b f g = record {
  clear = All-append HasNoNewline xs ys f.clear g.clear;
  are = All-append IsOperation xs ys f.are g.are;
  operations = flat_map-append line_operations xs ys ∙ ap₂ (λ (front back : List Op). front ++ back) f.operations g.operations;
}

canonical_lines : (ops : List Op) → All ReadsBack ops → AreLinesOf (map canonical ops) ops
canonical_lines [] back = no_lines
canonical_lines (op ∷ ops) back =
    let first : ReadsBack op = All-head ReadsBack op ops back in
    more_lines (canonical op ∷ []) (map canonical ops) (op ∷ []) ops (one_line (canonical op) (op ∷ []) (line_has_none op first.0) (line_stands op first.0 first.1)) (canonical_lines ops (All-tail ReadsBack op ops back))

all_stay : (all ops : List Op) → have_beaten all ops ≡ false → unbeaten all ops ≡ ops
all_stay all [] none = refl
all_stay all (op ∷ ops) none = by (is_beaten all op) none (all_stay all ops)
  where
    by : (t : Bool) → (t || have_beaten all ops) ≡ false → (have_beaten all ops ≡ false → unbeaten all ops ≡ ops) → (if not t then op ∷ unbeaten all ops else unbeaten all ops) ≡ op ∷ ops
    by true e later = absurd (true≢false e)
    by false e later = ap (λ (l : List Op). op ∷ l) (later e)

-- ---- the lines of a mended log

-- those that a line leaves in it
abbrev lines_as : Fate → List ℕ → List Op → List (List ℕ)
lines_as Kept l stay = l ∷ []
lines_as Beaten l stay = map canonical stay
lines_as Faulty l stay = []

-- those that the rest leaves, and its own rest
abbrev rest_lines : Fate → List Op → List (List ℕ)
rest_lines Beaten stay = map canonical stay
rest_lines f stay = []

abbrev rest_as : Fate → List ℕ → List ℕ
rest_as Kept rest = rest
rest_as f rest = []

as_lines : (f : Fate) (l : List ℕ) (stay : List Op) → mended_as f (l ++ newline ∷ []) stay ≡ bytes_of_lines (lines_as f l stay)
as_lines Kept l stay = sym (append-nil (l ++ newline ∷ []))
as_lines Beaten l stay = refl
as_lines Faulty l stay = refl

as_rest : (f : Fate) (rest : List ℕ) (stay : List Op) → mended_as f rest stay ≡ bytes_of_lines (rest_lines f stay) ++ rest_as f rest
as_rest Kept rest stay = refl
as_rest Beaten rest stay = sym (append-nil (log_text stay))
as_rest Faulty rest stay = refl

abbrev own : List Op → List ℕ → List (List ℕ)
own all l = lines_as (fate all (operations_at l)) l (unbeaten all (line_operations l))

abbrev last_lines : List Op → List ℕ → List (List ℕ)
last_lines all rest = rest_lines (fate all (operations_at rest)) (unbeaten all (line_operations rest))

abbrev last_rest : List Op → List ℕ → List ℕ
last_rest all rest = rest_as (fate all (operations_at rest)) rest

abbrev ended : List ℕ → List ℕ
ended l = l ++ newline ∷ []

made : (all : List Op) (lines : List (List ℕ)) → flat_map (mended_line all) lines ≡ bytes_of_lines (flat_map (own all) lines)
made all [] = refl
made all (l ∷ lines) =
    ap₂ (λ (front back : List ℕ). front ++ back) (as_lines (fate all (operations_at l)) l (unbeaten all (line_operations l))) (made all lines)
    ∙ sym (flat_map-append ended (own all l) (flat_map (own all) lines))

made_whole : (all : List Op) (lines : List (List ℕ)) (rest : List ℕ) → mended_from all lines rest ≡ bytes_of_lines (flat_map (own all) lines ++ last_lines all rest) ++ last_rest all rest
made_whole all lines rest =
    ap₂ (λ (front back : List ℕ). front ++ back) (made all lines) (as_rest (fate all (operations_at rest)) rest (unbeaten all (line_operations rest)))
    ∙ sym (append_assoc (bytes_of_lines (flat_map (own all) lines)) (bytes_of_lines (last_lines all rest)) (last_rest all rest))
    ∙ ap (λ (front : List ℕ). front ++ last_rest all rest) (sym (flat_map-append ended (flat_map (own all) lines) (last_lines all rest)))

-- ---- and what they stand for

staying_lines : (all ops : List Op) → All ReadsBack ops → AreLinesOf (map canonical (unbeaten all ops)) (unbeaten all ops)
staying_lines all ops back = canonical_lines (unbeaten all ops) (All-filter (λ op. not (is_beaten all op)) ReadsBack ops back)

own_lines : (all : List Op) (l : List ℕ) → HasNoNewline l → All ReadsBack (line_operations l) → AreLinesOf (own all l) (unbeaten all (line_operations l))
own_lines all l none back = by_said (operations_at l) refl back
  where
    by_said : (s : Said) → operations_at l ≡ s → All ReadsBack (operations_said s) → AreLinesOf (lines_as (fate all s) l (unbeaten all (operations_said s))) (unbeaten all (operations_said s))
    by_said (Err e) is h = no_lines
    by_said (Ok ops) is h = by_beaten (have_beaten all ops) refl
      where
        by_beaten : (t : Bool) → have_beaten all ops ≡ t → AreLinesOf (lines_as (if t then Beaten else Kept) l (unbeaten all ops)) (unbeaten all ops)
        by_beaten true e = staying_lines all ops h
        by_beaten false e = subst (AreLinesOf (l ∷ [])) (sym (all_stay all ops e)) (one_line l ops none is)

all_own : (all : List Op) (lines : List (List ℕ)) → All HasNoNewline lines → All ReadsBack (flat_map line_operations lines) → AreLinesOf (flat_map (own all) lines) (unbeaten all (flat_map line_operations lines))
all_own all [] none back = no_lines
all_own all (l ∷ lines) none back =
    subst (AreLinesOf (own all l ++ flat_map (own all) lines)) (sym (filter-append (λ op. not (is_beaten all op)) (line_operations l) (flat_map line_operations lines)))
    (more_lines (own all l) (flat_map (own all) lines) (unbeaten all (line_operations l)) (unbeaten all (flat_map line_operations lines))
    (own_lines all l (All-head HasNoNewline l lines none) (in_front (line_operations l) (flat_map line_operations lines) back))
    (all_own all lines (All-tail HasNoNewline l lines none) (behind (line_operations l) (flat_map line_operations lines) back)))

-- lines, and a rest that is one operation or none, which stand for these
record AreWithRest (lines : List (List ℕ)) (rest : List ℕ) (ops : List Op) : Type 0 where
  before : List Op
  are : AreLinesOf lines before
  clear : HasNoNewline rest
  ends : (rest ≡ []) ⊎ IsOperation rest
  operations : before ++ line_operations rest ≡ ops

no_operations : line_operations [] ≡ []
no_operations = ap operations_said nothing_stands

with_rest : (all : List Op) (rest : List ℕ) → HasNoNewline rest → All ReadsBack (line_operations rest) → AreWithRest (last_lines all rest) (last_rest all rest) (unbeaten all (line_operations rest))
with_rest all rest none back = by_said (operations_at rest) refl back
  where
    by_said : (s : Said) → operations_at rest ≡ s → All ReadsBack (operations_said s) → AreWithRest (rest_lines (fate all s) (unbeaten all (operations_said s))) (rest_as (fate all s) rest) (unbeaten all (operations_said s))
    by_said (Err e) is h = record { before = []; are = no_lines; clear = All-nil (λ b. b ≢ newline); ends = inl refl; operations = no_operations }
    by_said (Ok ops) is h = by_beaten (have_beaten all ops) refl
      where
        by_beaten : (t : Bool) → have_beaten all ops ≡ t → AreWithRest (rest_lines (if t then Beaten else Kept) (unbeaten all ops)) (rest_as (if t then Beaten else Kept) rest) (unbeaten all ops)
        by_beaten true e = record {
          before = unbeaten all ops;
          are = staying_lines all ops h;
          clear = All-nil (λ b. b ≢ newline);
          ends = inl refl;
          operations = ap (λ (back : List Op). unbeaten all ops ++ back) no_operations ∙ append-nil (unbeaten all ops);
        }
        by_beaten false e = record { before = []; are = no_lines; clear = none; ends = inr (ops, is); operations = ap operations_said is ∙ sym (all_stay all ops e) }

-- ---- the cut of a mended log

module _ (bytes : List ℕ) (writable : AreWritable (whole_operations bytes)) where
  abbrev every : List Op
  every = whole_operations bytes

  abbrev of_lines : List Op
  of_lines = flat_map line_operations (lines_of bytes)

  abbrev of_rest : List Op
  of_rest = line_operations (rest_of bytes)

  abbrev made_lines : List (List ℕ)
  made_lines = flat_map (own every) (lines_of bytes) ++ last_lines every (rest_of bytes)

  abbrev made_rest : List ℕ
  made_rest = last_rest every (rest_of bytes)

  parts : every ≡ of_lines ++ of_rest
  parts = flat_map-append line_operations (lines_of bytes) (rest_of bytes ∷ []) ∙ ap (λ (back : List Op). of_lines ++ back) (append-nil of_rest)

  backs : All ReadsBack (of_lines ++ of_rest)
  backs = subst (All ReadsBack) parts (read_back every writable (all_checked (all_lines bytes)))

  ending : AreWithRest (last_lines every (rest_of bytes)) made_rest (unbeaten every of_rest)
  ending = with_rest every (rest_of bytes) (is_cut bytes).rest_has_none (behind of_lines of_rest backs)

  made_are : AreLinesOf made_lines (unbeaten every of_lines ++ ending.before)
  made_are =
      more_lines (flat_map (own every) (lines_of bytes)) (last_lines every (rest_of bytes)) (unbeaten every of_lines) ending.before
      (all_own every (lines_of bytes) (is_cut bytes).lines_have_none (in_front of_lines of_rest backs)) ending.are

  only : AllByRecursion IsOperation made_lines
  only = recursion_from_All IsOperation made_lines made_are.are

  cuts : (made_lines ≡ lines_of (mended bytes)) × (made_rest ≡ rest_of (mended bytes))
  cuts = only_cut (mended bytes) made_lines made_rest (record { whole = made_whole every (lines_of bytes) (rest_of bytes); lines_have_none = made_are.clear; rest_has_none = ending.clear })

  pub staying_only : HasOnlyOperations (mended bytes)
  staying_only = record {
    lines = subst (AllByRecursion IsOperation) cuts.0 only;
    rest = subst (λ (r : List ℕ). (r ≡ []) ⊎ IsOperation r) cuts.1 ending.ends;
  }

  -- the operations of a mended log are those that are not beaten
  pub staying_operations : log_operations (mended bytes) ≡ unbeaten (whole_operations bytes) (whole_operations bytes)
  staying_operations =
      ap₂ (λ (ls : List (List ℕ)) (r : List ℕ). operations_of (ls ++ r ∷ [])) (sym cuts.0) (sym cuts.1)
      ∙ log_is_whole made_lines made_rest only
      ∙ flat_map-append line_operations made_lines (made_rest ∷ [])
      ∙ ap₂ (λ (front back : List Op). front ++ back) made_are.operations (append-nil (line_operations made_rest))
      ∙ append_assoc (unbeaten every of_lines) ending.before (line_operations made_rest)
      ∙ ap (λ (back : List Op). unbeaten every of_lines ++ back) ending.operations
      ∙ sym (filter-append (λ op. not (is_beaten every op)) of_lines of_rest)
      ∙ ap (unbeaten every) (sym parts)

-- ---- as sets

among_unbeaten : (all ops : List Op) (op : Op) → Contains (unbeaten all ops) op → Contains ops op × (is_beaten all op ≡ false)
among_unbeaten all ops op there =
    let stays : Op → Bool = λ x. not (is_beaten all x) in (
      All-contains (Contains ops) (unbeaten all ops) op (All-filter stays (Contains ops) ops (All-contains_itself ops)) there,
      not-true (is_beaten all op) (All-contains (λ x. not (is_beaten all x) ≡ true) (unbeaten all ops) op (filter_passes stays ops) there),
    )

in_unbeaten : (all ops : List Op) (op : Op) → Contains ops op → is_beaten all op ≡ false → Contains (unbeaten all ops) op
in_unbeaten all [] op there e = absurd (Contains-nil op there)
in_unbeaten all (x ∷ ops) op there e = by (is_beaten all x) refl (λ h. in_unbeaten all ops op h e) (Contains-cases x op ops there)
  where
    by : (t : Bool) → is_beaten all x ≡ t → (Contains ops op → Contains (unbeaten all ops) op) → (x ≡ op) ⊎ Contains ops op → Contains (if not t then x ∷ unbeaten all ops else unbeaten all ops) op
    by true s more (inl here) = absurd (true≢false (sym s ∙ ap (is_beaten all) here ∙ e))
    by true s more (inr later) = more later
    by false s more (inl here) = subst (Contains (x ∷ unbeaten all ops)) here (Contains-first x (unbeaten all ops))
    by false s more (inr later) = Contains-later x op (unbeaten all ops) (more later)

pub staying_members : (bytes : List ℕ) → AreWritable (whole_operations bytes) → (op : Op)
    → Contains (log_operations (mended bytes)) op ↔ (Contains (whole_operations bytes) op × ¬ IsBeaten (whole_operations bytes) op)
staying_members bytes writable op = (
  λ there.
      let in_all = among_unbeaten all all op (subst (λ (ops : List Op). Contains ops op) is there) in
      (in_all.0, λ (beaten : IsBeaten all op). true≢false (sym (says_is_beaten all op beaten) ∙ in_all.1)),
  λ stays. subst (λ (ops : List Op). Contains ops op) (sym is) (in_unbeaten all all op stays.0 (false_from_ne_true (is_beaten all op) (λ e. stays.1 (is_beaten_says all op e)))),
)
  where
    all : List Op
    all = whole_operations bytes

    is : log_operations (mended bytes) ≡ unbeaten all all
    is = staying_operations bytes writable

-- ---- they agree

same_lines : (a b : List ℕ) → is_lt (slice_cmp nat_cmp a b) ≡ false → is_lt (slice_cmp nat_cmp b a) ≡ false → a ≡ b
same_lines a b p q = by (slice_cmp nat_cmp a b) refl
  where
    by : (r : Ordering) → slice_cmp nat_cmp a b ≡ r → a ≡ b
    by Less e = absurd (true≢false (sym (ap is_lt e) ∙ p))
    by Equal e = slice_cmp-IsAntisymmetric nat_cmp-IsAntisymmetric a b e
    by Greater e = absurd (true≢false (sym (ap is_lt (nat_list_cmp_total.antisymm b a ∙ ap ordering_reverse e)) ∙ q))

same_insertion : (x y : Op) → ReadsBack x → ReadsBack y → canonical x ≡ canonical y → x ≡ y
same_insertion x y here there e =
    let one : stands_for (x ∷ []) ≡ stands_for (y ∷ []) = sym (line_stands x here.0 here.1) ∙ ap operations_at e ∙ line_stands y there.0 there.1 in
    cc

unbeaten_agree : (all : List Op) → All ReadsBack all → IsAgreed (unbeaten all all)
unbeaten_agree all back id parent other ch char here there =
    let x = Insert id parent ch in
    let y = Insert id other char in
    let one = among_unbeaten all all x here in
    let two = among_unbeaten all all y there in
    let first : is_less_line x y ≡ false = sym (ap (λ (t : Bool). t && is_less_line x y) (is_id-itself id)) ∙ unbeaten_of all x y two.1 one.0 in
    let second : is_less_line y x ≡ false = sym (ap (λ (t : Bool). t && is_less_line y x) (is_id-itself id)) ∙ unbeaten_of all y x one.1 two.0 in
    let same : Insert id parent ch ≡ Insert id other char = same_insertion x y (All-contains ReadsBack all x back one.0) (All-contains ReadsBack all y back two.0) (same_lines (canonical x) (canonical y) first second) in
    (cc, cc)

-- what a log has is well-formed
pub whole_writable : (bytes : List ℕ) → AreWritableIfSound (whole_operations bytes) → AreWritable (whole_operations bytes)
whole_writable bytes writable op there = writable op there (All-contains IsChecked (whole_operations bytes) op (all_checked (all_lines bytes)) there)

pub staying_agree : (bytes : List ℕ) → AreWritable (whole_operations bytes) → IsAgreed (log_operations (mended bytes))
staying_agree bytes writable =
    subst IsAgreed (sym (staying_operations bytes writable)) (unbeaten_agree (whole_operations bytes) (read_back (whole_operations bytes) writable (all_checked (all_lines bytes))))

-- ---- logs with the same operations

one_way : (bytes others : List ℕ) → AreWritable (whole_operations bytes) → AreWritable (whole_operations others) → HasSameOperations (whole_operations bytes) (whole_operations others) → (op : Op)
    → Contains (log_operations (mended bytes)) op → Contains (log_operations (mended others)) op
one_way bytes others here there same op has =
    let stays = (staying_members bytes here op).0 has in
    (staying_members others there op).1 ((same op).0 stays.0, λ (beaten : IsBeaten (whole_operations others) op). stays.1 (beaten.0, (same beaten.0).1 beaten.1, beaten.2))

pub mended_alike : (bytes others : List ℕ) → AreWritable (whole_operations bytes) → AreWritable (whole_operations others) → HasSameOperations (whole_operations bytes) (whole_operations others)
    → content_of (log_operations (mended bytes)) ≡ content_of (log_operations (mended others))
mended_alike bytes others here there same =
    same_operations_same_content (log_operations (mended bytes)) (log_operations (mended others)) (staying_agree bytes here)
    (λ op. (one_way bytes others here there same op, one_way others bytes there here (λ x. ((same x).1, (same x).0)) op))

-- ---- one line

pub stays_or_left_out : (all : List Op) (l : List ℕ) → StaysWhole all l ⊎ IsLeftOut all l
stays_or_left_out all l = by (operations_at l)
  where
    by : (s : Said)
        → ((mended_part all (l ++ newline ∷ []) s ≡ l ++ newline ∷ []) × (refused_part all (l ++ newline ∷ []) s ≡ []))
        ⊎ ((refused_part all (l ++ newline ∷ []) s ≡ l ++ newline ∷ []) × (mended_part all (l ++ newline ∷ []) s ≡ log_text (unbeaten all (operations_said s))))
    by (Err e) = inr (refl, refl)
    by (Ok ops) = by_beaten (have_beaten all ops)
      where
        by_beaten : (t : Bool)
            → ((mended_as (if t then Beaten else Kept) (l ++ newline ∷ []) (unbeaten all ops) ≡ l ++ newline ∷ []) × (refused_as (if t then Beaten else Kept) (l ++ newline ∷ []) ≡ []))
            ⊎ ((refused_as (if t then Beaten else Kept) (l ++ newline ∷ []) ≡ l ++ newline ∷ []) × (mended_as (if t then Beaten else Kept) (l ++ newline ∷ []) (unbeaten all ops) ≡ log_text (unbeaten all ops)))
        by_beaten true = inr (refl, refl)
        by_beaten false = inl (refl, refl)
