-- Which logs stay as they are.
use Rattle.std.proofs.Common.{◌≡◌, ℕ, Bool, true, false, List, [], ◌∷◌, ◌++◌, Ok, Err, refl, sym, ap, ap₂, subst, inl, inr, ◌∙◌, arith}
use Rattle.std.specs.Prelude.{Contains, ◌⊎◌}
use Rattle.std.specs.List.{flat_map, AllByRecursion}
use Rattle.std.proofs.lemmas.Bool.{true≢false, false_from_ne_true, and_parts}
use Rattle.std.proofs.lemmas.List.Elements.{Contains-append_left, Contains-append_right}
use Rattle.rga_ops.specs.Identifier.{Identifier, is_id}
use Rattle.rga_ops.specs.Content.{IsAgreed}
use Rattle.rga_ops.specs.declared.op.Op.{Op}
use Rattle.rga_ops.specs.declared.op.Op.TheVariants.{Insert, Delete}
use Rattle.rga_ops.proofs.IdentifierLaws.{is_id-is}
use Rattle.rga_lines.specs.Log.{operations_at, operations_of, then_operations, log_operations, IsOperation, HasOnlyOperations}
use Rattle.rga_lines.specs.Stream.{newline, lines_of, rest_of, bytes_of_lines}
use Rattle.rga_lines.proofs.StandLemmas.{nothing_stands}
use Rattle.rga_lines.proofs.StreamLemmas.{is_cut}
use Rattle.mgr_mend.specs.Mending.{Said, operations_said, line_operations, all_lines, whole_operations, is_less_line, beats, is_beaten, unbeaten, have_beaten, fate, mended_as, refused_as, mended_part, refused_part, mended_line, refused_line, mended, refused_of, is_faulty, is_beaten_line, one_if, fate_count, is_torn, left_out_of, nothing_left_out}
use Rattle.mgr_mend.specs.declared.fate.Fate.{Fate}
use Rattle.mgr_mend.specs.declared.fate.Fate.TheVariants.{Kept}
use Rattle.mgr_mend.proofs.BeatsLemmas.{beats-itself, none_of}

-- ---- operations that agree

agreed_beats : (ops : List Op) → IsAgreed ops → (x y : Op) → Contains ops x → Contains ops y → beats x y ≡ false
agreed_beats ops agreed (Delete a) y here there = refl
agreed_beats ops agreed (Insert a f c) (Delete b) here there = refl
agreed_beats ops agreed (Insert a f c) (Insert b g d) here there =
    false_from_ne_true (beats (Insert a f c) (Insert b g d)) (λ e.
    let id : a ≡ b = is_id-is a b (and_parts (is_id a b) (is_less_line (Insert a f c) (Insert b g d)) e).0 in
    let same = agreed a f g c d here (subst (λ (i : Identifier). Contains ops (Insert i g d)) (sym id) there) in
    let one : Insert a f c ≡ Insert b g d = λ i. Insert (id i) (same.0 i) (same.1 i) in
    true≢false (sym (subst (λ (o : Op). beats (Insert a f c) o ≡ true) (sym one) e) ∙ beats-itself (Insert a f c)))

pub agreed_beaten : (ops : List Op) → IsAgreed ops → (op : Op) → Contains ops op → is_beaten ops op ≡ false
agreed_beaten ops agreed op there = none_of (λ other. beats other op) ops (λ other here. agreed_beats ops agreed other op here there)

-- ---- lines that are kept

abbrev IsUnbeaten : List Op → List Op → Type 0
IsUnbeaten all ops = (op : Op) → Contains ops op → is_beaten all op ≡ false

not_beaten : (all : List Op) (s : Said) → IsUnbeaten all (operations_said s) → is_beaten_line (fate all s) ≡ false
not_beaten all (Ok ops) none = rw (none_of (is_beaten all) ops none) refl
not_beaten all (Err e) none = refl

-- the line has the fate of one that is kept
abbrev pub IsKept : List Op → List ℕ → Type 0
IsKept all line = fate all (operations_at line) ≡ Kept

kept_operation : (all : List Op) (line : List ℕ) → IsOperation line → IsUnbeaten all (line_operations line) → IsKept all line
kept_operation all line (ops, e) none =
    let unbeaten_ops : have_beaten all ops ≡ false = none_of (is_beaten all) ops (subst (λ (s : Said). IsUnbeaten all (operations_said s)) e none) in
    ap (fate all) e ∙ rw unbeaten_ops refl

-- all are kept, and the rest is, or there is none
pub record AllKept (all : List Op) (lines : List (List ℕ)) (rest : List ℕ) : Type 0 where
  pub lines_are : AllByRecursion (IsKept all) lines
  pub rest_is : (rest ≡ []) ⊎ IsKept all rest

mended_kept : (all : List Op) (lines : List (List ℕ)) → AllByRecursion (IsKept all) lines → flat_map (mended_line all) lines ≡ bytes_of_lines lines
mended_kept all [] kept = refl
mended_kept all (line ∷ lines) (first, later) =
    ap₂ (λ (f : Fate) (more : List ℕ). mended_as f (line ++ newline ∷ []) (unbeaten all (line_operations line)) ++ more) first (mended_kept all lines later)

refused_kept : (all : List Op) (lines : List (List ℕ)) → AllByRecursion (IsKept all) lines → flat_map (refused_line all) lines ≡ []
refused_kept all [] kept = refl
refused_kept all (line ∷ lines) (first, later) =
    ap₂ (λ (f : Fate) (more : List ℕ). refused_as f (line ++ newline ∷ []) ++ more) first (refused_kept all lines later)

mended_rest : (all : List Op) (rest : List ℕ) → (rest ≡ []) ⊎ IsKept all rest → mended_part all rest (operations_at rest) ≡ rest
mended_rest all rest (inl none) =
    ap (λ (r : List ℕ). mended_part all r (operations_at r)) none ∙ ap (mended_part all []) nothing_stands ∙ sym none
mended_rest all rest (inr kept) = ap (λ (f : Fate). mended_as f rest (unbeaten all (line_operations rest))) kept

refused_rest : (all : List Op) (rest : List ℕ) → (rest ≡ []) ⊎ IsKept all rest → refused_part all rest (operations_at rest) ≡ []
refused_rest all rest (inl none) =
    ap (λ (r : List ℕ). refused_part all r (operations_at r)) none ∙ ap (refused_part all []) nothing_stands
refused_rest all rest (inr kept) = ap (λ (f : Fate). refused_as f rest) kept

pub kept_stays : (bytes : List ℕ) → AllKept (whole_operations bytes) (lines_of bytes) (rest_of bytes) → mended bytes ≡ bytes
kept_stays bytes kept =
    ap₂ (λ (front back : List ℕ). front ++ back) (mended_kept (whole_operations bytes) (lines_of bytes) kept.lines_are) (mended_rest (whole_operations bytes) (rest_of bytes) kept.rest_is)
    ∙ sym (is_cut bytes).whole

pub kept_refuses : (bytes : List ℕ) → AllKept (whole_operations bytes) (lines_of bytes) (rest_of bytes) → refused_of bytes ≡ []
kept_refuses bytes kept =
    ap₂ (λ (front back : List ℕ). front ++ back) (refused_kept (whole_operations bytes) (lines_of bytes) kept.lines_are) (refused_rest (whole_operations bytes) (rest_of bytes) kept.rest_is)

count_none : (test : Fate → Bool) (all : List Op) (lines : List (List ℕ)) → AllByRecursion (λ line. test (fate all (operations_at line)) ≡ false) lines → fate_count test all lines ≡ 0
count_none test all [] none = refl
count_none test all (line ∷ lines) (first, later) = let zero : one_if (test (fate all (operations_at line))) ≡ 0 = ap one_if first in omega (arith, zero, count_none test all lines later)

-- ---- a log that is accepted

one_last : (s : Said) → then_operations s [] ≡ operations_said s ++ []
one_last (Ok ops) = refl
one_last (Err e) = refl

-- the operations up to the first line that is none are all, where the last one alone may be none
pub log_is_whole : (lines : List (List ℕ)) (last : List ℕ) → AllByRecursion IsOperation lines → operations_of (lines ++ last ∷ []) ≡ flat_map line_operations (lines ++ last ∷ [])
log_is_whole [] last all = one_last (operations_at last)
log_is_whole (line ∷ lines) last ((ops, e), all) =
    ap (λ (s : Said). then_operations s (operations_of (lines ++ last ∷ []))) e
    ∙ ap (λ (more : List Op). ops ++ more) (log_is_whole lines last all)
    ∙ ap (λ (s : Said). operations_said s ++ flat_map line_operations (lines ++ last ∷ [])) (sym e)

pub accepted_is_whole : (bytes : List ℕ) → HasOnlyOperations bytes → log_operations bytes ≡ whole_operations bytes
accepted_is_whole bytes only = log_is_whole (lines_of bytes) (rest_of bytes) only.lines

unbeaten_lines : (all : List Op) (lines : List (List ℕ)) → IsUnbeaten all (flat_map line_operations lines) → AllByRecursion (λ line. IsUnbeaten all (line_operations line)) lines
unbeaten_lines all [] none = tt
unbeaten_lines all (line ∷ lines) none = (
  λ op there. none op (Contains-append_left (line_operations line) (flat_map line_operations lines) op there),
  unbeaten_lines all lines (λ op there. none op (Contains-append_right (line_operations line) (flat_map line_operations lines) op there)),
)

kept_lines : (all : List Op) (lines : List (List ℕ)) (last : List ℕ) → AllByRecursion IsOperation lines → AllByRecursion (λ line. IsUnbeaten all (line_operations line)) (lines ++ last ∷ []) → AllByRecursion (IsKept all) lines
kept_lines all [] last are none = tt
kept_lines all (line ∷ lines) last (is, are) (here, later) = (kept_operation all line is here, kept_lines all lines last are later)

last_unbeaten : (all : List Op) (lines : List (List ℕ)) (last : List ℕ) → AllByRecursion (λ line. IsUnbeaten all (line_operations line)) (lines ++ last ∷ []) → IsUnbeaten all (line_operations last)
last_unbeaten all [] last (here, later) = here
last_unbeaten all (line ∷ lines) last (here, later) = last_unbeaten all lines last later

pub accepted_kept : (bytes : List ℕ) → HasOnlyOperations bytes → IsAgreed (log_operations bytes) → AllKept (whole_operations bytes) (lines_of bytes) (rest_of bytes)
accepted_kept bytes only agreed =
    let all = whole_operations bytes in
    let agree : IsAgreed all = subst IsAgreed (accepted_is_whole bytes only) agreed in
    let none = unbeaten_lines all (all_lines bytes) (agreed_beaten all agree) in
    record {
      lines_are = kept_lines all (lines_of bytes) (rest_of bytes) only.lines none;
      rest_is = elim only.rest [
        | inl nothing ↦ inl nothing
        | inr is ↦ inr (kept_operation all (rest_of bytes) is (last_unbeaten all (lines_of bytes) (rest_of bytes) none))
      ];
    }

faulty_none : (all : List Op) (lines : List (List ℕ)) → AllByRecursion (IsKept all) lines → AllByRecursion (λ line. is_faulty (fate all (operations_at line)) ≡ false) lines
faulty_none all [] kept = tt
faulty_none all (line ∷ lines) (first, later) = (ap is_faulty first, faulty_none all lines later)

beaten_none : (all : List Op) (lines : List (List ℕ)) → AllByRecursion (λ line. IsUnbeaten all (line_operations line)) lines → AllByRecursion (λ line. is_beaten_line (fate all (operations_at line)) ≡ false) lines
beaten_none all [] none = tt
beaten_none all (line ∷ lines) (first, later) = (not_beaten all (operations_at line) first, beaten_none all lines later)

torn_none : (all : List Op) (rest : List ℕ) → (rest ≡ []) ⊎ IsKept all rest → is_torn all rest ≡ false
torn_none all [] kept = refl
torn_none all (b ∷ rest) (inl none) = absurd cc
torn_none all (b ∷ rest) (inr kept) = ap is_faulty kept

pub accepted_counts : (bytes : List ℕ) → HasOnlyOperations bytes → IsAgreed (log_operations bytes) → left_out_of bytes ≡ nothing_left_out
accepted_counts bytes only agreed =
    let all = whole_operations bytes in
    let agree : IsAgreed all = subst IsAgreed (accepted_is_whole bytes only) agreed in
    let kept = accepted_kept bytes only agreed in
    let faulty = count_none is_faulty all (lines_of bytes) (faulty_none all (lines_of bytes) kept.lines_are) in
    let beaten = count_none is_beaten_line all (all_lines bytes) (beaten_none all (all_lines bytes) (unbeaten_lines all (all_lines bytes) (agreed_beaten all agree))) in
    let torn = torn_none all (rest_of bytes) kept.rest_is in
    λ i. record { faulty = faulty i; beaten = beaten i; torn = torn i; excess = 0 }
