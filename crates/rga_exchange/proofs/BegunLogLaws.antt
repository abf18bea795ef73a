-- What is written of a log may be cut anywhere.
use Rattle.std.proofs.Common.{◌≡◌, ℕ, ◌+◌, ◌≤◌, lit≤, List, [], ◌∷◌, ◌++◌, map, length, take, drop, get_or, Ok, Err, refl, sym, ap, ◌∙◌, subst, append_assoc, append-nil, length-append, inl, inr, ◌⊎◌, arith}
use Rattle.std.specs.List.{AllByRecursion}
use Rattle.std.proofs.lemmas.Bool.{cases_lt}
use Rattle.std.proofs.lemmas.List.{take-append-drop, get_or_append_left}
use Rattle.std.proofs.Math.Seq.{take-append_seam, take-append-add}
use Rattle.rga_ops.specs.Operation.{checked}
use Rattle.rga_ops.specs.Content.{Content, join, content_of, IsAgreed}
use Rattle.rga_ops.specs.ListAnswer.{AreWellFormed, IsJoinable}
use Rattle.rga_ops.specs.declared.op.Op.{Op}
use Rattle.rga_ops.proofs.OperationLaws.{Contains-first, content_of-append}
use Rattle.rga_ops.proofs.ListAnswerLaws.{joinable_append}
use Rattle.rga_ops.proofs.MemberLaws.{all_append}
use Rattle.std.proofs.lemmas.List.Elements.{All-nil}
use Rattle.rga_lines.specs.declared.line.TheConstants.{MAX_LINE}
use Rattle.rga_lines.specs.declared.fault.LineFault.{LineFault}
use Rattle.rga_lines.specs.Log.{operations_at, then_operations, operations_of, log_operations, IsOperation}
use Rattle.rga_lines.specs.Spelling.{line, IsWritable}
use Rattle.rga_lines.specs.Stream.{newline, lines_of, rest_of, bytes_of_lines, HasNoNewline}
use Rattle.rga_lines.proofs.StreamLemmas.{lines-none, rest-none, lines-line, rest-line, lines-append_ended, rest-append_ended}
use Rattle.rga_lines.proofs.StandLemmas.{stands_for, stands_for_none, nothing_stands, long_stands, line_stands, beginning_stands}
use Rattle.rga_lines.proofs.NewlineLemmas.{line_has_none}
use Rattle.rga_exchange.specs.Sending.{log_text, AreWritable, StandsFor, GainsFirst}
use Rattle.rga_exchange.proofs.TakingLaws.{operations_of-append}
use Rattle.rga_exchange.proofs.AppendedLaws.{later_writable, later_well_formed, Stand, stand_cons, operations_ended, agreed_append}

-- ---- lines that say operations

-- a line that says these operations, and with anything cut off its end none
pub record Says (text : List ℕ) (ops : List Op) : Type 0 where
  pub none : HasNoNewline text
  pub says : operations_at text ≡ Ok ops
  pub cut : (front : List ℕ) (b : ℕ) (back : List ℕ) → text ≡ front ++ b ∷ back → (e : LineFault) × (operations_at front ≡ Err e)

-- lines that say these operations in turn
abbrev pub Say : List (List ℕ) → List Op → Type 0
Say [] ops = ops ≡ []
Say (text ∷ lines) ops = (own : List Op) × (later : List Op) × (ops ≡ own ++ later) × Says text own × Say lines later

pub line_says : (op : Op) → IsWritable op → checked op ≡ Ok tt → Says (line op) (op ∷ [])
line_says op can well = record { none = line_has_none op can; says = line_stands op can well; cut = λ front b back e. beginning_stands op front b back can e }

pub lines_say : (ops : List Op) → AreWritable ops → AreWellFormed ops → Say (map line ops) ops
lines_say [] writable well = refl
lines_say (op ∷ ops) writable well = (
  op ∷ [],
  ops,
  refl,
  line_says op (writable op (Contains-first op ops)) (well op (Contains-first op ops)),
  lines_say ops (later_writable op ops writable) (later_well_formed op ops well),
)

-- ---- a log of the first operations of a list

record IsLogOf (front : List ℕ) (ops : List Op) (j : ℕ) : Type 0 where
  enough : j ≤ length ops
  operations : log_operations front ≡ take j ops
  lines : AllByRecursion IsOperation (lines_of front)
  short : length (rest_of front) ≤ MAX_LINE

-- a beginning of bytes that have no newline, or one that has all of the line and its newline
cut_in_two : (xs front rest ys : List ℕ) (b : ℕ) → front ++ rest ≡ xs ++ b ∷ ys → ((more : List ℕ) × (xs ≡ front ++ more)) ⊎ ((more : List ℕ) × (front ≡ xs ++ b ∷ more) × (more ++ rest ≡ ys))
cut_in_two xs [] rest ys b e = inl (xs, refl)
cut_in_two [] (y ∷ front) rest ys b e = inr (front, ap (λ (l : List ℕ). get_or l 0 0 ∷ front) e, ap (drop 1) e)
cut_in_two (x ∷ xs) (y ∷ front) rest ys b e = grind (arith, cut_in_two xs front rest ys b (ap (drop 1) e))

module _ (text : List ℕ) (own : List Op) (said : Says text own) (later : List Op) where
  -- a line that is too long says none
  short_line : length text ≤ MAX_LINE
  short_line = grind (arith, cases_lt, stands_for_none, stands_for, long_stands)

  -- the log is within the first line
  within_line : (front more : List ℕ) → text ≡ front ++ more → (j : ℕ) × IsLogOf front (own ++ later) j
  within_line front [] e =
      let all : front ≡ text = sym (append-nil front) ∙ sym e in (
        length own,
        subst (λ (l : List ℕ). IsLogOf l (own ++ later) (length own)) (sym all) (record {
          enough = omega (arith, length-append own later);
          operations = ap (λ (ls : List (List ℕ)). operations_of (ls ++ rest_of text ∷ [])) (lines-none text said.none)
              ∙ ap (λ (l : List ℕ). operations_of (l ∷ [])) (rest-none text said.none)
              ∙ ap (λ r. then_operations r []) said.says
              ∙ append-nil own
              ∙ sym (take-append_seam own later);
          lines = subst (AllByRecursion IsOperation) (sym (lines-none text said.none)) tt;
          short = subst (λ (l : List ℕ). length l ≤ MAX_LINE) (sym (rest-none text said.none)) short_line;
        }),
      )
  within_line front (b ∷ back) e =
      let none : HasNoNewline front = λ k d h same. subst HasNoNewline e said.none k d (omega (arith, length-append front (b ∷ back))) (get_or_append_left front (b ∷ back) d k h ∙ same) in
      let refused = said.cut front b back e in (
        0,
        record {
          enough = omega arith;
          operations = ap (λ (ls : List (List ℕ)). operations_of (ls ++ rest_of front ∷ [])) (lines-none front none)
              ∙ ap (λ (l : List ℕ). operations_of (l ∷ [])) (rest-none front none)
              ∙ ap (λ r. then_operations r []) refused.1;
          lines = subst (AllByRecursion IsOperation) (sym (lines-none front none)) tt;
          short = subst (λ (l : List ℕ). length l ≤ MAX_LINE) (sym (rest-none front none)) (omega (arith, short_line, ap length e, length-append front (b ∷ back)));
        },
      )

  -- the log has the first line, and goes on behind it
  past_line : (front more : List ℕ) (j : ℕ) → front ≡ text ++ newline ∷ more → IsLogOf more later j → IsLogOf front (own ++ later) (length own + j)
  past_line front more j e h = subst (λ (l : List ℕ). IsLogOf l (own ++ later) (length own + j)) (sym e) (record {
    enough = omega (arith, h.enough, length-append own later);
    operations = (λ k. operations_of (lines-line text more said.none k ++ rest-line text more said.none k ∷ []))
        ∙ ap (λ r. then_operations r (log_operations more)) said.says
        ∙ ap (λ (os : List Op). own ++ os) h.operations
        ∙ sym (take-append-add own later j);
    lines = subst (AllByRecursion IsOperation) (sym (lines-line text more said.none)) ((own, said.says), h.lines);
    short = subst (λ (l : List ℕ). length l ≤ MAX_LINE) (sym (rest-line text more said.none)) h.short;
  })

no_bytes : (front rest : List ℕ) → front ++ rest ≡ [] → front ≡ []
no_bytes [] rest e = refl
no_bytes (x ∷ front) rest e = absurd (omega (arith, ap length e))

log_of_none : IsLogOf [] [] 0
log_of_none = record { enough = omega arith; operations = ap (λ r. then_operations r []) nothing_stands; lines = tt; short = lit≤ tt }

-- a beginning of the lines
begun : (lines : List (List ℕ)) (ops : List Op) (front rest : List ℕ) → Say lines ops → front ++ rest ≡ bytes_of_lines lines → (j : ℕ) × IsLogOf front ops j
begun [] ops front rest none e =
    (0, subst (λ (os : List Op). IsLogOf front os 0) (sym none) (subst (λ (l : List ℕ). IsLogOf l [] 0) (sym (no_bytes front rest e)) log_of_none))
begun (text ∷ lines) ops front rest (own, later, parts, said, say) e =
    subst (λ (os : List Op). (j : ℕ) × IsLogOf front os j) (sym parts)
    (elim (cut_in_two text front rest (bytes_of_lines lines) newline (e ∙ append_assoc text (newline ∷ []) (bytes_of_lines lines))) [
      | inl inside ↦ within_line text own said later front inside.0 inside.1
      | inr past ↦
          let more = begun lines later past.0 rest say past.2 in
          (length own + more.0, past_line text own said later front past.0 more.0 past.1 more.1)
    ])

-- all of them
pub say_stand : (lines : List (List ℕ)) (ops : List Op) → Say lines ops → Stand lines ops
say_stand [] ops none = subst (Stand []) (sym none) (record { operations = refl; all = tt; none = All-nil HasNoNewline })
say_stand (text ∷ lines) ops (own, later, parts, said, say) = subst (Stand (text ∷ lines)) (sym parts) (stand_cons text own lines later said.says said.none (say_stand lines later say))

-- ---- behind a log

module _ (bytes front : List ℕ) (ended : rest_of bytes ≡ []) where
  lines_behind : lines_of (bytes ++ front) ≡ lines_of bytes ++ lines_of front
  lines_behind = lines-append_ended bytes front ∙ ap (λ (rest : List ℕ). lines_of bytes ++ lines_of (rest ++ front)) ended

  rest_behind : rest_of (bytes ++ front) ≡ rest_of front
  rest_behind = rest-append_ended bytes front ∙ ap (λ (rest : List ℕ). rest_of (rest ++ front)) ended

  operations_behind : AllByRecursion IsOperation (lines_of bytes) → log_operations (bytes ++ front) ≡ log_operations bytes ++ log_operations front
  operations_behind all =
      (λ k. operations_of (lines_behind k ++ rest_behind k ∷ []))
      ∙ ap operations_of (append_assoc (lines_of bytes) (lines_of front) (rest_of front ∷ []))
      ∙ operations_of-append (lines_of bytes) (lines_of front ++ rest_of front ∷ []) all
      ∙ ap (λ (os : List Op). os ++ log_operations front) (sym (operations_ended bytes ended all))

pub joinable_take : (c : Content) (ops : List Op) (j : ℕ) → IsJoinable c ops → IsJoinable c (take j ops)
joinable_take c ops j h = ((joinable_append c (take j ops) (drop j ops)).0 (subst (IsJoinable c) (sym (take-append-drop j ops)) h)).0

module _ (bytes : List ℕ) (c : Content) (ops : List Op) (front : List ℕ) (j : ℕ) (stands : StandsFor bytes c) (ended : rest_of bytes ≡ []) (log : IsLogOf front ops j) (joinable : IsJoinable c ops) where
  has_both : log_operations (bytes ++ front) ≡ log_operations bytes ++ take j ops
  has_both = operations_behind bytes front ended stands.lines ∙ ap (λ (os : List Op). log_operations bytes ++ os) log.operations

  stands_behind : StandsFor (bytes ++ front) (join c (content_of (take j ops)))
  stands_behind = record {
    lines = subst (AllByRecursion IsOperation) (sym (lines_behind bytes front ended)) (all_append IsOperation (lines_of bytes) (lines_of front) stands.lines log.lines);
    short = subst (λ (l : List ℕ). length l ≤ MAX_LINE) (sym (rest_behind bytes front ended)) log.short;
    agreed = subst IsAgreed (sym has_both) (agreed_append (log_operations bytes) (take j ops) stands.agreed (subst (λ d. IsJoinable d (take j ops)) stands.content (joinable_take c ops j joinable)));
    content = ap (λ d. join d (content_of (take j ops))) stands.content ∙ sym (content_of-append (log_operations bytes) (take j ops)) ∙ ap content_of (sym has_both);
  }

-- behind a log that stands for a content, a beginning of lines that say operations leaves a log of the first of them
pub say_begun : (bytes : List ℕ) (c : Content) (lines : List (List ℕ)) (ops : List Op) (front rest : List ℕ) → StandsFor bytes c → rest_of bytes ≡ [] → Say lines ops → IsJoinable c ops → front ++ rest ≡ bytes_of_lines lines → GainsFirst bytes front c ops
say_begun bytes c lines ops front rest stands ended say joinable e =
    let log = begun lines ops front rest say e in
    record {
      count = log.0;
      within = log.1.enough;
      operations = has_both bytes c ops front log.0 stands ended log.1 joinable;
      stands = stands_behind bytes c ops front log.0 stands ended log.1 joinable;
    }

pub stands_begun : (bytes : List ℕ) (c : Content) (ops : List Op) (front rest : List ℕ) → StandsFor bytes c → rest_of bytes ≡ [] → AreWritable ops → AreWellFormed ops → IsJoinable c ops → front ++ rest ≡ log_text ops → GainsFirst bytes front c ops
stands_begun bytes c ops front rest stands ended writable well joinable e =
    say_begun bytes c (map line ops) ops front rest stands ended (lines_say ops writable well) joinable e
