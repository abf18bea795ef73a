-- Written operations behind a log, and before the end of an exchange.
use Rattle.std.proofs.Common.{arith, ◌≡◌, ◌≢◌, ℕ, ◌<◌, ◌≤◌, lit≤, ◌^◌, cond, List, [], ◌∷◌, ◌++◌, map, length, Ok, refl, sym, ap, ◌∙◌, subst, append_assoc, append-nil}
use Rattle.std.specs.Prelude.{All}
use Rattle.std.specs.List.{AllByRecursion}
use Rattle.std.proofs.lemmas.List.Elements.{All-nil, All-cons}
use Rattle.rga_ops.specs.Content.{Content, nothing, join, content_of, IsAgreed, IsSound}
use Rattle.rga_ops.specs.ListAnswer.{AreWellFormed, IsJoinable}
use Rattle.rga_ops.specs.Operations.{operations}
use Rattle.rga_ops.specs.declared.op.Op.{Op}
use Rattle.rga_ops.proofs.ContentLaws.{nothing_join}
use Rattle.rga_ops.proofs.OperationLaws.{Contains-first, Contains-later, content_of-append}
use Rattle.rga_ops.proofs.MemberLaws.{all_append}
use Rattle.rga_ops.proofs.OperationsLaws.{operations_hold}
use Rattle.rga_ops.proofs.AgreeLaws.{agree_swap, agree_nothing}
use Rattle.rga_ops.proofs.ListAnswerLaws.{joinable_append}
use Rattle.rga_lines.specs.declared.line.TheConstants.{MAX_LINE}
use Rattle.rga_lines.specs.Log.{operations_at, then_operations, operations_of, is_head, behind_head, stream_operations, log_operations, IsOperation}
use Rattle.rga_lines.specs.Spelling.{line, head_line, end_line}
use Rattle.rga_lines.specs.Stream.{newline, lines_of, rest_of, HasNoNewline, bytes_of_lines}
use Rattle.rga_lines.proofs.StreamLemmas.{is_cut, only_cut, lines-append_ended, rest-append_ended, rest-line}
use Rattle.rga_lines.proofs.StandLemmas.{nothing_stands, line_stands, end_stands}
use Rattle.rga_lines.proofs.NewlineLemmas.{line_has_none, head_has_none, end_has_none}
use Rattle.rga_lines.proofs.ReadBack.{head_back}
use Rattle.rga_exchange.specs.Sending.{log_text, exchange_lines, exchange_text, AreWritable, StandsFor}
use Rattle.rga_exchange.proofs.TakingLaws.{operations_of-append}

-- ---- lines that say operations

-- the lines say these operations, each some, and none has a newline
pub record Stand (lines : List (List ℕ)) (ops : List Op) : Type 0 where
  pub operations : operations_of lines ≡ ops
  pub all : AllByRecursion IsOperation lines
  pub none : All HasNoNewline lines

pub stand_cons : (text : List ℕ) (own : List Op) (lines : List (List ℕ)) (ops : List Op) → operations_at text ≡ Ok own → HasNoNewline text → Stand lines ops → Stand (text ∷ lines) (own ++ ops)
stand_cons text own lines ops says none h = grind (arith)

-- ---- written lines

pub later_writable : (op : Op) (ops : List Op) → AreWritable (op ∷ ops) → AreWritable ops
later_writable op ops writable o m = writable o (Contains-later op o ops m)

pub later_well_formed : (op : Op) (ops : List Op) → AreWellFormed (op ∷ ops) → AreWellFormed ops
later_well_formed op ops well o m = well o (Contains-later op o ops m)

pub written : (ops : List Op) → AreWritable ops → AreWellFormed ops → Stand (map line ops) ops
written [] writable well = record { operations = refl; all = tt; none = All-nil HasNoNewline }
written (op ∷ ops) writable well =
    let can = writable op (Contains-first op ops) in
    stand_cons (line op) (op ∷ []) (map line ops) ops (line_stands op can (well op (Contains-first op ops))) (line_has_none op can) (written ops (later_writable op ops writable) (later_well_formed op ops well))

-- before such lines and behind them there is no newline
written_then : (ops : List Op) (lines : List (List ℕ)) → AreWritable ops → All HasNoNewline lines → All HasNoNewline (map line ops ++ lines)
written_then [] lines writable none = none
written_then (op ∷ ops) lines writable none =
    All-cons HasNoNewline (line op) (map line ops ++ lines) (line_has_none op (writable op (Contains-first op ops))) (written_then ops lines (later_writable op ops writable) none)

-- lines without a newline are cut as they were put together
pub cut_again : (lines : List (List ℕ)) → All HasNoNewline lines → (lines ≡ lines_of (bytes_of_lines lines)) × ([] ≡ rest_of (bytes_of_lines lines))
cut_again lines none =
    only_cut (bytes_of_lines lines) lines [] (record { whole = sym (append-nil (bytes_of_lines lines)); lines_have_none = none; rest_has_none = All-nil (λ b. b ≢ newline) })

-- ---- a log that goes on

pub rest_ended : (front : List ℕ) → rest_of (front ++ newline ∷ []) ≡ []
rest_ended front = rest-append_ended front (newline ∷ []) ∙ rest-line (rest_of front) [] (is_cut front).rest_has_none

-- nor behind lines with their newlines
pub ended_lines : (bytes : List ℕ) (lines : List (List ℕ)) → rest_of bytes ≡ [] → rest_of (bytes ++ bytes_of_lines lines) ≡ []
ended_lines bytes [] ended = ap rest_of (append-nil bytes) ∙ ended
ended_lines bytes (text ∷ lines) ended = grind (arith, append_assoc, rest_ended, ended_lines (bytes ++ (text ++ newline ∷ [])) lines (ap rest_of (sym (append_assoc bytes text (newline ∷ []))) ∙ rest_ended (bytes ++ text)))

pub rest_appended : (bytes : List ℕ) (ops : List Op) → rest_of bytes ≡ [] → AreWritable ops → rest_of (bytes ++ log_text ops) ≡ []
rest_appended bytes ops ended writable = ended_lines bytes (map line ops) ended

-- where no rest is left the operations of a log are those of its lines
pub operations_ended : (bytes : List ℕ) → rest_of bytes ≡ [] → AllByRecursion IsOperation (lines_of bytes) → log_operations bytes ≡ operations_of (lines_of bytes)
operations_ended bytes ended all = grind (arith, operations_of-append, nothing_stands, append-nil)

-- operations that agree, and further ones that can be joined to their content, agree
pub agreed_append : (xs ys : List Op) → IsAgreed xs → IsJoinable (content_of xs) ys → IsAgreed (xs ++ ys)
agreed_append xs ys agreed joinable =
    ((joinable_append nothing xs ys).1 (
      record { agreed = agreed; agree = agree_swap (content_of xs) nothing (agree_nothing (content_of xs)) },
      subst (λ c. IsJoinable c ys) (sym (nothing_join (content_of xs))) joinable,
    )).agreed

-- bytes that are cut into these lines, with nothing behind them
pub stands_so : (bytes : List ℕ) (lines : List (List ℕ)) (ops : List Op) → lines_of bytes ≡ lines → rest_of bytes ≡ [] → AllByRecursion IsOperation lines → operations_of lines ≡ ops → IsAgreed ops → StandsFor bytes (content_of ops)
stands_so bytes lines ops cut ended all says agreed =
    let here = subst (AllByRecursion IsOperation) (sym cut) all in
    let said = operations_ended bytes ended here ∙ ap operations_of cut ∙ says in
    record {
      lines = here;
      short = subst (λ (rest : List ℕ). length rest ≤ MAX_LINE) (sym ended) (lit≤ tt);
      agreed = subst IsAgreed (sym said) agreed;
      content = ap content_of (sym said);
    }

-- what a log stands for with such lines behind it
pub stands_joined : (bytes : List ℕ) (c : Content) (lines : List (List ℕ)) (ops : List Op) → StandsFor bytes c → rest_of bytes ≡ [] → Stand lines ops → IsJoinable c ops → StandsFor (bytes ++ bytes_of_lines lines) (join c (content_of ops))
stands_joined bytes c lines ops stands ended stand joinable =
    subst (StandsFor (bytes ++ bytes_of_lines lines)) (content_of-append (log_operations bytes) ops ∙ ap (λ d. join d (content_of ops)) (sym stands.content))
    (stands_so (bytes ++ bytes_of_lines lines) (lines_of bytes ++ lines) (log_operations bytes ++ ops)
    (lines-append_ended bytes (bytes_of_lines lines) ∙ (λ k. lines_of bytes ++ lines_of (ended k ++ bytes_of_lines lines)) ∙ ap (λ (ls : List (List ℕ)). lines_of bytes ++ ls) (sym (cut_again lines stand.none).0))
    (ended_lines bytes lines ended)
    (all_append IsOperation (lines_of bytes) lines stands.lines stand.all)
    (operations_of-append (lines_of bytes) lines stands.lines ∙ (λ k. sym (operations_ended bytes ended stands.lines) k ++ stand.operations k))
    (agreed_append (log_operations bytes) ops stands.agreed (subst (λ d. IsJoinable d ops) stands.content joinable)))

pub stands_appended : (bytes : List ℕ) (c : Content) (ops : List Op) → StandsFor bytes c → rest_of bytes ≡ [] → AreWritable ops → AreWellFormed ops → IsJoinable c ops → StandsFor (bytes ++ log_text ops) (join c (content_of ops))
stands_appended bytes c ops stands ended writable well joinable = stands_joined bytes c (map line ops) ops stands ended (written ops writable well) joinable

-- ---- an exchange

-- the lines of operations, and then the end
abbrev pub lines_and_end : List Op → List (List ℕ)
lines_and_end ops = map line ops ++ end_line (length ops) ∷ []

exchange_cut : (ops : List Op) → AreWritable ops → length ops < 2 ^ 64 → (exchange_lines ops ≡ lines_of (exchange_text ops)) × ([] ≡ rest_of (exchange_text ops))
exchange_cut ops writable few =
    let end : All HasNoNewline (end_line (length ops) ∷ []) = All-cons HasNoNewline (end_line (length ops)) [] (end_has_none (length ops) few) (All-nil HasNoNewline) in
    cut_again (exchange_lines ops) (All-cons HasNoNewline head_line (lines_and_end ops) head_has_none (written_then ops (end_line (length ops) ∷ []) writable end))

pub exchange_lines-cut : (ops : List Op) → AreWritable ops → length ops < 2 ^ 64 → lines_of (exchange_text ops) ≡ exchange_lines ops
exchange_lines-cut ops writable few = sym (exchange_cut ops writable few).0

pub exchange_rest : (ops : List Op) → AreWritable ops → length ops < 2 ^ 64 → rest_of (exchange_text ops) ≡ []
exchange_rest ops writable few = sym (exchange_cut ops writable few).1

behind_written_head : (lines : List (List ℕ)) → behind_head (head_line ∷ lines) ≡ lines
behind_written_head lines = ap (λ r. cond (is_head r) lines (head_line ∷ lines)) head_back

pub exchange_says : (ops : List Op) → AreWellFormed ops → AreWritable ops → length ops < 2 ^ 64 → stream_operations (exchange_text ops) ≡ ops
exchange_says ops well writable few =
    ap (λ ls. operations_of (behind_head ls)) (exchange_lines-cut ops writable few)
    ∙ ap operations_of (behind_written_head (lines_and_end ops))
    ∙ operations_of-append (map line ops) (end_line (length ops) ∷ []) (written ops writable well).all
    ∙ (λ k. (written ops writable well).operations k ++ then_operations (end_stands (length ops) few k) [])
    ∙ append-nil ops

-- the operations of a sound content are well-formed
pub sound_list : (c : Content) → IsSound c → AreWellFormed (operations c)
sound_list c sound op m = sound op (operations_hold c op m)
