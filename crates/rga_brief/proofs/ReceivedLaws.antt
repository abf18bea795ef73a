-- What is missing is received as all would be.
use Rattle.rga_brief.proofs.Prelude.{◌≡◌, ℕ, ◌+◌, ◌<◌, ◌≤◌, ◌^◌, Bool, true, false, cond, List, [], ◌∷◌, ◌++◌, map, filter, length, refl, sym, ap, subst, ◌∙◌, arith, Option, Some, None, Result, Ok, Err, eq-eqb, Content, IsSound, IsWithin, operations, taken, AreWellFormed, Op, Refusal, Contains-first, head_back, end_back, line_back, ReceiveFault, number_received, exchange_outcome, exchange_text, stream_text, AreWritable, later_writable, later_well_formed, lines_and_end, exchange_lines-cut, exchange_rest, exchange_says, sound_list, Summary, IsSummary, DigestsTellApart, lacks, missing, Outcome, taken_in_turn}
use Rattle.rga_lines.specs.Spelling.{line, end_line}
use Rattle.rga_exchange.specs.declared.fault.ReceiveFault.TheVariants as fault
use Rattle.rga_exchange.specs.declared.fault.LogFault.TheVariants as log
use Rattle.rga_exchange.specs.declared.taking.Form.TheVariants.{Log, Exchange}
use Rattle.rga_exchange.specs.Taking.{Stop, AtEnd, AtFault, Progress, progress, after_line, refused_at, go_on, lines_taken, with_rest, stream_taken}
use Rattle.rga_exchange.proofs.HeadLaws.{as_log}
use Rattle.rga_brief.specs.Taking as turn
use Rattle.rga_brief.proofs.MissingLaws.{from_chosen, missing_taken, missing_well_formed}
use Rattle.rga_brief.specs.Alike.{AreReceivedAlike}

-- ---- lines of operations, and then the end

-- the lines stop as the operations do: at the end, or at the refusal
abbrev StopsSo : Option Refusal → ℕ → Stop → Type 0
StopsSo None number stop = stop ≡ AtEnd number
StopsSo (Some e) number stop = (n : ℕ) × (stop ≡ AtFault (log.Refused n e))

record LeadsTo (outcome : Outcome) (number : ℕ) (t : Progress) : Type 0 where
  content : t.content ≡ outcome.0
  stop : StopsSo outcome.1 number t.stop

lines_lead : (limit n number : ℕ) (d : Content) (ops : List Op) → AreWritable ops → AreWellFormed ops → number < 2 ^ 64
    → LeadsTo (taken_in_turn limit d ops) number (lines_taken Log limit n d (map line ops ++ end_line number ∷ []))
lines_lead limit n number d [] writable well few =
    subst (λ r. LeadsTo (d, None) number (go_on n d (after_line Log limit (n + 1) d r) (λ e. lines_taken Log limit (n + 1) e []))) (sym (end_back number few))
    (record { content = refl; stop = refl })
lines_lead limit n number d (op ∷ ops) writable well few =
    subst (λ r. LeadsTo (taken_in_turn limit d (op ∷ ops)) number (go_on n d (after_line Log limit (n + 1) d r) (λ e. lines_taken Log limit (n + 1) e (map line ops ++ end_line number ∷ []))))
    (sym (line_back op (writable op (Contains-first op ops)) (well op (Contains-first op ops))))
    (by (taken limit d op) (λ e. lines_lead limit (n + 1) number e ops (later_writable op ops writable) (later_well_formed op ops well) few))
  where
    by : (r : Result Content Refusal) → ((e : Content) → LeadsTo (taken_in_turn limit e ops) number (lines_taken Log limit (n + 1) e (map line ops ++ end_line number ∷ [])))
        → LeadsTo (turn.go_on d r (λ e. taken_in_turn limit e ops)) number (go_on n d (refused_at (n + 1) r) (λ e. lines_taken Log limit (n + 1) e (map line ops ++ end_line number ∷ [])))
    by (Ok e) rest = rest e
    by (Err e) rest = record { content = refl; stop = (n + 1, refl) }

-- ---- an exchange

abbrev answer_of : ℕ → Progress → Content × Result ℕ ReceiveFault
answer_of k t = (t.content, number_received k t.stop)

-- the answer is whole, or the refusal
abbrev AnswersSo : Option Refusal → Result ℕ ReceiveFault → Type 0
AnswersSo None answer = (n : ℕ) × (answer ≡ Ok n)
AnswersSo (Some e) answer = (n : ℕ) × (answer ≡ Err (fault.Refused n e))

record IsReceivedSo (outcome : Outcome) (x : Content × Result ℕ ReceiveFault) : Type 0 where
  content : x.0 ≡ outcome.0
  answer : AnswersSo outcome.1 x.1

received_so : (outcome : Outcome) (number : ℕ) (t : Progress) → LeadsTo outcome number t → IsReceivedSo outcome (answer_of number (with_rest [] t))
received_so outcome number t h = record { content = h.content; answer = by outcome.1 t.stop h.stop }
  where
    end : (stop : Stop) → stop ≡ AtEnd number → number_received number (with_rest [] (progress t.lines t.content stop)).stop ≡ Ok number
    end stop is = ap (λ s. number_received number (with_rest [] (progress t.lines t.content s)).stop) is ∙ ap (λ b. cond b (Ok number) (Err fault.Count)) (eq-eqb number number refl)

    refused : (stop : Stop) (n : ℕ) (e : Refusal) → stop ≡ AtFault (log.Refused n e) → number_received number (with_rest [] (progress t.lines t.content stop)).stop ≡ Err (fault.Refused n e)
    refused stop n e is = ap (λ s. number_received number (with_rest [] (progress t.lines t.content s)).stop) is

    by : (o : Option Refusal) (stop : Stop) → StopsSo o number stop → AnswersSo o (number_received number (with_rest [] (progress t.lines t.content stop)).stop)
    by None stop is = (number, end stop is)
    by (Some e) stop is = (is.0, refused stop is.0 e is.1)

exchange_leads : (limit : ℕ) (d : Content) (ops : List Op) → AreWritable ops → AreWellFormed ops → length ops < 2 ^ 64 → IsReceivedSo (taken_in_turn limit d ops) (exchange_outcome limit d (exchange_text ops))
exchange_leads limit d ops writable well few =
    let number : ℕ = length ops in
    let lines : List (List ℕ) = lines_and_end ops in
    let taken_so : stream_taken Exchange limit d (exchange_text ops) ≡ with_rest [] (lines_taken Log limit 1 d lines) =
    (λ k. with_rest (exchange_rest ops writable few k) (lines_taken Exchange limit 0 d (exchange_lines-cut ops writable few k)))
    ∙ ap (with_rest []) (ap (λ r. go_on 0 d (after_line Exchange limit 1 d r) (λ e. lines_taken Exchange limit 1 e lines)) head_back ∙ as_log Exchange limit 1 d lines refl) in
    let so : exchange_outcome limit d (exchange_text ops) ≡ answer_of number (with_rest [] (lines_taken Log limit 1 d lines)) =
    (λ k. answer_of (length (exchange_says ops well writable few k)) (taken_so k)) in
    subst (IsReceivedSo (taken_in_turn limit d ops)) (sym so) (received_so (taken_in_turn limit d ops) number (lines_taken Log limit 1 d lines) (lines_lead limit 1 number d ops writable well few))

-- ---- two exchanges

alike : (outcome : Outcome) (x y : Content × Result ℕ ReceiveFault) → IsReceivedSo outcome x → IsReceivedSo outcome y → AreReceivedAlike x y
alike outcome x y f g = by outcome.1 x.1 y.1 f.answer g.answer
  where
    by : (o : Option Refusal) (r s : Result ℕ ReceiveFault) → AnswersSo o r → AnswersSo o s → AreReceivedAlike (x.0, r) (y.0, s)
    by None r s h k = subst (λ a. AreReceivedAlike (x.0, a) (y.0, s)) (sym h.1) (subst (λ b. AreReceivedAlike (x.0, Ok h.0) (y.0, b)) (sym k.1) (record { content = f.content ∙ sym g.content; answer = tt }))
    by (Some e) r s h k = subst (λ a. AreReceivedAlike (x.0, a) (y.0, s)) (sym h.1) (subst (λ b. AreReceivedAlike (x.0, Err (fault.Refused h.0 e)) (y.0, b)) (sym k.1) (record { content = f.content ∙ sym g.content; answer = refl }))

no_longer : (p : Op → Bool) (ops : List Op) → length (filter p ops) ≤ length ops
no_longer p [] = omega arith
no_longer p (op ∷ ops) = by (p op) (no_longer p ops)
  where
    by : (b : Bool) → length (filter p ops) ≤ length ops → length (cond b (op ∷ filter p ops) (filter p ops)) ≤ length (op ∷ ops)
    by true h = omega (arith, h)
    by false h = omega (arith, h)

pub received_as_all : (limit : ℕ) (c d now : Content) (s : Summary) → IsSound c → AreWritable (operations c) → length (operations c) < 2 ^ 64 → IsSummary d s → IsWithin d now → DigestsTellApart c d
    → AreReceivedAlike (exchange_outcome limit now (exchange_text (missing c s))) (exchange_outcome limit now (stream_text c))
received_as_all limit c d now s sound writable few is grown tell =
    let part : AreWritable (missing c s) = λ op m. writable op (from_chosen (lacks c s) (operations c) op m) in
    let fewer : length (missing c s) < 2 ^ 64 = omega (arith, few, no_longer (lacks c s) (operations c)) in
    alike (taken_in_turn limit now (operations c)) (exchange_outcome limit now (exchange_text (missing c s))) (exchange_outcome limit now (stream_text c))
    (subst (λ o. IsReceivedSo o (exchange_outcome limit now (exchange_text (missing c s)))) (missing_taken limit c d now s sound is grown tell) (exchange_leads limit now (missing c s) part (missing_well_formed c s sound) fewer))
    (exchange_leads limit now (operations c) writable (sound_list c sound) few)
