-- How a summary is told, and what it is told for.
use Rattle.std.specs.Prelude.{◌≡◌, ◌≢◌, ℕ, ◌+◌, ◌<◌, ◌≤◌, ◌==◌, nat_lt, List, [], ◌∷◌, ◌++◌, map, length, Option, Result, Ok, Err, if◌then◌else◌}
use Rattle.rga_ops.specs.Content.{Content}
use Rattle.rga_exchange.specs.Counting.{Calls, Writes}
use Rattle.rga_lines.specs.Spelling.{end_line}
use Rattle.rga_lines.specs.Stream.{bytes_of_lines, lines_of, rest_of}
use Rattle.rga_lines.specs.declared.line.TheConstants.{MAX_LINE}
use Rattle.rga_lines.specs.declared.fault.LineFault.{LineFault}
use Rattle.rga_lines.specs.declared.fault.LineFault.TheVariants as line_fault
use Rattle.rga_exchange.specs.declared.fault.ReceiveFault.{ReceiveFault}
use Rattle.rga_exchange.specs.declared.fault.ReceiveFault.TheVariants as fault
use Rattle.rga_ops.specs.declared.refusal.Refusal.TheVariants.{Full}
use Rattle.rga_brief.specs.Summary.{Summary, IsSummary}
use Rattle.rga_brief.specs.Claims.{claim_line}
use Rattle.rga_brief.specs.Summaries.{claims_of, summary_from}
use Rattle.rga_brief.specs.declared.claim.Claim.{Claim}
use Rattle.rga_brief.specs.Lines.{claim_line_at}
use Rattle.rga_brief.specs.declared.claim_line.ClaimLine.{ClaimLine}
use Rattle.rga_brief.specs.declared.claim_line.ClaimLine.TheVariants.{One, Last}

-- ---- what is told

-- the line of each claim, and the line that counts them
abbrev pub claim_lines : List Claim → List (List ℕ)
claim_lines claims = map claim_line claims ++ end_line (length claims) ∷ []

-- what is told of a summary, each line with its newline
abbrev pub summary_text : Summary → List ℕ
summary_text s = bytes_of_lines (claim_lines (claims_of s))

-- ---- what is heard

-- the summary of claims that end with this number
abbrev pub ended : List Claim → ℕ → Result Summary ReceiveFault
ended claims number = if number == length claims then Ok (summary_from claims) else Err fault.Count

-- Behind these claims, what comes of a line, and then of the lines behind it. A content knows at most 1,000,000 identifiers,
-- and has something in no more blocks: one claim more is refused.
abbrev pub after_claim_line : List Claim → Result ClaimLine LineFault → (List Claim → Result Summary ReceiveFault) → Result Summary ReceiveFault
after_claim_line claims (Ok (One claim)) behind =
    if nat_lt (length claims) 1000000 then behind (claims ++ claim ∷ []) else Err (fault.Refused (length claims + 1) Full)
after_claim_line claims (Ok (Last number)) behind = ended claims number
after_claim_line claims (Err e) behind = Err (fault.Line (length claims + 1) e)

-- where all lines are claims; a rest that is too long is the fault of a line
abbrev pub unended : List Claim → List ℕ → Result Summary ReceiveFault
unended claims rest = if nat_lt MAX_LINE (length rest) then Err (fault.Line (length claims + 1) line_fault.Long) else Err fault.Cut

-- behind these claims, what comes of lines in turn and a rest
abbrev pub lines_heard : List Claim → List (List ℕ) → List ℕ → Result Summary ReceiveFault
lines_heard claims [] rest = unended claims rest
lines_heard claims (line ∷ lines) rest = after_claim_line claims (claim_line_at line) (λ more. lines_heard more lines rest)

-- and of bytes
abbrev pub bytes_heard : List Claim → List ℕ → Result Summary ReceiveFault
bytes_heard claims bytes = lines_heard claims (lines_of bytes) (rest_of bytes)

-- what a peer's bytes say that it knows, or their first fault; what stands behind the end line is dropped
abbrev pub summary_heard : List ℕ → Result Summary ReceiveFault
summary_heard bytes = bytes_heard [] bytes

-- ---- the same in words

-- the lines say these claims, one each
abbrev pub SayClaims : List (List ℕ) → List Claim → Type 0
SayClaims lines claims = map claim_line_at lines ≡ map (λ claim. Ok (One claim)) claims

-- What is answered where these claims were read, and these lines and this rest stand behind them: a summary by an end line
-- that counts the claims; `Count` by one that does not; `Line` with the fault of a line that is neither a claim nor the end,
-- or of a rest that is too long; `Full` by a further claim behind 1,000,000; and `Cut` where nothing else stands.
abbrev pub StopsAs : List Claim → List (List ℕ) → List ℕ → Result Summary ReceiveFault → Type 0
StopsAs claims (line ∷ later) rest (Ok s) = (claim_line_at line ≡ Ok (Last (length claims))) × (s ≡ summary_from claims)
StopsAs claims (line ∷ later) rest (Err fault.Count) = (number : ℕ) × (claim_line_at line ≡ Ok (Last number)) × (number ≢ length claims)
StopsAs claims (line ∷ later) rest (Err (fault.Line n e)) = (claim_line_at line ≡ Err e) × (n ≡ length claims + 1)
StopsAs claims (line ∷ later) rest (Err (fault.Refused n Full)) =
    (claim : Claim) × (claim_line_at line ≡ Ok (One claim)) × (1000000 ≤ length claims) × (n ≡ length claims + 1)
StopsAs claims [] rest (Err (fault.Line n e)) = (MAX_LINE < length rest) × (e ≡ line_fault.Long) × (n ≡ length claims + 1)
StopsAs claims [] rest (Err fault.Cut) = length rest ≤ MAX_LINE
StopsAs claims lines rest answer = ⊥

-- The first lines say claims, at most 1,000,000, and behind them the reading stops so. Behind an end line nothing counts.
pub record IsHeardAs (bytes : List ℕ) (answer : Result Summary ReceiveFault) : Type 0 where
  pub front : List (List ℕ)
  pub later : List (List ℕ)
  pub claims : List Claim
  pub lines : lines_of bytes ≡ front ++ later
  pub say : SayClaims front claims
  pub few : length claims ≤ 1000000
  pub stops : StopsAs claims later (rest_of bytes) answer

-- ---- what is told of a content

-- Bytes are what is told of the content's summary, which is heard of them.
pub record IsTold (bytes : List ℕ) (c : Content) : Type 0 where
  pub own : Summary
  pub is : IsSummary c own
  pub text : bytes ≡ summary_text own
  pub heard : summary_heard (summary_text own) ≡ Ok own

-- Known bytes grew by the claims of the content's summary, which is heard of them.
pub record TellsSummary {W : Type 0} (contents : W → Option (List ℕ)) (old new : Calls W) (c : Content) : Type 0 where
  pub own : Summary
  pub is : IsSummary c own
  pub written : Writes contents old new (summary_text own)
  pub heard : summary_heard (summary_text own) ≡ Ok own
