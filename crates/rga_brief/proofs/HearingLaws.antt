-- What is heard of claims, as they are read.
use Rattle.rga_brief.proofs.Prelude.{◌≡◌, ℕ, ◌+◌, ◌≤◌, cond, List, [], ◌∷◌, ◌++◌, length, refl, sym, ap, ◌∙◌, append_assoc, append-nil, arith, Option, Result, Err, lt-ltb, le-ltb, Calls, OnBytes, BeginsLong, Splitting, lines_of, MAX_LINE, LineFault, GivesLine, rest_is_all, ReceiveFault, Summary, Claim, HasHeard, claim_line_at, after_claim_line, lines_heard, bytes_heard, summary_heard, ClaimLine}
use Rattle.std.specs.Io.KnownBytes.{Consumes, IsAtEnd}
use Rattle.std.proofs.KnownBytes.{Consumes-nil, Consumes-trans, Consumes-whole}
use Rattle.rga_lines.specs.declared.fault.LineFault.TheVariants as line_fault
use Rattle.rga_exchange.specs.declared.fault.ReceiveFault.TheVariants as fault
use Rattle.rga_brief.proofs.LineLaws.{too_long}
use Rattle.rga_exchange.specs.declared.block.TheConstants.{BLOCK}

-- ---- one line

abbrev failed : ReceiveFault → Result Summary ReceiveFault
failed e = Err e

-- a line, or a rest, that is too long
pub begins_long : (claims : List Claim) (lines : List (List ℕ)) (rest : List ℕ) → BeginsLong lines rest → lines_heard claims lines rest ≡ Err (fault.Line (length claims + 1) line_fault.Long)
begins_long claims [] rest h = ap (λ b. cond b (failed (fault.Line (length claims + 1) line_fault.Long)) (failed fault.Cut)) (lt-ltb MAX_LINE (length rest) h)
begins_long claims (line ∷ lines) rest h = ap (λ r. after_claim_line claims r (λ more. lines_heard more lines rest)) (too_long line h)

-- the next line, whatever follows what waits
pub next_heard : (s t : Splitting) (line : List ℕ) (claims : List Claim) (r : Result ClaimLine LineFault) → GivesLine s t line → claim_line_at line ≡ r → (more : List ℕ)
    → bytes_heard claims (s.waiting ++ more) ≡ after_claim_line claims r (λ cs. bytes_heard cs (t.waiting ++ more))
next_heard s t line claims r given says more =
    (λ k. lines_heard claims (given.lines more k) (given.rest more k))
    ∙ ap (λ x. after_claim_line claims x (λ cs. bytes_heard cs (t.waiting ++ more))) says

-- where no line waits, and nothing follows
pub none_waits : (claims : List Claim) (waiting : List ℕ) → lines_of waiting ≡ [] → length waiting ≤ MAX_LINE → bytes_heard claims (waiting ++ []) ≡ Err fault.Cut
none_waits claims waiting none short =
    ap (bytes_heard claims) (append-nil waiting)
    ∙ (λ k. lines_heard claims (none k) (rest_is_all waiting none k))
    ∙ ap (λ b. cond b (failed (fault.Line (length claims + 1) line_fault.Long)) (failed fault.Cut)) (le-ltb MAX_LINE (length waiting) short)

-- ---- what was read

module _ {R : Type 0} (remaining : R → Option (List ℕ)) where
  pub heard_nothing : (r : Calls R) → HasHeard remaining r r [] []
  heard_nothing r = record {
    reads = record { before = []; last = []; read = Consumes-nil (remaining r.inner); one_block = omega arith; unended = refl };
    same = λ more. refl;
  }

  -- the claims of what waited were taken
  pub heard_lines : (r s : Calls R) (claims more_claims : List Claim) (waiting left : List ℕ) → HasHeard remaining r s claims waiting
      → ((more : List ℕ) → bytes_heard claims (waiting ++ more) ≡ bytes_heard more_claims (left ++ more)) → HasHeard remaining r s more_claims left
  heard_lines r s claims more_claims waiting left h taken = record { reads = h.reads; same = λ more. h.same more ∙ taken more }

  -- a further block was read
  pub heard_piece : (r s t : Calls R) (claims : List Claim) (waiting piece : List ℕ) → HasHeard remaining r s claims waiting → lines_of waiting ≡ [] → length waiting ≤ MAX_LINE
      → Consumes (remaining s.inner) (remaining t.inner) piece → length piece ≤ BLOCK → HasHeard remaining r t claims (waiting ++ piece)
  heard_piece r s t claims waiting piece h none short more fits =
      let all : List ℕ = h.reads.before ++ h.reads.last in
      record {
        reads = record {
          before = all;
          last = piece;
          read = Consumes-trans (remaining r.inner) (remaining s.inner) (remaining t.inner) all piece h.reads.read more;
          one_block = fits;
          unended = ap summary_heard (sym (append-nil all)) ∙ h.same [] ∙ none_waits claims waiting none short;
        };
        same = λ further.
            ap summary_heard (append_assoc all piece further) ∙ h.same (piece ++ further) ∙ ap (bytes_heard claims) (sym (append_assoc waiting piece further));
      }

  -- and at the end of the input
  pub heard_to_end : (r s t : Calls R) (claims : List Claim) (waiting : List ℕ) → HasHeard remaining r s claims waiting → lines_of waiting ≡ [] → length waiting ≤ MAX_LINE
      → Consumes (remaining s.inner) (remaining t.inner) [] → IsAtEnd (remaining t.inner) → OnBytes remaining r (λ bytes. summary_heard bytes ≡ Err fault.Cut)
  heard_to_end r s t claims waiting h none short nothing end =
      let all : List ℕ = h.reads.before ++ h.reads.last in
      Consumes-whole (remaining r.inner) (remaining t.inner) (all ++ []) (λ bytes. summary_heard bytes ≡ Err fault.Cut)
      (Consumes-trans (remaining r.inner) (remaining s.inner) (remaining t.inner) all [] h.reads.read nothing) end (h.same [] ∙ none_waits claims waiting none short)
