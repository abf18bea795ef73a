use Rattle.rga_brief.proofs.Prelude.{◌≡◌, ◌∙◌, ◌+◌, ◌++◌, ℕ, List, Option, Some, None, Result, Ok, Err, drop, refl, sym, ap, Splitting, lines_of, rest_of, splitting_with, GivesLine, passes_line, gives_up, ReceiveFault, Summary, Claim, ended, bytes_heard, One, Last, claim_line_at, after_claim_line, ◌<◌, [], ◌∷◌, length, cond, lt-ltb}
use Rattle.rga_ops.specs.declared.refusal.Refusal.TheVariants.{Full}
use Rattle.std.proofs.lemmas.Result.{err_from_is_err_and}
use Rattle.rga_lines.specs.declared.fault.LineFault.TheVariants as line_fault
use Rattle.rga_exchange.specs.declared.fault.ReceiveFault.TheVariants as fault
use Rattle.rga_brief.proofs.HearingLaws.{begins_long, next_heard}
use Rattle.rga_brief.proofs.hearing.take_claims.Goals as goal

abbrev failed : ReceiveFault → Result Summary ReceiveFault
failed e = Err e

pub returns-in-Err-clause-fault : goal.returns-in-Err-clause-fault
returns-in-Err-clause-fault c =
    rw c.in-Err.ensures.err.0 (λ e more.
    c.lines.invariant.same more
    ∙ begins_long c.lines.claims.items (lines_of (c.lines.splitter.waiting ++ more)) (rest_of (c.lines.splitter.waiting ++ more))
    ((gives_up c.lines.splitter c.find_line.new.self line_fault.Long c.lines.invariant.whole c.in-Err.ensures.err.1).1 more)
    ∙ ap (λ n. failed (fault.Line (n + 1) line_fault.Long)) (sym (c.len.ensures ∙ c.lines.claims.ok.0)))

pub returns-in_err-number-clause-fault : goal.returns-in_err-number-clause-fault
returns-in_err-number-clause-fault c =
    let p = err_from_is_err_and c.from_residual.result c.from_residual.ensures.1 in
    let found = rw c.in-Ok-Some.field-0-is at c.in-Ok-Some.ensures.found in
    let behind : Splitting = splitting_with (drop (c.in-Ok-Some.end + 1) c.find_line.new.self.waiting) in
    let given : GivesLine c.lines.splitter behind c.line.result.now = passes_line c.lines.splitter c.find_line.new.self behind c.line.result.now c.in-Ok-Some.end c.lines.invariant.whole found.0 found.1 c.line.ensures refl in
    rw (p.1, p.2) (λ not_memory more.
    c.lines.invariant.same more
    ∙ next_heard c.lines.splitter behind c.line.result.now c.lines.claims.items (claim_line_at c.line.result.now) given refl more
    ∙ c.in_err-number.ensures.fault not_memory (λ cs. bytes_heard cs (behind.waiting ++ more)))

-- a further claim is heard while there are fewer than may be
with_room : (claims : List Claim) (claim : Claim) → length claims < 1000000 → (behind : List Claim → Result Summary ReceiveFault) → after_claim_line claims (Ok (One claim)) behind ≡ behind (claims ++ claim ∷ [])
with_room claims claim few behind = ap (λ b. cond b (behind (claims ++ claim ∷ [])) (failed (fault.Refused (length claims + 1) Full))) (lt-ltb (length claims) 1000000 few)

abbrev at_end : ℕ → Result (Option ℕ) ReceiveFault
at_end number = Ok (Some number)

abbrev gone_on : Result (Option ℕ) ReceiveFault
gone_on = Ok None

not_ended : (number : ℕ) → at_end number ≡ gone_on → ⊥
not_ended number is = let clash : at_end number ≡ gone_on = is in cc

pub returns-in-Some-clause-end : goal.returns-in-Some-clause-end
returns-in-Some-clause-end c =
    let found = rw c.in-Ok-Some.field-0-is at c.in-Ok-Some.ensures.found in
    let behind : Splitting = splitting_with (drop (c.in-Ok-Some.end + 1) c.find_line.new.self.waiting) in
    let given : GivesLine c.lines.splitter behind c.line.result.now = passes_line c.lines.splitter c.find_line.new.self behind c.line.result.now c.in-Ok-Some.end c.lines.invariant.whole found.0 found.1 c.line.ensures refl in
    λ number is more.
    c.lines.invariant.same more
    ∙ next_heard c.lines.splitter behind c.line.result.now c.lines.claims.items (Ok (Last number)) given (c.in_ok-number.ensures.end number (ap Ok c.in-Some.is ∙ is)) more
    ∙ ap (λ (cs : List Claim). ended cs number) (sym (c.in_ok-number.ensures.same (λ e. not_ended c.in-Some.number (sym (ap Ok c.in-Some.is) ∙ e))))

pub lines-preserved : goal.lines-preserved
lines-preserved c =
    let found = rw c.in-Ok-Some.field-0-is at c.in-Ok-Some.ensures.found in
    let given : GivesLine c.lines.splitter c.pass_line.new.self c.line.result.now = passes_line c.lines.splitter c.find_line.new.self c.pass_line.new.self c.line.result.now c.in-Ok-Some.end c.lines.invariant.whole found.0 found.1 c.line.ensures c.pass_line.ensures in
    let q = c.in_ok-number.ensures.claim cc in
    record {
      whole = given.good;
      same = λ more.
          c.lines.invariant.same more
          ∙ next_heard c.lines.splitter c.pass_line.new.self c.line.result.now c.lines.claims.items (Ok (One q.0)) given q.1 more
          ∙ with_room c.lines.claims.items q.0 q.2 (λ cs. bytes_heard cs (c.pass_line.new.self.waiting ++ more))
          ∙ ap (λ (cs : List Claim). bytes_heard cs (c.pass_line.new.self.waiting ++ more)) (sym q.3);
    }
