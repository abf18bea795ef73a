-- What is heard of claims, in words.
use Rattle.rga_brief.proofs.Prelude.{◌≡◌, ℕ, ◌+◌, Bool, true, false, cond, nat_lt, ◌==◌, eqb-true, eq-eqb, List, [], ◌∷◌, ◌++◌, map, length, refl, sym, ap, ◌∙◌, subst, append_assoc, append-nil, true≢false, Result, Ok, Err, ◌↔◌, lt-ltb, le-ltb, ltb-true, ltb-false, ne_eqb, lines_of, rest_of, MAX_LINE, LineFault, ReceiveFault, Summary, Claim, summary_from, claim_line_at, ClaimLine, One, Last, SayClaims, StopsAs, IsHeardAs, ended, unended, after_claim_line, lines_heard, summary_heard, ◌≤◌, arith, length-append, lit≤}
use Rattle.rga_lines.specs.declared.fault.LineFault.TheVariants as line_fault
use Rattle.rga_exchange.specs.declared.fault.ReceiveFault.TheVariants as fault
use Rattle.rga_ops.specs.declared.refusal.Refusal.TheVariants.{Full}
use Rattle.rga_brief.proofs.TellingLaws.{has_room}

abbrev Answer : Type 0
Answer = Result Summary ReceiveFault

abbrev failed : ReceiveFault → Answer
failed e = Err e

abbrev says : Claim → Result ClaimLine LineFault
says claim = Ok (One claim)

-- ---- how many claims there are

one_longer : (most : ℕ) (claims : List Claim) (claim : Claim) → nat_lt (length claims) most ≡ true → length (claims ++ claim ∷ []) ≤ most
one_longer most claims claim h = omega (arith, length-append claims (claim ∷ []), ltb-true (length claims) most h)

abbrev too_many : List Claim → Answer
too_many claims = failed (fault.Refused (length claims + 1) Full)

-- ---- what is answered is so in words

-- behind these claims
record HeardBehind (before : List Claim) (lines : List (List ℕ)) (rest : List ℕ) (answer : Answer) : Type 0 where
  front : List (List ℕ)
  later : List (List ℕ)
  claims : List Claim
  split : lines ≡ front ++ later
  say : SayClaims front claims
  few : length (before ++ claims) ≤ 1000000
  stops : StopsAs (before ++ claims) later rest answer

at_once : (before : List Claim) (lines : List (List ℕ)) (rest : List ℕ) (answer : Answer) → length before ≤ 1000000 → StopsAs before lines rest answer → HeardBehind before lines rest answer
at_once before lines rest answer few stops = record {
  front = [];
  later = lines;
  claims = [];
  split = refl;
  say = refl;
  few = subst (λ (cs : List Claim). length cs ≤ 1000000) (sym (append-nil before)) few;
  stops = subst (λ cs. StopsAs cs lines rest answer) (sym (append-nil before)) stops;
}

one_more : (before : List Claim) (claim : Claim) (line : List ℕ) (lines : List (List ℕ)) (rest : List ℕ) (answer : Answer) → claim_line_at line ≡ says claim → HeardBehind (before ++ claim ∷ []) lines rest answer → HeardBehind before (line ∷ lines) rest answer
one_more before claim line lines rest answer is h = record {
  front = line ∷ h.front;
  later = h.later;
  claims = claim ∷ h.claims;
  split = ap (λ ls. line ∷ ls) h.split;
  say = λ k. is k ∷ h.say k;
  few = subst (λ (cs : List Claim). length cs ≤ 1000000) (append_assoc before (claim ∷ []) h.claims) h.few;
  stops = subst (λ cs. StopsAs cs h.later rest answer) (append_assoc before (claim ∷ []) h.claims) h.stops;
}

no_line : (claims : List Claim) (rest : List ℕ) → StopsAs claims [] rest (unended claims rest)
no_line claims rest = by (nat_lt MAX_LINE (length rest)) refl
  where
    by : (b : Bool) → nat_lt MAX_LINE (length rest) ≡ b → StopsAs claims [] rest (cond b (failed (fault.Line (length claims + 1) line_fault.Long)) (failed fault.Cut))
    by true h = (ltb-true MAX_LINE (length rest) h, refl, refl)
    by false h = ltb-false MAX_LINE (length rest) h

end_line_stops : (claims : List Claim) (line : List ℕ) (lines : List (List ℕ)) (rest : List ℕ) (number : ℕ) → claim_line_at line ≡ Ok (Last number) → StopsAs claims (line ∷ lines) rest (ended claims number)
end_line_stops claims line lines rest number is = by (number == length claims) refl
  where
    by : (b : Bool) → (number == length claims) ≡ b → StopsAs claims (line ∷ lines) rest (cond b (Ok (summary_from claims)) (failed fault.Count))
    by true h = (is ∙ ap (λ n. Ok (Last n)) (eqb-true number (length claims) h), refl)
    by false h = (number, is, λ same. true≢false (sym (eq-eqb number (length claims) same) ∙ h))

heard_so : (before : List Claim) (lines : List (List ℕ)) (rest : List ℕ) → length before ≤ 1000000 → HeardBehind before lines rest (lines_heard before lines rest)
heard_so before [] rest few = at_once before [] rest (unended before rest) few (no_line before rest)
heard_so before (line ∷ lines) rest few = by (claim_line_at line) refl (λ claims more. heard_so claims lines rest more)
  where
    by_room : (claim : Claim) (b : Bool) → nat_lt (length before) 1000000 ≡ b → claim_line_at line ≡ says claim → ((claims : List Claim) → length claims ≤ 1000000 → HeardBehind claims lines rest (lines_heard claims lines rest))
        → HeardBehind before (line ∷ lines) rest (cond b (lines_heard (before ++ claim ∷ []) lines rest) (too_many before))
    by_room claim true h is on = one_more before claim line lines rest (lines_heard (before ++ claim ∷ []) lines rest) is (on (before ++ claim ∷ []) (one_longer 1000000 before claim h))
    by_room claim false h is on = at_once before (line ∷ lines) rest (too_many before) few (claim, is, ltb-false (length before) 1000000 h, refl)

    by : (r : Result ClaimLine LineFault) → claim_line_at line ≡ r → ((claims : List Claim) → length claims ≤ 1000000 → HeardBehind claims lines rest (lines_heard claims lines rest))
        → HeardBehind before (line ∷ lines) rest (after_claim_line before r (λ more. lines_heard more lines rest))
    by (Ok (One claim)) is on = by_room claim (nat_lt (length before) 1000000) refl is on
    by (Ok (Last number)) is on = at_once before (line ∷ lines) rest (ended before number) few (end_line_stops before line lines rest number is)
    by (Err e) is on = at_once before (line ∷ lines) rest (failed (fault.Line (length before + 1) e)) few (is, refl)

-- ---- and what is so in words is answered

said_claims : (before claims : List Claim) (front later : List (List ℕ)) (rest : List ℕ) → SayClaims front claims → length (before ++ claims) ≤ 1000000 → lines_heard before (front ++ later) rest ≡ lines_heard (before ++ claims) later rest
said_claims before [] [] later rest say few = ap (λ cs. lines_heard cs later rest) (sym (append-nil before))
said_claims before [] (line ∷ front) later rest say few = absurd (no_more (claim_line_at line) (map claim_line_at front) say)
  where
    no_more : (r : Result ClaimLine LineFault) (rs : List (Result ClaimLine LineFault)) → r ∷ rs ≡ [] → ⊥
    no_more r rs h = cc
said_claims before (claim ∷ claims) [] later rest say few = absurd (no_fewer (says claim) (map says claims) say)
  where
    no_fewer : (r : Result ClaimLine LineFault) (rs : List (Result ClaimLine LineFault)) → [] ≡ r ∷ rs → ⊥
    no_fewer r rs h = cc
said_claims before (claim ∷ claims) (line ∷ front) later rest say few =
    let first : claim_line_at line ≡ says claim = cc in
    let others : SayClaims front claims = cc in
    ap (λ r. after_claim_line before r (λ more. lines_heard more (front ++ later) rest)) first
    ∙ ap (λ b. cond b (lines_heard (before ++ claim ∷ []) (front ++ later) rest) (too_many before)) (lt-ltb (length before) 1000000 (has_room 1000000 before claim claims few))
    ∙ said_claims (before ++ claim ∷ []) claims front later rest others (subst (λ (cs : List Claim). length cs ≤ 1000000) (sym (append_assoc before (claim ∷ []) claims)) few)
    ∙ ap (λ cs. lines_heard cs later rest) (append_assoc before (claim ∷ []) claims)

stops_so : (claims : List Claim) (lines : List (List ℕ)) (rest : List ℕ) (answer : Answer) → StopsAs claims lines rest answer → lines_heard claims lines rest ≡ answer
stops_so claims (line ∷ later) rest (Ok s) h =
    ap (λ r. after_claim_line claims r (λ more. lines_heard more later rest)) h.0
    ∙ ap (λ b. cond b (Ok (summary_from claims)) (failed fault.Count)) (eq-eqb (length claims) (length claims) refl)
    ∙ ap Ok (sym h.1)
stops_so claims (line ∷ later) rest (Err fault.Count) h =
    ap (λ r. after_claim_line claims r (λ more. lines_heard more later rest)) h.1
    ∙ ap (λ b. cond b (Ok (summary_from claims)) (failed fault.Count)) (ne_eqb h.0 (length claims) h.2)
stops_so claims (line ∷ later) rest (Err (fault.Line n e)) h =
    ap (λ r. after_claim_line claims r (λ more. lines_heard more later rest)) h.0 ∙ ap (λ m. failed (fault.Line m e)) (sym h.1)
stops_so claims (line ∷ later) rest (Err (fault.Refused n Full)) h =
    ap (λ r. after_claim_line claims r (λ more. lines_heard more later rest)) h.1
    ∙ ap (λ b. cond b (lines_heard (claims ++ h.0 ∷ []) later rest) (too_many claims)) (le-ltb (length claims) 1000000 h.2)
    ∙ ap (λ m. failed (fault.Refused m Full)) (sym h.3)
stops_so claims [] rest (Err (fault.Line n e)) h =
    ap (λ b. cond b (failed (fault.Line (length claims + 1) line_fault.Long)) (failed fault.Cut)) (lt-ltb MAX_LINE (length rest) h.0)
    ∙ (λ k. failed (fault.Line (sym h.2 k) (sym h.1 k)))
stops_so claims [] rest (Err fault.Cut) h = ap (λ b. cond b (failed (fault.Line (length claims + 1) line_fault.Long)) (failed fault.Cut)) (le-ltb MAX_LINE (length rest) h)
stops_so claims lines rest answer h = elim h [ ]

pub heard-iff : (bytes : List ℕ) (answer : Answer) → (summary_heard bytes ≡ answer) ↔ IsHeardAs bytes answer
heard-iff bytes answer = (
  λ is.
      let h : HeardBehind [] (lines_of bytes) (rest_of bytes) (summary_heard bytes) = heard_so [] (lines_of bytes) (rest_of bytes) (lit≤ tt) in
      record { front = h.front; later = h.later; claims = h.claims; lines = h.split; say = h.say; few = h.few; stops = subst (StopsAs h.claims h.later (rest_of bytes)) is h.stops },
  λ w.
      ap (λ lines. lines_heard [] lines (rest_of bytes)) w.lines
      ∙ said_claims [] w.claims w.front w.later (rest_of bytes) w.say w.few
      ∙ stops_so w.claims w.later (rest_of bytes) answer w.stops,
)
