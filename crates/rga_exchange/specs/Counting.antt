-- A device whose failed calls are counted, and whose calls come to an end.
use Rattle.std.specs.Prelude.{◌≡◌, ◌≢◌, ℕ, ◌+◌, ◌-◌, ◌^◌, ◌≤◌, ◌⊎◌, ◌&&◌, ◌==◌, Bool, true, false, min, List, ◌++◌, length, nat_lt, if◌then◌else◌, Option, IfSome, Result, Err, MatchResult, ⊤, refl}
use Rattle.std.specs.Coded.{Coded, code_by, coded×, coded_bool, coded_ℕ}
use Rattle.std.specs.Io.KnownBytes.{Keeps, Appends, IsAtEnd}
use Rattle.rga_exchange.specs.declared.counted.TheConstants.{MAX_CALLS}

-- what a contract sees of a `Counted`: the device, how many calls failed, how many more are passed on to it, whether the
-- last read that it answered gave no bytes though there was room, and whether all that was written was flushed behind it
pub record Calls (T : Type 0) : Type 0 where
  pub inner : T
  pub failures : ℕ
  pub left : ℕ
  pub at_end : Bool
  pub flushed : Bool

-- they are stored as the tuple of the fields
abbrev pub calls_code : {T : Type 0} → Coded T → Coded (Calls T)
calls_code {T} code =
    code_by (T × (ℕ × (ℕ × (Bool × Bool)))) (coded× code (coded× coded_ℕ (coded× coded_ℕ (coded× coded_bool coded_bool))))
    (λ c. (c.inner, (c.failures, (c.left, (c.at_end, c.flushed)))))
    (λ p. record { inner = p.0; failures = p.1.0; left = p.1.1.0; at_end = p.1.1.1.0; flushed = p.1.1.1.1 }) (λ _. refl)

-- where the count of failures stops: the greatest `u64`
abbrev pub max_failures : ℕ
max_failures = 2 ^ 64 - 1

-- one failure more, as far as the count goes
abbrev pub one_more : ℕ → ℕ
one_more n = min (n + 1) max_failures

module _ {T : Type 0} where
  -- No call is passed on any more: none is left, or the count of failures stands at its greatest.
  abbrev pub IsSpent : Calls T → Type 0
  IsSpent c = (c.left ≡ 0) ⊎ (c.failures ≡ max_failures)

  -- a call that answers `Ok` leaves the count of failures, and one that answers `Err` adds one to it
  abbrev pub Counts : {A E : Type 0} → Result A E → Calls T → Calls T → Type 0
  Counts r old new = MatchResult r (λ _. new.failures ≡ old.failures) (λ _. new.failures ≡ one_more old.failures)

  -- the same of a write, where taking nothing of some bytes counts as a failure too
  abbrev pub WriteCounts : {E : Type 0} → Result ℕ E → List ℕ → Calls T → Calls T → Type 0
  WriteCounts r buf old new = MatchResult r
      (λ n. new.failures ≡ (if (n == 0) && nat_lt 0 (length buf) then one_more old.failures else old.failures))
      (λ _. new.failures ≡ one_more old.failures)

  -- a read that is answered tells whether it gave no bytes though there was room, and one that fails tells nothing
  abbrev pub TellsEnd : {E : Type 0} → Result ℕ E → List ℕ → Calls T → Calls T → Type 0
  TellsEnd r buf old new = MatchResult r (λ n. new.at_end ≡ ((n == 0) && nat_lt 0 (length buf))) (λ _. new.at_end ≡ old.at_end)

  -- a write that is passed on is not flushed yet, whatever it answers
  pub record Unsettles (old new : Calls T) : Type 0 where
    pub passed_on : ¬ (IsSpent old) → new.flushed ≡ false
    pub refused : IsSpent old → new.flushed ≡ old.flushed

  -- behind a flush that is answered all is flushed, and one that fails changes nothing of that
  abbrev pub Settles : {A E : Type 0} → Result A E → Calls T → Calls T → Type 0
  Settles r old new = MatchResult r (λ _. new.flushed ≡ true) (λ _. new.flushed ≡ old.flushed)

  -- At any answer but this fault all is flushed, where it was before.
  abbrev pub StaysFlushed : {A E : Type 0} → E → Result A E → Calls T → Calls T → Type 0
  StaysFlushed fault r old new = r ≢ Err fault → old.flushed ≡ true → new.flushed ≡ true

  -- A call that is passed on costs one of those that are left, whether it fails or not; one that is not costs none.
  pub record Costs (old new : Calls T) : Type 0 where
    pub passed_on : ¬ (IsSpent old) → old.left ≡ new.left + 1
    pub refused : IsSpent old → new.left ≡ old.left

  -- So does this one, of at most so many; what answers `Ok` was passed on.
  abbrev pub UsesCall : {A E : Type 0} → Result A E → Calls T → Calls T → Type 0
  UsesCall r old new = (old.left ≤ MAX_CALLS) × MatchResult r (λ _. old.left ≡ new.left + 1) (λ _. ⊤) × Costs old new

  -- Where this fault is answered, the device failed once more; and at any other answer it did not.
  pub record CountsAs {A E : Type 0} (fault : E) (r : Result A E) (old new : Calls T) : Type 0 where
    pub failed : r ≡ Err fault → new.failures ≡ one_more old.failures
    pub unfailed : r ≢ Err fault → new.failures ≡ old.failures

-- what a reader is known to give leads to this
abbrev pub OnBytes : {R : Type 0} → (R → Option (List ℕ)) → Calls R → (List ℕ → Type 0) → Type 0
OnBytes remaining reader P = IfSome (remaining reader.inner) P

-- The input was read to its end: the last read gave no bytes though there was room, whatever the reader; and of known
-- bytes none is left.
pub record IsReadToEnd {R : Type 0} (remaining : R → Option (List ℕ)) (new : Calls R) : Type 0 where
  pub last_read : new.at_end ≡ true
  pub none_left : IsAtEnd (remaining new.inner)

module _ {W : Type 0} (contents : W → Option (List ℕ)) (old new : Calls W) where
  -- known bytes stay as they were
  abbrev pub WritesNothing : Type 0
  WritesNothing = Keeps (contents old.inner) (contents new.inner)

  -- known bytes grew by the text
  abbrev pub Writes : List ℕ → Type 0
  Writes text = Appends (contents old.inner) (contents new.inner) text

  -- what was written of the text, rest being left
  pub record WritesAllBut (text rest : List ℕ) : Type 0 where
    pub front : List ℕ
    pub parts : text ≡ front ++ rest
    pub written : Writes front

  -- known bytes grew by a beginning of the text
  pub record WritesFront (text : List ℕ) : Type 0 where
    pub front : List ℕ
    pub rest : List ℕ
    pub parts : text ≡ front ++ rest
    pub written : Writes front
