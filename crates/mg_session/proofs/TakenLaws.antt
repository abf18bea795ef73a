-- Keys that were taken, one after the other, and their reads.
use Rattle.std.proofs.Common.{◌≡◌, ◌≢◌, arith, ℕ, ◌+◌, ◌<◌, Bool, true, false, List, [], ◌∷◌, ◌++◌, length, get_or, drop, refl, sym, ap, subst, ◌∙◌}
use Rattle.std.proofs.KnownBytes.{Consumes-nil, Consumes-trans}
use Rattle.std.proofs.lemmas.List.{drop_more}
use Rattle.std.specs.Io.KnownBytes.{Consumes}
use Rattle.std.specs.List.{concat}
use Rattle.rga_exchange.specs.Counting.{Calls, one_more}
use Rattle.mg_session.specs.Courses.{is_on}
use Rattle.mg_session.specs.Display.{Displays}
use Rattle.mg_session.specs.Moments.{Known, Moment, StepIf}
use Rattle.mg_session.specs.Running.{ShowsKey, TakesKeys, ReadsKeys, through, broken_off, Runs}
use Rattle.mg_session.specs.declared.course.Course.{Course}
use Rattle.mg_session.specs.declared.course.Course.TheVariants.{On}

-- what holds before a step holds after it, if it does where the step is done
pub after_step : {M : Type 0} (P : M → Type 0) (Does : M → M → Type 0) (asked : Bool) (a b : M)
    → P a → (asked ≡ true → Does a b → P b) → StepIf asked Does a b → P b
after_step P Does true a b holds done step = done refl step
after_step P Does false a b holds done same = subst P (sym same) holds

pub is_off : (course : Course) → course ≢ On → is_on course ≡ false
is_off On ended = absurd (ended refl)
is_off course ended = refl

module _ (trace : Bool) where
  -- none, where the session does not go on
  pub takes_none : (bytes : List ℕ) (m : Moment) → m.course ≢ On → TakesKeys trace bytes m m
  takes_none [] m ended = refl
  takes_none (x ∷ xs) m ended = (m, rw (is_off m.course ended) refl, takes_none xs m ended)

  -- those of which each is taken, and then further ones
  takes_more : (xs ys : List ℕ) (a b c : Moment) → TakesKeys trace xs a b → TakesKeys trace ys b c → TakesKeys trace (xs ++ ys) a c
  takes_more [] ys a b c same next = subst (λ m. TakesKeys trace ys m c) same next
  takes_more (x ∷ xs) ys a b c (mid, step, rest) next = (mid, step, takes_more xs ys mid b c rest next)

  -- the next key of a list, and then the others
  pub next_key : (bytes : List ℕ) (i d : ℕ) (a b c : Moment) → i < length bytes → StepIf (is_on a.course) (ShowsKey trace (get_or bytes i d)) a b
      → TakesKeys trace (drop (i + 1) bytes) b c → TakesKeys trace (drop i bytes) a c
  next_key bytes i d a b c inside step rest = subst (λ bs. TakesKeys trace bs a c) (sym (drop_more bytes i d inside)) (b, step, rest)

  -- ---- reads of the keys

  -- none, behind which the session ends
  pub reads_none : (m : Moment) (rest : Calls Known) → m.course ≢ On → ReadsKeys trace m m rest rest
  reads_none m rest ended = through [] (Consumes-nil rest.inner) (omega arith) (omega arith) refl (λ goes. absurd (ended goes)) refl

  -- a block, and then further ones
  pub reads_more : (block : List ℕ) {a b c : Moment} {from mid rest : Calls Known} → Consumes from.inner mid.inner block
      → mid.failures ≡ from.failures → from.left ≡ mid.left + 1 → TakesKeys trace block a b
      → ReadsKeys trace b c mid rest → ReadsKeys trace a c from rest
  reads_more block {a} {b} {c} {from} {mid} {rest} read same call taken (through blocks bytes least most unfailed whole next) =
      through (block ∷ blocks) (Consumes-trans from.inner mid.inner rest.inner block (concat blocks) read bytes) (omega arith) (omega arith)
      (unfailed ∙ same) whole (takes_more block (concat blocks) a b c taken next)
  reads_more block {a} {b} {c} {from} {mid} {rest} read same call taken (broken_off blocks bytes failed ends next) =
      broken_off (block ∷ blocks) (Consumes-trans from.inner mid.inner rest.inner block (concat blocks) read bytes)
      (failed ∙ ap one_more same) ends (takes_more block (concat blocks) a b _ taken next)

  -- none, where the frame at the start ended the session
  pub runs_none : {R : Type 0} (remaining : R → Known) (keys : Calls R) (a b : Moment) → a.course ≡ On → b.course ≢ On
      → StepIf trace Displays a b → Runs remaining trace a b keys keys
  runs_none remaining keys a b on ended starts =
      let traced : trace ≡ true =
      after_step (λ (m : Moment). m.course ≢ On → trace ≡ true) Displays trace a b (λ off. absurd (off on)) (λ is _ _. is) starts ended in
      record { begun = b; ended = b; starts = starts; taken = rw (is_off b.course ended) (refl, refl); finishes = rw traced refl }
