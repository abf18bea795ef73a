-- Operations that were taken in turn, and that are removed again, the last first.
use Rattle.rga_store.proofs.Prelude.{◌≡◌, ℕ, ◌<◌, ◌+◌, List, [], ◌∷◌, ◌++◌, length, take, drop, slice_index_or, refl, sym, ap, ◌∙◌, subst, arith, length-append, Ok, take_more, take-append-le, drop-append-le, Content, Holds, join, single, clock_of, answer, taken, and_take, taken_one_by_one, Op, Memory, Answer, ok, err, passed, bad, one_by_one-append, New, without_operation}
use Rattle.rga_store.proofs.WithoutLaws.{without_new, new_held}
use Rattle.rga_store.specs.declared.steps.Step.{Step}
use Rattle.rga_store.specs.Back.{without_noted, CanTakeBack, IsLastNoted}

-- ---- steps

pub without_noted-push : (ss : List Step) (s : Step) (c : Content) → without_noted (ss ++ s ∷ []) c ≡ without_noted ss (without_operation s.op.now c)
without_noted-push [] s c = refl
without_noted-push (t ∷ ss) s c = ap (without_operation t.op.now) (without_noted-push ss s c)

pub last_step : (ss : List Step) (s : Step) (c : Content) → CanTakeBack (ss ++ s ∷ []) c → IsLastNoted ss s.op.now s.clock c
last_step [] s c h = record { held = h.1.0; clocked = h.1.1; rest = tt }
last_step (t ∷ ss) s c h =
    let last : IsLastNoted ss s.op.now s.clock c = last_step ss s c h.0 in
    record {
      held = last.held;
      clocked = last.clocked;
      rest = (last.rest, subst (λ d. Holds d t.op.now × (t.clock ≡ clock_of (without_operation t.op.now d))) (without_noted-push ss s c) h.1);
    }

pub one_step_more : (ss : List Step) (s : Step) (c : Content) → IsLastNoted ss s.op.now s.clock c → CanTakeBack (ss ++ s ∷ []) c
one_step_more [] s c last = (tt, (last.held, last.clocked))
one_step_more (t ∷ ss) s c last = (
  one_step_more ss s c (record { held = last.held; clocked = last.clocked; rest = last.rest.0 }),
  subst (λ d. Holds d t.op.now × (t.clock ≡ clock_of (without_operation t.op.now d))) (sym (without_noted-push ss s c)) last.rest.1,
)

module _ (limit : ℕ) (n m : Content) (op : Op) (answered : answer limit n op ≡ Ok New) (joined : m ≡ join n (single op)) where
  pub without_taken : without_operation op m ≡ n
  without_taken = ap (without_operation op) joined ∙ without_new limit n op answered

  pub last_taken : (ss : List Step) (before : ℕ) → before ≡ clock_of n → CanTakeBack ss n → IsLastNoted ss op before m
  last_taken ss before same back = record {
    held = subst (λ d. Holds d op) (sym joined) (new_held limit n op answered);
    clocked = same ∙ ap clock_of (sym without_taken);
    rest = subst (λ d. CanTakeBack ss d) (sym without_taken) back;
  }

-- one step less behind those that stay
pub left_gone : (from : ℕ) (ss : List Step) (s : Step) (c : Content) → from < length (ss ++ s ∷ []) → without_noted (drop from ss) (without_operation s.op.now c) ≡ without_noted (drop from (ss ++ s ∷ [])) c
left_gone from ss s c w =
    let many : length (ss ++ s ∷ []) ≡ length ss + 1 = length-append ss (s ∷ []) in
    sym (ap (λ ts. without_noted ts c) (drop-append-le from ss (s ∷ []) (omega (arith, many, w))) ∙ without_noted-push (drop from ss) s c)

pub left_kept : (from : ℕ) (ss : List Step) (s : Step) → from < length (ss ++ s ∷ []) → take from ss ≡ take from (ss ++ s ∷ [])
left_kept from ss s w =
    let many : length (ss ++ s ∷ []) ≡ length ss + 1 = length-append ss (s ∷ []) in
    sym (take-append-le from ss (s ∷ []) (omega (arith, many, w)))

-- ---- what was answered

-- what is answered, unless memory is wanting, was that it is new
pub was_new : (limit : ℕ) (c : Content) (op : Op) (r : Answer) → r ≡ ok New → ((r ≡ err Memory → ⊥) → r ≡ answer limit c op) → answer limit c op ≡ ok New
was_new limit c op r new exact = sym (exact (λ k. let clash : ok New ≡ err Memory = sym new ∙ k in cc)) ∙ new

-- Ok is no want of memory
pub not_refused : passed ≡ bad Memory → ⊥
not_refused h = absurd (cc)

-- ---- where the operations lead

-- where the next one leads
pub next_taken : (limit : ℕ) (base c d : Content) (item : Op) (ops : List Op) (i : ℕ) → taken_one_by_one limit base (take i ops) ≡ Ok c → i < length ops → item ≡ slice_index_or ops i item → taken limit c item ≡ Ok d → taken_one_by_one limit base (take (i + 1) ops) ≡ Ok d
next_taken limit base c d item ops i first w is next =
    ap (taken_one_by_one limit base) (take_more ops i item w ∙ ap (λ x. take i ops ++ x ∷ []) (sym is))
    ∙ one_by_one-append limit base c (take i ops) (item ∷ []) first
    ∙ ap (λ r. and_take r (λ e. Ok e)) next
