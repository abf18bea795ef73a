-- The head of an exchange: what is taken of a stream is what is taken of its lines behind the head, as of a log.
use Rattle.std.proofs.Common.{◌≡◌, ℕ, ◌+◌, ◌<◌, Bool, true, false, cond, List, [], ◌∷◌, ◌++◌, length, Result, Ok, Err, refl, sym, ap, subst, ◌∙◌, arith, true≢false}
use Rattle.std.specs.Prelude.{◌↔◌}
use Rattle.std.proofs.lemmas.Bool.{ne_eqb, eq-eqb, eqb-true}
use Rattle.rga_ops.specs.Content.{Content}
use Rattle.rga_ops.specs.Answer.{taken}
use Rattle.rga_ops.specs.declared.refusal.Refusal.{Refusal}
use Rattle.rga_lines.specs.Runs.{stretch_operations, run_deletions}
use Rattle.rga_lines.specs.Table.{AnyReading, any_line_at}
use Rattle.rga_lines.specs.Log.{operations_of, is_head, behind_head}
use Rattle.rga_lines.specs.declared.line.Line.TheVariants.{One, Run, Deletions, Head, Last}
use Rattle.rga_lines.specs.declared.fault.LineFault.TheVariants as line_fault
use Rattle.rga_lines.proofs.StandLemmas.{stands}
use Rattle.rga_exchange.specs.declared.taking.Form.{Form}
use Rattle.rga_exchange.specs.declared.taking.Form.TheVariants.{Log, Exchange}
use Rattle.rga_exchange.specs.declared.fault.LogFault.TheVariants as fault
use Rattle.rga_exchange.specs.Taking.{may_be_head, body_behind, Stop, AtFault, progress, refused_at, taken_whole, after_line, go_on, lines_taken}
use Rattle.rga_exchange.specs.Stops.{stop_further, one_further}

abbrev pub on : Content → Result Content Stop
on c = Ok c

abbrev pub halt : Stop → Result Content Stop
halt s = Err s

abbrev no_head_at : ℕ → Result Content Stop
no_head_at n = halt (AtFault (fault.Line n line_fault.Kind))

-- ---- where a head may be

-- no line behind another one may be a head
pub none_behind : (form : Form) (n : ℕ) → 0 < n → may_be_head form (n + 1) ≡ false
none_behind Log n some = refl
none_behind Exchange n some = ne_eqb (n + 1) 1 (λ e. omega (arith, e, some))

pub head-iff : (form : Form) (n : ℕ) → (may_be_head form n ≡ true) ↔ ((form ≡ Exchange) × (n ≡ 1))
head-iff Log n = (λ e. absurd cc, λ p. let clash : Log ≡ Exchange = p.0 in absurd cc)
head-iff Exchange n = (λ e. (refl, eqb-true n 1 e), λ p. eq-eqb n 1 p.1)

says_head : (r : AnyReading) → is_head r ≡ true → r ≡ Ok Head
says_head r e = grind (arith)

-- a head where none may be is the fault of its line
pub head_elsewhere : (form : Form) (limit n : ℕ) (c : Content) (line : List ℕ) (lines : List (List ℕ)) → any_line_at line ≡ Ok Head → may_be_head form (n + 1) ≡ false
    → lines_taken form limit n c (line ∷ lines) ≡ progress n c (AtFault (fault.Line (n + 1) line_fault.Kind))
head_elsewhere form limit n c line lines says none = grind (arith)

-- ---- as a log

-- a line is taken as one of a log, but for a head where one may be
as_line : (form : Form) (limit n : ℕ) (c : Content) (r : AnyReading) → (is_head r ≡ true → may_be_head form n ≡ false) → after_line form limit n c r ≡ after_line Log limit n c r
as_line form limit n c r none = grind (arith)

pub as_log : (form : Form) (limit n : ℕ) (c : Content) (lines : List (List ℕ)) → may_be_head form (n + 1) ≡ false → lines_taken form limit n c lines ≡ lines_taken Log limit n c lines
as_log form limit n c [] none = refl
as_log form limit n c (line ∷ lines) none =
    λ k. go_on n c (as_line form limit (n + 1) c (any_line_at line) (λ _. none) k) (λ d. as_log form limit (n + 1) d lines (none_behind form (n + 1) (omega arith)) k)

-- no lines have none
pub body-nil : (form : Form) (n : ℕ) → body_behind form n [] ≡ []
body-nil form n = grind (arith)

-- what is taken of lines is what is taken of those that are to be operations, as lines of a log behind so many others
pub record ThroughBody (form : Form) (limit n : ℕ) (c : Content) (lines body : List (List ℕ)) : Type 0 where
  pub before : ℕ
  pub count : before + length body ≡ n + length lines
  pub same : lines_taken form limit n c lines ≡ lines_taken Log limit before c body

pub through_body : (form : Form) (limit n : ℕ) (c : Content) (lines : List (List ℕ)) → ThroughBody form limit n c lines (body_behind form n lines)
through_body form limit n c [] = subst (ThroughBody form limit n c []) (sym (body-nil form n)) (record { before = n; count = refl; same = refl })
through_body form limit n c (line ∷ lines) = by_place (may_be_head form (n + 1)) (is_head (any_line_at line)) refl refl
  where
    by_place : (may head : Bool) → may_be_head form (n + 1) ≡ may → is_head (any_line_at line) ≡ head → ThroughBody form limit n c (line ∷ lines) (cond may (cond head lines (line ∷ lines)) (line ∷ lines))
    by_place true true may head = record {
      before = n + 1;
      count = omega arith;
      same = ap (λ r. go_on n c (after_line form limit (n + 1) c r) (λ d. lines_taken form limit (n + 1) d lines)) (says_head (any_line_at line) head)
          ∙ ap (λ b. go_on n c (cond b (on c) (no_head_at (n + 1))) (λ d. lines_taken form limit (n + 1) d lines)) may
          ∙ as_log form limit (n + 1) c lines (none_behind form (n + 1) (omega arith));
    }
    by_place true false may head = record {
      before = n;
      count = refl;
      same = λ k. go_on n c (as_line form limit (n + 1) c (any_line_at line) (λ is. absurd (true≢false (sym is ∙ head))) k) (λ d. as_log form limit (n + 1) d lines (none_behind form (n + 1) (omega arith)) k);
    }
    by_place false head none is = record { before = n; count = refl; same = as_log form limit n c (line ∷ lines) none }

-- ---- lines that are to be operations

pub body-append : (form : Form) (n : ℕ) (xs ys : List (List ℕ)) → body_behind form n (xs ++ ys) ≡ body_behind form n xs ++ body_behind form (n + length xs) ys
body-append form n xs ys = grind arith

-- a head stands for no operations, be it taken or not
pub body_alone : (form : Form) (n : ℕ) (line : List ℕ) → operations_of (body_behind form n (line ∷ [])) ≡ operations_of (line ∷ [])
body_alone form n line = grind (arith, stands, says_head)

-- ---- an exchange

abbrev further : Result Content Stop → Result Content Stop
further (Ok d) = Ok d
further (Err stop) = Err (stop_further stop)

lines_further : (limit n : ℕ) (c : Content) (lines : List (List ℕ)) → lines_taken Log limit (n + 1) c lines ≡ one_further (lines_taken Log limit n c lines)
lines_further limit n c [] = refl
lines_further limit n c (line ∷ lines) =
    ap (λ r. go_on (n + 1) c r (λ d. lines_taken Log limit (n + 1 + 1) d lines)) (by_reading (any_line_at line))
    ∙ by_taken (after_line Log limit (n + 1) c (any_line_at line)) (λ d. lines_further limit (n + 1) d lines)
  where
    by_refusal : (r : Result Content Refusal) → refused_at (n + 1 + 1) r ≡ further (refused_at (n + 1) r)
    by_refusal (Ok d) = refl
    by_refusal (Err e) = refl

    by_reading : (r : AnyReading) → after_line Log limit (n + 1 + 1) c r ≡ further (after_line Log limit (n + 1) c r)
    by_reading (Ok (One op)) = by_refusal (taken limit c op)
    by_reading (Ok (Run r)) = by_refusal (taken_whole limit c (stretch_operations r))
    by_reading (Ok (Deletions r)) = by_refusal (taken_whole limit c (run_deletions r))
    by_reading (Ok Head) = refl
    by_reading (Ok (Last number)) = refl
    by_reading (Err e) = refl

    by_taken : (r : Result Content Stop) → ((d : Content) → lines_taken Log limit (n + 1 + 1) d lines ≡ one_further (lines_taken Log limit (n + 1) d lines))
        → go_on (n + 1) c (further r) (λ d. lines_taken Log limit (n + 1 + 1) d lines) ≡ one_further (go_on n c r (λ d. lines_taken Log limit (n + 1) d lines))
    by_taken (Ok d) later = later d
    by_taken (Err stop) later = refl

pub head_first : (limit : ℕ) (c : Content) (line : List ℕ) (lines : List (List ℕ)) → any_line_at line ≡ Ok Head → lines_taken Exchange limit 0 c (line ∷ lines) ≡ one_further (lines_taken Log limit 0 c lines)
head_first limit c line lines says =
    ap (λ r. go_on 0 c (after_line Exchange limit 1 c r) (λ d. lines_taken Exchange limit 1 d lines)) says
    ∙ as_log Exchange limit 1 c lines refl
    ∙ lines_further limit 0 c lines

pub head_absent : (limit : ℕ) (c : Content) (lines : List (List ℕ)) → behind_head lines ≡ lines → lines_taken Exchange limit 0 c lines ≡ lines_taken Log limit 0 c lines
head_absent limit c lines none =
    let w = through_body Exchange limit 0 c lines in
    let none_before : w.before ≡ 0 = omega (arith, w.count, ap (λ (ls : List (List ℕ)). length ls) none) in
    w.same ∙ λ k. lines_taken Log limit (none_before k) c (none k)
