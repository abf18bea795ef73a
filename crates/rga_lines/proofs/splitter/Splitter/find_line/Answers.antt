use Rattle.rga_lines.proofs.Prelude.{◌∙◌, ap, sym, refl, drop, length, arith, length-drop, Splitting}
use Rattle.rga_lines.proofs.NextLine.{line_waits, none_waits, none_before, none_among, index_within, long_line_waits, long_rest_waits}
use Rattle.rga_lines.proofs.splitter.Splitter.find_line.Goals.{in_default-via-in-Some+else-end-le-MAX_LINE, in_default-via-in-None+else-waiting-le-MAX_LINE}
use Rattle.rga_lines.proofs.splitter.Splitter.find_line.Goals as goal

pub invariant_of-self : goal.invariant_of-self
invariant_of-self c =
    let here = c.waiting-waiting.ensures ∙ ap (λ (s : Splitting). s.waiting) (sym c.self.view_is) in
    record {
      within = omega (arith, index_within c.waiting-waiting.result.now c.in-Some.end c.in-Some.ensures, ap length here, length-drop c.self.inside.start c.self.inside.buffer.items, c.self.inside.buffer.ok.0, c.self.invariant.within);
      none = none_before c.waiting-waiting.result.now (drop c.self.inside.start c.self.inside.buffer.items) c.in-Some.end c.in-Some.ensures here;
      empty = c.self.invariant.empty;
    }

pub invariant_of-self-then-waiting-le-MAX_LINE : goal.invariant_of-self-then-waiting-le-MAX_LINE
invariant_of-self-then-waiting-le-MAX_LINE c =
    let here = c.waiting-waiting.ensures ∙ ap (λ (s : Splitting). s.waiting) (sym c.self.view_is) in
    record {
      within = omega (arith, ap length here, length-drop c.self.inside.start c.self.inside.buffer.items, c.self.inside.buffer.ok.0, c.self.invariant.within);
      none = none_among c.waiting-waiting.result.now (drop c.self.inside.start c.self.inside.buffer.items) c.in-None.ensures here;
      empty = c.self.invariant.empty;
    }

pub returns-in-Some-clause-found : goal.returns-in-Some-clause-found
returns-in-Some-clause-found c =
    let good = ap (λ (s : Splitting). s.broken) (sym c.self.view_is) ∙ c.if-self.false in
    (c.self.view_is, line_waits c.args.self.now c.waiting-waiting.result.now c.in-Some.end good c.waiting-waiting.ensures c.in-Some.ensures c.if-end-le-MAX_LINE.true)

pub returns-in-None-clause-found : goal.returns-in-None-clause-found
returns-in-None-clause-found c =
    let good = ap (λ (s : Splitting). s.broken) (sym c.self.view_is) ∙ c.if-self.false in
    (c.self.view_is, none_waits c.args.self.now c.waiting-waiting.result.now good c.waiting-waiting.ensures c.in-None.ensures c.if-waiting-le-MAX_LINE.true)

pub returns-in_default-clause-err : goal.returns-in_default-clause-err
returns-in_default-clause-err c =
    let good = ap (λ (s : Splitting). s.broken) (sym c.self.view_is) ∙ c.if-self.false in (
      refl,
      rw c.clear.ensures.items (elim c.in_default.branch [
        | in_default-via-in-Some+else-end-le-MAX_LINE w ↦ long_line_waits c.args.self.now c.waiting-waiting.result.now w.in-Some.end good c.waiting-waiting.ensures w.in-Some.ensures w.if-end-le-MAX_LINE.false
        | in_default-via-in-None+else-waiting-le-MAX_LINE w ↦ long_rest_waits c.args.self.now c.waiting-waiting.result.now good c.waiting-waiting.ensures w.in-None.ensures w.if-waiting-le-MAX_LINE.false
      ]),
    )
