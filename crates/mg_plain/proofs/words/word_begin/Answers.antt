use Rattle.std.proofs.Common.{Bool, Some, None, ap, arith, false, if◌then◌else◌, refl, sym, true, ℕ, ◌∙◌, ◌≡◌}
use Rattle.std.specs.Option.{unwrap_or}
use Rattle.mg_plain.specs.Scans.{greatest_passing, greatest_up_to}
use Rattle.mg_plain.specs.Words.{begins_word}
use Rattle.mg_plain.proofs.ScanLaws.{back_step}
use Rattle.mg_plain.proofs.words.word_begin.Goals as goal

back_here : (p : ℕ → Bool) (q : ℕ) → p q ≡ true → greatest_up_to p q ≡ q
back_here p q h = ap (λ b. unwrap_or (if b then Some q else greatest_passing p q) 0) h

back_end : (p : ℕ → Bool) → greatest_up_to p 0 ≡ 0
back_end p = elim (p 0) as (λ b. ◌≡◌ {A = ℕ} (unwrap_or (if b then Some 0 else None) 0) 0) [ true ↦ refl | false ↦ refl ]

pub loop-b-preserved : goal.loop-b-preserved
loop-b-preserved c = record {
  same = c.loop-b.invariant.same ∙ back_step (begins_word c.args.text.now) c.loop-b.b c.loop-b-test.true (sym c.begins_word.ensures ∙ c.if-not-begins_word.true);
  within = omega arith;
}

pub returns-else-not-begins_word-clause-begin : goal.returns-else-not-begins_word-clause-begin
returns-else-not-begins_word-clause-begin c =
    sym (c.loop-b.invariant.same ∙ back_here (begins_word c.args.text.now) c.loop-b.b (sym c.begins_word.ensures ∙ c.if-not-begins_word.false))

pub returns-after-loop-b-clause-begin : goal.returns-after-loop-b-clause-begin
returns-after-loop-b-clause-begin c =
    let none : c.loop-b.b ≡ 0 = omega arith in
    none ∙ sym (c.loop-b.invariant.same ∙ ap (greatest_up_to (begins_word c.args.text.now)) none ∙ back_end (begins_word c.args.text.now))
