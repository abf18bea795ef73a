use Rattle.std.proofs.Common.{◌≡◌, ◌<◌, ◌++◌, [], List, ℕ, get_or, refl, sym, ap, ◌∙◌, arith}
use Rattle.std.proofs.lemmas.Bool.Decides.{nat_tests}
use Rattle.std.specs.Prelude.{Some, None, string_bytes, encode_utf8_all}
use Rattle.std.specs.Char.{IsScalar, encode_utf8}
use Rattle.std.specs.List.{cons_option}
use Rattle.std.proofs.lemmas.List.{append-nil}
use Rattle.rga_records.proofs.WalkLaws.{code_at, code_past}
use Rattle.rga_records.proofs.walking.push_shown.Goals as goal

pub returns-then-index-shown : goal.returns-then-index-shown
returns-then-index-shown c = record {
  ok = λ kept are.
      let before : List ℕ = string_bytes c.args.string.now in
      sym (ap (λ o. before ++ encode_utf8_all (cons_option o [])) (code_past c.args.shown.now kept c.args.index are (omega (arith, c.if-index-shown.true))) ∙ append-nil before);
}

pub returns-then-code-lt128 : goal.returns-then-code-lt128
returns-then-code-lt128 c = record {
  ok = λ kept are.
      let before : List ℕ = string_bytes c.args.string.now in
      let code : ℕ = get_or c.args.shown.now c.args.index 0 in
      let same : get_or kept c.args.index None ≡ Some code = code_at c.args.shown.now kept c.args.index 0 (Some code) are (omega (arith, c.if-index-shown.false)) (scalar code c.if-code-lt128.true, refl) in
      c.in_ok-push.ensures.bytes ∙ ap (λ xs. before ++ xs) (sym (append-nil (encode_utf8 code)))
      ∙ ap (λ o. before ++ encode_utf8_all (cons_option o [])) (sym same);
}
  where
    scalar : (n : ℕ) → n < 128 → IsScalar n
    scalar n w = grind (arith, nat_tests)

pub returns-in_ok-push-2 : goal.returns-in_ok-push-2
returns-in_ok-push-2 c = record {
  ok = λ kept are.
      let before : List ℕ = string_bytes c.args.string.now in
      let same : get_or kept c.args.index None ≡ c.from_u32.result = code_at c.args.shown.now kept c.args.index 0 c.from_u32.result are (omega (arith, c.if-index-shown.false)) c.from_u32.ensures.value in
      c.in_ok-push-2.ensures.bytes ∙ ap (λ xs. before ++ xs) (sym (append-nil (encode_utf8 c.in-Some.ch)))
      ∙ ap (λ o. before ++ encode_utf8_all (cons_option o [])) (sym (same ∙ c.in-Some.is));
}

pub returns-in_default : goal.returns-in_default
returns-in_default c = record {
  ok = λ kept are.
      let before : List ℕ = string_bytes c.args.string.now in
      let same : get_or kept c.args.index None ≡ c.from_u32.result = code_at c.args.shown.now kept c.args.index 0 c.from_u32.result are (omega (arith, c.if-index-shown.false)) c.from_u32.ensures.value in
      sym (append-nil before) ∙ ap (λ o. before ++ encode_utf8_all (cons_option o [])) (sym (same ∙ c.in_default.is));
}
