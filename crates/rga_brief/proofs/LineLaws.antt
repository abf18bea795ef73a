-- What a line says where claims are told.
use Rattle.rga_brief.proofs.Prelude.{◌≡◌, ℕ, ◌<◌, ◌≤◌, Bool, true, false, cond, List, length, refl, ap, sym, ◌∙◌, Option, None, Result, Err, IsUtf8, is_utf8, lt-ltb, le-ltb, is_utf8-from_IsUtf8, IsUtf8-from_is_utf8, MAX_LINE, LineFault, Claim, claim_in, claim_said, claim_or_end, ClaimLine}
use Rattle.rga_lines.specs.Table.{any_line_at}
use Rattle.rga_lines.specs.declared.fault.LineFault.TheVariants as fault
use Rattle.rga_brief.specs.Lines.{claim_line_at}

abbrev wrong : LineFault → Result ClaimLine LineFault
wrong e = Err e

pub too_long : (bytes : List ℕ) → MAX_LINE < length bytes → claim_line_at bytes ≡ Err fault.Long
unfolding claim_line_at
too_long bytes h = ap (λ b. cond b (wrong fault.Long) (claim_or_end (claim_said bytes) (any_line_at bytes))) (lt-ltb MAX_LINE (length bytes) h)

pub said : (bytes : List ℕ) (o : Option Claim) → length bytes ≤ MAX_LINE → claim_said bytes ≡ o → claim_line_at bytes ≡ claim_or_end o (any_line_at bytes)
unfolding claim_line_at
said bytes o short is =
    ap (λ b. cond b (wrong fault.Long) (claim_or_end (claim_said bytes) (any_line_at bytes))) (le-ltb MAX_LINE (length bytes) short)
    ∙ ap (λ x. claim_or_end x (any_line_at bytes)) is

-- what is no text says no claim
pub no_text : (bytes : List ℕ) → ¬ (IsUtf8 bytes) → None ≡ claim_said bytes
no_text bytes hidden = by (is_utf8 bytes) refl
  where
    by : (b : Bool) → is_utf8 bytes ≡ b → None ≡ cond b (claim_in bytes) None
    by true is = absurd (hidden (IsUtf8-from_is_utf8 bytes is))
    by false is = refl

pub of_text : (text bytes : List ℕ) (o : Option Claim) → text ≡ bytes → IsUtf8 bytes → o ≡ claim_in text → o ≡ claim_said bytes
of_text text bytes o same utf8 is =
    is ∙ ap claim_in same ∙ sym (ap (λ b. cond b (claim_in bytes) None) (is_utf8-from_IsUtf8 bytes utf8))
