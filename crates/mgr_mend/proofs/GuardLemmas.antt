-- What is found of the operations of a log, line by line.
use Rattle.std.proofs.Common.{◌≡◌, nat_eq, arith, length, Bool, false, not, ◌&&◌, ◌||◌, ℕ, List, [], ◌∷◌, ◌++◌, Ok, refl, sym, ap, ◌∙◌}
use Rattle.std.specs.List.{list_any}
use Rattle.std.proofs.lemmas.Bool.{ne_eqb}
use Rattle.std.proofs.Math.Bool.{or_assoc}
use Rattle.std.proofs.lemmas.List.Folds.{list_any-append}
use Rattle.rga_ops.specs.Content.{Content}
use Rattle.rga_ops.specs.declared.op.Op.{Op}
use Rattle.rga_lines.specs.Log.{operations_at, operations_of, then_operations}
use Rattle.mgr_mend.specs.Mending.{all_lines}
use Rattle.mgr_mend.specs.Taking.{are_any, is_tied}

-- ---- their operations

pub with_line : (bytes line : List ℕ) (lines : List (List ℕ)) (ops : List Op) → all_lines bytes ≡ line ∷ lines → operations_at line ≡ Ok ops → operations_of (all_lines bytes) ≡ ops ++ operations_of lines
with_line bytes line lines ops cut is = ap operations_of cut ∙ ap (λ r. then_operations r (operations_of lines)) is

-- ---- ties

any-append : (xs ys : List Op) → are_any (xs ++ ys) ≡ (are_any xs || are_any ys)
any-append [] ys = refl
any-append (x ∷ xs) ys = refl

pub any_is : (ops : List Op) → not (nat_eq (length ops) 0) ≡ are_any ops
any_is [] = refl
any_is (op ∷ ops) = ap not (ne_eqb (length (op ∷ ops)) 0 (λ zero. omega arith))

module _ (c : Content) where
  -- of some that stood before these, or none, none is tied, and none of these
  abbrev pub untied_after : Bool → List Op → Bool
  untied_after some ops = (some || are_any ops) && not (list_any (is_tied c) ops)

  -- the first are passed over: none of them is tied
  pub passes : (some : Bool) (all ops more : List Op) → all ≡ ops ++ more → list_any (is_tied c) ops ≡ false → untied_after some all ≡ untied_after (some || are_any ops) more
  passes some all ops more is untied =
      ap (untied_after some) is
      ∙ (λ k. (some || any-append ops more k) && not (list_any-append (is_tied c) ops more k))
      ∙ ap (λ b. (some || (are_any ops || are_any more)) && not (b || list_any (is_tied c) more)) untied
      ∙ ap (λ b. b && not (list_any (is_tied c) more)) (sym (or_assoc some (are_any ops) (are_any more)))

-- one line more, none of whose operations is tied
pub goes_on : (c : Content) (had some : Bool) (whole : Bool) (rest line behind : List ℕ) (ops given : List Op) (any : Bool) → whole ≡ untied_after c had (operations_of (all_lines rest)) → all_lines rest ≡ line ∷ all_lines behind → operations_at line ≡ Ok ops → given ≡ ops
    → any ≡ list_any (is_tied c) given → any ≡ false → some ≡ (had || are_any given) → whole ≡ untied_after c some (operations_of (all_lines behind))
goes_on c had some whole rest line behind ops given any left cut is same tied none now =
    left
    ∙ passes c had (operations_of (all_lines rest)) ops (operations_of (all_lines behind)) (with_line rest line (all_lines behind) ops cut is) (ap (list_any (is_tied c)) (sym same) ∙ sym tied ∙ none)
    ∙ ap (λ l. untied_after c (had || are_any l) (operations_of (all_lines behind))) (sym same)
    ∙ ap (λ b. untied_after c b (operations_of (all_lines behind))) (sym now)
