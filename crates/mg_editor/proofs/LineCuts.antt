-- What stands before the first newline.
use Rattle.std.proofs.Common.{◌≡◌, ℕ, ◌≤◌, Bool, true, false, cond, List, length, take, Some, None, refl, sym, ap, position}
use Rattle.std.specs.Prelude.{nat_lt}
use Rattle.std.specs.List.{position_or_len}
use Rattle.std.proofs.lemmas.Bool.{ltb-false}
use Rattle.std.proofs.lemmas.List.{take_all}
use Rattle.std.proofs.lemmas.Option.{none-some, same_Some}
use Rattle.mg_editor.specs.Pasting.{first_line, is_newline}

at_some : (b : Bool) (n i : ℕ) → cond b (Some n) None ≡ Some i → n ≡ i
at_some true n i h = same_Some n i h
at_some false n i h = absurd (none-some _ h)

at_none : (b : Bool) (n : ℕ) → cond b (Some n) None ≡ None → b ≡ false
at_none true n h = absurd (none-some _ (sym h))
at_none false n h = refl

pub cut_there : (put : List ℕ) (end : ℕ) → position is_newline put ≡ Some end → take end put ≡ first_line put
cut_there put end is =
    let n : ℕ = position_or_len is_newline put in
    ap (λ k. take k put) (sym (at_some (nat_lt n (length put)) n end is))

pub cut_nowhere : (put : List ℕ) → position is_newline put ≡ None → put ≡ first_line put
cut_nowhere put none =
    let n : ℕ = position_or_len is_newline put in
    let past : length put ≤ n = ltb-false n (length put) (at_none (nat_lt n (length put)) n none) in
    sym (take_all n put past)
