use Rattle.std.proofs.Common.{◌≡◌, refl, inl, inr, rules}
use Rattle.std.specs.Prelude.{chars}
use Rattle.std.proofs.lemmas.Bool.{false_from_ne_true}
use Rattle.std.proofs.lemmas.Result.{err_from_is_err_and}
use Rattle.std.proofs.lemmas.Str.{chars_from_encodes, is_utf8-from_IsUtf8, IsUtf8-from_is_utf8}
use Rattle.mg_files.proofs.loading.characters_of.Goals as goal

pub returns-in_default : goal.returns-in_default
returns-in_default c = inl (refl, false_from_ne_true _ (λ is. c.in_default.ensures.cases.0 (IsUtf8-from_is_utf8 c.args.bytes.now is)))

pub returns-in_err-collect : goal.returns-in_err-collect
returns-in_err-collect c =
    let p = err_from_is_err_and c.from_residual.result c.from_residual.ensures.1 in
    rw p.1 (inr (p.2, is_utf8-from_IsUtf8 c.args.bytes.now c.in-Ok.ensures.cases.1))

pub returns : goal.returns
returns c =
    let put : c.in_ok-collect.field-0.items ≡ chars c.args.bytes.now = search (rules, chars_from_encodes) in
    (put, is_utf8-from_IsUtf8 c.args.bytes.now c.in-Ok.ensures.cases.1)
