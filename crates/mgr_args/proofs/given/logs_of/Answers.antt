use Rattle.std.proofs.Common.{◌∙◌, [], ap, codes, map, string_bytes, unwrap_or}
use Rattle.std.proofs.lemmas.Result.{IfOk-weaker}
use Rattle.clap.specs.Matches.{found_of}
use Rattle.clap.proofs.WalkLemmas.{raw_values-rows}
use Rattle.mgr_args.proofs.given.logs_of.Goals as goal

pub returns-in-Some : goal.returns-in-Some
returns-in-Some c =
    let rows = c.in-Some.ensures ∙ raw_values-rows (found_of c.args.found.now) (codes "logs") in
    IfOk-weaker c.strings_of.result _ _ (λ strings is. is ∙ ap (λ o. unwrap_or o []) rows) c.strings_of.ensures

pub returns-in-None : goal.returns-in-None
returns-in-None c =
    let rows = c.in-None.ensures ∙ raw_values-rows (found_of c.args.found.now) (codes "logs") in
    ap (map string_bytes) c.new.ensures.items ∙ ap (λ o. unwrap_or o []) rows
