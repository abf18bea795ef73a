use Rattle.std.proofs.Common.{ap, ◌∙◌}
use Rattle.mgr_show.proofs.BesideLaws.{text_beside}
use Rattle.mgr_show.proofs.numbers.numbers_of.Goals as goal

pub returns-clause-text : goal.returns-clause-text
returns-clause-text g c =
    let named = ap (g.S.Sources.contents c.args.sources.now) (c.as_str.ensures.value ∙ c.in_ok-file.ensures.name) in
    text_beside _ _ _ _ _ _ _ named (c.read_log.ensures.same _) c.in_ok-bytes.ensures.read c.in_ok-text.ensures.text
