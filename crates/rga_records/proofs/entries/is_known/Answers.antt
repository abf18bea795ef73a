use Rattle.std.proofs.Common.{false, sym, ap, ◌∙◌}
use Rattle.std.specs.Option.{option_map_or}
use Rattle.rga_records.specs.Records.{is_meaningful}
use Rattle.rga_records.proofs.RecordLaws.{known_at}
use Rattle.rga_records.proofs.entries.is_known.Goals as goal

pub returns-in-Some : goal.returns-in-Some
returns-in-Some c =
    c.is_record_known.ensures
    ∙ ap (λ o. option_map_or is_meaningful o false) (sym c.in-Some.is ∙ c.get.ensures.value)
    ∙ sym (known_at c.args.entries.now c.get.ensures.ordered c.args.id)

pub returns-in-None : goal.returns-in-None
returns-in-None c =
    ap (λ o. option_map_or is_meaningful o false) (sym c.in-None.is ∙ c.get.ensures.value)
    ∙ sym (known_at c.args.entries.now c.get.ensures.ordered c.args.id)
