use Rattle.rga_brief.proofs.Prelude.{◌==◌, false, sym, ap, ◌∙◌, option_map_or}
use Rattle.serde_json.specs.Events.{members_len}
use Rattle.serde_json.proofs.Views.{members_len-members_view}
use Rattle.rga_brief.proofs.reading.has_members.Goals as goal

pub returns-in-Some : goal.returns-in-Some
returns-in-Some c =
    ap (λ n. n == c.args.count) (c.len.ensures.len ∙ sym (members_len-members_view _))
    ∙ ap (λ o. option_map_or (λ ms. members_len ms == c.args.count) o false) c.in-Some.ensures
