use Rattle.std.proofs.Common.{sym, ap, ◌∙◌}
use Rattle.std.specs.Prelude.{option_map, unwrap_or}
use Rattle.serde_json.specs.Events.{members_len}
use Rattle.serde_json.proofs.Views.{members_len-members_view}
use Rattle.mg_events.proofs.values.member_count.Goals as goal

pub returns-in-Some : goal.returns-in-Some
returns-in-Some c =
    (c.len.ensures.len ∙ sym (members_len-members_view _))
    ∙ ap (λ o. unwrap_or (option_map members_len o) 0) c.in-Some.ensures
