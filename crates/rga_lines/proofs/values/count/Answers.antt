use Rattle.rga_lines.proofs.Prelude.{Some, sym, ap, ◌∙◌, option_map, members_len}
use Rattle.serde_json.proofs.Views.{members_len-members_view}
use Rattle.rga_lines.proofs.values.count.Goals as goal

pub returns : goal.returns
returns c = ap Some (c.len.ensures.len ∙ sym (members_len-members_view _)) ∙ ap (option_map members_len) c.in_ok-as_object.ensures
