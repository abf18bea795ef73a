use Rattle.mg_buffer.proofs.Prelude.{rules, ◌≡◌, true, is_id, is_some}
use Rattle.std.specs.Map.{lookup}
use Rattle.mg_buffer.proofs.RestoredLaws.{shortened}
use Rattle.mg_buffer.proofs.restored.shorten.Goals as goal

pub returns : goal.returns
returns c =
    let there : is_some (lookup (is_id c.args.id) c.args.restored.now.entries) ≡ true = search rules in
    let all = shortened c.args.restored.now.entries c.args.id c.follow-last.result c.requires there c.follow-last.ensures in
    search rules
