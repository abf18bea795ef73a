use Rattle.mg_keys.proofs.NameLaws.{other_length}
use Rattle.mg_keys.proofs.names.is_name.Goals as goal

pub returns-then-name-text : goal.returns-then-name-text
returns-then-name-text c = other_length c.args.name.now c.args.text.now c.if-name-text.true
