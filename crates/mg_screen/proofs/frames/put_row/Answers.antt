use Rattle.std.proofs.Common.{string_bytes}
use Rattle.std.proofs.lemmas.List.{map-set}
use Rattle.mg_screen.proofs.frames.put_row.Goals as goal

pub returns : goal.returns
returns c = map-set string_bytes c.args.rows.now.items c.args.index c.args.row
