use Rattle.std.proofs.Common.{nat_eq, string_bytes, Global, sym, ◌∙◌}
use Rattle.std.specs.Cmp.Lexicographic.{pointwise}
use Rattle.std.specs.Cmp.Derive.Mapped.{pointwise-map}
use Rattle.mg_live.proofs.shown.are_same_rows.Goals as goal

pub returns : goal.returns
returns c = c.eq.ensures ∙ sym (pointwise-map (string_bytes {Z = Global}) (pointwise nat_eq) c.args.last.now c.args.rows.now)
