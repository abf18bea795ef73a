use Rattle.std.proofs.Common.{◌∙◌, ap₂}
use Rattle.mg_screen.specs.Cursor.{column_behind}
use Rattle.mg_screen.proofs.cursors.place_column.Goals as goal

pub returns : goal.returns
returns c = c.column_behind.ensures ∙ ap₂ (λ l k. column_behind c.args.columns l k) c.line_at.ensures.exact c.column_of-count.ensures.exact
