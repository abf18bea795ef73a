use Rattle.std.proofs.Common.{false, Option, nat_eq, sym, ap, ℕ}
use Rattle.std.specs.Option.{option_map_or}
use Rattle.mg_editor.proofs.live_places.shows_buffer.Goals as goal

pub returns : goal.returns
returns g c = ap (λ (o : Option ℕ). option_map_or (λ b. nat_eq b c.args.index) o false) (sym c.buffer_shown.ensures.exact)
