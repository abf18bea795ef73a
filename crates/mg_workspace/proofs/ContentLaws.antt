-- The buffer of the window at an index.
use Rattle.std.proofs.Common.{◌≡◌, ℕ, zero, suc, List, [], ◌∷◌, Some, slice_get, is_some, true≢false, sym, ap}
use Rattle.std.specs.Option.{option_map}
use Rattle.mg_screen.specs.Layout.{Window, all_shown}
use Rattle.mg_workspace.specs.declared.viewport.Viewport.{Viewport}
use Rattle.mg_workspace.specs.Viewports.{shown_buffers}

pub buffer_there : (ws : List (Window Viewport)) (i : ℕ) (x : Viewport) → slice_get (all_shown ws) i ≡ Some x → slice_get (shown_buffers ws) i ≡ Some x.buffer
buffer_there [] i x at = absurd (true≢false (sym (ap is_some at)))
buffer_there (w ∷ ws) zero x at = ap (option_map (λ (v : Viewport). v.buffer)) at
buffer_there (w ∷ ws) (suc i) x at = buffer_there ws i x at
