-- What windows show: a buffer each, from a line on.
use Rattle.std.specs.Prelude.{◌≡◌, ℕ, ◌<◌, ◌≤◌, List, length, map, get_or, refl}
use Rattle.std.specs.Coded.{Coded, code_by, coded×, coded_ℕ}
use Rattle.std.specs.List.{AllByRecursion}
use Rattle.mg_screen.specs.Layout.{Window, window, Layout, layout, all_shown, shown_layout}
use Rattle.mg_workspace.specs.Buffers.{Buffers, most_buffers}
use Rattle.mg_workspace.specs.Names.{moved}
use Rattle.mg_workspace.specs.declared.viewport.Viewport.{Viewport}

abbrev pub viewport : ℕ → ℕ → Viewport
viewport buffer first = record { buffer = buffer; first = first }

abbrev pub viewport_code : Coded Viewport
viewport_code = code_by (ℕ × ℕ) (coded× coded_ℕ coded_ℕ) (λ x. (x.buffer, x.first)) (λ p. viewport p.0 p.1) (λ _. refl)

-- what the current window shows
abbrev pub current_viewport : Layout Viewport → Viewport
current_viewport l = get_or (all_shown l.windows) l.current (viewport 0 0)

-- the current window shows another buffer, from the same line on
abbrev pub turned_to_buffer : ℕ → Layout Viewport → Layout Viewport
turned_to_buffer i l = shown_layout l.current (viewport i (current_viewport l).first) l

-- the current window shows its buffer from another line on
abbrev pub scrolled : ℕ → Layout Viewport → Layout Viewport
scrolled first l = shown_layout l.current (viewport (current_viewport l).buffer first) l

-- a window once the buffer at an index is removed: where it showed that one, it shows the first, from the same line on
abbrev pub window_without : ℕ → Window Viewport → Window Viewport
window_without gone w = window w.height (viewport (moved gone w.shown.buffer) w.shown.first)

-- all windows
abbrev pub layout_without : ℕ → Layout Viewport → Layout Viewport
layout_without gone l = layout (map (window_without gone) l.windows) l.current

-- the index of the buffer that each window shows
abbrev pub shown_buffers : List (Window Viewport) → List ℕ
shown_buffers ws = map (λ (w : Window Viewport). w.shown.buffer) ws

-- each window shows one of so many buffers
abbrev pub ShowThese : ℕ → List (Window Viewport) → Type 0
ShowThese count ws = AllByRecursion (λ w. w.shown.buffer < count) ws

-- there are no more buffers than there may be, each window shows one of them, and the current window shows the current one
pub record AreShown (bs : Buffers) (l : Layout Viewport) : Type 0 where
  pub few : length bs.all ≤ most_buffers
  pub each : ShowThese (length bs.all) l.windows
  pub current : (current_viewport l).buffer ≡ bs.current
