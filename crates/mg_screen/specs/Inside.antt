-- What `Windows` keeps of its two lists.
use Rattle.std.specs.Prelude.{ℕ, ◌≡◌, ◌+◌, ◌<◌, ◌≤◌, List, length}
use Rattle.mg_screen.specs.Size.{most_rows}
use Rattle.mg_screen.specs.Layout.{windows_of, rows_of, IsTall}

-- heights and what is shown are in step, and make a layout that fills so many rows
pub record AreKeptWindows {T : Type 0} (heights : List ℕ) (shown : List T) (current rows : ℕ) : Type 0 where
  pub paired : length heights ≡ length shown
  pub here : current < length heights
  pub tall : IsTall (windows_of heights shown)
  pub whole : rows_of (windows_of heights shown) + 1 ≡ rows
  pub few : rows ≤ most_rows
