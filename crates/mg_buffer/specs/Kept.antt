-- What is true of each buffer.
use Rattle.std.specs.Prelude.{◌≡◌, ◌≤◌, ℕ, Bool, true, List, Option, Some, is_some, length}
use Rattle.std.specs.Option.{option_map_or, IfSome}
use Rattle.rga_ops.specs.Content.{Content, clock_of}
use Rattle.rga_ops.specs.Order.{text}
use Rattle.rga_ops.specs.Places.{place}
use Rattle.rga_doc.specs.Document.{Document}
use Rattle.mg_buffer.specs.declared.line_numbers.KnownLine.{KnownLine}
use Rattle.mg_buffer.specs.declared.marker.Marker.{Marker}
use Rattle.mg_buffer.specs.Groups.{are_revertible}
use Rattle.mg_buffer.specs.LineNumbers.{line_of}
use Rattle.mg_buffer.specs.Restored.{PastList, newest_restored}

-- the element has a place
abbrev pub stands : Content → Marker → Bool
stands c s = is_some (place c s.element)

-- the number is that of the line in which the place stands, which is in the text
pub record IsLineOfPlace (text : List ℕ) (line : KnownLine) : Type 0 where
  pub within : line.place ≤ length text
  pub numbered : line.number ≡ line_of text line.place

-- the document is listed, the places are those of point and mark, and the line is that of point
pub record IsAtHand (d : Document) (point : Marker) (line : KnownLine) (mark : Option Marker) : Type 0 where
  pub document : d.listed ≡ true
  pub place_of_point : place d.content point.element ≡ Some point.place
  pub line_of_point : line.place ≡ point.place
  pub place_of_mark : IfSome mark (λ s. place d.content s.element ≡ Some s.place)

-- point and mark have places, and a line is known; no element that was restored is newer than the clock, and every
-- group can be reverted; and what is listed is at hand
pub record IsKeptBuffer (d : Document) (point : Marker) (line : KnownLine) (mark : Option Marker) (h : PastList) (listed : Bool) : Type 0 where
  pub point_stands : stands d.content point ≡ true
  pub mark_stands : option_map_or (stands d.content) mark true ≡ true
  pub line_known : IsLineOfPlace (text d.content) line
  pub old : newest_restored h ≤ clock_of d.content
  pub revertible : are_revertible d.content h.pasts ≡ true
  pub at_hand : listed ≡ true → IsAtHand d point line mark
