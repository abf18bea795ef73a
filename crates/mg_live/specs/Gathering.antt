-- Text that comes in several reports.
use Rattle.std.specs.Prelude.{ℕ, ◌+◌, ◌||◌, not, Bool, false, List, [], ◌++◌, length, nat_le, nat_eq, if◌then◌else◌}
use Rattle.rga_lines.specs.declared.fault.LineFault.{LineFault}
use Rattle.rga_lines.specs.declared.fault.LineFault.TheVariants.{Long}
use Rattle.mg_live.specs.declared.gathered.Piece.{Piece}
use Rattle.mg_live.specs.declared.gathered.Piece.TheVariants.{Held, Whole, Dropped}

-- the text that came so far; more came than is held, and what comes up to the end of the text is refused
pub record Gathered : Type 0 where
  pub text : List ℕ
  pub dropped : Bool

abbrev pub nothing_held : Gathered
nothing_held = record { text = []; dropped = false }

-- how many characters are held at most: 16 MiB of them
abbrev pub most_held : ℕ
most_held = 4194304

-- it is dropped for that fault, up to the piece that no more follow
abbrev pub drop_text : Bool → LineFault → Gathered × Piece
drop_text more fault = (record { text = []; dropped = more }, Dropped fault)

-- so many more may be held
abbrev pub fits : ℕ → ℕ → Bool
fits held more = nat_le (held + more) most_held

-- the text is held if more is to come, and else it is whole
abbrev pub passed : Bool → Gathered → Gathered × Piece
passed more g = if more then (g, Held) else (record g { text = [] }, Whole g.text)

-- a piece of a text, which more follow or not
abbrev pub gather : List ℕ → Bool → Gathered → Gathered × Piece
gather piece more g =
    if g.dropped || not (fits (length g.text) (length piece)) then drop_text more Long
    else passed more (record g { text = g.text ++ piece })

-- a text was begun, and is not whole
abbrev pub is_begun : Gathered → Bool
is_begun g = g.dropped || not (nat_eq (length g.text) 0)
