-- What a command does to a text, and where places go.
use Rattle.std.specs.Prelude.{◌≡◌, ℕ, ◌+◌, ◌-◌, ◌≤◌, ◌&&◌, true, List, [], ◌∷◌, ◌++◌, length, Option, None, if◌then◌else◌, nat_le, nat_eq}
use Rattle.std.specs.Option.{option_map, ForSome}
use Rattle.std.specs.List.{slice_range}
use Rattle.rga_ops.specs.Splice.{Splice, text_after, are_falling}
use Rattle.mg_plain.specs.declared.view.Kind.{Kind}
use Rattle.mg_plain.specs.declared.view.Kind.TheVariants.{Plain}
use Rattle.mg_plain.specs.Situation.{Situation}
use Rattle.mg_plain.specs.Splices.{splice}

-- the splices, falling; point and mark in the new text; what goes into the kill buffer, if anything does; goal and kind
pub record Effect : Type 0 where
  pub splices : List Splice
  pub point : ℕ
  pub mark : Option ℕ
  pub kill : Option (List ℕ)
  pub goal : ℕ
  pub kind : Kind

-- that splice, or none where nothing goes and nothing comes
abbrev pub one_splice : ℕ → ℕ → List ℕ → List Splice
one_splice lo hi put = if nat_eq lo hi && nat_eq (length put) 0 then [] else splice lo hi put ∷ []

-- where a place goes as a splice is done: it stays before what is replaced, moves with what stands behind, and else goes
-- behind what is put
abbrev pub carried_place : Splice → ℕ → ℕ
carried_place s q = if nat_le q s.lo then q else if nat_le s.hi q then q - (s.hi - s.lo) + length s.put else s.lo + length s.put

-- where it goes as splices are done in turn
abbrev pub place_after : List Splice → ℕ → ℕ
place_after [] q = q
place_after (s ∷ splices) q = place_after splices (carried_place s q)

-- splices alone: places are carried, all else stays
abbrev pub edit_effect : Situation → List Splice → Effect
edit_effect s splices = record {
  splices = splices;
  point = place_after splices s.point;
  mark = option_map (place_after splices) s.mark;
  kill = None;
  goal = s.goal;
  kind = Plain;
}

-- point alone moves
abbrev pub motion : Situation → ℕ → Effect
motion s q = record { splices = []; point = q; mark = s.mark; kill = None; goal = s.goal; kind = Plain }

-- ---- in words

-- what falling splices take out of a text
abbrev pub removed_characters : List ℕ → List Splice → List ℕ
removed_characters text [] = []
removed_characters text (s ∷ splices) = removed_characters text splices ++ slice_range text s.lo s.hi

-- the splices fall within the text; point and mark are places of the text that they leave
pub record IsWithinText (s : Situation) (e : Effect) : Type 0 where
  pub falling : are_falling (length s.text) e.splices ≡ true
  pub point : e.point ≤ length (text_after s.text e.splices)
  pub mark : ForSome e.mark (λ m. m ≤ length (text_after s.text e.splices))
