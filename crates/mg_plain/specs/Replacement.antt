-- Searches, and replacements of matches and of a range.
use Rattle.std.specs.Prelude.{ℕ, ◌+◌, ◌-◌, ◌&&◌, Bool, List, [], ◌∷◌, length, map, reverse, Result, Ok, Err, if◌then◌else◌, nat_le, nat_lt}
use Rattle.std.specs.Option.{option_map, ok_or}
use Rattle.rga_ops.specs.Splice.{Splice}
use Rattle.mg_plain.specs.declared.outcome.Notice.{Notice}
use Rattle.mg_plain.specs.declared.outcome.Notice.TheVariants.{EndOfBuffer, SearchFailed}
use Rattle.mg_plain.specs.Spans.{Span}
use Rattle.mg_plain.specs.Situation.{Situation}
use Rattle.mg_plain.specs.Effect.{Effect, one_splice, place_after, edit_effect, motion}
use Rattle.mg_plain.specs.Splices.{splice}
use Rattle.mg_plain.specs.Matches.{stands_at, first_match, last_match, matches}

-- point goes behind the first match from the start on
abbrev pub search_forward : List ℕ → ℕ → Situation → Result Effect Notice
search_forward pattern start s = ok_or (option_map (λ i. motion s (i + length pattern)) (first_match pattern s.text start)) SearchFailed

-- point goes to the begin of the last match up to the start
abbrev pub search_backward : List ℕ → ℕ → Situation → Result Effect Notice
search_backward pattern start s = ok_or (option_map (motion s) (last_match pattern s.text start)) SearchFailed

-- a match ends at point, of a pattern that is not empty
abbrev pub stands_before_point : List ℕ → Situation → Bool
stands_before_point pattern s =
    (nat_lt 0 (length pattern) && nat_le (length pattern) s.point) && stands_at pattern s.text (s.point - length pattern)

-- the match that ends at point
abbrev pub current_match : List ℕ → ℕ → Span
current_match pattern point = record { lo = point - length pattern; hi = point }

-- that match and all that follow, each found from the end of the one before
abbrev pub all_matches : List ℕ → List ℕ → ℕ → List Span
all_matches pattern text point = current_match pattern point ∷ matches pattern text point

-- a span becomes `put`
abbrev pub replacement : List ℕ → Span → Splice
replacement put m = splice m.lo m.hi put

-- each span becomes `put`, the splices falling
abbrev pub replacements : List ℕ → List Span → List Splice
replacements put spans = reverse (map (replacement put) spans)

-- the end of the last span
abbrev pub last_end : ℕ → List Span → ℕ
last_end q [] = q
last_end q (m ∷ spans) = last_end m.hi spans

-- point is carried behind the replacement
abbrev pub replace_one : List ℕ → List ℕ → Situation → Result Effect Notice
replace_one pattern put s =
    if stands_before_point pattern s then Ok (edit_effect s (replacements put (current_match pattern s.point ∷ []))) else Err SearchFailed

-- point goes where the end of the last match is carried, behind the last replacement
abbrev pub replacement_effect : List ℕ → List Span → Situation → Effect
replacement_effect put spans s = record (edit_effect s (replacements put spans)) { point = place_after (replacements put spans) (last_end s.point spans) }

abbrev pub replace_all : List ℕ → List ℕ → Situation → Result Effect Notice
replace_all pattern put s =
    if stands_before_point pattern s then Ok (replacement_effect put (all_matches pattern s.text s.point) s) else Err SearchFailed

-- the characters from one place up to another become `put`; point and mark are carried
abbrev pub replace_range : ℕ → ℕ → List ℕ → Situation → Result Effect Notice
replace_range lo hi put s = if nat_le lo hi && nat_le hi (length s.text) then Ok (edit_effect s (one_splice lo hi put)) else Err EndOfBuffer
