-- The status of a live session: an object of JSON in one line.
use Rattle.std.specs.Prelude.{ℕ, List, [], ◌∷◌, ◌++◌, map, Option, Some, None, codes, encode_utf8_all}
use Rattle.std.specs.Borrow.{Bor}
use Rattle.json.specs.Json.{Json, boolean, string}
use Rattle.json.specs.Tree.{json_tokens}
use Rattle.json.specs.Print.{print}
use Rattle.rga_ops.specs.Splice.{Splice}
use Rattle.mg_screen.specs.declared.screen.Position.{Position}
use Rattle.mg_events.specs.Objects.{Member, array_of, object_of, count, counts, value_or_null}
use Rattle.mg_events.specs.declared.status.Asking.{Asking}
use Rattle.mg_events.specs.declared.status.Asking.TheVariants.{Plain, Prompt, Search, Query}
use Rattle.mg_events.specs.declared.status.Saved.{Saved}
use Rattle.mg_events.specs.declared.status.Saved.TheVariants.{Unsaved, Done, File, Memory}
use Rattle.mg_events.specs.declared.status.PromptStatus.{PromptStatus}
use Rattle.mg_events.specs.declared.status.BufferStatus.{BufferStatus}
use Rattle.mg_events.specs.declared.status.PointStatus.{PointStatus}
use Rattle.mg_events.specs.declared.status.WindowStatus.{WindowStatus}
use Rattle.mg_events.specs.declared.status.PlaceStatus.{PlaceStatus}
use Rattle.mg_events.specs.declared.status.RefusedReport.{RefusedReport}
use Rattle.mg_events.specs.declared.status.Status.{Status}

abbrev pub asking_name : Asking → List ℕ
asking_name Plain = codes "plain"
asking_name Prompt = codes "prompt"
asking_name Search = codes "search"
asking_name Query = codes "query"

abbrev pub saved_name : Saved → List ℕ
saved_name Unsaved = codes "none"
saved_name Done = codes "ok"
saved_name File = codes "file"
saved_name Memory = codes "memory"

-- ---- the values of members

unfoldable pub buffer_parts : BufferStatus → List Member
buffer_parts b =
    (codes "changed", boolean b.changed) ∷ (codes "name", string b.name.now)
    ∷ (codes "unsaved", count b.unsaved) ∷ (codes "waiting", count b.waiting) ∷ []

abbrev pub buffer_json : BufferStatus → Json
buffer_json b = object_of (buffer_parts b)

unfoldable pub splice_parts : Splice → List Member
splice_parts s = (codes "hi", count s.hi) ∷ (codes "lo", count s.lo) ∷ (codes "text", string (encode_utf8_all s.put)) ∷ []

abbrev pub splice_json : Splice → Json
splice_json s = object_of (splice_parts s)

unfoldable pub prompt_parts : PromptStatus → List Member
prompt_parts p = (codes "answer", string (encode_utf8_all p.answer.now)) ∷ (codes "label", string p.label.now) ∷ []

abbrev pub prompt_json : PromptStatus → Json
prompt_json p = object_of (prompt_parts p)

unfoldable pub position_json : Position → Json
position_json p = counts (p.row ∷ p.column ∷ [])

unfoldable pub place_json : PlaceStatus → Json
place_json p = counts (p.element.counter ∷ p.element.replica ∷ p.row ∷ p.column ∷ [])

unfoldable pub point_json : PointStatus → Json
point_json p = counts (p.line ∷ p.column ∷ p.element.counter ∷ p.element.replica ∷ [])

unfoldable pub count_and_text : ℕ → List ℕ → Json
count_and_text n text = array_of (count n ∷ string text ∷ [])

abbrev pub refused_json : RefusedReport → Json
refused_json r = count_and_text r.number r.fault.now

abbrev pub window_json : WindowStatus → Json
window_json w = count_and_text w.rows w.name.now

-- ---- the members, in rising order

-- with no changes there is no such member
abbrev pub changes_members : Option (Bor (List Splice)) → List Member
changes_members None = []
changes_members (Some splices) = (codes "changes", array_of (map splice_json splices.now)) ∷ []

unfoldable pub members_after_changes : Status → List Member
members_after_changes s =
    (codes "cursor", value_or_null position_json s.cursor) ∷ (codes "keys", count s.keys)
    ∷ (codes "live", value_or_null buffer_json s.live) ∷ (codes "loaded", boolean s.loaded)
    ∷ (codes "message", string s.message.now) ∷ (codes "mode", string (asking_name s.mode))
    ∷ (codes "more", boolean s.more) ∷ (codes "operations", count s.operations)
    ∷ (codes "places", array_of (map place_json s.places.now)) ∷ (codes "point", point_json s.point)
    ∷ (codes "prompt", value_or_null prompt_json s.prompt)
    ∷ (codes "refused", array_of (map refused_json s.refused.now)) ∷ (codes "reports", count s.reports)
    ∷ (codes "rows", count s.rows) ∷ (codes "saved", string (saved_name s.saved))
    ∷ (codes "windows", array_of (map window_json s.windows.now)) ∷ []

unfoldable pub status_members : Status → List Member
status_members s =
    (codes "begun", boolean s.begun) ∷ (codes "buffer", buffer_json s.buffer) ∷ (changes_members s.changes ++ members_after_changes s)

-- ---- the whole

abbrev pub status_json : Status → Json
status_json s = object_of (status_members s)

-- the object with no blanks and the shortest escapes
abbrev pub status_object : Status → List ℕ
status_object s = print (json_tokens (status_json s))

-- with the newline at its end
abbrev pub status_text : Status → List ℕ
status_text s = status_object s ++ 10 ∷ []
