-- What the editor is once a buffer took something from elsewhere: an open search goes where the text went.
use Rattle.std.specs.Prelude.{ℕ, List, Option, Some, None, nat_eq, slice_get, if◌then◌else◌}
use Rattle.std.specs.Option.{option_and_then, option_map, option_map_or}
use Rattle.rga_ops.specs.Identifier.{Identifier}
use Rattle.rga_ops.specs.Content.{Content}
use Rattle.rga_ops.specs.Places.{visible}
use Rattle.rga_ops.specs.declared.op.Op.{Op}
use Rattle.mg_minibuffer.specs.declared.prompt.Prompt.{Prompt}
use Rattle.mg_minibuffer.specs.declared.prompt.Prompt.TheVariants.{Searching}
use Rattle.mg_minibuffer.specs.declared.prompt.Search.{Search}
use Rattle.mg_buffer.specs.Carried.{carried, carried_match, character_place, element_before, match_at_place}
use Rattle.mg_buffer.specs.Sight.{place_of}
use Rattle.mg_minibuffer.specs.Dialogues.{Dialogue, search_of, with_places}
use Rattle.mg_workspace.specs.AtIndex.{state_at, with_operations_at}
use Rattle.mg_workspace.specs.Workspaces.{Workspace}
use Rattle.mg_editor.specs.Editors.{Editor}
use Rattle.mg_editor.specs.declared.live_taking.Anchors.{Anchors}

-- a search, once the text changed: its origin stands behind the element that it stood behind, and its match at its own first
-- element, if the pattern stands there still
abbrev pub carried_search : Content → Content → Search → Search
carried_search old new s = record s { origin = carried old new s.origin; found = option_and_then (carried_match s.pattern old new) s.found }

abbrev pub carried_prompt : Content → Content → Option Prompt → Option Prompt
carried_prompt old new (Some (Searching s)) = Some (Searching (carried_search old new s))
carried_prompt old new prompt = prompt

-- what is talked, once the buffer at an index changed: an open search is one of the current buffer
abbrev pub carried_talk : ℕ → Workspace → Workspace → Dialogue → Dialogue
carried_talk i old new d = if nat_eq i old.buffers.current then record d { prompt = carried_prompt (state_at i old).content (state_at i new).content d.prompt } else d

-- the editor, once that buffer changed, and nothing else that is worked on
abbrev pub with_changed : ℕ → Workspace → Editor → Editor
with_changed i work e = record { work = work; talk = carried_talk i e.work work e.talk }

-- the editor, once that buffer took operations
abbrev pub taking : ℕ → List Op → Editor → Editor
taking i ops e = with_changed i (with_operations_at i ops e.work) e

-- ---- how a search is carried: by the element that its origin stands behind, and by the first one of its match

abbrev pub anchors_of : Content → Search → Anchors
anchors_of c s = record { origin = element_before c s.origin; found = option_and_then (slice_get (visible c)) s.found }

-- those of the search that is open in the buffer at an index
abbrev pub anchors_at : ℕ → Editor → Option Anchors
anchors_at i e = if nat_eq i e.work.buffers.current then option_map (anchors_of (state_at i e.work).content) (search_of e.talk.prompt) else None

-- a match that begins with an element, if the pattern stands there
abbrev pub match_at : List ℕ → Content → Identifier → Option ℕ
match_at pattern c id = match_at_place pattern c (character_place c id)

-- an open search that has those elements
abbrev pub anchored : Content → Anchors → Dialogue → Dialogue
anchored c a d =
    option_map_or (λ (s : Search). with_places (place_of c a.origin) (option_and_then (match_at s.pattern c) a.found) d) (search_of d.prompt) d

abbrev pub anchored_talk : Content → Option Anchors → Dialogue → Dialogue
anchored_talk c anchors d = option_map_or (λ a. anchored c a d) anchors d
