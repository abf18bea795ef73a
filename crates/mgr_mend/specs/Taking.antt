-- What logs lead to that are taken in turn.
use Rattle.std.specs.Prelude.{ℕ, ◌+◌, ◌==◌, ◌&&◌, ◌||◌, Bool, true, false, not, List, [], ◌∷◌, ◌++◌, Option, Some, None, Result, Ok, Err, is_some, if◌then◌else◌}
use Rattle.std.specs.List.{list_any}
use Rattle.std.specs.FinSet as finite_set
use Rattle.rga_ops.specs.Content.{Content, element_at, known_count}
use Rattle.rga_ops.specs.Identifier.{Identifier, is_id}
use Rattle.rga_ops.specs.declared.op.Op.{Op}
use Rattle.rga_ops.specs.declared.op.Op.TheVariants.{Insert, Delete}
use Rattle.rga_lines.specs.Log.{operations_of}
use Rattle.rga_exchange.specs.Log.{log_outcome}
use Rattle.rga_exchange.specs.declared.fault.LogFault.{LogFault}
use Rattle.rga_exchange.specs.declared.log.LogEnd.{LogEnd}
use Rattle.rga_exchange.specs.declared.log.LogEnd.TheVariants as end
use Rattle.rga_exchange.specs.declared.log.LogRead.{LogRead}
use Rattle.mg_buffer.specs.Following.{TakesOperations}
use Rattle.mg_buffer.specs.State.{State}
use Rattle.mgr_show.specs.Joined.{is_far}
use Rattle.mgr_show.specs.Log.{HasFollowed, show_fault}
use Rattle.mgr_mend.specs.Mending.{all_lines}
use Rattle.mgr_mend.specs.declared.merged.Torn.{Torn}
use Rattle.mgr_mend.specs.declared.fault.MergeFault.{MergeFault}
use Rattle.mgr_mend.specs.declared.fault.MergeFault.TheVariants.{Log, Apart, Far}

-- ---- what ties an operation to a content

-- an identifier is inserted, deleted or both; the root never is
abbrev pub is_known : Content → Identifier → Bool
is_known c id = is_some (element_at c id) || finite_set.contains c.deleted id

-- this very parent and character
abbrev pub is_same_element : Option (Identifier × ℕ) → Identifier → ℕ → Bool
is_same_element (Some x) parent ch = is_id x.0 parent && (x.1 == ch)
is_same_element None parent ch = false

-- the insertion is held, or its parent is known; or what is deleted is known
abbrev pub is_tied : Content → Op → Bool
is_tied c (Insert id parent ch) = is_same_element (element_at c id) parent ch || is_known c parent
is_tied c (Delete id) = is_known c id

abbrev pub are_any : List Op → Bool
are_any [] = false
are_any (op ∷ ops) = true

-- there are operations, and none is tied to the content
abbrev pub are_untied : Content → List Op → Bool
are_untied c ops = are_any ops && not (list_any (is_tied c) ops)

-- a log has operations, a content has some, and none of the log's is tied to these
abbrev pub is_apart : Content → List ℕ → Bool
is_apart c bytes = if known_count c == 0 then false else are_untied c (operations_of (all_lines bytes))

-- ---- logs in turn

-- what is held once logs were taken, and which of them had a last line that was cut off
pub record LogsTaken : Type 0 where
  pub content : Content
  pub torn : List Torn

abbrev pub logs_taken : Content → List Torn → LogsTaken
logs_taken c torn = record { content = c; torn = torn }

abbrev pub MergeOutcome : Type 0
MergeOutcome = Result LogsTaken MergeFault

-- the line that was cut off is the next one after the whole lines
abbrev pub torn_at : ℕ → ℕ → LogEnd → List Torn
torn_at n lines (end.Torn bytes) = record { log = n; line = lines + 1 } ∷ []
torn_at n lines e = []

abbrev pub after_log : ℕ → ℕ → Content → Result LogRead LogFault → MergeOutcome
after_log clock n c (Ok read) = if is_far clock c then Err (Far n) else Ok (logs_taken c (torn_at n read.lines read.end))
after_log clock n c (Err e) = Err (Log n (show_fault e))

-- what the log with this index leads to, at a store that may know that many identifiers and holds c
abbrev pub log_merged : Bool → ℕ → ℕ → ℕ → Content → List ℕ → MergeOutcome
log_merged adopt clock limit n c bytes =
    if not adopt && is_apart c bytes then Err (Apart n)
    else (let p = log_outcome limit c bytes in after_log clock n p.0 p.1)

abbrev pub after_torn : List Torn → MergeOutcome → MergeOutcome
after_torn torn (Ok t) = Ok (logs_taken t.content (torn ++ t.torn))
after_torn torn (Err e) = Err e

abbrev pub then_merged : MergeOutcome → (Content → MergeOutcome) → MergeOutcome
then_merged (Ok t) go_on = after_torn t.torn (go_on t.content)
then_merged (Err e) go_on = Err e

-- all of them, from that index on
abbrev pub merged_from : Bool → ℕ → ℕ → ℕ → Content → List (List ℕ) → MergeOutcome
merged_from adopt clock limit n c [] = Ok (logs_taken c [])
merged_from adopt clock limit n c (bytes ∷ logs) =
    then_merged (log_merged adopt clock limit n c bytes) (λ d. merged_from adopt clock limit (n + 1) d logs)

-- a buffer took operations one after another, and nothing else was done
abbrev pub HasTaken : State → State → Type 0
HasTaken b d = HasFollowed (record { limit = b.limit; old = b.content; new = d.content; follows = λ ops. TakesOperations b ops d })
