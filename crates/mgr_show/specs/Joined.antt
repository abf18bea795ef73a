-- What `join_logs` makes of logs, and writes.
use Rattle.std.specs.Prelude.{◌≡◌, ◌↔◌, ℕ, ◌+◌, ◌<◌, ◌≤◌, nat_lt, Bool, true, false, if◌then◌else◌, List, [], ◌∷◌, ◌++◌, length, Contains, Option, Some, None, IfSome, Result, Ok, Err, ⊤}
use Rattle.std.specs.List.{flat_map, list_any}
use Rattle.rga_ops.specs.Content.{Content, clock_of, content_of, known_count, nothing, IsAgreed}
use Rattle.rga_ops.specs.declared.op.Op.{Op}
use Rattle.rga_exchange.specs.Counting.{Calls, Writes, WritesFront}
use Rattle.rga_lines.specs.Log.{log_operations, HasOnlyOperations}
use Rattle.rga_lines.specs.Stream.{rest_of}
use Rattle.rga_store.specs.declared.text_store.TheConstants.{MAX_LIMIT}
use Rattle.rga_exchange.specs.DeletionRuns.{has_deletion_runs}
use Rattle.rga_exchange.specs.Sending.{StandsFor}
use Rattle.rga_exchange.specs.declared.fault.SendFault.{SendFault}
use Rattle.rga_exchange.specs.declared.fault.SendFault.TheVariants as send
use Rattle.rga_exchange.specs.Compacting.{compact_text}
use Rattle.mgr_show.specs.Log.{ShowOutcome, shown_from}
use Rattle.mgr_show.specs.Shown.{IsOfInput}
use Rattle.mgr_show.specs.Sources.{failures_after}
use Rattle.mgr_show.specs.declared.fault.ShowFault.{ShowFault}
use Rattle.mgr_show.specs.declared.fault.ShowFault.TheVariants as fault
use Rattle.mgr_show.specs.declared.fault.JoinFault.{JoinFault}
use Rattle.mgr_show.specs.declared.fault.JoinFault.TheVariants as join
use Rattle.mgr_show.specs.Memory.{JoinMemory}

-- ---- what stands under names

abbrev pub in_front : Option (List ℕ) → Option (List (List ℕ)) → Option (List (List ℕ))
in_front None logs = None
in_front (Some bytes) None = None
in_front (Some bytes) (Some logs) = Some (bytes ∷ logs)

-- what stands under names, in turn, if all of it is told
abbrev pub all_told : (List ℕ → Option (List ℕ)) → List (List ℕ) → Option (List (List ℕ))
all_told contents [] = Some []
all_told contents (name ∷ names) = in_front (contents name) (all_told contents names)

abbrev pub OnLogs : (List ℕ → Option (List ℕ)) → List (List ℕ) → (List (List ℕ) → Type 0) → Type 0
OnLogs contents names P = IfSome (all_told contents names) P

-- ---- counters

-- a content has a counter of more than 2^32 above a clock
abbrev pub is_far : ℕ → Content → Bool
is_far clock c = nat_lt (clock + 4294967296) (clock_of c)

-- Above the number of identifiers that it knows. A new counter is one above the greatest that its writer knew: so no counter
-- is above that number, if nothing is missing.
abbrev pub has_far_counter : Content → Bool
has_far_counter c = is_far (known_count c) c

-- ---- what logs lead to

-- the content of all logs, or why they are not joined
abbrev pub JoinOutcome : Type 0
JoinOutcome = Result Content JoinFault

abbrev pub then_joined : ℕ → ShowOutcome → (Content → JoinOutcome) → JoinOutcome
then_joined n (Ok c) go_on = go_on c
then_joined n (Err e) go_on = Err (join.Log n e)

-- what logs in turn lead to, after n others, at a store that may know that many identifiers and holds c
abbrev pub joined_from : ℕ → ℕ → Content → List (List ℕ) → JoinOutcome
joined_from limit n c [] = Ok c
joined_from limit n c (bytes ∷ logs) = then_joined n (shown_from limit c bytes) (λ d. joined_from limit (n + 1) d logs)

-- what was taken, unless a counter of it is far
abbrev pub unless_far : JoinOutcome → JoinOutcome
unless_far (Ok c) = if has_far_counter c then Err join.Far else Ok c
unless_far (Err e) = Err e

-- all logs
abbrev pub join_of : ℕ → List (List ℕ) → JoinOutcome
join_of limit logs = unless_far (joined_from limit 0 nothing logs)

-- the operations of all logs
abbrev pub all_operations : List (List ℕ) → List Op
all_operations logs = flat_map log_operations logs

-- ---- faults

-- the fault of the log with this index: memory is no log's
abbrev pub at_log : ℕ → ShowFault → JoinFault
at_log n (fault.Memory _) = JoinMemory
at_log n e = join.Log n e

abbrev pub join_fault : SendFault → JoinFault
join_fault send.Write = join.Write
join_fault (send.Memory _) = JoinMemory

-- faults that the bytes of logs decide
abbrev pub IsOfLog : JoinFault → Type 0
IsOfLog (join.Log n e) = IsOfInput e
IsOfLog join.Far = ⊤
IsOfLog e = ⊥

-- faults of a file that is read, or of its bytes
abbrev pub IsOfFile : ShowFault → Type 0
IsOfFile fault.Write = ⊥
IsOfFile (fault.Memory _) = ⊥
IsOfFile e = ⊤

-- a log that is named is one of so many, and the fault is its own
abbrev pub NamesOneOf : ℕ → JoinFault → Type 0
NamesOneOf count (join.Log n e) = (n < count) × IsOfFile e
NamesOneOf count e = ⊤

-- how many reads failed, after this answer to a join
abbrev pub reads_failed : {A : Type 0} → Result A JoinFault → ℕ → ℕ
reads_failed (Err (join.Log index e)) n = failures_after {A = Unit {0}} (Err e) n
reads_failed r n = n

-- ---- what is written

-- the lines of the join, in runs: deletions too, if one of the logs has a run of them
abbrev pub join_text : List (List ℕ) → List ℕ
join_text logs = compact_text (list_any has_deletion_runs logs) (content_of (all_operations logs))

-- the logs are accepted, one after the other: their operations agree, and what they lead to is the content of all
pub record AreAccepted (logs : List (List ℕ)) : Type 0 where
  pub agreed : IsAgreed (all_operations logs)
  pub content : join_of MAX_LIMIT logs ≡ Ok (content_of (all_operations logs))

module _ {W : Type 0} (contents : W → Option (List ℕ)) (old new : Calls W) where
  -- the lines of the join of accepted logs were written: they stand for it, and the last one too ends in a newline
  pub record Joins (logs : List (List ℕ)) : Type 0 where
    pub accepted : AreAccepted logs
    pub stands : StandsFor (join_text logs) (content_of (all_operations logs))
    pub ended : rest_of (join_text logs) ≡ []
    pub written : Writes contents old new (join_text logs)

  -- a beginning of them was written
  pub record BeginsToJoin (logs : List (List ℕ)) : Type 0 where
    pub accepted : AreAccepted logs
    pub begun : WritesFront contents old new (join_text logs)

-- ---- in words

-- Each log has only operations, all agree with one another, and together they know no more identifiers than the limit.
pub record MayBeTaken (logs : List (List ℕ)) : Type 0 where
  pub only : (log : List ℕ) → Contains logs log → HasOnlyOperations log
  pub agreed : IsAgreed (all_operations logs)
  pub few : known_count (content_of (all_operations logs)) ≤ MAX_LIMIT

-- And no counter is far above how many they know.
pub record MayBeJoined (logs : List (List ℕ)) : Type 0 where
  pub taken : MayBeTaken logs
  pub near : has_far_counter (content_of (all_operations logs)) ≡ false

-- the same logs, in any order and with any repeats
abbrev pub HasSameLogs : List (List ℕ) → List (List ℕ) → Type 0
HasSameLogs xs ys = (log : List ℕ) → Contains xs log ↔ Contains ys log

-- The logs before this one are joined, after n others and at content c, and this one is refused after them. It is named
-- by its index.
pub record IsFirstRefused (limit n : ℕ) (c : Content) (logs : List (List ℕ)) (e : JoinFault) : Type 0 where
  pub before : List (List ℕ)
  pub log : List ℕ
  pub later : List (List ℕ)
  pub split : logs ≡ before ++ log ∷ later
  pub content : Content
  pub joined : joined_from limit n c before ≡ Ok content
  pub why : ShowFault
  pub refused : shown_from limit content log ≡ Err why
  pub named : e ≡ join.Log (n + length before) why

-- All logs may be taken, and a counter is far above how many identifiers they know. None is named.
pub record AreFar (logs : List (List ℕ)) (e : JoinFault) : Type 0 where
  pub taken : MayBeTaken logs
  pub far : has_far_counter (content_of (all_operations logs)) ≡ true
  pub named : e ≡ join.Far
