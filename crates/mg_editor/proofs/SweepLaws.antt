-- Buffers that are written in turn: what is known between two turns, and what a sweep leaves of each buffer.
use Rattle.std.proofs.Common.{◌≡◌, ◌⊎◌, inl, inr, ℕ, zero, suc, ◌+◌, ◌<◌, ◌≤◌, Bool, true, false, true≢false, ◌&&◌, ◌||◌, if◌then◌else◌, List, [], ◌∷◌, ◌++◌, length, get_or, take, drop, set, Option, Some, None, Result, Ok, Err, slice_get, refl, sym, ap, subst, ◌∙◌, arith, add-one}
use Rattle.std.specs.List.{list_any}
use Rattle.std.proofs.Math.Seq.{drop-cons}
use Rattle.std.proofs.lemmas.List.{take_more_set, take_all, drop_all, drop-set-lt, append_assoc, append-nil}
use Rattle.std.proofs.lemmas.Option.{same_Some}
use Rattle.mg_files.specs.Calls.{Call, Adds}
use Rattle.mg_files.specs.Saving.{SaveStep, AtLog, AtText, SaveFailed, SavesTo, LogsTo, log_calls, failed_state, logged, saved, unlogged, written}
use Rattle.mg_files.specs.declared.port.PortFault.{PortFault}
use Rattle.mg_files.specs.Memory.{PortMemory as Memory}
use Rattle.mg_buffer.specs.OpenState.{OpenState, has_made, has_unsaved, is_changed, is_touched}
use Rattle.mg_workspace.specs.Buffers.{no_buffer}
use Rattle.mg_workspace.specs.Workspaces.{Workspace, with_buffer_at}
use Rattle.mg_editor.specs.LiveSaving.{Ended, is_live, is_log_due, is_due, is_any_due, save_answer, Course, WritesTo, TakesTurn, Sweeps, with_swept, KeepsBuffer}
use Rattle.mg_editor.specs.declared.live_saving.Writing.{Writing}
use Rattle.mg_editor.specs.declared.live_saving.Writing.TheVariants.{Log, LogAndText}

-- ---- the one whose turn it is

first_left : (i : ℕ) (all : List OpenState) → i < length all → drop i all ≡ get_or all i no_buffer ∷ drop (i + 1) all
first_left i all lt = drop-cons all i no_buffer lt ∙ ap (λ n. get_or all i no_buffer ∷ drop n all) (sym (add-one i))

-- ---- whether any is due

pub any_log_due : (i : ℕ) (bs : List OpenState) → is_any_due Log i bs ≡ list_any is_log_due bs
any_log_due i [] = refl
any_log_due i (b ∷ bs) = ap (λ t. is_log_due b || t) (any_log_due (i + 1) bs)

-- ---- between two turns

-- the turns that are to come end the sweep that began with the first buffer
abbrev pub IsUnderway : Writing → ℕ → List OpenState → List OpenState → Course → Course → Type 0
IsUnderway writing i first all start now =
    (ds : List OpenState) (end : Course) → Sweeps writing i (drop i all) ds now end → Sweeps writing 0 first (take i all ++ ds) start end

pub after_turn : (writing : Writing) (i : ℕ) (first all new : List OpenState) (d : OpenState) (start now mid : Course) → i < length all → new ≡ set all i d
    → TakesTurn (is_due writing i (get_or all i no_buffer)) writing i (get_or all i no_buffer) d now mid → IsUnderway writing i first all start now
    → IsUnderway writing (i + 1) first new start mid
after_turn writing i first all new d start now mid lt is turn underway ds end rest =
    let later : i < i + 1 = omega arith in
    let left : drop (i + 1) new ≡ drop (i + 1) all = ap (drop (i + 1)) is ∙ drop-set-lt (i + 1) all i d later in
    let done : take (i + 1) new ≡ take i all ++ d ∷ [] = ap (take (i + 1)) is ∙ take_more_set all i d lt in
    let joined : take (i + 1) new ++ ds ≡ take i all ++ (d ∷ ds) = ap (λ xs. xs ++ ds) done ∙ append_assoc (take i all) (d ∷ []) ds in
    subst (λ xs. Sweeps writing 0 first xs start end) (sym joined)
    (underway (d ∷ ds) end
    (subst (λ xs. Sweeps writing i xs (d ∷ ds) now end) (sym (first_left i all lt)) (mid, turn, subst (λ xs. Sweeps writing (i + 1) xs ds mid end) left rest)))

pub at_the_end : (writing : Writing) (i : ℕ) (first all : List OpenState) (start now : Course) → length all ≤ i → IsUnderway writing i first all start now
    → Sweeps writing 0 first all start now
at_the_end writing i first all start now le underway =
    let whole : take i all ++ [] ≡ all = append-nil (take i all) ∙ take_all i all le in
    subst (λ xs. Sweeps writing 0 first xs start now) whole
    (underway [] now (subst (λ xs. Sweeps writing i xs [] now now) (sym (drop_all i all le)) refl))

-- ---- what is left of each buffer

-- the turn of a buffer
pub record HasTurn (writing : Writing) (i : ℕ) (b d : OpenState) : Type 0 where
  pub before : Course
  pub after : Course
  pub turn : TakesTurn (is_due writing i b) writing i b d before after

nowhere : {X : Type 0} (x : X) → ◌≡◌ {A = Option X} None (Some x) → ⊥
nowhere x e = cc

turn_from : (writing : Writing) (i n : ℕ) (bs ds : List OpenState) (old new : Course) (b d : OpenState) → Sweeps writing n bs ds old new → slice_get bs i ≡ Some b
    → slice_get ds i ≡ Some d → HasTurn writing (n + i) b d
turn_from writing i n [] ds old new b d s was is = absurd (nowhere b was)
turn_from writing i n (x ∷ bs) [] old new b d s was is = absurd s
turn_from writing zero n (x ∷ bs) (y ∷ ds) old new b d s was is =
    let first : HasTurn writing n x y = record { before = old; after = s.0; turn = s.1 } in
    let here : n ≡ n + 0 = omega arith in
    subst (λ v. HasTurn writing v b d) here (subst (λ v. HasTurn writing n v d) (same_Some x b was) (subst (HasTurn writing n x) (same_Some y d is) first))
turn_from writing (suc i) n (x ∷ bs) (y ∷ ds) old new b d s was is =
    let further : (n + 1) + i ≡ n + suc i = omega arith in
    subst (λ v. HasTurn writing v b d) further (turn_from writing i (n + 1) bs ds s.0 new b d s.2 was is)

pub turn_at : (writing : Writing) (bs ds : List OpenState) (old new : Course) (i : ℕ) (b d : OpenState) → Sweeps writing 0 bs ds old new → slice_get bs i ≡ Some b
    → slice_get ds i ≡ Some d → HasTurn writing i b d
turn_at writing bs ds old new i b d s was is =
    let here : 0 + i ≡ i = omega arith in
    subst (λ v. HasTurn writing v b d) here (turn_from writing i 0 bs ds old new b d s was is)

pub same_count : (writing : Writing) (n : ℕ) (bs ds : List OpenState) (old new : Course) → Sweeps writing n bs ds old new → length ds ≡ length bs
same_count writing n [] [] old new s = refl
same_count writing n [] (d ∷ ds) old new s = absurd s
same_count writing n (b ∷ bs) [] old new s = absurd s
same_count writing n (b ∷ bs) (d ∷ ds) old new s = ap suc (same_count writing (n + 1) bs ds s.0 new s.2)

-- ---- by what the turn did

kept_same : (b d : OpenState) → d ≡ b → KeepsBuffer b d
kept_same b d e = subst (KeepsBuffer b) (sym e) (record { buffer = refl; runs = refl; brief = refl })

kept_logged : (b : OpenState) → KeepsBuffer b (logged b)
kept_logged b = by (has_unsaved b)
  where
    by : (u : Bool) → KeepsBuffer b (if u then written b else b)
    by true = record { buffer = refl; runs = refl; brief = refl }
    by false = record { buffer = refl; runs = refl; brief = refl }

kept_saved : (b : OpenState) → KeepsBuffer b (saved b)
kept_saved b = let k = kept_logged b in record { buffer = k.buffer; runs = k.runs; brief = k.brief }

kept_failed : (step : SaveStep) (b : OpenState) → KeepsBuffer b (failed_state step b)
kept_failed AtLog b = record { buffer = refl; runs = refl; brief = refl }
kept_failed AtText b = kept_logged b

kept_written : (writing : Writing) (ended : Ended) (old new : Option (List Call)) (b d : OpenState) → WritesTo writing ended old new b d → KeepsBuffer b d
kept_written Log (Ok u) old new b d w = subst (KeepsBuffer b) (sym w.left) (kept_logged b)
kept_written Log (Err fault) old new b d w = subst (KeepsBuffer b) (sym w.left) (kept_failed AtLog b)
kept_written (LogAndText live) (Ok u) old new b d w = subst (KeepsBuffer b) (sym w.left) (kept_saved b)
kept_written (LogAndText live) (Err fault) old new b d w = subst (KeepsBuffer b) (sym w.1.left) (kept_failed w.0 b)

pub kept_turn : (due : Bool) (writing : Writing) (i : ℕ) (b d : OpenState) (old new : Course) → TakesTurn due writing i b d old new → KeepsBuffer b d
kept_turn true writing i b d old new t = kept_written writing t.0 old.calls new.calls b d t.1.writes
kept_turn false writing i b d old new t = kept_same b d t.0

pub kept : (writing : Writing) (bs ds : List OpenState) (old new : Course) (i : ℕ) (b d : OpenState) → Sweeps writing 0 bs ds old new → slice_get bs i ≡ Some b
    → slice_get ds i ≡ Some d → KeepsBuffer b d
kept writing bs ds old new i b d s was is =
    let t = turn_at writing bs ds old new i b d s was is in
    kept_turn (is_due writing i b) writing i b d t.before t.after t.turn

pub others_stay : (writing : Writing) (bs ds : List OpenState) (old new : Course) (i : ℕ) (b d : OpenState) → Sweeps writing 0 bs ds old new → slice_get bs i ≡ Some b
    → slice_get ds i ≡ Some d → is_due writing i b ≡ false → d ≡ b
others_stay writing bs ds old new i b d s was is undue =
    let t = turn_at writing bs ds old new i b d s was is in
    let none : TakesTurn false writing i b d t.before t.after = subst (λ due. TakesTurn due writing i b d t.before t.after) undue t.turn in
    none.0

-- ---- of logs

and_true_right : (a b : Bool) → (a && b) ≡ true → b ≡ true
and_true_right true b e = e
and_true_right false b e = absurd (true≢false (sym e))

logged_due : (b : OpenState) → is_log_due b ≡ true → logged b ≡ written b
logged_due b due = ap (λ u. if u then written b else b) (and_true_right (has_made b) (has_unsaved b) due)

log_ended : (ended : Ended) (old new : Option (List Call)) (b d : OpenState) → is_log_due b ≡ true → LogsTo ended old new b d → (d ≡ written b) ⊎ (d ≡ unlogged b)
log_ended (Ok u) old new b d due w = inl (w.left ∙ logged_due b due)
log_ended (Err fault) old new b d due w = inr w.left

pub log_turned : (bs ds : List OpenState) (old new : Course) (i : ℕ) (b d : OpenState) → Sweeps Log 0 bs ds old new → slice_get bs i ≡ Some b
    → slice_get ds i ≡ Some d → is_log_due b ≡ true → (d ≡ written b) ⊎ (d ≡ unlogged b)
log_turned bs ds old new i b d s was is due =
    let t = turn_at Log bs ds old new i b d s was is in
    let done : TakesTurn true Log i b d t.before t.after = subst (λ v. TakesTurn v Log i b d t.before t.after) due t.turn in
    log_ended done.0 t.before.calls t.after.calls b d due done.1.writes

not_due_written : (b : OpenState) → is_log_due (written b) ≡ true → ⊥
not_due_written b due = absurd (true≢false (sym (and_true_right (has_made b) false due)))

pub log_owed : (bs ds : List OpenState) (old new : Course) (i : ℕ) (b d : OpenState) → Sweeps Log 0 bs ds old new → slice_get bs i ≡ Some b
    → slice_get ds i ≡ Some d → is_log_due d ≡ true → d.whole ≡ true
log_owed bs ds old new i b d s was is owed = by (is_log_due b) refl
  where
    by : (due : Bool) → is_log_due b ≡ due → d.whole ≡ true
    by false undue =
        let same : d ≡ b = others_stay Log bs ds old new i b d s was is undue in
        absurd (true≢false (sym owed ∙ ap is_log_due same ∙ undue))
    by true due = elim (log_turned bs ds old new i b d s was is due) [
      | inl e ↦ absurd (not_due_written b (sym (ap is_log_due e) ∙ owed))
      | inr e ↦ ap (λ o. o.whole) e
    ]

-- ---- as a save

and_true_left : (a b : Bool) → (a && b) ≡ true → a ≡ true
and_true_left true b e = refl
and_true_left false b e = absurd (true≢false (sym e))

due_changed : (writing : Writing) (i : ℕ) (b : OpenState) → is_due writing i b ≡ true → is_changed b ≡ true
due_changed Log i b due = ap (λ u. u || b.text_waits) (and_true_right (has_made b) (has_unsaved b) due)
due_changed (LogAndText live) i b due = and_true_left (is_changed b) (is_touched b || is_live live i) due

-- a log that was brought up to date is what a save leaves that finds no memory for the text
written_as : (writing : Writing) (ended : Ended) (old new : Option (List Call)) (b d : OpenState) → is_changed b ≡ true → WritesTo writing ended old new b d
    → (answer : Result Bool PortFault) × SavesTo answer old new b d
written_as Log (Ok u) old new b d changed w =
    let failed : SaveFailed AtText Memory old new b d = record { due = changed; calls = subst (Adds old new) (sym (append-nil (log_calls b))) w.calls; left = w.left } in
    (Err Memory, (AtText, failed))
written_as Log (Err fault) old new b d changed w = (Err fault, (AtLog, w))
written_as (LogAndText live) ended old new b d changed w = (save_answer b ended, w)

pub saved_as : (writing : Writing) (i : ℕ) (ended : Ended) (old new : Option (List Call)) (b d : OpenState) → is_due writing i b ≡ true → WritesTo writing ended old new b d
    → (answer : Result Bool PortFault) × SavesTo answer old new b d
saved_as writing i ended old new b d due w = written_as writing ended old new b d (due_changed writing i b due) w

-- ---- a sweep of a workspace

pub begun : (writing : Writing) (all : List OpenState) (c : Course) → IsUnderway writing 0 all all c c
begun writing all c ds end s = s

pub buffers_then : (i : ℕ) (now new : Workspace) (d : OpenState) → new ≡ record (with_buffer_at i now d) { failures = new.failures } → new.buffers.all ≡ set now.buffers.all i d
buffers_then i now new d step = ap (λ (v : Workspace). v.buffers.all) step

pub rest_then : (i : ℕ) (first now new : Workspace) (d : OpenState) → now ≡ with_swept now.buffers.all now.failures first
    → new ≡ record (with_buffer_at i now d) { failures = new.failures } → new ≡ with_swept new.buffers.all new.failures first
rest_then i first now new d same step =
    step
    ∙ ap (λ (v : Workspace). record (with_buffer_at i v d) { failures = new.failures }) same
    ∙ ap (λ xs. with_swept xs new.failures first) (sym (buffers_then i now new d step))
