-- The text that was told last is the live buffer's, after an event and after the end of a block.
use Rattle.std.proofs.Common.{◌≡◌, ◌⊎◌, ◌∙◌, ◌+◌, ◌&&◌, arith, ℕ, zero, suc, Bool, true, List, [], ◌∷◌, length, get_or, Option, Some, None, refl, sym, ap, subst, nat_eq, nat_lt}
use Rattle.std.specs.Prelude.{chars, not, if◌then◌else◌}
use Rattle.std.specs.Cmp.Lexicographic.{pointwise}
use Rattle.std.specs.List.{position_or_len}
use Rattle.std.specs.Option.{option_map}
use Rattle.rga_ops.specs.Order.{text}
use Rattle.mg_buffer.specs.OpenState.{OpenState}
use Rattle.mg_buffer.specs.State.{State}
use Rattle.rga_exchange.specs.Counting.{Calls}
use Rattle.mg_session.specs.Moments.{Known}
use Rattle.mg_session.specs.declared.course.Course.{Course}
use Rattle.mg_session.specs.declared.course.Course.TheVariants.{On, NoScreen}
use Rattle.mg_session.specs.Memory.{CourseMemory as NoMemory}
use Rattle.mg_workspace.specs.AtIndex.{state_at}
use Rattle.mg_workspace.specs.Buffers.{no_buffer}
use Rattle.mg_workspace.specs.Names.{buffer_named, is_named}
use Rattle.mg_editor.specs.Editors.{Editor}
use Rattle.mg_editor.specs.LiveSaving as saving
use Rattle.mg_editor.specs.declared.live_saving.Writing.{Writing}
use Rattle.mg_editor.proofs.SweepLaws.{kept_turn}
use Rattle.mg_session.proofs.TakenLaws.{after_step}
use Rattle.mg_live.specs.Blocks.{EndsBlock, Tells, Writes, has_more, reported, saves_due, writing_due}
use Rattle.mg_live.specs.Changes.{Changes, noted}
use Rattle.mg_live.specs.Made.{live_index}
use Rattle.mg_live.specs.Reports.{NotesChanges}
use Rattle.mg_live.specs.States.{Live, Moment}
use Rattle.mg_live.specs.Statuses.{LeavesUnmade, Readies, Shows, begun, can_show, unmade, whole}
use Rattle.mg_live.specs.Told.{IsTold}
use Rattle.mg_live.proofs.ChangeLaws.{no_change}
use Rattle.mg_live.proofs.ShapeLaws.{KeepsNumbers}

-- ---- lists of buffers with the same names

abbrev pub AlikeNames : List OpenState → List OpenState → Type 0
AlikeNames xs ys = (k : ℕ) → (get_or ys k no_buffer).buffer.name ≡ (get_or xs k no_buffer).buffer.name

first_alike : (name : List ℕ) (xs ys : List OpenState) → length ys ≡ length xs → AlikeNames xs ys → position_or_len (is_named name) ys ≡ position_or_len (is_named name) xs
first_alike name [] [] many alike = refl
first_alike name [] (y ∷ ys) many alike = absurd (omega (arith, many))
first_alike name (x ∷ xs) [] many alike = absurd (omega (arith, many))
first_alike name (x ∷ xs) (y ∷ ys) many alike =
    let rest = first_alike name xs ys (omega (arith, many)) (λ k. alike (suc k)) in
    λ i. if not (pointwise nat_eq (chars (alike zero i)) name) then 1 + rest i else 0

-- the same name is found at the same index
pub found_alike : (name : List ℕ) (xs ys : List OpenState) → length ys ≡ length xs → AlikeNames xs ys → buffer_named name ys ≡ buffer_named name xs
found_alike name xs ys many alike =
    let first = first_alike name xs ys many alike in
    λ i. if nat_lt (first i) (many i) then Some (first i) else None

-- ---- once a change is noted

pub noted_text : (now : List ℕ) (c : Changes) → (noted now c).text ≡ now
noted_text now c = grind (arith, no_change)

-- what is noted of changes is noted beside; and the session stands as it did, or has no memory
pub notes_so : (e : Editor) (before : Course) (live next : Live) (after : Course) → NotesChanges e before live next after
    → (next ≡ record live { changes = next.changes }) × ((after ≡ before) ⊎ (after ≡ NoMemory))
notes_so e before live next after notes = grind arith

told_if_noted : (e : Editor) (before : Course) (live next : Live) (after : Course) (c : Changes) (i : ℕ) → NotesChanges e before live next after → after ≡ On
    → next.changes ≡ Some c → live_index next.name e ≡ Some i → c.text ≡ text (state_at i e.work).content
told_if_noted e before live next after c i notes on has at = grind (arith, noted_text)

pub told_once_noted : (e : Editor) (before : Course) (live next : Live) (after : Course) → NotesChanges e before live next after → after ≡ On → IsTold next e
told_once_noted e before live next after notes on c i has at = told_if_noted e before live next after c i notes on has at

-- ---- at the end of a block

record Readied (live next : Live) (e f : Editor) : Type 0 where
  buffers : f.work.buffers ≡ e.work.buffers
  numbers : KeepsNumbers e.work f.work
  shown : next ≡ record live { shown = next.shown }

readied : (fresh is_new : Bool) (live next : Live) (e f : Editor) → Readies fresh is_new live e next f → Readied live next e f
readied fresh is_new live next e f r = grind arith

unmade_so : (fresh : Bool) (live next : Live) (e f : Editor) → LeavesUnmade fresh live e next f → Readied live next e f
unmade_so fresh live next e f so = grind (arith, readied)

-- what a status leaves: the windows may be placed, and another frame be shown
pub record Redrawn (a b : Moment) : Type 0 where
  pub buffers : b.editor.work.buffers ≡ a.editor.work.buffers
  pub numbers : KeepsNumbers a.editor.work b.editor.work
  pub live : b.live ≡ record a.live { shown = b.live.shown }
  pub calls : b.calls ≡ a.calls
  pub course : b.course ≡ On → a.course ≡ On

redrawn_as : (a b : Moment) (f : Editor) (screen : Calls Known) (course : Course) (next : Live) → Readied a.live next a.editor f → (course ≡ On → a.course ≡ On)
    → b ≡ record a { editor = f; screen = screen; course = course; live = next } → Redrawn a b
redrawn_as a b f screen course next r on is =
    subst (Redrawn a) (sym is) (record { buffers = r.buffers; numbers = r.numbers; live = r.shown; calls = refl; course = on })

pub redrawn : {fresh more : Bool} {told : List ℕ} (a b : Moment) → Shows fresh more told a b → Redrawn a b
redrawn {fresh} {more} {told} a b (whole bytes screen next f is written failures flushed left) =
    redrawn_as a b f screen a.course next (readied fresh is.is_new a.live next a.editor f is.drawn) (λ on. on) left
redrawn {fresh} {more} {told} a b (begun front rest screen next f is written fails left) =
    redrawn_as a b f screen NoScreen next (readied fresh is.is_new a.live next a.editor f is.drawn) (λ on. absurd cc) left
redrawn {fresh} {more} {told} a b (unmade next f placed left) =
    redrawn_as a b f a.screen NoMemory next (unmade_so fresh a.live next a.editor f placed) (λ on. absurd cc) left

-- so it is where the session goes on
abbrev pub IsToldAt : Moment → Type 0
IsToldAt m = m.course ≡ On → IsTold m.live m.editor

told_shown : {fresh more : Bool} {told : List ℕ} (a b : Moment) → IsToldAt a → Shows fresh more told a b → IsToldAt b
told_shown a b told shows on = let r = redrawn a b shows in rw (r.live, r.buffers) (told (r.course on))

told_tells : (fresh : Bool) (a b : Moment) → IsToldAt a → Tells fresh a b → IsToldAt b
told_tells fresh a b told tells = subst IsToldAt (sym tells.left) (told_shown a tells.shown told tells.shows)

-- a sweep leaves names and contents
pub swept_alike : (writing : Writing) (n : ℕ) (bs ds : List OpenState) (old new : saving.Course) → saving.Sweeps writing n bs ds old new
    → (length ds ≡ length bs) × ((k : ℕ) → ((get_or ds k no_buffer).buffer.name ≡ (get_or bs k no_buffer).buffer.name) × ((get_or ds k no_buffer).buffer.content ≡ (get_or bs k no_buffer).buffer.content))
swept_alike writing n [] [] old new s = (refl, λ k. (refl, refl))
swept_alike writing n [] (d ∷ ds) old new s = absurd s
swept_alike writing n (b ∷ bs) [] old new s = absurd s
swept_alike writing n (b ∷ bs) (d ∷ ds) old new (mid, turn, rest) =
    let kept = kept_turn (saving.is_due writing n b) writing n b d old mid turn in
    let more = swept_alike writing (n + 1) bs ds mid new rest in
    (ap suc more.0, at kept.buffer more.1)
  where
    at : d.buffer ≡ record b.buffer { unsaved = d.buffer.unsaved }
        → ((k : ℕ) → ((get_or ds k no_buffer).buffer.name ≡ (get_or bs k no_buffer).buffer.name) × ((get_or ds k no_buffer).buffer.content ≡ (get_or bs k no_buffer).buffer.content))
        → (k : ℕ) → ((get_or (d ∷ ds) k no_buffer).buffer.name ≡ (get_or (b ∷ bs) k no_buffer).buffer.name) × ((get_or (d ∷ ds) k no_buffer).buffer.content ≡ (get_or (b ∷ bs) k no_buffer).buffer.content)
    at same more zero = (ap (λ (x : State). x.name) same, ap (λ (x : State). x.content) same)
    at same more (suc k) = more k

told_written : (writing : Option Writing) (a b : Moment) → IsToldAt a → Writes writing a b → IsToldAt b
told_written None a b told is = subst IsToldAt (sym is) told
told_written (Some writing) a b told (sweeps, left) = λ on c i has at.
    let old = a.editor.work.buffers.all in
    let new = b.editor.work.buffers.all in
    let (count, same) = swept_alike writing 0 old new _ _ sweeps in
    let found : live_index a.live.name a.editor ≡ Some i =
    sym (found_alike a.live.name old new count (λ k. (same k).0)) ∙ ap (λ (m : Moment). buffer_named m.live.name new) (sym left) ∙ at in
    told (sym (ap (λ (m : Moment). m.course) left) ∙ on) c i (sym (ap (λ (m : Moment). m.live.changes) left) ∙ has) found ∙ ap text (sym (same i).1)

-- changes that were told are told no more, and the text is the same
reported_had : (changes : Option Changes) (c : Changes) → option_map (λ (d : Changes). record d { list = [] }) changes ≡ Some c
    → (d : Changes) × (changes ≡ Some d) × (c.text ≡ d.text)
reported_had changes c is = grind arith

told_reported : (a : Moment) → IsToldAt a → IsToldAt (record a { live = reported a.live })
told_reported a told on c i has at = let (d, had, same) = reported_had a.live.changes c has in same ∙ told on d i had at

pub told_after_block : (a b : Moment) → EndsBlock a b → IsToldAt a → IsToldAt b
told_after_block a b ends told =
    let shown = after_step IsToldAt (Shows true (has_more a.live a.editor) []) (can_show a.course) a ends.shown told (λ _ shows. told_shown a ends.shown told shows) ends.shows in
    let ready = record ends.shown { live = reported ends.shown.live } in
    let written = told_written (writing_due a.live a.editor) ready ends.written (told_reported ends.shown shown) ends.writes in
    let fresh = saves_due a.live a.editor in
    let told =
    after_step IsToldAt (Tells fresh) (has_more a.live a.editor && can_show ends.written.course) ends.written ends.told written
    (λ _ tells. told_tells fresh ends.written ends.told written tells) ends.tells in
    subst IsToldAt (sym ends.left) told
