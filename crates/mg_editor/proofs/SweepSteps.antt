-- Buffers that are written in turn, as steps of what is held.
use Rattle.std.proofs.Common.{◌≡◌, ◌≢◌, ◌∙◌, ℕ, zero, suc, ◌+◌, ◌<◌, Bool, true, false, List, [], ◌∷◌, ◌++◌, length, get_or, Option, Some, refl, sym, ap, subst, append_assoc, append-nil, arith}
use Rattle.std.specs.Prelude.{⊤}
use Rattle.std.specs.List.{Contains}
use Rattle.std.proofs.lemmas.List.{append_cancel_left}
use Rattle.std.proofs.lemmas.Option.{same_Some, slice_get-get_or}
use Rattle.mg_buffer.specs.OpenState.{OpenState}
use Rattle.mg_buffer.specs.State.{State}
use Rattle.mg_files.specs.Calls.{Call}
use Rattle.mg_files.specs.Held.{Held, MayLead}
use Rattle.mg_files.specs.Kept.{IsWritableWhole}
use Rattle.mg_files.specs.Run.{BufferStep, Rests, ChangesAlone, KeepsOperations, MayGo, TakesOnly}
use Rattle.mg_workspace.specs.Buffers.{Buffers, no_buffer}
use Rattle.mg_editor.specs.Holding.{AreOpen, HaveOwnNames, GoesOn}
use Rattle.mg_editor.specs.LiveSaving as live
use Rattle.mg_editor.specs.LiveSaving.{Sweeps, TakesTurn, is_due}
use Rattle.mg_editor.specs.declared.live_saving.Writing.{Writing}
use Rattle.mg_editor.proofs.CallLaws.{AllSpare, all_spared, both_spare, leads_split}
use Rattle.mg_editor.proofs.CourseLaws.{Course, save_goes}
use Rattle.mg_editor.proofs.SweepLaws.{kept, kept_turn, same_count, saved_as}

-- ---- one buffer

-- a buffer goes on to what is held later, while its files stay
longer : (steps : List BufferStep) (b d : OpenState) (s u t : Held) → MayGo steps b s d u → t d.buffer.name ≡ u d.buffer.name → MayGo steps b s d t
longer [] b d s u t (is, here) stays = (is, subst (λ (x : OpenState). t x.buffer.name ≡ u x.buffer.name) is stays ∙ here)
longer (step ∷ steps) b d s u t (c, v, first, later) stays = (c, v, first, longer steps c d v u t later stays)

-- and so from what was held before, while they stayed
earlier : (steps : List BufferStep) (b d : OpenState) (s u t : Held) → IsWritableWhole b.buffer.content → u b.buffer.name ≡ s b.buffer.name → MayGo steps b u d t → MayGo (Rests ∷ steps) b s d t
earlier steps b d s u t writable stayed go =
    let alone : ChangesAlone b b s u = record { rest = refl; writable = writable; held = stayed } in
    let keeps : KeepsOperations b.buffer b.buffer = record { name = refl; content = refl; unsaved = refl; limit = refl; replica = refl } in
    (b, u, (alone, keeps), go)

untouched : (before : List Call) (new : Option (List Call)) (b : OpenState) → new ≡ Some before → Course [] before new b b
untouched before new b is = record {
  made = [];
  told = is ∙ ap Some (sym (append-nil before));
  spares = λ name other. tt;
  goes = λ s t leads. ([], tt, (refl, leads b.buffer.name));
}

-- what the turn of a buffer leads to
turn_goes : (due : Bool) (writing : Writing) (i : ℕ) (b d : OpenState) (old mid : live.Course) (before : List Call) → is_due writing i b ≡ due → old.calls ≡ Some before
    → TakesTurn due writing i b d old mid → Course [] before mid.calls b d
turn_goes false writing i b d old mid before at is (same, stays) =
    let told : mid.calls ≡ Some before = ap (λ (c : live.Course). c.calls) stays ∙ is in
    subst (λ (x : OpenState). Course [] before mid.calls b x) (sym same) (untouched before mid.calls b told)
turn_goes true writing i b d old mid before at is (ended, w) =
    let save = saved_as writing i ended old.calls mid.calls b d at w.writes in
    save_goes save.0 before old.calls mid.calls b d is save.1

-- ---- all of them

abbrev NoneNamed : List ℕ → List OpenState → Type 0
NoneNamed name [] = ⊤
NoneNamed name (b ∷ bs) = (b.buffer.name ≢ name) × NoneNamed name bs

abbrev AreApart : List OpenState → Type 0
AreApart [] = ⊤
AreApart (b ∷ bs) = NoneNamed b.buffer.name bs × AreApart bs

abbrev AreWritable : List OpenState → Type 0
AreWritable [] = ⊤
AreWritable (b ∷ bs) = IsWritableWhole b.buffer.content × AreWritable bs

-- steps lead from each buffer, and from what was held, to what it became and what is held
abbrev AllGo : List OpenState → List OpenState → Held → Held → Type 0
AllGo [] [] s t = ⊤
AllGo (b ∷ bs) (d ∷ ds) s t = ((steps : List BufferStep) × TakesOnly [] steps × MayGo steps b s d t) × AllGo bs ds s t
AllGo _ _ s t = ⊥

-- the files of each stay while calls are made for another
all_earlier : (x y : OpenState) (before : List Call) (new : Option (List Call)) (course : Course [] before new x y) (bs ds : List OpenState) (s u t : Held) → MayLead course.made s u
    → NoneNamed x.buffer.name bs → AreWritable bs → AllGo bs ds u t → AllGo bs ds s t
all_earlier x y before new course [] [] s u t leads other writable go = tt
all_earlier x y before new course [] (d ∷ ds) s u t leads other writable go = go
all_earlier x y before new course (b ∷ bs) [] s u t leads other writable go = go
all_earlier x y before new course (b ∷ bs) (d ∷ ds) s u t leads (other, others) (here, writable) (go, gos) =
    let spare : AllSpare b.buffer.name course.made = course.spares b.buffer.name (λ e. other (sym e)) in
    let stayed : u b.buffer.name ≡ s b.buffer.name = all_spared b.buffer.name course.made s u spare leads in
    ((Rests ∷ go.0, go.1, earlier go.0 b d s u t here stayed go.2), all_earlier x y before new course bs ds s u t leads others writable gos)

record AllCourse (before : List Call) (new : Option (List Call)) (bs ds : List OpenState) : Type 0 where
  made : List Call
  told : new ≡ Some (before ++ made)
  spares : (name : List ℕ) → NoneNamed name bs → AllSpare name made
  goes : (s t : Held) → MayLead made s t → AllGo bs ds s t

sweep_goes : (writing : Writing) (n : ℕ) (bs ds : List OpenState) (old new : live.Course) (before : List Call) → AreApart bs → AreWritable bs → old.calls ≡ Some before
    → Sweeps writing n bs ds old new → AllCourse before new.calls bs ds
sweep_goes writing n [] [] old new before apart writable is s = record {
  made = [];
  told = ap (λ (c : live.Course). c.calls) s ∙ is ∙ ap Some (sym (append-nil before));
  spares = λ name other. tt;
  goes = λ s t leads. tt;
}
sweep_goes writing n [] (d ∷ ds) old new before apart writable is s = absurd s
sweep_goes writing n (b ∷ bs) [] old new before apart writable is s = absurd s
sweep_goes writing n (b ∷ bs) (d ∷ ds) old new before (other, apart) (here, writable) is (mid, turn, rest) =
    let one : Course [] before mid.calls b d = turn_goes (is_due writing n b) writing n b d old mid before refl is turn in
    let name : d.buffer.name ≡ b.buffer.name = ap (λ (x : State). x.name) (kept_turn (is_due writing n b) writing n b d old mid turn).buffer in
    let more : AllCourse (before ++ one.made) new.calls bs ds = sweep_goes writing (n + 1) bs ds mid new (before ++ one.made) apart writable one.told rest in
    record {
      made = one.made ++ more.made;
      told = more.told ∙ ap Some (append_assoc before one.made more.made);
      spares = λ asked h. both_spare asked one.made more.made (one.spares asked h.0) (more.spares asked h.1);
      goes = λ s t leads.
          let split = leads_split one.made more.made s t leads in
          let u = split.0 in
          let first = split.1 in
          let later = split.2 in
          let go = one.goes s u first in
          let stays : t b.buffer.name ≡ u b.buffer.name = all_spared b.buffer.name more.made u t (more.spares b.buffer.name other) later in
          let here_too : t d.buffer.name ≡ u d.buffer.name = subst (λ (x : List ℕ). t x ≡ u x) (sym name) stays in
          ((go.0, go.1, longer go.0 b d s u t go.2 here_too), all_earlier b d before mid.calls one bs ds s u t first other writable (more.goes u t later));
    }

-- ---- open buffers

abbrev HaveOwn : List OpenState → Type 0
HaveOwn bs = (i j : ℕ) → i < length bs → j < length bs → (get_or bs i no_buffer).buffer.name ≡ (get_or bs j no_buffer).buffer.name → i ≡ j

none_named : (name : List ℕ) (bs : List OpenState) → ((j : ℕ) → j < length bs → (get_or bs j no_buffer).buffer.name ≢ name) → NoneNamed name bs
none_named name [] other = tt
none_named name (b ∷ bs) other = (other zero (omega arith), none_named name bs (λ j lt. other (suc j) (omega (arith, lt))))

are_apart : (bs : List OpenState) → HaveOwn bs → AreApart bs
are_apart [] own = tt
are_apart (b ∷ bs) own = (
  none_named b.buffer.name bs (λ j lt e. absurd (omega (arith, own (suc j) zero (omega (arith, lt)) (omega arith) e))),
  are_apart bs (λ i j li lj e. omega (arith, own (suc i) (suc j) (omega (arith, li)) (omega (arith, lj)) e)),
)

are_writable : (bs : List OpenState) → ((b : OpenState) → Contains bs b → IsWritableWhole b.buffer.content) → AreWritable bs
are_writable [] each = tt
are_writable (b ∷ bs) each = (each b (zero, omega arith, refl), are_writable bs (λ c h. each c (suc h.0, omega (arith, h.1), h.2)))

goes_on : (bs ds : List OpenState) (s t : Held) → AllGo bs ds s t → (k : ℕ) (d : OpenState) → k < length ds → get_or ds k d ≡ d
    → (b : OpenState) × Contains bs b × ((steps : List BufferStep) × TakesOnly [] steps × MayGo steps b s d t)
goes_on [] [] s t go k d lt is = absurd (omega (arith, lt))
goes_on [] (x ∷ ds) s t go k d lt is = absurd go
goes_on (b ∷ bs) [] s t go k d lt is = absurd go
goes_on (b ∷ bs) (x ∷ ds) s t (go, gos) zero d lt is = (b, (zero, omega arith, refl), (go.0, go.1, subst (λ (y : OpenState). MayGo go.0 b s y t) is go.2))
goes_on (b ∷ bs) (x ∷ ds) s t (go, gos) (suc k) d lt is =
    let rest = goes_on bs ds s t gos k d (omega (arith, lt)) is in
    (rest.0, (suc rest.1.0, omega (arith, rest.1.1), rest.1.2), rest.2)

pub swept_goes : (writing : Writing) (before made : List Call) (bs : Buffers) (ds : List OpenState) (old new : live.Course) (s t : Held) → AreOpen bs → HaveOwnNames bs
    → old.calls ≡ Some before → new.calls ≡ Some (before ++ made) → Sweeps writing 0 bs.all ds old new → MayLead made s t → (d : OpenState) → Contains ds d → GoesOn [] bs s d t
swept_goes writing before made bs ds old new s t open_now own is told sweep leads d c =
    let course : AllCourse before new.calls bs.all ds = sweep_goes writing 0 bs.all ds old new before (are_apart bs.all own) (are_writable bs.all open_now.writable) is sweep in
    let same : made ≡ course.made = append_cancel_left before made course.made (same_Some (before ++ made) (before ++ course.made) (sym told ∙ course.told)) in
    let led : MayLead course.made s t = subst (λ l. MayLead l s t) same leads in
    let going = goes_on bs.all ds s t (course.goes s t led) c.0 d c.1 c.2 in
    record { b = going.0; was = going.1; steps = going.2.0; takes = going.2.1; goes = going.2.2 }

-- no two have one name afterwards, if before no two had
pub own_names_stay : (writing : Writing) (bs : Buffers) (ds : List OpenState) (old new : live.Course) → HaveOwnNames bs → Sweeps writing 0 bs.all ds old new
    → HaveOwnNames (record bs { all = ds })
own_names_stay writing bs ds old new own sweep i j li lj e = own i j (before i li) (before j lj) (sym (named i li) ∙ e ∙ named j lj)
  where
    before : (k : ℕ) → k < length ds → k < length bs.all
    before k lt = subst (λ n. k < n) (same_count writing 0 bs.all ds old new sweep) lt

    named : (k : ℕ) → k < length ds → (get_or ds k no_buffer).buffer.name ≡ (get_or bs.all k no_buffer).buffer.name
    named k lt =
        ap (λ (b : State). b.name)
        (kept writing bs.all ds old new k (get_or bs.all k no_buffer) (get_or ds k no_buffer) sweep (slice_get-get_or bs.all k no_buffer (before k lt)) (slice_get-get_or ds k no_buffer lt)).buffer
