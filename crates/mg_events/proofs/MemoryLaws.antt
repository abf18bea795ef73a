-- Where memory was refused, a report is refused for it.
use Rattle.std.proofs.Common.{◌≡◌, ◌≢◌, ℕ, Bool, true, false, List, [], ◌∷◌, ◌++◌, refl, ap, ◌∙◌, subst, inl, inr}
use Rattle.std.specs.Prelude.{◌==◌, if◌then◌else◌}
use Rattle.rga_lines.specs.Memory.{LineMemory}
use Rattle.mg_events.specs.declared.reader.Phase.TheVariants.{Keys, Report, Dropping}
use Rattle.mg_events.specs.declared.reader.Event.{Event}
use Rattle.mg_events.specs.declared.reader.Event.TheVariants.{Key, Line, Refused, Nothing}
use Rattle.mg_events.specs.Reading.{Reading, Read, reading, reads, dropping, Told, told_by, events, after, step, Grows, Leads, HasNoMemory}

-- what comes behind a byte's
none_behind : (e : Event) (next : Reading) (more : List Told) → HasNoMemory (told_by e next ++ more) → HasNoMemory more
none_behind (Key b) next more h = h.1
none_behind Line next more h = h.1
none_behind (Refused f) next more h = h.1
none_behind Nothing next more h = h

abbrev short_of_memory : Reading
short_of_memory = dropping LineMemory

-- a report that is dropped for want of memory is refused for it, or is still dropped
abbrev Shows : List ℕ → Type 0
Shows bs = (ts : List Told) (left : Reading) → Leads short_of_memory bs ts left → HasNoMemory ts → left ≢ short_of_memory → ⊥

abbrev dropped : Bool → Read
dropped x = if x then reads (reading Keys []) (Refused LineMemory) else reads short_of_memory Nothing

shows_behind : (x : Bool) (bs : List ℕ) (next left : Reading) (more ts : List Told) → Shows bs → next ≡ (dropped x).left → ts ≡ told_by (dropped x).event next ++ more
    → Leads next bs more left → HasNoMemory ts → left ≢ short_of_memory → ⊥
shows_behind true bs next left more ts later is e leads none other =
    let P : List Told → Type 0 = HasNoMemory in
    let all : HasNoMemory (told_by (Refused LineMemory) next ++ more) = subst P e none in
    all.0 refl
shows_behind false bs next left more ts later is e leads none other =
    let P : List Told → Type 0 = HasNoMemory in
    let Q : Reading → Type 0 = λ r. Leads r bs more left in
    later more left (subst Q is leads) (subst P e none) other

no_growth : (b : ℕ) → Grows short_of_memory b → ⊥
no_growth b g = let e : Dropping LineMemory ≡ Report = g.0 in cc

shows : (bs : List ℕ) → Shows bs
shows [] ts left leads none other = other leads.1
shows (b ∷ bs) ts left (next, more, leaves, e, leads) none other =
    elim leaves [
      | inl same ↦ shows_behind (b == 10) bs next left more ts (shows bs) same e leads none other
      | inr grown ↦ no_growth b grown.0
    ]

pub is_exact : (r left : Reading) (bytes : List ℕ) (ts : List Told) → Leads r bytes ts left → HasNoMemory ts → left ≢ short_of_memory
    → (ts ≡ events r bytes) × (left ≡ after r bytes)
is_exact r left [] ts leads none other = leads
is_exact r left (b ∷ bs) ts (next, more, leaves, e, leads) none other =
    let P : List Told → Type 0 = HasNoMemory in
    let none_more : HasNoMemory more = none_behind (step r b).event next more (subst P e none) in
    elim leaves [
      | inl same ↦
          let rest = is_exact next left bs more leads none_more other in
          let told_same : told_by (step r b).event next ++ more ≡ told_by (step r b).event (step r b).left ++ events (step r b).left bs =
          ap (λ ts. told_by (step r b).event next ++ ts) rest.0 ∙ ap (λ n. told_by (step r b).event n ++ events n bs) same in
          (e ∙ told_same, rest.1 ∙ ap (λ n. after n bs) same)
      | inr grown ↦
          let Q : Reading → Type 0 = λ n. Leads n bs more left in
          absurd (shows bs more left (subst Q grown.1 leads) none_more other)
    ]
