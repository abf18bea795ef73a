-- What is written as keys and reports is read as these.
use Rattle.std.proofs.Common.{◌≡◌, ◌≢◌, ℕ, suc, ◌+◌, ◌<◌, ◌≤◌, Bool, true, false, List, [], ◌∷◌, ◌++◌, length, refl, sym, ap, ◌∙◌, subst, arith, append_assoc, append-nil, length-append, nat_lt, if◌then◌else◌, ne_eqb, lt-ltb}
use Rattle.std.proofs.lemmas.Bool.{ltb-true}
use Rattle.std.specs.Prelude.{◌==◌}
use Rattle.rga_lines.specs.declared.fault.LineFault.{LineFault}
use Rattle.rga_lines.specs.declared.fault.LineFault.TheVariants as fault
use Rattle.mg_events.specs.declared.reader.Phase.TheVariants.{Keys, Report}
use Rattle.mg_events.specs.declared.reader.Event.TheVariants.{Key, Line, Refused, Nothing}
use Rattle.mg_events.specs.Reading.{Reading, Read, reading, reads, fresh, dropping, Told, key, report, refused, told, events, after, is_in_report}
use Rattle.mg_events.specs.Written.{written, keys, stream, AreKeys, IsOneLine, ArePieces}

-- ---- the line of the last report changes nothing

abbrev key_read : Bool → List ℕ → ℕ → Read
key_read x l b = if x then reads (reading Report []) Nothing else reads (reading Keys l) (Key b)

pub any_last_line : (l bs : List ℕ) → events (reading Keys l) bs ≡ events fresh bs
any_last_line l [] = refl
any_last_line l (b ∷ bs) = by (any_last_line l bs) (b == 255)
  where
    by : events (reading Keys l) bs ≡ events fresh bs → (x : Bool)
        → told (key_read x l b) ++ events (key_read x l b).left bs ≡ told (key_read x [] b) ++ events (key_read x [] b).left bs
    by same true = refl
    by same false = ap (λ ts. key b ∷ ts) same

-- ---- keys

pub keys_read : (bytes rest : List ℕ) → AreKeys bytes → events fresh (bytes ++ rest) ≡ keys bytes ++ events fresh rest
keys_read [] rest h = refl
keys_read (b ∷ bs) rest h =
    let f : Bool → List Told = λ x. told (key_read x [] b) ++ events (key_read x [] b).left (bs ++ rest) in
    let first : events fresh (b ∷ (bs ++ rest)) ≡ f false = ap f (ne_eqb b 255 h.0) in
    let second : f false ≡ key b ∷ events fresh (bs ++ rest) = refl in
    first ∙ (second ∙ ap (λ ts. key b ∷ ts) (keys_read bs rest h.1))

-- ---- what is dropped

abbrev dropped_read : Bool → LineFault → Read
dropped_read x f = if x then reads (reading Keys []) (Refused f) else reads (dropping f) Nothing

pub dropped_read_to_end : (f : LineFault) (line rest : List ℕ) → IsOneLine line
    → events (dropping f) (line ++ 10 ∷ rest) ≡ refused f ∷ events fresh rest
dropped_read_to_end f [] rest h = refl
dropped_read_to_end f (b ∷ bs) rest h =
    let g : Bool → List Told = λ x. told (dropped_read x f) ++ events (dropped_read x f).left (bs ++ 10 ∷ rest) in
    let first : events (dropping f) (b ∷ (bs ++ 10 ∷ rest)) ≡ g false = ap g (ne_eqb b 10 h.0) in
    first ∙ dropped_read_to_end f bs rest h.1

-- ---- a report

abbrev line_read : Bool → Bool → List ℕ → ℕ → Read
line_read x y done b =
    if x then reads (reading Keys done) Line
    else (if y then reads (reading Report (done ++ b ∷ [])) Nothing else reads (dropping fault.Long) Nothing)

-- what is led to by a byte of a line that is not its end, by whether there is room
abbrev by_room : Bool → List ℕ → ℕ → List ℕ → List Told
by_room y done b bs = told (line_read false y done b) ++ events (line_read false y done b).left bs

goes_on : (done : List ℕ) (b : ℕ) (bs : List ℕ) → b ≢ 10 → events (reading Report done) (b ∷ bs) ≡ by_room (nat_lt (length done) 65536) done b bs
goes_on done b bs h =
    let y : Bool = nat_lt (length done) 65536 in
    let f : Bool → List Told = λ x. told (line_read x y done b) ++ events (line_read x y done b).left bs in
    ap f (ne_eqb b 10 h)

-- arithmetic
has_room : (n k m : ℕ) → n + suc k ≤ m → n < m
has_room n k m h = omega (arith, h)

one_longer : (done : List ℕ) (b k m : ℕ) → length done + suc k ≤ m → length (done ++ b ∷ []) + k ≤ m
one_longer done b k m h = omega (arith, h, length-append done (b ∷ []))

still_long : (done : List ℕ) (b k m : ℕ) → m < length done + suc k → m < length (done ++ b ∷ []) + k
still_long done b k m h = omega (arith, h, length-append done (b ∷ []))

still_fits : (done : List ℕ) (b m : ℕ) → length done < m → length (done ++ b ∷ []) ≤ m
still_fits done b m h = omega (arith, h, length-append done (b ∷ []))

is_too_much : (n m : ℕ) → n ≤ m → m < n + 0 → ⊥
is_too_much n m h g = omega (arith, h, g)

at_first : (n m : ℕ) → n ≤ m → 0 + n ≤ m
at_first n m h = omega (arith, h)

above_first : (n m : ℕ) → m < n → m < 0 + n
above_first n m h = omega (arith, h)

at_least_none : (m : ℕ) → 0 ≤ m
at_least_none m = omega arith

line_read_to_end : (done line rest : List ℕ) → IsOneLine line → length done + length line ≤ 65536
    → events (reading Report done) (line ++ 10 ∷ rest) ≡ report (done ++ line) ∷ events fresh rest
line_read_to_end done [] rest h short =
    let ends : events (reading Report done) (10 ∷ rest) ≡ report done ∷ events (reading Keys done) rest = refl in
    ends ∙ (ap (λ l. report l ∷ events (reading Keys done) rest) (sym (append-nil done))
    ∙ ap (λ ts. report (done ++ []) ∷ ts) (any_last_line done rest))
line_read_to_end done (b ∷ bs) rest h short =
    let grows : events (reading Report done) (b ∷ (bs ++ 10 ∷ rest)) ≡ by_room true done b (bs ++ 10 ∷ rest) =
    goes_on done b (bs ++ 10 ∷ rest) h.0 ∙ ap (λ y. by_room y done b (bs ++ 10 ∷ rest)) (lt-ltb (length done) 65536 (has_room (length done) (length bs) 65536 short)) in
    grows
    ∙ (line_read_to_end (done ++ b ∷ []) bs rest h.1 (one_longer done b (length bs) 65536 short)
    ∙ ap (λ l. report l ∷ events fresh rest) (append_assoc done (b ∷ []) bs))

long_read_to_end : (done line rest : List ℕ) → IsOneLine line → length done ≤ 65536 → 65536 < length done + length line
    → events (reading Report done) (line ++ 10 ∷ rest) ≡ refused fault.Long ∷ events fresh rest
long_read_to_end done [] rest h fits long = absurd (is_too_much (length done) 65536 fits long)
long_read_to_end done (b ∷ bs) rest h fits long =
    goes_on done b (bs ++ 10 ∷ rest) h.0
    ∙ by (long_read_to_end (done ++ b ∷ []) bs rest h.1) (nat_lt (length done) 65536) refl
  where
    by : (length (done ++ b ∷ []) ≤ 65536 → 65536 < length (done ++ b ∷ []) + length bs → events (reading Report (done ++ b ∷ [])) (bs ++ 10 ∷ rest) ≡ refused fault.Long ∷ events fresh rest)
        → (y : Bool) → nat_lt (length done) 65536 ≡ y → by_room y done b (bs ++ 10 ∷ rest) ≡ refused fault.Long ∷ events fresh rest
    by later true room = later (still_fits done b 65536 (ltb-true (length done) 65536 room)) (still_long done b (length bs) 65536 long)
    by later false room = dropped_read_to_end fault.Long bs rest h.1

in_parts : (line rest : List ℕ) → (line ++ 10 ∷ []) ++ rest ≡ line ++ 10 ∷ rest
in_parts line rest = append_assoc line (10 ∷ []) rest

pub report_read : (line rest : List ℕ) → IsOneLine line → length line ≤ 65536
    → events fresh (written line ++ rest) ≡ report line ∷ events fresh rest
report_read line rest h short =
    let begins : events fresh (written line ++ rest) ≡ events (reading Report []) ((line ++ 10 ∷ []) ++ rest) = refl in
    begins ∙ (ap (events (reading Report [])) (in_parts line rest)
    ∙ line_read_to_end [] line rest h (at_first (length line) 65536 short))

pub long_refused : (line rest : List ℕ) → IsOneLine line → 65536 < length line
    → events fresh (written line ++ rest) ≡ refused fault.Long ∷ events fresh rest
long_refused line rest h long =
    let begins : events fresh (written line ++ rest) ≡ events (reading Report []) ((line ++ 10 ∷ []) ++ rest) = refl in
    begins ∙ (ap (events (reading Report [])) (in_parts line rest)
    ∙ long_read_to_end [] line rest h (at_least_none 65536) (above_first (length line) 65536 long))

-- ---- keys and reports

pub stream_read : (ts : List Told) → ArePieces ts → events fresh (stream ts) ≡ ts
stream_read [] h = refl
stream_read (key b ∷ ts) h = keys_read (b ∷ []) (stream ts) (h.0, tt) ∙ ap (λ l. key b ∷ l) (stream_read ts h.1)
stream_read (report line ∷ ts) h = report_read line (stream ts) h.0.0 h.0.1 ∙ ap (λ l. report line ∷ l) (stream_read ts h.1)
stream_read (refused f ∷ ts) h = absurd h.0

-- ---- a report that is cut off

abbrev IsCut : Reading → List ℕ → Type 0
IsCut r line = (events r line ≡ []) × (is_in_report (after r line).phase ≡ true)

-- the same behind a byte
abbrev IsCutBehind : Read → List ℕ → Type 0
IsCutBehind r line = (told r ++ events r.left line ≡ []) × (is_in_report (after r.left line).phase ≡ true)

dropped_cut : (f : LineFault) (line : List ℕ) → IsOneLine line → IsCut (dropping f) line
dropped_cut f [] h = (refl, refl)
dropped_cut f (b ∷ bs) h =
    let P : Bool → Type 0 = λ x. IsCutBehind (dropped_read x f) bs in
    subst P (sym (ne_eqb b 10 h.0)) (dropped_cut f bs h.1)

line_cut : (done line : List ℕ) → IsOneLine line → IsCut (reading Report done) line
line_cut done [] h = (refl, refl)
line_cut done (b ∷ bs) h =
    let P : Bool → Type 0 = λ x. IsCutBehind (line_read x (nat_lt (length done) 65536) done b) bs in
    subst P (sym (ne_eqb b 10 h.0)) (by (line_cut (done ++ b ∷ []) bs h.1) (nat_lt (length done) 65536))
  where
    by : IsCut (reading Report (done ++ b ∷ [])) bs → (y : Bool) → IsCutBehind (line_read false y done b) bs
    by later true = later
    by later false = dropped_cut fault.Long bs h.1

pub report_cut : (line : List ℕ) → IsOneLine line → (events fresh (255 ∷ line) ≡ []) × (is_in_report (after fresh (255 ∷ line)).phase ≡ true)
report_cut line h = line_cut [] line h
