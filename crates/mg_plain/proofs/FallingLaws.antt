-- Splices that fall, and places carried over them.
use Rattle.std.proofs.Common.{Bool, List, [], arith, drop, filter, length, length-append, length-drop, length-take-le, map, refl, reverse, subst, sym, take, true, ℕ, ◌&&◌, ◌++◌, ◌+◌, ◌-◌, ◌∷◌, ◌≡◌, ◌≤◌}
use Rattle.std.specs.Option.{ForSome}
use Rattle.std.proofs.lemmas.Bool.{le-leb}
use Rattle.std.proofs.lemmas.List.{reverse-append}
use Rattle.std.proofs.lemmas.Bool.Decides.{nat_tests}
use Rattle.rga_ops.specs.Splice.{Splice, are_falling, text_after}
use Rattle.mg_plain.specs.Effect.{Effect, carried_place, edit_effect, motion, one_splice, place_after}
use Rattle.mg_plain.specs.Replacement.{last_end, replacement}
use Rattle.mg_plain.specs.Situation.{IsView, Situation}
use Rattle.mg_plain.specs.Spans.{AreRisingSpans, Span}

-- splices that fall and keep apart, in parts
abbrev pub AreFalling : ℕ → List Splice → Type 0
AreFalling bound [] = Unit {0}
AreFalling bound (s ∷ splices) = (s.lo ≤ s.hi) × (s.hi ≤ bound) × AreFalling s.lo splices

pub falls : (bound : ℕ) (splices : List Splice) → AreFalling bound splices → are_falling bound splices ≡ true
falls bound [] f = refl
falls bound (s ∷ splices) f = λ j. (le-leb s.lo s.hi f.0 j && le-leb s.hi bound f.1 j) && falls s.lo splices f.2 j

-- what `IsWithin` says, with the splices in parts
pub record IsInside (s : Situation) (e : Effect) : Type 0 where
  pub falling : AreFalling (length s.text) e.splices
  pub point : e.point ≤ length (text_after s.text e.splices)
  pub mark : ForSome e.mark (λ m. m ≤ length (text_after s.text e.splices))

pub weaken : (a b : ℕ) (cs : List Splice) → a ≤ b → AreFalling a cs → AreFalling b cs
weaken a b [] up f = tt
weaken a b (c ∷ cs) up f = (f.0, omega (arith, up, f.1), f.2)

pub length_made : (text : List ℕ) (c : Splice) → c.lo ≤ c.hi → c.hi ≤ length text → length (take c.lo text ++ c.put ++ drop c.hi text) ≡ c.lo + length c.put + (length text - c.hi)
length_made text c up within =
    grind (arith, length-take-le c.lo text, length-append (take c.lo text ++ c.put) (drop c.hi text), length-append (take c.lo text) c.put, length-drop c.hi text)

-- a place of the text goes to a place of the new one
carried_place-within : (c : Splice) (q n : ℕ) → c.lo ≤ c.hi → c.hi ≤ n → q ≤ n → carried_place c q ≤ c.lo + length c.put + (n - c.hi)
carried_place-within c q n up within place = grind (arith, nat_tests)

pub place_after-within : (text : List ℕ) (cs : List Splice) (q : ℕ) → AreFalling (length text) cs → q ≤ length text → place_after cs q ≤ length (text_after text cs)
place_after-within text [] q f place = place
place_after-within text (c ∷ cs) q f place =
    let long = length_made text c f.0 f.1 in
    let here = carried_place-within c q (length text) f.0 f.1 place in
    let text' : List ℕ = take c.lo text ++ c.put ++ drop c.hi text in
    place_after-within text' cs (carried_place c q) (weaken c.lo (length text') cs (omega (arith, long)) f.2) (omega (arith, long, here))

-- an edit stays within the text
pub edit-within : (s : Situation) (cs : List Splice) → IsView s → AreFalling (length s.text) cs → IsInside s (edit_effect s cs)
edit-within s cs seen f = grind (arith, place_after-within)

pub motion-within : (s : Situation) (q : ℕ) → IsView s → q ≤ length s.text → IsInside s (motion s q)
motion-within s q seen place = record { falling = tt; point = place; mark = seen.mark }

pub one_splice-falling : (lo hi n : ℕ) (put : List ℕ) → lo ≤ hi → hi ≤ n → AreFalling n (one_splice lo hi put)
one_splice-falling lo hi n put up within = grind arith

-- splices that rise from one place to another, and their reverse
abbrev pub RiseBetween : ℕ → ℕ → List Splice → Type 0
RiseBetween from to [] = Unit {0}
RiseBetween from to (c ∷ cs) = (from ≤ c.lo) × (c.lo ≤ c.hi) × (c.hi ≤ to) × RiseBetween c.hi to cs

abbrev pub FallBetween : ℕ → ℕ → List Splice → Type 0
FallBetween bound to [] = to ≤ bound
FallBetween bound to (c ∷ cs) = (c.lo ≤ c.hi) × (c.hi ≤ bound) × FallBetween c.lo to cs

falling_to : (bound to : ℕ) (cs : List Splice) → FallBetween bound to cs → AreFalling bound cs
falling_to bound to [] f = tt
falling_to bound to (c ∷ cs) f = (f.0, f.1, falling_to c.lo to cs f.2)

lower : (bound to less : ℕ) (cs : List Splice) → less ≤ to → FallBetween bound to cs → FallBetween bound less cs
lower bound to less [] h f = omega (arith, h, f)
lower bound to less (c ∷ cs) h f = (f.0, f.1, lower c.lo to less cs h f.2)

one_more : (bound to : ℕ) (cs : List Splice) (c : Splice) → FallBetween bound to cs → c.lo ≤ c.hi → c.hi ≤ to → FallBetween bound c.lo (cs ++ c ∷ [])
one_more bound to [] c f up within = (up, omega (arith, f, within), omega arith)
one_more bound to (d ∷ cs) c f up within = (f.0, f.1, one_more d.lo to cs c f.2 up within)

reversed : (from to : ℕ) (cs : List Splice) → from ≤ to → RiseBetween from to cs → FallBetween to from (reverse cs)
reversed from to [] up r = up
reversed from to (c ∷ cs) up r =
    let rest = reversed c.hi to cs r.2 r.3 in
    subst (FallBetween to from) (sym (reverse-append (c ∷ []) cs)) (lower to c.lo from (reverse cs ++ c ∷ []) r.0 (one_more to c.hi (reverse cs) c rest r.1 (omega arith)))

pub reverse-falling : (from to : ℕ) (cs : List Splice) → from ≤ to → RiseBetween from to cs → AreFalling to (reverse cs)
reverse-falling from to cs up r = falling_to to from (reverse cs) (reversed from to cs up r)

pub raise : (from less to : ℕ) (cs : List Splice) → less ≤ from → RiseBetween from to cs → RiseBetween less to cs
raise from less to [] h r = tt
raise from less to (c ∷ cs) h r = (omega (arith, h, r.0), r.1, r.2, r.3)

pub filter-rising : (p : Splice → Bool) (from to : ℕ) (cs : List Splice) → RiseBetween from to cs → RiseBetween from to (filter p cs)
filter-rising p from to [] r = tt
filter-rising p from to (c ∷ cs) r = grind (arith, raise, filter-rising p c.hi to cs r.3)

pub replacement-rising : (put : List ℕ) (from to : ℕ) (ms : List Span) → AreRisingSpans from to ms → RiseBetween from to (map (replacement put) ms)
replacement-rising put from to [] r = tt
replacement-rising put from to (m ∷ ms) r = (r.0, r.1, r.2, replacement-rising put m.hi to ms r.3)

pub last_end-within : (from to : ℕ) (ms : List Span) → from ≤ to → AreRisingSpans from to ms → last_end from ms ≤ to
last_end-within from to [] up r = up
last_end-within from to (m ∷ ms) up r = last_end-within m.hi to ms r.2 r.3
