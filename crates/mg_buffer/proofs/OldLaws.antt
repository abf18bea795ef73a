-- Elements by their counters, and one in the place of another.
use Rattle.mg_buffer.proofs.Prelude.{◌≡◌, ℕ, ◌≤◌, Bool, true, false, List, [], ◌∷◌, ◌++◌, map, refl, arith, if◌then◌else◌, AllByRecursion, Identifier, is_id, Content, clock_of, join, greatest_counter}
use Rattle.rga_ops.proofs.ClockLaws.{clock_within, within_clock}
use Rattle.rga_ops.proofs.ContentLaws.{within_join}

-- ---- the newest of elements

pub greatest_within : (n : ℕ) (ids : List Identifier) → AllByRecursion (λ (id : Identifier). id.counter ≤ n) ids → greatest_counter ids ≤ n
greatest_within n [] all = omega arith
greatest_within n (id ∷ ids) all = omega (arith, all.0, greatest_within n ids all.1)

pub greatest_both : (n : ℕ) (xs ys : List Identifier) → greatest_counter xs ≤ n → greatest_counter ys ≤ n → greatest_counter (xs ++ ys) ≤ n
greatest_both n [] ys low below = below
greatest_both n (x ∷ xs) ys low below = omega (arith, low, greatest_both n xs ys (omega (arith, low)) below)

pub either : {A : Type 0} (P : A → Type 0) (t : Bool) (x y : A) → P x → P y → P (if t then x else y)
either P true x y p q = p
either P false x y p q = q

-- ---- one in the place of another

abbrev pub replacement : Identifier → Identifier → Identifier → Identifier
replacement old new id = if is_id old id then new else id

pub greatest_replacement : (old new : Identifier) (n : ℕ) (ids : List Identifier) → new.counter ≤ n → greatest_counter ids ≤ n → greatest_counter (map (replacement old new) ids) ≤ n
greatest_replacement old new n [] low below = below
greatest_replacement old new n (id ∷ ids) low below =
    omega (arith, either (λ (x : Identifier). x.counter ≤ n) (is_id old id) new id low (omega (arith, below)), greatest_replacement old new n ids low (omega (arith, below)))

-- ---- maps

pub map-map : {A B C : Type 0} (f : B → C) (g : A → B) (xs : List A) → map f (map g xs) ≡ map (λ x. f (g x)) xs
map-map f g [] = refl
map-map f g (x ∷ xs) = λ k. f (g x) ∷ map-map f g xs k

-- ---- the clock goes on

pub clock_goes_on : (c d : Content) → clock_of c ≤ clock_of (join c d)
clock_goes_on c d =
    let w = within_clock (join c d) in
    let inside = within_join c d in
    clock_within c (clock_of (join c d)) (record {
      own = λ id x h. w.own id x (inside.inserted id x h);
      parents = λ id x h. w.parents id x (inside.inserted id x h);
      deleted = λ id h. w.deleted id (inside.deleted id h);
    })
