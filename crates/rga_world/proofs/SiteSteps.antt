-- A site that changes, in the list of sites, and what calls of a world come to.
use Rattle.std.proofs.Common.{◌≡◌, ℕ, zero, suc, ◌+◌, ◌<◌, ◌⊎◌, true, false, List, [], ◌∷◌, ◌++◌, length, map, get_or, replicate, length-append, Some, slice_get, slice_set, refl, sym, ap, ◌∙◌, subst, inl, inr, arith, take}
use Rattle.std.specs.Prelude.{Result, Ok, Err, OnOk}
use Rattle.std.proofs.lemmas.List.{map-set, map-append}
use Rattle.std.proofs.lemmas.Option.{slice_get-get_or, slice_get_within, same_Some, none-some}
use Rattle.rga_ops.specs.declared.refusal.Refusal.{Refusal}
use Rattle.rga_ops.specs.declared.refusal.Refusal.TheVariants.{Range, Conflict}
use Rattle.rga_ops.specs.Prelude.{Memory}
use Rattle.rga_store.specs.Limit.{is_limit}
use Rattle.rga_ops.specs.Content.{nothing}
use Rattle.rga_world.specs.Sites.{Site, site, World, world}
use Rattle.rga_world.specs.SiteStates.{SiteState, new_site, AreSites}
use Rattle.rga_world.specs.Steps.{Outcome, outcome_then, changed, own_site, replica_of, stepped, ran, kept}
use Rattle.rga_world.specs.Outcomes.{Happens, HasRoomAlone, MayWantMemory}
use Rattle.rga_world.specs.declared.event.Event.{Event}
use Rattle.rga_world.specs.declared.event.Event.TheVariants.{Edit, Revert, Save, SaveOne, Deliver, DeliverList, Restart}
use Rattle.rga_world.specs.declared.refusal.WorldRefusal.{WorldRefusal}
use Rattle.rga_world.specs.declared.refusal.WorldRefusal.TheVariants.{Store}
use Rattle.rga_world.proofs.ListPlaces.{set_new, place_mapped}
use Rattle.rga_world.proofs.StepLaws.{ok-err, same_Ok, err-ok, same_Err}
use Rattle.rga_ops.specs.Identifier.{Identifier}
use Rattle.rga_world.specs.Together.{PutsCharacters, IsReached}
use Rattle.rga_world.proofs.RunLaws.{reached_on, reached_consistent, step_no_conflict}

-- ---- a site that changes, in the list of sites

abbrev pub sites_of : List SiteState → List Site
sites_of xs = map (λ s. s.site) xs

pub set_same : {A : Type 0} (xs : List A) (i : ℕ) (x : A) → slice_get xs i ≡ Some x → slice_set xs i x ≡ xs
set_same [] i x h = refl
set_same (y ∷ xs) zero x h = ap (λ z. z ∷ xs) (sym (same_Some y x h))
set_same (y ∷ xs) (suc i) x h = ap (λ ys. y ∷ ys) (set_same xs i x h)

-- the site of a number, of which it is known what becomes of it
pub happens_at : (xs : List SiteState) (limit number : ℕ) (x y : SiteState) (change : Site → Outcome Site) (r : Result (Unit {0}) WorldRefusal)
    → number < length xs → x ≡ get_or xs number x → Happens r x.site y.site (change x.site) → y ≡ record x { site = y.site }
    → Happens r (world (sites_of xs) limit) (world (sites_of (slice_set xs number y)) limit) (changed (world (sites_of xs) limit) number change)
happens_at xs limit number x y change r inside is happens rest = grind (arith, slice_get-get_or, place_mapped, map-set, set_same)

-- the replicas and the limits stay
pub still_sites : (xs : List SiteState) (limit number : ℕ) (x y : SiteState) → AreSites limit xs → number < length xs → x ≡ get_or xs number x → y ≡ record x { site = y.site } → AreSites limit (slice_set xs number y)
still_sites xs limit number x y are inside is rest i s at = grind (arith, set_new, slice_get-get_or)

-- the same, by what a site knows of its own replica and limit
pub happens_in : (xs : List SiteState) (limit number : ℕ) (x y : SiteState) (change : ℕ → ℕ → Site → Outcome Site) (r : Result (Unit {0}) WorldRefusal) (w : World)
    → AreSites limit xs → number < length xs → x ≡ get_or xs number x → Happens r x.site y.site (change x.limit x.replica x.site) → y ≡ record x { site = y.site } → world (sites_of xs) limit ≡ w
    → Happens r w (world (sites_of (slice_set xs number y)) limit) (changed w number (change w.limit (replica_of number)))
happens_in xs limit number x y change r w are inside is happens rest view = grind (arith, slice_get-get_or, happens_at)

-- an event of one site alone, which has room, may want memory
wants_alone : (w : World) (number : ℕ) (s : Site) (event : Event) → own_site event ≡ Some number → slice_get w.sites number ≡ Some s → HasRoomAlone w.limit s.content event → MayWantMemory w event
wants_alone w number s (Edit at lo hi put) own there room = ((s, ap (slice_get w.sites) (same_Some at number own) ∙ there, room.0), room.1)
wants_alone w number s (Revert at gone back) own there room = (s, ap (slice_get w.sites) (same_Some at number own) ∙ there, room)
wants_alone w number s (Save at) own there room = slice_get_within w.sites at s (ap (slice_get w.sites) (same_Some at number own) ∙ there)
wants_alone w number s (SaveOne at place) own there room = slice_get_within w.sites at s (ap (slice_get w.sites) (same_Some at number own) ∙ there)
wants_alone w number s (Restart at) own there room = slice_get_within w.sites at s (ap (slice_get w.sites) (same_Some at number own) ∙ there)
wants_alone w number s (Deliver taker giver place) own there room = absurd (none-some number own)
wants_alone w number s (DeliverList taker giver lo hi) own there room = absurd (none-some number own)

-- the same, by what a site knows of its own limit
pub room_in : (xs : List SiteState) (limit number : ℕ) (x : SiteState) (w : World) (event : Event)
    → AreSites limit xs → number < length xs → x ≡ get_or xs number x → own_site event ≡ Some number → HasRoomAlone x.limit x.site.content event → world (sites_of xs) limit ≡ w → MayWantMemory w event
room_in xs limit number x w event are inside is own room view =
    let there : slice_get xs number ≡ Some x = slice_get-get_or xs number x inside ∙ ap Some (sym is) in
    subst (λ (v : World). MayWantMemory v event) view
    (wants_alone (world (sites_of xs) limit) number x.site event own (place_mapped (λ (s : SiteState). s.site) xs number x there) (subst (λ n. HasRoomAlone n x.site.content event) ((are number x there).1) room))

-- ---- new sites

replicate-more : {A : Type 0} (n : ℕ) (x : A) → replicate (suc n) x ≡ replicate n x ++ x ∷ []
replicate-more zero x = refl
replicate-more (suc n) x = ap (λ ys. x ∷ ys) (replicate-more n x)

pub record AreNew (limit number : ℕ) (xs : List SiteState) : Type 0 where
  pub counted : length xs ≡ number
  pub numbered : AreSites limit xs
  pub empty : sites_of xs ≡ replicate number (site nothing nothing)

push_place : {A : Type 0} (xs : List A) (x y : A) (i : ℕ) → slice_get (xs ++ x ∷ []) i ≡ Some y → ((i ≡ length xs) × (y ≡ x)) ⊎ (slice_get xs i ≡ Some y)
push_place [] x y zero h = inl (refl, sym (same_Some x y h))
push_place [] x y (suc i) h = absurd (none-some y h)
push_place (z ∷ xs) x y zero h = inr h
push_place (z ∷ xs) x y (suc i) h = grind (arith, push_place xs x y i h)

one_more_new : (limit number : ℕ) (xs : List SiteState) (x : SiteState) → AreNew limit number xs → x ≡ new_site (number + 1) limit → AreNew limit (number + 1) (xs ++ x ∷ [])
one_more_new limit number xs x h is = grind (arith, length-append, push_place, map-append, replicate-more)

pub pushed_new : (limit number : ℕ) (xs ys : List SiteState) (x : SiteState) → AreNew limit number xs → ys ≡ xs ++ x ∷ [] → x ≡ new_site (number + 1) limit → AreNew limit (number + 1) ys
pushed_new limit number xs ys x h pushed is = subst (AreNew limit (number + 1)) (sym pushed) (one_more_new limit number xs x h is)

-- what was made has a limit that stores have
pub limit_of_made : {A : Type 0} (limit : ℕ) (x : A) → (is_limit limit ≡ false → ◌≡◌ {A = Result A Refusal} (Ok x) (Err Range)) → is_limit limit ≡ true
limit_of_made limit x h = grind arith

-- ---- what calls of a world come to

pub step_reached : (r : Result (Unit {0}) WorldRefusal) (w v : World) (event : Event) → IsReached w → PutsCharacters event → Happens r w v (stepped w event) → IsReached v
step_reached (Ok u) w v event reached characters h = subst IsReached (ap (kept w) h) (reached_on w (event ∷ []) reached (characters, tt))
step_reached (Err e) w v event reached characters h = subst IsReached (sym h.0) reached

memory-conflict : (id : Identifier) → Store Memory ≡ Store (Conflict id) → ⊥
memory-conflict id h = grind arith

pub step_conflict : (r : Result (Unit {0}) WorldRefusal) (w v : World) (event : Event) (id : Identifier) → IsReached w → Happens r w v (stepped w event) → r ≡ Err (Store (Conflict id)) → ⊥
step_conflict r w v event id reached h is = grind (arith, ok-err, memory-conflict, same_Err, step_no_conflict, reached_consistent)

-- one event more
ran-push : (w v : World) (events : List Event) (event : Event) → ran w events ≡ Ok v → ran w (events ++ event ∷ []) ≡ outcome_then (stepped v event) (λ x. Ok x)
ran-push w v [] event h = ap (λ x. outcome_then (stepped x event) (λ y. Ok y)) (same_Ok w v h)
ran-push w v (e ∷ events) event h = by (stepped w e) h (λ x k. ran-push x v events event k)
  where
    by : (r : Result World WorldRefusal) → outcome_then r (λ x. ran x events) ≡ Ok v → ((x : World) → ran x events ≡ Ok v → ran x (events ++ event ∷ []) ≡ outcome_then (stepped v event) (λ y. Ok y)) → outcome_then r (λ x. ran x (events ++ event ∷ [])) ≡ outcome_then (stepped v event) (λ y. Ok y)
    by (Ok x) h rest = rest x h
    by (Err f) h rest = absurd (err-ok f v h)

take-next : (events : List Event) (i : ℕ) (e : Event) → i < length events → e ≡ get_or events i e → take (suc i) events ≡ take i events ++ e ∷ []
take-next [] i e inside is = absurd (omega (arith, inside))
take-next (x ∷ events) zero e inside is = ap (λ y. y ∷ []) (sym is)
take-next (x ∷ events) (suc i) e inside is = ap (λ ys. x ∷ ys) (take-next events i e (omega (arith, inside)) is)

pub ran_on : (w v u : World) (events : List Event) (i : ℕ) (e : Event) → i < length events → e ≡ get_or events i e → ran w (take i events) ≡ Ok v → stepped v e ≡ Ok u → ran w (take (i + 1) events) ≡ Ok u
ran_on w v u events i e inside is h step =
    ap (λ n. ran w (take n events)) (next i) ∙ ap (ran w) (take-next events i e inside is) ∙ ran-push w v (take i events) e h ∙ ap (λ r. outcome_then r (λ y. Ok y)) step
  where
    next : (i : ℕ) → i + 1 ≡ suc i
    next i = omega arith

-- what is said of an outcome that is no refusal
pub said_of_ok : (r : Result (Unit {0}) WorldRefusal) {P : Type 0} → OnOk r P → ((e : WorldRefusal) → r ≡ Err e → ⊥) → P
said_of_ok r h never = grind arith
