-- What saves, restarts and exchanges of the program are in a world.
use Rattle.std.proofs.Common.{◌≡◌, ℕ, zero, suc, ◌+◌, ◌≤◌, List, [], ◌∷◌, ◌++◌, length, Some, slice_get, slice_set, refl, sym, ap, ◌∙◌, subst, inl, inr, arith}
use Rattle.std.specs.Prelude.{◌↔◌, ◌⊎◌, Result, Ok, Err, Contains}
use Rattle.std.specs.FinSet as finite_set
use Rattle.std.proofs.Math.Seq.{take-length}
use Rattle.std.proofs.lemmas.Option.{same_Some}
use Rattle.rga_ops.specs.Content.{Content, Agree, Holds, IsAgreed, IsWithin, nothing, join, single, content_of, known_ids, known_count}
use Rattle.rga_ops.specs.Operation.{checked}
use Rattle.rga_ops.specs.Answer.{after_answer, taken, and_take, taken_one_by_one}
use Rattle.rga_ops.specs.ListAnswer.{IsJoinable, list_answer}
use Rattle.rga_ops.specs.Operations.{operations}
use Rattle.rga_ops.specs.declared.op.Op.{Op}
use Rattle.rga_ops.specs.declared.op.Op.TheVariants.{Insert, Delete}
use Rattle.rga_ops.specs.declared.refusal.Refusal.{Refusal}
use Rattle.rga_ops.proofs.AgreeLaws.{agree_nothing, agree_swap, agree_within, held_agree, joinable_nothing, joinable-iff}
use Rattle.rga_ops.proofs.ContentLaws.{join_nothing, nothing_join, join_least, within_itself, within_both, within_join, within_join_second}
use Rattle.rga_ops.proofs.ListAnswerLaws.{list_taken-iff, list_one_by_one}
use Rattle.rga_ops.proofs.OperationLaws.{inserted-iff, deleted-iff}
use Rattle.rga_ops.proofs.KnownLaws.{known_join, len-le_union}
use Rattle.rga_ops.proofs.TakenLaws.{taken_is}
use Rattle.rga_ops.proofs.OperationsLaws.{operations_hold, content_of-operations}
use Rattle.rga_lines.specs.Spelling.{IsWritable}
use Rattle.rga_lines.specs.Stream.{rest_of}
use Rattle.rga_exchange.specs.Sending.{StandsFor, log_text}
use Rattle.rga_exchange.specs.Log.{log_outcome}
use Rattle.rga_exchange.specs.declared.log.LogRead.{LogRead}
use Rattle.rga_exchange.proofs.AppendedLaws.{stands_appended}
use Rattle.rga_exchange.proofs.LogLaws.{log_that_stands}
use Rattle.rga_world.specs.Sites.{Site, site, World}
use Rattle.rga_world.specs.Steps.{stepped, ran, outcome_then, of_store, saved_list, saved_one, list_delivered, given, with_content, with_saved}
use Rattle.rga_world.specs.Program.{deliveries}
use Rattle.rga_world.specs.Together.{IsReached}
use Rattle.rga_world.specs.Words.{with_site}
use Rattle.rga_world.specs.declared.event.Event.TheVariants.{Save, SaveOne, Deliver, DeliverList, Restart}
use Rattle.rga_world.specs.declared.refusal.WorldRefusal.TheVariants.{Store}
use Rattle.rga_world.proofs.ListPlaces.{contains_place, set_here, set_old}
use Rattle.rga_world.proofs.SiteSteps.{set_same}
use Rattle.rga_world.proofs.StepLaws.{same_Ok, place_held, single_within, ok-err, err-ok}
use Rattle.rga_world.proofs.WordLaws.{changed_to, gives, list_found, saved-iff, saves, store-iff, restarted-iff}
use Rattle.rga_world.proofs.RunLaws.{reached_consistent, saved_joinable}
use Rattle.rga_world.proofs.StoredLaws.{reached_storable, held_listed}

-- ---- a save and a restart

-- the site of the number is what was put there
left_at : (w v : World) (number : ℕ) (x y t : Site) → slice_get w.sites number ≡ Some x → v ≡ with_site w number y → slice_get v.sites number ≡ Some t → t ≡ y
left_at w v number x y t at is there = same_Some t y (sym there ∙ ap (λ (u : World). slice_get u.sites number) is ∙ set_here w.sites number x y at)

-- a content that holds what another holds, and a list of operations, is the join of both
module _ (c saved : Content) (ops : List Op) (within : IsWithin saved c) (holds : (op : Op) → Holds c op ↔ (Holds saved op ⊎ Contains ops op)) where
  ops_agree : IsAgreed ops
  ops_agree = held_agree c ops (λ id parent ch m. (holds (Insert id parent ch)).1 (inr m))

  listed_within : IsWithin (content_of ops) c
  listed_within = record {
    inserted = λ id x h. (holds (Insert id x.parent x.ch)).1 (inr (held_listed ops (Insert id x.parent x.ch) h));
    deleted = λ id h. (holds (Delete id)).1 (inr (held_listed ops (Delete id) h));
  }

  both_agree : Agree saved (content_of ops)
  both_agree = agree_within saved (content_of ops) c c within listed_within (λ id x y h k. same_Some x y (sym h ∙ k))

  rest_joinable : IsJoinable saved ops
  rest_joinable = record { agreed = ops_agree; agree = both_agree }

  is_joined : c ≡ join saved (content_of ops)
  is_joined =
      let first = within_join saved (content_of ops) in
      let second = within_join_second saved (content_of ops) both_agree in
      within_both c (join saved (content_of ops))
      (record {
        inserted = λ id x h. elim ((holds (Insert id x.parent x.ch)).0 h) [
          | inl old ↦ first.inserted id x old
          | inr new ↦ second.inserted id x ((inserted-iff ops ops_agree id x).1 new)
        ];
        deleted = λ id h. elim ((holds (Delete id)).0 h) [
          | inl old ↦ first.deleted id old
          | inr new ↦ second.deleted id ((deleted-iff ops id).1 new)
        ];
      })
      (join_least saved (content_of ops) c within listed_within)

pub save_in_log : (w v : World) (number : ℕ) (s t : Site) (bytes : List ℕ) (ops : List Op)
    → IsReached w → stepped w (Save number) ≡ Ok v → slice_get w.sites number ≡ Some s → slice_get v.sites number ≡ Some t
    → StandsFor bytes s.saved → rest_of bytes ≡ [] → ((op : Op) → Holds s.content op ↔ (Holds s.saved op ⊎ Contains ops op))
    → StandsFor (bytes ++ log_text ops) t.saved
save_in_log w v number s t bytes ops reached step at there stands ended holds =
    let i = (saved-iff w v number).0 step in
    let before : i.before ≡ s = same_Some i.before s (sym i.at ∙ at) in
    let left : t ≡ site i.before.content i.before.content = left_at w v number i.before (site i.before.content i.before.content) t i.at i.is there in
    let within : IsWithin s.saved s.content = (reached_consistent w reached).held number s at in
    let stored = (reached_storable w reached).content number s at in
    let held : (op : Op) → Contains ops op → Holds s.content op = λ op m. (holds op).1 (inr m) in
    subst (StandsFor (bytes ++ log_text ops)) (sym (is_joined s.content s.saved ops within holds) ∙ sym (ap (λ (x : Site). x.content) before) ∙ sym (ap (λ (x : Site). x.saved) left))
    (stands_appended bytes s.saved ops stands ended (λ op m. stored.writable op (held op m)) (λ op m. stored.sound op (held op m)) (rest_joinable s.content s.saved ops within holds))

pub restart_from_log : (w v : World) (number : ℕ) (s t : Site) (bytes : List ℕ)
    → IsReached w → stepped w (Restart number) ≡ Ok v → slice_get w.sites number ≡ Some s → slice_get v.sites number ≡ Some t
    → StandsFor bytes s.saved
    → (read : LogRead) × (log_outcome w.limit nothing bytes ≡ (t.content, Ok read))
restart_from_log w v number s t bytes reached step at there stands =
    let i = (restarted-iff w v number).0 step in
    let before : i.before ≡ s = same_Some i.before s (sym i.at ∙ at) in
    let left : t ≡ site i.before.saved i.before.saved = left_at w v number i.before (site i.before.saved i.before.saved) t i.at i.is there in
    let same : join nothing s.saved ≡ t.content = nothing_join s.saved ∙ sym (ap (λ (x : Site). x.saved) before) ∙ sym (ap (λ (x : Site). x.content) left) in
    let fits = ((reached_storable w reached).saved number s at).within in
    let r = log_that_stands w.limit nothing s.saved bytes stands (agree_swap s.saved nothing (agree_nothing s.saved)) (subst (λ c. finite_set.len (known_ids c) ≤ w.limit) (sym (nothing_join s.saved)) fits) in
    (r.0, r.1 ∙ ap (λ c. (c, Ok r.0)) same)

-- ---- parts of what was taken

pub take_ok : (r : Result Content Refusal) (f : Content → Result Content Refusal) (d : Content) → and_take r f ≡ Ok d → (c : Content) × (r ≡ Ok c) × (f c ≡ Ok d)
take_ok (Ok c) f d h = (c, refl, h)
take_ok (Err e) f d h = absurd (err-ok e d h)

-- ---- a save of one operation

-- what is within a content knows no more
fewer_known : (c d : Content) → IsWithin c d → known_count c ≤ known_count d
fewer_known c d w =
    let all : join c d ≡ d =
    within_both (join c d) d (join_least c d d w (within_itself d))
    (within_join_second c d (agree_within c d d d w (within_itself d) (λ id x y f g. same_Some x y (sym f ∙ g)))) in
    subst (λ e. known_count c ≤ known_count e) all
    (subst (λ s. known_count c ≤ finite_set.len s) (sym (known_join c d)) (len-le_union (known_ids c) (known_ids d)))

-- what is held has a place among the operations
pub held_place : (c : Content) (op : Op) → Holds c op → (place : ℕ) × (slice_get (operations c) place ≡ Some op)
held_place c op h =
    contains_place (operations c) op (held_listed (operations c) op (subst (λ d. Holds d op) (sym (content_of-operations c)) h))

-- what holds of an operation holds of all of a list of it
all_of_one : (P : Op → Type 0) (op : Op) → P op → (o : Op) → Contains (op ∷ []) o → P o
all_of_one P op h o m = grind arith

-- what the site holds is taken into what it has saved
module _ (w : World) (number : ℕ) (s : Site) (op : Op) (reached : IsReached w) (at : slice_get w.sites number ≡ Some s) (held : Holds s.content op) where
  saved_within : IsWithin s.saved s.content
  saved_within = (reached_consistent w reached).held number s at

  one_within : IsWithin (single op) s.content
  one_within = single_within s.content op held

  one_joinable : IsJoinable s.saved (op ∷ [])
  one_joinable =
      (joinable-iff s.saved op []).1 (
        agree_within s.saved (single op) s.content s.content saved_within one_within (λ id x y f g. same_Some x y (sym f ∙ g)),
        joinable_nothing (join s.saved (single op)),
      )

  one_fits : known_count (join s.saved (single op)) ≤ w.limit
  one_fits =
      let fewer = fewer_known (join s.saved (single op)) s.content (join_least s.saved (single op) s.content saved_within one_within) in
      let fits = ((reached_storable w reached).content number s at).within in
      omega (arith, fewer, fits)

  one_taken : taken w.limit s.saved op ≡ Ok (join s.saved (single op))
  one_taken =
      let sound = ((reached_storable w reached).content number s at).sound op held in
      let whole = list_one_by_one w.limit s.saved (op ∷ [])
      ((list_taken-iff w.limit s.saved (op ∷ [])).1 (
        all_of_one (λ o. checked o ≡ Ok tt) op sound,
        one_joinable,
        subst (λ c. known_count (join s.saved c) ≤ w.limit) (sym (join_nothing (single op))) one_fits,
      )) in
      let (c, took, rest) = take_ok (taken w.limit s.saved op) (λ e. Ok e) (join s.saved (content_of (op ∷ []))) whole in
      took ∙ ap (λ d. Ok d) (taken_is w.limit s.saved op c took).joined

  pub one_saved : (place : ℕ) → slice_get (operations s.content) place ≡ Some op → stepped w (SaveOne number place) ≡ Ok (with_site w number (with_saved s (join s.saved (single op))))
  one_saved place there =
      changed_to w number (saved_one w.limit place) s (with_saved s (join s.saved (single op))) at
      (saves w.limit place s op (Ok (join s.saved (single op))) there one_taken)

pub held_can_be_saved : (w : World) (number : ℕ) (s : Site) (op : Op) → IsReached w → slice_get w.sites number ≡ Some s → Holds s.content op
    → (place : ℕ) × (stepped w (SaveOne number place) ≡ Ok (with_site w number (with_saved s (join s.saved (single op)))))
held_can_be_saved w number s op reached at held =
    let (place, there) = held_place s.content op held in
    (place, one_saved w number s op reached at held place there)

pub one_not_refused : (w : World) (number place : ℕ) (e : Refusal) → IsReached w → stepped w (SaveOne number place) ≡ Err (Store e) → ⊥
one_not_refused w number place e reached h =
    let (op, t, refused) = (store-iff w (SaveOne number place) e).0 h in
    let taken_so = one_taken w number t.before op reached t.at (place_held t.before.content place op t.held) in
    ok-err (join t.before.saved (single op)) e (sym taken_so ∙ ap (after_answer t.before.saved op) refused)

pub one_save_in_log : (w v : World) (number place : ℕ) (s t : Site) (op : Op) (bytes : List ℕ)
    → IsReached w → stepped w (SaveOne number place) ≡ Ok v → slice_get w.sites number ≡ Some s → slice_get v.sites number ≡ Some t
    → slice_get (operations s.content) place ≡ Some op → StandsFor bytes s.saved → rest_of bytes ≡ []
    → StandsFor (bytes ++ log_text (op ∷ [])) t.saved
one_save_in_log w v number place s t op bytes reached step at now there stands ended =
    let held : Holds s.content op = place_held s.content place op there in
    let u : Site = with_saved s (join s.saved (single op)) in
    let is : v ≡ with_site w number u = same_Ok v (with_site w number u) (sym step ∙ one_saved w number s op reached at held place there) in
    let left : t ≡ u = left_at w v number s u t at is now in
    let stored = (reached_storable w reached).content number s at in
    subst (StandsFor (bytes ++ log_text (op ∷ []))) (ap (join s.saved) (join_nothing (single op)) ∙ sym (ap (λ (x : Site). x.saved) left))
    (stands_appended bytes s.saved (op ∷ []) stands ended (all_of_one IsWritable op (stored.writable op held)) (all_of_one (λ o. checked o ≡ Ok tt) op (stored.sound op held))
    (one_joinable w number s op reached at held))

-- ---- deliveries one by one

pub set_twice : {A : Type 0} (xs : List A) (i : ℕ) (x y : A) → slice_set (slice_set xs i x) i y ≡ slice_set xs i y
set_twice [] i x y = refl
set_twice (z ∷ xs) zero x y = refl
set_twice (z ∷ xs) (suc i) x y = ap (λ ys. z ∷ ys) (set_twice xs i x y)

-- one operation that the giver has saved is delivered
one_delivered : (w : World) (taker giver place : ℕ) (s g : Site) (op : Op) (c : Content)
    → slice_get w.sites taker ≡ Some s → slice_get w.sites giver ≡ Some g → slice_get (operations g.saved) place ≡ Some op → taken w.limit s.content op ≡ Ok c
    → stepped w (Deliver taker giver place) ≡ Ok (with_site w taker (with_content s c))
one_delivered w taker giver place s g op c at there saved took = grind arith

-- the same of all from a place on
pub all_delivered : (ops : List Op) (place taker giver : ℕ) (w : World) (s g : Site) (d : Content)
    → slice_get w.sites taker ≡ Some s → slice_get w.sites giver ≡ Some g
    → ((n : ℕ) (op : Op) → slice_get ops n ≡ Some op → slice_get (operations g.saved) (place + n) ≡ Some op)
    → taken_one_by_one w.limit s.content ops ≡ Ok d
    → ran w (deliveries taker giver place (length ops)) ≡ Ok (with_site w taker (with_content s d))
all_delivered [] place taker giver w s g d at there each took = grind (arith, same_Ok, set_same)
all_delivered (op ∷ ops) place taker giver w s g d at there each took =
    let (c, first, rest) = take_ok (taken w.limit s.content op) (λ e. taken_one_by_one w.limit e ops) d took in
    let t : Site = with_content s c in
    let v : World = with_site w taker t in
    let step : stepped w (Deliver taker giver place) ≡ Ok v = one_delivered w taker giver place s g op c at there (ap (slice_get (operations g.saved)) (here place) ∙ each 0 op refl) first in
    let now : slice_get v.sites taker ≡ Some t = set_here w.sites taker s t at in
    let later : (h : Site) → slice_get v.sites giver ≡ Some h → h.saved ≡ g.saved → ran v (deliveries taker giver (place + 1) (length ops)) ≡ Ok (with_site v taker (with_content t d)) = λ h is same.
    all_delivered ops (place + 1) taker giver v t h d now is
    (λ n o m. ap (λ (e : Content). slice_get (operations e) (place + 1 + n)) same ∙ ap (slice_get (operations g.saved)) (next place n) ∙ each (suc n) o m) rest in
    let all : ran v (deliveries taker giver (place + 1) (length ops)) ≡ Ok (with_site v taker (with_content t d)) =
    elim (set_old w.sites taker giver s t g at there) [
      | inl (number, is, put) ↦ later t put (sym (ap (λ (x : Site). x.saved) is))
      | inr stays ↦ later g stays refl
    ] in
    ap (λ r. outcome_then r (λ u. ran u (deliveries taker giver (place + 1) (length ops)))) step
    ∙ all ∙ ap (λ xs. Ok (record w { sites = xs })) (set_twice w.sites taker t (with_content t d))
  where
    here : (place : ℕ) → place ≡ place + 0
    here place = omega arith

    next : (place n : ℕ) → place + 1 + n ≡ place + suc n
    next place n = omega arith

-- ---- an exchange

-- all that the giver has saved, where the taker has room for it
module _ (w : World) (taker giver : ℕ) (s g : Site) (reached : IsReached w) (at : slice_get w.sites taker ≡ Some s) (there : slice_get w.sites giver ≡ Some g) (fits : known_count (join s.content g.saved) ≤ w.limit) where
  all_allowed : list_answer w.limit s.content (operations g.saved) ≡ Ok tt
  all_allowed =
      let stored = (reached_storable w reached).saved giver g there in
      (list_taken-iff w.limit s.content (operations g.saved)).1 (
        λ op m. stored.sound op (operations_hold g.saved op m),
        saved_joinable w.limit w.sites (reached_consistent w reached) taker giver s g at there (operations g.saved) (operations_hold g.saved),
        subst (λ c. finite_set.len (known_ids (join s.content c)) ≤ w.limit) (sym (content_of-operations g.saved)) fits,
      )

  pub exchange_delivers : ran w (deliveries taker giver 0 (length (operations g.saved))) ≡ Ok (with_site w taker (with_content s (join s.content g.saved)))
  exchange_delivers =
      all_delivered (operations g.saved) 0 taker giver w s g (join s.content g.saved) at there (λ n op h. ap (slice_get (operations g.saved)) (none n) ∙ h)
      (list_one_by_one w.limit s.content (operations g.saved) all_allowed ∙ ap (λ c. Ok (join s.content c)) (content_of-operations g.saved))
    where
      none : (n : ℕ) → 0 + n ≡ n
      none n = omega arith

  pub exchange_is_list : stepped w (DeliverList taker giver 0 (length (operations g.saved))) ≡ Ok (with_site w taker (with_content s (join s.content g.saved)))
  exchange_is_list =
      let all : List Op = operations g.saved in
      changed_to w taker (given w giver (λ h. saved_list h 0 (length all)) (list_delivered w.limit)) s (with_content s (join s.content g.saved)) at
      (gives w taker giver (λ h. saved_list h 0 (length all)) (list_delivered w.limit) s g all there (list_found g 0 (length all) (omega arith) (omega arith) ∙ ap (λ ops. Ok ops) (take-length all))
      ∙ ap (λ r. outcome_then (of_store r) (λ _. Ok (with_content s (join s.content (content_of all))))) all_allowed
      ∙ ap (λ c. Ok (with_content s (join s.content c))) (content_of-operations g.saved))
