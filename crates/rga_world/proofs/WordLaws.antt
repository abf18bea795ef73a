-- What events lead to, in words.
use Rattle.std.proofs.Common.{◌≡◌, ℕ, ◌<◌, ◌≤◌, ◌⊎◌, List, take, drop, length, Some, None, Vec, slice_get, sym, ap, ◌∙◌, arith}
use Rattle.std.specs.Prelude.{◌↔◌, Option, Result, Ok, Err}
use Rattle.std.specs.declared.alloc.Global.{Global}
use Rattle.rga_ops.specs.Identifier.{Identifier}
use Rattle.rga_ops.specs.Content.{Content, join, single}
use Rattle.rga_ops.specs.Operations.{operations}
use Rattle.rga_ops.specs.Answer.{answer, taken}
use Rattle.rga_ops.specs.ListAnswer.{Verdict, list_answer}
use Rattle.rga_ops.proofs.TakenLaws.{taken_is, held_adds_nothing}
use Rattle.rga_ops.specs.declared.op.Op.{Op}
use Rattle.rga_ops.specs.declared.refusal.Taken.{Taken}
use Rattle.rga_ops.specs.declared.refusal.Refusal.{Refusal}
use Rattle.rga_doc.specs.LocalEdit.{splice_answer, splice_operations}
use Rattle.rga_doc.specs.Revert.{revert_answer, revert_operations}
use Rattle.rga_world.specs.Sites.{Site, World}
use Rattle.rga_world.specs.Steps.{Outcome, outcome_then, found, of_store, replica_of, saved_operation, saved_list, with_content, with_saved, with_operations, delivered, list_delivered, saved_site, saved_one, restarted, changed, given, stepped}
use Rattle.rga_world.specs.Words.{with_site, HasChanged, IsSavedSite, IsSavedOne, IsRestarted, IsEdited, IsReverted, IsDelivered, IsListGiven, IsListDelivered, LacksSite, LacksOperation, IsRefusedByStore}
use Rattle.rga_world.specs.declared.event.Event.{Event}
use Rattle.rga_world.specs.declared.event.Event.TheVariants.{Edit, Revert, Save, SaveOne, Deliver, DeliverList, Restart}
use Rattle.rga_world.specs.declared.refusal.WorldRefusal.{WorldRefusal}
use Rattle.rga_world.specs.declared.refusal.WorldRefusal.TheVariants.{NoSite, NoOperation, Store}
use Rattle.rga_world.proofs.StepLaws.{same_Ok, then_ok, found_ok, store_ok, is_changed, takes_given, joined_ok, saved_one_ok, saved_list_ok, found_none, same_Store, site-operation, site-store, operation-store, joined_err, saved_list_err, nowhere, within, refusal, from_nowhere, of_nothing, not_taken, ungiven, none_there, not_saved, unsaved}
use Rattle.rga_world.proofs.RunLaws.{took_or}
use Rattle.rga_ops.proofs.AnswerLaws.{known-iff}
use Rattle.std.proofs.lemmas.Bool.Decides.{nat_tests}

-- ---- outcomes

pub changed_to : (w : World) (number : ℕ) (change : Site → Outcome Site) (s t : Site) → slice_get w.sites number ≡ Some s → change s ≡ Ok t → changed w number change ≡ Ok (with_site w number t)
changed_to w number change s t at is = grind arith

-- ---- saves and restarts

pub saved-iff : (w v : World) (number : ℕ) → (stepped w (Save number) ≡ Ok v) ↔ IsSavedSite w v number
saved-iff w v number = (
  λ h.
      let c = is_changed w number (λ s. Ok (saved_site s)) v h in
      record { before = c.before; at = c.was; is = c.is ∙ ap (with_site w number) (sym (same_Ok (saved_site c.before) c.now c.change_is)) },
  λ i. grind arith,
)

pub restarted-iff : (w v : World) (number : ℕ) → (stepped w (Restart number) ≡ Ok v) ↔ IsRestarted w v number
restarted-iff w v number = (
  λ h.
      let c = is_changed w number (λ s. Ok (restarted s)) v h in
      record { before = c.before; at = c.was; is = c.is ∙ ap (with_site w number) (sym (same_Ok (restarted c.before) c.now c.change_is)) },
  λ i. grind arith,
)

-- ---- edits and reverts

-- the site joins operations of its own, where they are allowed
module _ (w : World) (number : ℕ) (verdict : Content → Verdict) (own : Content → List Op) where
  abbrev change : Site → Outcome Site
  change s = with_operations (verdict s.content) (own s.content) s

  changed-iff : (v : World) → (changed w number change ≡ Ok v) ↔ HasChanged w v number verdict own
  changed-iff v = (
    λ h.
        let c = is_changed w number change v h in
        let joined = joined_ok (verdict c.before.content) (own c.before.content) c.before c.now c.change_is in
        record { before = c.before; at = c.was; allowed = joined.0; is = c.is ∙ ap (with_site w number) (sym joined.1) },
    λ i. grind arith,
  )

  change_has_operation : changed w number change ≡ Err NoOperation → ⊥
  change_has_operation h = grind arith

  change_store-iff : (e : Refusal) → (changed w number change ≡ Err (Store e)) ↔ ((s : Site) × (slice_get w.sites number ≡ Some s) × (verdict s.content ≡ Err e))
  change_store-iff e = (
    λ h. elim (refusal w number change (Store e) h) [
      | nowhere none is ↦ absurd (site-store e is)
      | within s at refused ↦
          let (f, by_store, is) = joined_err (verdict s.content) (own s.content) s (Store e) refused in
          (s, at, by_store ∙ ap (λ x. Err x) (same_Store f e is))
    ],
    λ refused. grind arith,
  )

-- the operations of a splice, and those of a revert
abbrev splices : World → ℕ → ℕ → List ℕ → Content → Verdict
splices w lo hi put c = splice_answer w.limit c lo hi put

abbrev spliced_by : ℕ → ℕ → ℕ → List ℕ → Content → List Op
spliced_by number lo hi put c = splice_operations (replica_of number) c lo hi put

abbrev reverts : World → List (Identifier × ℕ) → Content → Verdict
reverts w back c = revert_answer w.limit c back

abbrev reverted_by : ℕ → List Identifier → List (Identifier × ℕ) → Content → List Op
reverted_by number gone back c = revert_operations (replica_of number) c gone back

pub edited-iff : (w v : World) (number lo hi : ℕ) (put : Vec ℕ Global) → (stepped w (Edit number lo hi put) ≡ Ok v) ↔ IsEdited w v number lo hi put.items
edited-iff w v number lo hi put = changed-iff w number (splices w lo hi put.items) (spliced_by number lo hi put.items) v

pub reverted-iff : (w v : World) (number : ℕ) (gone : Vec Identifier Global) (back : Vec (Identifier × ℕ) Global) → (stepped w (Revert number gone back) ≡ Ok v) ↔ IsReverted w v number gone.items back.items
reverted-iff w v number gone back = changed-iff w number (reverts w back.items) (reverted_by number gone.items back.items) v

-- ---- what is given

module _ {A : Type 0} (w : World) (taker giver : ℕ) (saved : Site → Outcome A) (take : A → Site → Outcome Site) where
  abbrev give : Site → Outcome Site
  give = given w giver saved take

  -- where it is given, all goes by how it is taken
  pub gives : (s g : Site) (x : A) → slice_get w.sites giver ≡ Some g → saved g ≡ Ok x → give s ≡ take x s
  gives s g x there there_too = grind arith

-- ---- what stores answer

pub answered_ok : (limit : ℕ) (c d : Content) (op : Op) → taken limit c op ≡ Ok d → (t : Taken) × (answer limit c op ≡ Ok t)
answered_ok limit c d op h = grind arith

taken_ok : (limit : ℕ) (c : Content) (op : Op) (t : Taken) → answer limit c op ≡ Ok t → taken limit c op ≡ Ok (join c (single op))
taken_ok limit c op t h = grind (arith, held_adds_nothing c op, known-iff limit c op)

-- a store alone refuses what is delivered
delivered_err : (limit : ℕ) (op : Op) (s : Site) (e : WorldRefusal) → delivered limit op s ≡ Err e → (f : Refusal) × (answer limit s.content op ≡ Err f) × (Store f ≡ e)
delivered_err limit op s e h = grind arith

-- ---- saves of one operation

-- what is saved of what is at the place, if anything is
saves_at : (limit place : ℕ) (s : Site) (o : Option Op) → slice_get (operations s.content) place ≡ o → saved_one limit place s ≡ outcome_then (found NoOperation o) (λ op. outcome_then (of_store (taken limit s.saved op)) (λ c. Ok (with_saved s c)))
saves_at limit place s o there = ap (λ p. outcome_then (found NoOperation p) (λ op. outcome_then (of_store (taken limit s.saved op)) (λ c. Ok (with_saved s c)))) there

-- where it is there, all goes by how it is taken
pub saves : (limit place : ℕ) (s : Site) (op : Op) (r : Result Content Refusal) → slice_get (operations s.content) place ≡ Some op → taken limit s.saved op ≡ r → saved_one limit place s ≡ outcome_then (of_store r) (λ c. Ok (with_saved s c))
saves limit place s op r there took = saves_at limit place s (Some op) there ∙ ap (λ q. outcome_then (of_store q) (λ c. Ok (with_saved s c))) took

pub saved_one-iff : (w v : World) (number place : ℕ) → (stepped w (SaveOne number place) ≡ Ok v) ↔ IsSavedOne w v number place
saved_one-iff w v number place = (
  λ h.
      let c = is_changed w number (saved_one w.limit place) v h in
      let one = saved_one_ok w.limit place c.before c.now c.change_is in
      let (how, answered) = answered_ok w.limit c.before.saved one.saved one.op one.took in
      record {
        op = one.op;
        there = record { before = c.before; at = c.was; held = one.held };
        how = how;
        took = answered;
        is = c.is ∙ ap (with_site w number) (sym (ap (with_saved c.before) (sym one.joined) ∙ one.is));
      },
  λ i. grind (arith, taken_ok w.limit (i.there.before).saved i.op i.how i.took),
)

-- ---- deliveries of one operation

module _ (w : World) (giver place : ℕ) where
  abbrev operation_of : Site → Outcome Op
  operation_of g = saved_operation g place

  abbrev give_operation : Site → Outcome Site
  give_operation = given w giver operation_of (delivered w.limit)

pub delivered-iff : (w v : World) (taker giver place : ℕ) → (stepped w (Deliver taker giver place) ≡ Ok v) ↔ IsDelivered w v taker giver place
delivered-iff w v taker giver place = (
  λ h.
      let c = is_changed w taker (give_operation w giver place) v h in
      let t = takes_given w giver (operation_of w giver place) (delivered w.limit) c.before c.now c.change_is in
      let (d, took, done) = then_ok (of_store (taken w.limit c.before.content t.item)) (λ x. Ok (with_content c.before x)) c.now t.took in
      let stored = store_ok (taken w.limit c.before.content t.item) d took in
      let (how, answered) = answered_ok w.limit c.before.content d t.item stored in
      record {
        op = t.item;
        given = record {
          before = c.before;
          origin = t.origin;
          at = c.was;
          there = t.there;
          saved = found_ok NoOperation (slice_get (operations t.origin.saved) place) t.item t.saved_there;
        };
        how = how;
        took = answered;
        is =
            c.is ∙ ap (with_site w taker) (sym (same_Ok (with_content c.before d) c.now done))
            ∙ ap (λ x. with_site w taker (with_content c.before x)) (taken_is w.limit c.before.content t.item d stored).joined;
      },
  λ i. grind (arith, taken_ok w.limit (i.given.before).content i.op i.how i.took),
)

-- ---- lists that are delivered

-- places that are in order, up to as many as there are, are found, and others are not
pub list_found : (s : Site) (lo hi : ℕ) → lo ≤ hi → hi ≤ length (operations s.saved) → saved_list s lo hi ≡ Ok (drop lo (take hi (operations s.saved)))
list_found s lo hi up within_saved = grind (arith, nat_tests)

list_missing : (s : Site) (lo hi : ℕ) → (hi < lo) ⊎ (length (operations s.saved) < hi) → saved_list s lo hi ≡ Err NoOperation
list_missing s lo hi missing = grind (arith, nat_tests)

module _ (w : World) (giver lo hi : ℕ) where
  abbrev list_of : Site → Outcome (List Op)
  list_of g = saved_list g lo hi

  abbrev give_list : Site → Outcome Site
  give_list = given w giver list_of (list_delivered w.limit)

  -- a list that is given is one that is found
  given_found : (taker : ℕ) (ops : List Op) (g : IsListGiven w taker giver lo hi ops) → saved_list g.origin lo hi ≡ Ok ops
  given_found taker ops g = list_found g.origin lo hi g.ordered g.within ∙ ap (λ os. Ok os) (sym g.saved)

pub list_delivered-iff : (w v : World) (taker giver lo hi : ℕ) → (stepped w (DeliverList taker giver lo hi) ≡ Ok v) ↔ IsListDelivered w v taker giver lo hi
list_delivered-iff w v taker giver lo hi = (
  λ h.
      let c = is_changed w taker (give_list w giver lo hi) v h in
      let t = takes_given w giver (list_of w giver lo hi) (list_delivered w.limit) c.before c.now c.change_is in
      let list = saved_list_ok t.origin lo hi t.item t.saved_there in
      let joined = joined_ok (list_answer w.limit c.before.content t.item) t.item c.before c.now t.took in
      record {
        ops = t.item;
        given = record { before = c.before; origin = t.origin; at = c.was; there = t.there; ordered = list.ordered; within = list.within; saved = list.is };
        took = joined.0;
        is = c.is ∙ ap (with_site w taker) (sym joined.1);
      },
  λ i. grind (arith, given_found w giver lo hi taker i.ops i.given),
)

-- ---- refusals

never_refused : (w : World) (number : ℕ) (change : Site → Site) (e : WorldRefusal) → changed w number (λ s. Ok (change s)) ≡ Err e → (slice_get w.sites number ≡ None) × (NoSite ≡ e)
never_refused w number change e h = grind arith

pub no_site-iff : (w : World) (event : Event) → (stepped w event ≡ Err NoSite) ↔ LacksSite w event
no_site-iff w event = grind arith

pub no_operation-iff : (w : World) (event : Event) → (stepped w event ≡ Err NoOperation) ↔ LacksOperation w event
no_operation-iff w (Edit number lo hi put) = (change_has_operation w number (splices w lo hi put.items) (spliced_by number lo hi put.items), λ never. absurd never)
no_operation-iff w (Revert number gone back) = (change_has_operation w number (reverts w back.items) (reverted_by number gone.items back.items), λ never. absurd never)
no_operation-iff w (Save number) = (λ h. site-operation (never_refused w number saved_site NoOperation h).1, λ never. absurd never)
no_operation-iff w (SaveOne number place) = (
  λ h. elim (refusal w number (saved_one w.limit place) NoOperation h) [
    | nowhere none is ↦ absurd (site-operation is)
    | within s at refused ↦ elim (unsaved w.limit place s NoOperation refused) [
      | none_there none is ↦ record { before = s; at = at; none = none }
      | not_saved op f there untaken is ↦ absurd (operation-store f (sym is))
    ]
  ],
  λ l. grind arith,
)
no_operation-iff w (Restart number) = (λ h. site-operation (never_refused w number restarted NoOperation h).1, λ never. absurd never)
no_operation-iff w (Deliver taker giver place) = (
  λ h. elim (refusal w taker (give_operation w giver place) NoOperation h) [
    | nowhere none is ↦ absurd (site-operation is)
    | within s at refused ↦ elim (ungiven w giver (operation_of w giver place) (delivered w.limit) s NoOperation refused) [
      | from_nowhere none is ↦ absurd (site-operation is)
      | of_nothing g there none ↦
          record { before = s; origin = g; at = at; there = there; none = (found_none NoOperation NoOperation (slice_get (operations g.saved) place) none).0 }
      | not_taken g op there saved answered ↦ let (f, by_store, is) = delivered_err w.limit op s NoOperation answered in absurd (operation-store f (sym is))
    ]
  ],
  λ l. grind arith,
)
no_operation-iff w (DeliverList taker giver lo hi) = (
  λ h. elim (refusal w taker (give_list w giver lo hi) NoOperation h) [
    | nowhere none is ↦ absurd (site-operation is)
    | within s at refused ↦ elim (ungiven w giver (list_of w giver lo hi) (list_delivered w.limit) s NoOperation refused) [
      | from_nowhere none is ↦ absurd (site-operation is)
      | of_nothing g there none ↦ record { before = s; origin = g; at = at; there = there; missing = (saved_list_err g lo hi NoOperation none).0 }
      | not_taken g ops there saved answered ↦
          let (f, by_store, is) = joined_err (list_answer w.limit s.content ops) ops s NoOperation answered in absurd (operation-store f (sym is))
    ]
  ],
  λ l. grind (arith, list_missing l.origin lo hi l.missing),
)

pub store-iff : (w : World) (event : Event) (e : Refusal) → (stepped w event ≡ Err (Store e)) ↔ IsRefusedByStore w event e
store-iff w (Edit number lo hi put) e = change_store-iff w number (splices w lo hi put.items) (spliced_by number lo hi put.items) e
store-iff w (Revert number gone back) e = change_store-iff w number (reverts w back.items) (reverted_by number gone.items back.items) e
store-iff w (Save number) e = (λ h. site-store e (never_refused w number saved_site (Store e) h).1, λ never. absurd never)
store-iff w (SaveOne number place) e = (
  λ h. elim (refusal w number (saved_one w.limit place) (Store e) h) [
    | nowhere none is ↦ absurd (site-store e is)
    | within s at refused ↦ elim (unsaved w.limit place s (Store e) refused) [
      | none_there none is ↦ absurd (operation-store e is)
      | not_saved op f there untaken is ↦ (
        op,
        record { before = s; at = at; held = there },
        took_or s.saved s.saved op (answer w.limit s.saved op) f untaken ∙ ap (λ x. Err x) (same_Store f e is),
      )
    ]
  ],
  λ refused. grind arith,
)
store-iff w (Restart number) e = (λ h. site-store e (never_refused w number restarted (Store e) h).1, λ never. absurd never)
store-iff w (Deliver taker giver place) e = (
  λ h. elim (refusal w taker (give_operation w giver place) (Store e) h) [
    | nowhere none is ↦ absurd (site-store e is)
    | within s at refused ↦ elim (ungiven w giver (operation_of w giver place) (delivered w.limit) s (Store e) refused) [
      | from_nowhere none is ↦ absurd (site-store e is)
      | of_nothing g there none ↦ absurd (operation-store e (found_none NoOperation (Store e) (slice_get (operations g.saved) place) none).1)
      | not_taken g op there saved answered ↦
          let (f, by_store, is) = delivered_err w.limit op s (Store e) answered in (
            op,
            record { before = s; origin = g; at = at; there = there; saved = found_ok NoOperation (slice_get (operations g.saved) place) op saved },
            by_store ∙ ap (λ x. Err x) (same_Store f e is),
          )
    ]
  ],
  λ refused. grind arith,
)
store-iff w (DeliverList taker giver lo hi) e = (
  λ h. elim (refusal w taker (give_list w giver lo hi) (Store e) h) [
    | nowhere none is ↦ absurd (site-store e is)
    | within s at refused ↦ elim (ungiven w giver (list_of w giver lo hi) (list_delivered w.limit) s (Store e) refused) [
      | from_nowhere none is ↦ absurd (site-store e is)
      | of_nothing g there none ↦ absurd (operation-store e (saved_list_err g lo hi (Store e) none).1)
      | not_taken g ops there saved answered ↦
          let (f, by_store, is) = joined_err (list_answer w.limit s.content ops) ops s (Store e) answered in
          let list = saved_list_ok g lo hi ops saved in (
            ops,
            record { before = s; origin = g; at = at; there = there; ordered = list.ordered; within = list.within; saved = list.is },
            by_store ∙ ap (λ x. Err x) (same_Store f e is),
          )
    ]
  ],
  λ (ops, g, refused). grind (arith, given_found w giver lo hi taker ops g),
)
