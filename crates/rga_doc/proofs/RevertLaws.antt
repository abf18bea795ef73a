-- Reverts: the operations of an allowed revert are taken, and each restored element goes in directly behind its own.
use Rattle.rga_doc.proofs.Prelude.{◌≡◌, ℕ, ◌+◌, ◌<◌, suc, Bool, true, false, not, ◌&&◌, ◌||◌, List, [], ◌∷◌, map, filter, length, refl, sym, ap, ◌∙◌, subst, arith, Ok, list_any, AllByRecursion, and_parts, or_right, Identifier, identifier}
use Rattle.rga_doc.proofs.Prelude.{is_id, is_root, Content, clock_of, join, single, content_of, is_complete, order, is_visible, list_answer, is, is_itself, all_map, all_filter, order_list, is_root_or_complete, is_complete-insertion, newest_leaf}
use Rattle.rga_doc.proofs.Prelude.{order-newest, order-deletion, Insert, Delete, distinct_elements, restorations, revert_operations, are_restorable, revert_answer, put_back, inserted_elements}
use Rattle.rga_doc.proofs.RevertSets.{among, elements_of}
use Rattle.rga_doc.proofs.PlaceLaws.{complete_still}
use Rattle.rga_doc.proofs.EditSteps.{Leads, leads_nowhere, leads_on, deletion_leads, newest, insertion_leads}
use Rattle.rga_doc.proofs.EditLaws.{allowed, taken_if}

abbrev pub AreComplete : Content → List Identifier → Type 0
AreComplete c ids = AllByRecursion (λ id. is_complete c id ≡ true) ids

-- which elements are complete follows from the order
pub complete_by_order : (c d : Content) → order d ≡ order c → (q : Identifier) → is_complete d q ≡ is_complete c q
complete_by_order c d same q = sym ((order_list d).elements q) ∙ ap (list_any (is q)) same ∙ (order_list c).elements q

pub record Removes (c : Content) (ids : List Identifier) : Type 0 where
  pub outcome : Content
  pub leads : Leads c outcome (map Delete ids) 0
  pub stays : order outcome ≡ order c

pub removes : (ids : List Identifier) (c : Content) → AreComplete c ids → Removes c ids
removes [] c all = record { outcome = c; leads = leads_nowhere c; stays = refl }
removes (id ∷ ids) c all =
    let d : Content = join c (single (Delete id)) in
    let further : AreComplete d ids = all_map (λ q. is_complete c q ≡ true) (λ q. is_complete d q ≡ true) (λ q h. complete_by_order c d (order-deletion c id) q ∙ h) ids all.1 in
    let later = removes ids d further in
    record {
      outcome = later.outcome;
      leads = leads_on c d later.outcome (Delete id ∷ []) (map Delete ids) 0 0 0 refl (deletion_leads c id all.0) later.leads;
      stays = later.stays ∙ order-deletion c id;
    }

-- ---- insertions behind complete elements

pub record Restores (c : Content) (replica last : ℕ) (back : List (Identifier × ℕ)) : Type 0 where
  pub outcome : Content
  pub leads : Leads c outcome (restorations replica last back) (length back)
  pub stands : order outcome ≡ put_back replica last back (order c)
  pub complete : AreComplete outcome (inserted_elements (restorations replica last back))

restores : (back : List (Identifier × ℕ)) (c : Content) (replica last : ℕ) → last ≡ clock_of c → AreComplete c (elements_of back) → Restores c replica last back
restores [] c replica last now all = record { outcome = c; leads = leads_nowhere c; stands = refl; complete = tt }
restores (b ∷ back) c replica last now all =
    let id : Identifier = identifier (last + 1) replica in
    let next : last + 1 ≡ clock_of c + 1 = ap (λ n. n + 1) now in
    let d : Content = join c (single (Insert id b.0 b.1)) in
    let parent : is_root_or_complete c b.0 ≡ true = or_right (is_root b.0) (is_complete c b.0) all.0 in
    let leads : Leads c d (Insert id b.0 b.1 ∷ []) 1 = insertion_leads c id b.0 b.1 next parent in
    let newer : clock_of c < id.counter = newest c id next in
    let here : is_complete d id ≡ true = is_complete-insertion c id b.0 b.1 (newest_leaf c id newer) id ∙ (λ k. (is_itself id k && parent k) || is_complete c id) in
    let further : AreComplete d (elements_of back) =
    all_map (λ q. is_complete c q ≡ true) (λ q. is_complete d q ≡ true) (λ q h. complete_still c (single (Insert id b.0 b.1)) q h) (elements_of back) all.1 in
    let later = restores back d replica (last + 1) (next ∙ sym leads.time) further in
    record {
      outcome = later.outcome;
      leads = leads_on c d later.outcome (Insert id b.0 b.1 ∷ []) (restorations replica (last + 1) back) 1 (length back) (suc (length back)) (omega arith) leads later.leads;
      stands = later.stands ∙ ap (put_back replica (last + 1) back) (order-newest c id newer b.0 b.1);
      complete = (subst (λ e. is_complete e id ≡ true) (sym later.leads.joined) (complete_still d (content_of (restorations replica (last + 1) back)) id here), later.complete);
    }

-- ---- the elements of a revert are complete

pub all_once : (P : Identifier → Type 0) (ids : List Identifier) → AllByRecursion P ids → AllByRecursion P (distinct_elements ids)
all_once P [] h = tt
all_once P (id ∷ ids) h = (h.0, all_filter P (λ x. not (is_id x id)) (distinct_elements ids) (all_once P ids h.1))

pub all_that_pass : (p : Identifier → Bool) (ids : List Identifier) → AllByRecursion (λ x. p x ≡ true) (filter p ids)
all_that_pass p [] = tt
all_that_pass p (id ∷ ids) = grind (arith, true, filter, false, all_that_pass p ids)

pub gone_complete : (c : Content) (gone : List Identifier) → AreComplete c (distinct_elements (filter (is_visible c) gone))
gone_complete c gone = grind (arith, all_map, is_visible, true, is_complete, and_parts, not, distinct_elements, filter, all_once, all_that_pass)

pub back_complete : (c : Content) (back : List (Identifier × ℕ)) → are_restorable c back ≡ true → AreComplete c (elements_of back)
back_complete c [] h = tt
back_complete c (b ∷ back) h =
    let parts = and_parts (is_complete c b.0 && not (among b.0 back)) (are_restorable c back) h in
    ((and_parts (is_complete c b.0) (not (among b.0 back)) parts.0).0, back_complete c back parts.1)

-- ---- a revert

pub record Reverts (c : Content) (replica : ℕ) (gone : List Identifier) (back : List (Identifier × ℕ)) : Type 0 where
  pub removed : Removes c (distinct_elements (filter (is_visible c) gone))
  pub now : clock_of c ≡ clock_of removed.outcome
  pub still : AreComplete removed.outcome (elements_of back)
  pub restored : Restores removed.outcome replica (clock_of c) back
  pub leads : Leads c restored.outcome (revert_operations replica c gone back) (length back)
  pub stands : order restored.outcome ≡ put_back replica (clock_of c) back (order c)

pub reverts : (c : Content) (replica : ℕ) (gone : List Identifier) (back : List (Identifier × ℕ)) → are_restorable c back ≡ true → Reverts c replica gone back
reverts c replica gone back able =
    let removed = removes (distinct_elements (filter (is_visible c) gone)) c (gone_complete c gone) in
    let now : clock_of c ≡ clock_of removed.outcome = omega (arith, removed.leads.time) in
    let still : AreComplete removed.outcome (elements_of back) =
    all_map (λ q. is_complete c q ≡ true) (λ q. is_complete removed.outcome q ≡ true) (λ q h. complete_by_order c removed.outcome removed.stays q ∙ h) (elements_of back) (back_complete c back able) in
    let restored = restores back removed.outcome replica (clock_of c) now still in
    record {
      removed = removed;
      now = now;
      still = still;
      restored = restored;
      leads = leads_on c removed.outcome restored.outcome (map Delete (distinct_elements (filter (is_visible c) gone))) (restorations replica (clock_of c) back) 0 (length back) (length back) (omega arith) removed.leads restored.leads;
      stands = restored.stands ∙ ap (put_back replica (clock_of c) back) removed.stays;
    }

pub revert_taken : (limit replica : ℕ) (c : Content) (gone : List Identifier) (back : List (Identifier × ℕ)) → revert_answer limit c back ≡ Ok tt → list_answer limit c (revert_operations replica c gone back) ≡ Ok tt
revert_taken limit replica c gone back h =
    let s = allowed limit c (are_restorable c back) (length back) h in
    let done = reverts c replica gone back s.1 in
    taken_if limit c done.restored.outcome (revert_operations replica c gone back) (length back) done.leads s.0

pub revert_order : (limit replica : ℕ) (c : Content) (gone : List Identifier) (back : List (Identifier × ℕ)) → revert_answer limit c back ≡ Ok tt → order (join c (content_of (revert_operations replica c gone back))) ≡ put_back replica (clock_of c) back (order c)
revert_order limit replica c gone back h =
    let s = allowed limit c (are_restorable c back) (length back) h in
    let done = reverts c replica gone back s.1 in
    ap order (sym done.leads.joined) ∙ done.stands
