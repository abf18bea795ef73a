-- Elements that were met before, in the lists of a revert.
use Rattle.std.proofs.Common.{arith}
use Rattle.rga_doc.proofs.Prelude.{◌≡◌, ℕ, Bool, true, false, cond, not, ◌&&◌, ◌||◌, List, [], ◌∷◌, map, filter, refl, sym, ap, ◌∙◌, list_any, AllByRecursion, and_parts, or_parts, not-true, Identifier, is_id, Content, is_complete, without, is}
use Rattle.rga_doc.proofs.Prelude.{is_swap, is_id-same, distinct_elements, are_restorable}

pub id_swap : (a b : Identifier) → is_id a b ≡ is_id b a
id_swap a b = is_id-same a b ∙ is_swap b a ∙ sym (is_id-same b a)

abbrev pub none_seen : (Identifier → Bool) → List (Identifier × ℕ) → Bool
none_seen seen [] = true
none_seen seen (b ∷ back) = not (seen b.0) && none_seen seen back

-- whether what is left can be restored, where some were met before
abbrev pub left_able : Content → (Identifier → Bool) → List (Identifier × ℕ) → Bool
left_able c seen back = are_restorable c back && none_seen seen back

abbrev pub among : Identifier → List (Identifier × ℕ) → Bool
among id back = list_any (λ (x : Identifier × ℕ). is_id x.0 id) back

pub none_at_first : (seen : Identifier → Bool) (back : List (Identifier × ℕ)) → ((q : Identifier) → seen q ≡ false) → none_seen seen back ≡ true
none_at_first seen [] h = refl
none_at_first seen (b ∷ back) h = λ k. not (h b.0 k) && none_at_first seen back h k

unseen_more : (seen now : Identifier → Bool) (x : Identifier) (back : List (Identifier × ℕ)) → ((q : Identifier) → now q ≡ (is_id x q || seen q)) → none_seen now back ≡ (not (among x back) && none_seen seen back)
unseen_more seen now x [] h = refl
unseen_more seen now x (b ∷ back) h = grind (arith, not, id_swap, is_id, true, false, unseen_more seen now x back h)

pub able_on : (c : Content) (seen now : Identifier → Bool) (b : Identifier × ℕ) (back : List (Identifier × ℕ)) → is_complete c b.0 ≡ true → seen b.0 ≡ false → ((q : Identifier) → now q ≡ (is_id b.0 q || seen q)) → left_able c now back ≡ left_able c seen (b ∷ back)
able_on c seen now b back complete new h =
    ap (λ t. are_restorable c back && t) (unseen_more seen now b.0 back h)
    ∙ by (among b.0 back) (are_restorable c back) (none_seen seen back)
    ∙ (λ k. ((sym complete k && not (among b.0 back)) && are_restorable c back) && (not (sym new k) && none_seen seen back))
  where
    by : (m r n : Bool) → (r && (not m && n)) ≡ (((true && not m) && r) && (not false && n))
    by true true n = refl
    by true false n = refl
    by false true n = refl
    by false false n = refl

pub not_complete : (c : Content) (seen : Identifier → Bool) (b : Identifier × ℕ) (back : List (Identifier × ℕ)) → is_complete c b.0 ≡ false → left_able c seen (b ∷ back) ≡ false
not_complete c seen b back h = ap (λ t. ((t && not (among b.0 back)) && are_restorable c back) && (not (seen b.0) && none_seen seen back)) h

-- ---- elements that are apart

abbrev pub elements_of : List (Identifier × ℕ) → List Identifier
elements_of back = map (λ (b : Identifier × ℕ). b.0) back

abbrev pub AreApart : List (Identifier × ℕ) → Type 0
AreApart [] = Unit {0}
AreApart (b ∷ back) = AllByRecursion (λ q. is q b.0 ≡ false) (elements_of back) × AreApart back

pub not_among : (id : Identifier) (back : List (Identifier × ℕ)) → among id back ≡ false → AllByRecursion (λ q. is q id ≡ false) (elements_of back)
not_among id [] h = tt
not_among id (b ∷ back) h =
    let parts : (is_id b.0 id ≡ false) × (among id back ≡ false) = or_parts (is_id b.0 id) (among id back) h in
    (is_swap b.0 id ∙ sym (is_id-same b.0 id) ∙ parts.0, not_among id back parts.1)

pub apart_if_restorable : (c : Content) (back : List (Identifier × ℕ)) → are_restorable c back ≡ true → AreApart back
apart_if_restorable c [] h = tt
apart_if_restorable c (b ∷ back) h =
    let parts = and_parts (is_complete c b.0 && not (among b.0 back)) (are_restorable c back) h in
    let other : not (among b.0 back) ≡ true = (and_parts (is_complete c b.0) (not (among b.0 back)) parts.0).1 in
    (not_among b.0 back (not-true (among b.0 back) other), apart_if_restorable c back parts.1)

-- ---- each once

abbrev pub new_only : (Identifier → Bool) → List Identifier → List Identifier
new_only seen ids = filter (λ q. not (seen q)) ids

pub all_new : (seen : Identifier → Bool) (ids : List Identifier) → ((q : Identifier) → seen q ≡ false) → new_only seen ids ≡ ids
all_new seen [] h = refl
all_new seen (x ∷ ids) h = ap (λ t. cond (not t) (x ∷ new_only seen ids) (new_only seen ids)) (h x) ∙ ap (λ r. x ∷ r) (all_new seen ids h)

without_new : (seen now : Identifier → Bool) (x : Identifier) (ids : List Identifier) → ((q : Identifier) → now q ≡ (is_id x q || seen q)) → new_only seen (without x ids) ≡ new_only now ids
without_new seen now x [] h = refl
without_new seen now x (y ∷ ids) h = grind (arith, is_id, not, without, true, id_swap, false, without_new seen now x ids h)

once_met : (seen now : Identifier → Bool) (x : Identifier) (ids : List Identifier) → seen x ≡ true → ((q : Identifier) → now q ≡ (is_id x q || seen q)) → new_only seen (distinct_elements (x ∷ ids)) ≡ new_only now (distinct_elements ids)
once_met seen now x ids h more = ap (λ s. cond (not s) (x ∷ new_only seen (without x (distinct_elements ids))) (new_only seen (without x (distinct_elements ids)))) h ∙ without_new seen now x (distinct_elements ids) more

once_new : (seen now : Identifier → Bool) (x : Identifier) (ids : List Identifier) → seen x ≡ false → ((q : Identifier) → now q ≡ (is_id x q || seen q)) → new_only seen (distinct_elements (x ∷ ids)) ≡ x ∷ new_only now (distinct_elements ids)
once_new seen now x ids h more = ap (λ s. cond (not s) (x ∷ new_only seen (without x (distinct_elements ids))) (new_only seen (without x (distinct_elements ids)))) h ∙ ap (λ r. x ∷ r) (without_new seen now x (distinct_elements ids) more)

-- the same of those that are to be kept, at one that is not, one that was met and a new one
module _ (keeps seen : Identifier → Bool) (x : Identifier) (ids : List Identifier) where
  at_first : (b : Bool) → keeps x ≡ b → new_only seen (distinct_elements (filter keeps (x ∷ ids))) ≡ new_only seen (distinct_elements (cond b (x ∷ filter keeps ids) (filter keeps ids)))
  at_first b h = ap (λ t. new_only seen (distinct_elements (cond t (x ∷ filter keeps ids) (filter keeps ids)))) h

  pub not_kept : keeps x ≡ false → new_only seen (distinct_elements (filter keeps (x ∷ ids))) ≡ new_only seen (distinct_elements (filter keeps ids))
  not_kept h = at_first false h

  pub kept_met : (now : Identifier → Bool) → keeps x ≡ true → seen x ≡ true → ((q : Identifier) → now q ≡ (is_id x q || seen q)) → new_only seen (distinct_elements (filter keeps (x ∷ ids))) ≡ new_only now (distinct_elements (filter keeps ids))
  kept_met now h met more = at_first true h ∙ once_met seen now x (filter keeps ids) met more

  pub kept_new : (now : Identifier → Bool) → keeps x ≡ true → seen x ≡ false → ((q : Identifier) → now q ≡ (is_id x q || seen q)) → new_only seen (distinct_elements (filter keeps (x ∷ ids))) ≡ x ∷ new_only now (distinct_elements (filter keeps ids))
  kept_new now h new more = at_first true h ∙ once_new seen now x (filter keeps ids) new more
