-- How the links of elements grow by one, in the order of the elements.
use Rattle.std.proofs.Common.{◌≡◌, ◌≤◌, ◌<◌, ◌==◌, ℕ, zero, suc, Bool, true, false, cond, not, ◌||◌, List, [], ◌∷◌, ◌++◌, map, length, get_or, set, refl, sym, ap, ◌∙◌, subst, arith, inl, inr, true≢false}
use Rattle.std.specs.Prelude.{◌≢◌, Option, Some, None}
use Rattle.std.specs.List.{list_any, AllByRecursion, IsDistinct}
use Rattle.std.proofs.lemmas.Bool.{eqb-true, eqb-false, eq-eqb, ne_eqb, cases_eq, cases_order, not-true, not-false, not_from_false, false_from_ne_true, or_left, or_right, or_parts, or_from}
use Rattle.std.proofs.lemmas.List.{get_or_append_left, get_or_push, get_or-set_same, get_or-set_other, length-set, length_push}
use Rattle.std.proofs.lemmas.Map.Keys.{apart_from_distinct}
use Rattle.rga_ops.specs.Identifier.{Identifier, is_id, root}
use Rattle.rga_ops.specs.Placement.{change_after, put_behind}
use Rattle.rga_ops.proofs.IdentifierLaws.{is, is_itself, is_swap, is_id-same, is_id-itself}
use Rattle.rga_records.specs.Links.{IsNodeOf, IsLinkChain, AreLinked, with_link}
use Rattle.rga_records.specs.declared.linking.TheConstants.{WAITS}

-- ---- chains

-- an element directly behind another
abbrev put_after : ℕ → ℕ → List ℕ → List ℕ
put_after p new [] = []
put_after p new (i ∷ later) = cond (i == p) (i ∷ new ∷ later) (i ∷ put_after p new later)

-- an element directly behind a node
abbrev put_at : ℕ → ℕ → List ℕ → List ℕ
put_at zero new later = new ∷ later
put_at (suc p) new later = put_after p new later

chain_within : (next : List ℕ) (node : ℕ) (chain : List ℕ) → IsLinkChain next node chain → AllByRecursion (λ i. suc i < length next) chain
chain_within next node [] h = tt
chain_within next node (i ∷ later) h = (h.1, chain_within next (get_or next (suc i) 0) later h.2)

module _ (old new : List ℕ) (longer : length old ≤ length new) where
  -- other links change nothing
  chain_kept : (node : ℕ) (chain : List ℕ) → AllByRecursion (λ i. get_or new (suc i) 0 ≡ get_or old (suc i) 0) chain → IsLinkChain old node chain → IsLinkChain new node chain
  chain_kept node [] same h = h
  chain_kept node (i ∷ later) same h = (h.0, omega (arith, h.1, longer), subst (λ n. IsLinkChain new n later) (sym same.0) (chain_kept (get_or old (suc i) 0) later same.1 h.2))

  module _ (above : ℕ) (others : (n : ℕ) → n ≢ above → n < length old → get_or new n 0 ≡ get_or old n 0) where
    others_same : (chain : List ℕ) → AllByRecursion (λ i. suc i ≢ above) chain → AllByRecursion (λ i. suc i < length old) chain → AllByRecursion (λ i. get_or new (suc i) 0 ≡ get_or old (suc i) 0) chain
    others_same [] apart within = tt
    others_same (i ∷ later) apart within = (others (suc i) apart.0 within.0, others_same later apart.1 within.1)

    chain_apart : (node : ℕ) (chain : List ℕ) → AllByRecursion (λ i. suc i ≢ above) chain → IsLinkChain old node chain → IsLinkChain new node chain
    chain_apart node chain apart h = chain_kept node chain (others_same chain apart (chain_within old node chain h)) h

never_root : (chain : List ℕ) → AllByRecursion (λ i. suc i ≢ 0) chain
never_root [] = tt
never_root (i ∷ later) = (λ e. omega (arith, e), never_root later)

nodes_apart : (i : ℕ) (later : List ℕ) → AllByRecursion (λ j. (i == j) ≡ false) later → AllByRecursion (λ j. suc j ≢ suc i) later
nodes_apart i [] h = tt
nodes_apart i (j ∷ js) h = (λ e. eqb-false i j h.0 (omega (arith, e)), nodes_apart i js h.1)

module _ (old new : List ℕ) (longer : length old ≤ length new) (p m : ℕ) (fits : suc m < length new) (here : get_or new (suc p) 0 ≡ suc m) (there : get_or new (suc m) 0 ≡ get_or old (suc p) 0) (others : (n : ℕ) → n ≢ suc p → n < length old → get_or new n 0 ≡ get_or old n 0) where
  chain_put : (node : ℕ) (chain : List ℕ) → IsDistinct (λ i j. i == j) chain → IsLinkChain old node chain → IsLinkChain new node (put_after p m chain)
  unfolding IsDistinct
  chain_put node [] d h = h
  chain_put node (i ∷ later) d h = elim (i == p) as (λ b. (i == p) ≡ b → IsLinkChain new node (cond b (i ∷ m ∷ later) (i ∷ put_after p m later))) [
    | true ↦ λ t.
        let same : i ≡ p = eqb-true i p t in
        let apart : AllByRecursion (λ j. suc j ≢ suc p) later = subst (λ k. AllByRecursion (λ j. suc j ≢ suc k) later) same (nodes_apart i later d.0) in
        let rest : IsLinkChain new (get_or old (suc i) 0) later = chain_apart old new longer (suc p) others (get_or old (suc i) 0) later apart h.2 in
        let back : get_or old (suc i) 0 ≡ get_or new (suc m) 0 = ap (λ j. get_or old (suc j) 0) same ∙ sym there in
        let first : suc m ≡ get_or new (suc i) 0 = sym here ∙ ap (λ j. get_or new (suc j) 0) (sym same) in
        (h.0, omega (arith, h.1, longer), subst (λ n. IsLinkChain new n (m ∷ later)) first (refl, fits, subst (λ n. IsLinkChain new n later) back rest))
    | false ↦ λ f.
        let other : suc i ≢ suc p = λ e. eqb-false i p f (omega (arith, e)) in
        (h.0, omega (arith, h.1, longer), subst (λ n. IsLinkChain new n (put_after p m later)) (sym (others (suc i) other h.1)) (chain_put (get_or old (suc i) 0) later d.1 h.2))
  ] refl

-- ---- members

few_after : (p m : ℕ) (chain : List ℕ) → length (put_after p m chain) ≤ suc (length chain)
few_after p m [] = omega arith
few_after p m (i ∷ later) = grind (arith, few_after p m later)

others_after : (p m k : ℕ) (chain : List ℕ) → (m == k) ≡ false → list_any (λ j. j == k) (put_after p m chain) ≡ list_any (λ j. j == k) chain
others_after p m k [] other = refl
others_after p m k (i ∷ later) other = grind (arith, others_after p m k later other)

new_after : (p m : ℕ) (chain : List ℕ) → list_any (λ j. j == p) chain ≡ true → list_any (λ j. j == m) (put_after p m chain) ≡ true
new_after p m [] h = absurd (true≢false (sym h))
new_after p m (i ∷ later) h = elim (i == p) as (λ b. (b || list_any (λ j. j == p) later) ≡ true → list_any (λ j. j == m) (cond b (i ∷ m ∷ later) (i ∷ put_after p m later)) ≡ true) [
  | true ↦ λ t. or_right (i == m) (m == m || list_any (λ j. j == m) later) (or_left (m == m) (list_any (λ j. j == m) later) (eq-eqb m m refl))
  | false ↦ λ t. or_right (i == m) (list_any (λ j. j == m) (put_after p m later)) (new_after p m later t)
] h

few_at : (above m : ℕ) (chain : List ℕ) → length (put_at above m chain) ≤ suc (length chain)
few_at zero m chain = omega arith
few_at (suc p) m chain = few_after p m chain

others_at : (above m k : ℕ) (chain : List ℕ) → (m == k) ≡ false → list_any (λ j. j == k) (put_at above m chain) ≡ list_any (λ j. j == k) chain
others_at zero m k chain other = ap (λ b. b || list_any (λ j. j == k) chain) other
others_at (suc p) m k chain other = others_after p m k chain other

-- ---- identifiers

abbrev id_at : List Identifier → ℕ → Identifier
id_at ids i = get_or ids i root

abbrev pub AreWithin : ℕ → List ℕ → Type 0
AreWithin n chain = AllByRecursion (λ i. i < n) chain

beyond : (n : ℕ) (chain : List ℕ) → AreWithin n chain → list_any (λ j. j == n) chain ≡ false
beyond n [] h = refl
beyond n (i ∷ js) h = or_from (i == n) (list_any (λ j. j == n) js) (ne_eqb i n (λ e. omega (arith, e, h.0))) (beyond n js h.1)

distinct_indices : (ids : List Identifier) (chain : List ℕ) → IsDistinct is (map (id_at ids) chain) → IsDistinct (λ i j. i == j) chain
unfolding IsDistinct
distinct_indices ids [] d = tt
distinct_indices ids (i ∷ rest) d = (apart rest d.0, distinct_indices ids rest d.1)
  where
    apart : (js : List ℕ) → AllByRecursion (λ y. is (id_at ids i) y ≡ false) (map (id_at ids) js) → AllByRecursion (λ j. (i == j) ≡ false) js
    apart [] h = tt
    apart (j ∷ js) h = (
      false_from_ne_true (i == j) (λ t. true≢false (sym (is_itself (id_at ids i)) ∙ ap (λ k. is (id_at ids i) (id_at ids k)) (eqb-true i j t) ∙ h.0)),
      apart js h.1,
    )

module _ (ids : List Identifier) (id : Identifier) where
  names_kept : (chain : List ℕ) → AreWithin (length ids) chain → map (id_at (ids ++ id ∷ [])) chain ≡ map (id_at ids) chain
  names_kept [] h = refl
  names_kept (i ∷ js) h = λ k. get_or_append_left ids (id ∷ []) root i h.0 k ∷ names_kept js h.1 k

  module _ (distinct : IsDistinct is ids) (p : ℕ) (within : p < length ids) where
    same_test : (i : ℕ) → i < length ids → is_id (id_at ids i) (id_at ids p) ≡ (i == p)
    same_test i w = elim (cases_order i p) [
      | inl same ↦ ap (λ k. is_id (id_at ids i) (id_at ids k)) (sym same) ∙ is_id-itself (id_at ids i) ∙ sym (eq-eqb i p same)
      | inr rest ↦ elim rest [
        | inl less ↦ is_id-same (id_at ids i) (id_at ids p) ∙ is_swap (id_at ids p) (id_at ids i) ∙ apart_from_distinct is ids i p root distinct less within ∙ sym (ne_eqb i p (λ e. omega (arith, e, less)))
        | inr more ↦ is_id-same (id_at ids i) (id_at ids p) ∙ apart_from_distinct is ids p i root distinct more w ∙ sym (ne_eqb i p (λ e. omega (arith, e, more)))
      ]
    ]

    among : (chain : List ℕ) → AreWithin (length ids) chain → list_any (λ x. is_id x (id_at ids p)) (map (id_at ids) chain) ≡ list_any (λ j. j == p) chain
    among [] h = refl
    among (i ∷ js) h = λ k. same_test i h.0 k || among js h.1 k

    names_after : (chain : List ℕ) → AreWithin (length ids) chain → map (id_at (ids ++ id ∷ [])) (put_after p (length ids) chain) ≡ change_after (id_at ids p) (λ ys. id ∷ ys) (map (id_at ids) chain)
    names_after [] h = refl
    names_after (i ∷ js) h =
        let first : id_at (ids ++ id ∷ []) i ≡ id_at ids i = get_or_append_left ids (id ∷ []) root i h.0 in
        elim (i == p) as (λ b. map (id_at (ids ++ id ∷ [])) (cond b (i ∷ length ids ∷ js) (i ∷ put_after p (length ids) js)) ≡ cond b (id_at ids i ∷ id ∷ map (id_at ids) js) (id_at ids i ∷ change_after (id_at ids p) (λ ys. id ∷ ys) (map (id_at ids) js))) [
          | true ↦ λ k. first k ∷ get_or_push ids id root (length ids) refl k ∷ names_kept js h.1 k
          | false ↦ λ k. first k ∷ names_after js h.1 k
        ]
        ∙ ap (λ b. cond b (id_at ids i ∷ id ∷ map (id_at ids) js) (id_at ids i ∷ change_after (id_at ids p) (λ ys. id ∷ ys) (map (id_at ids) js))) (sym (same_test i h.0))

-- nothing comes in behind what is not there
after_none : (parent : Identifier) (change : List Identifier → List Identifier) (xs : List Identifier) → list_any (λ x. is_id x parent) xs ≡ false → change_after parent change xs ≡ xs
after_none parent change [] h = refl
after_none parent change (x ∷ xs) h =
    let parts : (is_id x parent ≡ false) × (list_any (λ y. is_id y parent) xs ≡ false) = or_parts (is_id x parent) (list_any (λ y. is_id y parent) xs) h in
    ap (λ b. cond b (x ∷ change xs) (x ∷ change_after parent change xs)) parts.0 ∙ ap (λ r. x ∷ r) (after_none parent change xs parts.1)

none_named : (test : Identifier → Bool) (ids : List Identifier) → list_any test ids ≡ false → (chain : List ℕ) → AreWithin (length ids) chain → list_any test (map (id_at ids) chain) ≡ false
none_named test ids none [] h = refl
none_named test ids none (i ∷ js) h = or_from (test (id_at ids i)) (list_any test (map (id_at ids) js)) (at ids i none h.0) (none_named test ids none js h.1)
  where
    at : (xs : List Identifier) (i : ℕ) → list_any test xs ≡ false → i < length xs → test (id_at xs i) ≡ false
    at [] i none w = absurd (omega (arith, w))
    at (x ∷ xs) zero none w = (or_parts (test x) (list_any test xs) none).0
    at (x ∷ xs) (suc i) none w = at xs i (or_parts (test x) (list_any test xs) none).1 (omega (arith, w))

-- ---- the links with one more node behind another

abbrev relinked : List ℕ → ℕ → List ℕ
relinked next above = set next above (length next) ++ get_or next above 0 ∷ []

relinked_length : (next : List ℕ) (above : ℕ) → length (relinked next above) ≡ suc (length next)
relinked_length next above = omega (arith, length_push (set next above (length next)) (get_or next above 0), length-set next above (length next))

relinked_old : (next : List ℕ) (above n : ℕ) → n < length next → get_or (relinked next above) n 0 ≡ get_or (set next above (length next)) n 0
relinked_old next above n w = get_or_append_left (set next above (length next)) (get_or next above 0 ∷ []) 0 n (omega (arith, w, length-set next above (length next)))

relinked_here : (next : List ℕ) (above : ℕ) → above < length next → get_or (relinked next above) above 0 ≡ length next
relinked_here next above there = relinked_old next above above there ∙ get_or-set_same next above (length next) 0 there

relinked_there : (next : List ℕ) (above n : ℕ) → length next ≡ n → get_or (relinked next above) n 0 ≡ get_or next above 0
relinked_there next above n last = get_or_push (set next above (length next)) (get_or next above 0) 0 n (length-set next above (length next) ∙ last)

relinked_others : (next : List ℕ) (above n : ℕ) → n ≢ above → n < length next → get_or (relinked next above) n 0 ≡ get_or next n 0
relinked_others next above n other w = relinked_old next above n w ∙ get_or-set_other next above n (length next) 0 other

-- ---- a step

module _ (order ids : List Identifier) (next : List ℕ) (l : AreLinked order ids next) where
  pub named_within : AreWithin (length ids) l.chain
  named_within = each l.chain (chain_within next (get_or next 0 0) l.chain l.linked)
    where
      each : (chain : List ℕ) → AllByRecursion (λ i. suc i < length next) chain → AreWithin (length ids) chain
      each [] h = tt
      each (i ∷ js) h = (omega (arith, h.0, l.counted), each js h.1)

  -- an element that waits
  pub step_waiting : (id : Identifier) (put : List Identifier) → put ≡ order → AreLinked put (ids ++ id ∷ []) (next ++ WAITS ∷ [])
  step_waiting id put same =
      let links : List ℕ = next ++ WAITS ∷ [] in
      let old : (n : ℕ) → n < length next → get_or links n 0 ≡ get_or next n 0 = λ n w. get_or_append_left next (WAITS ∷ []) 0 n w in
      record {
        chain = l.chain;
        counted = omega (arith, length_push next WAITS, length_push ids id, l.counted);
        linked = subst (λ n. IsLinkChain links n l.chain) (sym (old 0 (omega (arith, l.counted))))
            (chain_apart next links (omega (arith, length_push next WAITS)) 0 (λ n _ w. old n w) (get_or next 0 0) l.chain (never_root l.chain) l.linked);
        few = omega (arith, l.few, length_push ids id);
        ordered = names_kept ids id l.chain named_within ∙ l.ordered ∙ sym same;
        waiting = λ i w. elim (cases_eq i (length ids)) [
          | inl last ↦
              ap (λ n. n == WAITS) (get_or_push next WAITS 0 (suc i) (omega (arith, l.counted, last))) ∙ eq-eqb WAITS WAITS refl
              ∙ sym (not_from_false (list_any (λ j. j == i) l.chain) (ap (λ n. list_any (λ j. j == n) l.chain) last ∙ beyond (length ids) l.chain named_within))
          | inr other ↦
              let less : i < length ids = omega (arith, w, other, length_push ids id) in
              ap (λ n. n == WAITS) (old (suc i) (omega (arith, less, l.counted))) ∙ l.waiting i less
        ];
      }

  module _ (room : length next < WAITS) (above : ℕ) (there : above < length next) (free : (get_or next above 0 == WAITS) ≡ false) (id : Identifier) where
    abbrev chain_now : List ℕ
    chain_now = put_at above (length ids) l.chain

    still_waiting : list_any (λ j. j == length ids) chain_now ≡ true → (i : ℕ) → i < length (ids ++ id ∷ []) → (get_or (relinked next above) (suc i) 0 == WAITS) ≡ not (list_any (λ j. j == i) chain_now)
    still_waiting new i w = elim (cases_eq i (length ids)) [
      | inl last ↦
          ap (λ n. get_or (relinked next above) (suc n) 0 == WAITS) last ∙ ap (λ n. n == WAITS) (relinked_there next above (suc (length ids)) l.counted) ∙ free
          ∙ ap not (sym new) ∙ ap (λ n. not (list_any (λ j. j == n) chain_now)) (sym last)
      | inr other ↦
          let less : i < length ids = omega (arith, w, other, length_push ids id) in
          let old : list_any (λ j. j == i) chain_now ≡ list_any (λ j. j == i) l.chain = others_at above (length ids) i l.chain (ne_eqb (length ids) i (λ e. other (sym e))) in
          elim (cases_eq (suc i) above) [
            | inl same ↦
                ap (λ n. get_or (relinked next above) n 0 == WAITS) same ∙ ap (λ n. n == WAITS) (relinked_here next above there)
                ∙ ne_eqb (length next) WAITS (λ e. omega (arith, e, room))
                ∙ sym free ∙ ap (λ n. get_or next n 0 == WAITS) (sym same) ∙ l.waiting i less ∙ ap not (sym old)
            | inr apart ↦ ap (λ n. n == WAITS) (relinked_others next above (suc i) apart (omega (arith, less, l.counted))) ∙ l.waiting i less ∙ ap not (sym old)
          ]
    ]

    -- an element directly behind a node that does not wait
    step_linked : (put : List Identifier) → IsLinkChain (relinked next above) (get_or (relinked next above) 0 0) chain_now → map (id_at (ids ++ id ∷ [])) chain_now ≡ put
        → list_any (λ j. j == length ids) chain_now ≡ true → AreLinked put (ids ++ id ∷ []) (relinked next above)
    step_linked put chained named new = record {
      chain = chain_now;
      counted = omega (arith, relinked_length next above, length_push ids id, l.counted);
      linked = chained;
      few = omega (arith, few_at above (length ids) l.chain, l.few, length_push ids id);
      ordered = named;
      waiting = still_waiting new;
    }

  module _ (parent id : Identifier) (distinct : IsDistinct is ids) (once : IsDistinct is order) (room : length next < WAITS) where
    abbrev put : List Identifier
    put = put_behind parent id order

    step_behind : (above : ℕ) → IsNodeOf parent ids (Some above) → (get_or next above 0 == WAITS) ≡ false → AreLinked put (ids ++ id ∷ []) (relinked next above)
    step_behind zero h free =
        let links : List ℕ = relinked next 0 in
        let there : 0 < length next = omega (arith, l.counted) in
        step_linked room 0 there free id put (
          relinked_here next 0 there ∙ l.counted,
          omega (arith, relinked_length next 0, l.counted),
          subst (λ n. IsLinkChain links n l.chain) (sym (relinked_there next 0 (suc (length ids)) l.counted))
              (chain_apart next links (omega (arith, relinked_length next 0)) 0 (relinked_others next 0) (get_or next 0 0) l.chain (never_root l.chain) l.linked),
        )
        ((λ k. get_or_push ids id root (length ids) refl k ∷ (names_kept ids id l.chain named_within ∙ l.ordered) k)
        ∙ ap (λ b. cond b (id ∷ order) (change_after parent (λ ys. id ∷ ys) order)) (sym h))
        (or_left (length ids == length ids) (list_any (λ j. j == length ids) l.chain) (eq-eqb (length ids) (length ids) refl))
    step_behind (suc p) h free =
        let links : List ℕ = relinked next (suc p) in
        let there : suc p < length next = omega (arith, l.counted, h.1) in
        let start : get_or links 0 0 ≡ get_or next 0 0 = relinked_others next (suc p) 0 (λ e. omega (arith, e)) (omega (arith, l.counted)) in
        step_linked room (suc p) there free id put
        (subst (λ n. IsLinkChain links n (put_after p (length ids) l.chain)) (sym start)
        (chain_put next links (omega (arith, relinked_length next (suc p))) p (length ids) (omega (arith, relinked_length next (suc p), l.counted))
        (relinked_here next (suc p) there ∙ l.counted) (relinked_there next (suc p) (suc (length ids)) l.counted) (relinked_others next (suc p))
        (get_or next 0 0) l.chain (distinct_indices ids l.chain (subst (IsDistinct is) (sym l.ordered) once)) l.linked))
        (names_after ids id distinct p h.1 l.chain named_within
        ∙ (λ k. change_after (h.2 k) (λ ys. id ∷ ys) (l.ordered k))
        ∙ ap (λ b. cond b (id ∷ order) (change_after parent (λ ys. id ∷ ys) order)) (sym h.0))
        (new_after p (length ids) l.chain (not-false (list_any (λ j. j == p) l.chain) (sym (l.waiting p h.1) ∙ free)))

    -- nothing comes in behind a node that waits
    absent : (above : ℕ) → IsNodeOf parent ids (Some above) → (get_or next above 0 == WAITS) ≡ true → put ≡ order
    absent zero h waits = absurd (linked l.chain l.linked (eqb-true (get_or next 0 0) WAITS waits))
      where
        linked : (chain : List ℕ) → IsLinkChain next (get_or next 0 0) chain → get_or next 0 0 ≡ WAITS → ⊥
        linked [] first e = omega (arith, first, e, room)
        linked (i ∷ js) first e = omega (arith, first.0, first.1, e, room)
    absent (suc p) h waits =
        ap (λ b. cond b (id ∷ order) (change_after parent (λ ys. id ∷ ys) order)) h.0
        ∙ after_none parent (λ ys. id ∷ ys) order
        (ap (λ q. list_any (λ x. is_id x q) order) (sym h.2) ∙ ap (list_any (λ x. is_id x (id_at ids p))) (sym l.ordered)
        ∙ among ids id distinct p h.1 l.chain named_within ∙ not-true (list_any (λ j. j == p) l.chain) (sym (l.waiting p h.1) ∙ waits))

    -- nor behind what has no node
    unknown : IsNodeOf parent ids None → put ≡ order
    unknown h =
        ap (λ b. cond b (id ∷ order) (change_after parent (λ ys. id ∷ ys) order)) h.0
        ∙ after_none parent (λ ys. id ∷ ys) order (ap (list_any (λ x. is_id x parent)) (sym l.ordered) ∙ none_named (λ x. is_id x parent) ids h.1 l.chain named_within)

    -- one more element, behind its parent or waiting
    pub step : (above : Option ℕ) → IsNodeOf parent ids above → AreLinked put (ids ++ id ∷ []) (with_link above next)
    step None h = step_waiting id put (unknown h)
    step (Some above) h = elim (get_or next above 0 == WAITS) as (λ b. (get_or next above 0 == WAITS) ≡ b → AreLinked put (ids ++ id ∷ []) (cond b (next ++ WAITS ∷ []) (relinked next above))) [
      | true ↦ λ t. step_waiting id put (absent above h t)
      | false ↦ λ f. step_behind above h f
    ] refl
