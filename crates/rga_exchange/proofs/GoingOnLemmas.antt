-- The insertions that go on with a run, and the deletions that do.
use Rattle.std.proofs.Common.{◌≡◌, ℕ, zero, suc, ◌+◌, ◌-◌, ◌<◌, ◌≤◌, true, false, cond, nat_lt, append_assoc, append-nil, Ok, List, [], ◌∷◌, ◌++◌, length, Option, Some, None, refl, sym, ap, subst, ◌∙◌, arith, inl, inr}
use Rattle.std.specs.Prelude.{option_and_then}
use Rattle.std.specs.Option.{option_map, option_map_or}
use Rattle.std.specs.FinMap as finite_map
use Rattle.std.specs.FinSet as finite_set
use Rattle.std.proofs.lemmas.Bool.{and_parts, ltb-true, leb-false, cases_Bool, cond-true, false_from_ne_true}
use Rattle.std.proofs.lemmas.Option.{cond_some, option_and_then_some, none-some, same_Some}
use Rattle.std.proofs.lemmas.List.{length_push}
use Rattle.rga_ops.specs.Operation.{checked}
use Rattle.rga_ops.specs.declared.op.Op.TheVariants.{Insert}
use Rattle.rga_ops.proofs.AnswerLaws.{well_formed_insertion}
use Rattle.rga_ops.specs.Identifier.{Identifier, is_id}
use Rattle.rga_ops.specs.Content.{element, Content}
use Rattle.rga_ops.specs.declared.id.TheConstants.Id.{MAX_COUNTER}
use Rattle.rga_ops.proofs.IdentifierLaws.{is_id-is}
use Rattle.rga_lines.specs.Runs.{next, IsRun}
use Rattle.rga_lines.specs.Spelling.{IsElement}
use Rattle.rga_lines.specs.declared.run.TheConstants.{MAX_RUN}
use Rattle.rga_lines.proofs.ReadBack.{within as in_bounds}
use Rattle.rga_exchange.specs.Compacting.{character_below, next_character, going_on, run_of, is_next_deleted, deletions_behind}

-- the next identifier is an element's too
next_within : (last : Identifier) → IsElement last → last.counter < MAX_COUNTER → IsElement (next last)
next_within last within below = grind arith

-- ---- a list that is made step by step

module _ {S : Type 0} (go : S → ℕ → List ℕ) where
  -- These are the first of a list of so many at most; the others go on from this state.
  pub record IsBegun (max : ℕ) (all xs : List ℕ) (s : S) : Type 0 where
    pub going : xs ++ go s (max - length xs) ≡ all
    pub room : length xs ≤ max

  pub begun_more : (max : ℕ) (all xs : List ℕ) (s t : S) (x : ℕ) → IsBegun max all xs s → length xs < max → ((room : ℕ) → go s (suc room) ≡ x ∷ go t room) → IsBegun max all (xs ++ x ∷ []) t
  begun_more max all xs s t x begun less step =
      let room : ℕ = max - (length xs + 1) in
      let one : length (xs ++ x ∷ []) ≡ length xs + 1 = length_push xs x in
      let more : max - length xs ≡ suc room = omega (arith, less) in
      let fewer : max - length (xs ++ x ∷ []) ≡ room = omega (arith, one) in
      record {
        going = ap (λ r. (xs ++ x ∷ []) ++ go t r) fewer
            ∙ append_assoc xs (x ∷ []) (go t room)
            ∙ ap (λ (ds : List ℕ). xs ++ ds) (sym (step room))
            ∙ ap (λ r. xs ++ go s r) (sym more)
            ∙ begun.going;
        room = omega (arith, one, less);
      }

  -- no further one goes on
  pub begun_whole : (max : ℕ) (all xs : List ℕ) (s : S) → IsBegun max all xs s → go s (max - length xs) ≡ [] → xs ≡ all
  begun_whole max all xs s begun none = sym (append-nil xs) ∙ ap (λ (ds : List ℕ). xs ++ ds) (sym none) ∙ begun.going

module _ (c : Content) where
  pub record IsNext (last : Identifier) (ch : ℕ) : Type 0 where
    pub held : finite_map.get c.inserted (next last) ≡ Some (element last ch)
    pub below : last.counter < MAX_COUNTER

  pub next_is : (last : Identifier) (ch : ℕ) → next_character c last ≡ Some ch → IsNext last ch
  next_is last ch h = elim (nat_lt last.counter MAX_COUNTER) as (λ b. nat_lt last.counter MAX_COUNTER ≡ b → cond b (option_and_then (character_below last) (finite_map.get c.inserted (next last))) None ≡ Some ch → IsNext last ch) [
    | true ↦ λ within g. record {
      held = option_and_then_some (character_below last) (finite_map.get c.inserted (next last)) ch g (λ x found is.
          let p = cond_some (is_id x.parent last) x.ch ch is in
          found ∙ (λ k. Some (element (is_id-is x.parent last p.0 k) (p.1 k))));
      below = ltb-true last.counter MAX_COUNTER within;
    }
    | false ↦ λ within g. absurd (none-some ch g)
  ] refl h

  -- what is found to go on, or nothing
  abbrev with_next : Identifier → Option ℕ → Option (Identifier × ℕ)
  with_next last o = option_map (λ ch. (next last, ch)) o

  found_next : (last : Identifier) (p : Identifier × ℕ) → Some p ≡ with_next last (next_character c last) → (next_character c last ≡ Some p.1) × (p.0 ≡ next last)
  found_next last p h = elim (next_character c last) as (λ o. Some p ≡ with_next last o → (o ≡ Some p.1) × (p.0 ≡ next last)) [
    | None ↦ λ g. absurd (none-some p (sym g))
    | Some ch ↦ λ g. let same = same_Some p (next last, ch) g in (ap (λ (q : Identifier × ℕ). Some q.1) (sym same), ap (λ (q : Identifier × ℕ). q.0) same)
  ] h

  pub found_none : (last : Identifier) → None ≡ with_next last (next_character c last) → next_character c last ≡ None
  found_none last h = elim (next_character c last) as (λ o. None ≡ with_next last o → o ≡ None) [
    | None ↦ λ g. refl
    | Some ch ↦ λ g. absurd (none-some (next last, ch) g)
  ] h

  -- ---- one step

  pub goes_on : (last : Identifier) (room ch : ℕ) → next_character c last ≡ Some ch → going_on c last (suc room) ≡ ch ∷ going_on c (next last) room
  unfolding going_on
  goes_on last room ch h = ap (λ o. option_map_or (λ d. d ∷ going_on c (next last) room) o []) h

  pub stops : (last : Identifier) (room : ℕ) → next_character c last ≡ None → going_on c last (suc room) ≡ []
  unfolding going_on
  stops last room h = ap (λ o. option_map_or (λ d. d ∷ going_on c (next last) room) o []) h

  pub has_no_room : (last : Identifier) → going_on c last 0 ≡ []
  unfolding going_on
  has_no_room last = refl

  -- ---- how many there are

  pub length-going_on : (last : Identifier) (room : ℕ) → length (going_on c last room) ≤ room
  unfolding going_on
  length-going_on last zero = omega arith
  length-going_on last (suc room) = elim (next_character c last) as (λ o. length (option_map_or (λ d. d ∷ going_on c (next last) room) o []) ≤ suc room) [
    | None ↦ omega arith
    | Some ch ↦ omega (arith, length-going_on (next last) room)
  ]

  -- none has a counter above the greatest
  pub counters_within : (last : Identifier) (room : ℕ) → last.counter ≤ MAX_COUNTER → last.counter + length (going_on c last room) ≤ MAX_COUNTER
  unfolding going_on
  counters_within last zero within = omega (arith, within)
  counters_within last (suc room) within = elim (next_character c last) as (λ o. next_character c last ≡ o → last.counter + length (option_map_or (λ d. d ∷ going_on c (next last) room) o []) ≤ MAX_COUNTER) [
    | None ↦ λ is. omega (arith, within)
    | Some ch ↦ λ is. let below : last.counter < MAX_COUNTER = (next_is last ch is).below in omega (arith, counters_within (next last) room (omega (arith, below)))
  ] refl

  -- where none goes on, no room matters
  stops_in : (last : Identifier) (room : ℕ) → next_character c last ≡ None → going_on c last room ≡ []
  stops_in last zero h = has_no_room last
  stops_in last (suc room) h = stops last room h

  -- ---- a run that is made step by step

  -- These characters are the first of the run that begins with an insertion; this is the last one's identifier.
  pub record IsRunBegun (max : ℕ) (id : Identifier) (ch : ℕ) (chars : List ℕ) (last : Identifier) : Type 0 where
    pub begun : IsBegun (going_on c) max (ch ∷ going_on c id (max - 1)) chars last
    pub within : IsElement last

  pub begun_first : (max : ℕ) (id : Identifier) (ch : ℕ) → 0 < max → IsElement id → IsRunBegun max id ch (ch ∷ []) id
  begun_first max id ch some within = record { begun = record { going = refl; room = omega (arith, some) }; within = within }

  -- the next one was found, and put behind them
  pub grown : (max : ℕ) (id : Identifier) (ch : ℕ) (chars more : List ℕ) (last : Identifier) (p : Identifier × ℕ) → IsRunBegun max id ch chars last → length chars < max → Some p ≡ with_next last (next_character c last) → more ≡ chars ++ p.1 ∷ [] → IsRunBegun max id ch more p.0
  grown max id ch chars more last p h less is put =
      let found = found_next last p is in
      subst (λ (i : Identifier). IsRunBegun max id ch more i) (sym found.1) (subst (λ (cs : List ℕ). IsRunBegun max id ch cs (next last)) (sym put) (record {
        begun = begun_more (going_on c) max (ch ∷ going_on c id (max - 1)) chars last (next last) p.1 h.begun less (λ room. goes_on last room p.1 found.0);
        within = next_within last h.within (next_is last p.1 found.0).below;
      }))

  -- no further one goes on, or there is no room for one
  pub begun_ends : (max : ℕ) (id : Identifier) (ch : ℕ) (chars : List ℕ) (last : Identifier) → IsRunBegun max id ch chars last → next_character c last ≡ None → chars ≡ ch ∷ going_on c id (max - 1)
  begun_ends max id ch chars last h is = begun_whole (going_on c) max (ch ∷ going_on c id (max - 1)) chars last h.begun (stops_in last (max - length chars) is)

  pub begun_full : (max : ℕ) (id : Identifier) (ch : ℕ) (chars : List ℕ) (last : Identifier) → IsRunBegun max id ch chars last → max ≤ length chars → chars ≡ ch ∷ going_on c id (max - 1)
  begun_full max id ch chars last h full =
      let none : max - length chars ≡ 0 = omega (arith, full) in
      begun_whole (going_on c) max (ch ∷ going_on c id (max - 1)) chars last h.begun (ap (going_on c last) none ∙ has_no_room last)

  -- ---- the run of an insertion

  pub is_run : (id parent : Identifier) (ch : ℕ) → checked (Insert id parent ch) ≡ Ok tt → IsElement id → IsRun (run_of c (id, element parent ch))
  is_run id parent ch ok within =
      let chars : List ℕ = going_on c id (MAX_RUN - 1) in
      let end : id.counter + length chars ≤ MAX_COUNTER = counters_within id (MAX_RUN - 1) (in_bounds id within).counter in
      record {
        some = omega arith;
        few = omega (arith, length-going_on id (MAX_RUN - 1));
        end = omega (arith, end);
        rising = leb-false id.counter parent.counter (well_formed_insertion id parent ch ok).1;
      }

  -- ---- deletions

  pub record IsNextDeleted (last : Identifier) : Type 0 where
    pub held : finite_set.contains c.deleted (next last) ≡ true
    pub below : last.counter < MAX_COUNTER

  pub next_deleted_is : (last : Identifier) → is_next_deleted c last ≡ true → IsNextDeleted last
  next_deleted_is last h =
      let p = and_parts (nat_lt last.counter MAX_COUNTER) (finite_set.contains c.deleted (next last)) h in
      record { held = p.1; below = ltb-true last.counter MAX_COUNTER p.0 }

  -- what was found to be deleted next, or that nothing is
  pub found_deleted : (last id : Identifier) → Some id ≡ cond (is_next_deleted c last) (Some (next last)) None → (is_next_deleted c last ≡ true) × (id ≡ next last)
  found_deleted last id h = let p = cond_some (is_next_deleted c last) (next last) id (sym h) in (p.0, sym p.1)

  pub found_none_deleted : (last : Identifier) → None ≡ cond (is_next_deleted c last) (Some (next last)) None → is_next_deleted c last ≡ false
  found_none_deleted last h = false_from_ne_true (is_next_deleted c last) (λ is. none-some (next last) (h ∙ cond-true (is_next_deleted c last) (Some (next last)) None is))

  pub one_deleted : (last : Identifier) (room : ℕ) → is_next_deleted c last ≡ true → deletions_behind c last (suc room) ≡ suc (deletions_behind c (next last) room)
  unfolding deletions_behind
  one_deleted last room h = ap (λ b. cond b (suc (deletions_behind c (next last) room)) 0) h

  pub none_deleted : (last : Identifier) (room : ℕ) → is_next_deleted c last ≡ false → deletions_behind c last room ≡ 0
  unfolding deletions_behind
  none_deleted last zero h = refl
  none_deleted last (suc room) h = ap (λ b. cond b (suc (deletions_behind c (next last) room)) 0) h

  pub no_room_deleted : (last : Identifier) → deletions_behind c last 0 ≡ 0
  unfolding deletions_behind
  no_room_deleted last = refl

  pub few_deleted : (last : Identifier) (room : ℕ) → deletions_behind c last room ≤ room
  few_deleted last zero = omega (arith, no_room_deleted last)
  few_deleted last (suc room) = elim (cases_Bool (is_next_deleted c last)) [
    | inl is ↦ omega (arith, one_deleted last room is, few_deleted (next last) room)
    | inr is ↦ omega (arith, none_deleted last (suc room) is)
  ]

  -- none has a counter above the greatest
  pub deleted_within : (last : Identifier) (room : ℕ) → last.counter ≤ MAX_COUNTER → last.counter + deletions_behind c last room ≤ MAX_COUNTER
  deleted_within last zero within = omega (arith, no_room_deleted last, within)
  deleted_within last (suc room) within = elim (cases_Bool (is_next_deleted c last)) [
    | inl is ↦
        let below : last.counter < MAX_COUNTER = (next_deleted_is last is).below in
        omega (arith, one_deleted last room is, deleted_within (next last) room (omega (arith, below)))
    | inr is ↦ omega (arith, none_deleted last (suc room) is, within)
  ]

  -- So many deletions of the run that begins with one were found; this is the last one's identifier.
  pub record IsCounted (most : ℕ) (id : Identifier) (count : ℕ) (last : Identifier) : Type 0 where
    pub going : count + deletions_behind c last (most - count) ≡ suc (deletions_behind c id (most - 1))
    pub room : count ≤ most
    pub within : IsElement last

  pub counted_first : (most : ℕ) (id : Identifier) → 0 < most → IsElement id → IsCounted most id 1 id
  counted_first most id some within = record { going = omega arith; room = omega (arith, some); within = within }

  pub counted_next : (most : ℕ) (id : Identifier) (count : ℕ) (last found : Identifier) → IsCounted most id count last → count < most → Some found ≡ cond (is_next_deleted c last) (Some (next last)) None → IsCounted most id (count + 1) found
  counted_next most id count last found counted less is =
      let p = found_deleted last found is in
      let room : ℕ = most - (count + 1) in
      let more : most - count ≡ suc room = omega (arith, less) in
      let one : deletions_behind c last (most - count) ≡ suc (deletions_behind c (next last) room) = ap (deletions_behind c last) more ∙ one_deleted last room p.0 in
      subst (λ (i : Identifier). IsCounted most id (count + 1) i) (sym p.1) (record {
        going = omega (arith, one, counted.going);
        room = omega (arith, less);
        within = next_within last counted.within (next_deleted_is last p.0).below;
      })

  pub counted_whole : (most : ℕ) (id : Identifier) (count : ℕ) (last : Identifier) → IsCounted most id count last → is_next_deleted c last ≡ false → count ≡ suc (deletions_behind c id (most - 1))
  counted_whole most id count last counted is = omega (arith, none_deleted last (most - count) is, counted.going)

  pub counted_full : (most : ℕ) (id : Identifier) (count : ℕ) (last : Identifier) → IsCounted most id count last → most ≤ count → count ≡ suc (deletions_behind c id (most - 1))
  counted_full most id count last counted full =
      let none : most - count ≡ 0 = omega (arith, full) in
      let is : deletions_behind c last (most - count) ≡ 0 = ap (deletions_behind c last) none ∙ no_room_deleted last in
      omega (arith, is, counted.going)
