-- Insertions that are taken at once: where they lead, and what is shown then.
use Rattle.std.proofs.lemmas.Bool.Decides.{nat_tests}
use Rattle.std.proofs.Common.{◌≡◌, ℕ, ◌<◌, ◌+◌, ◌-◌, nat_le, ◌||◌, true, false, List, [], ◌∷◌, ◌++◌, length, take, drop, slice_index_or, refl, sym, ap, ◌∙◌, subst, arith, append_assoc}
use Rattle.std.specs.Prelude.{Result, Some, Ok, Err, IfErr, not, ◌&&◌}
use Rattle.std.specs.FinMap as finite_map
use Rattle.std.specs.FinSet as finite_set
use Rattle.std.specs.Ordering.{is_gt, ordering_reverse}
use Rattle.std.specs.BTreeSet.{contains}
use Rattle.std.proofs.lemmas.List.{drop-drop, take_more, take_rest, take-append-drop}
use Rattle.rga_ops.specs.Identifier.{Identifier, id_cmp, is_root}
use Rattle.rga_ops.specs.Content.{element, Content, IsSound, IsWithin, join, single, clock_of}
use Rattle.rga_ops.specs.Answer.{answer, after_answer, taken, and_take, taken_one_by_one}
use Rattle.rga_ops.specs.declared.op.Op.{Op}
use Rattle.rga_ops.specs.declared.op.Op.TheVariants.{Insert}
use Rattle.rga_ops.specs.declared.refusal.Taken.TheVariants.{New}
use Rattle.rga_ops.specs.declared.refusal.Refusal.{Refusal}
use Rattle.rga_ops.proofs.IdentifierLaws.{ids_total}
use Rattle.rga_ops.proofs.AnswerLaws.{new-iff, IsNewInsertion, new_insertion, well_formed_insertion}
use Rattle.rga_ops.proofs.ContentLaws.{within_join, within_chain}
use Rattle.rga_ops.proofs.GrowLaws.{complete_stays}
use Rattle.rga_ops.proofs.InsertionLaws.{contains-insertion}
use Rattle.rga_ops.proofs.NewestLaws.{lower_counter}
use Rattle.rga_store.proofs.WithoutLaws.{new_held}
use Rattle.rga_sequence.specs.declared.entry.Entry.{Entry}
use Rattle.rga_sequence.specs.Entries.{has, put_entry, put_chain, CanFollow, IsChain}
use Rattle.rga_records.specs.Chains.{last_entry_of}
use Rattle.rga_store.specs.declared.steps.Step.{Step}
use Rattle.rga_store.specs.Back.{without_noted}
use Rattle.rga_flat.specs.Chains.{IsGathered, ChainShows}
use Rattle.rga_flat.specs.Flat.{is_above, IsFlat}
use Rattle.rga_flat.specs.Placing.{IsPlacing}
use Rattle.rga_flat.specs.Waiting.{Waiting, under, has_list, is_listed}
use Rattle.rga_ops.proofs.TakenLaws.{one_by_one-append}
use Rattle.rga_ops.proofs.ListSteps.{from}
use Rattle.rga_store.proofs.BackLaws.{without_noted-push, one_step_more, without_taken, last_taken}
use Rattle.rga_flat.proofs.WaitingLaws.{under_none}
use Rattle.rga_flat.proofs.PlacingLaws.{above_cases, of_root, of_complete, complete_of, place_start, place_step, place_absent, place_parent, placed_flat}

-- ---- where the operations lead

pub without_noted-both : (xs ys : List Step) (c : Content) → without_noted (xs ++ ys) c ≡ without_noted xs (without_noted ys c)
without_noted-both [] ys c = refl
without_noted-both (x ∷ xs) ys c = ap (without_noted (x ∷ [])) (without_noted-both xs ys c)

pub gathered_more : (limit : ℕ) (base c d : Content) (step : Step) (ops : List Op) (before steps : List Step) → IsGathered limit base c ops before steps → answer limit c step.op.now ≡ Ok New → d ≡ join c (single step.op.now) → step.clock ≡ clock_of c
    → IsGathered limit base d (ops ++ step.op.now ∷ []) before (steps ++ step ∷ [])
gathered_more limit base c d step ops before steps g answered joined clocked =
    let op = step.op.now in
    record {
      taken = one_by_one-append limit base c ops (op ∷ []) g.taken ∙ ap (λ r. and_take (after_answer c op r) (λ e. Ok e)) answered ∙ ap (λ e. Ok e) (sym joined);
      within = within_chain base c d g.within (subst (λ e. IsWithin c e) (sym joined) (within_join c (single op)));
      back = one_step_more steps step d (last_taken limit c d op answered joined steps step.clock clocked g.back);
      own = g.own ++ step ∷ [];
      noted = ap (λ ss. ss ++ step ∷ []) g.noted ∙ append_assoc before g.own (step ∷ []);
      gone = without_noted-push g.own step d ∙ ap (without_noted g.own) (without_taken limit c d op answered joined) ∙ g.gone;
    }

pub gathered_next : (limit : ℕ) (base c d : Content) (step : Step) (item : Op) (ops : List Op) (i : ℕ) (before steps later : List Step) → later ≡ steps ++ step ∷ [] → IsGathered limit base c (take i ops) before steps → i < length ops → item ≡ slice_index_or ops i item → item ≡ step.op.now
    → answer limit c step.op.now ≡ Ok New → d ≡ join c (single step.op.now) → step.clock ≡ clock_of c → IsGathered limit base d (take (i + 1) ops) before later
gathered_next limit base c d step item ops i before steps later noted g w is same answered joined clocked = grind (arith, take_more ops i item w, gathered_more limit base c d step (take i ops) before steps g answered joined clocked)

pub next_refused : (limit : ℕ) (base c : Content) (item : Op) (ops : List Op) (i : ℕ) (e : Refusal) → taken_one_by_one limit base (take i ops) ≡ Ok c → i < length ops → item ≡ slice_index_or ops i item → taken limit c item ≡ Err e → taken_one_by_one limit base ops ≡ Err e
next_refused limit base c item ops i e first w is next = grind (arith, take-append-drop i ops, from ops i item w is, one_by_one-append limit base c (take i ops) (item ∷ drop (i + 1) ops) first)

-- what is left of a list leads on from where its first operations led
pub list_later : (limit : ℕ) (c d : Content) (ops : List Op) (i n : ℕ) → taken_one_by_one limit c (take n (take (length ops - i) (drop i ops))) ≡ Ok d → taken_one_by_one limit d (drop (i + n) ops) ≡ taken_one_by_one limit c (drop i ops)
list_later limit c d ops i n h = grind (arith, drop-drop n i ops, one_by_one-append limit c d (take n (drop i ops)) (drop n (drop i ops)), take_rest ops i, take-append-drop n (drop i ops))

-- the steps that were there lead where they led
pub gathered_start : (limit : ℕ) (base c : Content) (ops : List Op) (before steps : List Step) → IsGathered limit base c ops before steps → without_noted steps c ≡ without_noted before base
gathered_start limit base c ops before steps g = ap (λ ss. without_noted ss c) g.noted ∙ without_noted-both before g.own c ∙ ap (without_noted before) g.gone

-- what holds of a refusal that was answered
pub at_err : {A E : Type 0} (P : E → Type 0) (r : Result A E) (e : E) → r ≡ Err e → P e → IfErr r P
at_err P r e is h = subst (λ x. IfErr x P) (sym is) h

-- ---- one more in the chain

pub put_chain-push : (id : Identifier) (es : List Entry) (e : Entry) (s : List Entry) → put_chain id (es ++ e ∷ []) s ≡ put_entry (last_entry_of id es) e (put_chain id es s)
put_chain-push id [] e s = refl
put_chain-push id (x ∷ es) e s = put_chain-push x.id es e (put_entry id x s)

follows_more : (id : Identifier) (es : List Entry) (e : Entry) (s : List Entry) → CanFollow id es s → is_root (last_entry_of id es) ≡ false → is_gt (id_cmp e.id (last_entry_of id es)) ≡ true → has e.id (put_chain id es s) ≡ false → CanFollow id (es ++ e ∷ []) s
follows_more id [] e s can proper up none = (proper, up, none, tt)
follows_more id (x ∷ es) e s can proper up none = (can.0, can.1, can.2, follows_more x.id es e (put_entry id x s) can.3 proper up none)

chain_more : (id : Identifier) (es : List Entry) (e : Entry) (s : List Entry) → IsChain id es s → (is_root (last_entry_of id es) || has (last_entry_of id es) (put_chain id es s)) ≡ true
    → (0 < length es → is_root (last_entry_of id es) ≡ false) → is_gt (id_cmp e.id (last_entry_of id es)) ≡ true → has e.id (put_chain id es s) ≡ false → IsChain id (es ++ e ∷ []) s
chain_more id = grind (arith, follows_more)

falls : (a b : ℕ) → nat_le a b ≡ false → b < a
falls a b h = grind (arith, nat_tests)

-- an identifier of a higher counter is larger
larger_counter : (a b : Identifier) → b.counter < a.counter → is_gt (id_cmp a b) ≡ true
larger_counter a b h = ap is_gt (ids_total.antisymm a b ∙ ap ordering_reverse (lower_counter b a h))

above_later : (c d : Content) → IsWithin c d → (p : Identifier) → is_above c p ≡ true → is_above d p ≡ true
above_later c d w p h = grind (arith, above_cases c p h, of_root d p, of_complete d p, complete_stays c d w p)

module _ (limit : ℕ) (c d : Content) (last : Identifier) (e : Entry) (sound : IsSound c) (sound_now : IsSound d) (answered : answer limit c (Insert e.id last e.ch) ≡ Ok New) (joined : d ≡ join c (single (Insert e.id last e.ch))) (above : is_above c last ≡ true) where
  new : IsNewInsertion limit c e.id last
  new = new_insertion limit c e.id last e.ch answered

  formed : (is_root e.id ≡ false) × (last.counter < e.id.counter)
  formed = grind (arith, well_formed_insertion e.id last e.ch ((new-iff limit c (Insert e.id last e.ch)).0 answered).well_formed, new-iff limit c (Insert e.id last e.ch), falls e.id.counter last.counter)

  pub own_proper : is_root e.id ≡ false
  own_proper = formed.0

  found : finite_map.get d.inserted e.id ≡ Some (element last e.ch)
  found = subst (λ b. finite_map.get b.inserted e.id ≡ Some (element last e.ch)) (sym joined) (new_held limit c (Insert e.id last e.ch) answered)

  in_now : IsWithin c d
  in_now = subst (λ b. IsWithin c b) (sym joined) (within_join c (single (Insert e.id last e.ch)))

  pub own_above : is_above d e.id ≡ true
  own_above = of_complete d e.id (complete_of d sound_now e.id (element last e.ch) found (above_later c d in_now last above))

  module _ (w : Waiting) (shown : e.deleted ≡ finite_set.contains c.deleted e.id) (unlisted : has_list w e.id ≡ false) (base : Content) (parent : Identifier) (es : List Entry) (last_is : last ≡ last_entry_of parent es) (proper : 0 < length es → is_root last ≡ false) where
    deleted_now : e.deleted ≡ finite_set.contains d.deleted e.id
    deleted_now = shown ∙ sym (ap (λ b. finite_set.contains b.deleted e.id) joined ∙ contains-insertion c e.id last e.ch e.id)

    pub shows_more : ChainShows base c parent es w → ChainShows base d parent (es ++ e ∷ []) w
    shows_more shows s done flat =
        let v : List Entry = put_chain parent es s in
        let was : IsChain parent es s × IsFlat c v (under w) (is_listed w done) = shows s done flat in
        let placing : IsPlacing d (under w) (is_listed w done) v (e.id ∷ []) =
        subst (λ b. IsPlacing b (under w) (is_listed w done) v (e.id ∷ [])) (sym joined)
        (place_start c sound e.id last e.ch new.absent above (subst (λ b. IsSound b) joined sound_now) v (under w) (is_listed w done) was.1) in
        let there : (is_root last || has last v) ≡ true = place_parent d (under w) (is_listed w done) v (e.id ∷ []) [] e.id refl placing (element last e.ch) found in
        let none : has e.id v ≡ false = place_absent d (under w) (is_listed w done) v (e.id ∷ []) [] e.id refl placing in (
          chain_more parent es e s was.0
              (subst (λ k. (is_root k || has k v) ≡ true) last_is there)
              (λ some. subst (λ k. is_root k ≡ false) last_is (proper some))
              (subst (λ k. is_gt (id_cmp e.id k) ≡ true) last_is (larger_counter e.id last formed.1))
              none,
          placed_flat d (under w) (is_listed w done) (put_chain parent (es ++ e ∷ []) s)
              (place_step d (under w) (is_listed w done) (is_listed w done) v (e.id ∷ []) [] e.id refl placing
              (ap (λ b. b && not (contains id_cmp done e.id)) unlisted) (λ k f. refl)
              (put_chain parent (es ++ e ∷ []) s) [] (element last e.ch) found
              (sym (under_none w e.id unlisted))
              (put_chain-push parent es e s
              ∙ ap (λ k. put_entry k e v) (sym last_is)
              ∙ (λ i. put_entry last (record { id = e.id; ch = e.ch; deleted = deleted_now i }) v))),
        )
