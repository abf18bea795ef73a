-- How far an event reaches in the live buffer's text, and what of the text it leaves.
use Rattle.std.proofs.Common.{◌≡◌, inl, inr, ◌∙◌, ◌<◌, ◌≤◌, ◌-◌, ◌&&◌, ◌++◌, arith, ℕ, suc, Bool, true, false, List, [], ◌∷◌, length, take, drop, Option, Some, None, Result, Ok, Err, MatchResult, is_ok, refl, sym, ap, subst, nat_eq}
use Rattle.std.specs.Prelude.{if◌then◌else◌, nat_le}
use Rattle.std.specs.Bool.{MatchBool}
use Rattle.std.specs.List.{list_any, slice_get}
use Rattle.std.proofs.Math.Seq.{drop-append_seam}
use Rattle.std.proofs.lemmas.Bool.{leb-true, and_parts}
use Rattle.std.proofs.lemmas.List.{length-drop, length-append, get_or-set_same}
use Rattle.std.proofs.lemmas.List.Quantifiers.{position-Some}
use Rattle.std.proofs.lemmas.Option.{same_Some, slice_get_within}
use Rattle.rga_ops.specs.Answer.{answer}
use Rattle.rga_ops.specs.Content.{Content, join, single}
use Rattle.rga_ops.specs.Identifier.{Identifier}
use Rattle.rga_ops.specs.Order.{text}
use Rattle.rga_ops.specs.Places.{visible}
use Rattle.rga_ops.specs.Splice.{Splice, spliced, text_after}
use Rattle.rga_ops.specs.declared.op.Op.{Op}
use Rattle.rga_ops.specs.declared.op.Op.TheVariants.{Insert}
use Rattle.rga_ops.specs.declared.out_of_memory.OutOfMemory.{OutOfMemory}
use Rattle.rga_ops.specs.declared.refusal.Refusal.{Refusal}
use Rattle.rga_ops.specs.declared.refusal.Taken.{Taken}
use Rattle.rga_ops.specs.declared.refusal.Taken.TheVariants.{New, Known}
use Rattle.rga_ops.proofs.AnswerLaws.{known-iff}
use Rattle.rga_ops.proofs.ContentLaws.{join_nothing}
use Rattle.rga_ops.proofs.PlaceLaws.{absent_if_new, text-insertion_at, text-insertion_hidden}
use Rattle.rga_ops.proofs.TakenLaws.{held_adds_nothing}
use Rattle.rga_ops.proofs.VisibleLaws.{text_long}
use Rattle.rga_doc.proofs.SplicedCharacters.{take-spliced, long-spliced, length-spliced}
use Rattle.mg_buffer.specs.Faults.{run_answer}
use Rattle.mg_buffer.specs.Following.{with_operations}
use Rattle.mg_buffer.specs.Ran.{Ran}
use Rattle.mg_buffer.specs.Sight.{Notes, command_call, situation_of}
use Rattle.mg_buffer.specs.State.{State}
use Rattle.mg_buffer.specs.OpenState.{OpenState}
use Rattle.mg_plain.specs.Effect.{Effect, edit_effect, one_splice}
use Rattle.mg_plain.specs.Situation.{Situation}
use Rattle.mg_plain.specs.declared.command.Command.TheVariants.{ReplaceRange}
use Rattle.mg_plain.specs.declared.outcome.Notice.{Notice}
use Rattle.mg_plain.specs.declared.outcome.Notice.TheVariants.{EndOfBuffer}
use Rattle.mg_events.specs.declared.report.Report.{Report}
use Rattle.mg_events.specs.declared.report.Report.TheVariants as report
use Rattle.mg_session.specs.declared.course.Course.{Course}
use Rattle.mg_workspace.specs.Actions.{ActionVerdict}
use Rattle.mg_workspace.specs.AtIndex.{RunsAt, state_at, with_state_at}
use Rattle.mg_workspace.specs.Buffers.{no_buffer, buffer_at}
use Rattle.mg_workspace.specs.Names.{is_named}
use Rattle.mg_workspace.specs.Workspaces.{Workspace}
use Rattle.mg_editor.specs.Editors.{Editor}
use Rattle.mg_editor.specs.LiveTaking.{taking, with_changed}
use Rattle.mg_editor.proofs.ActionCases.{acted_at, takes_keep}
use Rattle.mg_live.specs.Changes.{AreKept, Changes, change_count}
use Rattle.mg_live.specs.FaultNames.{of_action}
use Rattle.mg_live.specs.Made.{live_index, made_at, with_made}
use Rattle.mg_live.specs.Reports.{Verdict, Follows, RefusesReport, Splices, Takes, TakesOperation, TakesOthers, TakesPiece, TakesReport, clock_at, is_far, with_taken}
use Rattle.mg_live.specs.Gathering.{Gathered}
use Rattle.mg_live.specs.States.{Live}
use Rattle.mg_live.specs.Told.{IsTold, MayBeSpliced, MayHaveTaken, MayReach, WasTold, reach_of}
use Rattle.mg_live.specs.declared.changes.Kept.{Kept}
use Rattle.mg_live.specs.declared.changing.Reach.{Reach}
use Rattle.mg_live.specs.declared.changing.Reach.TheVariants.{Anywhere, Element, Between}
use Rattle.mg_live.specs.declared.fault.ReportFault.{ReportFault}
use Rattle.mg_live.specs.declared.fault.ReportFault.TheVariants.{Closed, Far, Refused, Stale}
use Rattle.mg_live.specs.declared.gathered.Piece.{Piece}
use Rattle.mg_live.specs.declared.gathered.Piece.TheVariants.{Held, Whole, Dropped}
use Rattle.mg_live.proofs.ShapeLaws.{SameNames, run_same, same_names}
use Rattle.mg_live.proofs.ToldLaws.{found_alike}

abbrev planned_as : Effect → Result Effect Notice
planned_as plan = Ok plan

abbrev not_planned : Result Effect Notice
not_planned = Err EndOfBuffer

abbrev one : ℕ → ℕ → List ℕ → Splice
one lo hi put = record { lo = lo; hi = hi; put = put }

-- ---- how much of a text stays

abbrev pub kept : ℕ → ℕ → Kept
kept front end = record { front = front; end = end }

pub same_kept : (old new : List ℕ) (front end : ℕ) → front ≤ length old → end ≤ length old → old ≡ new → AreKept (kept front end) old new
same_kept old new front end one two same = subst (λ xs. AreKept (kept front end) old xs) same (record {
  front_in_old = one;
  front_in_new = one;
  front = refl;
  end_in_old = two;
  end_in_new = two;
  end = refl;
})

spliced_kept : (old put : List ℕ) (lo hi : ℕ) → lo ≤ hi → hi ≤ length old → AreKept (kept lo (length old - hi)) old (spliced old lo hi put)
spliced_kept old put lo hi up within =
    let long = length-spliced old put lo hi up within in
    let front = take lo old ++ put in
    let seam : length front ≡ length (spliced old lo hi put) - (length old - hi) =
    omega (arith, length-append front (drop hi old), length-drop hi old, within) in
    let place : length old - (length old - hi) ≡ hi = omega (arith, within) in
    record {
      front_in_old = omega (arith, up, within);
      front_in_new = long-spliced old put lo hi (omega (arith, up, within));
      front = sym (take-spliced old put lo hi (omega (arith, up, within)));
      end_in_old = omega arith;
      end_in_new = omega (arith, length-append front (drop hi old), length-drop hi old);
      end = ap (λ n. drop n old) place ∙ sym (ap (λ n. drop n (spliced old lo hi put)) (sym seam) ∙ drop-append_seam front (drop hi old));
    }

pub splice_kept : (old new put : List ℕ) (lo hi : ℕ) → lo ≤ hi → hi ≤ length old → new ≡ spliced old lo hi put → AreKept (kept lo (length old - hi)) old new
splice_kept old new put lo hi up within is = subst (λ xs. AreKept (kept lo (length old - hi)) old xs) (sym is) (spliced_kept old put lo hi up within)

-- ---- beside an element

-- nothing more is visible
pub as_many_kept : (id : Identifier) (told : List ℕ) (now : Content) → MayHaveTaken id told now → length (text now) ≡ length told → told ≡ text now
as_many_kept id told now (inl same) many = same
as_many_kept id told now (inr (before, limit, parent, ch, was, new, is)) many =
    let d = join before (single (Insert id parent ch)) in
    let long : length (visible d) ≡ length (visible before) =
    sym (text_long d) ∙ ap (λ c. length (text c)) (sym is) ∙ many ∙ ap length was ∙ text_long before in
    was ∙ sym (text-insertion_hidden before id parent ch long) ∙ ap text (sym is)

-- one more is
pub one_more_kept : (id : Identifier) (told : List ℕ) (now : Content) (k : ℕ) → MayHaveTaken id told now → length (text now) ≡ suc (length told) → slice_get (visible now) k ≡ Some id
    → k ≤ length told → AreKept (kept k (length told - k)) told (text now)
one_more_kept id told now k (inl same) more there within = absurd (omega (arith, ap length same, more))
one_more_kept id told now k (inr (before, limit, parent, ch, was, new, is)) more there within =
    let d = join before (single (Insert id parent ch)) in
    let long : length (visible d) ≡ suc (length (visible before)) =
    sym (text_long d) ∙ ap (λ c. length (text c)) (sym is) ∙ more ∙ ap suc (ap length was ∙ text_long before) in
    let stands : slice_get (visible d) k ≡ Some id = ap (λ c. slice_get (visible c) k) (sym is) ∙ there in
    let put : text now ≡ spliced told k k (ch ∷ []) =
    ap text is ∙ text-insertion_at before id parent ch k (absent_if_new limit before id parent ch new) stands long ∙ ap (λ xs. spliced xs k k (ch ∷ [])) (sym was) in
    splice_kept told (text now) (ch ∷ []) k k (omega arith) within put

pub place_within : (id : Identifier) (told : List ℕ) (now : Content) (k : ℕ) → slice_get (visible now) k ≡ Some id → length (text now) ≡ suc (length told) → k ≤ length told
place_within id told now k there more =
    let within : k < length (visible now) = slice_get_within (visible now) k id there in
    omega (arith, within, text_long now, more)

-- ---- what a report leaves of what was told

-- the same is told of another live session, and is to be told
pub record SameTold (live next : Live) : Type 0 where
  pub name : next.name ≡ live.name
  pub untold : next.telling.untold ≡ live.telling.untold
  pub changes : next.changes ≡ live.changes

pub told_as : (live : Live) {mid next : Live} → next ≡ mid → mid.name ≡ live.name → mid.telling.untold ≡ live.telling.untold → mid.changes ≡ live.changes → SameTold live next
told_as live {mid} {next} is name untold changes = grind arith

pub refused_told : (fault : ReportFault) (before : Course) (live next : Live) (after : Course) → RefusesReport fault before live next after → SameTold live next
refused_told fault before live next after so = grind arith

pub follows_told : (verdict : Verdict) (live next : Live) (after : Course) → Follows verdict live next after → SameTold live next
follows_told verdict live next after so = grind arith

pub is_told_so : (live next : Live) (e : Editor) → SameTold live next → IsTold live e → IsTold next e
is_told_so live next e same told c i has at =
    told c i (sym same.changes ∙ has) (ap (λ n. live_index n e) (sym same.name) ∙ at)

was_told_so : (reach : Reach) (live next : Live) (f : Editor) → SameTold live next → WasTold reach live f → WasTold reach next f
was_told_so reach live next f same was c i has at = was c i (sym same.changes ∙ has) (ap (λ n. live_index n f) (sym same.name) ∙ at)

pub anywhere : (live : Live) (e : Editor) → WasTold Anywhere live e
anywhere live e c i has at = tt

-- the buffer at an index is the live one still
index_same : (name : List ℕ) (e f : Editor) → SameNames e.work f.work → live_index name f ≡ live_index name e
index_same name e f names = found_alike name e.work.buffers.all f.work.buffers.all names.count names.names

index_within : (name : List ℕ) (e : Editor) (i : ℕ) → live_index name e ≡ Some i → i < length e.work.buffers.all
index_within name e i at = (position-Some (is_named name) e.work.buffers.all i no_buffer at).0

state_there : (i : ℕ) (w : Workspace) (b : State) → i < length w.buffers.all → state_at i (with_state_at i b w) ≡ b
state_there i w b within = ap (λ (o : OpenState). o.buffer) (get_or-set_same w.buffers.all i (record (buffer_at i w.buffers) { buffer = b }) no_buffer within)

still : (reach : Reach) (told : List ℕ) (now : Content) → told ≡ text now → MayReach reach told now
still reach told now is = grind arith

-- ---- operations of others, and splices, by what came of them

module _ {C : Type 0} (e : Editor) (live : Live) (f : Editor) (next : Live) (verdict : Verdict) (same : f ≡ e → next ≡ live → C) where
  module _ {A : Type 0} (ops : List Op) (Each : ℕ → Editor → Result A Refusal → Editor → Type 0) (each : (i : ℕ) (r : Result A Refusal) → live_index live.name e ≡ Some i → Each i e r f → MatchResult r (λ _. next ≡ with_taken live) (λ why. next ≡ live) → C) where
    abbrev AnsweredSo : Result A Refusal → Type 0
    AnsweredSo r = MatchResult r (λ _. (verdict ≡ Ok (Ok tt)) × (next ≡ with_taken live)) (λ why. (verdict ≡ Err (Refused why)) × (next ≡ live))

    abbrev OthersAt : Option ℕ → Type 0
    OthersAt None = (verdict ≡ Err Closed) × (f ≡ e) × (next ≡ live)
    OthersAt (Some i) = MatchBool (list_any (is_far (clock_at i e)) ops)
        ((verdict ≡ Err Far) × (f ≡ e) × (next ≡ live))
        ((r : Result A Refusal) × Each i e r f × AnsweredSo r)

    pub others_case : TakesOthers ops Each e live verdict f next → C
    others_case takes = by (live_index live.name e) refl takes
      where
        answered : (i : ℕ) (r : Result A Refusal) → live_index live.name e ≡ Some i → Each i e r f → AnsweredSo r → C
        answered i (Ok a) at took (says, is) = each i (Ok a) at took is
        answered i (Err why) at took (says, is) = each i (Err why) at took is

        by_far : (i : ℕ) (far : Bool) → live_index live.name e ≡ Some i
            → MatchBool far ((verdict ≡ Err Far) × (f ≡ e) × (next ≡ live)) ((r : Result A Refusal) × Each i e r f × AnsweredSo r) → C
        by_far i true at (says, stays, is) = same stays is
        by_far i false at (r, took, so) = answered i r at took so

        by : (o : Option ℕ) → live_index live.name e ≡ o → OthersAt o → C
        by None at (says, stays, is) = same stays is
        by (Some i) at it = by_far i (list_any (is_far (clock_at i e)) ops) at it

  module _ (base lo hi : ℕ) (put : List ℕ) (made : (i : ℕ) (noted : Bool) → live_index live.name e ≡ Some i → RunsAt i (ReplaceRange lo hi put) 1 e.work (f.work, Ok tt) → next ≡ with_made true noted (made_at i e f) live → C) where
    abbrev SplicedSo : ℕ → ActionVerdict → Type 0
    SplicedSo i r = MatchResult r
        (λ _. (noted : Result (Unit {0}) OutOfMemory) × (f ≡ with_changed i f.work e) × (verdict ≡ Ok noted) × (next ≡ with_made true (is_ok noted) (made_at i e f) live))
        (λ fault. (f ≡ e) × (verdict ≡ Err (of_action fault)) × (next ≡ live))

    abbrev SplicesAt : Option ℕ → Type 0
    SplicesAt None = (verdict ≡ Err Closed) × (f ≡ e) × (next ≡ live)
    SplicesAt (Some i) = MatchBool (nat_eq base (change_count live.changes))
        ((r : ActionVerdict) × RunsAt i (ReplaceRange lo hi put) 1 e.work (f.work, r) × SplicedSo i r)
        ((verdict ≡ Err Stale) × (f ≡ e) × (next ≡ live))

    pub splices_case : Splices base lo hi put e live verdict f next → C
    splices_case takes = by (live_index live.name e) refl takes
      where
        spliced : (i : ℕ) (r : ActionVerdict) → live_index live.name e ≡ Some i → RunsAt i (ReplaceRange lo hi put) 1 e.work (f.work, r) → SplicedSo i r → C
        spliced i (Ok u) at did (noted, changed, says, is) = made i (is_ok noted) at did is
        spliced i (Err fault) at did (stays, says, is) = same stays is

        by_base : (i : ℕ) (current : Bool) → live_index live.name e ≡ Some i
            → MatchBool current
            ((r : ActionVerdict) × RunsAt i (ReplaceRange lo hi put) 1 e.work (f.work, r) × SplicedSo i r)
            ((verdict ≡ Err Stale) × (f ≡ e) × (next ≡ live)) → C
        by_base i true at (r, did, so) = spliced i r at did so
        by_base i false at (says, stays, is) = same stays is

        by : (o : Option ℕ) → live_index live.name e ≡ o → SplicesAt o → C
        by None at (says, stays, is) = same stays is
        by (Some i) at it = by_base i (nat_eq base (change_count live.changes)) at it

-- ---- a report that changed nothing, or one text

module _ (live : Live) (e : Editor) (told : IsTold live e) where
  stays : (reach : Reach) (next : Live) (f : Editor) → f ≡ e → SameTold live next → WasTold reach next f
  stays reach next f same alike =
      was_told_so reach live next f alike
      (λ c i has at. still reach c.text (state_at i f.work).content (subst (λ (g : Editor). IsTold live g) (sym same) told c i has at))

  -- that of the live buffer
  module _ (reach : Reach) (i : ℕ) (f : Editor) (found : live_index live.name e ≡ Some i) (names : SameNames e.work f.work) where
    in_live : ((c : Changes) → c.text ≡ text (state_at i e.work).content → MayReach reach c.text (state_at i f.work).content) → WasTold reach live f
    in_live reached c k has at =
        let index : i ≡ k = same_Some i k (sym found ∙ sym (index_same live.name e f names) ∙ at) in
        subst (λ j. MayReach reach c.text (state_at j f.work).content) index (reached c (told c i has found))

  -- ---- an insertion

  module _ (id parent : Identifier) (ch i : ℕ) (f : Editor) (found : live_index live.name e ≡ Some i) where
    abbrev inserting : Op
    inserting = Insert id parent ch

    abbrev b : State
    b = state_at i e.work

    taken : (kind : Taken) → answer b.limit b.content inserting ≡ Ok kind → f ≡ taking i (inserting ∷ []) e → WasTold (Element id) live f
    taken kind answered is =
        in_live (Element id) i f found (same_names e.work f.work (takes_keep i (inserting ∷ []) e f is)) (λ c was. by kind c was answered)
      where
        now : (state_at i f.work).content ≡ join b.content (single inserting)
        now =
            ap (λ (g : Editor). (state_at i g.work).content) is
            ∙ ap (λ (s : State). s.content) (state_there i e.work (with_operations (inserting ∷ []) b) (index_within live.name e i found))
            ∙ ap (join b.content) (join_nothing (single inserting))

        by : (kind : Taken) (c : Changes) → c.text ≡ text b.content → answer b.limit b.content inserting ≡ Ok kind → MayHaveTaken id c.text (state_at i f.work).content
        by New c was new = inr (b.content, b.limit, parent, ch, was, new, now)
        by Known c was known =
            inl (was ∙ ap text (sym (now ∙ held_adds_nothing b.content inserting ((known-iff b.limit b.content inserting).0 known).1)))

  inserted : (id parent : Identifier) (ch : ℕ) (f : Editor) (next : Live) (verdict : Verdict)
      → TakesOthers (Insert id parent ch ∷ []) (TakesOperation (Insert id parent ch)) e live verdict f next → WasTold (Element id) next f
  inserted id parent ch f next verdict =
      others_case e live f next verdict (λ same is. stays (Element id) next f same (told_as live is refl refl refl))
      (Insert id parent ch ∷ []) (TakesOperation (Insert id parent ch)) answered
    where
      answered : (i : ℕ) (r : Result Taken Refusal) → live_index live.name e ≡ Some i → TakesOperation (Insert id parent ch) i e r f
          → MatchResult r (λ _. next ≡ with_taken live) (λ why. next ≡ live) → WasTold (Element id) next f
      answered i (Ok kind) at takes is =
          was_told_so (Element id) live next f (told_as live is refl refl refl) (taken id parent ch i f at kind (sym (takes.exact (λ bad. absurd cc))) takes.left)
      answered i (Err why) at takes is = stays (Element id) next f takes.left (told_as live is refl refl refl)

  -- ---- a splice

  module _ (lo hi : ℕ) (put : List ℕ) where
    planned : (test : Bool) (s : Situation) (splices : List Splice) (plan : Effect) → (if test then planned_as (edit_effect s splices) else not_planned) ≡ planned_as plan
        → (test ≡ true) × (plan.splices ≡ splices)
    planned test s splices plan is = grind arith

    after_one : (t now : List ℕ) (a b : Bool) → now ≡ text_after t (if a && b then [] else one lo hi put ∷ []) → lo ≤ hi → hi ≤ length t → MayBeSpliced lo hi t now
    after_one t now a b is up le = grind arith

    ran_so : (b d : State) (old new : Notes) (fill : ℕ) → Ran (command_call (ReplaceRange lo hi put) 1 fill) b old d new → MayBeSpliced lo hi (text b.content) (text d.content)
    ran_so b d old new fill ran =
        let s = situation_of b old in
        let due = planned (nat_le lo hi && nat_le hi (length s.text)) s (one_splice lo hi put) ran.plan ran.due in
        let both = and_parts (nat_le lo hi) (nat_le hi (length s.text)) due.0 in
        after_one (text b.content) (text d.content) (nat_eq lo hi) (nat_eq (length put) 0) (ran.edited.text ∙ ap (text_after (text b.content)) due.1)
        (leb-true lo hi both.0) (leb-true hi (length s.text) both.1)

    module _ (i : ℕ) (f : Editor) (found : live_index live.name e ≡ Some i) where
      spliced_in : (r : ActionVerdict) → RunsAt i (ReplaceRange lo hi put) 1 e.work (f.work, r) → WasTold (Between lo hi) live f
      spliced_in r did =
          in_live (Between lo hi) i f found (run_same i (ReplaceRange lo hi put) 1 e.work f.work r did) (λ c was. by c was)
        where
          b : State
          b = state_at i e.work

          by : (c : Changes) → c.text ≡ text b.content → MayBeSpliced lo hi c.text (text (state_at i f.work).content)
          by c was =
              let call = command_call (ReplaceRange lo hi put) 1 e.work.fill in
              elim (acted_at i (Ran call b e.work.notes) e.work f.work r (run_answer call b e.work.notes) did) [
                | inl same ↦ inl (was ∙ ap (λ (w : Workspace). text (state_at i w).content) (sym same))
                | inr t ↦
                    let now : text (state_at i f.work).content ≡ text t.1.content =
                    ap (λ (w : Workspace). text (state_at i w).content) t.4 ∙ ap (λ (s : State). text s.content) (state_there i e.work t.1 (index_within live.name e i found)) in
                    subst (λ xs. MayBeSpliced lo hi xs (text (state_at i f.work).content)) (sym was)
                    (subst (λ xs. MayBeSpliced lo hi (text b.content) xs) (sym now) (ran_so b t.1 e.work.notes t.2 e.work.fill t.3))
              ]

    splices : (base : ℕ) (f : Editor) (next : Live) (verdict : Verdict) → Splices base lo hi put e live verdict f next → WasTold (Between lo hi) next f
    splices base f next verdict =
        splices_case e live f next verdict (λ same is. stays (Between lo hi) next f same (told_as live is refl refl refl)) base lo hi put
        (λ i noted at did is. λ c k has here.
        spliced_in i f at (Ok tt) did c k (ap (λ (l : Live). l.changes) (sym is) ∙ has) (ap (λ (l : Live). live_index l.name f) (sym is) ∙ here))

-- ---- any report

pub reached : (said : Report) (e : Editor) (live : Live) (f : Editor) (next : Live) (after : Course) → TakesReport said e live f next after → IsTold live e → WasTold (reach_of said) next f
reached said e live f next after (verdict, between, takes, follows) told =
    was_told_so (reach_of said) between next f (follows_told verdict between next after follows) (by said takes)
  where
    pieces : (base lo hi : ℕ) (held : Gathered) (piece : Piece) → TakesPiece piece (Splices base lo hi) e (record live { splice = held }) verdict f between → WasTold (Between lo hi) between f
    pieces base lo hi held Held (says, same, is) = stays (record live { splice = held }) e told (Between lo hi) between f same (told_as (record live { splice = held }) is refl refl refl)
    pieces base lo hi held (Dropped fault) (says, same, is) =
        stays (record live { splice = held }) e told (Between lo hi) between f same (told_as (record live { splice = held }) is refl refl refl)
    pieces base lo hi held (Whole put) it = splices (record live { splice = held }) e told lo hi put base f between verdict it

    by : (said : Report) → Takes said e live verdict f between → WasTold (reach_of said) between f
    by (report.One (Insert id parent ch)) it = inserted live e told id parent ch f between verdict it
    by (report.Splice base lo hi put more) (held, piece, gathers, it) = pieces base lo hi held piece it
    by other it = anywhere between f

-- also where something else was noted of the session first
pub reached_from : (said : Report) (e : Editor) (live next : Live) (f : Editor) (left : Live) (after : Course) → TakesReport said e next f left after → SameTold live next → IsTold live e
    → WasTold (reach_of said) left f
reached_from said e live next f left after takes same told = reached said e next f left after takes (is_told_so live next e same told)
