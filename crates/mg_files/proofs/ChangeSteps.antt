-- A buffer and its log, through changes.
use Rattle.std.proofs.Common.{◌≡◌, ℕ, ◌≤◌, true, List, [], ◌++◌, length, Option, Some, Ok, Err, refl, sym, ap, subst, ◌∙◌, append-nil, inl, inr, Bool, Result, ◌∷◌, ◌+◌, map, filter, take, drop, arith}
use Rattle.std.specs.Prelude.{Contains}
use Rattle.std.proofs.lemmas.Bool.{cond_both}
use Rattle.std.proofs.lemmas.Option.{get_or_from_slice_get, same_Some}
use Rattle.std.specs.List.{slice_get}
use Rattle.std.specs.Option.{unwrap_or}
use Rattle.rga_ops.specs.Content.{Content, join, content_of, known_ids, IsSound, IsAgreed, IsWithin, clock_of}
use Rattle.rga_ops.specs.ListAnswer.{Verdict, IsJoinable, AreWellFormed, list_answer}
use Rattle.rga_ops.specs.NewOperations.{new_operations}
use Rattle.rga_ops.specs.declared.op.Op.{Op}
use Rattle.rga_ops.specs.declared.op.Op.TheVariants.{Insert, Delete}
use Rattle.rga_ops.proofs.AgreeLaws.{joinable_nothing}
use Rattle.rga_ops.proofs.ContentLaws.{join_nothing, within_itself, within_chain, join_assoc}
use Rattle.rga_ops.proofs.ListAnswerLaws.{list_taken-iff}
use Rattle.rga_ops.proofs.NewLaws.{content-new, new_among}
use Rattle.rga_ops.proofs.OperationLaws.{inserted-iff, Contains-nil, Contains-cases, Contains-append, content_of-append}
use Rattle.rga_ops.proofs.SoundLaws.{join_holds}
use Rattle.rga_doc.specs.LocalEdit.{edit_answer, left_of, chain, splice_operations, splices_operations}
use Rattle.rga_doc.specs.Revert.{are_restorable, revert_answer, distinct_elements, restorations, revert_operations}
use Rattle.rga_doc.proofs.EditLaws.{splices_taken}
use Rattle.rga_doc.proofs.RevertLaws.{revert_taken}
use Rattle.mg_buffer.specs.Faults.{stored, growth_answer, undo_answer}
use Rattle.mg_buffer.specs.Groups.{Past, last_group}
use Rattle.mg_buffer.specs.Ran.{Ran, operations_of_splices}
use Rattle.mg_buffer.specs.Sight.{CommandCall, Notes}
use Rattle.mg_buffer.specs.State.{State}
use Rattle.mg_buffer.specs.Undid.{undo_operations}
use Rattle.mg_buffer.proofs.GroupLaws.{past_restorable}
use Rattle.mg_buffer.specs.OpenState.{OpenState, has_unsaved}
use Rattle.mg_files.specs.Held.{Held, MayLead}
use Rattle.mg_files.specs.Kept.{IsLogged, Grows}
use Rattle.mg_files.specs.Run.{ChangesAlone, KeepsOperations, UndoesOne, TakesAll, BufferStep, Saves, Runs, Undoes, Takes, Rests, StepOperations, SavesOnce, MayStep, MayGo, HoldsMore, TakesOnly, IsMadeOrTaken}
use Rattle.mg_files.proofs.LogSteps.{after_operations, save_answered, held_within, grows_at_log, grows_at_text}
use Rattle.mg_files.specs.Saving.{written, logged, saved, SaveStep, AtLog, AtText, SaveFailed, unlogged, save_calls, log_call, log_calls, text_call}
use Rattle.mg_files.specs.declared.port.PortFault.{PortFault}
use Rattle.std.proofs.lemmas.List.{append_cancel_left}
use Rattle.mg_files.specs.Files.{Files}
use Rattle.mg_files.specs.Calls.{Call, Adds, refusals}
use Rattle.rga_ops.specs.Identifier.{Identifier, identifier}
use Rattle.rga_ops.specs.Places.{is_visible, visible}
use Rattle.rga_ops.specs.Splice.{Splice}
use Rattle.std.specs.FinSet as finite_set
use Rattle.rga_world.proofs.StoredLaws.{held_listed}

-- ---- commands, undos and operations of others, as operations that are joined and all unsaved

-- operations were joined, all unsaved
pub record Joins (b d : State) (ops : List Op) : Type 0 where
  pub name : d.name ≡ b.name
  pub content : d.content ≡ join b.content (content_of ops)
  pub unsaved : d.unsaved ≡ b.unsaved ++ ops
  pub limit : d.limit ≡ b.limit
  pub joinable : IsJoinable b.content ops
  pub well_formed : AreWellFormed ops
  pub fits : finite_set.len (known_ids (join b.content (content_of ops))) ≤ b.limit

-- ---- what is sound stays so

sound_joined : (c : Content) (ops : List Op) → IsSound c → AreWellFormed ops → IsSound (join c (content_of ops))
sound_joined c ops sound well op h = grind (arith, join_holds, held_listed)

-- ---- a change between saves

pub after_change : (held : Content) (b d : OpenState) (s t : Held) (log : Option (List ℕ)) (ops : List Op) → IsLogged held b log → ChangesAlone b d s t → Joins b.buffer d.buffer ops → IsLogged held d log
after_change held b d s t log ops h alone j =
    after_operations held b d log ops h j.content j.unsaved j.limit (ap (λ (x : OpenState). x.whole) alone.rest) (ap (λ (x : OpenState). x.text_waits) alone.rest) j.joinable
    (subst IsSound (sym j.content) (sound_joined b.buffer.content ops h.sound j.well_formed))
    alone.writable
    (subst (λ c. finite_set.len (known_ids c) ≤ d.buffer.limit) (sym j.content) (subst (λ n. finite_set.len (known_ids (join b.buffer.content (content_of ops))) ≤ n) (sym j.limit) j.fits))

joined : (b d : State) (ops : List Op) → d.name ≡ b.name → d.content ≡ join b.content (content_of ops) → d.unsaved ≡ b.unsaved ++ ops → d.limit ≡ b.limit → list_answer b.limit b.content ops ≡ Ok tt → Joins b d ops
joined b d ops name content unsaved limit allowed =
    let taken = (list_taken-iff b.limit b.content ops).0 allowed in
    record { name = name; content = content; unsaved = unsaved; limit = limit; joinable = taken.1; well_formed = taken.0; fits = taken.2 }

-- ---- a command

pub ran_joins : (call : CommandCall) (b : State) (old : Notes) (d : State) (new : Notes) (r : Ran call b old d new) → Joins b d (operations_of_splices b r.plan.splices)
ran_joins call b old d new r =
    joined b d (operations_of_splices b r.plan.splices) r.edited.name r.edited.content r.edited.unsaved r.edited.limit (splices_taken b.limit b.replica b.content r.plan.splices r.edited.allowed)

-- ---- an undo

last_at : (groups : List Past) (count index : ℕ) (group : Past) → last_group groups count ≡ Some (index, group) → slice_get groups index ≡ Some group
last_at groups count index group h = grind arith

stored_well : (v : Verdict) → stored v ≡ Ok tt → v ≡ Ok tt
stored_well v h = grind arith

-- what is reverted may be
pub undo_allowed : (b : State) (old : Notes) (d : State) (new : Notes) (u : UndoesOne b old d new) → revert_answer b.limit b.content u.undid.group.deleted ≡ Ok tt
undo_allowed b old d new u =
    let g : Past = u.undid.group in
    let at : slice_get b.groups u.undid.index ≡ Some g = last_at b.groups (unwrap_or b.undone (length b.groups)) u.undid.index g u.undid.due in
    let fits : growth_answer b (length g.deleted) ≡ Ok tt = stored_well (growth_answer b (length g.deleted)) (rw (u.undid.due, undo_answer) at u.allowed) in
    let restorable : are_restorable b.content g.deleted ≡ true =
    ap (λ (x : Past). are_restorable b.content x.deleted) (sym (get_or_from_slice_get b.groups u.undid.index g _ at)) ∙ past_restorable b.content b.groups u.undid.index u.revertible in
    ap (λ t. edit_answer b.limit b.content t (length g.deleted)) restorable ∙ fits

pub undid_joins : (b : State) (old : Notes) (d : State) (new : Notes) (u : UndoesOne b old d new) → Joins b d (undo_operations b u.undid.group)
undid_joins b old d new u =
    let g : Past = u.undid.group in
    let r = u.undid.reverted in
    joined b d (undo_operations b g) r.name r.content r.unsaved r.limit (revert_taken b.limit b.replica b.content g.inserted g.deleted (undo_allowed b old d new u))

-- ---- operations of others

new_joinable : (c : Content) (ops : List Op) → IsJoinable c ops → IsJoinable c (new_operations c ops)
new_joinable c ops j =
    let agreed : IsAgreed (new_operations c ops) =
    λ id parent other ch char a b. j.agreed id parent other ch char (new_among c ops (Insert id parent ch) a) (new_among c ops (Insert id other char) b) in
    record {
      agreed = agreed;
      agree = λ id x y f g. j.agree id x y f ((inserted-iff ops j.agreed id y).1 (new_among c ops (Insert id y.parent y.ch) ((inserted-iff (new_operations c ops) agreed id y).0 g)));
    }

pub taken_joins : (b : State) (ops : List Op) (d : State) → TakesAll b ops d → Joins b d (new_operations b.content ops)
taken_joins b ops d takes =
    let taken = (list_taken-iff b.limit b.content ops).0 takes.allowed in
    record {
      name = ap (λ (x : State). x.name) takes.follows.rest;
      content = takes.follows.content ∙ sym (content-new b.content ops);
      unsaved = takes.follows.unsaved;
      limit = ap (λ (x : State). x.limit) takes.follows.rest;
      joinable = new_joinable b.content ops taken.1;
      well_formed = λ op m. taken.0 op (new_among b.content ops op m);
      fits = subst (λ c. finite_set.len (known_ids c) ≤ b.limit) (sym (content-new b.content ops)) taken.2;
    }

-- ---- what leaves the operations

pub kept_logged : (held : Content) (b d : OpenState) (s t : Held) (log : Option (List ℕ)) → IsLogged held b log → ChangesAlone b d s t → KeepsOperations b.buffer d.buffer → IsLogged held d log
kept_logged held b d s t log h alone k =
    after_operations held b d log [] h (k.content ∙ sym (join_nothing b.buffer.content)) (k.unsaved ∙ sym (append-nil b.buffer.unsaved)) k.limit
    (ap (λ (x : OpenState). x.whole) alone.rest) (ap (λ (x : OpenState). x.text_waits) alone.rest) (joinable_nothing b.buffer.content)
    (subst IsSound (sym k.content) h.sound) alone.writable
    (subst (λ c. finite_set.len (known_ids c) ≤ d.buffer.limit) (sym k.content) (subst (λ n. finite_set.len (known_ids b.buffer.content) ≤ n) (sym k.limit) h.fits))

-- ---- what a step joins to the content of a buffer

abbrev pub Joined : BufferStep → OpenState → OpenState → Type 0
Joined step b d = (ops : List Op) × (d.buffer.content ≡ join b.buffer.content (content_of ops)) × StepOperations step b d ops

pub none_joined : (b d : OpenState) → d.buffer.content ≡ b.buffer.content → d.buffer.content ≡ join b.buffer.content (content_of [])
none_joined b d same = same ∙ sym (join_nothing b.buffer.content)

-- ---- a save

-- what a save changes is only what is unsaved
pub saved_part : {A : Type 0} (f : State → A) → ((b : OpenState) → f (written b).buffer ≡ f b.buffer) → (b : OpenState) → f (logged b).buffer ≡ f b.buffer
saved_part {A} f same b = cond_both (has_unsaved b) (written b) b (λ (x : OpenState). f x.buffer ≡ f b.buffer) (λ _. same b) (λ _. refl)

pub save_keeps : {A : Type 0} (f : State → A) → ((b : OpenState) → f (written b).buffer ≡ f b.buffer) → (answer : Result Bool PortFault) (b d : OpenState) (s t : Held) → SavesOnce answer b d s t → f d.buffer ≡ f b.buffer
save_keeps {A} f same (Ok changed) b d s t m = ap (λ (x : OpenState). f x.buffer) m.saves.left ∙ saved_part f same b
save_keeps {A} f same (Err fault) b d s t m = by m.saves.0 m.saves.1
  where
    by : (step : SaveStep) → SaveFailed step fault (Some m.before) (Some (m.before ++ m.made)) b d → f d.buffer ≡ f b.buffer
    by AtLog at_log = ap (λ (x : OpenState). f x.buffer) at_log.left
    by AtText at_text = ap (λ (x : OpenState). f x.buffer) at_text.left ∙ saved_part f same b

-- ---- any step

pub step_joins : (step : BufferStep) (b d : OpenState) (s t : Held) → MayStep step b s d t → Joined step b d
step_joins (Saves answer) b d s t m = ([], none_joined b d (save_keeps (λ (x : State). x.content) (λ x. refl) answer b d s t m), refl)
step_joins (Runs call old new) b d s t (alone, ran) = (operations_of_splices b.buffer ran.plan.splices, ran.edited.content, ran.edited.unsaved)
step_joins (Undoes old new) b d s t (alone, u) = (undo_operations b.buffer u.undid.group, u.undid.reverted.content, u.undid.reverted.unsaved)
step_joins (Takes ops) b d s t (alone, takes) = (ops, takes.follows.content, refl)
step_joins Rests b d s t (alone, kept) = ([], none_joined b d kept.content, refl)

pub step_replica : (step : BufferStep) (b d : OpenState) (s t : Held) → MayStep step b s d t → d.buffer.replica ≡ b.buffer.replica
step_replica (Saves answer) b d s t m = save_keeps (λ (x : State). x.replica) (λ x. refl) answer b d s t m
step_replica (Runs call old new) b d s t (alone, ran) = ran.edited.replica
step_replica (Undoes old new) b d s t (alone, u) = u.undid.reverted.replica
step_replica (Takes ops) b d s t (alone, takes) = ap (λ (x : State). x.replica) takes.follows.rest
step_replica Rests b d s t (alone, kept) = kept.replica

-- ---- through any saves and changes what was held once is held

named : (now held : Content) (name : List ℕ) (d : OpenState) (t : Held) → d.buffer.name ≡ name → IsWithin held now → IsLogged now d (t name).log → HoldsMore held d t
named now held name d t same grown h = record { now = now; logged = subst (λ n. IsLogged now d (t n).log) (sym same) h; grown = grown }

logged_name : (b : OpenState) → (logged b).buffer.name ≡ b.buffer.name
logged_name b = saved_part (λ (x : State). x.name) (λ x. refl) b

-- ---- a save, by the calls that it told

pub made_are : (before made due : List Call) → Adds (Some before) (Some (before ++ made)) due → made ≡ due
made_are before made due adds = append_cancel_left before made due (same_Some (before ++ made) (before ++ due) adds)

pub after_save : (held : Content) (answer : Result Bool PortFault) (b d : OpenState) (s t : Held) → IsLogged held b (s b.buffer.name).log → SavesOnce answer b d s t → HoldsMore held d t
after_save held (Ok changed) b d s t h m =
    let leads : MayLead (save_calls b) s t = subst (λ calls. MayLead calls s t) (made_are m.before m.made (save_calls b) m.saves.calls) m.leads in
    subst (λ x. HoldsMore held x t) (sym m.saves.left)
    (named b.buffer.content held b.buffer.name (saved b) t (logged_name b) (held_within held b (s b.buffer.name).log h) (save_answered held b s t h leads))
after_save held (Err fault) b d s t h m = by m.saves.0 m.saves.1
  where
    by : (step : SaveStep) → SaveFailed step fault (Some m.before) (Some (m.before ++ m.made)) b d → HoldsMore held d t
    by AtLog at_log =
        let leads : MayLead (refusals fault (log_call b)) s t = subst (λ calls. MayLead calls s t) (made_are m.before m.made (refusals fault (log_call b)) at_log.calls) m.leads in
        let w : Grows held b (unlogged b) (t b.buffer.name).log = grows_at_log fault held b s t h leads in
        subst (λ x. HoldsMore held x t) (sym at_log.left) (named w.now held b.buffer.name (unlogged b) t refl w.grown w.logged)
    by AtText at_text =
        let due : List Call = log_calls b ++ refusals fault (text_call b) in
        let leads : MayLead due s t = subst (λ calls. MayLead calls s t) (made_are m.before m.made due at_text.calls) m.leads in
        let w : Grows held b (logged b) (t b.buffer.name).log = grows_at_text fault held b s t h leads in
        subst (λ x. HoldsMore held x t) (sym at_text.left) (named w.now held b.buffer.name (logged b) t (logged_name b) w.grown w.logged)

-- ---- any step

changed : (held : Content) (b d : OpenState) (s t : Held) → d.buffer.name ≡ b.buffer.name → IsLogged held d (s b.buffer.name).log → ChangesAlone b d s t → HoldsMore held d t
changed held b d s t name h alone =
    named held held b.buffer.name d t name (within_itself held) (subst (λ (f : Files). IsLogged held d f.log) (sym alone.held) h)

pub after_step : (held : Content) (step : BufferStep) (b d : OpenState) (s t : Held) → IsLogged held b (s b.buffer.name).log → MayStep step b s d t → HoldsMore held d t
after_step held (Saves answer) b d s t h m = after_save held answer b d s t h m
after_step held (Runs call old new) b d s t h (alone, ran) =
    let j = ran_joins call b.buffer old d.buffer new ran in
    changed held b d s t j.name (after_change held b d s t (s b.buffer.name).log (operations_of_splices b.buffer ran.plan.splices) h alone j) alone
after_step held (Undoes old new) b d s t h (alone, u) =
    let j = undid_joins b.buffer old d.buffer new u in
    changed held b d s t j.name (after_change held b d s t (s b.buffer.name).log (undo_operations b.buffer u.undid.group) h alone j) alone
after_step held (Takes ops) b d s t h (alone, takes) =
    let j = taken_joins b.buffer ops d.buffer takes in
    changed held b d s t j.name (after_change held b d s t (s b.buffer.name).log (new_operations b.buffer.content ops) h alone j) alone
after_step held Rests b d s t h (alone, kept) =
    changed held b d s t kept.name (kept_logged held b d s t (s b.buffer.name).log h alone kept) alone

pub after_run : (steps : List BufferStep) (held : Content) (b d : OpenState) (s t : Held) → IsLogged held b (s b.buffer.name).log → MayGo steps b s d t → HoldsMore held d t
after_run [] held b d s t h (e, same) =
    subst (λ x. HoldsMore held x t) (sym e)
    (named held held b.buffer.name b t refl (within_itself held) (subst (λ (f : Files). IsLogged held b f.log) (sym same) h))
after_run (step ∷ steps) held b d s t h (c, u, first, later) =
    let w : HoldsMore held c u = after_step held step b c s u h first in
    let v : HoldsMore w.now d t = after_run steps w.now c d u t w.logged later in
    record { now = v.now; logged = v.logged; grown = within_chain held w.now v.now w.grown v.grown }

-- ---- what steps in a row join to the content of a buffer: what they insert is of its own making or was taken

-- ---- operations that were made or taken

abbrev pub AreMadeOrTaken : ℕ → List Op → List Op → Type 0
AreMadeOrTaken replica taken ops = (op : Op) → Contains ops op → IsMadeOrTaken replica taken op

module _ (replica : ℕ) (taken : List Op) where
  none_made : AreMadeOrTaken replica taken []
  none_made op m = absurd (Contains-nil op m)

  one_more : (first : Op) (ops : List Op) → IsMadeOrTaken replica taken first → AreMadeOrTaken replica taken ops → AreMadeOrTaken replica taken (first ∷ ops)
  one_more first ops own rest op m = grind (arith, Contains-cases)

  both_made : (xs ys : List Op) → AreMadeOrTaken replica taken xs → AreMadeOrTaken replica taken ys → AreMadeOrTaken replica taken (xs ++ ys)
  both_made xs ys first second op m = elim (Contains-append xs ys op m) [
    | inl here ↦ first op here
    | inr later ↦ second op later
  ]

  deletions_made : (ids : List Identifier) → AreMadeOrTaken replica taken (map Delete ids)
  deletions_made [] = none_made
  deletions_made (id ∷ ids) = one_more (Delete id) (map Delete ids) tt (deletions_made ids)

  chain_made : (put : List ℕ) (last : ℕ) (after : Identifier) → AreMadeOrTaken replica taken (chain replica last after put)
  chain_made [] last after = none_made
  chain_made (ch ∷ put) last after =
      let id : Identifier = identifier (last + 1) replica in
      one_more (Insert id after ch) (chain replica (last + 1) id put) (inl refl) (chain_made put (last + 1) id)

  restorations_made : (back : List (Identifier × ℕ)) (last : ℕ) → AreMadeOrTaken replica taken (restorations replica last back)
  restorations_made [] last = none_made
  restorations_made (b ∷ back) last =
      one_more (Insert (identifier (last + 1) replica) b.0 b.1) (restorations replica (last + 1) back) (inl refl) (restorations_made back (last + 1))

  splice_made : (lo hi : ℕ) (c : Content) (put : List ℕ) → AreMadeOrTaken replica taken (splice_operations replica c lo hi put)
  splice_made lo hi c put =
      let gone : List Identifier = drop lo (take hi (visible c)) in
      both_made (map Delete gone) (chain replica (clock_of c) (left_of (visible c) lo) put) (deletions_made gone) (chain_made put (clock_of c) (left_of (visible c) lo))

  splices_made : (splices : List Splice) (c : Content) → AreMadeOrTaken replica taken (splices_operations replica c splices)
  splices_made [] c = none_made
  splices_made (x ∷ splices) c =
      let own : List Op = splice_operations replica c x.lo x.hi x.put in
      both_made own (splices_operations replica (join c (content_of own)) splices) (splice_made x.lo x.hi c x.put) (splices_made splices (join c (content_of own)))

  revert_made : (c : Content) (gone : List Identifier) (back : List (Identifier × ℕ)) → AreMadeOrTaken replica taken (revert_operations replica c gone back)
  revert_made c gone back =
      let ids : List Identifier = distinct_elements (filter (is_visible c) gone) in
      both_made (map Delete ids) (restorations replica (clock_of c) back) (deletions_made ids) (restorations_made back (clock_of c))

  from_taken : (op : Op) → Contains taken op → IsMadeOrTaken replica taken op
  from_taken (Insert id parent ch) m = inr m
  from_taken (Delete id) m = tt

-- ---- steps

abbrev pub JoinsMade : ℕ → List Op → OpenState → OpenState → Type 0
JoinsMade replica taken b d = (ops : List Op) × (d.buffer.content ≡ join b.buffer.content (content_of ops)) × AreMadeOrTaken replica taken ops

joins_none : (taken : List Op) (b d : OpenState) → d.buffer.content ≡ b.buffer.content → JoinsMade b.buffer.replica taken b d
joins_none taken b d same = ([], none_joined b d same, none_made b.buffer.replica taken)

-- the first step, and what is said of the others
step_joins_made : (step : BufferStep) (steps : List BufferStep) (taken : List Op) (b d : OpenState) (s t : Held) → MayStep step b s d t → TakesOnly taken (step ∷ steps) → JoinsMade b.buffer.replica taken b d × TakesOnly taken steps
step_joins_made (Saves answer) steps taken b d s t m only = (joins_none taken b d (save_keeps (λ (x : State). x.content) (λ x. refl) answer b d s t m), only)
step_joins_made (Runs call old new) steps taken b d s t (alone, ran) only =
    ((operations_of_splices b.buffer ran.plan.splices, ran.edited.content, splices_made b.buffer.replica taken ran.plan.splices b.buffer.content), only)
step_joins_made (Undoes old new) steps taken b d s t (alone, u) only =
    ((undo_operations b.buffer u.undid.group, u.undid.reverted.content, revert_made b.buffer.replica taken b.buffer.content u.undid.group.inserted u.undid.group.deleted), only)
step_joins_made (Takes ops) steps taken b d s t (alone, takes) (among, only) = ((ops, takes.follows.content, λ op m. from_taken b.buffer.replica taken op (among op m)), only)
step_joins_made Rests steps taken b d s t (alone, kept) only = (joins_none taken b d kept.content, only)

pub steps_join : (steps : List BufferStep) (taken : List Op) (b d : OpenState) (s t : Held) → MayGo steps b s d t → TakesOnly taken steps → JoinsMade b.buffer.replica taken b d
steps_join [] taken b d s t (same, held) only = joins_none taken b d (ap (λ (x : OpenState). x.buffer.content) same)
steps_join (step ∷ steps) taken b d s t (c, u, first, later) only =
    let (one, left) = step_joins_made step steps taken b c s u first only in
    let rest : JoinsMade c.buffer.replica taken c d = steps_join steps taken c d u t later left in
    let own : AreMadeOrTaken b.buffer.replica taken rest.0 = subst (λ r. AreMadeOrTaken r taken rest.0) (step_replica step b c s u first) rest.2 in (
      one.0 ++ rest.0,
      rest.1 ∙ ap (λ e. join e (content_of rest.0)) one.1 ∙ join_assoc b.buffer.content (content_of one.0) (content_of rest.0) ∙ ap (join b.buffer.content) (sym (content_of-append one.0 rest.0)),
      both_made b.buffer.replica taken one.0 rest.0 one.2 own,
    )
