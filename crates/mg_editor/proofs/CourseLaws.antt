-- What saves and meetings leave of a buffer, as steps of what is held.
use Rattle.std.proofs.Common.{◌≡◌, ◌≢◌, inr, ◌∙◌, ℕ, ◌≤◌, Bool, true, false, List, [], ◌∷◌, ◌++◌, Option, Some, Result, Ok, Err, refl, sym, ap, subst, append_assoc}
use Rattle.std.specs.Prelude.{if◌then◌else◌}
use Rattle.rga_ops.specs.Content.{known_count}
use Rattle.rga_ops.specs.declared.op.Op.{Op}
use Rattle.rga_ops.specs.Answer.{taken_one_by_one}
use Rattle.mg_buffer.specs.Following.{TakesOperations}
use Rattle.rga_ops.proofs.ListAnswerLaws.{one_by_one_list}
use Rattle.rga_exchange.specs.declared.fault.ReceiveFault.{ReceiveFault}
use Rattle.rga_exchange.specs.Counting.{Calls}
use Rattle.mg_buffer.specs.OpenState.{OpenState, has_unsaved, is_changed}
use Rattle.mg_buffer.specs.State.{State}
use Rattle.mg_files.specs.Calls.{Call, Adds, link_call, link_refusals}
use Rattle.mg_files.specs.Saving.{SavesTo, AtLog, AtText, failed_calls, logged, save_calls, saved, written}
use Rattle.mg_files.specs.declared.port.CallKind.TheVariants.{Connect, Accept, Finish}
use Rattle.mg_files.specs.declared.port.PortFault.{PortFault}
use Rattle.mg_files.specs.Held.{Held, MayLead}
use Rattle.mg_files.specs.Kept.{IsWritableWhole}
use Rattle.mg_files.specs.Run.{BufferStep, Saves, Takes, Rests, ChangesAlone, SavesOnce, TakesAll, MayGo, TakesOnly}
use Rattle.mg_files.specs.Asking.{Role, Connects, Waits}
use Rattle.mg_files.specs.Linking.{Account, PassesOver}
use Rattle.mg_files.specs.Talking.{HearsOver}
use Rattle.mg_files.specs.Meeting.{Ending, Unsaved, Unopened, Unasked, Unsent, Unended, Met, Came, EndsBehind, Meets, opening}
use Rattle.mg_editor.proofs.CallLaws.{AllSpare, all_spared, both_spare, leads_split, saves_spare, failed_spare, opening_spares, unopened_spare, unended_spare}

-- ---- what becomes of a buffer while calls are made, and these operations may be taken

pub record Course (ops : List Op) (before : List Call) (new : Option (List Call)) (b d : OpenState) : Type 0 where
  pub made : List Call
  pub told : new ≡ Some (before ++ made)
  pub spares : (name : List ℕ) → b.buffer.name ≢ name → AllSpare name made
  pub goes : (s t : Held) → MayLead made s t → (steps : List BufferStep) × TakesOnly ops steps × MayGo steps b s d t

-- a save told these calls
record Saving (answer : Result Bool PortFault) (before : List Call) (new : Option (List Call)) (b d : OpenState) : Type 0 where
  made : List Call
  told : new ≡ Some (before ++ made)
  spares : (name : List ℕ) → b.buffer.name ≢ name → AllSpare name made
  saves : SavesTo answer (Some before) (Some (before ++ made)) b d

saving : (answer : Result Bool PortFault) (before : List Call) (old new : Option (List Call)) (b d : OpenState) → old ≡ Some before → SavesTo answer old new b d → Saving answer before new b d
saving (Ok changed) before old new b d is h = record {
  made = save_calls b;
  told = subst (λ o. Adds o new (save_calls b)) is h.calls;
  spares = λ name other. saves_spare name b other;
  saves = record { told = h.told; calls = refl; left = h.left };
}
saving (Err fault) before old new b d is (step, h) = record {
  made = failed_calls step fault b;
  told = subst (λ o. Adds o new (failed_calls step fault b)) is h.calls;
  spares = λ name other. failed_spare name step fault b other;
  saves = (step, record { due = h.due; calls = refl; left = h.left });
}

pub save_goes : (answer : Result Bool PortFault) (before : List Call) (old new : Option (List Call)) (b d : OpenState) → old ≡ Some before → SavesTo answer old new b d → Course [] before new b d
save_goes answer before old new b d is h =
    let save = saving answer before old new b d is h in
    record {
      made = save.made;
      told = save.told;
      spares = save.spares;
      goes = λ s t leads. (Saves answer ∷ [], tt, (d, t, record { before = before; made = save.made; saves = save.saves; leads = leads }, (refl, refl)));
    }

-- what a save leaves of a buffer
pub record Keeps (b d : OpenState) : Type 0 where
  pub name : d.buffer.name ≡ b.buffer.name
  pub content : d.buffer.content ≡ b.buffer.content
  pub limit : d.buffer.limit ≡ b.buffer.limit

logged_keeps : (b : OpenState) → Keeps b (logged b)
logged_keeps b = by (has_unsaved b)
  where
    by : (u : Bool) → Keeps b (if u then written b else b)
    by true = record { name = refl; content = refl; limit = refl }
    by false = record { name = refl; content = refl; limit = refl }

saved_keeps : (b : OpenState) → Keeps b (saved b)
saved_keeps b = let k = logged_keeps b in record { name = k.name; content = k.content; limit = k.limit }

pub save_keeps : (answer : Result Bool PortFault) (old new : Option (List Call)) (b d : OpenState) → SavesTo answer old new b d → Keeps b d
save_keeps (Ok changed) old new b d h = subst (Keeps b) (sym h.left) (saved_keeps b)
save_keeps (Err fault) old new b d (AtLog, h) = subst (Keeps b) (sym h.left) (record { name = refl; content = refl; limit = refl })
save_keeps (Err fault) old new b d (AtText, h) = subst (Keeps b) (sym h.left) (logged_keeps b)

saved_once : (b : OpenState) (s t : Held) → MayLead (save_calls b) s t → SavesOnce (Ok (is_changed b)) b (saved b) s t
saved_once b s t leads = record { before = []; made = save_calls b; saves = record { told = refl; calls = refl; left = refl }; leads = leads }

-- ---- a peer

-- no more was done than these calls
ends_behind : (before made : List Call) (old new : Option (List Call)) (b d : OpenState) → old ≡ Some before → IsWritableWhole d.buffer.content → ((name : List ℕ) → AllSpare name made) → EndsBehind old new b d made → Course [] before new b d
ends_behind before made old new b d is writable spare h = record {
  made = save_calls b ++ made;
  told = subst (λ o. Adds o new (save_calls b ++ made)) is h.calls;
  spares = λ name other. both_spare name (save_calls b) made (saves_spare name b other) (spare name);
  goes = λ s t leads.
      let split = leads_split (save_calls b) made s t leads in
      let quiet : t (saved b).buffer.name ≡ split.0 (saved b).buffer.name = all_spared (saved b).buffer.name made split.0 t (spare (saved b).buffer.name) split.2 in
      let alone : ChangesAlone (saved b) (saved b) split.0 t = record { rest = refl; writable = subst (λ (x : OpenState). IsWritableWhole x.buffer.content) h.left writable; held = quiet } in (
        Saves (Ok (is_changed b)) ∷ Rests ∷ [],
        tt,
        (saved b, split.0, saved_once b s split.0 split.1, (saved b, t, (alone, record { name = refl; content = refl; unsaved = refl; limit = refl; replica = refl }), (h.left, refl))),
      );
}

-- a peer was heard, of which these operations were taken
meets : (before made : List Call) (kept : Result Bool PortFault) (old new : Option (List Call)) (b d : OpenState) → old ≡ Some before → IsWritableWhole d.buffer.content → ((name : List ℕ) → AllSpare name made)
    → (m : Meets old new b d made kept) → (ops : List Op) × TakesAll (saved b).buffer ops m.met.buffer → (ops : List Op) × Course ops before new b d
meets before made kept old new b d is writable spare m (ops, takes) =
    let first : m.mid ≡ Some (before ++ (save_calls b ++ made)) = subst (λ o. Adds o m.mid (save_calls b ++ made)) is m.calls in
    let save = saving kept (before ++ (save_calls b ++ made)) m.mid new m.met d first m.saves in
    let named : m.met.buffer.name ≡ b.buffer.name = ap (λ (x : State). x.name) takes.follows.rest ∙ (saved_keeps b).name in (
      ops,
      record {
        made = (save_calls b ++ made) ++ save.made;
        told = save.told ∙ ap (λ (l : List Call). Some l) (append_assoc before (save_calls b ++ made) save.made);
        spares = λ name other. both_spare name (save_calls b ++ made) save.made
            (both_spare name (save_calls b) made (saves_spare name b other) (spare name))
            (save.spares name (λ e. other (sym named ∙ e)));
        goes = λ s t leads.
            let last = leads_split (save_calls b ++ made) save.made s t leads in
            let split = leads_split (save_calls b) made s last.0 last.1 in
            let content : IsWritableWhole m.met.buffer.content = subst IsWritableWhole (save_keeps kept m.mid new m.met d m.saves).content writable in
            let alone : ChangesAlone (saved b) m.met split.0 last.0 = record {
              rest = m.rest;
              writable = content;
              held = all_spared (saved b).buffer.name made split.0 last.0 (spare (saved b).buffer.name) split.2;
            } in (
              Saves (Ok (is_changed b)) ∷ Takes ops ∷ Saves kept ∷ [],
              ((λ op c. c), tt),
              (saved b, split.0, saved_once b s split.0 split.1, (m.met, last.0, (alone, takes), (d, t, record { before = before ++ (save_calls b ++ made); made = save.made; saves = save.saves; leads = last.2 }, (refl, refl)))),
            );
      },
    )

all_taken : (b d : State) (ops : List Op) → TakesOperations b ops d → known_count b.content ≤ b.limit → taken_one_by_one b.limit b.content ops ≡ Ok d.content → (ops : List Op) × TakesAll b ops d
all_taken b d ops takes fits taken = (ops, record { allowed = one_by_one_list b.limit b.content d.content ops fits taken; follows = takes })

-- the operations of a peer that was heard
heard_takes : {L : Type 0} (remaining : L → Option (List ℕ)) (old new : Calls L) (answer : Result ℕ ReceiveFault) (b d : OpenState) → known_count b.buffer.content ≤ b.buffer.limit → HearsOver remaining old new answer b d
    → (ops : List Op) × TakesAll b.buffer ops d.buffer
heard_takes remaining old new answer b d fits h = all_taken b.buffer d.buffer _ h.lines.beside fits h.lines.taken.taken

fits_saved : (b : OpenState) → known_count b.buffer.content ≤ b.buffer.limit → known_count (saved b).buffer.content ≤ (saved b).buffer.limit
fits_saved b fits =
    let k = saved_keeps b in
    subst (λ n. known_count (saved b).buffer.content ≤ n) (sym k.limit) (subst (λ c. known_count c ≤ b.buffer.limit) (sym k.content) fits)

pub exchange_goes : {L : Type 0} (a : Account L) (role : Role) (ending : Ending) (before : List Call) (b d : OpenState) → a.calls ≡ Some before → IsWritableWhole d.buffer.content → known_count b.buffer.content ≤ b.buffer.limit
    → (came : Came a.calls a.made b d role ending) → PassesOver a b d role ending came → (ops : List Op) × Course ops before a.made b d
exchange_goes a role (Unsaved fault) before b d is writable fits came passes = ([], save_goes (Err fault) before a.calls a.made b d is came)
exchange_goes a role (Unopened fault) before b d is writable fits came passes =
    ([], ends_behind before (link_refusals fault (opening role)) a.calls a.made b d is writable (λ name. unopened_spare name role fault) came)
exchange_goes a role (Unasked fault) before b d is writable fits (brief, (talk, came)) passes =
    ([], ends_behind before (opening role ∷ []) a.calls a.made b d is writable (λ name. (opening_spares name role, tt)) came)
exchange_goes a Connects (Unsent fault) before b d is writable fits came passes =
    ([], ends_behind before (link_call Connect ∷ []) a.calls a.made b d is writable (λ name. (opening_spares name Connects, tt)) came)
exchange_goes a Connects (Unended fault) before b d is writable fits came passes =
    ([], ends_behind before (link_call Connect ∷ link_refusals fault (link_call Finish)) a.calls a.made b d is writable (λ name. (opening_spares name Connects, unended_spare name fault)) came)
exchange_goes a Connects (Met (Ok sent) heard kept) before b d is writable fits came passes =
    meets before (link_call Connect ∷ link_call Finish ∷ []) kept a.calls a.made b d is writable (λ name. (opening_spares name Connects, (inr (λ f g e. e), tt))) came
    (heard_takes a.wire.remaining _ _ heard (saved b) came.met (fits_saved b fits) passes.hears)
exchange_goes a Connects (Met (Err fault) heard kept) before b d is writable fits came passes = absurd came
exchange_goes a Waits (Unsent fault) before b d is writable fits came passes = absurd came
exchange_goes a Waits (Unended fault) before b d is writable fits came passes = absurd came
exchange_goes a Waits (Met sent heard kept) before b d is writable fits came passes =
    meets before (link_call Accept ∷ []) kept a.calls a.made b d is writable (λ name. (opening_spares name Waits, tt)) came
    (heard_takes a.wire.remaining _ _ heard (saved b) came.met (fits_saved b fits) passes.0.hears)
