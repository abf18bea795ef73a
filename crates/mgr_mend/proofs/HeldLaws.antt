-- What the calls of a merge lead to.
use Rattle.std.proofs.Common.{Bool, ◌||◌, is_some, ◌≡◌, ℕ, true, false, List, [], ◌∷◌, ◌++◌, Option, Some, None, Result, Ok, Err, refl, sym, ap, subst, ◌∙◌, append_assoc}
use Rattle.std.specs.Prelude.{IfSome}
use Rattle.std.proofs.lemmas.List.{append_cancel_left}
use Rattle.std.proofs.lemmas.Option.{same_Some}
use Rattle.rga_ops.specs.Content.{Content, clock_of, join, content_of}
use Rattle.rga_ops.proofs.TakenLaws.{taken_list_is}
use Rattle.rga_ops.proofs.ListAnswerLaws.{one_by_one_list}
use Rattle.rga_exchange.specs.Sending.{StandsFor}
use Rattle.rga_exchange.specs.declared.fault.ReceiveFault.{ReceiveFault}
use Rattle.rga_exchange.specs.declared.log.LogEnd.{LogEnd}
use Rattle.rga_exchange.specs.Log.{log_end, log_outcome}
use Rattle.rga_ops.specs.Prelude.{nothing}
use Rattle.rga_ops.specs.NewOperations.{new_operations}
use Rattle.mg_buffer.specs.State.{State}
use Rattle.mg_buffer.specs.OpenState.{OpenState, has_unsaved, is_changed, with_brief, with_runs}
use Rattle.mg_files.specs.Calls.{Call, found_call}
use Rattle.mg_files.specs.Files.{Files, text_bytes}
use Rattle.mg_files.specs.Loading.{opened_and_end, of_log, either_loaded}
use Rattle.mg_files.specs.Saving.{save_calls}
use Rattle.mg_files.specs.declared.fault.LoadFault.{LoadFault}
use Rattle.mg_files.specs.Held.{Held, MayLead, log_bytes}
use Rattle.mg_files.specs.Kept.{IsBuffer, IsLogged, IsThere}
use Rattle.mg_files.specs.Run.{ChangesAlone}
use Rattle.mg_files.proofs.ChangeSteps.{after_change, taken_joins}
use Rattle.mg_files.proofs.OpenSteps.{opened_kept, opened_name}
use Rattle.mg_files.proofs.LogSteps.{held_is, save_answered, text_is_put}
use Rattle.mgr_show.specs.Joined.{all_operations}
use Rattle.mgr_mend.specs.Beside.{Beside}
use Rattle.mgr_mend.specs.Taking.{logs_taken}
use Rattle.mgr_mend.specs.Merging.{Merges, due, first_calls, log_alone, note_outcome, text_due}
use Rattle.mgr_mend.specs.declared.merged.Torn.{Torn}
use Rattle.mgr_mend.specs.declared.text.Owner.{Owner}
use Rattle.mgr_mend.specs.declared.text.Owner.TheVariants.{AnyLog}
use Rattle.mgr_mend.proofs.TakingLemmas.{merged_taken}
use Rattle.mgr_mend.specs.MergedHeld.{HoldsJoin}

-- the calls that were made
calls_are : (before made due : List Call) (between : Option (List Call)) (first : Call) → between ≡ Some (before ++ first ∷ []) → (known : (told : List Call) → between ≡ Some told → Some (before ++ made) ≡ Some (told ++ due)) → made ≡ first ∷ due
calls_are before made due between first told adds =
    append_cancel_left before made (first ∷ due) (same_Some _ _ (adds (before ++ first ∷ []) told) ∙ append_assoc before (first ∷ []) due)

-- of a log nothing is unsaved, nor of nothing
none_unsaved : (name : List ℕ) (found : Files) (b : OpenState) (end : LogEnd) → note_outcome name found ≡ Ok (b, end) → has_unsaved b ≡ false
none_unsaved name found b end outcome = by found.log outcome
  where
    Opened : Type 0
    Opened = Result (OpenState × LogEnd) LoadFault

    opens : OpenState → Opened
    opens c = Ok (c, end)

    of_answer : (bytes : List ℕ) (r : Result LogEnd ReceiveFault) → opened_and_end name 1 1000000 (of_log bytes r) ≡ Ok (b, end) → has_unsaved b ≡ false
    of_answer bytes (Ok e) h = ap (λ (o : Opened). elim o [ Ok p ↦ has_unsaved p.0 | Err x ↦ false ]) (sym h)
    of_answer bytes (Err e) h = absurd cc

    by : (log : Option (List ℕ)) → opened_and_end name 1 1000000 (either_loaded 1 1000000 log None) ≡ Ok (b, end) → has_unsaved b ≡ false
    by (Some bytes) h = of_answer bytes (log_end (log_outcome 1000000 nothing bytes).1) h
    by None h = ap (λ (o : Opened). elim o [ Ok p ↦ has_unsaved p.0 | Err x ↦ false ]) (sym h)

-- saves append runs or not, whatever is kept
kept_again : (held : Content) (b : OpenState) (log : Option (List ℕ)) → IsLogged held (with_brief false (with_runs false b)) log → IsLogged held b log
kept_again held b log h = record {
  stands = h.stands;
  absent = h.absent;
  ended = h.ended;
  content = h.content;
  joinable = h.joinable;
  sound = h.sound;
  writable = h.writable;
  fits = h.fits;
  waits = h.waits;
}

-- so where the text waits, if there is a log
kept_due : (held : Content) (b : OpenState) (log : Option (List ℕ)) → IsLogged held b log → IsLogged held (text_due (is_some log) b) log
kept_due held b log h = record {
  stands = h.stands;
  absent = h.absent;
  ended = h.ended;
  content = h.content;
  joinable = h.joinable;
  sound = h.sound;
  writable = h.writable;
  fits = h.fits;
  waits = there log b.text_waits h.waits;
}
  where
    there : (o : Option (List ℕ)) (w : Bool) → (w ≡ true → IsThere o) → (is_some o || w) ≡ true → IsThere o
    there (Some bytes) w h e = (bytes, refl)
    there None w h e = h e

-- the text of a log that is put first leaves the log of the note
after_first : (o : Owner) (name : List ℕ) (text : Option (List ℕ)) (calls : List Call) (u t : Held) → MayLead (first_calls o name text ++ calls) u t → (v : Held) × ((v name).log ≡ (u name).log) × MayLead calls v t
after_first AnyLog name (Some text) calls u t (v, leaves, rest) = (v, ap (λ (f : Files). f.log) leaves.here, rest)
after_first o name text calls u t leads = (u, refl, leads)

module _ (before made : List Call) (name : List ℕ) (adopt : Bool) (logs : List (List ℕ)) (new : ℕ) (torn : List Torn) (s t : Held) (m : Merges (Some before) (Some (before ++ made)) name adopt logs new torn) (leads : MayLead made s t) where
  abbrev b : OpenState
  b = m.b

  abbrev d : OpenState
  d = m.merges.d

  abbrev first : List Call
  first = first_calls m.merges.o d.buffer.name m.s.text

  abbrev found : Files
  found = m.loads.found

  all_calls : made ≡ found_call name found ∷ (first ++ save_calls (due m.s d))
  all_calls = calls_are before made (first ++ save_calls (due m.s d)) m.between (found_call name found) m.loads.told (λ told is. subst (λ o. IfSome o (λ known. Some (before ++ made) ≡ Some (known ++ (first ++ save_calls (due m.s d))))) is m.merges.written)

  led : MayLead (found_call name found ∷ (first ++ save_calls (due m.s d))) s t
  led = subst (λ calls. MayLead calls s t) all_calls leads

  is_named : b.buffer.name ≡ name
  is_named = opened_name name 1 1000000 (log_alone found) b m.loads.end m.loads.outcome

  is_named_after : d.buffer.name ≡ name
  is_named_after = ap (λ (x : State). x.name) m.merges.goes.takes.follows.follows.rest ∙ is_named

  -- what is held before the save, once the text of a log was put
  put : (v : Held) × ((v d.buffer.name).log ≡ (led.0 d.buffer.name).log) × MayLead (save_calls (due m.s d)) v t
  put = after_first m.merges.o d.buffer.name m.s.text (save_calls (due m.s d)) led.0 t led.2

  pub join_is_held : IsBuffer b → IsBuffer d → HoldsJoin name logs s t
  join_is_held kept after =
      let stood : (s name).log ≡ found.log = sym led.1.found.log in
      let opens = opened_kept name 1 1000000 (log_alone found) b m.loads.end false false m.loads.outcome kept in
      let here : (put.0 d.buffer.name).log ≡ found.log =
      put.1 ∙ ap (λ n. (led.0 n).log) is_named_after ∙ ap (λ (f : Files). f.log) led.1.here ∙ stood in
      let logged : IsLogged opens.held b found.log = kept_again opens.held b found.log opens.logged in
      let alone : ChangesAlone b d put.0 put.0 = record { rest = m.merges.goes.takes.rest; writable = after.writable; held = refl } in
      let joins = taken_joins b.buffer m.merges.goes.takes.follows.ops d.buffer (record { allowed = one_by_one_list b.buffer.limit b.buffer.content d.buffer.content m.merges.goes.takes.follows.ops kept.fits m.merges.goes.takes.follows.taken; follows = m.merges.goes.takes.follows.follows }) in
      let changed : IsLogged opens.held d found.log = after_change opens.held b d put.0 put.0 found.log (new_operations b.buffer.content m.merges.goes.takes.follows.ops) logged alone joins in
      let waits : IsLogged opens.held (due m.s d) found.log = subst (λ w. IsLogged opens.held (text_due w d) found.log) (sym (ap (λ (x : Beside). x.logged) m.loads.stands)) (kept_due opens.held d found.log changed) in
      let saves = save_answered opens.held (due m.s d) put.0 t (subst (IsLogged opens.held (due m.s d)) (sym here) waits) put.2 in
      let whole : opens.held ≡ b.buffer.content = held_is opens.held b found.log logged (none_unsaved name found b m.loads.end m.loads.outcome) in
      let taken = merged_taken adopt (clock_of b.buffer.content) b.buffer.limit 0 b.buffer.content logs (logs_taken d.buffer.content torn) m.merges.goes.takes.outcome in
      let content : d.buffer.content ≡ join opens.held (content_of (all_operations logs)) =
      (taken_list_is b.buffer.limit b.buffer.content (all_operations logs) d.buffer.content taken).joined ∙ ap (λ c. join c (content_of (all_operations logs))) (sym whole) in
      record {
        held = opens.held;
        stood = subst (λ (l : Option (List ℕ)). StandsFor (log_bytes l) opens.held) (sym stood) opens.logged.stands;
        stands = subst (StandsFor (log_bytes (t name).log)) content (subst (λ n. StandsFor (log_bytes (t n).log) d.buffer.content) is_named_after saves.stands);
      }

  pub text_is_of_all : is_changed (due m.s d) ≡ true → (t name).text ≡ Some (text_bytes d.buffer.content)
  text_is_of_all changed = subst (λ n. (t n).text ≡ Some (text_bytes d.buffer.content)) is_named_after (text_is_put (due m.s d) put.0 t changed put.2)
