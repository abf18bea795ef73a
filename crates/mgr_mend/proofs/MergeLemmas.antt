-- What is written of a note, and what a merge is as a whole.
use Rattle.std.proofs.Common.{◌≡◌, ◌≢◌, ◌⊎◌, inl, inr, ℕ, Bool, List, [], ◌∷◌, length, Option, Some, None, Result, Ok, Err, refl, sym, subst, ◌∙◌}
use Rattle.std.specs.Prelude.{IfSome, IfOk, IfErr, OnErr}
use Rattle.std.specs.Result.{IsErrAnd}
use Rattle.std.proofs.lemmas.Option.{IfSome_then}
use Rattle.std.proofs.lemmas.Result.{IfErr-weaker, IfOk-weaker, on_err_weaker}
use Rattle.mg_buffer.specs.OpenState.{OpenState}
use Rattle.mg_buffer.specs.State.{State}
use Rattle.mg_files.specs.Calls.{Call, Adds, call, found_call, refusals}
use Rattle.mg_files.specs.declared.port.CallKind.TheVariants.{PutText}
use Rattle.mg_files.specs.declared.port.PortFault.{PortFault}
use Rattle.mgr_show.specs.Joined.{all_told, in_front}
use Rattle.rga_ops.specs.Content.{clock_of}
use Rattle.mgr_mend.specs.Beside.{Beside}
use Rattle.mgr_mend.specs.Taking.{HasTaken, logs_taken, merged_from}
use Rattle.mgr_mend.specs.Merging.{IfStays, IsOfLogs, IsOfNote, BeginsInto, BeginsToPut, BeginsToWrite, GoesOn, LeavesAll, LeavesText, LoadsNote, Merges, MergesInto, OnlyLoads, RefusesLogs, Stays, StopsWriting, first_calls, owner, taking_outcome, write_calls}
use Rattle.mgr_mend.specs.declared.fault.MergeFault.{MergeFault}
use Rattle.mgr_mend.specs.declared.fault.MergeFault.TheVariants.{NoLog, Load, Log, Apart, Far, TextStays, File, Memory as OfMemory}
use Rattle.mgr_mend.specs.Memory.{MergeMemory as Memory}
use Rattle.mgr_mend.specs.declared.merged.Torn.{Torn}
use Rattle.mgr_mend.specs.declared.text.Owner.{Owner}
use Rattle.mgr_mend.specs.declared.text.Owner.TheVariants.{Note}

-- ---- writing

-- the text of a log could not be put
pub stops_first : (calls more : Option (List Call)) (o : Owner) (s : Beside) (b : OpenState) {e fault : PortFault} {name text put : List ℕ} → e ≡ fault → name ≡ b.buffer.name → put ≡ text → ((n : List ℕ) → first_calls o n s.text ≡ call PutText n text ∷ [])
    → Adds calls more (refusals fault (call PutText name put)) → StopsWriting e calls more o s b
stops_first calls more o s b {e} {fault} {name} {text} {put} is named same first told =
    inl (text, first b.buffer.name, subst (λ f. Adds calls more (refusals f (call PutText b.buffer.name text))) (sym is) (subst (λ n. Adds calls more (refusals fault (call PutText n text))) named (subst (λ t. Adds calls more (refusals fault (call PutText name t))) same told)))

-- ---- logs that are told alike

pub told_alike : (f g : List ℕ → Option (List ℕ)) (names : List (List ℕ)) → ((name : List ℕ) → f name ≡ g name) → all_told f names ≡ all_told g names
told_alike f g [] same = refl
told_alike f g (name ∷ names) same = λ k. in_front (same name k) (told_alike f g names same k)

pub as_told : (P : List (List ℕ) → Type 0) {told other : Option (List (List ℕ))} → told ≡ other → IfSome told P → IfSome other P
as_told P is h = subst (λ (o : Option (List (List ℕ))). IfSome o P) is h

-- ---- the whole

pub leaves_all : (known : Option (List (List ℕ))) (s : Beside) (o : Owner) (torn : List Torn) (adopt : Bool) {b c : OpenState} {m : State} → c ≡ b
    → IfSome known (λ logs. merged_from adopt (clock_of c.buffer.content) c.buffer.limit 0 c.buffer.content logs ≡ Ok (logs_taken m.content torn))
    → HasTaken c.buffer m → IfSome known (λ logs. o ≡ owner s.text m.content logs) → Stays o (record c { buffer = m }) → IfSome known (λ logs. LeavesAll b s adopt logs torn)
leaves_all None s o torn adopt is h follows owned stays = tt
leaves_all (Some logs) s o torn adopt {b} {c} {m} is h follows owned stays =
    subst (λ x. LeavesAll x s adopt logs torn) is (record {
      d = record c { buffer = m };
      takes = record { outcome = h; follows = follows; rest = refl };
      stays = (sym owned ∙ stays.0, stays.1);
    })

pub merges_into : (known : Option (List (List ℕ))) (calls more : Option (List Call)) (b d : OpenState) (s : Beside) (o : Owner) (adopt : Bool) (torn : List Torn) {new : ℕ} → IfSome known (λ logs. GoesOn b s adopt logs d torn o) → new ≡ length d.buffer.unsaved → Adds calls more (write_calls o s d)
    → IfSome known (λ logs. MergesInto calls more b s adopt logs new torn)
merges_into known calls more b d s o adopt torn goes counted written = IfSome_then known goes (λ logs g. record { d = d; o = o; goes = g; counted = counted; written = written })

pub begins_into : (known : Option (List (List ℕ))) (calls more : Option (List Call)) (b d : OpenState) (s : Beside) (o : Owner) (adopt : Bool) (torn : List Torn) (fault : PortFault) → IfSome known (λ logs. GoesOn b s adopt logs d torn o) → StopsWriting fault calls more o s d
    → IfSome known (λ logs. BeginsInto calls more b s adopt logs)
begins_into known calls more b d s o adopt torn fault goes stops = IfSome_then known goes (λ logs g. record { d = d; torn = torn; o = o; goes = g; fault = fault; stops = stops })

-- ---- of a note that was loaded

pub if_stays : (e : MergeFault) {P Q : List Torn → Type 0} → ((torn : List Torn) → P torn → Q torn) → IfStays e P → IfStays e Q
if_stays (TextStays torn) f h = f torn.items h
if_stays NoLog f h = tt
if_stays (Load e) f h = tt
if_stays (Log n e) f h = tt
if_stays (Apart n) f h = tt
if_stays (Far n) f h = tt
if_stays File f h = tt
if_stays (OfMemory m) f h = tt

pub is_loaded : {A : Type 0} (P : MergeFault → Type 0) (r : Result A MergeFault) → IfErr r (λ e. ¬ (IsOfNote e)) → IfErr r (λ e. IsOfNote e → P e)
is_loaded P r h = IfErr-weaker r (λ e. ¬ (IsOfNote e)) (λ e. IsOfNote e → P e) (λ e not own. absurd (not own)) h

module _ {A : Type 0} (calls between more : Option (List Call)) (name : List ℕ) (known : Option (List (List ℕ))) (adopt : Bool) (b : OpenState) (s : Beside) (loads : LoadsNote calls between name b s) (r : Result A MergeFault) where
  only_loads : more ≡ between → OnlyLoads calls more name
  only_loads same = (Ok loads.found, subst (λ m. Adds calls m (found_call name loads.found ∷ [])) (sym same) loads.told)

  loads_alone : more ≡ between → LoadsNote calls more name b s
  loads_alone same = subst (λ m. LoadsNote calls m name b s) (sym same) loads

  pub merges : (new : A → ℕ) (torn : A → List Torn) → IfOk r (λ a. IfSome known (λ logs. MergesInto between more b s adopt logs (new a) (torn a))) → IfOk r (λ a. IfSome known (λ logs. Merges calls more name adopt logs (new a) (torn a)))
  merges new torn h = IfOk-weaker r (λ a. IfSome known (λ logs. MergesInto between more b s adopt logs (new a) (torn a))) _ (λ a into. IfSome_then known into (λ logs m. record { between = between; b = b; s = s; loads = loads; merges = m })) h

  pub refuses : IfErr r (λ e. IsOfLogs e → (more ≡ between) × IfSome known (λ logs. taking_outcome b adopt logs ≡ Err e)) → IfErr r (λ e. IsOfLogs e → IfSome known (λ logs. RefusesLogs calls more name adopt logs e))
  refuses h = IfErr-weaker r (λ e. IsOfLogs e → (more ≡ between) × IfSome known (λ logs. taking_outcome b adopt logs ≡ Err e)) _ (λ e why own. let w = why own in IfSome_then known w.1 (λ logs is. record { b = b; s = s; loads = loads_alone w.0; outcome = is })) h

  pub leaves : IfErr r (λ e. IfStays e (λ torn. (more ≡ between) × IfSome known (λ logs. LeavesAll b s adopt logs torn))) → IfErr r (λ e. IfStays e (λ torn. IfSome known (λ logs. LeavesText calls more name adopt logs torn)))
  leaves h = IfErr-weaker r (λ e. IfStays e (λ torn. (more ≡ between) × IfSome known (λ logs. LeavesAll b s adopt logs torn))) _
      (λ e. if_stays e (λ torn stays. IfSome_then known stays.1 (λ logs all. record { b = b; s = s; loads = loads_alone stays.0; leaves = all }))) h

  pub unwritten : IfErr r (λ e. e ≢ File → e ≢ Memory → more ≡ between) → IfErr r (λ e. e ≢ File → e ≢ Memory → OnlyLoads calls more name)
  unwritten h = IfErr-weaker r (λ e. e ≢ File → e ≢ Memory → more ≡ between) _ (λ e same file memory. only_loads (same file memory)) h

  pub begins : OnErr r ((more ≡ between) ⊎ IfSome known (λ logs. BeginsInto between more b s adopt logs)) → OnErr r (OnlyLoads calls more name ⊎ IfSome known (λ logs. BeginsToWrite calls more name adopt logs))
  begins h = on_err_weaker r (λ (either : (more ≡ between) ⊎ IfSome known (λ logs. BeginsInto between more b s adopt logs)). elim either [
    | inl same ↦ inl (only_loads same)
    | inr into ↦ inr (IfSome_then known into (λ logs begins. record { between = between; b = b; s = s; loads = loads; begins = begins }))
  ]) h

-- putting its text failed
pub begins_to_put : (calls between more : Option (List Call)) (name : List ℕ) (b : OpenState) (s : Beside) (fault : PortFault) → LoadsNote calls between name b s → StopsWriting fault between more Note s b → BeginsToPut calls more name
begins_to_put calls between more name b s fault loads stops = record { between = between; b = b; s = s; loads = loads; fault = fault; stops = stops }

-- ---- an answer that is an error

pub if_error : {A E : Type 0} {P Q : E → Type 0} (r : Result A E) → IsErrAnd r P → ((e : E) → P e → Q e) → IfErr r Q
if_error (Ok a) h f = absurd h
if_error (Err e) h f = f e h
