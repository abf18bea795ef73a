-- Calls that leave the files of a name as they are.
use Rattle.std.proofs.Common.{◌≡◌, ◌≢◌, ◌⊎◌, inl, inr, ◌∙◌, ℕ, Bool, true, false, List, [], ◌∷◌, ◌++◌, refl, sym, subst, true≢false}
use Rattle.std.specs.Prelude.{⊤, bytes_eq, if◌then◌else◌}
use Rattle.std.proofs.lemmas.Slice.Eq.{bytes_eq-Decides}
use Rattle.mg_buffer.specs.OpenState.{OpenState, has_unsaved, is_changed}
use Rattle.mg_files.specs.Calls.{Call, call, refused, refusals, link_call, link_refusals}
use Rattle.mg_files.specs.Files.{Files}
use Rattle.rga_ops.specs.Operations.{operations}
use Rattle.rga_exchange.specs.Sending.{log_text}
use Rattle.mg_files.specs.Saving.{appended_text, SaveStep, AtLog, AtText, failed_calls, log_call, log_calls, save_calls, text_call}
use Rattle.mg_files.specs.declared.port.CallKind.TheVariants.{Append, Replace, Finish}
use Rattle.mg_files.specs.declared.port.LinkFault.{LinkFault}
use Rattle.mg_files.specs.declared.port.LinkFault.TheVariants as link
use Rattle.mg_files.specs.declared.port.PortFault.{PortFault}
use Rattle.mg_files.specs.declared.port.PortFault.TheVariants.{File, Memory}
use Rattle.mg_files.specs.Held.{Held, Leaves, MayLeave, MayLead}
use Rattle.mg_files.specs.Asking.{Role, Connects, Waits}
use Rattle.mg_files.specs.Meeting.{opening}

-- ---- a call, and calls in a row

told_apart : (m n : List ℕ) → (m ≡ n) ⊎ (m ≢ n)
told_apart m n = by (bytes_eq m n) refl
  where
    by : (b : Bool) → bytes_eq m n ≡ b → (m ≡ n) ⊎ (m ≢ n)
    by true e = inl ((bytes_eq-Decides m n).0 e)
    by false e = inr (λ same. absurd (true≢false (sym ((bytes_eq-Decides m n).1 same) ∙ e)))

-- a call under another name, or one that leaves files
abbrev pub Spares : List ℕ → Call → Type 0
Spares name c = (c.name ≢ name) ⊎ ((f g : Files) → Leaves c.kind c.answered c.bytes f g → g ≡ f)

spared : (name : List ℕ) (c : Call) (s t : Held) → Spares name c → MayLeave c s t → t name ≡ s name
spared name c s t (inl other) m = m.elsewhere name (λ e. other (sym e))
spared name c s t (inr keeps) m = elim (told_apart name c.name) [
  | inl e ↦ subst (λ n. t n ≡ s n) (sym e) (keeps (s c.name) (t c.name) m.here)
  | inr other ↦ m.elsewhere name other
]

abbrev pub AllSpare : List ℕ → List Call → Type 0
AllSpare name [] = ⊤
AllSpare name (c ∷ calls) = Spares name c × AllSpare name calls

pub all_spared : (name : List ℕ) (calls : List Call) (s t : Held) → AllSpare name calls → MayLead calls s t → t name ≡ s name
all_spared name [] s t spare m = m name
all_spared name (c ∷ calls) s t spare (u, first, later) = all_spared name calls u t spare.1 later ∙ spared name c s u spare.0 first

pub both_spare : (name : List ℕ) (xs ys : List Call) → AllSpare name xs → AllSpare name ys → AllSpare name (xs ++ ys)
both_spare name [] ys one two = two
both_spare name (c ∷ xs) ys one two = (one.0, both_spare name xs ys one.1 two)

pub leads_split : (xs ys : List Call) (s t : Held) → MayLead (xs ++ ys) s t → (u : Held) × MayLead xs s u × MayLead ys u t
leads_split [] ys s t m = (s, (λ name. refl), m)
leads_split (c ∷ xs) ys s t (v, first, later) = let r = leads_split xs ys v t later in (r.0, (v, first, r.1), r.2)

-- ---- those of a save, and of a link

log_name : (b : OpenState) → (log_call b).name ≡ b.buffer.name
log_name b = by b.whole
  where
    by : (whole : Bool) → (if whole then call Replace b.buffer.name (log_text (operations b.buffer.content)) else call Append b.buffer.name (appended_text b.runs b.buffer.unsaved)).name ≡ b.buffer.name
    by true = refl
    by false = refl

log_spares : (name : List ℕ) (b : OpenState) → b.buffer.name ≢ name → Spares name (log_call b)
log_spares name b other = inl (λ e. other (sym (log_name b) ∙ e))

logs_spare : (name : List ℕ) (b : OpenState) → b.buffer.name ≢ name → AllSpare name (log_calls b)
logs_spare name b other = by (has_unsaved b)
  where
    by : (u : Bool) → AllSpare name (if u then log_call b ∷ [] else [])
    by true = (log_spares name b other, tt)
    by false = tt

pub saves_spare : (name : List ℕ) (b : OpenState) → b.buffer.name ≢ name → AllSpare name (save_calls b)
saves_spare name b other = by (is_changed b)
  where
    by : (changed : Bool) → AllSpare name (if changed then log_calls b ++ text_call b ∷ [] else [])
    by true = both_spare name (log_calls b) (text_call b ∷ []) (logs_spare name b other) (inl other, tt)
    by false = tt

refused_spare : (name : List ℕ) (fault : PortFault) (c : Call) → Spares name (refused c) → AllSpare name (refusals fault c)
refused_spare name File c spare = (spare, tt)
refused_spare name (Memory _) c spare = tt

pub failed_spare : (name : List ℕ) (step : SaveStep) (fault : PortFault) (b : OpenState) → b.buffer.name ≢ name → AllSpare name (failed_calls step fault b)
failed_spare name AtLog fault b other = refused_spare name fault (log_call b) (inl (λ e. other (sym (log_name b) ∙ e)))
failed_spare name AtText fault b other = both_spare name (log_calls b) (refusals fault (text_call b)) (logs_spare name b other) (refused_spare name fault (text_call b) (inl other))

pub opening_spares : (name : List ℕ) (role : Role) → Spares name (opening role)
opening_spares name Connects = inr (λ f g e. e)
opening_spares name Waits = inr (λ f g e. e)

pub unopened_spare : (name : List ℕ) (role : Role) (fault : LinkFault) → AllSpare name (link_refusals fault (opening role))
unopened_spare name Connects link.Socket = (inr (λ f g e. e), tt)
unopened_spare name role (link.Memory _) = tt
unopened_spare name role fault = (inr (λ f g e. e), tt)

pub unended_spare : (name : List ℕ) (fault : LinkFault) → AllSpare name (link_refusals fault (link_call Finish))
unended_spare name (link.Memory _) = tt
unended_spare name fault = (inr (λ f g e. e), tt)
