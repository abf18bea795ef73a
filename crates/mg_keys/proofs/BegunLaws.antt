-- Where no key sequence has begun, and where one has.
use Rattle.std.proofs.Common.{arith, true≢false, ◌≡◌, ◌↔◌, ℕ, [], ◌∷◌, Bool, false, refl, sym, ◌∙◌}
use Rattle.mg_plain.specs.declared.command.Command.TheVariants as run
use Rattle.mg_keys.specs.declared.argument.Argument.{Argument}
use Rattle.mg_keys.specs.declared.argument.Argument.TheVariants.{Absent, Multiplied, Typed}
use Rattle.mg_keys.specs.declared.sequence.Sequence.{Sequence}
use Rattle.mg_keys.specs.declared.sequence.Sequence.TheVariants.{Start, Escape, ControlX, Quote, Character}
use Rattle.mg_keys.specs.declared.step.Mode.{Mode}
use Rattle.mg_keys.specs.declared.step.Mode.TheVariants as mode
use Rattle.mg_keys.specs.declared.step.Step.TheVariants as step
use Rattle.mg_keys.specs.Argument.{value}
use Rattle.mg_keys.specs.Begun.{KeyState, HasBegun, waits}
use Rattle.mg_keys.specs.Meaning.{whole, beginning, no_key, insertion_meaning, text_meaning}
use Rattle.mg_keys.specs.Utf8.{Utf8Reading, is, reading_behind}

keys_of : Mode → Argument → Sequence → KeyState
keys_of m a s = record { mode = m; argument = a; sequence = s }

-- ---- none has

fresh : (m : Mode) (a : Argument) (s : Sequence) → waits m a s ≡ false → HasBegun (keys_of m a s) []
unfolding keys_of
fresh mode.Plain Absent Start w = record { same = λ rest. refl }
fresh mode.Plain Absent Escape w = absurd (true≢false w)
fresh mode.Plain Absent ControlX w = absurd (true≢false w)
fresh mode.Plain Absent Quote w = absurd (true≢false w)
fresh mode.Plain Absent (Character begun) w = absurd (true≢false w)
fresh mode.Plain (Multiplied n) s w = absurd (true≢false w)
fresh mode.Plain (Typed n) s w = absurd (true≢false w)
fresh mode.Prompt a Start w = record { same = λ rest. refl }
fresh mode.Prompt a Escape w = record { same = λ rest. refl }
fresh mode.Prompt a ControlX w = record { same = λ rest. refl }
fresh mode.Prompt a Quote w = record { same = λ rest. refl }
fresh mode.Prompt a (Character begun) w = absurd (true≢false w)
fresh mode.Search a Start w = record { same = λ rest. refl }
fresh mode.Search a Escape w = record { same = λ rest. refl }
fresh mode.Search a ControlX w = record { same = λ rest. refl }
fresh mode.Search a Quote w = record { same = λ rest. refl }
fresh mode.Search a (Character begun) w = absurd (true≢false w)
fresh mode.Query a s w = record { same = λ rest. refl }

-- ---- one has: some byte means another thing behind it

no_insertion : (n m : ℕ) (r : Utf8Reading) → whole (step.Run run.BeginningOfLine m) ≡ insertion_meaning n r → ⊥
no_insertion n m r e = grind (arith)

no_text : (r : Utf8Reading) → whole step.Rub ≡ text_meaning r → ⊥
no_text r e = grind (arith)

not_yet : (m : Mode) (a : Argument) (s : Sequence) → HasBegun (keys_of m a s) [] → waits m a s ≡ false
unfolding keys_of
not_yet mode.Plain Absent Start h = refl
not_yet mode.Plain (Multiplied n) Start h =
    let e : whole (step.Run (run.Insert 53) 1) ≡ beginning = h.same (53 ∷ []) in
    absurd cc
not_yet mode.Plain (Typed n) Start h =
    let e : whole (step.Run (run.Insert 53) 1) ≡ beginning = h.same (53 ∷ []) in
    absurd cc
not_yet mode.Plain a Escape h =
    let e : whole (step.Run (run.Insert 53) 1) ≡ no_key = h.same (53 ∷ []) in
    absurd cc
not_yet mode.Plain a ControlX h =
    let e : whole (step.Run (run.Insert 53) 1) ≡ no_key = h.same (53 ∷ []) in
    absurd cc
not_yet mode.Plain a Quote h =
    let e : beginning ≡ insertion_meaning (value a) (is 27) = h.same (27 ∷ []) in
    absurd cc
not_yet mode.Plain a (Character begun) h = absurd (no_insertion (value a) 1 (reading_behind begun (1 ∷ [])) (h.same (1 ∷ [])))
not_yet mode.Prompt a Start h = refl
not_yet mode.Prompt a Escape h = refl
not_yet mode.Prompt a ControlX h = refl
not_yet mode.Prompt a Quote h = refl
not_yet mode.Prompt a (Character begun) h = absurd (no_text (reading_behind begun (127 ∷ [])) (h.same (127 ∷ [])))
not_yet mode.Search a Start h = refl
not_yet mode.Search a Escape h = refl
not_yet mode.Search a ControlX h = refl
not_yet mode.Search a Quote h = refl
not_yet mode.Search a (Character begun) h = absurd (no_text (reading_behind begun (127 ∷ [])) (h.same (127 ∷ [])))
not_yet mode.Query a s h = refl

-- no sequence has begun exactly where the keys do not wait
pub waits_tells : (keys : KeyState) (waiting : Bool) → waiting ≡ waits keys.mode keys.argument keys.sequence → (waiting ≡ false) ↔ HasBegun keys []
unfolding keys_of
waits_tells keys waiting same =
    (λ no. fresh keys.mode keys.argument keys.sequence (sym same ∙ no), λ begun. same ∙ not_yet keys.mode keys.argument keys.sequence begun)
