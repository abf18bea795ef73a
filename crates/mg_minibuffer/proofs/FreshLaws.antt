-- Keys that are commands, where no sequence has begun: nothing is kept of any.
use Rattle.std.proofs.Common.{true≢false, ◌≡◌, ◌∙◌, [], Bool, true, false, ◌||◌, Option, None, refl, sym, ap, subst}
use Rattle.mg_keys.specs.Begun.{KeyState, HasBegun, fresh, waits}
use Rattle.mg_keys.specs.declared.argument.Argument.{Argument}
use Rattle.mg_keys.specs.declared.argument.Argument.TheVariants.{Absent}
use Rattle.mg_keys.specs.declared.sequence.Sequence.{Sequence}
use Rattle.mg_keys.specs.declared.sequence.Sequence.TheVariants.{Start}
use Rattle.mg_keys.specs.declared.step.Mode.{Mode}
use Rattle.mg_keys.specs.declared.step.Mode.TheVariants as mode
use Rattle.mg_keys.proofs.BegunLaws.{waits_tells}
use Rattle.mg_minibuffer.specs.declared.prompt.Prompt.{Prompt}
use Rattle.mg_minibuffer.specs.Dialogues.{Dialogue, forgotten, mode_of}

abbrev keys_of : Mode → Argument → Sequence → KeyState
keys_of m a s = record { mode = m; argument = a; sequence = s }

plain_fresh : (a : Argument) (s : Sequence) → waits mode.Plain a s ≡ false → keys_of mode.Plain a s ≡ fresh mode.Plain
plain_fresh Absent Start w = refl
plain_fresh a s w = absurd (true≢false w)

fresh_keys : (keys : KeyState) → keys.mode ≡ mode.Plain → HasBegun keys [] → keys ≡ fresh mode.Plain
fresh_keys keys plain begun =
    let none : waits keys.mode keys.argument keys.sequence ≡ false = (waits_tells keys (waits keys.mode keys.argument keys.sequence) refl).1 begun in
    (λ k. keys_of (plain k) keys.argument keys.sequence)
    ∙ plain_fresh keys.argument keys.sequence (sym (ap (λ m. waits m keys.argument keys.sequence) plain) ∙ none)

pub nothing_to_forget : (d : Dialogue) → d.keys.mode ≡ mode_of d.prompt → d.prompt ≡ None → HasBegun d.keys [] → forgotten d ≡ d
nothing_to_forget d reads none begun =
    let plain : mode_of d.prompt ≡ mode.Plain = ap mode_of none in
    (λ k. record d { keys = fresh (plain k) }) ∙ (λ k. record d { keys = sym (fresh_keys d.keys (reads ∙ plain) begun) k })
