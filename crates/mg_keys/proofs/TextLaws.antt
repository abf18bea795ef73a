-- A character goes on, in a prompt and in a search.
use Rattle.std.proofs.Common.{arith, ◌≡◌, ℕ}
use Rattle.mg_keys.specs.declared.argument.Argument.{Argument}
use Rattle.mg_keys.specs.declared.sequence.Advance.{Advance}
use Rattle.mg_keys.specs.declared.sequence.Sequence.{Sequence}
use Rattle.mg_keys.specs.declared.sequence.Sequence.TheVariants.{Character}
use Rattle.mg_keys.specs.declared.step.Mode.{Mode}
use Rattle.mg_keys.specs.declared.step.Mode.TheVariants.{Prompt, Search}
use Rattle.mg_keys.specs.declared.utf8.Continuation.{Continuation}
use Rattle.mg_keys.specs.Begun.{KeyState, text_rest}
use Rattle.mg_keys.specs.Advance.{TextAdvances, Advances}

abbrev keys_at : Mode → Argument → Sequence → KeyState
keys_at m a sequence = record { mode = m; argument = a; sequence = sequence }

in_prompt : (a : Argument) (begun : Continuation) (byte : ℕ) (r : Advance) → TextAdvances Prompt (text_rest Prompt (Character begun)) byte r → Advances (keys_at Prompt a (Character begun)) byte r
in_prompt a begun byte r h = grind (arith)

in_search : (a : Argument) (begun : Continuation) (byte : ℕ) (r : Advance) → TextAdvances Search (text_rest Search (Character begun)) byte r → Advances (keys_at Search a (Character begun)) byte r
in_search a begun byte r h = grind (arith)

-- keys of that mode that have read that much
at : (keys : KeyState) (m : Mode) (begun : Continuation) (byte : ℕ) (r : Advance) → keys.mode ≡ m → keys.sequence ≡ Character begun → Advances (keys_at m keys.argument (Character begun)) byte r → Advances keys byte r
at keys m begun byte r by on h = grind (arith)

pub prompt_character : (keys : KeyState) (begun : Continuation) (byte : ℕ) (r : Advance) → keys.mode ≡ Prompt → keys.sequence ≡ Character begun → TextAdvances Prompt (text_rest Prompt (Character begun)) byte r → Advances keys byte r
prompt_character keys begun byte r by on h = at keys Prompt begun byte r by on (in_prompt keys.argument begun byte r h)

pub search_character : (keys : KeyState) (begun : Continuation) (byte : ℕ) (r : Advance) → keys.mode ≡ Search → keys.sequence ≡ Character begun → TextAdvances Search (text_rest Search (Character begun)) byte r → Advances keys byte r
search_character keys begun byte r by on h = at keys Search begun byte r by on (in_search keys.argument begun byte r h)
