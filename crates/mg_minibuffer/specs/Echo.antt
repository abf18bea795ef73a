-- What the echo line says.
use Rattle.std.specs.Prelude.{ℕ, Bool, true, false, List, [], ◌++◌, Option, Some, None, encode_utf8_all}
use Rattle.mg_minibuffer.specs.Messages.{message_text}
use Rattle.mg_minibuffer.specs.Prompts.{label, typed_answer}
use Rattle.mg_minibuffer.specs.declared.message.Message.{Message}
use Rattle.mg_minibuffer.specs.declared.message.Message.TheVariants.{Nothing}
use Rattle.mg_minibuffer.specs.declared.prompt.Prompt.{Prompt}
use Rattle.mg_minibuffer.specs.declared.prompt.Prompt.TheVariants.{Line, Replacement}
use Rattle.mg_minibuffer.specs.Dialogues.{Dialogue}

-- an open prompt, and the answer so far, as UTF-8
abbrev pub prompt_text : Option Prompt → List ℕ
prompt_text None = []
prompt_text (Some p) = label p ++ encode_utf8_all (typed_answer p)

-- the message, of a buffer with that name; where there is none, the open prompt
abbrev pub said_text : Message → Option Prompt → List ℕ → List ℕ
said_text Nothing prompt name = prompt_text prompt
said_text said prompt name = message_text said name

abbrev pub echo_text : Dialogue → List ℕ → List ℕ
echo_text d name = said_text d.message d.prompt name

-- the answer is typed in the echo line, and is all that is asked for
abbrev pub is_line : Option Prompt → Bool
is_line (Some (Line asked answer)) = true
is_line (Some (Replacement pattern answer)) = true
is_line prompt = false

-- the same where no message hides it
abbrev pub is_line_shown : Message → Option Prompt → Bool
is_line_shown Nothing prompt = is_line prompt
is_line_shown said prompt = false

-- the cursor stands in the echo line
abbrev pub has_cursor : Dialogue → Bool
has_cursor d = is_line_shown d.message d.prompt
