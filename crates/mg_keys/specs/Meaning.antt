-- What lists of bytes mean.
use Rattle.std.specs.Prelude.{ℕ, List, [], ◌∷◌, Bool, Option, Some, None, nat_eq, nat_le, nat_lt, ◌||◌, if◌then◌else◌}
use Rattle.mg_plain.specs.declared.command.Command.TheVariants as run
use Rattle.mg_keys.specs.declared.argument.Argument.{Argument}
use Rattle.mg_keys.specs.declared.argument.Argument.TheVariants.{Absent}
use Rattle.mg_keys.specs.Bytes.{cancel_byte, tab_byte, return_byte, quote_byte, search_backward_byte, search_forward_byte, control_x_byte, escape_byte, delete_byte}
use Rattle.mg_keys.specs.declared.step.Answer.TheVariants as answer
use Rattle.mg_keys.specs.declared.step.Mode.{Mode}
use Rattle.mg_keys.specs.declared.step.Mode.TheVariants as mode
use Rattle.mg_keys.specs.declared.step.Step.{Step}
use Rattle.mg_keys.specs.declared.step.Step.TheVariants as step
use Rattle.mg_keys.specs.Argument.{with_byte, value}
use Rattle.mg_keys.specs.Commands.{step_of}
use Rattle.mg_keys.specs.KeyTable.{bound, begins_some, same_keys}
use Rattle.mg_keys.specs.Utf8.{Utf8Reading, is, begins, neither, is_between, ended_character, multibyte_character}

-- bytes that are a key sequence, a proper beginning of one, or neither
pub data Meaning : Type 0 where
  whole : Step → Meaning
  beginning : Meaning
  no_key : Meaning

-- ---- mode Plain

-- C-g by itself, and directly behind a prefix key
abbrev pub is_cancel : List ℕ → Bool
is_cancel keys = same_keys (cancel_byte ∷ []) keys || (same_keys (escape_byte ∷ cancel_byte ∷ []) keys || same_keys (control_x_byte ∷ cancel_byte ∷ []) keys)

-- the character that C-q takes
abbrev pub quoted : List ℕ → Utf8Reading
quoted [] = begins
quoted (b ∷ bs) = if nat_lt b 128 then ended_character b bs else multibyte_character b bs

-- the character that bytes are by themselves: none of the control characters but TAB
abbrev pub itself : ℕ → List ℕ → Utf8Reading
itself b bs = if nat_eq b tab_byte || is_between 32 126 b then ended_character b bs else (if nat_le 128 b then multibyte_character b bs else neither)

abbrev pub inserted_character : List ℕ → Utf8Reading
inserted_character [] = neither
inserted_character (k ∷ ks) = if nat_eq k quote_byte then quoted ks else itself k ks

abbrev pub insertion_meaning : ℕ → Utf8Reading → Meaning
insertion_meaning n (is c) = whole (step.Run (run.Insert c) n)
insertion_meaning n begins = beginning
insertion_meaning n neither = no_key

-- what the keys behind an argument part mean
abbrev pub meaning_of_keys : ℕ → List ℕ → Meaning
meaning_of_keys n keys =
    if is_cancel keys then whole step.Cancel else elim (bound keys) [
      | Some command ↦ whole (step_of command n)
      | None ↦ (if begins_some keys then beginning else insertion_meaning n (inserted_character keys))
    ]

-- the argument part as far as it goes, then the keys behind it
abbrev pub plain_meaning : Argument → List ℕ → Meaning
plain_meaning a [] = beginning
plain_meaning a (b ∷ bs) = elim (with_byte a b) [ Some c ↦ plain_meaning c bs | None ↦ meaning_of_keys (value a) (b ∷ bs) ]

-- ---- prompts

abbrev pub text_meaning : Utf8Reading → Meaning
text_meaning (is c) = whole (step.Text c)
text_meaning begins = beginning
text_meaning neither = no_key

abbrev pub line_key : ℕ → Option Step
line_key k =
    if nat_eq k delete_byte then Some step.Rub else (
    if nat_eq k return_byte then Some step.Accept else (
    if nat_eq k cancel_byte then Some step.Cancel else None))

abbrev pub search_key : ℕ → Option Step
search_key k = if nat_eq k search_forward_byte then Some step.Next else (if nat_eq k search_backward_byte then Some step.Prev else line_key k)

-- `y` or a space, `n` or DEL, `!`, `q` or RET
abbrev pub query_key : ℕ → Option Step
query_key k =
    if nat_eq k 121 || nat_eq k 32 then Some (step.Answer answer.Yes) else (
    if nat_eq k 110 || nat_eq k delete_byte then Some (step.Answer answer.No) else (
    if nat_eq k 33 then Some (step.Answer answer.All) else (
    if nat_eq k 113 || nat_eq k return_byte then Some (step.Answer answer.Quit) else (
    if nat_eq k cancel_byte then Some step.Cancel else None))))

-- a byte that begins no character leaves a search
abbrev pub or_leave : Meaning → Meaning
or_leave (whole s) = whole s
or_leave beginning = beginning
or_leave no_key = whole step.Leave

abbrev pub prompt_meaning : List ℕ → Meaning
prompt_meaning [] = beginning
prompt_meaning (k ∷ ks) = elim (line_key k) [ Some s ↦ whole s | None ↦ text_meaning (itself k ks) ]

-- a byte by itself may leave the search; a sequence that breaks is no key, and the search stays
abbrev pub search_meaning : List ℕ → Meaning
search_meaning [] = beginning
search_meaning (k ∷ []) = elim (search_key k) [ Some s ↦ whole s | None ↦ or_leave (text_meaning (itself k [])) ]
search_meaning (k ∷ c ∷ cs) = text_meaning (itself k (c ∷ cs))

abbrev pub query_meaning : List ℕ → Meaning
query_meaning [] = beginning
query_meaning (k ∷ ks) = elim (query_key k) [ Some s ↦ whole s | None ↦ no_key ]

-- what the bytes since the last whole sequence mean
abbrev pub meaning : Mode → List ℕ → Meaning
meaning mode.Plain bytes = plain_meaning Absent bytes
meaning mode.Prompt bytes = prompt_meaning bytes
meaning mode.Search bytes = search_meaning bytes
meaning mode.Query bytes = query_meaning bytes
