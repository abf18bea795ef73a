-- Open prompts, as they are shown and read.
use Rattle.std.specs.Prelude.{ℕ, List, [], codes}
use Rattle.mg_plain.specs.declared.steps.Direction.{Direction}
use Rattle.mg_plain.specs.declared.steps.Direction.TheVariants.{Forward, Backward}
use Rattle.mg_keys.specs.declared.step.Mode.{Mode}
use Rattle.mg_keys.specs.declared.step.Mode.TheVariants as modes
use Rattle.mg_minibuffer.specs.declared.prompt.Asked.TheVariants.{Command, Pattern, Find, Switch, Kill}
use Rattle.mg_minibuffer.specs.declared.prompt.Prompt.{Prompt}
use Rattle.mg_minibuffer.specs.declared.prompt.Prompt.TheVariants.{Line, Replacement, Searching, Replacing, Quitting}

-- how bytes are read
abbrev pub mode : Prompt → Mode
mode (Searching search) = modes.Search
mode (Replacing pattern put count) = modes.Query
mode p = modes.Prompt

abbrev pub search_label : Direction → List ℕ
search_label Forward = codes "I-search: "
search_label Backward = codes "I-search backward: "

-- what is asked
abbrev pub label : Prompt → List ℕ
label (Line Command answer) = codes "M-x "
label (Line Pattern answer) = codes "Query replace: "
label (Line Find answer) = codes "Find file: "
label (Line Switch answer) = codes "Switch to buffer: "
label (Line Kill answer) = codes "Kill buffer: "
label (Replacement pattern answer) = codes "Query replace with: "
label (Searching search) = search_label search.direction
label (Replacing pattern put count) = codes "Query replacing (y n ! q): "
label Quitting = codes "Changed buffers; quit (y or n): "

-- the answer so far
abbrev pub typed_answer : Prompt → List ℕ
typed_answer (Line asked chars) = chars
typed_answer (Replacement pattern chars) = chars
typed_answer (Searching search) = search.pattern
typed_answer p = []
