-- What a step leads to at an open prompt, decided from what is seen before anything is done.
use Rattle.std.specs.Prelude.{ℕ, List}
use Rattle.mg_keys.specs.declared.step.Step.{Step}
use Rattle.mg_minibuffer.specs.declared.ending.Reaction.{Reaction}
use Rattle.mg_minibuffer.specs.declared.prompt.Prompt.{Prompt}
use Rattle.mg_minibuffer.specs.declared.prompt.Prompt.TheVariants.{Line, Replacement, Searching, Replacing, Quitting}
use Rattle.mg_minibuffer.specs.LineStep.{line_prompt_step, quit_step}
use Rattle.mg_minibuffer.specs.ReplacementStep.{replacement_step, replacing_step}
use Rattle.mg_minibuffer.specs.Scenes.{Scene}
use Rattle.mg_minibuffer.specs.SearchStep.{search_step}

-- the last list is the pattern that was accepted last
abbrev pub prompt_step : Prompt → Step → Scene → List ℕ → Reaction
prompt_step (Line asked answer) step scene last = line_prompt_step asked answer step scene
prompt_step (Replacement pattern answer) step scene last = replacement_step pattern answer step scene
prompt_step (Searching search) step scene last = search_step search step scene.text last
prompt_step (Replacing pattern put count) step scene last = replacing_step pattern put count step scene
prompt_step Quitting step scene last = quit_step step
