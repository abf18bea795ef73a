use Rattle.std.proofs.Common.{◌≡◌, ℕ, ◌+◌, Bool, true, false, List, [], ◌∷◌, ◌++◌, length, Option, Some, None, Result, Ok, Err, option_map, nat_eq, nat_lt, if◌then◌else◌, refl, sym, ap, subst, ◌∙◌, true≢false}
use Rattle.std.specs.Prelude.{⊤, ok_or}
use Rattle.rga_ops.specs.Splice.{Splice}
use Rattle.mg_plain.specs.declared.command.Command.{Command}
use Rattle.mg_plain.specs.declared.outcome.Notice.{Notice}
use Rattle.mg_plain.specs.declared.outcome.Notice.TheVariants.{SearchFailed}
use Rattle.mg_plain.specs.declared.steps.Direction.{Direction}
use Rattle.mg_plain.specs.declared.steps.Direction.TheVariants.{Forward, Backward}
use Rattle.mg_plain.specs.Commands.{effect}
use Rattle.mg_plain.specs.Effect.{Effect, motion}
use Rattle.mg_plain.specs.Matches.{first_match, last_match}
use Rattle.mg_plain.specs.Situation.{Situation}
use Rattle.mg_keys.specs.declared.step.Step.{Step}
use Rattle.mg_keys.specs.declared.step.Step.TheVariants as step
use Rattle.mg_minibuffer.specs.declared.ending.Action.{Action}
use Rattle.mg_minibuffer.specs.declared.ending.Action.TheVariants as action
use Rattle.mg_minibuffer.specs.declared.ending.Next.TheVariants.{Same, Open}
use Rattle.mg_minibuffer.specs.declared.ending.Reaction.{Reaction}
use Rattle.mg_minibuffer.specs.declared.ending.Reaction.TheVariants.{Ends, Replaces, Accepts}
use Rattle.mg_minibuffer.specs.declared.message.Message.TheVariants as message
use Rattle.mg_minibuffer.specs.declared.prompt.Prompt.{Prompt}
use Rattle.mg_minibuffer.specs.declared.prompt.Prompt.TheVariants.{Line, Replacement, Searching, Replacing, Quitting}
use Rattle.mg_minibuffer.specs.declared.prompt.Search.{Search}
use Rattle.mg_minibuffer.specs.PromptStep.{prompt_step}
use Rattle.mg_minibuffer.specs.Scenes.{Scene}
use Rattle.mg_minibuffer.specs.SearchStep.{command_of, sought, goes_to, seek, failed, returns as goes_back, shorter, first_start, from_match, past_match, turned_search, with_pattern}
use Rattle.mg_minibuffer.specs.Typing.{is_typing, longest_answer}
use Rattle.mg_minibuffer.proofs.laws.typing_at_a_prompt_changes_no_text.Goals as goal

-- ---- a search moves point alone

abbrev splices_in : Result Effect Notice → List Splice
splices_in (Ok e) = e.splices
splices_in (Err why) = []

none_found : (f : ℕ → ℕ) (s : Situation) (k : Option ℕ) → splices_in (ok_or (option_map (λ i. motion s (f i)) k) SearchFailed) ≡ []
none_found f s (Some i) = refl
none_found f s None = refl

search_moves : (d : Direction) (pattern : List ℕ) (start n column : ℕ) (s : Situation) (f : Effect) → effect (command_of d pattern start) n s column ≡ Ok f → f.splices ≡ []
search_moves Forward pattern start n column s f is = ap splices_in (sym is) ∙ none_found (λ i. i + length pattern) s (first_match pattern s.text start)
search_moves Backward pattern start n column s f is = ap splices_in (sym is) ∙ none_found (λ i. i) s (last_match pattern s.text start)

-- ---- what a reaction runs

-- what an action runs makes no splice
abbrev Moves : Action → Type 0
Moves a = (command : Command) (n column : ℕ) (s : Situation) (f : Effect) → a ≡ action.Run command n → effect command n s column ≡ Ok f → f.splices ≡ []

abbrev AtMostMoves : Reaction → Type 0
AtMostMoves (Ends e) = Moves e.action
AtMostMoves (Replaces pattern put count) = ⊤
AtMostMoves Accepts = ⊤

no_command : (command : Command) (n : ℕ) → action.Nothing ≡ action.Run command n → ⊥
no_command command n is = cc

nothing : Moves action.Nothing
nothing command n column s f is done = absurd (no_command command n is)

no_end : (command : Command) (n : ℕ) → action.EndRun ≡ action.Run command n → ⊥
no_end command n is = cc

end : Moves action.EndRun
end command n column s f is done = absurd (no_end command n is)

same_command : (one other : Command) (k n : ℕ) → action.Run one k ≡ action.Run other n → one ≡ other
same_command one other k n is = cc

searched : (d : Direction) (pattern : List ℕ) (start : ℕ) → Moves (action.Run (command_of d pattern start) 1)
searched d pattern start command n column s f is done =
    search_moves d pattern start n column s f (subst (λ x. effect x n s column ≡ Ok f) (sym (same_command (command_of d pattern start) command 1 n is)) done)

sought_moves : (text : List ℕ) (s : Search) (start : Option ℕ) (otherwise : Reaction) → AtMostMoves otherwise → AtMostMoves (seek text s start otherwise)
sought_moves text s start otherwise moves = by (sought text s start)
  where
    by : (k : Option (ℕ × ℕ)) → AtMostMoves (elim k [ Some (i, m) ↦ goes_to s i m | None ↦ otherwise ])
    by (Some (i, m)) = searched s.direction s.pattern i
    by None = moves

by_choice : (b : Bool) (one other : Reaction) → AtMostMoves one → AtMostMoves other → AtMostMoves (if b then one else other)
by_choice true one other first second = first
by_choice false one other first second = second

-- ---- each prompt

typing_moves : (p : Prompt) (s : Step) (scene : Scene) (last : List ℕ) → is_typing s ≡ true → AtMostMoves (prompt_step p s scene last)
typing_moves (Line asked answer) (step.Text c) scene last typing = nothing
typing_moves (Line asked answer) step.Rub scene last typing = nothing
typing_moves (Line asked answer) step.Next scene last typing = end
typing_moves (Line asked answer) step.Prev scene last typing = end
typing_moves (Replacement pattern answer) (step.Text c) scene last typing = nothing
typing_moves (Replacement pattern answer) step.Rub scene last typing = nothing
typing_moves (Replacement pattern answer) step.Next scene last typing = end
typing_moves (Replacement pattern answer) step.Prev scene last typing = end
typing_moves (Searching s) (step.Text c) scene last typing =
    by_choice (nat_lt (length s.pattern) longest_answer) _ _ (sought_moves scene.text (with_pattern s (s.pattern ++ c ∷ [])) (from_match s) (failed Same) nothing) nothing
typing_moves (Searching s) step.Rub scene last typing =
    sought_moves scene.text (shorter s) (first_start (shorter s)) (goes_back s.origin (Open (Searching (shorter s))) message.Nothing) (searched Forward [] s.origin)
typing_moves (Searching s) step.Next scene last typing =
    let t = turned_search s Forward last in
    sought_moves scene.text t (past_match t) (failed (Open (Searching t))) nothing
typing_moves (Searching s) step.Prev scene last typing =
    let t = turned_search s Backward last in
    sought_moves scene.text t (past_match t) (failed (Open (Searching t))) nothing
typing_moves (Replacing pattern put count) (step.Text c) scene last typing = end
typing_moves (Replacing pattern put count) step.Rub scene last typing = end
typing_moves (Replacing pattern put count) step.Next scene last typing = end
typing_moves (Replacing pattern put count) step.Prev scene last typing = end
typing_moves Quitting (step.Text c) scene last typing = by_choice (nat_eq c 121) _ _ nothing nothing
typing_moves Quitting step.Rub scene last typing = nothing
typing_moves Quitting step.Next scene last typing = nothing
typing_moves Quitting step.Prev scene last typing = nothing
typing_moves p s scene last typing = absurd (true≢false (sym typing))

pub returns : goal.returns
returns c p s scene last e command n column situation f typing is =
    subst AtMostMoves is (typing_moves p s scene last typing) command n column situation f
