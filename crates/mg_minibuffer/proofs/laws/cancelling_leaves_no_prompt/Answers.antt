use Rattle.std.proofs.Common.{◌≡◌, ℕ, List, refl}
use Rattle.mg_keys.specs.declared.step.Step.TheVariants.{Cancel}
use Rattle.mg_minibuffer.specs.declared.ending.Ending.{Ending}
use Rattle.mg_minibuffer.specs.declared.ending.Next.TheVariants.{Closed}
use Rattle.mg_minibuffer.specs.declared.ending.Reaction.TheVariants.{Ends}
use Rattle.mg_minibuffer.specs.declared.ending.Request.TheVariants.{Idle}
use Rattle.mg_minibuffer.specs.declared.message.Message.TheVariants as message
use Rattle.mg_minibuffer.specs.declared.prompt.Prompt.{Prompt}
use Rattle.mg_minibuffer.specs.declared.prompt.Prompt.TheVariants.{Line}
use Rattle.mg_minibuffer.specs.PromptStep.{prompt_step}
use Rattle.mg_minibuffer.specs.Scenes.{Scene}
use Rattle.mg_minibuffer.proofs.laws.cancelling_leaves_no_prompt.Goals as goal

closes : (p : Prompt) (scene : Scene) (last : List ℕ) → (e : Ending) × (prompt_step p Cancel scene last ≡ Ends e) × (e.next ≡ Closed) × (e.message ≡ message.Quit) × (e.request ≡ Idle)
closes (Line asked answer) scene last = (_, refl, refl, refl, refl)
closes p scene last = (_, refl, refl, refl, refl)

pub returns : goal.returns
returns c = closes
