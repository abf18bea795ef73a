-- Arguments and jobs that are added.
use Rattle.std.proofs.Common.{◌≡◌, ◌∙◌, ap, ap₂, sym, subst, ℕ, List, [], ◌∷◌, true, ◌||◌}
use Rattle.std.specs.Borrow.{Bor}
use Rattle.clap.specs.Built.{AddsArg, AddsSubcommand}
use Rattle.clap.specs.Simple.{App, app_of, with_rule, with_subcommand}
use Rattle.clap.specs.Walk.{Rule}
use Rattle.clap.specs.declared.builder.arg.Arg.{Arg}
use Rattle.clap.specs.declared.builder.command.Command.{Command}
use Rattle.clap.specs.declared.builder.texts.Texts.TheVariants.{One}
use Rattle.mgr_args.specs.Rules.{IsLocal, IsPlain}

-- ---- an argument, call by call

pub rule_defaulted : (a b : Arg) (n : Bor (List ℕ)) (r : Rule) → b ≡ record a { default_vals = One n } → IsLocal r a → IsLocal (record r { defaults = n.now ∷ [] }) b
rule_defaulted a b n r is of =
    subst (IsLocal (record r { defaults = n.now ∷ [] })) (sym is) (ap (λ (r : Rule). record r { defaults = n.now ∷ [] }) of.0, of.1)

pub rule_required : (a b : Arg) (r : Rule) → b ≡ record a { required = true } → IsLocal r a → IsLocal (record r { required = true }) b
rule_required a b r is of = subst (IsLocal (record r { required = true })) (sym is) (ap (λ (r : Rule). record r { required = true }) of.0, of.1)

-- ---- what is added to a command

-- one argument more
pub takes : (old new : Command) (a : Arg) (app : App) (r : Rule) → AddsArg old a new → IsPlain app old → IsLocal r a → IsPlain (with_rule app r) new
takes old new a app r is plain local =
    (is.shape local.1 ∙ ap₂ with_rule plain.0 local.0, is.globals ∙ ap₂ (λ x y. x || y) plain.1 local.1)

-- one job more
pub takes_job : (old new job : Command) (app sub : App) → AddsSubcommand old job new → app_of old ≡ app → IsPlain sub job → app_of new ≡ with_subcommand app sub.top
takes_job old new job app sub is same plain = is.shape plain.1 ∙ ap₂ (λ (a s : App). with_subcommand a s.top) same plain.0
