-- `show` with nothing after it.
use Rattle.std.proofs.Common.{◌≡◌, inl, inr, refl, subst, [], None, Some, codes}
use Rattle.clap.proofs.OnLiterals.{clap_on_literals}
use Rattle.mgr_args.specs.Given.{GivesShown}
use Rattle.mgr_args.specs.Job.{Finds, FoundGives, IsFaultBehind, kinds_behind, rows_behind_job}
use Rattle.mgr_args.specs.declared.given.Shown.TheVariants.{Input, Front}
use Rattle.mgr_args.specs.declared.job.Job.{Job}
use Rattle.mgr_args.specs.declared.job.Job.TheVariants.{Show, Edit, Compact, Join, Log, Who, Claims, Missing, Merge, Mend}
use Rattle.mgr_args.specs.declared.job.JobFault.{JobFault}
use Rattle.mgr_args.specs.declared.job.JobFault.TheVariants.{Help, Version, Usage, Memory as OfMemory}
use Rattle.mgr_args.specs.Memory.{JobMemory as Memory}
use Rattle.mgr_args.specs.declared.job.Topic.TheVariants as topic

no_rows : rows_behind_job (codes "show") [] ≡ Some []
unfolding clap_on_literals
no_rows = refl

no_kinds : kinds_behind (codes "show") [] ≡ []
unfolding clap_on_literals
no_kinds = refl

unnamed : GivesShown [] None → ⊥
unnamed (inl named) = let clash = named in absurd cc
unnamed (inr number) = let clash = number.2.at in absurd cc

given : (job : Job) → FoundGives topic.Show (Some []) (Some job) → job ≡ Show Input
given (Show Input) is = refl
given (Show (Front name lines)) is = absurd (let clash = is.0.given in cc)
given (Edit settings) is = absurd is
given (Compact note) is = absurd is
given (Join logs) is = absurd is
given (Log note) is = absurd is
given (Who note) is = absurd is
given (Claims name) is = absurd is
given (Missing name) is = absurd is
given (Merge merging) is = absurd is
given (Mend name) is = absurd is

pub only_standard_input : (job : Job) → Finds topic.Show [] (Some job) → job ≡ Show Input
only_standard_input job is = given job (subst (λ found. FoundGives topic.Show found (Some job)) no_rows is.1)

pub only_memory : (fault : JobFault) → IsFaultBehind topic.Show (kinds_behind (codes "show") []) (Finds topic.Show [] None) fault → fault ≡ Memory
only_memory fault is = of fault (subst (λ kinds. IsFaultBehind topic.Show kinds (Finds topic.Show [] None) fault) no_kinds is)
  where
    of : (f : JobFault) → IsFaultBehind topic.Show [] (Finds topic.Show [] None) f → f ≡ Memory
    of (OfMemory _) is = refl
    of (Help on text) is = absurd is.1
    of (Version text) is = absurd is
    of (Usage text) (inl some) = absurd some.3
    of (Usage text) (inr none) =
        let empty : FoundGives topic.Show (Some []) None = subst (λ found. FoundGives topic.Show found None) no_rows none.1 in
        absurd (unnamed empty)
