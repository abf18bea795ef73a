-- Insertions that are taken at once, each behind the one before it.
use Rattle.std.specs.Prelude.{◌≡◌, ℕ, List, ◌++◌, Ok}
use Rattle.std.specs.BTreeSet.{BTreeSet}
use Rattle.rga_ops.specs.Identifier.{Identifier}
use Rattle.rga_ops.specs.Content.{Content, IsWithin}
use Rattle.rga_ops.specs.Answer.{taken_one_by_one}
use Rattle.rga_ops.specs.declared.op.Op.{Op}
use Rattle.rga_sequence.specs.declared.entry.Entry.{Entry}
use Rattle.rga_sequence.specs.Entries.{put_chain, IsChain}
use Rattle.rga_store.specs.declared.steps.Step.{Step}
use Rattle.rga_store.specs.Back.{without_noted, CanTakeBack}
use Rattle.rga_flat.specs.Flat.{IsFlat}
use Rattle.rga_flat.specs.Waiting.{Waiting, under, is_listed}

-- the operations lead from a base to the content, and the steps that were noted since lead back
pub record IsGathered (limit : ℕ) (base c : Content) (ops : List Op) (before steps : List Step) : Type 0 where
  pub taken : taken_one_by_one limit base ops ≡ Ok c
  pub within : IsWithin base c
  pub back : CanTakeBack steps c
  pub own : List Step
  pub noted : steps ≡ before ++ own
  pub gone : without_noted own c ≡ base

-- whatever entries show the base, the chain can be put there, and then they show the content
abbrev pub ChainShows : Content → Content → Identifier → List Entry → Waiting → Type 0
ChainShows base c parent es w = (s : List Entry) (done : BTreeSet Identifier) → IsFlat base s (under w) (is_listed w done) →
    IsChain parent es s × IsFlat c (put_chain parent es s) (under w) (is_listed w done)
