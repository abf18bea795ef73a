-- What is known once operations were told one by one.
use Rattle.std.proofs.Common.{◌≡◌, List, [], ◌++◌, filter, sym, subst, append_assoc}
use Rattle.std.specs.Prelude.{Option, Some, None, if◌then◌else◌}
use Rattle.std.proofs.lemmas.List.{append-nil}
use Rattle.rga_ops.specs.declared.op.Op.{Op}
use Rattle.rga_brief.specs.declared.block.Block.{Block}
use Rattle.rga_brief.specs.declared.digests.Digests.{Digests}
use Rattle.rga_brief.specs.Digest.{is_block, inserts_in, deletes_in, digest, digests_of}
use Rattle.rga_brief.specs.Summary.{Summary, digests_at}

-- the digests by block, and those of the last block, which are not among the others yet
pub record Digesting : Type 0 where
  pub digests : Summary
  pub last : Option (Block × Digests)

-- the digests with those of the last block, if there is one
abbrev pub with_last : Option (Block × Digests) → (Block → Option Digests) → Block → Option Digests
with_last None digests block = digests block
with_last (Some last) digests block = if is_block last.0 block then Some last.1 else digests block

abbrev pub digests_told : Digesting → Block → Option Digests
digests_told d block = with_last d.last (digests_at d.digests) block

-- of each block they are those of the operations
abbrev pub HasOperations : Digesting → List Op → Type 0
HasOperations d ops = (block : Block) → digests_told d block ≡ digests_of (digest (filter (inserts_in block) ops)) (digest (filter (deletes_in block) ops))

-- where the first state has the operations that were told before, the second has those that are told now too
abbrev pub Hears : Digesting → List Op → Digesting → Type 0
Hears s ops t = (told : List Op) → HasOperations s told → HasOperations t (told ++ ops)

-- to be told nothing changes nothing
pub hears_nothing : (s : Digesting) → Hears s [] s
hears_nothing s told has = subst (HasOperations s) (sym (append-nil told)) has

-- operations may be told in parts
pub hears_on : (s t u : Digesting) (xs ys : List Op) → Hears s xs t → Hears t ys u → Hears s (xs ++ ys) u
hears_on s t u xs ys first second told has = subst (HasOperations u) (append_assoc told xs ys) (second (told ++ xs) (first told has))
