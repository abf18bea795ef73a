-- What a replica knows, in short, and what another lacks by it.
use Rattle.std.specs.Prelude.{◌≡◌, ◌==◌, Bool, not, List, filter, Option}
use Rattle.std.specs.Option.{option_eq}
use Rattle.std.specs.List.Sorted.{IsStrictlySortedBy}
use Rattle.std.specs.Map.{keys_of, lookup}
use Rattle.std.specs.Ordering.{eq_by_cmp}
use Rattle.rga_ops.specs.Content.{Content}
use Rattle.rga_ops.specs.Operation.{id_of}
use Rattle.rga_ops.specs.Operations.{operations}
use Rattle.rga_ops.specs.declared.op.Op.{Op}
use Rattle.rga_ops.specs.declared.op.Op.TheVariants.{Insert, Delete}
use Rattle.rga_brief.specs.declared.block.Block.{Block}
use Rattle.rga_brief.specs.declared.digests.Digests.{Digests}
use Rattle.rga_brief.specs.Digest.{block_of, block_cmp, inserted_in, deleted_in, digest, own_digests, inserted, deleted}

-- digests by block
abbrev pub Summary : Type 0
Summary = List (Block × Digests)

abbrev pub digests_at : Summary → Block → Option Digests
digests_at s block = lookup (eq_by_cmp block_cmp block) s

-- The summary is that of the content: by rising block it has the digests of what is inserted and deleted there, and none of
-- a block that is empty.
pub record IsSummary (c : Content) (s : Summary) : Type 0 where
  pub in_order : IsStrictlySortedBy block_cmp (keys_of s)
  pub digests : (block : Block) → digests_at s block ≡ own_digests c block

-- An operation is lacked if the peer's digest of its kind is not the own one, or is absent.
abbrev pub lacks_by : Option Digests → Option Digests → Op → Bool
lacks_by own peer (Insert id parent ch) = not (option_eq (λ a b. a == b) (inserted peer) (inserted own))
lacks_by own peer (Delete id) = not (option_eq (λ a b. a == b) (deleted peer) (deleted own))

-- who gave the summary lacks the operation, by the digests of its block
abbrev pub lacks : Content → Summary → Op → Bool
lacks c s op = lacks_by (own_digests c (block_of (id_of op))) (digests_at s (block_of (id_of op))) op

-- the own operations that who gave the summary lacks
abbrev pub missing : Content → Summary → List Op
missing c s = filter (lacks c s) (operations c)

-- No two different lists of insertions in a block of both have one digest, and no two of deletions.
pub record DigestsTellApart (c d : Content) : Type 0 where
  pub insertions : (block : Block) → digest (inserted_in c block) ≡ digest (inserted_in d block) → inserted_in c block ≡ inserted_in d block
  pub deletions : (block : Block) → digest (deleted_in c block) ≡ digest (deleted_in d block) → deleted_in c block ≡ deleted_in d block
