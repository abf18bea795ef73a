-- Digests of the insertions and of the deletions in a block of counters.
use Rattle.std.specs.Prelude.{ℕ, ◌*◌, ◌/◌, ◌%◌, ◌^◌, ◌&&◌, ◌==◌, Bool, false, List, [], ◌∷◌, filter, fold, bit_xor, Option, Some, None}
use Rattle.std.specs.Option.{unwrap_or}
use Rattle.std.specs.Ordering.{nat_cmp, ordering_then}
use Rattle.std.specs.declared.cmp.Ordering.{Ordering}
use Rattle.rga_ops.specs.Identifier.{Identifier}
use Rattle.rga_ops.specs.Content.{Content}
use Rattle.rga_ops.specs.Operations.{operations}
use Rattle.rga_ops.specs.declared.op.Op.{Op}
use Rattle.rga_ops.specs.declared.op.Op.TheVariants.{Insert, Delete}
use Rattle.rga_brief.specs.declared.block.Block.{Block}
use Rattle.rga_brief.specs.declared.block.TheConstants.Block.{COUNTERS}
use Rattle.rga_brief.specs.declared.digests.Digests.{Digests}
use Rattle.rga_brief.specs.declared.digests.TheConstants.{START, PRIME}

-- ---- blocks

-- the block of an identifier
abbrev pub block_of : Identifier → Block
block_of id = record { replica = id.replica; number = id.counter / COUNTERS }

abbrev pub is_block : Block → Block → Bool
is_block a b = (a.replica == b.replica) && (a.number == b.number)

-- by replica and then by number
abbrev pub block_cmp : Block → Block → Ordering
block_cmp a b = ordering_then (nat_cmp a.replica b.replica) (nat_cmp a.number b.number)

-- an insertion of the block
abbrev pub inserts_in : Block → Op → Bool
inserts_in block (Insert id parent ch) = is_block (block_of id) block
inserts_in block (Delete id) = false

-- a deletion of the block
abbrev pub deletes_in : Block → Op → Bool
deletes_in block (Insert id parent ch) = false
deletes_in block (Delete id) = is_block (block_of id) block

-- the insertions of a block, by rising identifier: each is an identifier, a parent and a character
abbrev pub inserted_in : Content → Block → List Op
inserted_in c block = filter (inserts_in block) (operations c)

-- the deletions of a block, by rising identifier
abbrev pub deleted_in : Content → Block → List Op
deleted_in c block = filter (deletes_in block) (operations c)

-- ---- digests

-- a digest with one number more: a round of FNV-1a over the whole number
unfoldable pub mixed : ℕ → ℕ → ℕ
mixed digest number = (bit_xor digest number * PRIME) % 2 ^ 64

-- What tells an operation from the others of its block and its kind. The block has the replica.
abbrev pub numbers : Op → List ℕ
numbers (Insert id parent ch) = id.counter ∷ parent.counter ∷ parent.replica ∷ ch ∷ []
numbers (Delete id) = id.counter ∷ []

-- a round for each number of the operation
abbrev pub mixed_operation : ℕ → Op → ℕ
mixed_operation digest op = fold mixed digest (numbers op)

-- the rounds of all operations in turn; there is no digest of nothing
abbrev pub digest : List Op → Option ℕ
digest [] = None
digest (op ∷ ops) = Some (fold mixed_operation START (op ∷ ops))

-- the digests of a block, unless there are none
abbrev pub digests_of : Option ℕ → Option ℕ → Option Digests
digests_of None None = None
digests_of None (Some e) = Some (record { inserted = None; deleted = Some e })
digests_of (Some d) e = Some (record { inserted = Some d; deleted = e })

-- those of what a content has there
abbrev pub own_digests : Content → Block → Option Digests
own_digests c block = digests_of (digest (inserted_in c block)) (digest (deleted_in c block))

abbrev pub inserted : Option Digests → Option ℕ
inserted None = None
inserted (Some d) = d.inserted

abbrev pub deleted : Option Digests → Option ℕ
deleted None = None
deleted (Some d) = d.deleted

-- the digests with one operation more
abbrev pub with_operation : Option Digests → Op → Digests
with_operation d (Insert id parent ch) =
    record { inserted = Some (mixed_operation (unwrap_or (inserted d) START) (Insert id parent ch)); deleted = deleted d }
with_operation d (Delete id) =
    record { inserted = inserted d; deleted = Some (mixed_operation (unwrap_or (deleted d) START) (Delete id)) }
