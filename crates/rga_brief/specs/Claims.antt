-- What a line of a summary says, and how a claim stands as JSON.
use Rattle.std.specs.Prelude.{ℕ, ◌+◌, ◌*◌, ◌/◌, ◌%◌, ◌^◌, ◌==◌, ◌<◌, ⊤, Bool, false, nat_lt, List, ◌++◌, codes, decimal, Option, Some, None, option_and_then, if◌then◌else◌}
use Rattle.std.specs.Option.{option_map_or}
use Rattle.serde_json.specs.Data.{Data, unsigned, number, array, object, no_items, item, Members, member, no_members}
use Rattle.serde_json.specs.Events.{members_len}
use Rattle.serde_json.specs.Read.{read}
use Rattle.serde_json.specs.Find.{get, as_array, as_object}
use Rattle.rga_lines.specs.Table.{two_numbers}
use Rattle.rga_brief.specs.declared.block.Block.{Block}
use Rattle.rga_brief.specs.declared.claim.TheConstants.{HALF}
use Rattle.rga_brief.specs.declared.claim.Claim.{Claim}

-- ---- read

-- an object of so many members
abbrev pub has_members : ℕ → Data → Bool
has_members count d = option_map_or (λ ms. members_len ms == count) (as_object d) false

-- an array of exactly two whole numbers below 2 ^ 64
abbrev pub numbers_of : Data → Option (ℕ × ℕ)
numbers_of d = option_and_then two_numbers (as_array d)

-- a replica and a number
abbrev pub block_of : ℕ × ℕ → Option Block
block_of p = if nat_lt p.0 65536 then Some (record { replica = p.0; number = p.1 }) else None

abbrev pub block_in : Data → Option Block
block_in d = option_and_then (λ m. option_and_then block_of (numbers_of m)) (get (codes "block") d)

-- a digest by its halves
abbrev pub digest_of : ℕ × ℕ → Option (Option ℕ)
digest_of p = if nat_lt p.0 HALF then (if nat_lt p.1 HALF then Some (Some (p.0 * HALF + p.1)) else None) else None

-- a digest of which the member may be left out
abbrev pub part_of : Option Data → Option (Option ℕ)
part_of None = Some None
part_of (Some m) = option_and_then digest_of (numbers_of m)

abbrev pub digest_in : List ℕ → Data → Option (Option ℕ)
digest_in name d = part_of (get name d)

-- how many members a digest takes
abbrev pub one : Option ℕ → ℕ
one None = 0
one (Some digest) = 1

abbrev pub with_digests : Block → Option ℕ → Option ℕ → Claim
with_digests block deleted inserted = record { block = block; digests = record { inserted = inserted; deleted = deleted } }

-- with no other members
abbrev pub claim_with : Data → Option Block → Option (Option ℕ) → Option (Option ℕ) → Option Claim
claim_with d (Some block) (Some deleted) (Some inserted) =
    if has_members (1 + one deleted + one inserted) d then Some (with_digests block deleted inserted) else None
claim_with d _ _ _ = None

abbrev pub claim_of : Data → Option Claim
claim_of d = claim_with d (block_in d) (digest_in (codes "del") d) (digest_in (codes "ins") d)

-- what a text says
abbrev pub claim_in : List ℕ → Option Claim
claim_in text = option_and_then claim_of (read text)

-- ---- written

abbrev pub IsDigest : Option ℕ → Type 0
IsDigest None = ⊤
IsDigest (Some digest) = digest < 2 ^ 64

-- the numbers are those of the types of `src/`
abbrev pub IsInRange : Claim → Type 0
IsInRange c = (c.block.replica < 65536) × (c.block.number < 2 ^ 64) × IsDigest c.digests.deleted × IsDigest c.digests.inserted

abbrev pub pair_data : ℕ → ℕ → Data
pair_data a b = array (item (number (unsigned a)) (item (number (unsigned b)) no_items))

abbrev pub digest_data : ℕ → Data
digest_data digest = pair_data (digest / HALF) (digest % HALF)

-- members, with one for a digest in front, if there is one
abbrev pub with_part : List ℕ → Option ℕ → Members → Members
with_part name None members = members
with_part name (Some digest) members = member name (digest_data digest) members

-- the object that a claim is written as
abbrev pub claim_data : Claim → Data
claim_data c =
    object (member (codes "block") (pair_data c.block.replica c.block.number)
    (with_part (codes "del") c.digests.deleted (with_part (codes "ins") c.digests.inserted no_members)))

-- its text
abbrev pub pair_text : ℕ → ℕ → List ℕ
pair_text a b = codes "[" ++ (decimal a ++ (codes "," ++ (decimal b ++ codes "]")))

-- a member for a digest, if there is one, and then more
abbrev pub part_text : List ℕ → Option ℕ → List ℕ → List ℕ
part_text name None more = more
part_text name (Some digest) more = codes ",\"" ++ (name ++ (codes "\":" ++ (pair_text (digest / HALF) (digest % HALF) ++ more)))

-- the line of a claim, without its newline
unfoldable pub claim_line : Claim → List ℕ
claim_line c =
    codes "{\"block\":" ++ (pair_text c.block.replica c.block.number
    ++ part_text (codes "del") c.digests.deleted (part_text (codes "ins") c.digests.inserted (codes "}")))
