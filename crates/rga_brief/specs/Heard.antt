-- What was read of a peer's claims, and what it led to.
use Rattle.std.specs.Prelude.{◌≡◌, ℕ, ◌≤◌, List, ◌++◌, length, Option, Err}
use Rattle.std.specs.Io.KnownBytes.{Consumes}
use Rattle.rga_exchange.specs.Counting.{Calls}
use Rattle.rga_exchange.specs.declared.fault.ReceiveFault.TheVariants.{Cut}
use Rattle.rga_brief.specs.declared.claim.Claim.{Claim}
use Rattle.rga_exchange.specs.declared.block.TheConstants.{BLOCK}
use Rattle.rga_brief.specs.Told.{bytes_heard, summary_heard}

module _ {R : Type 0} (remaining : R → Option (List ℕ)) (old new : Calls R) where
  -- What a reader gave: claims alone, with no end line among them, and then one block at most.
  pub record ReadsToBlock : Type 0 where
    pub before : List ℕ
    pub last : List ℕ
    pub read : Consumes (remaining old.inner) (remaining new.inner) (before ++ last)
    pub one_block : length last ≤ BLOCK
    pub unended : summary_heard before ≡ Err Cut

  -- and so far these are the claims, and these bytes wait: whatever follows leads to what all would have led to
  pub record HasHeard (claims : List Claim) (waiting : List ℕ) : Type 0 where
    pub reads : ReadsToBlock
    pub same : (more : List ℕ) → summary_heard ((reads.before ++ reads.last) ++ more) ≡ bytes_heard claims (waiting ++ more)
