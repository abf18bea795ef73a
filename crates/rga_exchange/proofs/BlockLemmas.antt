-- A block of which a front is written, and the rest kept.
use Rattle.std.proofs.Common.{arith, ◌≡◌, ℕ, ◌+◌, List, take, drop, Option, ap, ◌∙◌, sym, subst}
use Rattle.std.proofs.Math.Seq.{take-add}
use Rattle.rga_exchange.specs.Counting.{Calls, Writes, WritesFront, WritesAllBut}
use Rattle.rga_exchange.proofs.BegunLemmas.{front_longer}

module _ {W : Type 0} (contents : W → Option (List ℕ)) where
  pub kept_behind : (a b : Calls W) (bytes moved : List ℕ) (whole rest end : ℕ) → end ≡ whole + rest → moved ≡ take rest (drop whole bytes)
      → Writes contents a b (take whole bytes) → WritesAllBut contents a b (take end bytes) moved
  kept_behind a b bytes moved whole rest end is at h = grind (arith, take-add)

  pub front_begun : (a b : Calls W) (bytes : List ℕ) (whole rest end : ℕ) → end ≡ whole + rest
      → WritesFront contents a b (take whole bytes) → WritesFront contents a b (take end bytes)
  front_begun a b bytes whole rest end is h =
      subst (WritesFront contents a b) (sym (ap (λ n. take n bytes) is ∙ take-add whole rest bytes)) (front_longer contents a b (take whole bytes) (take rest (drop whole bytes)) h)
