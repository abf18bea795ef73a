-- What a store counts of its content.
use Rattle.std.specs.Prelude.{◌≡◌, ◌≤◌, ℕ, true}
use Rattle.std.specs.FinMap as finite_map
use Rattle.rga_ops.specs.Content.{Content, IsSound, clock_of, known_count}
use Rattle.rga_store.specs.Limit.{is_limit}

-- each operation of the content is well-formed, and it has this clock, so many insertions, and so many identifiers, which
-- are within the limit
pub record IsCounted (c : Content) (latest insertions identifiers limit : ℕ) : Type 0 where
  pub sound : IsSound c
  pub clocked : latest ≡ clock_of c
  pub inserted : insertions ≡ finite_map.len c.inserted
  pub known : identifiers ≡ known_count c
  pub room : identifiers ≤ limit
  pub limited : is_limit limit ≡ true
