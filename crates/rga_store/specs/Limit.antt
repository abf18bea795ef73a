-- How many identifiers a store may know.
use Rattle.std.specs.Prelude.{ℕ, Bool, ◌&&◌, nat_le}

abbrev pub is_limit : ℕ → Bool
is_limit n = nat_le 1 n && nat_le n 1000000
