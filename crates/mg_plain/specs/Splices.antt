-- Splices of a text.
use Rattle.std.specs.Prelude.{ℕ, List}
use Rattle.rga_ops.specs.Splice.{Splice}

abbrev pub splice : ℕ → ℕ → List ℕ → Splice
splice lo hi put = record { lo = lo; hi = hi; put = put }
