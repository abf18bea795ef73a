-- Identifiers of elements, their order, and the root.
use Rattle.std.specs.Prelude.{◌≡◌, ℕ, ◌&&◌, ◌==◌, Bool, nat_le, refl}
use Rattle.std.specs.Ordering.{ordering_then, nat_cmp}
use Rattle.std.specs.declared.cmp.Ordering.{Ordering}
use Rattle.std.specs.declared.cmp.Ordering.TheVariants.{Less}
use Rattle.std.specs.Coded.{Coded, code_by, coded×, coded_ℕ}

-- a counter and a replica; what contracts see of an `Id`
pub record Identifier : Type 0 where
  pub counter : ℕ
  pub replica : ℕ

abbrev pub identifier : ℕ → ℕ → Identifier
identifier counter replica = record { counter = counter; replica = replica }

-- an identifier is stored as the pair of its fields
abbrev pub identifier_code : Coded Identifier
identifier_code = code_by (ℕ × ℕ) (coded× coded_ℕ coded_ℕ) (λ e. (e.counter, e.replica)) (λ p. identifier p.0 p.1) (λ _. refl)

-- by counter, and then by replica
abbrev pub id_cmp : Identifier → Identifier → Ordering
id_cmp a b = ordering_then (nat_cmp a.counter b.counter) (nat_cmp a.replica b.replica)

-- the first identifier is the larger one
abbrev pub IsLarger : Identifier → Identifier → Type 0
IsLarger a b = id_cmp b a ≡ Less

-- whether two identifiers are one
abbrev pub is_id : Identifier → Identifier → Bool
is_id a b = (a.counter == b.counter) && (a.replica == b.replica)

-- what stands before all text; it is no identifier of an element
abbrev pub root : Identifier
root = identifier 0 0

abbrev pub is_root : Identifier → Bool
is_root a = is_id a root

-- a counter from 1 to the greatest and a replica from 1 to 65535
abbrev pub is_in_range : ℕ → ℕ → Bool
is_in_range counter replica =
    (nat_le 1 counter && nat_le counter 9007199254740991) && (nat_le 1 replica && nat_le replica 65535)
