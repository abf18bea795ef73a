-- Laws of identifiers and of their order.
use Rattle.std.proofs.Common.{◌≡◌, Bool, true, ap, arith}
use Rattle.std.specs.Cmp.{IsTotalOrder, then_total, on_total, nat_cmp_total, eq_by_cmp_equiv, Equal-is, tied_itself}
use Rattle.std.specs.Ordering.{eq_by_cmp, is_eq}
use Rattle.std.specs.FinMap.{IsAntisymmetric}
use Rattle.rga_ops.specs.Identifier.{Identifier, id_cmp, is_id}
use Rattle.std.proofs.lemmas.Bool.Decides.{nat_tests}

-- the order of identifiers is total
pub ids_total : IsTotalOrder id_cmp
ids_total = then_total (on_total (λ s. s.counter) nat_cmp_total) (on_total (λ s. s.replica) nat_cmp_total)

-- identifiers that compare alike are one
pub ids_exact : IsAntisymmetric id_cmp
ids_exact a b h = grind arith

-- whether two identifiers compare alike
abbrev pub is : Identifier → Identifier → Bool
is = eq_by_cmp id_cmp

pub same_id : (a b : Identifier) → is a b ≡ true → a ≡ b
same_id a b e = ids_exact a b ((Equal-is (id_cmp a b)).0 e)

pub is_itself : (a : Identifier) → is a a ≡ true
is_itself a = ap is_eq (tied_itself ids_total a)

pub is_swap : (a b : Identifier) → is a b ≡ is b a
is_swap a b = (eq_by_cmp_equiv ids_total).symm a b

-- the test of the fields is that of the order, either way round
pub is_id-same : (x q : Identifier) → is_id x q ≡ is q x
is_id-same x q = grind (arith, nat_tests)

pub is_id-is : (a b : Identifier) → is_id a b ≡ true → a ≡ b
is_id-is a b e = grind arith

pub is_id-itself : (a : Identifier) → is_id a a ≡ true
is_id-itself a = grind (arith, nat_tests)
