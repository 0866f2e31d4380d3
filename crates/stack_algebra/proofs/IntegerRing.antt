-- Whole numbers are a commutative ring.
use mathlib.Core.Path.{refl}
use lib.IntN.{ℤ, ◌+ℤ◌, ◌*ℤ◌, neg_ℤ, +ℤ_assoc, +ℤ_comm, +ℤ_idl, *ℤ_comm, zero-*ℤ}
use Rattle.stack_algebra.proofs.Integers.{mul_assoc, add_mul, one_mul, neg_is_mul}
use Rattle.stack_algebra.specs.Ring.{Ring}

abbrev pub integers : Ring
integers = record {
  C = ℤ;
  of = λ k. k;
  add = ◌+ℤ◌;
  mul = ◌*ℤ◌;
  neg = neg_ℤ;
  add_assoc = +ℤ_assoc;
  add_comm = +ℤ_comm;
  zero_add = +ℤ_idl;
  mul_assoc = mul_assoc;
  mul_comm = *ℤ_comm;
  one_mul = one_mul;
  zero_mul = zero-*ℤ;
  add_mul = add_mul;
  neg_is = neg_is_mul;
  of_add = λ k l. refl;
  of_mul = λ k l. refl;
}
