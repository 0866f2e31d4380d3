use lib.IntN.{+ℤ_assoc, +ℤ_comm, +ℤ_idl, *ℤ_comm, zero-*ℤ}
use Rattle.stack_algebra.proofs.Integers.{mul_assoc, add_mul, one_mul, neg_is_mul}
use Rattle.stack_algebra.proofs.Order.{mul_nonneg, mul_pos, power-nonneg}
use Rattle.stack_algebra.proofs.laws.whole_number_laws.Goals as goal

pub returns : goal.returns
returns c = record {
  add_assoc = +ℤ_assoc;
  add_comm = +ℤ_comm;
  zero_add = +ℤ_idl;
  mul_assoc = mul_assoc;
  mul_comm = *ℤ_comm;
  one_mul = one_mul;
  zero_mul = zero-*ℤ;
  add_mul = add_mul;
  neg_is = neg_is_mul;
  mul_nonneg = mul_nonneg;
  mul_pos = mul_pos;
  power-nonneg = power-nonneg;
}
