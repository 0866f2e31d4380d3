use Rattle.stack_algebra.proofs.Fractions.{same_values, of, add, mul, neg, of-is, add-is, mul-is, add_assoc, add_comm}
use Rattle.stack_algebra.proofs.Fractions.{zero_add, mul_assoc, mul_comm, one_mul, zero_mul, add_mul, neg_is, of_add}
use Rattle.stack_algebra.proofs.Fractions.{of_mul}
use Rattle.stack_algebra.proofs.FractionField.{inv}
use Rattle.stack_algebra.proofs.OrderedFractions.{ordered_fractions, sign_is}
use Rattle.stack_algebra.proofs.laws.fraction_laws.Goals as goal

pub returns : goal.returns
returns c = record {
  values = same_values;
  field = record {
    of = of;
    add = add;
    mul = mul;
    neg = neg;
    inv = inv;
    sign = ordered_fractions.sign;
    of-is = of-is;
    add-is = add-is;
    mul-is = mul-is;
    sign-is = sign_is;
    add_assoc = add_assoc;
    add_comm = add_comm;
    zero_add = zero_add;
    mul_assoc = mul_assoc;
    mul_comm = mul_comm;
    one_mul = one_mul;
    zero_mul = zero_mul;
    add_mul = add_mul;
    neg_is = neg_is;
    of_add = of_add;
    of_mul = of_mul;
    zero_by_sign = ordered_fractions.zero_by_sign;
    sign-zero = ordered_fractions.sign-zero;
    sign-one = ordered_fractions.sign-one;
    sign-neg = ordered_fractions.sign-neg;
    sign-mul = ordered_fractions.sign-mul;
    nonneg-add = ordered_fractions.nonneg-add;
    inv-mul = ordered_fractions.inv-mul;
  };
}
