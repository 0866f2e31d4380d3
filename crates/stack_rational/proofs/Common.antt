-- The names that most proofs of the search cite, passed on from one place. Declares nothing.
pub use Prim.Native.Nat.{◌∣◌}
pub use Rattle.stack_algebra.proofs.CommonDivisor.{dvd-gcd, gcd-is, gcd-left, gcd-pos, gcd-product, gcd-right, gcd-swap}
pub use Rattle.stack_algebra.proofs.Conjunctions.{and_true, left_true, not-false, right_true}
pub use Rattle.stack_algebra.proofs.CrossProducts.{cancel}
pub use Rattle.stack_algebra.proofs.FractionField.{inv}
pub use Rattle.stack_algebra.proofs.Fractions.{abs_signed, add, add-is, den_pos, fractions, is_self, mul, mul-is, neg}
pub use Rattle.stack_algebra.proofs.Fractions.{neg_is, neg_own, of, of-is, same_values}
pub use Rattle.stack_algebra.proofs.IntegerRing.{integers}
pub use Rattle.stack_algebra.proofs.Integers.{expand, sums}
pub use Rattle.stack_algebra.proofs.Listed.{length_listed, listed}
pub use Rattle.stack_algebra.proofs.Order.{mul_pos, ◌≺◌}
pub use Rattle.stack_algebra.proofs.OrderedFractions.{ordered_fractions, sign_is}
pub use Rattle.stack_algebra.proofs.Over.{IsLowest, of-over, over, over-is, over-lowest, over-parts, over_own}
pub use Rattle.stack_algebra.proofs.Pivots.{changed-other, changed-same, pivoted-other}
pub use Rattle.stack_algebra.proofs.Ring.{Exp, num, ring1, ring2, ring3, ◌⊕◌, ◌⊖◌, ◌⊗◌}
pub use Rattle.stack_algebra.proofs.Search.{first-none, first_all-none, first_found, first_more, first_same, least-none}
pub use Rattle.stack_algebra.proofs.Search.{least-some, or_else}
pub use Rattle.stack_algebra.proofs.Signs.{nonneg_add, nonneg_by, nonneg_plus, nonneg_sum, nonneg_zero}
pub use Rattle.stack_algebra.proofs.Sums.{at-other, at-same, sum_one, sum_same, sum_scale, sum_zero}
pub use Rattle.stack_algebra.specs.Fraction.{Fraction, signed}
pub use Rattle.stack_algebra.specs.Gcd.{gcd}
pub use Rattle.stack_algebra.specs.IntegerOrder.{◌≼◌}
pub use Rattle.stack_algebra.specs.Ordered.{Ordered, Sign, minus, nought, opposite, plus, product_sign, sign_of}
pub use Rattle.stack_algebra.specs.Rows.{Combination, NonNeg, Tableau, changed, dot, less, next, none, quotient, spread}
pub use Rattle.stack_algebra.specs.Search.{first, least, only_if}
pub use Rattle.stack_algebra.specs.Sums.{at, sum_of, sum_to}
pub use Rattle.stack_rational.specs.CommonScale.{common_multiple, scale_of, times_scale}
pub use Rattle.stack_rational.specs.Laws.{widest}
pub use Rattle.stack_rational.specs.Order.{is_zero, is_zero_whole, order_of}
pub use Rattle.stack_rational.specs.Stored.{IsShared, IsStored, SumFits, Within}
pub use Rattle.stack_rational.specs.TooWide.{IsWidth, common_denominator, fraction_fits, is_too_wide, is_within}
pub use Rattle.stack_rational.specs.TooWide.{left_term}
pub use Rattle.stack_rational.specs.TooWide.{right_term, sum_fits}
pub use Rattle.stack_rational.specs.Widths.{signed-keeps}
pub use Rattle.std.proofs.lemmas.Bool.{eqb-false, lt-leb}
pub use Rattle.std.proofs.lemmas.Int.{ints, unsigned_abs-mul}
pub use Rattle.std.proofs.lemmas.List.{get_or-map, get_or_append_left, get_or_default, get_or_past, length-map}
pub use Rattle.std.proofs.lemmas.List.{length_push}
pub use Rattle.std.proofs.lemmas.List.{take_more, with_items_is}
pub use Rattle.std.proofs.lemmas.Result.{err_from_is_err_and}
pub use Rattle.std.specs.Int.{IsGcd}
pub use Rattle.std.specs.Vec.{with_items}
pub use lib.IntN.{zero-*ℤ}
pub use mir.Syntax.{w128}
pub use native.Mathlib.Decide.{dec_le, dec_lt, ℕ_discrete}
pub use native.Mathlib.Nat.{dvd-mul_left, dvd-mul_right, dvd-one, dvd_refl, dvd_trans, mul-div_cancel', one-dvd}
