-- The coordinates of a point, made of fractions.
use Rattle.std.proofs.Common.{◌≡◌, sym, ap, ◌∙◌, Option, None, arith, to_z, of_z, to_z-of_z}
use lib.IntN.{ℤ, pos, ◌*ℤ◌}
use mir.Syntax.{w128}
use Rattle.stack_algebra.proofs.Integers.{expand, sums}
use Rattle.stack_algebra.proofs.Over.{over}
use Rattle.stack_algebra.specs.Fraction.{Fraction}
use Rattle.stack_certificate.specs.Certificate.{ForcesValue}
use Rattle.stack_whole.specs.Whole.{IsFitting}
use Rattle.stack_rational.specs.Widths.{signed-keeps}
use Rattle.stack_algebra.specs.IntegerOrder.{◌≺◌}
use Rattle.stack_algebra.proofs.Fractions.{of, of-is, mul, mul-is, same_values}
use Rattle.stack_algebra.proofs.Over.{over-is}
use Rattle.stack_directions.specs.Coordinates.{fitting_terms, both_coordinates, coordinate_of, point_made}

times_over : (m n d : ℤ) → pos 0 ≺ d → mul (of m) (over n d) ≡ over (m *ℤ n) d
times_over m n d h = same_values _ _ _ _ _ _ (mul-is _ _ _ _ _ _ (of-is m) (over-is n d h)) (over-is (m *ℤ n) d h)
    (cross m n d)
  where
    cross : (m n d : ℤ) → m *ℤ n *ℤ d ≡ m *ℤ n *ℤ (pos 1 *ℤ d)
    cross m n d = simp expand (omega (arith, sums))

-- what a coordinate's call gives
pub told : (m : ℤ) (f : ForcesValue) (x : Fraction) (r o : Option (ℤ × ℤ)) → x ≡ over f.factor f.scale →
    pos 0 ≺ f.scale → r ≡ fitting_terms (mul (of m) x) → r ≡ o → o ≡ coordinate_of m f
told m f x r o e h is was = sym was ∙ is ∙ ap fitting_terms (ap (mul (of m)) e ∙ times_over m f.factor f.scale h)

pub both : (m n : ℤ) (f : ForcesValue) (x y : Option (ℤ × ℤ)) → x ≡ coordinate_of m f → y ≡ coordinate_of n f →
    both_coordinates x y ≡ point_made m n f
both m n f x y a b = λ i. both_coordinates (a i) (b i)

pub first_none : (m n : ℤ) (f : ForcesValue) → None ≡ coordinate_of m f → None ≡ point_made m n f
first_none m n f a = ap (λ o. both_coordinates o (coordinate_of n f)) a

pub fitting_cast : (n : ℤ) → IsFitting n → to_z w128 (of_z w128 n) ≡ n
fitting_cast n h = to_z-of_z (signed-keeps w128 n (omega (arith, h)))

pub uncast : (x : Fraction) (n d : ℤ) → IsFitting n → IsFitting d →
    x ≡ over (to_z w128 (of_z w128 n)) (to_z w128 (of_z w128 d)) → x ≡ over n d
uncast x n d p q e = e ∙ (λ i. over (fitting_cast n p i) (fitting_cast d q i))
