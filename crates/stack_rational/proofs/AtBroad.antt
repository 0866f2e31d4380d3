-- A number of the type at 128 bits.
use Rattle.std.proofs.Common.{arith, SFits, to_z, of_z, to_z-of_z, Option, Some, None, IfSome, ◌≡◌, ap, subst, ◌∙◌, ◌<◌}
use Rattle.std.proofs.Common.{◌^◌, ℤ, nat_abs}
use Rattle.stack_rational.proofs.Common.{w128, Within}
use Rattle.std.proofs.lemmas.Int.{fits_signed_from_abs}
use Rattle.num_traits.specs.Laws.{ChecksSigned}

fits-wide : (m v : ℤ) → Within m v → nat_abs m < 2 ^ 127 → SFits w128 v
fits-wide m v h k = fits_signed_from_abs w128 v (omega (arith, h, k))

pub recast : (m r v : ℤ) → r ≡ v → Within m v → nat_abs m < 2 ^ 127 → to_z w128 (of_z w128 r) ≡ v
recast m r v e h k = ap (λ z. to_z w128 (of_z w128 z)) e ∙ to_z-of_z (fits-wide m v h k)

pub broad-some : (o : Option ℤ) (m v n : ℤ) → o ≡ Some v → IfSome o (λ z. ChecksSigned w128 z (Some n)) →
    Within m v → nat_abs m < 2 ^ 127 → to_z w128 (of_z w128 n) ≡ v
broad-some o m v n e h u k = recast m n v
    (subst (λ (o : Option ℤ). IfSome o (λ z. ChecksSigned w128 z (Some n))) e h).1 u k

pub broad-none : (o : Option ℤ) (m v : ℤ) → o ≡ Some v → IfSome o (λ z. ChecksSigned w128 z None) →
    Within m v → nat_abs m < 2 ^ 127 → ⊥
broad-none o m v e h u k = (subst (λ (o : Option ℤ). IfSome o (λ z. ChecksSigned w128 z None)) e h)
    (fits-wide m v u k)
