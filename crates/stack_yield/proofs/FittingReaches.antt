-- The numbers of a point that is made fit, and so do those of a half-plane.
use Rattle.std.proofs.Common.{◌≡◌, refl, sym, subst, Option, Some, None, Bool, true, false, if◌then◌else◌, arith}
use lib.IntN.{ℤ, ◌*ℤ◌}
use Rattle.stack_equilibrium.proofs.Common.{ForcesValue, Fraction, IsFitting, over}
use Rattle.stack_rational.specs.Laws.{widest}
use Rattle.stack_rational.specs.TooWide.{fraction_fits}
use Rattle.stack_rational.proofs.Fitting.{Fits-of}
use Rattle.stack_pairs.specs.Reaches.{PointValue, terms_of}
use Rattle.stack_directions.specs.Coordinates.{fitting_terms, both_coordinates, coordinate_of, point_made}
use Rattle.stack_yield.specs.JudgedReaches.{PointFits, HalfFits}

abbrev Both : ℤ × ℤ → Type 0
Both t = IsFitting t.0 × IsFitting t.1

terms_fit : (x : Fraction) (t : ℤ × ℤ) → fitting_terms x ≡ Some t → Both t
terms_fit x t h = go (fraction_fits widest x) refl h
  where
    go : (b : Bool) → fraction_fits widest x ≡ b → (if b then Some (terms_of x) else None) ≡ Some t → Both t
    go true is h =
        let f = Fits-of widest x is in
        let same : terms_of x ≡ t = cc in
        subst Both same (omega (arith, f.num), omega (arith, f.den))
    go false is h = absurd (cc)

-- those of a point
pub point_fits : (m n : ℤ) (f : ForcesValue) (p : PointValue) → point_made m n f ≡ Some p → PointFits (Some p)
point_fits m n f p h = go (coordinate_of m f) refl (coordinate_of n f) refl h
  where
    go : (x : Option (ℤ × ℤ)) → coordinate_of m f ≡ x → (y : Option (ℤ × ℤ)) → coordinate_of n f ≡ y →
        both_coordinates x y ≡ Some p → PointFits (Some p)
    go (Some x) ex (Some y) ey h =
        let same : (x, y) ≡ p = cc in
        subst (λ q. PointFits (Some q)) same
        (terms_fit (over (m *ℤ f.factor) f.scale) x ex, terms_fit (over (n *ℤ f.factor) f.scale) y ey)
    go (Some x) ex None ey h = absurd (cc)
    go None ex y ey h = absurd (cc)

-- and those of a half-plane, as the code holds them
pub half_fits : (p q r p' q' r' : ℤ) → p' ≡ p → q' ≡ q → r' ≡ r → IsFitting p → IsFitting q → IsFitting r →
    HalfFits (Some (p', q', r'))
half_fits p q r p' q' r' ep eq er fp fq fr =
    (subst IsFitting (sym ep) fp, subst IsFitting (sym eq) fq, subst IsFitting (sym er) fr)
