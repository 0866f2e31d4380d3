-- Reaches: how far two live loads can be raised together in a direction, and what forbids more.
use Rattle.std.specs.Prelude.{◌≡◌, ℕ, ℤ, pos, ◌+ℤ◌, ◌*ℤ◌, neg_ℤ, Option, Some, None, List, All, map, ⊤}
use Rattle.std.specs.List.{AllByRecursion}
use Rattle.stack_algebra.specs.IntegerOrder.{◌≼◌, ◌≺◌}
use Rattle.stack_algebra.specs.Fraction.{Fraction}
use Rattle.stack_algebra.proofs.Over.{over}
use Rattle.stack_contact.specs.Surveyed.{Surveyed}
use Rattle.stack_certificate.specs.Certificate.{ForcesValue, MotionValue, CertificateValue}
use Rattle.stack_certificate.specs.Certificate.{stands, collapses, greatest, unbounded}
use Rattle.stack_statics.specs.Balance.{Carries}
use Rattle.stack_statics.specs.Motions.{dead_power_of, live_power_of}
use Rattle.stack_equilibrium.specs.SurveyScene.{scene_of}
use Rattle.stack_equilibrium.specs.Held.{move_at}
use Rattle.stack_equilibrium.specs.Truth.{IsTrueCertificate}
use Rattle.stack_pairs.specs.Directed.{directed_survey, CarriesPair}

-- two coordinates, each a numerator and a positive denominator in lowest terms
abbrev pub PointValue : Type 0
PointValue = (ℤ × ℤ) × (ℤ × ℤ)

-- P, Q and R of the half-plane P*a + Q*b <= R*D
abbrev pub HalfValue : Type 0
HalfValue = ℤ × ℤ × ℤ

-- a direction, its certificate, and the point and the half-plane unless the reach is without end
pub record ReachValue : Type 0 where
  pub m : ℤ
  pub n : ℤ
  pub certificate : CertificateValue
  pub point : Option PointValue
  pub half : Option HalfValue

-- the dead loads collapse; or a reach for each direction
pub data RegionValue : Type 0 where
  collapse : MotionValue → RegionValue
  points : List ReachValue → RegionValue

-- a fraction by its numerator and its denominator
abbrev pub terms_of : Fraction → ℤ × ℤ
terms_of x = (x.num, pos x.den)

-- m and n times factor over scale
abbrev pub reached_point : ℤ → ℤ → ForcesValue → PointValue
reached_point m n f = (terms_of (over (m *ℤ f.factor) f.scale), terms_of (over (n *ℤ f.factor) f.scale))

-- the powers of load i alone and of load j alone on a motion, and minus the power of the dead loads
abbrev pub half_of : Surveyed → (i j : ℕ) → MotionValue → HalfValue
half_of s i j y = (
  live_power_of (scene_of (directed_survey s i j (pos 1) (pos 0))) (move_at (directed_survey s i j (pos 1) (pos 0)) y),
  live_power_of (scene_of (directed_survey s i j (pos 0) (pos 1))) (move_at (directed_survey s i j (pos 0) (pos 1)) y),
  neg_ℤ (dead_power_of (scene_of s) (move_at s y)),
)

-- what a reach's certificate makes of it
abbrev pub reach_of : Surveyed → (i j : ℕ) → ℤ → ℤ → CertificateValue → ReachValue
reach_of s i j m n (greatest f y) = record {
  m = m;
  n = n;
  certificate = greatest f y;
  point = Some (reached_point m n f);
  half = Some (half_of s i j y);
}
reach_of s i j m n (unbounded f r) = record {
  m = m;
  n = n;
  certificate = unbounded f r;
  point = None;
  half = None;
}
reach_of s i j m n (stands f) = record { m = m; n = n; certificate = stands f; point = None; half = None }
reach_of s i j m n (collapses y) = record { m = m; n = n; certificate = collapses y; point = None; half = None }

-- how far loads can be raised is answered by a greatest factor or by factors without end
abbrev pub IsReaching : CertificateValue → Type 0
IsReaching (greatest f y) = ⊤
IsReaching (unbounded f r) = ⊤
IsReaching (stands f) = ⊥
IsReaching (collapses y) = ⊥

-- the certificate of a reach is true of the survey that is directed so, and of one of the two forms; the dead loads
-- stand; the point and the half-plane are those of the certificate
pub record IsReach (s : Surveyed) (i j : ℕ) (r : ReachValue) : Type 0 where
  pub holds : IsTrueCertificate (directed_survey s i j r.m r.n) r.certificate
  pub form : IsReaching r.certificate
  pub stands : Carries (scene_of (directed_survey s i j r.m r.n)) (pos 0) (pos 1)
  pub is : r ≡ reach_of s i j r.m r.n r.certificate

-- The point is (m, n) times a fraction of at least 0. It is carried, over a common denominator. The half-plane holds
-- all that is carried, the point lies on its edge, and in the direction it bounds, so no greater multiple of (m, n)
-- is carried.
pub record BoundsReach (s : Surveyed) (i j : ℕ) (m n : ℤ) (point : PointValue) (half : HalfValue) : Type 0 where
  pub x_positive : pos 0 ≺ point.0.1
  pub y_positive : pos 0 ≺ point.1.1
  pub factor : ℤ
  pub scale : ℤ
  pub factor_nonneg : pos 0 ≼ factor
  pub scale_positive : pos 0 ≺ scale
  pub x_is : point.0.0 *ℤ scale ≡ m *ℤ factor *ℤ point.0.1
  pub y_is : point.1.0 *ℤ scale ≡ n *ℤ factor *ℤ point.1.1
  pub carried : CarriesPair s i j (point.0.0 *ℤ point.1.1) (point.1.0 *ℤ point.0.1) (point.0.1 *ℤ point.1.1)
  pub advances : pos 0 ≺ m *ℤ half.0 +ℤ n *ℤ half.1
  pub holds_all : (a b D : ℤ) → CarriesPair s i j a b D → half.0 *ℤ a +ℤ half.1 *ℤ b ≼ half.2 *ℤ D
  pub meets : half.0 *ℤ (point.0.0 *ℤ point.1.1) +ℤ half.1 *ℤ (point.1.0 *ℤ point.0.1)
      ≡ half.2 *ℤ (point.0.1 *ℤ point.1.1)
  pub no_more : (L D : ℤ) → factor *ℤ D ≺ L *ℤ scale → ¬ (CarriesPair s i j (m *ℤ L) (n *ℤ L) D)

-- every multiple of (m, n) is carried
abbrev pub CarriesAllAlong : Surveyed → (i j : ℕ) → ℤ → ℤ → Type 0
CarriesAllAlong s i j m n = (w D : ℤ) → pos 0 ≼ w → pos 0 ≺ D → CarriesPair s i j (w *ℤ m) (w *ℤ n) D

-- what a point and a half-plane say; if there is neither, every multiple is carried
abbrev pub TellsCarried : Surveyed → (i j : ℕ) → ℤ → ℤ → Option PointValue → Option HalfValue → Type 0
TellsCarried s i j m n (Some point) (Some half) = BoundsReach s i j m n point half
TellsCarried s i j m n None None = CarriesAllAlong s i j m n
TellsCarried s i j m n (Some point) None = ⊥
TellsCarried s i j m n None (Some half) = ⊥

-- what a reach says of what is carried
abbrev pub ReachTells : Surveyed → (i j : ℕ) → ReachValue → Type 0
ReachTells s i j r = TellsCarried s i j r.m r.n r.point r.half

-- the direction of a reach
abbrev pub direction_of_reach : ReachValue → ℤ × ℤ
direction_of_reach r = (r.m, r.n)

-- every mixture of two pairs that are carried is carried
abbrev pub PairsMix : Surveyed → (i j : ℕ) → Type 0
PairsMix s i j = (a b D a' b' D' p q : ℤ) → pos 0 ≼ p → pos 0 ≼ q → ¬ ((p ≡ pos 0) × (q ≡ pos 0)) →
    CarriesPair s i j a b D → CarriesPair s i j a' b' D' →
    CarriesPair s i j (p *ℤ a +ℤ q *ℤ a') (p *ℤ b +ℤ q *ℤ b') (p *ℤ D +ℤ q *ℤ D')

-- a reach for each of these directions, in their order, each with a true certificate; both multiples may be 0; and each
-- reach says what is carried. What the points span is carried, since mixtures are
pub record ArePoints (s : Surveyed) (i j : ℕ) (ds : List (ℤ × ℤ)) (rs : List ReachValue) : Type 0 where
  pub directions : map direction_of_reach rs ≡ ds
  pub each : AllByRecursion (IsReach s i j) rs
  pub nothing : CarriesPair s i j (pos 0) (pos 0) (pos 1)
  pub tell : All (ReachTells s i j) rs
  pub mixtures : PairsMix s i j

-- what a region says: the dead loads collapse, or it has points
abbrev pub RegionTells : Surveyed → (i j : ℕ) → List (ℤ × ℤ) → RegionValue → Type 0
RegionTells s i j ds (collapse y) = IsTrueCertificate s (collapses y)
RegionTells s i j ds (points rs) = ArePoints s i j ds rs
