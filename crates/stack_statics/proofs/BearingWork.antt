-- What a part of a bearing does against the moves of all bodies: its work on the opening and on the slide.
use mathlib.Core.Path.{◌≡◌, refl, ap, ◌∙◌}
use mathlib.Core.Bool.{Bool, true, false, cond}
use Prim.Native.Nat.{ℕ, ◌<◌}
use native.Mathlib.Omega.{arith}
use lib.Dec.{T, eqb, eqb→eq}
use lib.IntN.{ℤ, pos, negsuc, ◌+ℤ◌, ◌-ℤ◌, ◌*ℤ◌, neg_ℤ}
use Rattle.stack_algebra.specs.Sums.{sum_to}
use Rattle.stack_algebra.proofs.Integers.{expand, sums}
use Rattle.stack_algebra.proofs.IntegerRing.{integers}
use Rattle.stack_algebra.proofs.Sums.{at, sum_same, sum_add, sum_at, sum_neg}
use Rattle.stack_statics.specs.Scene.{Move, BearingPart, SceneBearing, Scene, IsProperBearing}
use Rattle.stack_statics.specs.Balance.{force_x_of, force_y_of, bearing_side, exerted_on}
use Rattle.stack_statics.specs.Motions.{velocity_x_of, velocity_y_of, opening_of, slide_of, power_of}

-- a wrench against a move is the force against the velocity at its point
turned : (s fx fy lx ly u v r : ℤ) →
    u *ℤ (s *ℤ fx) +ℤ v *ℤ (s *ℤ fy) +ℤ r *ℤ (s *ℤ (lx *ℤ fy -ℤ ly *ℤ fx))
    ≡ s *ℤ (fx *ℤ (u -ℤ r *ℤ ly) +ℤ fy *ℤ (v +ℤ r *ℤ lx))
turned s fx fy lx ly u v r = simp expand (omega (arith, sums))

-- the work of a part on both bodies of its bearing is that of a on the opening and of b on the slide
split : (a b tx ty sx sy ex ey : ℤ) →
    ((a *ℤ neg_ℤ ty +ℤ b *ℤ tx) *ℤ sx +ℤ (a *ℤ tx +ℤ b *ℤ ty) *ℤ sy)
    +ℤ neg_ℤ ((a *ℤ neg_ℤ ty +ℤ b *ℤ tx) *ℤ ex +ℤ (a *ℤ tx +ℤ b *ℤ ty) *ℤ ey)
    ≡ a *ℤ (neg_ℤ ty *ℤ (sx -ℤ ex) +ℤ tx *ℤ (sy -ℤ ey)) +ℤ b *ℤ (tx *ℤ (sx -ℤ ex) +ℤ ty *ℤ (sy -ℤ ey))
split a b tx ty sx sy ex ey = simp expand (omega (arith, sums))

-- the side of a bearing as two unit numbers
side-as_units : (i : ℕ) (x : ℤ) (z : SceneBearing) → z.first < z.second →
    bearing_side i z *ℤ x ≡ at integers z.second x i +ℤ neg_ℤ (at integers z.first x i)
side-as_units i x z l = go (eqb i z.second) (eqb i z.first) (eqb→eq i z.second) (eqb→eq i z.first)
  where
    go : (a b : Bool) → (T a → i ≡ z.second) → (T b → i ≡ z.first) →
        cond a (pos 1) (cond b (negsuc 0) (pos 0)) *ℤ x ≡ cond a x (pos 0) +ℤ neg_ℤ (cond b x (pos 0))
    go true true h g = absurd (omega (arith, l, h tt, g tt))
    go true false h g = simp expand (omega (arith, sums))
    go false true h g = simp expand (omega (arith, sums))
    go false false h g = simp expand (omega (arith, sums))

module _ (s : Scene) (y : ℕ → Move) (z : SceneBearing) (f : BearingPart) where
  -- the power of the part on body i, taken as the later one
  work : ℕ → ℤ
  work i = force_x_of z f *ℤ velocity_x_of s y z i +ℤ force_y_of z f *ℤ velocity_y_of s y z i

  at-work : (j i : ℕ) → at integers j (work i) i ≡ at integers j (work j) i
  at-work j i = go (eqb i j) (eqb→eq i j)
    where
      go : (b : Bool) → (T b → i ≡ j) → cond b (work i) (pos 0) ≡ cond b (work j) (pos 0)
      go true e = ap work (e tt)
      go false e = refl

  exerted_work : (i : ℕ) → power_of (exerted_on s i z f) (y i) ≡ bearing_side i z *ℤ work i
  unfolding work
  exerted_work i = turned (bearing_side i z) (force_x_of z f) (force_y_of z f) (z.px -ℤ (s.body i).ox)
      (z.py -ℤ (s.body i).oy) (y i).u (y i).v (y i).r

  pub exerted_power : IsProperBearing s z → sum_to s.bodies (λ i. power_of (exerted_on s i z f) (y i))
      ≡ f.a *ℤ opening_of s y z +ℤ f.b *ℤ slide_of s y z
  unfolding work
  exerted_power t =
      let n = s.bodies in
      let later = at integers z.second (work z.second) in
      let earlier = at integers z.first (work z.first) in
      sum_same integers n (λ i. power_of (exerted_on s i z f) (y i)) (λ i. later i +ℤ neg_ℤ (earlier i))
      (λ i l. exerted_work i ∙ side-as_units i (work i) z t.first_before_second
      ∙ (λ j. at-work z.second i j +ℤ neg_ℤ (at-work z.first i j)))
      ∙ sum_add integers n later (λ i. neg_ℤ (earlier i))
      ∙ ap (λ r. sum_to n later +ℤ r) (sum_neg integers n earlier)
      ∙ (λ j. sum_at integers n z.second (work z.second) t.second_exists j
      +ℤ neg_ℤ (sum_at integers n z.first (work z.first)
      (omega (arith, t.second_exists, t.first_before_second)) j))
      ∙ split f.a f.b z.tx z.ty (velocity_x_of s y z z.second) (velocity_y_of s y z z.second)
      (velocity_x_of s y z z.first) (velocity_y_of s y z z.first)
