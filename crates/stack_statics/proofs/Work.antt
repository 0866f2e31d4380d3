-- The law of virtual work, and what follows: loads gain no power from a motion that no admissible force
-- resists.
use mathlib.Core.Path.{◌≡◌, refl, sym, ap, ◌∙◌}
use mathlib.Core.Bool.{Bool, true, false}
use Prim.Native.Nat.{ℕ, zero, suc, ◌<◌}
use native.Mathlib.Omega.{arith}
use lib.IntN.{ℤ, pos, ◌+ℤ◌, ◌*ℤ◌}
use Rattle.stack_algebra.specs.Sums.{sum_to}
use Rattle.stack_algebra.proofs.Integers.{expand, sums}
use Rattle.stack_algebra.proofs.Order.{◌≼◌, power-nonneg}
use Rattle.stack_algebra.proofs.Ring.{ring3, num, ◌⊕◌, ◌⊗◌}
use Rattle.stack_algebra.proofs.IntegerRing.{integers}
use Rattle.stack_algebra.proofs.Sums.{sum_same, sum_zero, sum_add, sum_scale, sum_swap}
use Rattle.stack_statics.specs.Scene.{Move, BearingPart, SceneBody, Scene, IsProper}
use Rattle.stack_statics.specs.Balance.{force_x_of, force_y_of, moment_of, bearing_side, exerted_on}
use Rattle.stack_statics.specs.Balance.{sum_x_of, sum_y_of, sum_m_of, IsBalanced, IsAdmissible}
use Rattle.stack_statics.specs.Motions.{opening_of, slide_of, power_of, dead_power_of, live_power_of}
use Rattle.stack_statics.specs.Motions.{KeepsFixedStill, IsUnresisted}
use Rattle.stack_statics.specs.Laws.{VirtualWorkIsZero}
use Rattle.stack_statics.proofs.BearingWork.{exerted_power}

-- three sums against a move, as one sum
gathered : (n : ℕ) (u v r : ℤ) (f g h : ℕ → ℤ) →
    u *ℤ sum_to n f +ℤ v *ℤ sum_to n g +ℤ r *ℤ sum_to n h ≡ sum_to n (λ k. u *ℤ f k +ℤ v *ℤ g k +ℤ r *ℤ h k)
gathered n u v r f g h =
    (λ i. sym (sum_scale integers n u f) i +ℤ sym (sum_scale integers n v g) i +ℤ sym
    (sum_scale integers n r h) i)
    ∙ (λ i. sym (sum_add integers n (λ k. u *ℤ f k) (λ k. v *ℤ g k)) i +ℤ sum_to n (λ k. r *ℤ h k))
    ∙ sym (sum_add integers n (λ k. u *ℤ f k +ℤ v *ℤ g k) (λ k. r *ℤ h k))

-- the three sums of a body against its move: contact, dead and live loads apart
apart : (u v r scale factor X Y M dx dy dm lx ly lm : ℤ) →
    u *ℤ (X +ℤ scale *ℤ dx +ℤ factor *ℤ lx) +ℤ v *ℤ (Y +ℤ scale *ℤ dy +ℤ factor *ℤ ly)
    +ℤ r *ℤ (M +ℤ scale *ℤ dm +ℤ factor *ℤ lm)
    ≡ (u *ℤ X +ℤ v *ℤ Y +ℤ r *ℤ M) +ℤ scale *ℤ (u *ℤ dx +ℤ v *ℤ dy +ℤ r *ℤ dm) +ℤ factor *ℤ
    (u *ℤ lx +ℤ v *ℤ ly +ℤ r *ℤ lm)
apart u v r scale factor X Y M dx dy dm lx ly lm = simp expand (omega (arith, sums))

sum-nonneg : (n : ℕ) (g : ℕ → ℤ) → ((k : ℕ) → k < n → pos 0 ≼ g k) → pos 0 ≼ sum_to n g
sum-nonneg zero g h = omega (arith, sums)
sum-nonneg (suc n) g h = both (sum_to n g) (g n) (sum-nonneg n g (λ k l. h k (omega arith)))
    (h n (omega arith))
  where
    both : (a b : ℤ) → pos 0 ≼ a → pos 0 ≼ b → pos 0 ≼ a +ℤ b
    both a b h k = omega (arith, sums)

module _ (s : Scene) (y : ℕ → Move) (f : ℕ → BearingPart) where
  -- the power of the part at bearing k
  abbrev power_at : ℕ → ℤ
  power_at k = (f k).a *ℤ opening_of s y (s.bearing k) +ℤ (f k).b *ℤ slide_of s y (s.bearing k)

  -- the three sums of body i against its move
  work_on : ℤ → ℤ → ℕ → ℤ
  work_on scale factor i =
      (y i).u *ℤ sum_x_of s f scale factor i +ℤ (y i).v *ℤ sum_y_of s f scale factor i
      +ℤ (y i).r *ℤ sum_m_of s f scale factor i

  work_on-is : (scale factor : ℤ) (i : ℕ) → work_on scale factor i
      ≡ sum_to s.bearings (λ k. power_of (exerted_on s i (s.bearing k) (f k)) (y i))
      +ℤ scale *ℤ power_of (s.body i).dead (y i) +ℤ factor *ℤ power_of (s.body i).live (y i)
  unfolding work_on
  work_on-is scale factor i =
      apart m.u m.v m.r scale factor (sum_to s.bearings along) (sum_to s.bearings across)
      (sum_to s.bearings about)
      b.dead.fx b.dead.fy b.dead.m b.live.fx b.live.fy b.live.m
      ∙ ap (λ z. z +ℤ scale *ℤ power_of b.dead m +ℤ factor *ℤ power_of b.live m)
      (gathered s.bearings m.u m.v m.r along across about)
    where
      m : Move
      m = y i

      b : SceneBody
      b = s.body i

      along : ℕ → ℤ
      along k = bearing_side i (s.bearing k) *ℤ force_x_of (s.bearing k) (f k)

      across : ℕ → ℤ
      across k = bearing_side i (s.bearing k) *ℤ force_y_of (s.bearing k) (f k)

      about : ℕ → ℤ
      about k = bearing_side i (s.bearing k) *ℤ moment_of (s.body i) (s.bearing k) (f k)

  -- a free body is balanced, and a fixed one still
  work_on-zero : (scale factor : ℤ) → IsBalanced s f scale factor → KeepsFixedStill s y →
      (i : ℕ) → i < s.bodies → work_on scale factor i ≡ pos 0
  unfolding work_on
  work_on-zero scale factor balanced still i l = go (s.body i).free refl
    where
      X : ℤ
      X = sum_x_of s f scale factor i

      Y : ℤ
      Y = sum_y_of s f scale factor i

      M : ℤ
      M = sum_m_of s f scale factor i

      go : (t : Bool) → (s.body i).free ≡ t → work_on scale factor i ≡ pos 0
      go true e =
          let b = balanced i l e in
          (λ j. (y i).u *ℤ b.along_x j +ℤ (y i).v *ℤ b.along_y j +ℤ (y i).r *ℤ b.about j)
          ∙ ring3 integers (λ u v r. (u ⊗ num (pos 0) ⊕ v ⊗ num (pos 0) ⊕ r ⊗ num (pos 0), num (pos 0))) refl
          (y i).u (y i).v (y i).r
      go false e =
          let k = still i l e in
          (λ j. k.u j *ℤ X +ℤ k.v j *ℤ Y +ℤ k.r j *ℤ M)
          ∙ ring3 integers (λ u v r. (num (pos 0) ⊗ u ⊕ num (pos 0) ⊗ v ⊕ num (pos 0) ⊗ r, num (pos 0)))
          refl X Y M

  work_is_zero : (scale factor : ℤ) → IsProper s → IsBalanced s f scale factor → KeepsFixedStill s y →
      sum_to s.bearings power_at +ℤ scale *ℤ dead_power_of s y +ℤ factor *ℤ live_power_of s y ≡ pos 0
  work_is_zero scale factor proper balanced still =
      sym total ∙ sum_zero integers s.bodies (work_on scale factor) (work_on-zero scale factor balanced still)
    where
      dead : ℕ → ℤ
      dead i = power_of (s.body i).dead (y i)

      live : ℕ → ℤ
      live i = power_of (s.body i).live (y i)

      touch : ℕ → ℕ → ℤ
      touch i k = power_of (exerted_on s i (s.bearing k) (f k)) (y i)

      total : sum_to s.bodies (work_on scale factor)
          ≡ sum_to s.bearings power_at +ℤ scale *ℤ sum_to s.bodies dead +ℤ factor *ℤ sum_to s.bodies live
      total = (λ j. sum_to s.bodies (λ i. work_on-is scale factor i j))
          ∙ sum_add integers s.bodies (λ i. sum_to s.bearings (touch i) +ℤ scale *ℤ dead i)
          (λ i. factor *ℤ live i)
          ∙ (λ j. sum_add integers s.bodies (λ i. sum_to s.bearings (touch i)) (λ i. scale *ℤ dead i) j
          +ℤ sum_scale integers s.bodies factor live j)
          ∙ (λ j. sum_swap integers s.bodies s.bearings touch j +ℤ sum_scale integers s.bodies scale dead j
          +ℤ factor *ℤ sum_to s.bodies live)
          ∙ ap (λ r. r +ℤ scale *ℤ sum_to s.bodies dead +ℤ factor *ℤ sum_to s.bodies live)
          (sum_same integers s.bearings (λ k. sum_to s.bodies (λ i. touch i k)) power_at
          (λ k l. exerted_power s y (s.bearing k) (f k) (proper k l)))

  -- loads gain no power from a motion that no admissible force resists
  pub loads_lose : (scale factor : ℤ) → IsProper s → IsAdmissible s f → IsBalanced s f scale factor →
      IsUnresisted s y →
      scale *ℤ dead_power_of s y +ℤ factor *ℤ live_power_of s y ≼ pos 0
  loads_lose scale factor proper admissible balanced un =
      rest (sum_to s.bearings power_at) (scale *ℤ dead_power_of s y) (factor *ℤ live_power_of s y)
      (sum-nonneg s.bearings power_at (λ k l. power-nonneg (s.bearing k).p (s.bearing k).q (f k).a (f k).b
      (opening_of s y (s.bearing k)) (slide_of s y (s.bearing k))
      (proper k l).denominator_positive (admissible k l).pushes (admissible k l).within (un.opens k l)))
      (work_is_zero scale factor proper balanced un.still)
    where
      rest : (a b c : ℤ) → pos 0 ≼ a → a +ℤ b +ℤ c ≡ pos 0 → b +ℤ c ≼ pos 0
      rest a b c h e = omega (arith, sums)

pub virtual_work_is_zero : VirtualWorkIsZero
virtual_work_is_zero s f scale factor y proper balanced still =
    work_is_zero s y f scale factor proper balanced still
