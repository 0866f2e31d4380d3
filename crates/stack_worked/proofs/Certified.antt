-- A certificate of a closed scene is tested by computing: where its test says yes, it is true.
use Rattle.std.proofs.Common.{◌≡◌, ℕ, ◌==◌, length, Bool, true, ◌&&◌, List, arith, int_le, int_lt}
use mathlib.Core.Bool.{cond}
use lib.IntN.{ℤ, pos, ◌+ℤ◌, ◌*ℤ◌}
use Rattle.std.specs.Ordering.{int_eq}
use Rattle.std.proofs.lemmas.Int.{ints}
use Rattle.std.proofs.lemmas.Bool.Decides.{Decides-eqb, Decides-int_eq}
use Rattle.stack_equilibrium.proofs.Common.{Certifies, IsTrueLoaded, Move, Scene, SceneForces, abs, dead_power_of}
use Rattle.stack_equilibrium.proofs.Common.{free_before, live_power_of, move_of, opening_of, scene_part_at, slide_of}
use Rattle.stack_algebra.specs.IntegerOrder.{◌≼◌, ◌≺◌}
use Rattle.stack_algebra.proofs.Conjunctions.{both_true, all_four}
use Rattle.stack_polygon.specs.Outlines.{all_below}
use Rattle.stack_polygon.proofs.Tested.{each_below}
use Rattle.stack_statics.specs.Balance.{sum_x_of, sum_y_of, sum_m_of}
use Rattle.stack_statics.specs.Certificates.{AreBalanced, IsFreeMotion}
use Rattle.stack_statics.specs.Certificates.{SceneCertificate, stands, collapses, greatest, unbounded}

-- what the tests of numbers tell
at_most : (x y : ℤ) → int_le x y ≡ true → x ≼ y
at_most x y h = grind (arith, ints)

positive : (x : ℤ) → int_lt (pos 0) x ≡ true → pos 0 ≺ x
positive x h = grind (arith, ints)

abbrev is_zero : ℤ → Bool
is_zero x = int_eq x (pos 0)

zero_by : (x : ℤ) → is_zero x ≡ true → x ≡ pos 0
zero_by x = (Decides-int_eq x (pos 0)).0

abbrev are_zero : ℤ → ℤ → ℤ → Bool
are_zero x y z = is_zero x && (is_zero y && (is_zero z && true))

zeros : (x y z : ℤ) → are_zero x y z ≡ true → (x ≡ pos 0) × (y ≡ pos 0) × (z ≡ pos 0)
zeros x y z h = let e = all_four (is_zero x) (is_zero y) (is_zero z) true h in
    (zero_by x e.0, zero_by y e.1, zero_by z e.2)

-- the arm that is taken
arm : (b c s t : Bool) → b ≡ c → cond b s t ≡ true → cond c s t ≡ true
arm b c s t e h = rw e at h

module _ (s : Scene) (f : SceneForces) where
  abbrev has_each_part : Bool
  has_each_part = length f.parts == s.bearings

  abbrev pushes : ℕ → Bool
  pushes k = int_le (pos 0) (scene_part_at f k).a

  abbrev holds : ℕ → Bool
  holds k = int_le ((s.bearing k).q *ℤ abs (scene_part_at f k).b) ((s.bearing k).p *ℤ (scene_part_at f k).a)

  -- a free body's three sums are 0
  abbrev sums_vanish : ℕ → Bool
  sums_vanish i = are_zero (sum_x_of s (scene_part_at f) f.scale f.factor i)
      (sum_y_of s (scene_part_at f) f.scale f.factor i) (sum_m_of s (scene_part_at f) f.scale f.factor i)

  abbrev balances : ℕ → Bool
  balances i = cond (s.body i).free (sums_vanish i) true

  abbrev are_balanced : Bool
  are_balanced = has_each_part
      && (all_below pushes s.bearings && (all_below holds s.bearings && all_below balances s.bodies))

  balanced : are_balanced ≡ true → AreBalanced s f
  balanced h =
      let e = all_four has_each_part (all_below pushes s.bearings) (all_below holds s.bearings)
      (all_below balances s.bodies) h in
      record {
        count = (Decides-eqb (length f.parts) s.bearings).0 e.0;
        admissible = λ k l. record {
          pushes = at_most _ _ (each_below pushes s.bearings e.1 k l);
          within = at_most _ _ (each_below holds s.bearings e.2 k l);
        };
        balanced = λ i l free.
            let z = zeros _ _ _ (arm _ _ (sums_vanish i) true free (each_below balances s.bodies e.3 i l)) in
            record { along_x = z.0; along_y = z.1; about = z.2 };
      }

  abbrev is_loaded : Bool
  is_loaded = int_lt (pos 0) f.scale && (int_le (pos 0) f.factor && (are_balanced && true))

  loaded : is_loaded ≡ true → IsTrueLoaded s f
  loaded h = let e = all_four (int_lt (pos 0) f.scale) (int_le (pos 0) f.factor) are_balanced true h in
      record { scale_positive = positive _ e.0; factor_nonneg = at_most _ _ e.1; forces = balanced e.2 }

module _ (s : Scene) (moves : List Move) where
  abbrev has_each_move : Bool
  has_each_move = length moves == free_before s s.bodies

  -- a fixed body's move is none
  abbrev rests : ℕ → Bool
  rests i = cond (s.body i).free true
      (are_zero (move_of s moves i).u (move_of s moves i).v (move_of s moves i).r)

  abbrev opens : ℕ → Bool
  opens k = int_le ((s.bearing k).p *ℤ abs (slide_of s (move_of s moves) (s.bearing k)))
      ((s.bearing k).q *ℤ opening_of s (move_of s moves) (s.bearing k))

  abbrev is_free_motion : Bool
  is_free_motion = has_each_move && (all_below rests s.bodies && (all_below opens s.bearings && true))

  free_motion : is_free_motion ≡ true → IsFreeMotion s moves
  free_motion h =
      let e = all_four has_each_move (all_below rests s.bodies) (all_below opens s.bearings) true h in
      record {
        count = (Decides-eqb (length moves) (free_before s s.bodies)).0 e.0;
        unresisted = record {
          still = λ i l fixed. let z = zeros _ _ _ (arm _ _ true _ fixed (each_below rests s.bodies e.1 i l)) in
              record { u = z.0; v = z.1; r = z.2 };
          opens = λ k l. at_most _ _ (each_below opens s.bearings e.2 k l);
        };
      }

-- what the live and the dead loads gain meets where the factor is the greatest
abbrev work_of : Scene → SceneForces → List Move → ℤ
work_of s f y = f.factor *ℤ live_power_of s (move_of s y) +ℤ f.scale *ℤ dead_power_of s (move_of s y)

abbrev is_certified : Scene → SceneCertificate → Bool
is_certified s (stands f) =
    int_lt (pos 0) f.scale && (is_zero f.factor && (are_balanced s f && true))
is_certified s (collapses y) = is_free_motion s y && int_lt (pos 0) (dead_power_of s (move_of s y))
is_certified s (greatest f y) = is_loaded s f
    && (is_free_motion s y && (int_lt (pos 0) (live_power_of s (move_of s y)) && is_zero (work_of s f y)))
is_certified s (unbounded f g) = is_loaded s f
    && (is_zero g.scale && (int_lt (pos 0) g.factor && are_balanced s g))

pub certified : (s : Scene) (c : SceneCertificate) → is_certified s c ≡ true → Certifies s c
certified s (stands f) h =
    let e = all_four (int_lt (pos 0) f.scale) (is_zero f.factor) (are_balanced s f) true h in
    record { scale_positive = positive _ e.0; factor_zero = zero_by _ e.1; forces = balanced s f e.2 }
certified s (collapses y) h =
    let e = both_true (is_free_motion s y) (int_lt (pos 0) (dead_power_of s (move_of s y))) h in
    record { motion = free_motion s y e.0; gains = positive _ e.1 }
certified s (greatest f y) h =
    let e = all_four (is_loaded s f) (is_free_motion s y) (int_lt (pos 0) (live_power_of s (move_of s y)))
    (is_zero (work_of s f y)) h in
    record { loaded = loaded s f e.0; motion = free_motion s y e.1; gains = positive _ e.2; meets = zero_by _ e.3 }
certified s (unbounded f g) h =
    let e = all_four (is_loaded s f) (is_zero g.scale) (int_lt (pos 0) g.factor) (are_balanced s g) h in
    record {
      loaded = loaded s f e.0;
      rises = record { scale_zero = zero_by _ e.1; factor_positive = positive _ e.2; forces = balanced s g e.3 };
    }
