-- The scene of a reversed survey is the reversed scene, so reversal turns factors round.
use Rattle.std.proofs.Common.{◌≡◌, ℕ, ◌<◌, Bool, true, false, not, ◌&&◌, List, [], ◌∷◌, length, map, refl, sym, subst}
use Rattle.std.proofs.Common.{ap, ◌∙◌, arith, ◌↔◌, ℤ, pos, neg_ℤ, ◌+ℤ◌, ◌-ℤ◌, ◌*ℤ◌, nat_eq, if◌then◌else◌}
use Rattle.std.proofs.lemmas.List.{length-map, get_or-map}
use Rattle.stack_equilibrium.proofs.Common.{Carries, Structure, Wrench, bearing_of, body_of, expand, first_corner_of}
use Rattle.stack_equilibrium.proofs.Common.{integers, load_of, loads_on, scene_bearing_of, scene_of, sum_same, sum_to}
use Rattle.stack_equilibrium.proofs.Common.{sums, wrench_sum}
use Rattle.stack_equilibrium.specs.declared.types.Question.{Question}
use Rattle.stack_algebra.proofs.Integers.{mul_neg}
use Rattle.stack_algebra.proofs.Sums.{sum_neg}
use Rattle.stack_polygon.specs.declared.point.Point.{Point}
use Rattle.stack_polygon.specs.Plane.{triangle_of}
use Rattle.stack_equilibrium.specs.declared.types.Question.TheVariants.{Dead, Live}
use Rattle.stack_statics.specs.Loads.{no_load, load_wrench, sum_of_triangles, moment_of_triangle}
use Rattle.stack_statics.specs.Sway.{sway_load, level_moment_of_triangle}
use Rattle.stack_equilibrium.specs.SurveyScene.{acting, listed_on, unit_weight_of, weight_at}
use Rattle.stack_equilibrium.specs.SurveyScene.{sway_load_at}
use Rattle.stack_range.specs.Reversed.{reversed_load, reversed_sway, reversed_structure, opposite_wrench}
use Rattle.stack_range.specs.Laws.{ReversedScenesAreTheirs, ReversalTurnsFactors}
use Rattle.stack_range.proofs.Turned.{scene_turns_factors}

-- a moment of the opposite force
opposite_moment : (x y f g : ℤ) → pos 6 *ℤ (x *ℤ neg_ℤ g -ℤ y *ℤ neg_ℤ f) ≡ neg_ℤ (pos 6 *ℤ (x *ℤ g -ℤ y *ℤ f))
opposite_moment x y f g = simp expand (omega (arith, sums))

-- dead loads are the same
dead_same : (here live : Bool) (o at : Point) (f g : ℤ) →
    (if here && not live then load_wrench o at (if live then neg_ℤ f else f) (if live then neg_ℤ g else g)
    else no_load) ≡ (if here && not live then load_wrench o at f g else no_load)
dead_same true true o at f g = refl
dead_same true false o at f g = refl
dead_same false live o at f g = refl

-- live loads are opposite
live_opposite : (here live : Bool) (o at : Point) (f g : ℤ) →
    (if here && live then load_wrench o at (if live then neg_ℤ f else f) (if live then neg_ℤ g else g)
    else no_load) ≡ opposite_wrench (if here && live then load_wrench o at f g else no_load)
live_opposite true true o at f g = λ i. record {
  fx = mul_neg (pos 6) f i;
  fy = mul_neg (pos 6) g i;
  m = opposite_moment (at.x -ℤ o.x) (at.y -ℤ o.y) f g i;
}
live_opposite true false o at f g = refl
live_opposite false live o at f g = refl

-- a part of the sway's load, of the other sign with the sway
opposite_part : (a b : ℤ) → a *ℤ neg_ℤ b ≡ neg_ℤ (a *ℤ b)
opposite_part a b = simp expand (omega (arith, sums))

-- the moment of the load of the opposite sway
opposite_turning : (a b x y : ℤ) → a *ℤ neg_ℤ y -ℤ b *ℤ neg_ℤ x ≡ neg_ℤ (a *ℤ y -ℤ b *ℤ x)
opposite_turning a b x y = simp expand (omega (arith, sums))

-- the load of a reversed sway is the opposite one
sway_opposite : (sway : ℤ × ℤ) (w : ℤ) (corners : List Point) →
    sway_load (reversed_sway sway) w corners ≡ opposite_wrench (sway_load sway w corners)
sway_opposite sway w [] = refl
sway_opposite sway w (o ∷ rest) = λ i. record {
  fx = opposite_part (pos 3 *ℤ (w *ℤ sum_of_triangles triangle_of o rest)) sway.0 i;
  fy = opposite_part (pos 3 *ℤ (w *ℤ sum_of_triangles triangle_of o rest)) sway.1 i;
  m = opposite_turning (w *ℤ sum_of_triangles moment_of_triangle o rest)
      (w *ℤ sum_of_triangles level_moment_of_triangle o rest) sway.0 sway.1 i;
}

-- the sum of opposite numbers
opposite_sum : (a b : ℤ) → neg_ℤ a +ℤ neg_ℤ b ≡ neg_ℤ (a +ℤ b)
opposite_sum a b = omega (arith, sums)

-- the sum of two opposite loads is the opposite of their sum
opposite_both : (a b : Wrench) → wrench_sum (opposite_wrench a) (opposite_wrench b) ≡ opposite_wrench (wrench_sum a b)
opposite_both a b = λ i. record {
  fx = opposite_sum a.fx b.fx i;
  fy = opposite_sum a.fy b.fy i;
  m = opposite_sum a.m b.m i;
}

-- what each listed load exerts
acts : (q : Question) (s : Structure) (i k : ℕ) → k < length s.loads →
    acting q i (first_corner_of s i) (load_of (reversed_structure s) k) ≡
    acting q i (first_corner_of s i) (reversed_load (load_of s k))
acts q s i k l = ap (acting q i (first_corner_of s i)) (get_or-map reversed_load s.loads k _ _ l)

-- a sum of what they exert is the same number
summed : (s : Structure) (f : ℕ → ℤ) (g : ℕ → ℤ) → ((k : ℕ) → k < length s.loads → f k ≡ g k) →
    sum_to (length (map reversed_load s.loads)) f ≡ sum_to (length s.loads) g
summed s f g h = ap (λ n. sum_to n f) (length-map s.loads reversed_load) ∙ sum_same integers (length s.loads) f g h

-- a sum of opposite numbers is the opposite sum
negated : (s : Structure) (f : ℕ → ℤ) (g : ℕ → ℤ) → ((k : ℕ) → k < length s.loads → f k ≡ neg_ℤ (g k)) →
    sum_to (length (map reversed_load s.loads)) f ≡ neg_ℤ (sum_to (length s.loads) g)
negated s f g h = summed s f (λ k. neg_ℤ (g k)) h ∙ sum_neg integers (length s.loads) g

module _ (s : Structure) (i : ℕ) where
  -- what load k exerts on body i
  abbrev at_load : Question → ℕ → Wrench
  at_load q k = acting q i (first_corner_of s i) (load_of s k)

  -- what load k exerts on body i, reversed
  abbrev at_reversed : Question → ℕ → Wrench
  at_reversed q k = acting q i (first_corner_of s i) (load_of (reversed_structure s) k)

  -- a dead load is the same
  dead_one : (k : ℕ) → k < length s.loads → at_reversed Dead k ≡ at_load Dead k
  dead_one k l = acts Dead s i k l ∙ (let n = load_of s k in
      dead_same (nat_eq n.body i) n.live (first_corner_of s i) n.at n.fx n.fy)

  -- a live load is opposite
  live_one : (k : ℕ) → k < length s.loads → at_reversed Live k ≡ opposite_wrench (at_load Live k)
  live_one k l = acts Live s i k l ∙ (let n = load_of s k in
      live_opposite (nat_eq n.body i) n.live (first_corner_of s i) n.at n.fx n.fy)

  -- the dead loads on a body are the same
  listed_dead : listed_on Dead (reversed_structure s) i ≡ listed_on Dead s i
  listed_dead = λ j. record {
    fx = summed s (λ k. (at_reversed Dead k).fx) (λ k. (at_load Dead k).fx) (λ k l. ap (λ w. w.fx) (dead_one k l)) j;
    fy = summed s (λ k. (at_reversed Dead k).fy) (λ k. (at_load Dead k).fy) (λ k l. ap (λ w. w.fy) (dead_one k l)) j;
    m = summed s (λ k. (at_reversed Dead k).m) (λ k. (at_load Dead k).m) (λ k l. ap (λ w. w.m) (dead_one k l)) j;
  }

  -- the listed live loads on a body are opposite
  listed_live : listed_on Live (reversed_structure s) i ≡ opposite_wrench (listed_on Live s i)
  listed_live = λ j. record {
    fx = negated s (λ k. (at_reversed Live k).fx) (λ k. (at_load Live k).fx) (λ k l. ap (λ w. w.fx) (live_one k l)) j;
    fy = negated s (λ k. (at_reversed Live k).fy) (λ k. (at_load Live k).fy) (λ k l. ap (λ w. w.fy) (live_one k l)) j;
    m = negated s (λ k. (at_reversed Live k).m) (λ k. (at_load Live k).m) (λ k l. ap (λ w. w.m) (live_one k l)) j;
  }

  -- the live loads with the sway's load are opposite
  all_live : loads_on Live (reversed_structure s) i ≡ opposite_wrench (loads_on Live s i)
  all_live = (λ j. wrench_sum (sway_opposite s.sway (unit_weight_of s i) (body_of s i).corners j) (listed_live j))
      ∙ opposite_both (sway_load_at s i) (listed_on Live s i)

-- the scene, field by field
pub reversed_scenes_are_theirs : ReversedScenesAreTheirs
reversed_scenes_are_theirs v = let s = v.structure in λ j. record {
  bodies = length s.bodies;
  body = λ i. record {
    free = not (body_of s i).fixed;
    ox = (first_corner_of s i).x;
    oy = (first_corner_of s i).y;
    dead = wrench_sum (weight_at s i) (listed_dead s i j);
    live = all_live s i j;
  };
  bearings = length v.bearings;
  bearing = λ k. scene_bearing_of (bearing_of v k);
}

-- the reversed scene carries the factor of the other sign
pub reversal_turns_factors : ReversalTurnsFactors
reversal_turns_factors v n D = subst (λ s. Carries (scene_of v) n D ↔ Carries s (neg_ℤ n) D)
    (sym (reversed_scenes_are_theirs v)) (scene_turns_factors (scene_of v) n D)
