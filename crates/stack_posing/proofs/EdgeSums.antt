-- Amounts of the edges of a cone exert what the part between them does, and this part lies in the cone.
use Rattle.std.proofs.Common.{◌≡◌, arith, ℤ, pos, ◌+ℤ◌, ◌-ℤ◌, ◌*ℤ◌, neg_ℤ}
use Rattle.std.proofs.lemmas.Int.{ints}
use Rattle.stack_equilibrium.proofs.Common.{IsWithinCone, SceneBearing, abs, bearing_side, expand, integers, mul_nonneg}
use Rattle.stack_equilibrium.proofs.Common.{sum_same, sums}
use Rattle.stack_algebra.specs.IntegerOrder.{◌≼◌, ◌≺◌}
use Rattle.stack_algebra.proofs.Order.{nonneg-sub}
use Rattle.stack_posing.specs.Edges.{part_between, EdgesExertTheirPart, PartsBetweenEdgesAreAdmissible}

-- a part between the edges of its cone stays in the cone
abs_le : (x t : ℤ) → x ≼ t → neg_ℤ x ≼ t → abs x ≼ t
abs_le x t h k = omega (arith, ints)

size_below : (p w v : ℤ) → pos 0 ≼ p *ℤ w → pos 0 ≼ p *ℤ v → abs (p *ℤ (w -ℤ v)) ≼ p *ℤ (w +ℤ v)
size_below p w v h k = abs_le (p *ℤ (w -ℤ v)) (p *ℤ (w +ℤ v)) (below p w v h k) (above p w v h k)
  where
    below : (p w v : ℤ) → pos 0 ≼ p *ℤ w → pos 0 ≼ p *ℤ v → p *ℤ (w -ℤ v) ≼ p *ℤ (w +ℤ v)
    below p w v h k = simp expand (omega (arith, sums, h, k))

    above : (p w v : ℤ) → pos 0 ≼ p *ℤ w → pos 0 ≼ p *ℤ v → neg_ℤ (p *ℤ (w -ℤ v)) ≼ p *ℤ (w +ℤ v)
    above p w v h k = simp expand (omega (arith, sums, h, k))

within_by : (p q t a : ℤ) → pos 0 ≼ q *ℤ (p *ℤ t -ℤ a) → q *ℤ a ≼ p *ℤ (q *ℤ t)
within_by p q t a k = omega (arith, sums, simp expand at k)

within : (p q w v : ℤ) → pos 0 ≼ p → pos 0 ≺ q → pos 0 ≼ w → pos 0 ≼ v →
    q *ℤ abs (p *ℤ (w -ℤ v)) ≼ p *ℤ (q *ℤ (w +ℤ v))
within p q w v hp hq hw hv = within_by p q (w +ℤ v) (abs (p *ℤ (w -ℤ v)))
    (mul_nonneg q (p *ℤ (w +ℤ v) -ℤ abs (p *ℤ (w -ℤ v))) (omega (arith, sums, hq))
    (nonneg-sub (abs (p *ℤ (w -ℤ v))) (p *ℤ (w +ℤ v))
    (size_below p w v (mul_nonneg p w hp hw) (mul_nonneg p v hp hv))))

between : (z : SceneBearing) (w v : ℤ) → pos 0 ≼ z.p → pos 0 ≺ z.q → pos 0 ≼ w → pos 0 ≼ v →
    IsWithinCone z (part_between z w v)
between z w v hp hq hw hv = record {
  pushes = mul_nonneg z.q (w +ℤ v) (omega (arith, sums)) (omega (arith, sums));
  within = within z.p z.q w v hp hq hw hv;
}

pub parts_between_edges_are_admissible : PartsBetweenEdgesAreAdmissible
parts_between_edges_are_admissible s x proper pushes k l = let z = proper k l in
    between (s.bearing k) (x.plus k) (x.minus k) z.numerator_nonneg z.denominator_positive (pushes.plus k l)
    (pushes.minus k l)

-- two edges in amounts w and v exert what the part between them does
edges_x : (s p q w v tx ty : ℤ) →
    w *ℤ (s *ℤ (q *ℤ neg_ℤ ty +ℤ p *ℤ tx)) +ℤ v *ℤ (s *ℤ (q *ℤ neg_ℤ ty +ℤ neg_ℤ p *ℤ tx))
    ≡ s *ℤ ((q *ℤ (w +ℤ v)) *ℤ neg_ℤ ty +ℤ (p *ℤ (w -ℤ v)) *ℤ tx)
edges_x s p q w v tx ty = simp expand (omega (arith, sums))

edges_y : (s p q w v tx ty : ℤ) →
    w *ℤ (s *ℤ (q *ℤ tx +ℤ p *ℤ ty)) +ℤ v *ℤ (s *ℤ (q *ℤ tx +ℤ neg_ℤ p *ℤ ty))
    ≡ s *ℤ ((q *ℤ (w +ℤ v)) *ℤ tx +ℤ (p *ℤ (w -ℤ v)) *ℤ ty)
edges_y s p q w v tx ty = simp expand (omega (arith, sums))

edges_m : (s p q w v tx ty lx ly : ℤ) →
    w *ℤ (s *ℤ (lx *ℤ (q *ℤ tx +ℤ p *ℤ ty) -ℤ ly *ℤ (q *ℤ neg_ℤ ty +ℤ p *ℤ tx)))
    +ℤ v *ℤ (s *ℤ (lx *ℤ (q *ℤ tx +ℤ neg_ℤ p *ℤ ty) -ℤ ly *ℤ (q *ℤ neg_ℤ ty +ℤ neg_ℤ p *ℤ tx)))
    ≡ s *ℤ (lx *ℤ ((q *ℤ (w +ℤ v)) *ℤ tx +ℤ (p *ℤ (w -ℤ v)) *ℤ ty)
    -ℤ ly *ℤ ((q *ℤ (w +ℤ v)) *ℤ neg_ℤ ty +ℤ (p *ℤ (w -ℤ v)) *ℤ tx))
edges_m s p q w v tx ty lx ly = simp expand (omega (arith, sums))

pub edges_exert_their_part : EdgesExertTheirPart
edges_exert_their_part s x i = record {
  along_x = sum_same integers s.bearings _ _ (λ k l. let z = s.bearing k in
      edges_x (bearing_side i z) z.p z.q (x.plus k) (x.minus k) z.tx z.ty);
  along_y = sum_same integers s.bearings _ _ (λ k l. let z = s.bearing k in
      edges_y (bearing_side i z) z.p z.q (x.plus k) (x.minus k) z.tx z.ty);
  about = sum_same integers s.bearings _ _ (λ k l. let z = s.bearing k in
      edges_m (bearing_side i z) z.p z.q (x.plus k) (x.minus k) z.tx z.ty (z.px -ℤ (s.body i).ox)
      (z.py -ℤ (s.body i).oy));
}
