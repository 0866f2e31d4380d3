-- The written opening and slide of a bearing are made of their numbers.
use Rattle.std.proofs.Common.{◌≡◌, refl, sym, ap, subst, ◌∙◌, ℕ, ℤ, pos, ◌+ℤ◌, ◌-ℤ◌, ◌*ℤ◌, neg_ℤ, Bool, true, false}
use Rattle.std.proofs.Common.{cond, not, List, [], ◌∷◌, get_or, Result, Ok, Err, arith, IsErr, if◌then◌else◌}
use Rattle.std.proofs.Math.ListN.{get_or-map}
use Rattle.std.proofs.lemmas.Bool.{false≢true}
use Rattle.stack_equilibrium.proofs.Common.{Bearing, MotionValue, Move, Surveyed, Whole, Wide, bearing_of}
use Rattle.stack_equilibrium.proofs.Common.{block_move_at, body_of, expand, first_corner_of, free_before, lever_at}
use Rattle.stack_equilibrium.proofs.Common.{move_of_triple, moves_of, scene_of, still, sums, whole}
use Rattle.stack_equilibrium.specs.WrittenVelocities.{gap_at}
use Rattle.stack_equilibrium.specs.declared.velocity.Gap.{Gap}
use Rattle.stack_contact.specs.FreeBlocks.{frees_before}
use Rattle.stack_equilibrium.specs.declared.velocity.Velocity.{Velocity}
use Rattle.stack_equilibrium.specs.WrittenVelocities.{at_rest, written_velocity, velocity_at}
use Rattle.stack_equilibrium.specs.WrittenVelocities.{written_difference, written_normal, written_tangential}
use Rattle.stack_equilibrium.specs.WrittenVelocities.{written_gap, told_gap, written_opening}
use Rattle.stack_equilibrium.proofs.FreeNumbers.{before_is}
use Rattle.stack_sum_numbers.specs.InTurn.{IsMadeOf}
use Rattle.stack_sum_numbers.specs.RateNumbers.{x_rate, y_rate, velocity_numbers, x_difference, y_difference}
use Rattle.stack_sum_numbers.specs.RateNumbers.{exact_opening, exact_slide, gap_numbers}
use Rattle.stack_sum_numbers.proofs.Chains.{InOrder, none_more, last_one, then_one, after_all, told_as, from_each}
use Rattle.stack_sum_numbers.proofs.Chains.{is_made}

abbrev velocity : ℤ → ℤ → Velocity
velocity x y = record { x = whole x; y = whole y }

abbrev gap : ℤ → ℤ → Gap
gap opening slide = record { opening = whole opening; slide = whole slide }

turned : (tx ty x y : ℤ) → tx *ℤ y -ℤ ty *ℤ x ≡ neg_ℤ ty *ℤ x +ℤ tx *ℤ y
turned tx ty x y = simp expand (omega (arith, sums))

module _ (s : Surveyed) (y : MotionValue) (z : Bearing) (i : ℕ) where
  abbrev lx : ℤ
  lx = z.at.x -ℤ (first_corner_of s.structure i).x

  abbrev ly : ℤ
  ly = z.at.y -ℤ (first_corner_of s.structure i).y

  -- the velocity of a body whose move is m, and its numbers
  abbrev x_of : Move → ℤ
  x_of m = m.u -ℤ m.r *ℤ ly

  abbrev y_of : Move → ℤ
  y_of m = m.v +ℤ m.r *ℤ lx

  abbrev numbers_of : Move → List ℤ
  numbers_of m = (m.r *ℤ ly) ∷ x_of m ∷ (m.r *ℤ lx) ∷ y_of m ∷ []

  abbrev triple : ℕ → ℤ × ℤ × ℤ
  triple n = get_or y n (pos 0, pos 0, pos 0)

  free_made : (n : ℕ) → InOrder (numbers_of (move_of_triple (triple n)))
      (velocity (x_of (move_of_triple (triple n))) (y_of (move_of_triple (triple n))))
      (written_velocity (block_move_at y n) (lever_at (first_corner_of s.structure i) z))
  unfolding written_velocity
  free_made n = then_one ((triple n).2 *ℤ ly) _ _ _ (then_one ((triple n).0 -ℤ (triple n).2 *ℤ ly) _ _ _
      (then_one ((triple n).2 *ℤ lx) _ _ _ (then_one ((triple n).1 +ℤ (triple n).2 *ℤ lx) _ _ _ (none_more _))))

  -- a fixed body is still
  abbrev move : Bool → Move
  move fixed = cond (not fixed) (get_or (moves_of y) (free_before (scene_of s) i) still) still

  velocity_made : InOrder (velocity_numbers s y z i) (velocity (x_rate s y z i) (y_rate s y z i))
      (velocity_at s y z i)
  velocity_made = go (body_of s.structure i).fixed
    where
      resting_x : (l : ℤ) → pos 0 ≡ pos 0 -ℤ pos 0 *ℤ l
      resting_x l = simp expand (omega (arith, sums))

      resting_y : (l : ℤ) → pos 0 ≡ pos 0 +ℤ pos 0 *ℤ l
      resting_y l = simp expand (omega (arith, sums))

      told : move_of_triple (triple (frees_before s.structure.bodies i))
          ≡ get_or (moves_of y) (free_before (scene_of s) i) still
      told = sym (get_or-map move_of_triple y (frees_before s.structure.bodies i) (pos 0, pos 0, pos 0))
          ∙ ap (λ n. get_or (moves_of y) n still) (sym (before_is s i))

      go : (f : Bool) → InOrder (if f then [] else numbers_of (move f))
          (velocity (x_of (move f)) (y_of (move f)))
          (if f then Ok at_rest else written_velocity (block_move_at y (frees_before s.structure.bodies i))
          (lever_at (first_corner_of s.structure i) z))
      go true = subst (λ v. InOrder [] v (Ok at_rest)) (λ j. velocity (resting_x ly j) (resting_y lx j))
          (none_more at_rest)
      go false = subst (λ m. InOrder (numbers_of m) (velocity (x_of m) (y_of m))
          (written_velocity (block_move_at y (frees_before s.structure.bodies i))
          (lever_at (first_corner_of s.structure i) z))) told (free_made (frees_before s.structure.bodies i))

difference_made : (ax ay bx by : ℤ) → InOrder ((ax -ℤ bx) ∷ (ay -ℤ by) ∷ []) (velocity (ax -ℤ bx) (ay -ℤ by))
    (written_difference (velocity ax ay) (velocity bx by))
unfolding written_difference
difference_made ax ay bx by = then_one (ax -ℤ bx) _ _ _ (then_one (ay -ℤ by) _ _ _ (none_more _))

module _ (tx ty x y : ℤ) where
  abbrev opening : ℤ
  opening = neg_ℤ ty *ℤ x +ℤ tx *ℤ y

  abbrev slide : ℤ
  slide = tx *ℤ x +ℤ ty *ℤ y

  normal_made : InOrder ((tx *ℤ y) ∷ (ty *ℤ x) ∷ opening ∷ []) (whole opening)
      (written_normal (whole tx) (whole ty) (velocity x y))
  unfolding written_normal
  normal_made = subst (λ t. InOrder ((tx *ℤ y) ∷ (ty *ℤ x) ∷ t ∷ []) (whole t)
      (written_normal (whole tx) (whole ty) (velocity x y))) (turned tx ty x y)
      (then_one (tx *ℤ y) _ _ _ (then_one (ty *ℤ x) _ _ _ (last_one _)))

  tangential_made : InOrder ((tx *ℤ x) ∷ (ty *ℤ y) ∷ slide ∷ []) (whole slide)
      (written_tangential (whole tx) (whole ty) (velocity x y))
  unfolding written_tangential
  tangential_made = then_one (tx *ℤ x) _ _ _ (then_one (ty *ℤ y) _ _ _ (last_one _))

  abbrev rate_numbers : List ℤ
  rate_numbers = (tx *ℤ y) ∷ (ty *ℤ x) ∷ opening ∷ (tx *ℤ x) ∷ (ty *ℤ y) ∷ slide ∷ []

gap_made : (z : Bearing) (x y : ℤ) → InOrder (rate_numbers z.frame.tx z.frame.ty x y)
    (gap (opening z.frame.tx z.frame.ty x y) (slide z.frame.tx z.frame.ty x y)) (written_gap z (velocity x y))
unfolding written_gap
gap_made z x y =
    let tx = z.frame.tx in
    let ty = z.frame.ty in
    after_all ((tx *ℤ y) ∷ (ty *ℤ x) ∷ opening tx ty x y ∷ []) _ _
    (written_normal (whole tx) (whole ty) (velocity x y)) (whole (opening tx ty x y)) _ (normal_made tx ty x y)
    (told_as _ (λ (slides : Whole). record { opening = whole (opening tx ty x y); slide = slides })
    (written_tangential (whole tx) (whole ty) (velocity x y)) (whole (slide tx ty x y)) (tangential_made tx ty x y))

module _ (s : Surveyed) (y : MotionValue) (z : Bearing) where
  all_made : InOrder (gap_numbers s y z) (gap (exact_opening s y z) (exact_slide s y z)) (gap_at s y z)
  unfolding gap_at
  all_made =
      after_all (velocity_numbers s y z z.second) _ _ (velocity_at s y z z.second)
      (velocity (x_rate s y z z.second) (y_rate s y z z.second)) _ (velocity_made s y z z.second)
      (after_all (velocity_numbers s y z z.first) _ _ (velocity_at s y z z.first)
      (velocity (x_rate s y z z.first) (y_rate s y z z.first)) _ (velocity_made s y z z.first)
      (after_all (x_difference s y z ∷ y_difference s y z ∷ []) _ _
      (written_difference (velocity (x_rate s y z z.second) (y_rate s y z z.second))
      (velocity (x_rate s y z z.first) (y_rate s y z z.first)))
      (velocity (x_difference s y z) (y_difference s y z)) _
      (difference_made (x_rate s y z z.second) (y_rate s y z z.second) (x_rate s y z z.first)
      (y_rate s y z z.first))
      (gap_made z (x_difference s y z) (y_difference s y z))))

told_err : (r : Result Gap Wide) → IsErr r → IsErr (told_gap r)
told_err (Ok g) h = absurd (false≢true h)
told_err (Err e) h = refl

pub rates_are_made : (s : Surveyed) (y : MotionValue) (k : ℕ) → IsMadeOf (gap_numbers s y (bearing_of s k))
    (exact_opening s y (bearing_of s k), exact_slide s y (bearing_of s k)) (written_opening s y k)
rates_are_made s y k =
    let z = bearing_of s k in
    let h = is_made (gap_numbers s y z) (gap (exact_opening s y z) (exact_slide s y z)) (gap_at s y z)
    (all_made s y z) in
    from_each (gap_numbers s y z) (exact_opening s y z, exact_slide s y z) (written_opening s y k)
    (λ all. ap told_gap (h.made.1 all)) (λ p. told_err (gap_at s y z) (h.refused.1 p))
