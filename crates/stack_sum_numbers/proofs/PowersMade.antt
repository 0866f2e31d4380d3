-- The written power of loads on a motion is made of its numbers.
use Rattle.std.proofs.Common.{◌≡◌, refl, ap, subst, ◌∙◌, ℕ, suc, ◌+◌, ℤ, ◌+ℤ◌, ◌*ℤ◌, List, [], ◌∷◌, length, get_or}
use Rattle.std.proofs.Common.{Result, Ok, Err, arith, IsErr}
use Rattle.std.proofs.lemmas.Bool.{false≢true}
use Rattle.stack_equilibrium.proofs.Common.{MotionValue, Surveyed, Whole, Wide, Wrench, frees_of, move_at, scene_of}
use Rattle.stack_equilibrium.proofs.Common.{sums, told_power, whole, written_power}
use Rattle.stack_equilibrium.specs.WrittenPowers.{with_product, with_work}
use Rattle.stack_equilibrium.specs.declared.types.Question.{Question}
use Rattle.stack_equilibrium.specs.declared.velocity.BlockMove.{BlockMove}
use Rattle.stack_equilibrium.specs.WrittenPowers.{with_block, summed_power}
use Rattle.stack_equilibrium.specs.Answers.{asked_power_of}
use Rattle.stack_equilibrium.proofs.ScenePowers.{power_is}
use Rattle.stack_sum_numbers.specs.InTurn.{IsMadeOf}
use Rattle.stack_sum_numbers.specs.PowerNumbers.{loads_of_free, move_of_free, work_on_first, work_numbers}
use Rattle.stack_sum_numbers.specs.PowerNumbers.{power_numbers}
use Rattle.stack_sum_numbers.proofs.Chains.{InOrder, last_one, then_one, after_all, steps_in_turn, from_each, is_made}

product_made : (a rate force : ℤ) → InOrder ((rate *ℤ force) ∷ (a +ℤ rate *ℤ force) ∷ [])
    (whole (a +ℤ rate *ℤ force)) (with_product (whole a) (whole rate) force)
unfolding with_product
product_made a rate force = then_one (rate *ℤ force) _ _ _ (last_one _)

-- the work of a block's loads is added
abbrev moving : ℤ → ℤ → ℤ → BlockMove
moving u v r = record { u = whole u; v = whole v; r = whole r }

work_made : (a u v r : ℤ) (w : Wrench) → InOrder ((u *ℤ w.fx) ∷ (a +ℤ u *ℤ w.fx) ∷ (v *ℤ w.fy)
    ∷ (a +ℤ u *ℤ w.fx +ℤ v *ℤ w.fy) ∷ (r *ℤ w.m) ∷ (a +ℤ (u *ℤ w.fx +ℤ v *ℤ w.fy +ℤ r *ℤ w.m)) ∷ [])
    (whole (a +ℤ (u *ℤ w.fx +ℤ v *ℤ w.fy +ℤ r *ℤ w.m))) (with_work (whole a) (moving u v r) w)
unfolding with_work
work_made a u v r w = subst (λ t. InOrder ((u *ℤ w.fx) ∷ (a +ℤ u *ℤ w.fx) ∷ (v *ℤ w.fy)
    ∷ (a +ℤ u *ℤ w.fx +ℤ v *ℤ w.fy) ∷ (r *ℤ w.m) ∷ t ∷ []) (whole t) (with_work (whole a) (moving u v r) w))
    (gathered a (u *ℤ w.fx) (v *ℤ w.fy) (r *ℤ w.m))
    (after_all ((u *ℤ w.fx) ∷ (a +ℤ u *ℤ w.fx) ∷ []) _ _ (with_product (whole a) (whole u) w.fx)
    (whole (a +ℤ u *ℤ w.fx)) _ (product_made a u w.fx)
    (after_all ((v *ℤ w.fy) ∷ (a +ℤ u *ℤ w.fx +ℤ v *ℤ w.fy) ∷ []) _ _
    (with_product (whole (a +ℤ u *ℤ w.fx)) (whole v) w.fy) (whole (a +ℤ u *ℤ w.fx +ℤ v *ℤ w.fy)) _
    (product_made (a +ℤ u *ℤ w.fx) v w.fy) (product_made (a +ℤ u *ℤ w.fx +ℤ v *ℤ w.fy) r w.m)))
  where
    gathered : (a x y m : ℤ) → a +ℤ x +ℤ y +ℤ m ≡ a +ℤ (x +ℤ y +ℤ m)
    gathered a x y m = omega (arith, sums)

module _ (q : Question) (s : Surveyed) (y : MotionValue) where
  abbrev free : ℕ → ℕ
  free b = get_or (frees_of s.structure.bodies) b 0

  abbrev numbers : ℕ → List ℤ
  numbers b = work_numbers q s y (loads_of_free q s b) (move_of_free y b) b

  abbrev work : ℕ → ℤ
  work n = work_on_first q s y n

  block_made : (b : ℕ) → InOrder (numbers b) (whole (work (suc b))) (with_block q s y b (whole (work b)) (free b))
  block_made b = work_made (work b) (move_of_free y b).u (move_of_free y b).v (move_of_free y b).r
      (loads_of_free q s b)

  blocks_made : InOrder (power_numbers q s y) (whole (work (length (frees_of s.structure.bodies))))
      (summed_power q s y)
  blocks_made = steps_in_turn (with_block q s y) numbers work 0 (frees_of s.structure.bodies) 0
      (λ b l. subst (λ n. InOrder (numbers b) (whole (work (suc b))) (with_block q s y n (whole (work b)) (free b)))
      (from_zero b) (block_made b))
    where
      from_zero : (k : ℕ) → k ≡ 0 + k
      from_zero k = omega arith

told_err : (r : Result Whole Wide) → IsErr r → IsErr (told_power r)
told_err (Ok x) h = absurd (false≢true h)
told_err (Err e) h = refl

pub work_is_made : (q : Question) (s : Surveyed) (y : MotionValue) →
    IsMadeOf (power_numbers q s y) (work_on_first q s y (length (frees_of s.structure.bodies)))
    (written_power q s y)
work_is_made q s y =
    let n = length (frees_of s.structure.bodies) in
    let h = is_made (power_numbers q s y) (whole (work_on_first q s y n)) (summed_power q s y) (blocks_made q s y) in
    from_each (power_numbers q s y) (work_on_first q s y n) (written_power q s y)
    (λ all. ap told_power (h.made.1 all)) (λ p. told_err (summed_power q s y) (h.refused.1 p))

pub power_is_made : (q : Question) (s : Surveyed) (y : MotionValue) →
    IsMadeOf (power_numbers q s y) (asked_power_of q (scene_of s) (move_at s y)) (written_power q s y)
power_is_made q s y =
    let h = work_is_made q s y in
    from_each (power_numbers q s y) (asked_power_of q (scene_of s) (move_at s y)) (written_power q s y)
    (λ all. h.made.1 all ∙ ap Ok (power_is q s y (work_on_first q s y (length (frees_of s.structure.bodies)))
    (h.made.1 all))) h.refused.1
