-- Where no number of a written power is too wide, it is the work of the scene's loads.
use Rattle.std.proofs.Common.{◌≡◌, refl, sym, ap, ◌∙◌, ℕ, ◌+◌, ℤ, pos, ◌+ℤ◌, ◌*ℤ◌, Bool, true, false, cond, not, length}
use Rattle.std.proofs.Common.{get_or, Result, Ok, Err, arith, IfOk}
use Rattle.std.proofs.Math.ListN.{get_or-map}
use Rattle.stack_algebra.specs.Steps.{◌>>=◌}
use Rattle.stack_algebra.specs.Sums.{sum_to}
use Rattle.stack_algebra.proofs.Integers.{expand, sums}
use Rattle.stack_algebra.proofs.IntegerRing.{integers}
use Rattle.stack_algebra.proofs.Sums.{sum_same}
use Rattle.stack_model.specs.Structure.{body_of}
use Rattle.stack_contact.specs.FreeBlocks.{frees_of}
use Rattle.stack_contact.specs.Surveyed.{Surveyed}
use Rattle.stack_certificate.specs.Certificate.{MotionValue}
use Rattle.stack_statics.specs.declared.wrench.Wrench.{Wrench}
use Rattle.stack_equilibrium.specs.declared.types.Question.{Question}
use Rattle.stack_equilibrium.specs.declared.types.Question.TheVariants.{Dead, Live}
use Rattle.stack_equilibrium.specs.declared.types.PowerWide.{PowerWide}
use Rattle.stack_whole.specs.declared.whole.Wide.{Wide}
use Rattle.stack_whole.specs.declared.whole.Whole.{Whole}
use Rattle.stack_equilibrium.specs.declared.velocity.BlockMove.{BlockMove}
use Rattle.stack_statics.specs.Motions as motions
use Rattle.stack_statics.specs.Certificates.{still}
use Rattle.stack_equilibrium.specs.SurveyScene.{scene_of, loads_on}
use Rattle.stack_equilibrium.specs.Held.{move_of_triple, moves_of, move_at}
use Rattle.stack_whole.specs.Whole.{made, whole}
use Rattle.stack_equilibrium.specs.WrittenVelocities.{block_move_at}
use Rattle.stack_equilibrium.specs.WrittenPowers.{with_product, with_work, with_block, summed_power, told_power}
use Rattle.stack_equilibrium.specs.WrittenPowers.{written_power}
use Rattle.stack_equilibrium.specs.Answers.{asked_power_of}
use Rattle.stack_equilibrium.proofs.InOrder.{bind_ok}
use Rattle.stack_equilibrium.proofs.PlainSums.{made_is, steps_sum}
use Rattle.stack_equilibrium.proofs.FreeNumbers.{before_is_counted, over_bodies}
use Rattle.stack_contact.proofs.Frees.{counted}

product_is : (so_far rate : Whole) (force : ℤ) (r : Whole) → with_product so_far rate force ≡ Ok r →
    r.value ≡ so_far.value +ℤ rate.value *ℤ force
unfolding with_product
product_is so_far rate force r h =
    let p = bind_ok (made (rate.value *ℤ force)) (λ w. made (so_far.value +ℤ w.value)) r h in
    made_is (so_far.value +ℤ p.value.value) r p.after
    ∙ ap (λ t. so_far.value +ℤ t) (made_is (rate.value *ℤ force) p.value p.before)

-- the work of a wrench on a block's move
abbrev work_of : BlockMove → Wrench → ℤ
work_of y w = y.u.value *ℤ w.fx +ℤ y.v.value *ℤ w.fy +ℤ y.r.value *ℤ w.m

work_is : (so_far : Whole) (y : BlockMove) (w : Wrench) (r : Whole) → with_work so_far y w ≡ Ok r →
    r.value ≡ so_far.value +ℤ work_of y w
unfolding with_work
work_is so_far y w r h =
    let p = bind_ok (with_product so_far y.u w.fx)
    (λ x. with_product x y.v w.fy >>= λ z. with_product z y.r w.m) r h in
    let q = bind_ok (with_product p.value y.v w.fy) (λ z. with_product z y.r w.m) r p.after in
    gathered so_far.value (y.u.value *ℤ w.fx) (y.v.value *ℤ w.fy) (y.r.value *ℤ w.m) p.value.value q.value.value
    r.value (product_is so_far y.u w.fx p.value p.before) (product_is p.value y.v w.fy q.value q.before)
    (product_is q.value y.r w.m r q.after)
  where
    gathered : (a x y m p q r : ℤ) → p ≡ a +ℤ x → q ≡ p +ℤ y → r ≡ q +ℤ m → r ≡ a +ℤ (x +ℤ y +ℤ m)
    gathered a x y m p q r h k l = omega (arith, sums)

module _ (q : Question) (s : Surveyed) (y : MotionValue) where
  -- the work on free block number b, which is body i
  abbrev term : ℕ → ℕ → ℤ
  term b i = work_of (block_move_at y b) (loads_on q s.structure i)

  over_frees : (x : Whole) → summed_power q s y ≡ Ok x →
      x.value ≡ sum_to (length (frees_of s.structure.bodies))
      (λ b. term b (get_or (frees_of s.structure.bodies) b 0))
  over_frees x h = steps_sum (with_block q s y) term 0 (whole (pos 0)) (frees_of s.structure.bodies) 0 x
      (λ b a i r e. work_is a (block_move_at y b) (loads_on q s.structure i) r e) h
      ∙ from_nothing (sum_to (length (frees_of s.structure.bodies)) (λ b. term (0 + b) (free b)))
      ∙ sum_same integers (length (frees_of s.structure.bodies)) (λ b. term (0 + b) (free b))
      (λ b. term b (free b))
      (λ b l. ap (λ n. term n (free b)) (from_zero b))
    where
      free : ℕ → ℕ
      free b = get_or (frees_of s.structure.bodies) b 0

      from_nothing : (t : ℤ) → pos 0 +ℤ t ≡ t
      from_nothing t = omega (arith, sums)

      from_zero : (k : ℕ) → 0 + k ≡ k
      from_zero k = omega arith

  -- the work on body i: none on a fixed one
  on_body : (i : ℕ) → cond (not (body_of s.structure i).fixed) (term (counted s.structure.bodies i) (0 + i))
      (pos 0)
      ≡ motions.power_of (loads_on q s.structure i) (move_at s y i)
  on_body i = go (body_of s.structure i).fixed
      ∙ (λ j. motions.power_of (loads_on q s.structure i) (cond (not (body_of s.structure i).fixed)
      (get_or (moves_of y) (sym (before_is_counted s i) j) still) still))
    where
      at_rest : (x y m : ℤ) → pos 0 ≡ pos 0 *ℤ x +ℤ pos 0 *ℤ y +ℤ pos 0 *ℤ m
      at_rest x y m = simp expand (omega (arith, sums))

      from_zero : 0 + i ≡ i
      from_zero = omega arith

      told : (n : ℕ) → get_or (moves_of y) n still ≡ move_of_triple (get_or y n (pos 0, pos 0, pos 0))
      told n = get_or-map move_of_triple y n (pos 0, pos 0, pos 0)

      go : (f : Bool) → cond (not f) (term (counted s.structure.bodies i) (0 + i)) (pos 0)
          ≡ motions.power_of (loads_on q s.structure i) (cond (not f)
          (get_or (moves_of y) (counted s.structure.bodies i) still) still)
      go true = at_rest (loads_on q s.structure i).fx (loads_on q s.structure i).fy (loads_on q s.structure i).m
      go false = ap (λ n. term (counted s.structure.bodies i) n) from_zero
          ∙ ap (λ m. motions.power_of (loads_on q s.structure i) m) (sym (told (counted s.structure.bodies i)))

  summed_is : (x : Whole) → summed_power q s y ≡ Ok x →
      x.value ≡ sum_to (length s.structure.bodies)
      (λ i. motions.power_of (loads_on q s.structure i) (move_at s y i))
  summed_is x h = over_frees x h ∙ over_bodies term s.structure.bodies 0
      ∙ sum_same integers (length s.structure.bodies) _ _ (λ i l. on_body i)

  told_ok : (r : Result Whole Wide) (p : ℤ) → told_power r ≡ Ok p → (x : Whole) × ((r ≡ Ok x) × (x.value ≡ p))
  told_ok (Ok x) p h = (x, (refl, cc))
  told_ok (Err e) p h = absurd (cc)

pub power_is : (q : Question) (s : Surveyed) (y : MotionValue) (p : ℤ) → written_power q s y ≡ Ok p →
    p ≡ asked_power_of q (scene_of s) (move_at s y)
power_is Dead s y p h = let t = told_ok Dead s y (summed_power Dead s y) p h in
    sym t.1.1 ∙ summed_is Dead s y t.0 t.1.0
power_is Live s y p h = let t = told_ok Live s y (summed_power Live s y) p h in
    sym t.1.1 ∙ summed_is Live s y t.0 t.1.0

pub power_settles : (q : Question) (s : Surveyed) (y : MotionValue) (r : Result ℤ PowerWide) →
    r ≡ written_power q s y → IfOk r (λ p. p ≡ asked_power_of q (scene_of s) (move_at s y))
power_settles q s y (Ok p) e = power_is q s y p (sym e)
power_settles q s y (Err x) e = tt
