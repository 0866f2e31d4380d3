-- Nothing of a written table is too wide for an ample greatest value.
use Rattle.std.proofs.Common.{◌≡◌, refl, sym, ap, subst, ◌∙◌, ℕ, zero, suc, ◌*◌, ◌^◌, ◌≤◌, Bool, true, false, not, cond}
use Rattle.std.proofs.Common.{None, arith, ℤ, pos, negsuc, nat_abs, ◌+ℤ◌, ◌*ℤ◌}
use Rattle.stack_rational.proofs.Common.{ints, of, add, neg, ordered_fractions, first, or_else, only_if, first_all-none}
use Rattle.stack_rational.proofs.Common.{Within, is_too_wide, neg_is, SumFits}
use Rattle.stack_algebra.proofs.Fractions.{of_add, of_mul}
use Rattle.stack_rational.specs.Stored.{Fits}
use Rattle.stack_rational.specs.declared.exact.Op.TheVariants.{Difference}
use Rattle.stack_rational.proofs.WideWholes.{num_of, den_of, whole_fits}
use Rattle.stack_rational.proofs.ShortCuts.{same_den_fits}
use Rattle.stack_table.specs.declared.problem.BuildError.{BuildError}
use Rattle.stack_table.specs.declared.problem.BuildError.TheVariants.{Wide, Memory}
use Rattle.stack_table.specs.declared.problem.Problem.{Problem as Lent}
use Rattle.stack_table.specs.Table.{width}
use Rattle.stack_table.specs.Lent.{IsAmple, IsProblem, TellsFirst, shape_of_problem, problem_of}
use Rattle.stack_whole.specs.Limits.{most_rows, IsBelowBound}
use Rattle.stack_table.specs.WrittenTable.{less_all, partial_place, is_artificial, objective_place, objective_places}
use Rattle.stack_table.specs.WrittenTable.{first_row, written_number, number_place, row_place, wide_place}
use Rattle.stack_rational.proofs.Fitting.{sum_fits-of}
use Rattle.stack_table.proofs.Numbers.{number_small}

-- 0 less the first n whole numbers
abbrev total : (ℕ → ℤ) → ℕ → ℤ
total g zero = pos 0
total g (suc n) = total g n +ℤ negsuc 0 *ℤ g n

neg-of : (b : ℤ) → neg (of b) ≡ of (negsuc 0 *ℤ b)
neg-of b = neg_is (of b) ∙ sym (of_mul (negsuc 0) b)

less_all-of : (g : ℕ → ℤ) (n : ℕ) → less_all ordered_fractions n (λ i. of (g i)) ≡ of (total g n)
less_all-of g zero = refl
less_all-of g (suc n) = (λ z. add (less_all-of g n z) (neg-of (g n) z))
    ∙ sym (of_add (total g n) (negsuc 0 *ℤ g n))

opposite_size : (b : ℤ) → nat_abs (negsuc 0 *ℤ b) ≡ nat_abs b
opposite_size b = omega (arith, ints)

total_size : (g : ℕ → ℤ) (n : ℕ) → ((i : ℕ) → IsBelowBound (g i)) → nat_abs (total g n) ≤ n * 2 ^ 100
total_size g zero h = omega arith
total_size g (suc n) h = next (total g n) (g n) (total_size g n h) (h n)
  where
    next : (a b : ℤ) → nat_abs a ≤ n * 2 ^ 100 → IsBelowBound b → nat_abs (a +ℤ negsuc 0 *ℤ b) ≤ suc n * 2 ^ 100
    next a b k l = omega (arith, ints, k, l)

module _ (m : ℤ) (ample : IsAmple m) where
  whole_record : (z : ℤ) → nat_abs z ≤ nat_abs m → Fits m (of z)
  whole_record z h = record {
    num = omega (arith, ap nat_abs (num_of z), h);
    den =
        omega (arith, den_of z, ample);
  }

  difference : (a b : ℤ) → nat_abs a ≤ most_rows * 2 ^ 100 → IsBelowBound b →
      is_too_wide m Difference (of a) (of b) ≡ false
  difference a b h k =
      ap not (sum_fits-of m (of a) (neg (of b)) (subst (λ y. SumFits m (of a) y) (sym (neg-of b))
      (same_den_fits m (of a) (of (negsuc 0 *ℤ b)) (whole_record a (omega (arith, h, ample)))
      (whole_record (negsuc 0 *ℤ b) (omega (arith, opposite_size b, k, ample)))
      (den_of a ∙ sym (den_of (negsuc 0 *ℤ b)))
      (subst (Within m) (λ z. sym (num_of a) z +ℤ sym (num_of (negsuc 0 *ℤ b)) z) within))))
    where
      within : Within m (a +ℤ negsuc 0 *ℤ b)
      within = omega (arith, ints, h, k, ample)

  module _ (P : Lent) (h : IsProblem P) where
    abbrev number : ℕ → ℕ → ℤ
    number = written_number (problem_of P)

    row_none : (i : ℕ) → row_place ordered_fractions (is_too_wide m) (problem_of P) i ≡ None
    row_none i = first_all-none (width (shape_of_problem P))
        (number_place ordered_fractions (is_too_wide m) (problem_of P) i)
        (λ j l. ap (λ b. only_if b (Wide i j)) (whole_fits m (number i j) (number i j) refl
        (omega (arith, number_small P h i j, ample))))

    column_none : (j : ℕ) → objective_place ordered_fractions (is_too_wide m) (shape_of_problem P)
        (first_row ordered_fractions (problem_of P)) j ≡ None
    column_none j = go (is_artificial (shape_of_problem P) j)
      where
        each : first P.rows (partial_place ordered_fractions (is_too_wide m) (Wide P.rows j)
            (λ i. of (number i j))) ≡ None
        each = first_all-none P.rows
            (partial_place ordered_fractions (is_too_wide m) (Wide P.rows j) (λ i. of (number i j)))
            (λ i l. ap (λ b. only_if b (Wide P.rows j))
            (ap (λ x. is_too_wide m Difference x (of (number i j))) (less_all-of (λ k. number k j) i)
            ∙ difference (total (λ k. number k j) i) (number i j)
            (omega (arith, l, h.rows_few, total_size (λ k. number k j) i (λ k. number_small P h k j)))
            (number_small P h i j)))

        go : (b : Bool) → cond b None
            (first P.rows (partial_place ordered_fractions (is_too_wide m) (Wide P.rows j)
            (λ i. of (number i j)))) ≡ None
        go true = refl
        go false = each

    pub never : wide_place ordered_fractions (is_too_wide m) (problem_of P) ≡ None
    never = ap (λ o. or_else o (objective_places ordered_fractions (is_too_wide m) (shape_of_problem P)
        (first_row ordered_fractions (problem_of P))))
        (first_all-none P.rows (row_place ordered_fractions (is_too_wide m) (problem_of P)) (λ i l. row_none i))
        ∙ first_all-none (width (shape_of_problem P))
        (objective_place ordered_fractions (is_too_wide m) (shape_of_problem P)
        (first_row ordered_fractions (problem_of P))) (λ j l. column_none j)

    -- so the error of an ample width is want of memory
    pub only_memory : (e : BuildError) → TellsFirst e (wide_place ordered_fractions (is_too_wide m) (problem_of P)) →
        e ≡ Memory
    only_memory (Wide i j) t = absurd (let k = sym never ∙ t in cc)
    only_memory Memory t = refl
