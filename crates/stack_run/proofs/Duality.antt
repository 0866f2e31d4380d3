-- The four ends' tables give what they should: with each first row 1 in its own artificial column w + k and 0
-- in the others.
use Rattle.std.proofs.Common.{◌≡◌, ◌≢◌, refl, sym, ap, ◌∙◌, ℕ, zero, suc, ◌<◌, ◌≤◌, ◌+◌, ◌-◌, arith, pos, negsuc}
use Rattle.stack_rational.proofs.Common.{ℕ_discrete, Exp, num, ◌⊕◌, ◌⊖◌, ◌⊗◌, ring1, ring2, ring3, sum_same, sum_zero}
use Rattle.stack_rational.proofs.Common.{at, at-other, at-same, Ordered, minus, plus, NonNeg, Tableau, nonneg_by}
use Rattle.stack_rational.proofs.Common.{sum_scale, opposite, dot, Combination, spread, nonneg_add, nonneg_plus}
use Rattle.stack_rational.proofs.Common.{nonneg_sum}
use Rattle.stack_algebra.proofs.Ring.{Ring, mul-zero, add-zero}
use Rattle.stack_algebra.proofs.Sums.{sum}
use Rattle.stack_algebra.specs.Rows.{Annuls}
use Rattle.stack_algebra.proofs.Signs.{nonneg_mul, nonneg_neg, zero_between, zero_parts, plus_add}
use Rattle.stack_algebra.proofs.Combinations.{multiplier_is, dot_spread}
use Rattle.stack_run.specs.PhaseTables.{own_first, own_third}
use Rattle.stack_run.proofs.RowEnds.{Balances, work, Refutes, Bounds, Rises}
use Rattle.stack_run.proofs.Solutions.{dot_at, dot_comm, solution, ray_of, solution_annulled, ray_annulled}
use Rattle.stack_run.proofs.Solutions.{own_on_solution, own_on_ray, nonneg_at, nonneg_spread}

-- a sum in two parts
pub sum_plus : (R : Ring) (w m : ℕ) (f : ℕ → R.C) →
    sum R (w + m) f ≡ R.add (sum R w f) (sum R m (λ k. f (w + k)))
sum_plus R w zero f = let e : w + zero ≡ w = omega arith in ap (λ k. sum R k f) e ∙ sym (add-zero R (sum R w f))
sum_plus R w (suc m) f = let e : w + suc m ≡ suc (w + m) = omega arith in ap (λ k. sum R k f) e
    ∙ ap (λ z. R.add z (f (w + m))) (sum_plus R w m f)
    ∙ R.add_assoc (sum R w f) (sum R m (λ k. f (w + k))) (f (w + m))

module _ (F : Ordered) where
  -- the motion that an objective row shows
  abbrev pub motion : (m w : ℕ) (own : ℕ → F.C) → (ℕ → ℕ → F.C) → ℕ → F.C
  motion m w own cell k = F.add (cell m (w + k)) (F.neg (own (w + k)))

module _ (F : Ordered) (m w : ℕ) (A : ℕ → ℕ → F.C) where
  -- row l has 1 in its artificial column and 0 in the others
  abbrev pub FirstRows : Type 0
  FirstRows = (l k : ℕ) → k < m → A l (w + k) ≡ at F.ring k (F.of (pos 1)) l

  -- without artificial columns, what is annulled balances
  balances : (x : ℕ → F.C) (scale : F.C) → ((j : ℕ) → j < w → NonNeg F (x j)) →
      ((k : ℕ) → k < m → x (w + k) ≡ F.of (pos 0)) → x (w + m) ≡ F.neg scale →
      Annuls F.ring m (suc (w + m)) A x → Balances F m w (w + m) A x scale
  balances x scale h z e a = record {
    parts = λ j l. (h j l).fact;
    sums = λ i l.
        let split : dot F.ring (suc (w + m)) (A i) x
        ≡ F.add (F.add (sum F.ring w (λ j. F.mul (A i j) (x j))) (F.of (pos 0)))
        (F.mul (A i (w + m)) (F.neg scale)) =
        (λ t. F.add (sum_plus F.ring w m (λ j. F.mul (A i j) (x j)) t) (F.mul (A i (w + m)) (e t)))
        ∙ ap (λ y. F.add (F.add (sum F.ring w (λ j. F.mul (A i j) (x j))) y)
        (F.mul (A i (w + m)) (F.neg scale)))
        (sum_zero F.ring m (λ k. F.mul (A i (w + k)) (x (w + k))) (λ k l. ap (F.mul (A i (w + k))) (z k l)
        ∙ mul-zero F.ring (A i (w + k)))) in
        ring3 F.ring (λ u b s. (u, ((u ⊕ num (pos 0)) ⊕ b ⊗ Exp.neg s) ⊕ s ⊗ b)) refl
        (sum F.ring w (λ j. F.mul (A i j) (x j))) (A i (w + m)) scale
        ∙ ap (λ y. F.add y (F.mul scale (A i (w + m)))) (sym split ∙ a i l) ∙ F.zero_add _;
  }

  module _ (cell : ℕ → ℕ → F.C) (basic : ℕ → ℕ) where
    -- the values, and a ray
    abbrev x : ℕ → F.C
    x = solution F m (w + m) cell basic

    abbrev value : ℕ → F.C
    value j = spread F.ring m basic (λ i. cell i (w + m)) j

    abbrev ray : ℕ → ℕ → F.C
    ray c = ray_of F m (w + m) cell basic c

    -- the solution before the right side
    solution_is : (j : ℕ) → j < w + m → x j ≡ value j
    solution_is j l = ap (F.add (value j)) (at-other F.ring (w + m) j (F.of (negsuc 0)) (λ e. omega arith))
        ∙ add-zero F.ring (value j)

    -- the first rows in an objective's multipliers: its cells less its own
    work_is : (own : ℕ → F.C) → FirstRows → Combination F.ring m A own (cell m) → (j : ℕ) →
        work F m w (w + m) A (motion F m w own cell) j ≡ F.add (cell m j) (F.neg (own j))
    work_is own a h j = sum_same F.ring m _ _
        (λ k l. ap (λ y. F.mul y (A k j)) (sym (multiplier_is F.ring m w A own (cell m) a h k l)))
        ∙ ring2 F.ring (λ o s. (s, (o ⊕ s) ⊖ o)) refl (own j)
        (sum F.ring m (λ k. F.mul (h.multiplier k) (A k j)))
        ∙ ap (λ y. F.add y (F.neg (own j))) (sym (h.cell j))

    -- a spread where no basic column of a number that is not 0 stands
    spread_outside : (v : ℕ → F.C) (j : ℕ) → ((i : ℕ) → i < m → basic i ≡ j → v i ≡ F.of (pos 0)) →
        spread F.ring m basic v j ≡ F.of (pos 0)
    spread_outside v j h = sum_zero F.ring m (λ i. at F.ring (basic i) (v i) j)
        (λ i l. go i l (ℕ_discrete j (basic i)))
      where
        go : (i : ℕ) → i < m → Dec (j ≡ basic i) → at F.ring (basic i) (v i) j ≡ F.of (pos 0)
        go i l (yes e) = ap (λ k. at F.ring (basic i) (v i) k) e ∙ at-same F.ring (basic i) (v i)
            ∙ h i l (sym e)
        go i l (no d) = at-other F.ring (basic i) j (v i) d

    -- a column that is not basic has the value 0
    pub value_outside : (j : ℕ) → j < w + m → ((i : ℕ) → i < m → basic i ≢ j) → x j ≡ F.of (pos 0)
    value_outside j l h = solution_is j l ∙ spread_outside (λ i. cell i (w + m)) j (λ i k e. absurd (h i k e))

    module _ (own : ℕ → F.C) (t : Tableau F m (w + m) A own cell basic) where
      -- values are not negative
      nonneg_value : (j : ℕ) → NonNeg F (value j)
      nonneg_value j = nonneg_spread F m basic (λ i. cell i (w + m)) j t.feasible

      -- the solution at the right side
      solution_right : x (w + m) ≡ F.neg (F.of (pos 1))
      solution_right = ap (λ y. F.add y (at F.ring (w + m) (F.of (negsuc 0)) (w + m)))
          (spread_outside (λ i. cell i (w + m)) (w + m) (λ i l e. absurd (omega (arith, t.basic_below i l))))
          ∙ F.zero_add _ ∙ at-same F.ring (w + m) (F.of (negsuc 0))
          ∙ ring1 F.ring (λ x. (num (negsuc 0), Exp.neg (num (pos 1)))) refl (F.of (pos 0))

      -- where each artificial basic column has the value 0, the values balance
      pub values_balance : ((i : ℕ) → i < m → w ≤ basic i → cell i (w + m) ≡ F.of (pos 0)) →
          Balances F m w (w + m) A x (F.of (pos 1))
      values_balance h = balances x (F.of (pos 1)) (λ j l. nonneg_by F _ _ (sym (solution_is j (omega arith)))
          (nonneg_value j))
          (λ k l. solution_is (w + k) (omega arith)
          ∙ spread_outside (λ i. cell i (w + m)) (w + k) (λ i k' e. h i k' (omega arith)))
          solution_right (solution_annulled F m (w + m) A own cell basic t)

    -- what a table of phase 1 says of the problem
    module _ (t : Tableau F m (w + m) A (own_first F m w) cell basic) where
      -- the own cells of phase 1 count the artificial columns' amounts
      artificial_sum : (x : ℕ → F.C) → dot F.ring (suc (w + m)) (own_first F m w) x
          ≡ sum F.ring m (λ k. F.mul (x (w + k)) (F.of (pos 1)))
      artificial_sum x = dot_comm F.ring (suc (w + m)) (own_first F m w) x
          ∙ dot_spread F.ring m (suc (w + m)) (λ k. w + k) x (λ k. F.of (pos 1)) (λ k l. omega arith)

      -- they are 0 in the plain columns and on the right
      own-plain : (j : ℕ) → j < w → (own_first F m w) j ≡ F.of (pos 0)
      own-plain j l = sum_zero F.ring m (λ k. at F.ring (w + k) (F.of (pos 1)) j)
          (λ k _. at-other F.ring (w + k) j (F.of (pos 1)) (λ e. omega arith))

      own-right : (own_first F m w) (w + m) ≡ F.of (pos 0)
      own-right = sum_zero F.ring m (λ k. at F.ring (w + k) (F.of (pos 1)) (w + m))
          (λ k l. at-other F.ring (w + k) (w + m) (F.of (pos 1)) (λ e. omega arith))

      -- a negative right side of the objective refutes that any amounts balance
      pub infeasible_refutes : FirstRows → (contacts : ℕ) → contacts ≤ w →
          ((j : ℕ) → j < contacts → NonNeg F (cell m j)) → F.sign (cell m (w + m)) ≡ minus →
          Refutes F m w (w + m) A contacts (motion F m w (own_first F m w) cell)
      infeasible_refutes a contacts l h e = record {
        unresisted = λ j k. (nonneg_by F _ _ (sym (work_is (own_first F m w) a t.objective j
            ∙ ap (λ y. F.add (cell m j) (F.neg y)) (own-plain j (omega arith)) ∙ less-nought (cell m j)))
            (h j k)).fact;
        driven = ap F.sign (work_is (own_first F m w) a t.objective (w + m)
            ∙ ap (λ y. F.add (cell m (w + m)) (F.neg y)) own-right ∙ less-nought (cell m (w + m))) ∙ e;
      }
        where
          less-nought : (y : F.C) → F.add y (F.neg (F.of (pos 0))) ≡ y
          less-nought = ring1 F.ring (λ y. (y ⊖ num (pos 0), y)) refl

      -- a column that may enter has a row that may leave
      pub some_row_leaves : (c : ℕ) → c < w → F.sign (cell m c) ≡ minus →
          ((i : ℕ) → i < m → F.sign (cell i c) ≢ plus) → ⊥
      some_row_leaves c l e h = (nonneg_by F _ _ (sym (artificial_sum (ray_of F m (w + m) cell basic c))
          ∙ own_on_ray F m (w + m) A (own_first F m w) cell basic t c (omega arith))
          (nonneg_sum F m _ (λ k _. nonneg_mul F _ _
          (nonneg_add F _ _ (nonneg_at F c (w + k) (F.of (pos 1)) (nonneg_plus F _ F.sign-one))
          (nonneg_spread F m basic (λ i. F.neg (cell i c)) (w + k) (λ i l. nonneg_neg F (cell i c) (h i l))))
          (nonneg_plus F _ F.sign-one)))).fact e

      -- where the objective's right side is not negative, each artificial basic column has the value 0
      pub artificial_values : F.sign (cell m (w + m)) ≢ minus → (i : ℕ) → i < m → w ≤ basic i →
          cell i (w + m) ≡ F.of (pos 0)
      artificial_values h i l b = at-zero ∙ zero_parts F m (λ s. at F.ring (basic s) (cell s (w + m)) (basic i))
          (λ s k. nonneg_at F (basic s) (basic i) (cell s (w + m)) (t.feasible s k)) whole i l
        where
          total : sum F.ring m (λ k. F.mul (x (w + k)) (F.of (pos 1))) ≡ F.neg (cell m (w + m))
          total = sym (artificial_sum x) ∙ own_on_solution F m (w + m) A (own_first F m w) cell basic t

          parts : (k : ℕ) → k < m → NonNeg F (F.mul (x (w + k)) (F.of (pos 1)))
          parts k l = nonneg_mul F _ _ (nonneg_by F _ _ (sym (solution_is (w + k) (omega arith)))
              (nonneg_value (own_first F m w) t (w + k))) (nonneg_plus F _ F.sign-one)

          nought_there : cell m (w + m) ≡ F.of (pos 0)
          nought_there = zero_between F (cell m (w + m)) (record { fact = h })
              (nonneg_by F _ _ total (nonneg_sum F m _ parts))

          each : (k : ℕ) → k < m → F.mul (x (w + k)) (F.of (pos 1)) ≡ F.of (pos 0)
          each = zero_parts F m _ parts (total ∙ ap F.neg nought_there
              ∙ ring1 F.ring (λ y. (Exp.neg (num (pos 0)), num (pos 0))) refl (F.of (pos 0)))

          whole : value (basic i) ≡ F.of (pos 0)
          whole = let k = basic i - w in let e : basic i ≡ w + k = omega arith in
              ap value e ∙ sym (solution_is (w + k) (omega (arith, t.basic_below i l)))
              ∙ ring1 F.ring (λ y. (y, y ⊗ num (pos 1))) refl (x (w + k))
              ∙ each k (omega (arith, t.basic_below i l))

          at-zero : cell i (w + m) ≡ at F.ring (basic i) (cell i (w + m)) (basic i)
          at-zero = sym (at-same F.ring (basic i) (cell i (w + m)))

      -- and so the values balance, where the objective's right side is not negative
      pub feasible_balances : F.sign (cell m (w + m)) ≢ minus → Balances F m w (w + m) A x (F.of (pos 1))
      feasible_balances h = values_balance (own_first F m w) t (artificial_values h)

    -- what a table of phase 3 says of the problem, whose factor's column is g
    module _ (g : ℕ) (below : g < w) (t : Tableau F m (w + m) A (own_third F g) cell basic) where
      -- the own cells of phase 3 count the factor's amount
      factor_sum : (x : ℕ → F.C) → dot F.ring (suc (w + m)) (own_third F g) x ≡ F.neg (x g)
      factor_sum x = dot_comm F.ring (suc (w + m)) (own_third F g) x
          ∙ dot_at F.ring (suc (w + m)) g x (F.of (negsuc 0)) (omega arith)
          ∙ ring1 F.ring (λ y. (y ⊗ num (negsuc 0), Exp.neg y)) refl (x g)

      -- an objective cell or the value of its column is 0
      complementary : (j : ℕ) → F.mul (cell m j) (value j) ≡ F.of (pos 0)
      complementary j = sym (sum_scale F.ring m (cell m j)
          (λ i. at F.ring (basic i) (cell i (w + m)) j))
          ∙ sum_zero F.ring m _ (λ i l. go i l (ℕ_discrete j (basic i)))
        where
          go : (i : ℕ) → i < m → Dec (j ≡ basic i) → F.mul (cell m j) (at F.ring (basic i) (cell i (w + m)) j)
              ≡ F.of (pos 0)
          go i l (yes e) = ap (λ y. F.mul y (at F.ring (basic i) (cell i (w + m)) j)) (ap (cell m) e
              ∙ t.objective_unit i l) ∙ F.zero_mul _
          go i l (no d) = ap (F.mul (cell m j)) (at-other F.ring (basic i) j (cell i (w + m)) d)
              ∙ mul-zero F.ring (cell m j)

      -- the objective's right side is the factor's value
      factor_value : x g ≡ cell m (w + m)
      factor_value = ring1 F.ring (λ y. (y, Exp.neg (Exp.neg y))) refl (x g)
          ∙ ap F.neg (sym (factor_sum x) ∙ own_on_solution F m (w + m) A (own_third F g) cell basic t)
          ∙ ring1 F.ring (λ y. (Exp.neg (Exp.neg y), y)) refl (cell m (w + m))

      -- an objective row without a negative cell bounds the factor by its value
      pub optimal_bounds : FirstRows → ((j : ℕ) → j < w → NonNeg F (cell m j)) →
          Bounds F m w (w + m) A g x (motion F m w (own_third F g) cell)
      optimal_bounds a h = record {
        unresisted = λ j l. (nonneg_by F _ _ (sym (work_is (own_third F g) a t.objective j
            ∙ ap (λ y. F.add (cell m j) (F.neg y)) (at-other F.ring g j (F.of (negsuc 0)) (λ e. omega arith))
            ∙ less-nought (cell m j))) (h j (omega arith))).fact;
        live_work = ap F.sign live ∙ plus_add F (cell m g) (F.of (pos 1)) (h g below) F.sign-one;
        meeting = (λ z. F.mul (live z) (x g)) ∙ ring2 F.ring (λ c x. ((c ⊕ num (pos 1)) ⊗ x, c ⊗ x ⊕ x)) refl
            (cell m g) (x g)
            ∙ (λ z. F.add ((ap (F.mul (cell m g)) (solution_is g (omega arith)) ∙ complementary g) z)
            (factor_value z)) ∙ F.zero_add _
            ∙ sym (work_is (own_third F g) a t.objective (w + m)
            ∙ ap (λ y. F.add (cell m (w + m)) (F.neg y))
            (at-other F.ring g (w + m) (F.of (negsuc 0)) (λ e. omega arith)) ∙ less-nought (cell m (w + m)));
      }
        where
          less-nought : (y : F.C) → F.add y (F.neg (F.of (pos 0))) ≡ y
          less-nought = ring1 F.ring (λ y. (y ⊖ num (pos 0), y)) refl

          live : work F m w (w + m) A (motion F m w (own_third F g) cell) g ≡ F.add (cell m g) (F.of (pos 1))
          live = work_is (own_third F g) a t.objective g
              ∙ ap (λ y. F.add (cell m g) (F.neg y)) (at-same F.ring g (F.of (negsuc 0)))
              ∙ ring1 F.ring (λ y. (y ⊖ num (negsuc 0), y ⊕ num (pos 1))) refl (cell m g)

      -- an entering column that no row limits raises the factor
      pub ray_rises : (c : ℕ) → c < w → F.sign (cell m c) ≡ minus →
          ((i : ℕ) → i < m → F.sign (cell i c) ≢ plus) →
          ((i : ℕ) → i < m → w ≤ basic i → cell i c ≡ F.of (pos 0)) →
          Rises F m w (w + m) A g (ray_of F m (w + m) cell basic c)
      ray_rises c l e h z = record {
        balances = balances (ray c) (F.of (pos 0))
            (λ j k. nonneg_add F _ _ (nonneg_at F c j (F.of (pos 1)) (nonneg_plus F _ F.sign-one))
            (nonneg_spread F m basic (λ i. F.neg (cell i c)) j (λ i l. nonneg_neg F (cell i c) (h i l))))
            (λ k l'. beyond (w + k) (omega arith) (λ i b q. ap F.neg (z i b (omega arith)) ∙ neg-nought))
            (beyond (w + m) (omega arith) (λ i b q. absurd (omega (arith, t.basic_below i b))) ∙ sym neg-nought)
            (ray_annulled F m (w + m) A (own_third F g) cell basic t c (omega arith));
        factor = ap F.sign (ring1 F.ring (λ y. (y, Exp.neg (Exp.neg y))) refl (ray c g)
            ∙ ap F.neg (sym (factor_sum (ray c)) ∙ own_on_ray F m (w + m) A (own_third F g) cell basic t c
            (omega arith))) ∙ F.sign-neg (cell m c) ∙ ap opposite e;
      }
        where
          neg-nought : F.neg (F.of (pos 0)) ≡ F.of (pos 0)
          neg-nought = ring1 F.ring (λ y. (Exp.neg (num (pos 0)), num (pos 0))) refl (F.of (pos 0))

          beyond : (j : ℕ) → w ≤ j → ((i : ℕ) → i < m → basic i ≡ j → F.neg (cell i c) ≡ F.of (pos 0)) →
              ray c j ≡ F.of (pos 0)
          beyond j k f = (λ y. F.add (at-other F.ring c j (F.of (pos 1)) (λ e. omega arith) y)
              (spread_outside (λ i. F.neg (cell i c)) j f y)) ∙ F.zero_add _
