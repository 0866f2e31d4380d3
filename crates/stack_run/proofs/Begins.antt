-- The written table is a table of phase 1, so the run of a problem gives what its end says over the first rows.
use Rattle.std.proofs.Common.{◌≡◌, ◌≢◌, refl, sym, ap, subst, ◌∙◌, ℕ, zero, suc, ◌<◌, ◌≤◌, ◌+◌, ◌-◌, Bool, true, false}
use Rattle.std.proofs.Common.{cond, ltb, leb, ◌&&◌, inr, arith, ltb-true, lt-ltb, leb-true, le-leb, pos, negsuc}
use Rattle.stack_rational.proofs.Common.{dec_le, dec_lt, Ordered, num, ◌⊕◌, ◌⊗◌, ring1, sum_zero, at-other, at-same}
use Rattle.stack_rational.proofs.Common.{nonneg_by, changed-same, none, dot, Combination, sum_one}
use Rattle.stack_algebra.proofs.Ring.{mul-zero}
use Rattle.stack_algebra.proofs.Sums.{sum}
use Rattle.stack_algebra.proofs.Combinations.{combination_first}
use Rattle.stack_rational.specs.declared.exact.Op.{Op}
use Rattle.stack_table.specs.Table.{plain, columns}
use Rattle.stack_table.specs.Problem.{Problem}
use Rattle.stack_table.specs.WrittenTable.{less_all, first_row, first_objective, written_table}
use Rattle.stack_run.specs.WrittenRun.{written_run}
use Rattle.stack_run.specs.PhaseTables.{own_first, IsFirst}
use Rattle.stack_run.proofs.WrittenRows.{first_rows, same_row, right_cell, basic_is, nonneg_load}
use Rattle.stack_run.proofs.RunEnds.{EndOverRows, run_gives}

module _ (F : Ordered) (P : Problem) where
  abbrev m : ℕ
  m = P.shape.rows

  abbrev w : ℕ
  w = plain P.shape

  abbrev n : ℕ
  n = columns P.shape

  abbrev A : ℕ → ℕ → F.C
  A = first_row F P

  -- 0 less some numbers, as a sum
  less_all-is : (k : ℕ) (f : ℕ → F.C) → less_all F k f ≡ sum F.ring k (λ i. F.mul (F.of (negsuc 0)) (f i))
  less_all-is zero f = refl
  less_all-is (suc k) f = ap (λ z. F.add z (F.neg (f k))) (less_all-is k f) ∙ ap (F.add _) (F.neg_is (f k))

  -- the own cells of phase 1
  own-elsewhere : (j : ℕ) → ((k : ℕ) → k < m → j ≢ w + k) → own_first F m w j ≡ F.of (pos 0)
  own-elsewhere j h = sum_zero F.ring m _ (λ k l. at-other F.ring (w + k) j (F.of (pos 1)) (h k l))

  pub own-artificial : (k : ℕ) → k < m → own_first F m w (w + k) ≡ F.of (pos 1)
  own-artificial k l = sum_one F.ring m k _ l (λ i _ d. at-other F.ring (w + i) (w + k) (F.of (pos 1))
      (λ e. d (omega arith))) ∙ at-same F.ring (w + k) (F.of (pos 1))

  -- the first objective row, in an artificial column and elsewhere
  objective_artificial : (k : ℕ) → k < m → first_objective F P (w + k) ≡ F.of (pos 0)
  objective_artificial k l = (λ z. cond (le-leb w (w + k) (omega arith) z && lt-ltb (w + k) n (omega arith) z)
      (F.of (pos 0)) (less_all F m (λ i. A i (w + k))))

  objective_elsewhere : (j : ℕ) → ((k : ℕ) → k < m → j ≢ w + k) →
      first_objective F P j ≡ less_all F m (λ i. A i j)
  objective_elsewhere j h = go (leb w j) refl (ltb j n) refl
    where
      go : (a : Bool) → leb w j ≡ a → (b : Bool) → ltb j n ≡ b →
          cond (a && b) (F.of (pos 0)) (less_all F m (λ i. A i j)) ≡ less_all F m (λ i. A i j)
      go false e b f = refl
      go true e false f = refl
      go true e true f = absurd (let x = leb-true w j e in let y = ltb-true j n f in
          h (j - w) (omega arith) (omega arith))

  -- the first objective row is a combination of the first rows, with its own cells
  objective_cell : (j : ℕ) → (h : Dec ((w ≤ j) × (j < n))) →
      first_objective F P j ≡ F.add (own_first F m w j) (sum F.ring m (λ i. F.mul (F.of (negsuc 0)) (A i j)))
  objective_cell j (yes h) = let k = j - w in let e : j ≡ w + k = omega (arith, h.0) in let l : k < m =
      omega (arith, h.0, h.1) in
      ap (first_objective F P) e ∙ objective_artificial k l
      ∙ ring1 F.ring (λ y. (num (pos 0), num (pos 1) ⊕ num (negsuc 0) ⊗ num (pos 1))) refl (F.of (pos 0))
      ∙ (λ z. F.add ((sym (ap (own_first F m w) e ∙ own-artificial k l)) z) ((sym (column k l ∙ refl)) z))
      ∙ ap (λ y. F.add (own_first F m w j) (sum F.ring m (λ i. F.mul (F.of (negsuc 0)) (A i y)))) (sym e)
    where
      column : (k : ℕ) → k < m → sum F.ring m (λ i. F.mul (F.of (negsuc 0)) (A i (w + k)))
          ≡ F.mul (F.of (negsuc 0)) (F.of (pos 1))
      column k l = sum_one F.ring m k _ l (λ i _ d. ap (F.mul (F.of (negsuc 0))) (first_rows F P i k l
          ∙ at-other F.ring k i (F.of (pos 1)) d) ∙ mul-zero F.ring _)
          ∙ ap (F.mul (F.of (negsuc 0))) (first_rows F P k k l ∙ at-same F.ring k (F.of (pos 1)))
  objective_cell j (no h) = objective_elsewhere j out ∙ less_all-is m (λ i. A i j)
      ∙ sym (ap (λ y. F.add y (sum F.ring m (λ i. F.mul (F.of (negsuc 0)) (A i j)))) (own-elsewhere j out)
      ∙ F.zero_add _)
    where
      out : (k : ℕ) → k < m → j ≢ w + k
      out k l e = h (omega arith, omega arith)

  -- whether a column is artificial
  dec_between : (j : ℕ) → Dec ((w ≤ j) × (j < n))
  dec_between j = go (dec_le w j) (dec_lt j n)
    where
      go : Dec (w ≤ j) → Dec (j < n) → Dec ((w ≤ j) × (j < n))
      go (yes a) (yes b) = yes (a, b)
      go (yes a) (no b) = no (λ h. b h.1)
      go (no a) b = no (λ h. a h.0)

  -- the written table is a table of phase 1
  pub first_table : IsFirst F P.shape A (written_table F P)
  first_table = record {
    no_factor = λ i l. let e = basic_is F P i l in inr (omega (arith, e));
    tableau = record {
      row = λ i l. subst (λ (f : ℕ → F.C). Combination F.ring m A (none F.ring) f) (sym (same_row F P i l))
          (combination_first F.ring m A i l);
      objective = subst (λ (f : ℕ → F.C). Combination F.ring m A (own_first F m w) f)
          (sym (changed-same A m (first_objective F P)))
          (record { multiplier = λ k. F.of (negsuc 0); cell = λ j. objective_cell j (dec_between j) });
      back = λ x a i l. ap (λ (f : ℕ → F.C). dot F.ring (suc n) f x) (sym (same_row F P i l)) ∙ a i l;
      basic_below = λ i l. let e = basic_is F P i l in omega (arith, e);
      unit = λ i s l k. ap ((written_table F P).cell i) (basic_is F P s k)
          ∙ ap (λ (f : ℕ → F.C). f (w + s)) (same_row F P i l) ∙ first_rows F P i s k;
      objective_unit = λ s l. ap ((written_table F P).cell m) (basic_is F P s l)
          ∙ ap (λ (f : ℕ → F.C). f (w + s)) (changed-same A m (first_objective F P)) ∙ objective_artificial s l;
      feasible = λ i l. nonneg_by F _ _ (sym (ap (λ (f : ℕ → F.C). f n) (same_row F P i l) ∙ right_cell F P i))
          (nonneg_load F P (P.load i));
    };
  }

  -- the written run of a problem gives over the first rows what its end says
  pub written_run-gives : (is_too_wide : Op → F.C → F.C → Bool) (budget : ℕ) →
      EndOverRows F P.shape (first_row F P) (written_run F P.shape is_too_wide budget (written_table F P))
  written_run-gives is_too_wide budget =
      run_gives F P.shape A is_too_wide (first_rows F P) budget (written_table F P) first_table
