-- The tables of the three phases: each turn keeps them, and each phase begins with one.
use Rattle.std.proofs.Common.{◌≡◌, ◌≢◌, refl, sym, ap, subst, ◌∙◌, ℕ, suc, ◌<◌, ◌≤◌, ◌⊎◌, inl, inr, true, false, eqb}
use Rattle.std.proofs.Common.{not, arith, Option, Some, None, eqb-true, pos, negsuc}
use Rattle.stack_rational.proofs.Common.{ℕ_discrete, num, ◌⊕◌, ◌⊖◌, ◌⊗◌, ring1, ring2, sum_zero, at-other, at-same}
use Rattle.stack_rational.proofs.Common.{changed-same, changed-other, Ordered, Sign, minus, nought, plus, least}
use Rattle.stack_rational.proofs.Common.{nonneg_by, least-some, changed, Tableau, next, eqb-false, pivoted-other}
use Rattle.stack_rational.proofs.Common.{least-none, none, dot, Combination}
use Rattle.stack_algebra.proofs.Ring.{add-zero}
use Rattle.stack_algebra.proofs.Sums.{sum}
use Rattle.stack_algebra.proofs.Pivots.{column_kept}
use Rattle.stack_algebra.proofs.Search.{IsLeast}
use Rattle.stack_algebra.proofs.Tableaus.{tableau_after, right_sides}
use Rattle.stack_table.specs.Table.{Shape, Tabled, plain, columns, right, pivoted_at, with_objective, factor_objective}
use Rattle.stack_table.specs.Table.{clear_objective, set_factor_objective}
use Rattle.stack_bland.specs.Choice.{is_negative_sign, is_nought}
use Rattle.stack_run.specs.PhaseTables.{own_first, own_third, IsFirst, IsThird}
use Rattle.stack_run.proofs.RowEnds.{StandsAlone}
use Rattle.stack_run.proofs.Solutions.{solution}
use Rattle.stack_run.proofs.Duality.{feasible_balances, artificial_values, value_outside}
use Rattle.stack_run.proofs.TurnsKeep.{Due}

-- signs by their tests
pub sign-minus : (s : Sign) → is_negative_sign s ≡ true → s ≡ minus
sign-minus minus e = refl
sign-minus nought e = absurd cc
sign-minus plus e = absurd cc

pub sign_not-minus : (s : Sign) → is_negative_sign s ≡ false → s ≢ minus
sign_not-minus s e d = let h = sym e ∙ ap is_negative_sign d in cc

pub sign-nought : (s : Sign) → not (is_nought s) ≡ false → s ≡ nought
sign-nought minus e = absurd cc
sign-nought nought e = refl
sign-nought plus e = absurd cc

pub sign_not-nought : (s : Sign) → not (is_nought s) ≡ true → s ≢ nought
sign_not-nought s e d = let h = sym e ∙ ap (λ t. not (is_nought t)) d in cc

module _ (F : Ordered) (S : Shape) (A : ℕ → ℕ → F.C) where
  abbrev m : ℕ
  m = S.rows

  abbrev w : ℕ
  w = plain S

  abbrev n : ℕ
  n = columns S

  -- a row that is 0 in column c does not change by a pivot there
  row_kept : (T : Tabled F.C) (r c i j : ℕ) → i ≢ r → T.cell i c ≡ F.of (pos 0) →
      next F T.cell r c i j ≡ T.cell i j
  row_kept T r c i j d z = ap (λ (f : ℕ → F.C). f j) (pivoted-other F.ring T.cell (F.inv (T.cell r c)) r c i d)
      ∙ ap (λ f. F.add (T.cell i j) (F.neg (F.mul f (F.mul (F.inv (T.cell r c)) (T.cell r j))))) z
      ∙ ring2 F.ring (λ t s. (t ⊖ num (pos 0) ⊗ s, t)) refl (T.cell i j)
      (F.mul (F.inv (T.cell r c)) (T.cell r j))

  -- tables of phase 1 and of phase 3
  abbrev pub First : Tabled F.C → Type 0
  First T = IsFirst F S A T

  abbrev pub Third : Tabled F.C → Type 0
  Third T = IsThird F S A T

  -- after phase 1, with phase 2 done for the rows below k
  pub record Second (k : ℕ) (T : Tabled F.C) : Type 0 where
    pub tableau : Tableau F m n A (none F.ring) T.cell T.basic
    pub zero_value : (i : ℕ) → i < m → w ≤ T.basic i → right F S T i ≡ F.of (pos 0)
    pub driven : (i j : ℕ) → i < k → w ≤ T.basic i → j < w → T.cell i j ≡ F.of (pos 0)

  -- a due pivot keeps a tableau
  pub due_tableau : (own : ℕ → F.C) (among : ℕ) → among ≤ w → (T : Tabled F.C) (r c : ℕ) →
      Tableau F m n A own T.cell T.basic → Due F S T among r c →
      Tableau F m n A own (pivoted_at F S T r c).cell (pivoted_at F S T r c).basic
  due_tableau own among l T r c t d = tableau_after F m n A own T.cell T.basic r c d.leaves.below
      (omega (arith, d.enters.below)) (λ e. let p = d.leaves.positive in cc)
      (right_sides F m n A T.cell r c (record {
        below = d.leaves.below;
        positive = d.leaves.positive;
        least = λ i l e. (d.leaves.no_worse i l e).no_greater;
      }) t.feasible) t

  -- a due pivot keeps a table of phase 1
  pub first_step : (T : Tabled F.C) (r c : ℕ) → First T → Due F S T S.contacts r c →
      First (pivoted_at F S T r c)
  first_step T r c h d = record {
    tableau = due_tableau (own_first F m w) S.contacts
        (omega arith) T r c h.tableau d;
    no_factor = λ i l. go i l (ℕ_discrete i r);
  }
    where
      go : (i : ℕ) → i < m → Dec (i ≡ r) → (changed T.basic r c i < S.contacts) ⊎ (w ≤ changed T.basic r c i)
      go i l (yes e) = inl (subst (λ k. k < S.contacts)
          (sym (ap (changed T.basic r c) e ∙ changed-same T.basic r c)) d.enters.below)
      go i l (no e) = subst (λ k. (k < S.contacts) ⊎ (w ≤ k)) (sym (changed-other T.basic r c i e))
          (h.no_factor i l)

  -- the values at the end of phase 1: the factor's is 0
  pub first_stands : (T : Tabled F.C) → First T → S.contacts < w → F.sign (right F S T m) ≢ minus →
      StandsAlone F m w n A S.contacts
  first_stands T h lg d = record {
    amounts = solution F m n T.cell T.basic;
    balances = feasible_balances F m w A T.cell T.basic h.tableau d;
    no_factor = value_outside F m w A T.cell T.basic S.contacts (omega arith)
        (λ i l e. go i (h.no_factor i l) e);
  }
    where
      go : (i : ℕ) → (T.basic i < S.contacts) ⊎ (w ≤ T.basic i) → T.basic i ≡ S.contacts → ⊥
      go i (inl k) e = omega arith
      go i (inr k) e = omega arith

  -- a due pivot keeps a table of phase 3
  pub third_step : (T : Tabled F.C) (r c : ℕ) → Third T → Due F S T w r c → Third (pivoted_at F S T r c)
  third_step T r c h d = record {
    tableau = due_tableau (own_third F S.contacts) w (omega arith) T r c h.tableau d;
    zero_value = λ i l b. let k = still i b (ℕ_discrete i r) in
        row_kept T r c i n k.0 (h.zero_row i c l k.1 d.enters.below) ∙ h.zero_value i l k.1;
    zero_row = λ i j l b lj. let k = still i b (ℕ_discrete i r) in
        row_kept T r c i j k.0 (h.zero_row i c l k.1 d.enters.below) ∙ h.zero_row i j l k.1 lj;
  }
    where
      still : (i : ℕ) → w ≤ changed T.basic r c i → Dec (i ≡ r) → (i ≢ r) × (w ≤ T.basic i)
      still i b (yes e) = absurd (let b' = subst (λ z. w ≤ z) (ap (changed T.basic r c) e
          ∙ changed-same T.basic r c) b in omega (arith, d.enters.below))
      still i b (no e) = (e, subst (λ z. w ≤ z) (changed-other T.basic r c i e) b)

  -- a new objective row
  objective_changed : (own own' o : ℕ → F.C) (T : Tabled F.C) → Tableau F m n A own T.cell T.basic →
      Combination F.ring m A own' o → ((s : ℕ) → s < m → o (T.basic s) ≡ F.of (pos 0)) →
      Tableau F m n A own' (with_objective F S T o).cell T.basic
  objective_changed own own' o T t c z = record {
    row = λ i l. subst (λ (f : ℕ → F.C). Combination F.ring m A (none F.ring) f) (sym (same i l)) (t.row i l);
    objective = subst (λ (f : ℕ → F.C). Combination F.ring m A own' f) (sym (changed-same T.cell m o)) c;
    back = λ x a. t.back x (λ i l. ap (λ (f : ℕ → F.C). dot F.ring (suc n) f x) (sym (same i l)) ∙ a i l);
    basic_below = t.basic_below;
    unit = λ i s l k. ap (λ (f : ℕ → F.C). f (T.basic s)) (same i l) ∙ t.unit i s l k;
    objective_unit = λ s l. ap (λ (f : ℕ → F.C). f (T.basic s)) (changed-same T.cell m o) ∙ z s l;
    feasible = λ i l. nonneg_by F _ _ (ap (λ (f : ℕ → F.C). f n) (sym (same i l))) (t.feasible i l);
  }
    where
      same : (i : ℕ) → i < m → ◌≡◌ {A = ℕ → F.C} (changed T.cell m o i) (T.cell i)
      same i l = changed-other T.cell m o i (λ e. omega arith)

  -- an objective row of 0
  nothing : Combination F.ring m A (none F.ring) (none F.ring)
  nothing = record {
    multiplier = λ k. F.of (pos 0);
    cell = λ j. sym (F.zero_add _ ∙ sum_zero F.ring m _ (λ k l. F.zero_mul (A k j)));
  }

  -- phase 2 begins with the table at the end of phase 1, its objective row set to 0
  pub second_begins : (T : Tabled F.C) → First T → F.sign (right F S T m) ≢ minus →
      Second 0 (clear_objective F S T)
  second_begins T h d = record {
    tableau = objective_changed (own_first F m w) (none F.ring) (none F.ring) T h.tableau nothing (λ s l. refl);
    zero_value = λ i l b. ap (λ (f : ℕ → F.C). f n) (changed-other T.cell m (none F.ring) i (λ e. omega arith))
        ∙ artificial_values F m w A T.cell T.basic h.tableau d i l b;
    driven = λ i j l. absurd (omega arith);
  }

  -- a pivot of phase 2 keeps a tableau
  pub second_pivot : (T : Tabled F.C) (r c : ℕ) → r < m → c < w → w ≤ T.basic r → F.sign (T.cell r c) ≢ nought →
      Second r T → Second (suc r) (pivoted_at F S T r c)
  second_pivot T r c lr lc b d h = record {
    tableau = tableau_after F m n A (none F.ring) T.cell T.basic r c lr (omega arith) d
        (λ i l. nonneg_by F _ _ (sym (sides i)) (h.tableau.feasible i l)) h.tableau;
    zero_value = λ i l b. sides i ∙ h.zero_value i l (still i b (ℕ_discrete i r)).1;
    driven = λ i j l b lj. let k = still i b (ℕ_discrete i r) in rows i j l b lj (ℕ_discrete i r);
  }
    where
      sides : (i : ℕ) → next F T.cell r c i n ≡ T.cell i n
      sides i = column_kept F.ring T.cell (F.inv (T.cell r c)) r c i n (h.zero_value r lr b)

      still : (i : ℕ) → w ≤ changed T.basic r c i → Dec (i ≡ r) → (i ≢ r) × (w ≤ T.basic i)
      still i b (yes e) = absurd (let b' = subst (λ z. w ≤ z) (ap (changed T.basic r c) e
          ∙ changed-same T.basic r c) b in omega arith)
      still i b (no e) = (e, subst (λ z. w ≤ z) (changed-other T.basic r c i e) b)

      rows : (i j : ℕ) → i < suc r → w ≤ changed T.basic r c i → j < w → Dec (i ≡ r) →
          next F T.cell r c i j ≡ F.of (pos 0)
      rows i j l b lj e = let k = still i b e in let d = k.0 in
          row_kept T r c i j d (h.driven i c (omega arith) k.1 lc) ∙ h.driven i j (omega arith) k.1 lj

  -- a row of phase 2 that is left as it is
  pub second_skips : (T : Tabled F.C) (r : ℕ) → ((j : ℕ) → w ≤ T.basic r → j < w → T.cell r j ≡ F.of (pos 0)) →
      Second r T → Second (suc r) T
  second_skips T r z h = record {
    tableau = h.tableau;
    zero_value = h.zero_value;
    driven = λ i j l b lj. go i j l b lj (ℕ_discrete i r);
  }
    where
      go : (i j : ℕ) → i < suc r → w ≤ T.basic i → j < w → Dec (i ≡ r) → T.cell i j ≡ F.of (pos 0)
      go i j l b lj (yes e) = ap (λ k. T.cell k j) e ∙ z j (subst (λ k. w ≤ T.basic k) e b) lj
      go i j l b lj (no d) = h.driven i j (omega arith) b lj

  -- phase 3 begins with the table at the end of phase 2, its objective row set to the factor's
  pub third_begins : (T : Tabled F.C) → S.contacts < w → Second m T → Third (set_factor_objective F S T)
  third_begins T lg h = record {
    tableau = go (least m (λ r. eqb (T.basic r) g)) refl;
    zero_value = λ i l b. ap (λ (f : ℕ → F.C). f n) (changed-other T.cell m _ i (λ e. omega arith))
        ∙ h.zero_value i l b;
    zero_row = λ i j l b lj. ap (λ (f : ℕ → F.C). f j) (changed-other T.cell m _ i (λ e. omega arith))
        ∙ h.driven i j l b lj;
  }
    where
      g : ℕ
      g = S.contacts

      go : (o : Option ℕ) → least m (λ r. eqb (T.basic r) S.contacts) ≡ o →
          Tableau F m n A (own_third F S.contacts) (with_objective F S T (factor_objective F S T o)).cell
          T.basic
      go None e = objective_changed (none F.ring) (own_third F S.contacts) _ T h.tableau
          (record {
            multiplier = λ k. F.of (pos 0);
            cell = λ j. sym (ap (F.add (own_third F S.contacts j))
                (sum_zero F.ring m _ (λ k l. F.zero_mul (A k j))) ∙ add-zero F.ring _);
          })
          (λ s l. at-other F.ring S.contacts (T.basic s) (F.of (negsuc 0))
          (eqb-false _ _ (least-none m (λ r. eqb (T.basic r) S.contacts) e s l)))
      go (Some r) e = objective_changed (none F.ring) (own_third F S.contacts) _ T h.tableau
          (record {
            multiplier = (h.tableau.row r l.below).multiplier;
            cell = λ j. each j (ℕ_discrete j S.contacts);
          })
          (λ s k. out s k (ℕ_discrete (T.basic s) S.contacts))
        where
          l : IsLeast m (λ r. eqb (T.basic r) S.contacts) r
          l = least-some m (λ r. eqb (T.basic r) S.contacts) r e

          there : T.basic r ≡ S.contacts
          there = eqb-true _ _ l.has

          one : T.cell r S.contacts ≡ F.of (pos 1)
          one = ap (T.cell r) (sym there) ∙ h.tableau.unit r r l.below l.below ∙ at-same F.ring r (F.of (pos 1))

          each : (j : ℕ) → Dec (j ≡ S.contacts) → factor_objective F S T (Some r) j
              ≡ F.add (own_third F S.contacts j)
              (sum F.ring m (λ k. F.mul ((h.tableau.row r l.below).multiplier k) (A k j)))
          each j (yes p) = ap (changed (T.cell r) S.contacts (F.of (pos 0))) p
              ∙ changed-same (T.cell r) S.contacts (F.of (pos 0))
              ∙ ring1 F.ring (λ y. (num (pos 0), num (negsuc 0) ⊕ num (pos 1))) refl (F.of (pos 0))
              ∙ (λ z. F.add ((sym (ap (own_third F S.contacts) p ∙ at-same F.ring S.contacts (F.of (negsuc 0))))
              z) ((sym (ap (T.cell r) p ∙ one) ∙ (h.tableau.row r l.below).cell j ∙ F.zero_add _) z))
          each j (no p) = changed-other (T.cell r) S.contacts (F.of (pos 0)) j p
              ∙ (h.tableau.row r l.below).cell j
              ∙ ap (λ y. F.add y (sum F.ring m (λ k. F.mul ((h.tableau.row r l.below).multiplier k) (A k j))))
              (sym (at-other F.ring S.contacts j (F.of (negsuc 0)) p))

          out : (s : ℕ) → s < m → Dec (T.basic s ≡ S.contacts) → factor_objective F S T (Some r) (T.basic s)
              ≡ F.of (pos 0)
          out s k (yes p) = ap (changed (T.cell r) S.contacts (F.of (pos 0))) p
              ∙ changed-same (T.cell r) S.contacts (F.of (pos 0))
          out s k (no p) = changed-other (T.cell r) S.contacts (F.of (pos 0)) (T.basic s) p
              ∙ h.tableau.unit r s l.below k
              ∙ at-other F.ring s r (F.of (pos 1)) (λ q. p (ap T.basic (sym q) ∙ there))
