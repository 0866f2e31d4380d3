-- Bland's rule: within a phase no set of basic columns recurs.
use Rattle.std.proofs.Common.{◌≡◌, ◌≢◌, refl, sym, ap, subst, ◌∙◌, ℕ, zero, suc, ◌<◌, ◌≤◌, ◌+◌, ◌-◌, true, arith, pos}
use Rattle.std.proofs.Common.{negsuc}
use Rattle.stack_rational.proofs.Common.{ℕ_discrete, dec_le, Exp, num, ◌⊕◌, ◌⊖◌, ◌⊗◌, ring1, ring2, ring3, sum_zero}
use Rattle.stack_rational.proofs.Common.{at-other, at-same, changed-same, changed-other, Ordered, Sign, minus, nought}
use Rattle.stack_rational.proofs.Common.{plus, NonNeg, changed, Tableau, next, nonneg_by, pivoted-other, opposite}
use Rattle.stack_rational.proofs.Common.{product_sign, quotient, nonneg_plus, nonneg_sum, nonneg_add}
use Rattle.stack_algebra.proofs.Ring.{mul-zero, add-zero}
use Rattle.stack_algebra.proofs.Sums.{sum}
use Rattle.stack_algebra.proofs.Pivots.{column_kept}
use Rattle.stack_algebra.proofs.Signs.{nonneg_mul, nonneg_neg-minus, zero_parts, inv-plus}
use Rattle.stack_algebra.proofs.Combinations.{dot_own_cells}
use Rattle.stack_table.specs.Table.{Shape, Tabled, columns, right, pivoted_at}
use Rattle.stack_bland.specs.Choice.{is_negative_sign}
use Rattle.stack_run.proofs.Solutions.{solution, ray_of, on_solution, on_ray, solution_annulled, ray_annulled}
use Rattle.stack_run.proofs.Solutions.{own_on_solution, own_on_ray}
use Rattle.stack_run.proofs.TurnsKeep.{Due}
use Rattle.stack_run.specs.BasicSets.{IsBasic, SameSet}

-- the index of the greatest of the first n numbers
pub record Greatest (n : ℕ) (c : ℕ → ℕ) : Type 0 where
  pub index : ℕ
  pub below : index < n
  pub most : (k : ℕ) → k < n → c k ≤ c index

-- some numbers have a greatest
pub greatest : (n : ℕ) (c : ℕ → ℕ) → 0 < n → Greatest n c
greatest zero c h = absurd (omega arith)
greatest (suc zero) c h = record {
  index = 0;
  below = omega arith;
  most = λ k l. let e : k ≡ 0 = omega arith in omega (arith, ap c e);
}
greatest (suc (suc n)) c h = go (greatest (suc n) c (omega arith))
    (dec_le (c (greatest (suc n) c (omega arith)).index) (c (suc n)))
  where
    go : (g : Greatest (suc n) c) → Dec (c g.index ≤ c (suc n)) → Greatest (suc (suc n)) c
    go g (yes l) = record {
      index = suc n;
      below = omega arith;
      most = λ k m. each k m (ℕ_discrete k (suc n));
    }
      where
        each : (k : ℕ) → k < suc (suc n) → Dec (k ≡ suc n) → c k ≤ c (suc n)
        each k m (yes e) = omega (arith, ap c e)
        each k m (no d) = omega (arith, g.most k (omega arith))
    go g (no l) = record {
      index = g.index;
      below = omega (arith, g.below);
      most = λ k m. each k m (ℕ_discrete k (suc n));
    }
      where
        each : (k : ℕ) → k < suc (suc n) → Dec (k ≡ suc n) → c k ≤ c g.index
        each k m (yes e) = omega (arith, ap c e)
        each k m (no d) = g.most k (omega arith)

module _ (F : Ordered) where
  -- what is 0 times a positive number is 0
  zero_factor : (x y : F.C) → F.sign x ≡ plus → F.mul x y ≡ F.of (pos 0) → y ≡ F.of (pos 0)
  zero_factor x y h e = F.zero_by_sign y (go (F.sign x) h (sym (F.sign-mul x y) ∙ ap F.sign e ∙ F.sign-zero))
    where
      go : (s : Sign) → s ≡ plus → product_sign s (F.sign y) ≡ nought → F.sign y ≡ nought
      go minus h e = absurd cc
      go nought h e = absurd cc
      go plus h e = e

  one_not-zero : F.of (pos 1) ≡ F.of (pos 0) → ⊥
  one_not-zero e = let a = F.sign-one in let b = F.sign-zero in let c = ap F.sign e in cc

module _ (F : Ordered) (m n : ℕ) (A : ℕ → ℕ → F.C) (own : ℕ → F.C) where
  -- two tables of one phase: the objective cells of the first from those of the second
  pub objective_between : (cell cell' : ℕ → ℕ → F.C) (basic basic' : ℕ → ℕ) →
      Tableau F m n A own cell basic → Tableau F m n A own cell' basic' → (s : ℕ) → s < n →
      cell m s ≡ F.add (cell' m s) (sum F.ring m (λ i. F.mul (cell' m (basic i)) (F.neg (cell i s))))
  objective_between cell cell' basic basic' t t' s l = sym (own_on_ray F m n A own cell basic t s l)
      ∙ sym (dot_own_cells F.ring m (suc n) A own (cell' m) (ray_of F m n cell basic s) t'.objective
      (ray_annulled F m n A own cell basic t s l))
      ∙ on_ray F m n A own cell basic t s l (cell' m)
      ∙ ap (λ z. F.add z (sum F.ring m (λ i. F.mul (cell' m (basic i)) (F.neg (cell i s)))))
      (ring1 F.ring (λ x. (x ⊗ num (pos 1), x)) refl (cell' m s))

  -- a basic column has the objective cell 0
  unit_in : (cell : ℕ → ℕ → F.C) (basic : ℕ → ℕ) → Tableau F m n A own cell basic → (j : ℕ) →
      IsBasic m basic j → cell m j ≡ F.of (pos 0)
  unit_in cell basic t j h = ap (cell m) (sym h.there) ∙ t.objective_unit h.row h.below

  -- with the same set of basic columns their right sides are the same
  pub same_value : (cell cell' : ℕ → ℕ → F.C) (basic basic' : ℕ → ℕ) → Tableau F m n A own cell basic →
      Tableau F m n A own cell' basic' → SameSet m basic basic' → cell m n ≡ cell' m n
  same_value cell cell' basic basic' t t' h = ring1 F.ring (λ y. (y, Exp.neg (Exp.neg y))) refl (cell m n)
      ∙ ap F.neg (sym (own_on_solution F m n A own cell basic t)
      ∙ sym (dot_own_cells F.ring m (suc n) A own (cell' m) (solution F m n cell basic) t'.objective
      (solution_annulled F m n A own cell basic t))
      ∙ on_solution F m n A own cell basic t (cell' m)
      ∙ ap (λ z. F.add z (F.mul (cell' m n) (F.of (negsuc 0))))
      (sum_zero F.ring m _ (λ i k. ap (λ z. F.mul z (cell i n))
      (unit_in cell' basic' t' (basic i) ((h (basic i)).0 (record { row = i; below = k; there = refl })))
      ∙ F.zero_mul _)))
      ∙ ring1 F.ring (λ y. (Exp.neg (num (pos 0) ⊕ y ⊗ num (negsuc 0)), y)) refl (cell' m n)

  -- no column is basic in two rows
  pub distinct : (cell : ℕ → ℕ → F.C) (basic : ℕ → ℕ) → Tableau F m n A own cell basic → (i k : ℕ) → i < m →
      k < m → basic i ≡ basic k → i ≡ k
  distinct cell basic t i k li lk e = elim (ℕ_discrete i k) [
    | yes d ↦ d
    | no d ↦ absurd (one_not-zero F (sym (at-same F.ring i (F.of (pos 1))) ∙ sym (t.unit i i li li)
        ∙ ap (cell i) e ∙ t.unit i k li lk ∙ at-other F.ring k i (F.of (pos 1)) d))
  ]

-- a sequence of tables of one phase, each from the one before it by its due pivot
module _ (F : Ordered) (S : Shape) (A : ℕ → ℕ → F.C) (own : ℕ → F.C) (among : ℕ) (T : ℕ → Tabled F.C)
    (r c : ℕ → ℕ) (L : ℕ) where
  abbrev m : ℕ
  m = S.rows

  abbrev n : ℕ
  n = columns S

  -- as far as L pivots
  pub record Turns : Type 0 where
    pub among_columns : among ≤ n
    pub tableau : (k : ℕ) → k ≤ L → Tableau F m n A own (T k).cell (T k).basic
    pub due : (k : ℕ) → k < L → Due F S (T k) among (r k) (c k)
    pub step : (k : ℕ) → k < L → T (suc k) ≡ pivoted_at F S (T k) (r k) (c k)

  module _ (h : Turns) where
    -- the table after a pivot
    basic_after : (k i : ℕ) → k < L → (T (suc k)).basic i ≡ changed (T k).basic (r k) (c k) i
    basic_after k i l = ap (λ (U : Tabled F.C). U.basic i) (h.step k l)

    cell_after : (k i j : ℕ) → k < L → (T (suc k)).cell i j ≡ next F (T k).cell (r k) (c k) i j
    cell_after k i j l = ap (λ (U : Tabled F.C). U.cell i j) (h.step k l)

    -- a column is basic in table k
    abbrev Basic : ℕ → ℕ → Type 0
    Basic k j = IsBasic m (T k).basic j

    -- the entering column is basic after the pivot
    entered : (k : ℕ) → k < L → Basic (suc k) (c k)
    entered k l = record {
      row = r k;
      below = (h.due k l).leaves.below;
      there = basic_after k (r k) l ∙ changed-same (T k).basic (r k) (c k);
    }

    -- a basic column stays, unless it leaves
    stays_in_once : (k j : ℕ) → k < L → (T k).basic (r k) ≢ j → Basic k j → Basic (suc k) j
    stays_in_once k j l d b = record {
      row = b.row;
      below = b.below;
      there = basic_after k b.row l ∙ changed-other (T k).basic (r k) (c k) b.row
          (λ e. d (ap (T k).basic (sym e) ∙ b.there)) ∙ b.there;
    }

    -- a basic column was there before, unless it entered
    came_in_once : (k j : ℕ) → k < L → c k ≢ j → Basic (suc k) j → Basic k j
    came_in_once k j l d b = go (ℕ_discrete b.row (r k))
      where
        go : Dec (b.row ≡ r k) → Basic k j
        go (yes e) = absurd (d (sym (changed-same (T k).basic (r k) (c k))
            ∙ ap (changed (T k).basic (r k) (c k)) (sym e) ∙ sym (basic_after k b.row l) ∙ b.there))
        go (no e) = record {
          row = b.row;
          below = b.below;
          there = sym (changed-other (T k).basic (r k) (c k) b.row e) ∙ sym (basic_after k b.row l) ∙ b.there;
        }

    -- a column that does not leave stays; one that does not enter was there before
    stays_in : (j : ℕ) → ((k : ℕ) → k < L → (T k).basic (r k) ≢ j) → (a d : ℕ) → a + d ≤ L → Basic a j →
        Basic (a + d) j
    stays_in j f a zero l b = let e : a ≡ a + zero = omega arith in subst (λ k. Basic k j) e b
    stays_in j f a (suc d) l b = let e : suc (a + d) ≡ a + suc d = omega arith in
        subst (λ k. Basic k j) e (stays_in_once (a + d) j (omega arith) (f (a + d) (omega arith))
        (stays_in j f a d (omega arith) b))

    was_in : (j : ℕ) → ((k : ℕ) → k < L → c k ≢ j) → (a d : ℕ) → a + d ≤ L → Basic (a + d) j → Basic a j
    was_in j f a zero l b = let e : a + zero ≡ a = omega arith in subst (λ k. Basic k j) e b
    was_in j f a (suc d) l b = let e : a + suc d ≡ suc (a + d) = omega arith in
        was_in j f a d (omega arith) (came_in_once (a + d) j (omega arith) (f (a + d) (omega arith))
        (subst (λ k. Basic k j) e b))

    -- the entering column is not basic
    not_basic-entering : (k : ℕ) → k < L → Basic k (c k) → ⊥
    not_basic-entering k l b = let e = unit_in F m n A own (T k).cell (T k).basic (h.tableau k (omega arith))
        (c k) b in
        let z = ap is_negative_sign (ap F.sign e ∙ F.sign-zero) in let q = (h.due k l).enters.has in cc

    -- what the pivot of turn k adds to the objective's right side
    abbrev gain : ℕ → F.C
    gain k = F.mul (F.neg ((T k).cell m (c k))) (quotient F (right F S (T k) (r k)) ((T k).cell (r k) (c k)))

    -- the objective's right side grows by the gain of each pivot
    value_after : (k : ℕ) → k < L → (T (suc k)).cell m n ≡ F.add ((T k).cell m n) (gain k)
    value_after k l = cell_after k m n l
        ∙ ap (λ (f : ℕ → F.C). f n) (pivoted-other F.ring (T k).cell (F.inv ((T k).cell (r k) (c k))) (r k)
        (c k) m (λ e. let b = (h.due k l).leaves.below in omega arith))
        ∙ ring3 F.ring (λ v f s. (v ⊖ f ⊗ s, v ⊕ Exp.neg f ⊗ s)) refl ((T k).cell m n) ((T k).cell m (c k))
        (quotient F (right F S (T k) (r k)) ((T k).cell (r k) (c k)))

    value_is : (k : ℕ) → k ≤ L → (T k).cell m n ≡ F.add ((T 0).cell m n) (sum F.ring k gain)
    value_is zero l = sym (add-zero F.ring _)
    value_is (suc k) l = value_after k l ∙ ap (λ z. F.add z (gain k)) (value_is k (omega arith))
        ∙ F.add_assoc _ _ _

    -- the entering column has a negative objective cell
    entering-minus : (k : ℕ) → k < L → F.sign ((T k).cell m (c k)) ≡ minus
    entering-minus k l = go (F.sign ((T k).cell m (c k))) (h.due k l).enters.has
      where
        go : (s : Sign) → is_negative_sign s ≡ true → s ≡ minus
        go minus e = refl
        go nought e = absurd cc
        go plus e = absurd cc

    pivot_inv-plus : (k : ℕ) → k < L → F.sign (F.inv ((T k).cell (r k) (c k))) ≡ plus
    pivot_inv-plus k l = inv-plus F _ (h.due k l).leaves.positive

    -- no gain is negative
    gain-nonneg : (k : ℕ) → k < L → NonNeg F (gain k)
    gain-nonneg k l = nonneg_mul F _ _ (nonneg_neg-minus F _ (entering-minus k l))
        (nonneg_mul F _ _ (nonneg_plus F _ (pivot_inv-plus k l))
        ((h.tableau k (omega arith)).feasible (r k) (h.due k l).leaves.below))

    -- the set of basic columns recurs
    module _ (some : 0 < L) (same : SameSet m (T 0).basic (T L).basic) where
      -- where the set recurs, no pivot gains anything
      no_gain : (k : ℕ) → k < L → gain k ≡ F.of (pos 0)
      no_gain = zero_parts F L gain gain-nonneg
          (ring2 F.ring (λ x s. (s, (x ⊕ s) ⊖ x)) refl ((T 0).cell m n) (sum F.ring L gain)
          ∙ ap (λ z. F.add z (F.neg ((T 0).cell m n))) (sym (value_is L (omega arith))
          ∙ sym (same_value F m n A own (T 0).cell (T L).cell (T 0).basic (T L).basic
          (h.tableau 0 (omega arith)) (h.tableau L (omega arith)) same))
          ∙ ring1 F.ring (λ x. (x ⊖ x, num (pos 0))) refl ((T 0).cell m n))

      -- the ratio of each pivot is 0, and so is the right side of its row
      zero_ratio : (k : ℕ) → k < L → quotient F (right F S (T k) (r k)) ((T k).cell (r k) (c k))
          ≡ F.of (pos 0)
      zero_ratio k l = zero_factor F (F.neg ((T k).cell m (c k))) _
          (F.sign-neg _ ∙ ap opposite (entering-minus k l)) (no_gain k l)

      zero_right : (k : ℕ) → k < L → (T k).cell (r k) n ≡ F.of (pos 0)
      zero_right k l = zero_factor F (F.inv ((T k).cell (r k) (c k))) _ (pivot_inv-plus k l) (zero_ratio k l)

      -- no right side changes
      right_is : (k i : ℕ) → k ≤ L → (T k).cell i n ≡ (T 0).cell i n
      right_is zero i l = refl
      right_is (suc k) i l = cell_after k i n l ∙ column_kept F.ring (T k).cell
          (F.inv ((T k).cell (r k) (c k))) (r k) (c k) i n (zero_right k l) ∙ right_is k i (omega arith)

      -- a row whose right side is not 0 keeps its basic column
      basic_is : (i : ℕ) → ((T 0).cell i n ≡ F.of (pos 0) → ⊥) → (k : ℕ) → k ≤ L →
          (T k).basic i ≡ (T 0).basic i
      basic_is i d zero l = refl
      basic_is i d (suc k) l = basic_after k i l ∙ changed-other (T k).basic (r k) (c k) i
          (λ e. d (sym (right_is k i (omega arith)) ∙ ap (λ z. (T k).cell z n) e ∙ zero_right k l))
          ∙ basic_is i d k (omega arith)

      -- a row whose basic column of one turn isn't basic in another has the right side 0
      zero_there : (p q i : ℕ) → p < L → q < L → i < m → (Basic q ((T p).basic i) → ⊥) →
          (T p).cell i n ≡ F.of (pos 0)
      zero_there p q i lp lq li out = right_is p i (omega arith) ∙ go (F.sign ((T 0).cell i n)) refl
        where
          other : ((T 0).cell i n ≡ F.of (pos 0) → ⊥) → ⊥
          other d = out (record {
            row = i;
            below = li;
            there = basic_is i d q (omega arith)
                ∙ sym (basic_is i d p (omega arith));
          })

          go : (s : Sign) → F.sign ((T 0).cell i n) ≡ s → (T 0).cell i n ≡ F.of (pos 0)
          go nought e = F.zero_by_sign _ e
          go minus e = absurd (other (λ z. let f = ap F.sign z ∙ F.sign-zero in cc))
          go plus e = absurd (other (λ z. let f = ap F.sign z ∙ F.sign-zero in cc))

      -- t is the greatest column that enters, and g tells the turn in which it enters
      g : Greatest L c
      g = greatest L c some

      -- a column above t has never moved
      above_stays : (j : ℕ) → c g.index < j → (p q : ℕ) → p < L → q < L → Basic p j → Basic q j
      above_stays j a p q lp lq b = go (dec_le q p)
        where
          not_entering : (k : ℕ) → k < L → c k ≢ j
          not_entering k l e = omega (arith, g.most k l, a)

          back_to : (k d : ℕ) → k + d ≤ L → Basic (k + d) j → Basic k j
          back_to = was_in j not_entering

          go : Dec (q ≤ p) → Basic q j
          go (yes l) = let e : p ≡ q + (p - q) = omega arith in
              back_to q (p - q) (omega arith) (subst (λ k. Basic k j) e b)
          go (no l) = let at_start : Basic 0 j = back_to 0 p (omega arith) (subst (λ k. Basic k j) start b) in
              let e : L ≡ q + (L - q) = omega arith in
              back_to q (L - q) (omega arith) (subst (λ k. Basic k j) e ((same j).0 at_start))
            where
              start : p ≡ 0 + p
              start = omega arith

      -- t leaves in the turn p: that cannot be
      module _ (p : ℕ) (lp : p < L) (leaves_t : (T p).basic (r p) ≡ c g.index) where
        -- the tables and the pivots of both turns
        tp : Tableau F m n A own (T p).cell (T p).basic
        tp = h.tableau p (omega arith)

        tq : Tableau F m n A own (T g.index).cell (T g.index).basic
        tq = h.tableau g.index (omega (arith, g.below))

        dp : Due F S (T p) among (r p) (c p)
        dp = h.due p lp

        dq : Due F S (T g.index) among (r g.index) (c g.index)
        dq = h.due g.index g.below

        -- s, the column that enters in the turn p, is below t
        s_below : c p < c g.index
        s_below = elim (ℕ_discrete (c p) (c g.index)) [
          | yes e ↦ absurd (not_basic-entering p lp
              (record { row = r p; below = dp.leaves.below; there = leaves_t ∙ sym e }))
          | no d ↦ let l = g.most p lp in omega arith
        ]

        -- below t no objective cell of the turn q is negative
        below-nonneg : (j : ℕ) → j < c g.index → NonNeg F ((T g.index).cell m j)
        below-nonneg j l = record {
          fact = λ e. let z = ap is_negative_sign e in let y = dq.enters.none_before j l in cc;
        }

        -- a column whose objective cell is not 0 in the turn q is not basic there
        not_basic : (j : ℕ) → F.sign ((T g.index).cell m j) ≢ nought → Basic g.index j → ⊥
        not_basic j d b = d (ap F.sign (unit_in F m n A own (T g.index).cell (T g.index).basic tq j b)
            ∙ F.sign-zero)

        -- a basic column with such a cell is t or below
        at_most : (i : ℕ) → i < m → F.sign ((T g.index).cell m ((T p).basic i)) ≢ nought →
            (T p).basic i ≤ c g.index
        at_most i l d = elim (dec_le ((T p).basic i) (c g.index)) [
          | yes k ↦ k
          | no k ↦ absurd (not_basic ((T p).basic i) d
              (above_stays ((T p).basic i) (omega arith) p g.index lp g.below
              (record { row = i; below = l; there = refl })))
        ]

        -- a row whose product is positive would have left in place of t
        tie : (i : ℕ) → i < m → (T p).basic i < c g.index →
            F.sign ((T g.index).cell m ((T p).basic i)) ≡ plus → F.sign ((T p).cell i (c p)) ≡ plus → ⊥
        tie i l lt e f = let k = (dp.leaves.no_worse i l f).tied (ratio_i ∙ sym (zero_ratio p lp)) in
            omega (arith, k, leaves_t, lt)
          where
            zero_i : (T p).cell i n ≡ F.of (pos 0)
            zero_i = zero_there p g.index i lp g.below l (not_basic ((T p).basic i) (λ z. cc))

            ratio_i : quotient F (right F S (T p) i) ((T p).cell i (c p)) ≡ F.of (pos 0)
            ratio_i = ap (F.mul (F.inv ((T p).cell i (c p)))) zero_i ∙ mul-zero F.ring _

        -- no product is negative
        term-nonneg : (i : ℕ) → i < m → NonNeg F (F.mul ((T g.index).cell m ((T p).basic i))
            (F.neg ((T p).cell i (c p))))
        term-nonneg i l = record {
          fact = λ e. go (F.sign ((T g.index).cell m ((T p).basic i))) (F.sign ((T p).cell i (c p))) refl refl
              (sym (F.sign-mul _ _ ∙ ap (product_sign (F.sign ((T g.index).cell m ((T p).basic i))))
              (F.sign-neg ((T p).cell i (c p)))) ∙ e);
        }
          where
            equal_or_less : (T p).basic i ≤ c g.index → (((T p).basic i ≡ c g.index) → ⊥) →
                (T p).basic i < c g.index
            equal_or_less l d = omega arith

            at_t : (T p).basic i ≡ c g.index → i ≡ r p
            at_t e = distinct F m n A own (T p).cell (T p).basic tp i (r p) l dp.leaves.below
                (e ∙ sym leaves_t)

            go : (a d : Sign) → F.sign ((T g.index).cell m ((T p).basic i)) ≡ a →
                F.sign ((T p).cell i (c p)) ≡ d → product_sign a (opposite d) ≢ minus
            go nought d e f z = cc
            go plus minus e f z = cc
            go plus nought e f z = cc
            go plus plus e f z = tie i l (equal_or_less (at_most i l (λ y. cc))
                (λ y. let k = sym e ∙ ap (λ j. F.sign ((T g.index).cell m j)) y
                ∙ entering-minus g.index g.below in cc)) e f
            go minus plus e f z = cc
            go minus nought e f z = cc
            go minus minus e f z = finish (ℕ_discrete ((T p).basic i) (c g.index))
              where
                finish : Dec ((T p).basic i ≡ c g.index) → ⊥
                finish (yes y) = let k = sym f ∙ ap (λ j. F.sign ((T p).cell j (c p))) (at_t y)
                    ∙ dp.leaves.positive in cc
                finish (no y) = (below-nonneg ((T p).basic i)
                    (equal_or_less (at_most i l (λ x. cc)) y)).fact e

        -- so the objective cell of s in the turn p isn't negative, but it is
        impossible : ⊥
        impossible = (nonneg_by F _ _ (sym (objective_between F m n A own (T p).cell (T g.index).cell
            (T p).basic (T g.index).basic tp tq (c p) (omega (arith, dp.enters.below, h.among_columns))))
            (nonneg_add F _ _ (below-nonneg (c p) s_below) (nonneg_sum F m _ term-nonneg))).fact
            (entering-minus p lp)

      -- so t never leaves, and stays basic: it can't enter
      pub cannot_recur : ⊥
      cannot_recur = not_basic-entering g.index g.below
          (subst (λ k. Basic k (c g.index)) start (stays_in (c g.index) not_leaving 0 g.index
          (omega (arith, g.below)) at_start))
        where
          not_leaving : (k : ℕ) → k < L → (T k).basic (r k) ≢ c g.index
          not_leaving k l e = impossible k l e

          at_end : Basic L (c g.index)
          at_end = let b = g.below in let e : suc g.index + (L - suc g.index) ≡ L = omega arith in
              subst (λ k. Basic k (c g.index)) e (stays_in (c g.index) not_leaving (suc g.index)
              (L - suc g.index) (omega arith) (entered g.index g.below))

          at_start : Basic 0 (c g.index)
          at_start = (same (c g.index)).1 at_end

          start : 0 + g.index ≡ g.index
          start = omega arith
