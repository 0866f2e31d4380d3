-- The problem of a scene by pairs of columns and threes of rows: what balances its rows solves the equations of
-- the free bodies, and multipliers of its rows are moves, whose products are the powers of edges and loads.
use Rattle.std.proofs.Common.{◌≡◌, refl, sym, ap, subst, ◌∙◌, ℕ, ◌+◌, ◌*◌, ◌/◌, ◌%◌, ◌<◌, true, false, cond, eqb, ltb}
use Rattle.std.proofs.Common.{arith, lt-ltb, le-ltb, eq-eqb, ℤ, pos, ◌+ℤ◌, ◌*ℤ◌, neg_ℤ}
use Rattle.stack_rational.proofs.Common.{◌≼◌, expand, sums, integers, sum_same, sum_to}
use Rattle.stack_algebra.proofs.Sums.{sum_plus, sum_neg}
use Rattle.stack_algebra.proofs.Indices.{pair_first, pair_second, three_first, three_second, three_third, sum_pairs}
use Rattle.stack_algebra.proofs.Indices.{sum_threes}
use Rattle.stack_equilibrium.proofs.Common.{Move, Scene, Wrench, move_of_triple, power_of}
use Rattle.stack_equilibrium.specs.declared.types.Question.{Question}
use Rattle.stack_equilibrium.specs.declared.types.Question.TheVariants.{Dead, Live}
use Rattle.stack_posing.specs.FreeBodies.{free_at, free_bodies}
use Rattle.stack_posing.specs.Edges.{Amounts, edge_on, edges_sum}
use Rattle.stack_posing.specs.Equations.{IsSolution}
use Rattle.stack_posing.specs.MovesByNumber.{power_by, AreUnopposed}
use Rattle.stack_posing.specs.ByNumber.{dead_on, live_on}
use Rattle.stack_posing.specs.Posed.{share, row_share, column_on, no_wrench, factor_on, factors_of, posed}
use Rattle.stack_extract.specs.WholeBalance.{AreAmounts, whole_column_work, whole_load_work, AreUnresisted}
use Rattle.stack_extract.specs.Certified.{triple_at}

-- amounts of columns by bearings
abbrev pub amounts : (ℕ → ℤ) → Amounts
amounts x = record { plus = λ k. x (2 * k); minus = λ k. x (2 * k + 1) }

-- multipliers of rows by free bodies
abbrev pub moves : (ℕ → ℤ) → ℕ → Move
moves y b = move_of_triple (triple_at y b)

-- the amount of the factor's column, where there is one
abbrev pub factor_in : Question → Scene → (ℕ → ℤ) → ℤ
factor_in Dead s x = pos 0
factor_in Live s x = x (2 * s.bearings)

module _ (q : Question) (s : Scene) where
  -- the columns of a bearing and of the factor
  column_at : (j k t : ℕ) → j < 2 * s.bearings → j / 2 ≡ k → j % 2 ≡ t → (i : ℕ) →
      column_on q s j i ≡ edge_on s (eqb t 0) k i
  column_at j k t l e f i = ap (λ b. cond b (edge_on s (eqb (j % 2) 0) (j / 2) i)
      (cond (eqb j (2 * s.bearings)) (factor_on q s i) no_wrench)) (lt-ltb j (2 * s.bearings) l)
      ∙ (λ n. edge_on s (eqb (f n) 0) (e n) i)

  first_edge : (k : ℕ) → k < s.bearings → (i : ℕ) → column_on q s (2 * k) i ≡ edge_on s true k i
  first_edge k l = column_at (2 * k) k 0 (omega (arith, l)) (pair_first k).0 (pair_first k).1

  second_edge : (k : ℕ) → k < s.bearings → (i : ℕ) → column_on q s (2 * k + 1) i ≡ edge_on s false k i
  second_edge k l = column_at (2 * k + 1) k 1 (omega (arith, l)) (pair_second k).0 (pair_second k).1

  factor_column : (i : ℕ) → column_on q s (2 * s.bearings) i ≡ factor_on q s i
  factor_column i = (λ n. cond (le-ltb (2 * s.bearings) (2 * s.bearings) (omega arith) n)
      (edge_on s (eqb ((2 * s.bearings) % 2) 0) ((2 * s.bearings) / 2) i)
      (cond (eq-eqb (2 * s.bearings) (2 * s.bearings) refl n) (factor_on q s i) no_wrench))

  -- row a of free body b, of a function of a wrench on each body
  row_at : (g : ℤ → ℤ) (w : ℕ → Wrench) (i b a : ℕ) → i < 3 * free_bodies s → i / 3 ≡ b → i % 3 ≡ a →
      cond (ltb i (3 * free_bodies s)) (g (row_share s w i)) (pos 0) ≡ g (share a (w (free_at s b)))
  row_at g w i b a l e f = ap (λ t. cond t (g (row_share s w i)) (pos 0)) (lt-ltb i (3 * free_bodies s) l)
      ∙ (λ n. g (share (f n) (w (free_at s (e n)))))

  module _ (x : ℕ → ℤ) where
    -- the sum of a row over the columns of bearings, and over the factor's
    edge_columns : (a i : ℕ) → sum_to (2 * s.bearings) (λ j. share a (column_on q s j i) *ℤ x j)
        ≡ edges_sum (share a) s (amounts x) i
    edge_columns a i = sum_pairs s.bearings (λ j. share a (column_on q s j i) *ℤ x j)
        ∙ sum_same integers s.bearings _ _ (λ k l. (λ n. share a (first_edge k l i n) *ℤ x (2 * k)
        +ℤ share a (second_edge k l i n) *ℤ x (2 * k + 1)) ∙ turned (share a (edge_on s true k i)) (x (2 * k))
        (share a (edge_on s false k i)) (x (2 * k + 1)))
      where
        turned : (p x r y : ℤ) → p *ℤ x +ℤ r *ℤ y ≡ x *ℤ p +ℤ y *ℤ r
        turned p x r y = simp expand (omega (arith, sums))

-- the sum of a row over the factor's column, where there is one
factor_columns : (q : Question) (s : Scene) (x : ℕ → ℤ) (a i : ℕ) →
    sum_to (factors_of q) (λ k. share a (column_on q s (2 * s.bearings + k) i) *ℤ x (2 * s.bearings + k))
    ≡ factor_in q s x *ℤ share a (live_on s i)
factor_columns Dead s x a i = none (share a (live_on s i))
  where
    none : (v : ℤ) → pos 0 ≡ pos 0 *ℤ v
    none v = simp expand (omega (arith, sums))
factor_columns Live s x a i = (λ n. pos 0 +ℤ share a (column_on Live s (last n) i) *ℤ x (last n))
    ∙ (λ n. pos 0 +ℤ share a (factor_column Live s i n) *ℤ x (2 * s.bearings))
    ∙ turned (share a (live_on s i)) (x (2 * s.bearings))
  where
    last : 2 * s.bearings + 0 ≡ 2 * s.bearings
    last = omega arith

    turned : (v x : ℤ) → pos 0 +ℤ v *ℤ x ≡ x *ℤ v
    turned v x = simp expand (omega (arith, sums))

module _ (q : Question) (s : Scene) where
  -- what balances the rows solves the equations
  module _ (x : ℕ → ℤ) (scale : ℤ) (h : AreAmounts (posed q s) x scale) where
    solved : (i b a : ℕ) → i < 3 * free_bodies s → i / 3 ≡ b → i % 3 ≡ a →
        edges_sum (share a) s (amounts x) (free_at s b) +ℤ scale *ℤ share a (dead_on s (free_at s b))
        +ℤ factor_in q s x *ℤ share a (live_on s (free_at s b)) ≡ pos 0
    solved i b a l e f = closed (edges_sum (share a) s (amounts x) at)
        (factor_in q s x *ℤ share a (live_on s at)) scale (share a (dead_on s at))
        ((λ n. sym (edge_columns q s x a at) n +ℤ sym (factor_columns q s x a at) n)
        ∙ sym (sum_plus integers (2 * s.bearings) (factors_of q) (λ j. share a (column_on q s j at) *ℤ x j))
        ∙ sym (sum_same integers (2 * s.bearings + factors_of q) _ _
        (λ j k. ap (λ z. z *ℤ x j) (row_at q s (λ z. z) (column_on q s j) i b a l e f)))
        ∙ h.sums i l ∙ ap (λ z. scale *ℤ z) (row_at q s neg_ℤ (dead_on s) i b a l e f))
      where
        at : ℕ
        at = free_at s b

        closed : (t u c d : ℤ) → t +ℤ u ≡ c *ℤ neg_ℤ d → t +ℤ c *ℤ d +ℤ u ≡ pos 0
        closed t u c d e = omega (arith, sums, simp expand at e)

    pub are_solution : IsSolution s scale (factor_in q s x) (amounts x)
    are_solution = record {
      pushes = record {
        plus = λ k l. h.parts (2 * k) (omega (arith, l));
        minus = λ k l. h.parts (2 * k + 1) (omega (arith, l));
      };
      equations = λ b l. record {
        along_x = solved (3 * b) b 0 (omega (arith, l)) (three_first b).0 (three_first b).1;
        along_y = solved (3 * b + 1) b 1 (omega (arith, l)) (three_second b).0 (three_second b).1;
        about = solved (3 * b + 2) b 2 (omega (arith, l)) (three_third b).0 (three_third b).1;
      };
    }

  module _ (y : ℕ → ℤ) where
    -- the rows of a wrench on each body, times their multipliers
    rows_of : (g : ℤ → ℤ) (w : ℕ → Wrench) →
        sum_to (3 * free_bodies s) (λ k. y k *ℤ cond (ltb k (3 * free_bodies s)) (g (row_share s w k)) (pos 0))
        ≡ sum_to (free_bodies s) (λ b. y (3 * b) *ℤ g (w (free_at s b)).fx
        +ℤ y (3 * b + 1) *ℤ g (w (free_at s b)).fy +ℤ y (3 * b + 2) *ℤ g (w (free_at s b)).m)
    rows_of g w = sum_threes (free_bodies s)
        (λ k. y k *ℤ cond (ltb k (3 * free_bodies s)) (g (row_share s w k)) (pos 0))
        ∙ sum_same integers (free_bodies s) _ _ (λ b l. λ n.
        y (3 * b) *ℤ row_at q s g w (3 * b) b 0 (omega (arith, l)) (three_first b).0 (three_first b).1 n
        +ℤ y (3 * b + 1)
        *ℤ row_at q s g w (3 * b + 1) b 1 (omega (arith, l)) (three_second b).0 (three_second b).1 n
        +ℤ y (3 * b + 2)
        *ℤ row_at q s g w (3 * b + 2) b 2 (omega (arith, l)) (three_third b).0 (three_third b).1 n)

    -- a column times the multipliers is the power of its wrench on each body
    column_is : (j : ℕ) → whole_column_work (posed q s) y j ≡ power_by s (moves y) (column_on q s j)
    column_is j = rows_of (λ z. z) (column_on q s j)

    -- the right side, and the factor's column
    pub load_is : whole_load_work (posed q s) y ≡ neg_ℤ (power_by s (moves y) (dead_on s))
    load_is = rows_of neg_ℤ (dead_on s)
        ∙ sum_same integers (free_bodies s) _ _ (λ b l. negated (y (3 * b)) (y (3 * b + 1)) (y (3 * b + 2))
        (dead_on s (free_at s b)).fx (dead_on s (free_at s b)).fy (dead_on s (free_at s b)).m)
        ∙ sum_neg integers (free_bodies s) (λ b. power_of (dead_on s (free_at s b)) (moves y b))
      where
        negated : (u v r x y m : ℤ) →
            u *ℤ neg_ℤ x +ℤ v *ℤ neg_ℤ y +ℤ r *ℤ neg_ℤ m ≡ neg_ℤ (u *ℤ x +ℤ v *ℤ y +ℤ r *ℤ m)
        negated u v r x y m = simp expand (omega (arith, sums))

    pub factor_work : whole_column_work (posed q s) y (2 * s.bearings) ≡ power_by s (moves y) (factor_on q s)
    factor_work = column_is (2 * s.bearings) ∙ (λ n. power_by s (moves y) (λ i. factor_column q s i n))

    -- no edge opposes the moves
    pub are_unopposed : AreUnresisted (posed q s) y → AreUnopposed s (moves y)
    are_unopposed h k l true = subst (λ z. pos 0 ≼ z) (column_is (2 * k)
        ∙ (λ n. power_by s (moves y) (λ i. first_edge q s k l i n))) (h (2 * k) (omega (arith, l)))
    are_unopposed h k l false = subst (λ z. pos 0 ≼ z) (column_is (2 * k + 1)
        ∙ (λ n. power_by s (moves y) (λ i. second_edge q s k l i n))) (h (2 * k + 1) (omega (arith, l)))
