-- The ends of the written run of a problem give what they should, in the problem's own rows.
use Rattle.std.proofs.Common.{◌≡◌, refl, sym, ap, ◌∙◌, ℕ, ◌+◌, ◌<◌, arith, pos, negsuc}
use Rattle.stack_rational.proofs.Common.{Ordered, less, Tableau, num, ◌⊖◌, ring1, sum_same, at-other, ordered_fractions}
use Rattle.stack_rational.proofs.Common.{none, Combination}
use Rattle.stack_algebra.proofs.Combinations.{multiplier_is}
use Rattle.stack_table.specs.Table.{Tabled, plain, columns}
use Rattle.stack_table.specs.Problem.{Problem, flipped}
use Rattle.stack_table.specs.WrittenTable.{first_row, written_table}
use Rattle.stack_run.specs.WrittenRun.{End, infeasible, feasible, optimal, ray, wide, over, never}
use Rattle.stack_run.specs.EndNumbers.{negated_if, column_value, rate, bound_multiplier, collapse_multiplier}
use Rattle.stack_run.specs.PhaseTables.{own_first, own_third, IsFirst, ShowsMultipliers}
use Rattle.stack_run.specs.FourEnds.{IsFirstEnd, IsThirdEnd, EndGives}
use Rattle.stack_run.specs.EndLaws.{EndsGive, SomeRowLeaves}
use Rattle.stack_run.proofs.Solutions.{solution}
use Rattle.stack_run.proofs.Duality.{motion}
use Rattle.stack_run.proofs.RunEnds.{Raised, EndOverRows, first_limited}
use Rattle.stack_run.proofs.WrittenRows.{first_rows}
use Rattle.stack_run.proofs.Begins.{own-artificial, first_table, written_run-gives}
use Rattle.stack_run.proofs.Unflipped.{unflipped, balance, refute, bound, rise, stand}
use Rattle.stack_run.proofs.Values.{value-is, rate-is}

module _ (F : Ordered) (P : Problem) where
  abbrev m : ℕ
  m = P.shape.rows

  abbrev w : ℕ
  w = plain P.shape

  abbrev n : ℕ
  n = columns P.shape

  abbrev A : ℕ → ℕ → F.C
  A = first_row F P

  -- the artificial cells of a tableau are its multipliers
  row_multiplier : (own t : ℕ → F.C) (c : Combination F.ring m A own t) (k : ℕ) → k < m →
      less F (t (w + k)) (own (w + k)) ≡ c.multiplier k
  row_multiplier own t c k l = sym (multiplier_is F.ring m w A own t (first_rows F P) c k l)

  -- a number less 0
  less_none : (x : F.C) → less F x (F.of (pos 0)) ≡ x
  less_none = ring1 F.ring (λ x. (x ⊖ num (pos 0), x)) refl

  -- rows and objective by their artificial cells
  multipliers : (own : ℕ → F.C) (T : Tabled F.C) → Tableau F m n A own T.cell T.basic →
      ShowsMultipliers F P.shape A own T
  multipliers own T t = record {
    rows = λ i j l. (t.row i l).cell j ∙ F.zero_add _ ∙ sum_same F.ring m _ _
        (λ k b. ap (λ y. F.mul y (A k j)) (sym (sym (less_none (T.cell i (w + k)))
        ∙ row_multiplier (none F.ring) (T.cell i) (t.row i l) k b)));
    objective_row = λ j. t.objective.cell j ∙ ap (F.add (own j)) (sum_same F.ring m _ _
        (λ k b. ap (λ y. F.mul y (A k j)) (sym (row_multiplier own (T.cell m) t.objective k b))));
  }

  -- the multipliers of the ends, in the first rows
  collapsing : (T : Tabled F.C) (k : ℕ) → k < m →
      collapse_multiplier F P T k ≡ unflipped F P (motion F m w (own_first F m w) T.cell) k
  collapsing T k l = ap (λ y. negated_if F (flipped P k) (less F (T.cell m (w + k)) y))
      (sym (own-artificial F P k l))

  -- the multipliers of the last table of phase 3, in the first rows
  bounding : (T : Tabled F.C) → P.shape.contacts < w → (k : ℕ) → k < m →
      bound_multiplier F P T k ≡ unflipped F P (motion F m w (own_third F P.shape.contacts) T.cell) k
  bounding T g k l = ap (negated_if F (flipped P k)) (sym (less_none (T.cell m (w + k)))
      ∙ ap (less F (T.cell m (w + k))) (sym (at-other F.ring P.shape.contacts (w + k) (F.of (negsuc 0))
      (λ e. omega (arith, g, e)))))

  -- the last table of phase 1, and of phase 3
  first_end : (T : Tabled F.C) → IsFirst F P.shape A T → IsFirstEnd F P T
  first_end T h = record { table = h; shows = multipliers (own_first F m w) T h.tableau }

  third_end : (T : Tabled F.C) → Raised F P.shape A T → IsThirdEnd F P T
  third_end T h = record {
    with_factor = h.with_factor;
    table = h.third;
    shows = multipliers (own_third F P.shape.contacts) T h.third.tableau;
    stands = stand F P h.stands;
    balances = balance F P (solution F m n T.cell T.basic) (column_value F P.shape T) (F.of (pos 1))
        (λ j l. value-is F P.shape A (own_third F P.shape.contacts) T h.third.tableau j (omega (arith, l)))
        h.balances;
  }

  -- what each of the four ends gives in the problem's own rows
  end_of_rows : (x : End F.C) → EndOverRows F P.shape A x → EndGives F P x
  end_of_rows (infeasible T) h = record {
    first = first_end T h.first;
    refutes = refute F P (motion F m w (own_first F m w) T.cell) (collapse_multiplier F P T)
        (collapsing T) h.refutes;
  }
  end_of_rows (feasible T) h = record {
    without_factor = h.without_factor;
    first = first_end T h.first;
    balances = balance F P (solution F m n T.cell T.basic) (column_value F P.shape T) (F.of (pos 1))
        (λ j l. value-is F P.shape A (own_first F m w) T h.first.tableau j (omega (arith, l))) h.balances;
  }
  end_of_rows (optimal T) h = record {
    third = third_end T h.raised;
    bounds = bound F P (motion F m w (own_third F P.shape.contacts) T.cell) (bound_multiplier F P T)
        (bounding T h.raised.with_factor)
        (solution F m n T.cell T.basic) (column_value F P.shape T) h.raised.with_factor
        (value-is F P.shape A (own_third F P.shape.contacts) T h.raised.third.tableau P.shape.contacts
        (omega (arith, h.raised.with_factor))) h.bounds;
  }
  end_of_rows (ray T c) h = record {
    third = third_end T h.raised;
    below = h.below;
    enters = h.enters;
    rises = rise F P _ (rate F P.shape T c) h.raised.with_factor
        (λ j l. rate-is F P.shape A (own_third F P.shape.contacts) T h.raised.third.tableau c h.enters j)
        h.rises;
  }
  end_of_rows (wide p k s) h = tt
  end_of_rows over h = tt
  end_of_rows never h = h

-- the two laws of the ends of a run
pub ends_give : EndsGive
ends_give P rule budget = end_of_rows ordered_fractions P _ (written_run-gives ordered_fractions P rule budget)

pub some_row_leaves : SomeRowLeaves
some_row_leaves P rule budget T c = first_limited ordered_fractions P.shape (first_row ordered_fractions P) rule
    (first_rows ordered_fractions P) budget (written_table ordered_fractions P)
    (first_table ordered_fractions P) T c
