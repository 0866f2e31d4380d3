-- The written table, row by row and then the objective row.
use Rattle.std.proofs.Common.{◌≡◌, ◌≢◌, refl, sym, ap, subst, ◌∙◌, ℕ, zero, suc, ◌+◌, ◌*◌, ◌<◌, Bool, true, false, not}
use Rattle.std.proofs.Common.{cond, List, [], length, get_or, Option, Some, None, arith, subst₂, to_z, of_z, lt-ltb}
use Rattle.std.proofs.Common.{le-ltb, T, ℤ, pos, negsuc, ◌<ℤ◌, ◌≤ℤ◌}
use Rattle.stack_rational.proofs.Common.{get_or_past, ints, ℕ_discrete, dec_lt, w128, Fraction, of, add, neg}
use Rattle.stack_rational.proofs.Common.{ordered_fractions, changed-same, changed-other, Exp, num, ◌⊕◌, ring1, first}
use Rattle.stack_rational.proofs.Common.{or_else, first_found, IsWidth, is_too_wide, fractions, first_same}
use Rattle.std.proofs.Math.Nat.{suc-mul}
use lib.Signed.{lt_z, lt_z_yes, lt_z_no}
use Rattle.stack_table.specs.declared.problem.BuildError.{BuildError}
use Rattle.stack_table.specs.declared.problem.BuildError.TheVariants.{Wide, Memory}
use Rattle.stack_table.specs.declared.problem.Problem.{Problem as Lent}
use Rattle.stack_table.specs.Table.{Shape, plain, columns, width}
use Rattle.stack_table.specs.Block.{cell_of, tabled, IsBlock, Grows}
use Rattle.stack_table.specs.Problem.{Problem, is_below_zero, flipped}
use Rattle.stack_table.specs.Lent.{IsProblem, shape_of_problem, problem_of, TellsFirst}
use Rattle.stack_table.specs.WrittenTable.{less_all, objective_over, objective_place, objective_places, first_row}
use Rattle.stack_table.specs.WrittenTable.{first_objective, first_basic, row_place, wide_place, written_table}
use Rattle.stack_rational.proofs.Fitting.{is_zero-of, zero_fits}
use Rattle.stack_table.proofs.Numbers.{small_back, load_is_small, no_load, number_past, number_beyond}
use Rattle.stack_table.proofs.FirstObjective.{artificial_not, objective_same, place_same}
use Rattle.stack_table.proofs.Growing.{earlier_cells, next_cells}
use Rattle.stack_table.proofs.BlockRows.{cell_past, cell_outside}

pub empty_block : {V : Type 0} (e : V → Fraction) (m : ℤ) → IsWidth m → (xs : List V) (ms : List Bool) →
    xs ≡ [] →
    ms ≡ [] → IsBlock m e xs ms
empty_block e m w xs ms ex em = subst₂ (λ (ys : List _) (ns : List Bool). IsBlock m e ys ns) (sym ex) (sym em)
    (record { same = refl; marked = λ k. sym is_zero-of; fitting = λ k. zero_fits m w })

-- a row is flipped as its right side says
below_is : (v : ℤ) → lt_z v (pos 0) ≡ is_below_zero v
below_is (pos n) = go (lt_z (pos n) (pos 0)) refl
  where
    go : (b : Bool) → lt_z (pos n) (pos 0) ≡ b → b ≡ false
    go true h = let l : pos n <ℤ pos 0 = lt_z_yes (subst T (sym h) tt) in absurd (omega (arith, ints, l))
    go false h = refl
below_is (negsuc n) = go (lt_z (negsuc n) (pos 0)) refl
  where
    go : (b : Bool) → lt_z (negsuc n) (pos 0) ≡ b → b ≡ true
    go true h = refl
    go false h = let l : pos 0 ≤ℤ negsuc n = lt_z_no (subst (λ t. T (not t)) (sym h) tt) in
        absurd (omega (arith, ints, l))

pub flip_is : (P : Lent) → IsProblem P → (i : ℕ) (z : ℤ) → z ≡ (problem_of P).load i →
    lt_z (to_z w128 (of_z w128 z)) (pos 0) ≡ flipped (problem_of P) i
flip_is P h i z e = ap (λ t. lt_z t (pos 0)) (small_back z ((problem_of P).load i) e (load_is_small P h i))
    ∙ below_is ((problem_of P).load i)

-- past the rows none is flipped
pub flips_are : (P : Lent) → IsProblem P → (fs : List Bool) → length fs ≡ P.rows →
    ((i : ℕ) → i < P.rows → get_or fs i false ≡ flipped (problem_of P) i) →
    (i : ℕ) → get_or fs i false ≡ flipped (problem_of P) i
flips_are P h fs l each i = elim (dec_lt i P.rows) [
  | yes d ↦ each i d
  | no d ↦ get_or_past fs i false (omega (arith, l, d))
      ∙ sym (ap is_below_zero (no_load P h i (omega (arith, d))))
]

-- what an error tells further up
tells : (e : BuildError) (o u : Option BuildError) → ((p : BuildError) → o ≡ Some p → u ≡ Some p) →
    TellsFirst e o →
    TellsFirst e u
tells (Wide i j) o u h t = h (Wide i j) t
tells Memory o u h t = tt

pub tells_row : (m : ℤ) (P : Problem) (i : ℕ) (e : BuildError) → i < P.shape.rows →
    first i (row_place ordered_fractions (is_too_wide m) P) ≡ None →
    TellsFirst e (row_place ordered_fractions (is_too_wide m) P i)
    → TellsFirst e (wide_place ordered_fractions (is_too_wide m) P)
tells_row m P i e l n =
    tells e (row_place ordered_fractions (is_too_wide m) P i) (wide_place ordered_fractions (is_too_wide m) P)
    (λ p h. ap (λ o. or_else o
    (objective_places ordered_fractions (is_too_wide m) P.shape (first_row ordered_fractions P)))
    (first_found P.shape.rows i (row_place ordered_fractions (is_too_wide m) P) p l n h))

-- 0 less zeros is 0
less_all-zero : (n : ℕ) (f : ℕ → Fraction) → ((i : ℕ) → f i ≡ of (pos 0)) →
    less_all ordered_fractions n f ≡ of (pos 0)
less_all-zero zero f h = refl
less_all-zero (suc n) f h = (λ z. add (less_all-zero n f h z) (neg (h n z)))
    ∙ ring1 fractions (λ y. (num (pos 0) ⊕ Exp.neg (num (pos 0)), num (pos 0))) refl (of (pos 0))

pub objective_beyond : (P : Problem) (j : ℕ) → columns P.shape < j →
    first_objective ordered_fractions P j ≡ of (pos 0)
objective_beyond P j l = ap (λ b. cond b (of (pos 0)) (less_all ordered_fractions P.shape.rows
    (λ i. first_row ordered_fractions P i j))) (artificial_not P.shape j (λ _. omega (arith, l)))
    ∙ less_all-zero P.shape.rows (λ i. first_row ordered_fractions P i j) (λ i. ap of (number_beyond P i j l))

-- the cells xs of all rows
module _ {V : Type 0} (e : V → Fraction) (P : Lent) (xs : List V)
    (long : length xs ≡ P.rows * width (shape_of_problem P))
    (cells : (i j : ℕ) → i < P.rows → j < width (shape_of_problem P) →
    cell_of e (width (shape_of_problem P)) xs i j ≡ first_row ordered_fractions (problem_of P) i j) where
  abbrev S : Shape
  S = shape_of_problem P

  abbrev over : ℕ → ℕ → Fraction
  over = cell_of e (width S) xs

  places_are : (m : ℤ) → objective_places ordered_fractions (is_too_wide m) S over
      ≡ objective_places ordered_fractions (is_too_wide m) S (first_row ordered_fractions (problem_of P))
  places_are m = first_same (width S) (objective_place ordered_fractions (is_too_wide m) S over)
      (objective_place ordered_fractions (is_too_wide m) S (first_row ordered_fractions (problem_of P)))
      (λ j l. place_same S j over (first_row ordered_fractions (problem_of P)) (λ i d. cells i j d l) m)

  module _ (m : ℤ) (none : first P.rows (row_place ordered_fractions (is_too_wide m) (problem_of P)) ≡ None) where
    pub place_is : wide_place ordered_fractions (is_too_wide m) (problem_of P)
        ≡ objective_places ordered_fractions (is_too_wide m) S over
    place_is = ap (λ o. or_else o (objective_places ordered_fractions (is_too_wide m) S
        (first_row ordered_fractions (problem_of P)))) none ∙ sym (places_are m)

    pub tells_objective : (r : BuildError) → TellsFirst r (objective_places ordered_fractions (is_too_wide m) S over) →
        TellsFirst r (wide_place ordered_fractions (is_too_wide m) (problem_of P))
    tells_objective r t = subst (λ o. TellsFirst r o) (sym place_is) t

  module _ (h : IsProblem P) (ys : List V)
      (grown : Grows e xs ys (width S) (objective_over ordered_fractions S over)) where
    size : length ys ≡ suc P.rows * width S
    size = omega (arith, grown.longer, long, suc-mul P.rows (width S))

    objective_is : (j : ℕ) → Dec (j < width S) →
        cell_of e (width S) ys P.rows j ≡ first_objective ordered_fractions (problem_of P) j
    objective_is j (yes l) =
        next_cells e (width S) P.rows (objective_over ordered_fractions S over) xs ys long grown j l
        ∙ objective_same S j over (first_row ordered_fractions (problem_of P)) (λ i d. cells i j d l)
    objective_is j (no l) = cell_past e (width S) ys P.rows j (omega (arith, l))
        ∙ sym (objective_beyond (problem_of P) j (omega (arith, l)))

    row_is : (i j : ℕ) → i ≢ P.rows → Dec (i < P.rows) → Dec (j < width S) →
        cell_of e (width S) ys i j ≡ first_row ordered_fractions (problem_of P) i j
    row_is i j d (yes l) (yes k) = earlier_cells e (width S) P.rows (width S)
        (objective_over ordered_fractions S over) xs ys long grown i j l ∙ cells i j l k
    row_is i j d (no l) k = cell_outside e (width S) (suc P.rows) ys i j size (omega (arith, l, d))
        ∙ sym (ap of (number_past P h i (omega (arith, l)) j))
    row_is i j d (yes l) (no k) = cell_past e (width S) ys i j (omega (arith, k))
        ∙ sym (ap of (number_beyond (problem_of P) i j (omega (arith, k))))

    cell_is : (i j : ℕ) → Dec (i ≡ P.rows) →
        cell_of e (width S) ys i j ≡ (written_table ordered_fractions (problem_of P)).cell i j
    cell_is i j (yes d) = ap (λ k. cell_of e (width S) ys k j) d ∙ objective_is j (dec_lt j (width S))
        ∙ sym (ap (λ k. (written_table ordered_fractions (problem_of P)).cell k j) d
        ∙ ap (λ (f : ℕ → Fraction). f j) (changed-same (first_row ordered_fractions (problem_of P)) P.rows
        (first_objective ordered_fractions (problem_of P))))
    cell_is i j (no d) = row_is i j d (dec_lt i P.rows) (dec_lt j (width S))
        ∙ sym (ap (λ (f : ℕ → Fraction). f j)
        (changed-other (first_row ordered_fractions (problem_of P)) P.rows
        (first_objective ordered_fractions (problem_of P)) i d))

    module _ (bs : List ℕ) (lb : length bs ≡ P.rows)
        (basics : (i : ℕ) → i < P.rows → get_or bs i 0 ≡ plain S + i) where
      basic_is : (i : ℕ) → Dec (i < P.rows) → get_or bs i 0 ≡ first_basic (problem_of P) i
      basic_is i (yes l) = basics i l ∙ sym (ap (λ b. cond b (plain S + i) 0) (lt-ltb i P.rows l))
      basic_is i (no l) = get_or_past bs i 0 (omega (arith, l, lb))
          ∙ sym (ap (λ b. cond b (plain S + i) 0) (le-ltb i P.rows (omega (arith, l))))

      pub table_is : tabled e S ys bs ≡ written_table ordered_fractions (problem_of P)
      table_is = λ z. record {
        cell = λ i j. cell_is i j (ℕ_discrete i P.rows) z;
        basic = λ i. basic_is i (dec_lt i P.rows) z;
      }
