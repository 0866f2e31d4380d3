-- The first operation of a pivot that is too wide, in the written order, on the exact values. `is_too_wide` says of an
-- operation and its two numbers whether it is too wide; at a width it is that of stack_rational.
use Rattle.std.specs.Prelude.{ℕ, suc, ◌+◌, Bool, cond, eqb, Option, None}
use Rattle.stack_algebra.specs.Ordered.{Ordered}
use Rattle.stack_algebra.specs.Rows.{less, quotient}
use Rattle.stack_algebra.specs.Search.{first, or_else, only_if}
use Rattle.stack_rational.specs.declared.exact.Op.{Op}
use Rattle.stack_rational.specs.declared.exact.Op.TheVariants.{Difference, Product, Quotient}
use Rattle.stack_table.specs.declared.types.PivotWide.{PivotWide}
use Rattle.stack_table.specs.declared.types.Step.{Step}
use Rattle.stack_table.specs.declared.types.Step.TheVariants.{Divide, Multiply, Subtract}
use Rattle.stack_table.specs.Table.{Shape, Tabled, width}

module _ (F : Ordered) where
  -- the row f by the number d
  abbrev pub divided : (ℕ → F.C) → F.C → ℕ → F.C
  divided f d j = quotient F (f j) d

  -- the row f less k times the row g
  abbrev pub reduced : (ℕ → F.C) → (ℕ → F.C) → F.C → ℕ → F.C
  reduced f g k j = less F (f j) (F.mul k (g j))

module _ (F : Ordered) (is_too_wide : Op → F.C → F.C → Bool) where
  -- the place and the step, where the operation is too wide
  abbrev pub spot_if : Op → Step → F.C → F.C → ℕ → ℕ → Option PivotWide
  spot_if op step x y i j = only_if (is_too_wide op x y) (record { row = i; column = j; step = step })

  -- cell j of the pivot row i, where its division is too wide
  abbrev pub divide_item : (ℕ → F.C) → F.C → ℕ → ℕ → Option PivotWide
  divide_item f d i j = spot_if Quotient Divide (f j) d i j

  -- the first of the first n cells of the pivot row at which its division is too wide
  abbrev pub divide_spot : ℕ → (ℕ → F.C) → F.C → ℕ → Option PivotWide
  divide_spot n f d i = first n (divide_item f d i)

  -- cell j of another row i, where its product or else its difference is too wide
  abbrev pub reduce_item : (ℕ → F.C) → (ℕ → F.C) → F.C → ℕ → ℕ → Option PivotWide
  reduce_item f g k i j = or_else (spot_if Product Multiply k (g j) i j)
      (spot_if Difference Subtract (f j) (F.mul k (g j)) i j)

  -- the first of the first n cells of another row at which its product or its difference is too wide
  abbrev pub reduce_spot : ℕ → (ℕ → F.C) → (ℕ → F.C) → F.C → ℕ → Option PivotWide
  reduce_spot n f g k i = first n (reduce_item f g k i)

  -- the first place in n rows that lie one after the other, of which the first has the number `from`
  abbrev pub rows_spot : (n width : ℕ) → (ℕ → ℕ → F.C) → (ℕ → F.C) → ℕ → ℕ → Option PivotWide
  rows_spot n width cell g c from = first n (λ i. reduce_spot width (cell i) g (cell i c) (from + i))

  -- the first place in row i of a pivot at (r, c), of rows of so many cells; none in the pivot row
  abbrev pub row_spot : (width : ℕ) → (ℕ → ℕ → F.C) → ℕ → ℕ → ℕ → Option PivotWide
  row_spot width cell r c i = cond (eqb i r) None
      (reduce_spot width (cell i) (divided F (cell r) (cell r c)) (cell i c) i)

  -- the first place of a pivot in all rows: the pivot row goes before the others, which follow in order
  abbrev pub cells_spot : (height width : ℕ) → (ℕ → ℕ → F.C) → ℕ → ℕ → Option PivotWide
  cells_spot height width cell r c = or_else (divide_spot width (cell r) (cell r c) r)
      (first height (row_spot width cell r c))

  -- the first place of a pivot of a table
  abbrev pub pivot_spot : Shape → Tabled F.C → ℕ → ℕ → Option PivotWide
  pivot_spot S T r c = cells_spot (suc S.rows) (width S) T.cell r c
