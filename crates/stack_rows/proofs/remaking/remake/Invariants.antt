use Rattle.std.proofs.Common.{◌≡◌, ◌*ℤ◌, ◌-ℤ◌}
use Rattle.stack_rows.specs.RowForm.{number_at, IsWrittenPart}
use Rattle.stack_rows.proofs.remaking.remake.Given as goal

-- the numbers so far are made
abbrev pub invariant-loop-j : goal.invariant-loop-j
invariant-loop-j g l = IsWrittenPart (λ i z. z *ℤ g.C.Cells.over l.cells
    ≡ (number_at l.fn.numbers i *ℤ g.C.Cells.times l.cells -ℤ g.C.Cells.less l.cells *ℤ number_at l.pivot i)
    *ℤ l.common) (number_at l.fn.numbers) 0 l.j (number_at l.numbers)
