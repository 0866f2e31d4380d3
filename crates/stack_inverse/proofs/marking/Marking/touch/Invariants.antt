use Rattle.std.proofs.Common.{◌≡◌, ℕ}
use Rattle.std.specs.List.{AllWithin}
use Rattle.stack_inverse.specs.Columns.{RowSeen}
use Rattle.stack_rows.specs.Marks.{mark_in}
use Rattle.stack_inverse.specs.Marks.{mark_at}
use Rattle.stack_inverse.specs.Marking.{AreMarks}
use Rattle.stack_inverse.proofs.marking.Marking.touch.Given as goal

abbrev pub invariant-loop-cell : goal.invariant-loop-cell
invariant-loop-cell l = record {
  places : l.self.places.items ≡ l.fn.self.places.items;
  marks : (s : ℕ → RowSeen) → AreMarks l.first s l.fn.self → AreMarks l.first s l.self;
  nothing : (i : ℕ) → mark_in l.self.to_visit.touched.words.items i ≡ 0 →
      AllWithin (λ x. mark_at l.self.places.items x.row i ≡ 0) l.cells 0 l.cell-index;
}
