use Rattle.std.proofs.Common.{◌≡◌, false, true, ap, ◌∙◌, arith}
use Rattle.stack_inverse.specs.Columns.{RowSeen}
use Rattle.stack_rows.specs.RowForm.{number_at}
use Rattle.stack_inverse.proofs.marking.Marking.reopen.Goals as goal

pub returns : goal.returns
returns c = λ f s t same k. record {
  places_long = k.places_long;
  touched_long = k.touched_long;
  open_long = c.fill.ensures.long ∙ k.open_long;
  told = λ i r l b z. ap (λ (x : RowSeen). number_at x.numbers r) (same i l) ∙ k.told i r l b z;
  used = k.used;
  each_fits = λ e. let b : false ≡ true = e in absurd cc;
  clean = λ j l z. absurd (omega (arith, c.fill.ensures.each j (omega (arith, l, k.open_long)), z));
}
