use Rattle.std.proofs.Common.{◌≡◌, refl, ap, ◌∙◌, ℕ, ◌+◌, length, false}
use Rattle.stack_rational.proofs.Common.{length_push}
use Rattle.stack_inverse.specs.Columns.{RowSeen, no_row}
use Rattle.stack_inverse.specs.RowsSeen.{seen_of}
use Rattle.stack_inverse.proofs.Grown.{grown_by}
use Rattle.stack_inverse.proofs.filling.rows_of.Goals as goal

pub loop-preserved : goal.loop-preserved
loop-preserved c =
    let i = c.loop.invariant in
    let grown = c.in_ok-push.ensures.items in
    record {
      height = ap length grown ∙ length_push c.loop.rows.items _ ∙ ap (λ n. n + 1) i.height;
      widths = grown_by seen_of no_row (λ (k : ℕ) (s : RowSeen). length s.numbers ≡ c.args.width) c.loop.rows.items
          c.push.new.self.items _ c.loop.counter grown i.height i.widths c.in_ok-row.ensures.width;
      unfit = grown_by seen_of no_row (λ (k : ℕ) (s : RowSeen). s.fits ≡ false) c.loop.rows.items
          c.push.new.self.items _ c.loop.counter grown i.height i.unfit refl;
    }
