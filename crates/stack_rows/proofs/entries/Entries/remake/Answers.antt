use Rattle.std.proofs.Common.{sym, ◌∙◌, ◌*ℤ◌, ◌-ℤ◌, to_z-of_z}
use Rattle.stack_rational.proofs.Common.{with_items_is, with_items}
use Rattle.stack_rows.specs.RowForm.{number_at}
use Rattle.stack_rows.proofs.Kept.{is_wide}
use Rattle.stack_rows.proofs.entries.Entries.remake.Goals as goal

pub returns-in-Some-clause-ok : goal.returns-in-Some-clause-ok
returns-in-Some-clause-ok g c = λ r.
    let kept = c.widen.new.self in
    let made = c.remake-made.new.numbers in
    let cells = c.args.cells.now in
    let new = is_wide (with_items kept.numbers made).items kept.words.items c.widen.ensures.wide
    ∙ with_items_is kept.numbers made (c.remake-made.auto.numbers ∙ c.as_mut_slice.ensures.len) in
    let old = c.as_mut_slice.ensures.value ∙ sym (is_wide kept.numbers.items kept.words.items c.widen.ensures.wide)
    ∙ c.widen.ensures.entries in
    (λ i. number_at (new i) r *ℤ g.C.Cells.over cells) ∙ c.in-Some.ensures r
    ∙ (λ i. (number_at (old i) r *ℤ g.C.Cells.times cells -ℤ g.C.Cells.less cells *ℤ number_at c.args.pivot.now r)
    *ℤ to_z-of_z c.ranges.common i)
