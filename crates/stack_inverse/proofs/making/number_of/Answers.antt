use Rattle.std.proofs.Common.{◌≡◌, ◌<◌, false, sym, ap, subst, ◌∙◌, length, rules, ◌*ℤ◌}
use Rattle.std.specs.List.{AllByRecursion}
use Rattle.std.specs.Int.{w128, int_wrap}
use Rattle.stack_rational.proofs.Common.{sum_of}
use Rattle.stack_rows.specs.RowForm.{number_at, entries_in}
use Rattle.stack_rows.specs.EntriesSeen.{entries_of}
use Rattle.stack_inverse.specs.RowsSeen.{seen_of, number_in_row}
use Rattle.stack_inverse.proofs.Made.{if_both, if_three, entries_made, cells_of}
use Rattle.stack_inverse.proofs.WrappedSums.{narrow_sum}
use Rattle.stack_inverse.proofs.making.number_of.Goals as goal

pub returns-then-first-le-SMALL : goal.returns-then-first-le-SMALL
returns-then-first-le-SMALL c =
    let f = c.args.first.now in
    let r = c.args.row.now in
    let e = r.row.entries in
    let j = c.args.j in
    let xs = c.as_slice.result.now in
    let cells = c.as_slice-cells.result.now in
    let narrow : e.wide ≡ false = search rules in
    let is : xs ≡ entries_of e = c.as_slice.ensures.value
    ∙ ap (λ b. entries_in b e.numbers.items e.words.items) (sym narrow) in
    let lent = c.as_slice-cells.ensures.value
    ∙ cells_of f.columns.items j c.index.result.now c.requires c.index.ensures in
    if_three c.sum_words.result (int_wrap w128 (sum_of (λ x. number_at xs x.row *ℤ x.value) cells))
    (number_in_row f (seen_of r) j) c.sum_words.ensures.wrapped c.sum_words.ensures.below
    c.sum_words.ensures.words (λ below words. narrow_sum f.rows f.top f.columns.items f.first
    c.if-first-le-SMALL.true xs j c.requires cells lent words
    ∙ ap (λ ys. sum_of (λ x. number_at ys x.row *ℤ x.value) cells) is
    ∙ entries_made f.rows f.columns.items (entries_of e) r.row.right j c.requires (f.first.rising j c.requires) cells
    lent (subst (λ ys. AllByRecursion (λ x. x.row < length ys) cells) is below))

pub returns-else-not-entries : goal.returns-else-not-entries
returns-else-not-entries c =
    let f = c.args.first.now in
    let r = c.args.row.now in
    let j = c.args.j in
    if_both c.sum_over.result _ (number_in_row f (seen_of r) j) c.sum_over.ensures.sum c.sum_over.ensures.below
    (λ below. entries_made f.rows f.columns.items (entries_of r.row.entries) r.row.right j c.requires
    (f.first.rising j c.requires) c.as_slice-cells.result.now
    (c.as_slice-cells.ensures.value ∙ cells_of f.columns.items j c.index.result.now c.requires c.index.ensures) below)
