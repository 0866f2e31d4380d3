use Rattle.std.proofs.Common.{◌≡◌, ◌-◌, ap, ◌∙◌, length, rules, arith, SFits, to_z-of_z}
use Rattle.std.proofs.lemmas.List.{length_push}
use Rattle.stack_rational.proofs.Common.{w128}
use Rattle.stack_rows.specs.RowForm.{number_at}
use Rattle.stack_rows.specs.EntriesSeen.{entries_of}
use Rattle.stack_rows.specs.RowSeen.{numbers_of}
use Rattle.stack_inverse.specs.Columns.{number_with}
use Rattle.stack_inverse.proofs.Made.{if_both, entries_made, entry_made, right_made, cells_of}
use Rattle.stack_inverse.proofs.making.row_number.Goals as goal

pub returns-then-j-plain : goal.returns-then-j-plain
returns-then-j-plain c =
    let f = c.args.first.now in
    let r = c.args.row.now in
    let j = c.args.j in
    if_both c.sum_over.result _ (number_with f.rows f.columns.items (numbers_of r) j) c.sum_over.ensures.sum
    c.sum_over.ensures.below (λ below. entries_made f.rows f.columns.items (entries_of r.entries) r.right j
    (search rules) (f.first.rising j (search rules)) c.as_slice.result.now
    (c.as_slice.ensures.value ∙ cells_of f.columns.items j c.index.result.now (search rules) c.index.ensures) below)

pub at-requires : goal.at-requires
at-requires c = omega (
  arith,
  c.if-j-plain-2.true,
  c.requires.width,
  length_push (entries_of c.args.row.now.entries) c.args.row.now.right,
)

pub returns-then-j-plain-2 : goal.returns-then-j-plain-2
returns-then-j-plain-2 c =
    let f = c.args.first.now in
    let r = c.args.row.now in
    let at : SFits w128 c.at.result = search rules in
    let columns : c.len-plain.result ≡ length f.columns.items = search rules in
    to_z-of_z at ∙ c.at.ensures
    ∙ ap (λ n. number_at (entries_of r.entries) (c.args.j - n)) columns
    ∙ entry_made f.rows f.columns.items (entries_of r.entries) r.right c.args.j
    c.requires.width (search rules) (search rules)

pub returns-else-j-plain-2 : goal.returns-else-j-plain-2
returns-else-j-plain-2 c =
    let f = c.args.first.now in
    let r = c.args.row.now in
    let right : SFits w128 r.right = search rules in
    to_z-of_z right ∙ right_made f.rows f.columns.items (entries_of r.entries) r.right c.args.j c.requires.width
    (omega (arith, c.if-j-plain-2.false, c.requires.column_in))
