use Rattle.std.proofs.Common.{◌≡◌, ◌∙◌, rules, ℤ, pos, ◌<ℤ◌, ◌*ℤ◌, ◌-ℤ◌, SFits, to_z, of_z, to_z-of_z}
use Rattle.stack_rational.proofs.Common.{w128}
use Rattle.stack_rows.specs.RowForm.{number_at}
use Rattle.stack_rows.specs.EntriesSeen.{entries_of}
use Rattle.stack_rows.proofs.Sided.{remade, topped, without_sides}
use Rattle.stack_rows.proofs.remaking.remake_row.Goals as goal

pub invariant_of-row-2-clause-topped : goal.invariant_of-row-2-clause-topped
invariant_of-row-2-clause-topped g c = topped (entries_of c.remake-made.new.self) _ c.remake-made.result.top
    c.remake-made.ensures.top

pub returns-clause-ok : goal.returns-clause-ok
returns-clause-ok g c =
    let s = c.args.row.now in
    let p = c.args.pivot.now in
    let cells = c.args.cells.now in
    let new = c.remake-made.new.self in
    let x : ℤ = to_z w128 (of_z w128 c.in_ok-right.right) in
    let after : ℤ = to_z w128 (of_z w128 c.in_ok-common.common) in
    let right : SFits w128 c.in_ok-right.right = search rules in
    let own : SFits w128 s.right = search rules in
    let other : SFits w128 p.row.right = search rules in
    let side : x *ℤ g.C.Cells.over cells
    ≡ (s.right *ℤ g.C.Cells.times cells -ℤ g.C.Cells.less cells *ℤ p.row.right) *ℤ after = cc (
      to_z-of_z right,
      to_z-of_z own,
      to_z-of_z other,
      c.in_ok-right.ensures,
    ) in
    let positive : pos 0 <ℤ after = search rules in
    let made = rw c.in_ok-made.was at c.remake-made.ensures.ok in
    let pivot = c.as_slice.ensures.value ∙ p.same in
    rw (c.settle.ensures.numbers, c.settle.ensures.under)
    (remade (entries_of s.entries) (entries_of p.row.entries) (entries_of new) s.right p.row.right x
    (g.C.Cells.times cells) (g.C.Cells.less cells)
    (without_sides (entries_of s.entries) (entries_of p.row.entries) s.right p.row.right c.requires)
    c.remake-made.ensures.width (g.C.Cells.over cells) after
    (λ r. made r ∙ (λ i. (number_at (entries_of s.entries) r *ℤ g.C.Cells.times cells
    -ℤ g.C.Cells.less cells *ℤ number_at (pivot i) r) *ℤ after)) side positive)
