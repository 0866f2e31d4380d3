use Rattle.std.proofs.Common.{◌≡◌, rules, ℤ, pos, ◌<ℤ◌, ◌*ℤ◌, SFits, to_z, of_z, to_z-of_z}
use Rattle.stack_rational.proofs.Common.{w128}
use Rattle.stack_rows.specs.RowForm.{IsQuotient}
use Rattle.stack_rows.specs.EntriesSeen.{entries_of}
use Rattle.stack_rows.proofs.Casts.{lesser_fit}
use Rattle.stack_rows.proofs.Sided.{taken, within_top, without_sides}
use Rattle.stack_rows.proofs.row.Row.change.Goals as goal

pub step-made-requires-clause-width : goal.step-made-requires-clause-width
step-made-requires-clause-width c =
    let s = c.args.self.now in
    let o = c.args.other.now in
    without_sides (entries_of s.entries) (entries_of o.entries) s.right o.right c.requires.width

pub step-made-requires-clause-fit : goal.step-made-requires-clause-fit
step-made-requires-clause-fit c = λ e j.
    let s = c.args.self.now in
    let o = c.args.other.now in
    let f = c.args.s.now.factors in
    rw c.requires.numbers
    (lesser_fit f.times f.less (within_top (entries_of s.entries) s.right s.top s.topped j)
    (within_top (entries_of o.entries) o.right o.top o.topped j) (c.fit-fit.ensures e))

pub returns-clause-ok : goal.returns-clause-ok
returns-clause-ok c =
    let s = c.args.self.now in
    let o = c.args.other.now in
    let f = c.args.s.now.factors in
    let new = c.step-made.new.self in
    let by = c.in_ok-by.by in
    let x : ℤ = to_z w128 (of_z w128 c.in_ok-right.right) in
    let after : ℤ = to_z w128 (of_z w128 c.in_ok-under.under) in
    let by_fits : SFits w128 by = search rules in
    let right : SFits w128 c.in_ok-right.right = search rules in
    let under : SFits w128 c.in_ok-under.under = search rules in
    let own : SFits w128 s.right = search rules in
    let other : SFits w128 o.right = search rules in
    let side : IsQuotient by f.times f.less s.right o.right x = cc (
      to_z-of_z by_fits,
      to_z-of_z right,
      to_z-of_z own,
      to_z-of_z other,
      c.in_ok-right.ensures,
    ) in
    let whole : after *ℤ by ≡ c.args.over = cc (
      to_z-of_z by_fits,
      to_z-of_z under,
      to_z-of_z c.ranges.over,
      c.in_ok-under.ensures,
    ) in
    let positive : pos 0 <ℤ after = search rules in
    let divided = rw c.in_ok-by.was at c.step-made.ensures.ok in
    rw (c.grow_old.ensures.numbers, c.grow_old.ensures.under, c.settle.ensures.numbers, c.settle.ensures.under)
    (taken (entries_of s.entries) (entries_of o.entries) (entries_of new) s.right o.right x f.times f.less
    (without_sides (entries_of s.entries) (entries_of o.entries) s.right o.right c.requires.width)
    c.step-made.ensures.width by c.args.over after divided side whole positive)
