use Rattle.std.proofs.Common.{◌≡◌, rules, ℤ, pos, ◌<ℤ◌, ◌*ℤ◌, ◌-ℤ◌, SFits, to_z, of_z, to_z-of_z}
use Rattle.stack_rational.proofs.Common.{w128}
use Rattle.stack_rows.specs.EntriesSeen.{entries_of}
use Rattle.stack_rows.proofs.Combined.{undivided, over_one}
use Rattle.stack_rows.proofs.Sided.{taken, topped, within_top, without_sides, small_each, none_small}
use Rattle.stack_rows.proofs.row.Row.take_small_over.Goals as goal

pub step_small-made-requires-clause-small : goal.step_small-made-requires-clause-small
step_small-made-requires-clause-small c =
    let s = c.args.self.now in
    let p = c.args.pivot.now.row in
    let f = c.args.step.now in
    small_each (entries_of s.entries) (entries_of p.entries) s.right p.right f.times f.less
    (without_sides (entries_of s.entries) (entries_of p.entries) s.right p.right c.requires.width) c.requires.small
    (none_small f.times f.less)

pub step_small-made-requires-clause-top : goal.step_small-made-requires-clause-top
step_small-made-requires-clause-top c =
    let s = c.args.self.now in
    within_top (entries_of s.entries) s.right s.top s.topped

pub invariant_of-self : goal.invariant_of-self
invariant_of-self c = record {
  positive = c.args.self.now.positive;
  topped = topped (entries_of c.step_small-made.new.self) c.args.self.now.right c.step_small-made.result.top
      c.step_small-made.ensures.top;
}

pub invariant_of-self-2 : goal.invariant_of-self-2
invariant_of-self-2 c =
    let positive : pos 0 <ℤ to_z w128 (of_z w128 c.args.over) = search rules in
    record {
      positive = positive;
      topped = topped (entries_of c.step_small-made.new.self) (to_z w128 (of_z w128 c.in_ok-right.right))
          c.step_small-made.result.top c.step_small-made.ensures.top;
    }

pub returns-clause-ok : goal.returns-clause-ok
returns-clause-ok c =
    let s = c.args.self.now in
    let p = c.args.pivot.now.row in
    let f = c.args.step.now in
    let over = c.args.over in
    let new = c.step_small-made.new.self in
    let x : ℤ = to_z w128 (of_z w128 c.in_ok-right.right) in
    let right : SFits w128 c.in_ok-right.right = search rules in
    let own : SFits w128 s.right = search rules in
    let other : SFits w128 p.right = search rules in
    let side : x ≡ s.right *ℤ f.times -ℤ p.right *ℤ f.less = cc (
      to_z-of_z right,
      to_z-of_z own,
      to_z-of_z other,
      c.in_ok-right.ensures,
    ) in
    let positive : pos 0 <ℤ over = search rules in
    let divided = rw c.in_ok-made.was at c.step_small-made.ensures.divided in
    rw (c.grow_old.ensures.numbers, c.grow_old.ensures.under, to_z-of_z c.ranges.over)
    (taken (entries_of s.entries) (entries_of p.entries) (entries_of new) s.right p.right x f.times f.less
    (without_sides (entries_of s.entries) (entries_of p.entries) s.right p.right c.requires.width)
    c.step_small-made.ensures.width (pos 1) over over divided (undivided f.times f.less s.right p.right x side)
    (over_one over) positive)
