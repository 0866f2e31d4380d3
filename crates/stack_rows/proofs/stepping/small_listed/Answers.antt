use Rattle.std.proofs.Common.{◌≡◌, ◌<◌, arith, rules, get_or, ℤ, pos, ◌*ℤ◌, ◌-ℤ◌, max, SFits, to_z, of_z, to_z-of_z}
use Rattle.std.proofs.Common.{w64}
use Rattle.std.proofs.lemmas.Nat.{le_or_l, le_or_r}
use lib.Bits.{bit_or}
use Rattle.stack_rows.specs.RowForm.{number_at}
use Rattle.stack_rows.proofs.Casts.{right, one_step_fits}
use Rattle.stack_rows.proofs.Listed.{taken_some, same_there, one_listed, all_listed, listed_within}
use Rattle.stack_rows.proofs.stepping.small_listed.Goals as goal

pub overflow_sub-number : goal.overflow_sub-number
overflow_sub-number c =
    let t = c.args.less in
    let at = get_or c.args.list.now c.loop-i.i 0 in
    let j = c.from-j.result in
    let room : c.loop-i.i < c.args.count = omega (arith, c.loop-i-test.true) in
    let s = rw (to_z-of_z c.ranges.less) at c.loop-i.invariant in
    let same = same_there _ _ _ _ _ c.requires.listed _ c.requires.top _ _ _ s room in
    let own : SFits w64 (number_at c.loop-i.words j) = search rules in
    let other : SFits w64 (number_at c.args.other.now j) = search rules in
    let small = c.requires.small at in
    let a = number_at c.args.words.now at in
    let b = number_at c.args.other.now at in
    rw (
      to_z-of_z own,
      to_z-of_z other,
      to_z-of_z c.ranges.less,
      c.from-j.ensures,
      same,
      to_z-of_z (right a b (pos 1) t small),
    ) (one_step_fits a b t small)

pub loop-i-preserved : goal.loop-i-preserved
loop-i-preserved c =
    let t : ℤ = to_z w64 (of_z w64 c.args.less) in
    let at = get_or c.args.list.now c.loop-i.i 0 in
    let j = c.from-j.result in
    let room : c.loop-i.i < c.args.count = omega (arith, c.loop-i-test.true) in
    let s = c.loop-i.invariant in
    let same = same_there _ _ _ _ _ c.requires.listed _ c.requires.top _ _ _ s room in
    let own : SFits w64 (number_at c.loop-i.words j) = search rules in
    let other : SFits w64 (number_at c.args.other.now j) = search rules in
    let small = c.requires.small at in
    let a = number_at c.args.words.now at in
    let b = number_at c.args.other.now at in
    let size = c.unsigned_abs-size.result in
    let x : ℤ = to_z w64 (of_z w64 (to_z w64 (of_z w64 (number_at c.loop-i.words j)) -ℤ to_z w64 (of_z w64
    (t *ℤ to_z w64 (of_z w64 (number_at c.args.other.now j)))))) in
    let is : x ≡ a -ℤ t *ℤ b = cc (
      to_z-of_z own,
      to_z-of_z other,
      to_z-of_z c.ranges.less,
      c.from-j.ensures,
      same,
      to_z-of_z (right a b (pos 1) c.args.less small),
      to_z-of_z (one_step_fits a b c.args.less small),
    ) in
    let made = one_listed _ _ _ _ _ c.requires.listed _ c.requires.top _ _ _ s room x
    (max c.args.top (bit_or c.loop-i.size size)) c.loop-i.auto.words c.requires.width (taken_some a b t x is)
    (omega (arith, c.unsigned_abs-size.ensures.value, le_or_r c.loop-i.size size))
    (omega (arith, le_or_l c.loop-i.size size)) (omega arith) in
    rw (← c.from-j.ensures) at made

pub returns-clause-divided : goal.returns-clause-divided
returns-clause-divided c =
    let end : c.loop-i.i ≡ c.args.count = omega arith in
    let s = rw (to_z-of_z c.ranges.less, end) at c.loop-i.invariant in
    all_listed _ _ _ _ _ c.requires.listed _ c.requires.top _ _ s

pub returns-clause-top : goal.returns-clause-top
returns-clause-top c = λ j.
    let end : c.loop-i.i ≡ c.args.count = omega arith in
    let s = rw (to_z-of_z c.ranges.less, end) at c.loop-i.invariant in
    let within = listed_within _ _ _ _ _ c.requires.listed _ c.requires.top _ _ s (omega arith) j in
    omega (
      arith,
      within,
      c.from.ensures,
      le_or_l c.args.top c.from.result,
      le_or_r c.args.top c.from.result,
    )
