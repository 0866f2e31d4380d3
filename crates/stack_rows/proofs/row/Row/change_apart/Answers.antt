use Rattle.std.proofs.Common.{◌≡◌, ◌∙◌, rules, ◌*ℤ◌, SFits, to_z-of_z, Option, Some, None, OnSome}
use Rattle.stack_rational.proofs.Common.{w128}
use Rattle.stack_rows.specs.EntriesSeen.{entries_of}
use Rattle.stack_rows.proofs.Casts.{lesser_fit}
use Rattle.stack_rows.proofs.Sided.{taken_apart, within_top, without_sides}
use Rattle.stack_rows.proofs.row.Row.change_apart.Goals as goal

-- what follows of what holds of an answer
on_some : {A : Type 0} (o : Option A) (P Q : Type 0) → (P → Q) → OnSome o P → OnSome o Q
on_some (Some x) P Q h k = h k
on_some None P Q h k = tt

pub step-made-requires-clause-width : goal.step-made-requires-clause-width
step-made-requires-clause-width c =
    let s = c.args.self.now in
    let o = c.args.other.now in
    without_sides (entries_of s.entries) (entries_of o.entries) s.right o.right c.requires.width

pub step-made-requires-clause-fit : goal.step-made-requires-clause-fit
step-made-requires-clause-fit c = λ e j.
    let s = c.args.self.now in
    let o = c.args.other.now in
    let f = c.args.s.now.factors in
    rw c.requires.numbers
    (lesser_fit f.times f.less (within_top (entries_of s.entries) s.right s.top s.topped j)
    (within_top (entries_of o.entries) o.right o.top o.topped j) (c.fit-fit.ensures e))

pub returns-clause-ok : goal.returns-clause-ok
returns-clause-ok c =
    let s = c.args.self.now in
    let o = c.args.other.now in
    let f = c.args.s.now.factors in
    let now = entries_of c.step-made.new.self in
    let new = c.put_right.new.self in
    let by = c.in_ok-by.by in
    let by_fits : SFits w128 by = search rules in
    let under : SFits w128 c.in_ok-under.under = search rules in
    let whole : c.in_ok-under.under *ℤ by ≡ c.args.over = cc (
      to_z-of_z by_fits,
      to_z-of_z c.ranges.over,
      c.in_ok-under.ensures,
    ) in
    let divided = rw c.in_ok-by.was at c.step-made.ensures.ok in
    let width = without_sides now (entries_of new.entries) s.right new.right c.put_right.ensures.width
    ∙ c.step-made.ensures.width in
    on_some c.put_right.result _ _ (λ put. taken_apart (entries_of s.entries) (entries_of o.entries)
    (entries_of new.entries) s.right o.right new.right f.times f.less
    (without_sides (entries_of s.entries) (entries_of o.entries) s.right o.right c.requires.width) width now by
    c.in_ok-under.under _ _ c.args.over new.under divided whole c.requires.right put)
    (rw (to_z-of_z under) at c.put_right.ensures.ok)
