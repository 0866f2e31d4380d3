use Rattle.std.proofs.Common.{◌≡◌, sym, ap, subst, ◌∙◌, rules, List, ℤ, pos, ◌<ℤ◌, ◌*ℤ◌, SFits, to_z, of_z, to_z-of_z}
use Rattle.stack_rational.proofs.Common.{w128}
use Rattle.stack_rows.specs.RowForm.{number_at, AreWithinTop}
use Rattle.stack_rows.specs.EntriesSeen.{entries_of}
use Rattle.stack_rows.proofs.Sided.{topped}
use Rattle.stack_rows.proofs.row.Row.put_right.Goals as goal

pub invariant_of-self : goal.invariant_of-self
invariant_of-self c = record {
  positive = c.args.self.now.positive;
  topped = topped (entries_of c.multiply-made.new.self) c.args.self.now.right c.multiply-made.result.top
      c.multiply-made.ensures.top;
}

pub settle-requires : goal.settle-requires
settle-requires c = subst (λ (xs : List ℤ). AreWithinTop xs c.multiply-made.result.top) (sym c.find_marks.ensures)
    c.multiply-made.ensures.top

pub invariant_of-self-2 : goal.invariant_of-self-2
invariant_of-self-2 c =
    let u = c.in_ok-raised.raised.under in
    let under : SFits w128 u = search rules in
    record {
      positive = subst (λ z. pos 0 <ℤ z) (sym (to_z-of_z under)) c.in_ok-raised.ensures.positive;
      topped = topped (entries_of c.settle.new.self) (to_z w128 (of_z w128 c.in_ok-number.number))
          c.multiply-made.result.top
          (subst (λ (xs : List ℤ). AreWithinTop xs c.multiply-made.result.top)
          (sym (c.settle.ensures ∙ c.find_marks.ensures)) c.multiply-made.ensures.top);
    }

pub returns-clause-ok : goal.returns-clause-ok
returns-clause-ok c =
    let raised = c.in_ok-raised.raised in
    let told = c.in_ok-raised.ensures in
    let right = c.args.right in
    let under : SFits w128 raised.under = search rules in
    let more : SFits w128 raised.more = search rules in
    let part : SFits w128 raised.part = search rules in
    let number : SFits w128 c.in_ok-number.number = search rules in
    let own : SFits w128 c.parts.result.0 = search rules in
    let after : ℤ = to_z w128 (of_z w128 raised.under) in
    let times : ℤ = to_z w128 (of_z w128 raised.more) in
    let is_under : after ≡ c.args.under *ℤ times = cc (
      to_z-of_z under,
      to_z-of_z more,
      to_z-of_z c.ranges.under,
      told.under,
    ) in
    let is_whole : raised.part *ℤ pos right.den ≡ after = cc (to_z-of_z under, told.part) in
    let is_right : to_z w128 (of_z w128 c.in_ok-number.number) ≡ raised.part *ℤ right.num = cc (
      to_z-of_z number,
      to_z-of_z part,
      to_z-of_z own,
      c.in_ok-number.ensures.1,
      c.parts.ensures.num,
    ) in
    let made = rw c.in_ok-made.was at c.multiply-made.ensures.ok in
    let same = rw c.in_ok-made.was at c.multiply-made.ensures.by in
    record {
      more = times;
      part = raised.part;
      positive = subst (λ z. pos 0 <ℤ z) (sym (to_z-of_z under)) told.positive;
      under = is_under;
      whole = is_whole;
      before = λ j. ap (λ (xs : List ℤ). number_at xs j) (c.settle.ensures ∙ c.find_marks.ensures) ∙ made j
          ∙ ap (λ z. number_at (entries_of c.args.self.now.entries) j *ℤ z) same;
      right = is_right;
    }
