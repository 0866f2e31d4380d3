use Rattle.std.proofs.Common.{◌≢◌, rules, ap, ◌∙◌, pos, nat_abs, SFits, to_z-of_z}
use Rattle.std.specs.Int.{int_signum}
use Rattle.stack_rational.proofs.Common.{w128}
use Rattle.stack_rows.specs.RowSeen.{numbers_of}
use Rattle.stack_rows.proofs.Taken.{taken_whole}
use Rattle.stack_rows.proofs.row.Row.divide_by.Goals as goal

pub returns-clause-ok : goal.returns-clause-ok
returns-clause-ok c =
    let row = numbers_of c.args.row.now in
    let n = c.args.number in
    let own = to_z-of_z c.ranges.number in
    let over : SFits w128 c.in_ok-over.over = search rules in
    let sign : SFits w128 c.signum.result = search rules in
    let some : n ≢ pos 0 = search rules in
    let size = to_z-of_z over ∙ c.in_ok-over.ensures.1 ∙ ap (λ z. pos (nat_abs z)) own in
    let one = to_z-of_z sign ∙ c.signum.ensures.value ∙ ap int_signum own in
    rw (c.find_marks.ensures.numbers, c.find_marks.ensures.under)
    (taken_whole row row (numbers_of c.change.new.self) n c.change.new.self.under some
    (rw (c.of.ensures.factors, size, one, c.requires.same) at c.in_ok-change.ensures.ok))
