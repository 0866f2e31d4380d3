use Rattle.std.proofs.Common.{sym, ◌∙◌, arith, rules, SFits, to_z-of_z}
use Rattle.stack_rational.proofs.Common.{w128}
use Rattle.std.proofs.lemmas.List.{length_push}
use Rattle.stack_rows.specs.EntriesSeen.{entries_of}
use Rattle.stack_rows.proofs.Sided.{before_is, side_is}
use Rattle.stack_rows.proofs.row.Row.number.Goals as goal

pub returns-then-j-count : goal.returns-then-j-count
returns-then-j-count c =
    let s = c.args.self.now in
    let at : SFits w128 c.at.result = search rules in
    to_z-of_z at ∙ c.at.ensures ∙ sym (before_is (entries_of s.entries) s.right c.args.j
    (omega (arith, c.if-j-count.true, c.count.ensures.count)))

pub returns-else-j-count : goal.returns-else-j-count
returns-else-j-count c =
    let s = c.args.self.now in
    let right : SFits w128 s.right = search rules in
    to_z-of_z right ∙ sym (side_is (entries_of s.entries) s.right c.args.j (omega (
      arith,
      c.if-j-count.false,
      c.count.ensures.count,
      c.requires,
      length_push (entries_of s.entries) s.right,
    )))
