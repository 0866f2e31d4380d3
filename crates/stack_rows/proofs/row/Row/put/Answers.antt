use Rattle.std.proofs.Common.{◌≡◌, ◌∙◌, suc, length, arith, rules, [], ◌∷◌, ◌++◌, SFits, to_z-of_z}
use Rattle.std.proofs.lemmas.List.{length_push}
use Rattle.stack_rational.proofs.Common.{w128}
use Rattle.stack_rows.specs.RowForm.{number_at}
use Rattle.stack_rows.specs.EntriesSeen.{entries_of}
use Rattle.stack_rows.proofs.Sided.{topped, split_is}
use Rattle.stack_rows.proofs.row.Row.put.Goals as goal

pub invariant_of-self-clause-topped : goal.invariant_of-self-clause-topped
invariant_of-self-clause-topped c = topped (entries_of c.put.new.self) _ c.top-self.result c.top-self.ensures

pub returns-clause-numbers : goal.returns-clause-numbers
returns-clause-numbers c =
    let s = c.args.self.now in
    let n = c.count-count.result in
    let last : SFits w128 (number_at c.args.numbers.now n) = search rules in
    let long : length c.args.numbers.now ≡ suc n = omega (
      arith,
      c.requires.width,
      c.count-count.ensures.count,
      length_push (entries_of s.entries) s.right,
    ) in
    c.settle.ensures.numbers ∙ (λ i. c.put.ensures i ++ to_z-of_z last i ∷ []) ∙ split_is c.args.numbers.now n long
