use Rattle.std.proofs.Common.{◌∙◌}
use Rattle.stack_rational.proofs.Crosswise.{told}
use Rattle.stack_rational.proofs.OverCommon.{sum, total-too_wide, sum-fits, sum-value, total-inner, total-outer}
use Rattle.stack_rational.proofs.frac.Frac.sum_over_common.Goals as goal

-- a number that is too wide
pub returns-in_default-clause-err : goal.returns-in_default-clause-err
returns-in_default-clause-err g c = λ f. c.in_default.ensures ((sum c.self.invariant.stored c.other.invariant.stored
    c.self.view_is c.other.view_is c.shared.ensures).at f).den

pub returns-in_default-times-clause-err : goal.returns-in_default-times-clause-err
returns-in_default-times-clause-err g c = λ f. c.in_default-times.ensures
    ((sum c.self.invariant.stored c.other.invariant.stored
    c.self.view_is c.other.view_is c.shared.ensures).at f).left

pub returns-in_default-times-2-clause-err : goal.returns-in_default-times-2-clause-err
returns-in_default-times-2-clause-err g c = λ f. c.in_default-times-2.ensures
    ((sum c.self.invariant.stored c.other.invariant.stored
    c.self.view_is c.other.view_is c.shared.ensures).at f).right

pub returns-in_default-plus-clause-err : goal.returns-in_default-plus-clause-err
returns-in_default-plus-clause-err g c = total-too_wide (sum c.self.invariant.stored c.other.invariant.stored
    c.self.view_is c.other.view_is c.shared.ensures)
    c.in-Some-times.ensures c.in-Some-times-2.ensures c.in_default-plus.ensures

-- what is left in common
pub reduced_by-requires-clause-inner : goal.reduced_by-requires-clause-inner
reduced_by-requires-clause-inner g c = total-inner (sum c.self.invariant.stored c.other.invariant.stored
    c.self.view_is c.other.view_is c.shared.ensures) c.in-Some.ensures

pub reduced_by-requires-clause-outer : goal.reduced_by-requires-clause-outer
reduced_by-requires-clause-outer g c = total-outer (sum c.self.invariant.stored c.other.invariant.stored
    c.self.view_is c.other.view_is c.shared.ensures)
    c.in-Some.ensures c.in-Some-times.ensures c.in-Some-times-2.ensures c.in-Some-plus.ensures

-- what is made is the sum
pub returns-clause-ok : goal.returns-clause-ok
returns-clause-ok g c = c.reduced_by.ensures ∙ sum-value (sum c.self.invariant.stored c.other.invariant.stored
    c.self.view_is c.other.view_is c.shared.ensures)
    c.in-Some.ensures c.in-Some-times.ensures c.in-Some-times-2.ensures c.in-Some-plus.ensures

pub returns-clause-fits : goal.returns-clause-fits
returns-clause-fits g c = sum-fits (sum c.self.invariant.stored c.other.invariant.stored
    c.self.view_is c.other.view_is c.shared.ensures)
    c.in-Some.ensures c.in-Some-times.ensures c.in-Some-times-2.ensures c.in-Some-plus.ensures

-- the sizes
pub shared-requires-clause-a : goal.shared-requires-clause-a
shared-requires-clause-a g c = c.self.invariant.stored.den

pub shared-requires-clause-d : goal.shared-requires-clause-d
shared-requires-clause-d g c = (c.other.invariant.stored.den, c.other.invariant.stored.lowest.positive)

pub reduced_by-requires-clause-num : goal.reduced_by-requires-clause-num
reduced_by-requires-clause-num g c = told g.T.Integer.MAX _ _ c.in-Some-plus.ensures

pub reduced_by-requires-clause-den : goal.reduced_by-requires-clause-den
reduced_by-requires-clause-den g c = told g.T.Integer.MAX _ _ c.in-Some.ensures

pub reduced_by-requires-clause-by : goal.reduced_by-requires-clause-by
reduced_by-requires-clause-by g c = (c.shared.ensures.size, c.shared.ensures.positive)
