use Rattle.std.proofs.Common.{◌∙◌}
use Rattle.stack_rational.proofs.Crosswise.{product, parts-stored, parts-value, parts-fit, num-too_wide, den-too_wide}
use Rattle.stack_rational.proofs.frac.Frac.product_crosswise.Goals as goal

pub made-requires : goal.made-requires
made-requires g c = parts-stored (product c.self.invariant.stored
    c.other.invariant.stored c.self.view_is c.other.view_is c.shared-a.ensures c.shared-c.ensures)
    c.in-Some.ensures c.in-Some-den.ensures

pub returns-in-Some-den-clause-ok : goal.returns-in-Some-den-clause-ok
returns-in-Some-den-clause-ok g c = c.made.ensures ∙ parts-value g.T.Integer.MAX (product c.self.invariant.stored
    c.other.invariant.stored c.self.view_is c.other.view_is c.shared-a.ensures c.shared-c.ensures)
    c.in-Some.ensures c.in-Some-den.ensures

pub returns-in-Some-den-clause-fits : goal.returns-in-Some-den-clause-fits
returns-in-Some-den-clause-fits g c = parts-fit (product c.self.invariant.stored
    c.other.invariant.stored c.self.view_is c.other.view_is c.shared-a.ensures c.shared-c.ensures)
    c.in-Some.ensures c.in-Some-den.ensures

pub returns-in-None-den-clause-err : goal.returns-in-None-den-clause-err
returns-in-None-den-clause-err g c = den-too_wide (product c.self.invariant.stored
    c.other.invariant.stored c.self.view_is c.other.view_is c.shared-a.ensures c.shared-c.ensures)
    c.in-None-den.ensures

pub returns-in-None-clause-err : goal.returns-in-None-clause-err
returns-in-None-clause-err g c = num-too_wide (product c.self.invariant.stored
    c.other.invariant.stored c.self.view_is c.other.view_is c.shared-a.ensures c.shared-c.ensures)
    c.in-None.ensures
