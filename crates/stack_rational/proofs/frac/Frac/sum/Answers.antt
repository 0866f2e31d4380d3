use Rattle.std.proofs.Common.{sym, ◌∙◌}
use Rattle.stack_rational.proofs.Common.{dvd_refl}
use Rattle.stack_rational.proofs.Crosswise.{stored-fits, told}
use Rattle.stack_rational.proofs.ShortCuts.{zero_plus, plus_zero, zero_plus_fits, plus_zero_fits, stored_zero}
use Rattle.stack_rational.proofs.ShortCuts.{stored_sum, stored_sum_fits, stored_sum_too_wide}
use Rattle.stack_rational.proofs.frac.Frac.sum.Goals as goal

pub returns-then-is_zero-clause-ok : goal.returns-then-is_zero-clause-ok
returns-then-is_zero-clause-ok g c = zero_plus c.args.self c.args.other
    (stored_zero _ _ _ _ c.self.invariant.stored c.self.view_is
    ((c.is_zero.ensures.value g.met.T.Integral.exact_law).0 c.if-is_zero.true))

pub returns-then-is_zero-clause-fits : goal.returns-then-is_zero-clause-fits
returns-then-is_zero-clause-fits g c = zero_plus_fits g.T.Integer.MAX c.args.self c.args.other
    (stored-fits _ _ _ _ c.other.invariant.stored c.other.view_is)
    (stored_zero _ _ _ _ c.self.invariant.stored c.self.view_is
    ((c.is_zero.ensures.value g.met.T.Integral.exact_law).0 c.if-is_zero.true))

pub returns-then-is_zero-2-clause-ok : goal.returns-then-is_zero-2-clause-ok
returns-then-is_zero-2-clause-ok g c = plus_zero c.args.self c.args.other
    (stored_zero _ _ _ _ c.other.invariant.stored c.other.view_is
    ((c.is_zero-2.ensures.value g.met.T.Integral.exact_law).0 c.if-is_zero-2.true))

pub returns-then-is_zero-2-clause-fits : goal.returns-then-is_zero-2-clause-fits
returns-then-is_zero-2-clause-fits g c = plus_zero_fits g.T.Integer.MAX c.args.self c.args.other
    (stored-fits _ _ _ _ c.self.invariant.stored c.self.view_is)
    (stored_zero _ _ _ _ c.other.invariant.stored c.other.view_is
    ((c.is_zero-2.ensures.value g.met.T.Integral.exact_law).0 c.if-is_zero-2.true))

pub returns-in-Some-clause-ok : goal.returns-in-Some-clause-ok
returns-in-Some-clause-ok g c = c.reduced_by.ensures
    ∙ stored_sum g.T.Integer.MAX _ _ _ _ _ c.args.self c.args.other c.self.invariant.stored
    c.other.invariant.stored c.self.view_is c.other.view_is
    ((g.met.T.Number.eq_law _ _ g.met.T.Integral.exact_law).0 (sym c.eq.ensures
    ∙ c.if-eq.true)) c.in-Some.ensures.1

pub returns-in-Some-clause-fits : goal.returns-in-Some-clause-fits
returns-in-Some-clause-fits g c = stored_sum_fits g.T.Integer.MAX _ _ _ _ c.args.self c.args.other
    c.self.invariant.stored c.other.invariant.stored c.self.view_is c.other.view_is
    ((g.met.T.Number.eq_law _ _ g.met.T.Integral.exact_law).0 (sym c.eq.ensures
    ∙ c.if-eq.true)) c.in-Some.ensures.0

pub returns-in-None-clause-err : goal.returns-in-None-clause-err
returns-in-None-clause-err g c = stored_sum_too_wide g.T.Integer.MAX _ _ _ _ c.args.self c.args.other
    c.self.invariant.stored c.other.invariant.stored c.self.view_is c.other.view_is
    ((g.met.T.Number.eq_law _ _ g.met.T.Integral.exact_law).0 (sym c.eq.ensures
    ∙ c.if-eq.true)) c.in-None.ensures

-- what `reduced_by` asks
pub reduced_by-requires-clause-num : goal.reduced_by-requires-clause-num
reduced_by-requires-clause-num g c = told g.T.Integer.MAX _ _ c.in-Some.ensures

pub reduced_by-requires-clause-den : goal.reduced_by-requires-clause-den
reduced_by-requires-clause-den g c = c.self.invariant.stored.den

pub reduced_by-requires-clause-by : goal.reduced_by-requires-clause-by
reduced_by-requires-clause-by g c = (c.self.invariant.stored.den, c.self.invariant.stored.lowest.positive)

pub reduced_by-requires-clause-inner : goal.reduced_by-requires-clause-inner
reduced_by-requires-clause-inner g c = (c.self.invariant.stored.lowest.positive, dvd_refl _)

pub reduced_by-requires-clause-outer : goal.reduced_by-requires-clause-outer
reduced_by-requires-clause-outer g c = λ e h k. k
