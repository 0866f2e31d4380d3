use Rattle.std.proofs.Common.{ap, ◌∙◌}
use Rattle.stack_rational.proofs.Common.{fraction_fits}
use Rattle.stack_rational.proofs.Fitting.{minus_one-fits, whole_answers}
use Rattle.stack_table.proofs.objective.minus_one.Goals as goal

pub unreachable-requires : goal.unreachable-requires
unreachable-requires g c = let h = minus_one-fits g.S.Exact.MAX g.met.S.Exact.max_law in
    let k = c.in-Err.ensures.wide in cc

pub returns-clause-fits : goal.returns-clause-fits
returns-clause-fits g c = ap (fraction_fits g.S.Exact.MAX) c.in-Ok.ensures.ok
    ∙ whole_answers g.S.Exact.MAX g.met.S.Exact.max_law _ c.in-Ok.ensures.fits
