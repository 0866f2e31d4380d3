use Rattle.stack_rational.proofs.integer.times.Goals as goal

pub returns : goal.returns
returns g c = c.unless_least.ensures _ (g.met.T.CheckedMul.checked_mul_law _ _ _ c.checked_mul-product.ensures)
