use Rattle.stack_rational.proofs.integer.plus.Goals as goal

pub returns : goal.returns
returns g c = c.unless_least.ensures _ (g.met.T.CheckedAdd.checked_add_law _ _ _ c.checked_add.ensures)
