use Rattle.stack_rational.proofs.Fitting.{answer_fits, small_fits, whole_too_wide_at_widest}
use Rattle.stack_rational.proofs.laws.fraction_fitting_law.Goals as goal

pub returns-clause-answers : goal.returns-clause-answers
returns-clause-answers c = answer_fits

pub returns-clause-small : goal.returns-clause-small
returns-clause-small c = small_fits

pub returns-clause-widest : goal.returns-clause-widest
returns-clause-widest c = whole_too_wide_at_widest
