use Rattle.stack_certificate.proofs.DigitsSpelled.{written, spelling_written}
use Rattle.stack_certificate.proofs.laws.spelled_by_digits.Goals as goal

pub returns-clause-one : goal.returns-clause-one
returns-clause-one c = written

pub returns-clause-is : goal.returns-clause-is
returns-clause-is c = spelling_written
