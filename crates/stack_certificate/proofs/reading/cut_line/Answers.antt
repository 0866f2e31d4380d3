use Rattle.stack_certificate.specs.FaultLine.{cut}
use Rattle.stack_certificate.proofs.TextLines.{cut_some, cut_last}
use Rattle.stack_certificate.proofs.reading.cut_line.Goals as goal

pub returns-in-Some-clause-cut : goal.returns-in-Some-clause-cut
returns-in-Some-clause-cut c = cut_some _ _ _ c.in-Some.ensures.some.0 c.in-Some.ensures.some.1

pub returns-in-None-clause-cut : goal.returns-in-None-clause-cut
unfolding cut
returns-in-None-clause-cut c = cut_last _ c.requires c.in-None.ensures.none
