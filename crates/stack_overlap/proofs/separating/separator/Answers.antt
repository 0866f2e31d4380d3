use Rattle.stack_overlap.proofs.Separated.{overlapping, apart-first, apart-second}
use Rattle.stack_overlap.proofs.separating.separator.Goals as goal

pub returns-in-None-clause-overlap : goal.returns-in-None-clause-overlap
returns-in-None-clause-overlap c =
    overlapping _ _ c.first_separating.ensures.polygon c.first_separating-2.ensures.polygon
    c.in_default.ensures.first c.in-None.ensures.first

pub returns-in-Some-clause-apart : goal.returns-in-Some-clause-apart
returns-in-Some-clause-apart c = apart-first _ _ c.in-Some.ensures.other _ c.in-Some.ensures.first.separates

pub returns-in-Some-first_separating-clause-apart : goal.returns-in-Some-first_separating-clause-apart
returns-in-Some-first_separating-clause-apart c =
    apart-second _ _ c.first_separating.ensures.polygon _ c.in-Some-first_separating.ensures.first.separates
