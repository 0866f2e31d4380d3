use Rattle.stack_yield.proofs.Gathered.{refuses, printable}
use Rattle.stack_yield.proofs.gathering.region.Goals as goal

pub returns-clause-refused : goal.returns-clause-refused
returns-clause-refused c = refuses c.args.s.now c.args.i c.args.j c.args.budget c.args.dirs.now c.gathered.result
    c.gathered.ensures.regions

pub returns-clause-printable : goal.returns-clause-printable
returns-clause-printable c = printable c.args.s.now c.args.i c.args.j c.args.budget c.gathered.result
    c.gathered.ensures.judged
