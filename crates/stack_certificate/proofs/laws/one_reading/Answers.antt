use Rattle.stack_certificate.proofs.Readings.{reads, is_read, refuses, faulty}
use Rattle.stack_certificate.proofs.laws.one_reading.Goals as goal

pub returns-clause-reads : goal.returns-clause-reads
returns-clause-reads c = reads

pub returns-clause-is : goal.returns-clause-is
returns-clause-is c = is_read

pub returns-clause-refuses : goal.returns-clause-refuses
returns-clause-refuses c = refuses

pub returns-clause-faulty : goal.returns-clause-faulty
returns-clause-faulty c = faulty
