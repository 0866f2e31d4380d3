use Rattle.stack_reader.specs.Reading.{structure_of}
use Rattle.stack_faults.specs.TableFaults.{file_faults}
use Rattle.stack_faults.proofs.Firsts.{faultless}
use Rattle.stack_faults.proofs.FileAnswers.{file_first}
use Rattle.stack_faults.proofs.laws.first_file_fault.Goals as goal

pub returns-clause-first : goal.returns-clause-first
returns-clause-first _ = file_first

pub returns-clause-faultless : goal.returns-clause-faultless
returns-clause-faultless _ = λ bytes. faultless (structure_of bytes) (file_faults bytes) (file_first bytes)
