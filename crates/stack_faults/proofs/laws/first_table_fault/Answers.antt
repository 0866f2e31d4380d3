use Rattle.stack_reader.specs.Shape.{parts_of_document}
use Rattle.stack_reader.specs.Reading.{model_of}
use Rattle.stack_faults.specs.TableFaults.{shape_faults, table_faults}
use Rattle.stack_faults.proofs.Firsts.{faultless}
use Rattle.stack_faults.proofs.TableAnswers.{shape_told}
use Rattle.stack_faults.proofs.FileAnswers.{table_first}
use Rattle.stack_faults.proofs.laws.first_table_fault.Goals as goal

pub returns-clause-shape : goal.returns-clause-shape
returns-clause-shape _ = shape_told

pub returns-clause-shape_faultless : goal.returns-clause-shape_faultless
returns-clause-shape_faultless _ = λ ms. faultless (parts_of_document ms) (shape_faults ms) (shape_told ms)

pub returns-clause-first : goal.returns-clause-first
returns-clause-first _ = table_first

pub returns-clause-faultless : goal.returns-clause-faultless
returns-clause-faultless _ = λ ms. faultless (model_of ms) (table_faults ms) (table_first ms)
