use Rattle.std.proofs.Common.{rules}
use Rattle.stack_reader.proofs.Documents.{table_read, no_table}
use Rattle.stack_reader.proofs.reading.document.Goals as goal

pub returns-in-Ok : goal.returns-in-Ok
returns-in-Ok c = table_read _ _ c.in-Ok.ensures.ok

pub returns-else-is_memory : goal.returns-else-is_memory
returns-else-is_memory c = no_table c.args.text.now
    (λ u. c.in-Err.ensures.refused (λ m. let t = c.is_memory.ensures.1 m in absurd (search rules)) u)
