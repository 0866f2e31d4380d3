use Rattle.stack_model.specs.Raw.{raw_parts}
use Rattle.toml.specs.View.{table_view}
use Rattle.stack_reader.proofs.Versions.{of_version}
use Rattle.stack_reader.proofs.shape.shape.Goals as goal

pub returns-in-Ok-clause-version : goal.returns-in-Ok-clause-version
returns-in-Ok-clause-version c = of_version (table_view c.args.table.now) (raw_parts c.in-Ok.parts) c.in-Ok.ensures
