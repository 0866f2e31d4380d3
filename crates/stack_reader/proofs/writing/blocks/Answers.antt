use Rattle.std.proofs.Common.{ap, ◌∙◌}
use Rattle.toml.specs.Data.{table}
use Rattle.toml.proofs.Views.{view-Table}
use Rattle.stack_model.specs.Relisted.{body_listed}
use Rattle.stack_reader.specs.Writing.{block_data}
use Rattle.stack_model.proofs.Filled.{more}
use Rattle.stack_reader.proofs.Filled.{all}
use Rattle.toml.specs.View.{view}
use Rattle.stack_reader.proofs.writing.blocks.Goals as goal

pub loop-i-preserved : goal.loop-i-preserved
loop-i-preserved c =
    more view (λ x. table (block_data (body_listed c.args.model.now.materials x))) _ _ c.args.model.now.bodies
    c.loop-i.i _ _ c.in_ok-push.ensures.items
    (view-Table _ ∙ ap table c.in_ok-block_table.ensures)
    c.bodies-i-end.ensures.value c.loop-i-test.true c.loop-i.invariant

pub returns-clause-value : goal.returns-clause-value
returns-clause-value c =
    all (λ x. table (block_data x)) (body_listed c.args.model.now.materials) c.loop-i.list.items
    c.args.model.now.bodies c.loop-i.i c.bodies-i-end.ensures.value c.loop-i-test.false c.loop-i.invariant
