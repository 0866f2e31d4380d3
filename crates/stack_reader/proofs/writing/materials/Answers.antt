use Rattle.std.proofs.Common.{ap, ◌∙◌}
use Rattle.toml.specs.Data.{table}
use Rattle.toml.proofs.Views.{view-Table}
use Rattle.stack_model.specs.Relisted.{material_listed}
use Rattle.stack_reader.specs.Writing.{material_data}
use Rattle.stack_model.proofs.Filled.{more}
use Rattle.stack_reader.proofs.Filled.{all}
use Rattle.toml.specs.View.{view}
use Rattle.stack_reader.proofs.writing.materials.Goals as goal

pub loop-i-preserved : goal.loop-i-preserved
loop-i-preserved c =
    more view (λ x. table (material_data (material_listed x))) _ _ c.args.model.now.materials c.loop-i.i _ _
    c.in_ok-push.ensures.items
    (view-Table _ ∙ ap table c.in_ok-material_table.ensures)
    c.materials-i-end.ensures.value c.loop-i-test.true c.loop-i.invariant

pub returns : goal.returns
returns c =
    all (λ x. table (material_data x)) material_listed c.loop-i.list.items c.args.model.now.materials
    c.loop-i.i c.materials-i-end.ensures.value c.loop-i-test.false c.loop-i.invariant
