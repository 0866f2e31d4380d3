use Rattle.std.proofs.Common.{ap, ◌∙◌, map}
use Rattle.stack_model.specs.Raw.{raw_material, raw_block, raw_load}
use Rattle.stack_model.specs.Content.{content_of}
use Rattle.stack_overhang.specs.Stacks.{stack_on}
use Rattle.stack_overhang.proofs.Made.{has_none, made, stack_taken, first_of_version}
use Rattle.stack_overhang.proofs.stacks.stack.Goals as goal

pub model-requires-clause-none : goal.model-requires-clause-none
model-requires-clause-none c = has_none _ (stack_on c.args.table c.args.rows.now)
    (ap content_of c.first.ensures ∙ stack_taken c.args.table c.args.rows.now c.deref.result.now
    (map raw_material c.in_ok-materials.materials.items) (map raw_block c.in_ok-blocks.blocks.items)
    (map raw_load c.new.result.items)
    c.requires.table c.requires.rows (c.deref.ensures.value ∙ c.in_ok-bricks.ensures) c.in_ok-materials.ensures
    c.in_ok-blocks.ensures (ap (map raw_load) c.new.ensures.items))

pub model-requires-clause-version : goal.model-requires-clause-version
model-requires-clause-version c = first_of_version _ _ _ _ c.first.ensures

pub returns-clause-ok : goal.returns-clause-ok
returns-clause-ok c = made c.model.result _ (stack_on c.args.table c.args.rows.now)
    (ap content_of c.first.ensures ∙ stack_taken c.args.table c.args.rows.now c.deref.result.now
    (map raw_material c.in_ok-materials.materials.items) (map raw_block c.in_ok-blocks.blocks.items)
    (map raw_load c.new.result.items)
    c.requires.table c.requires.rows (c.deref.ensures.value ∙ c.in_ok-bricks.ensures) c.in_ok-materials.ensures
    c.in_ok-blocks.ensures (ap (map raw_load) c.new.ensures.items)) c.model.ensures.ok
