-- The structure that a model is seen as.
use Rattle.stack_model.specs.declared.model.Model.{Model}
use Rattle.stack_model.specs.Structure.{Structure}

-- a clause sees a model as its structure already
abbrev pub model_view : Model → Structure
model_view m = m
