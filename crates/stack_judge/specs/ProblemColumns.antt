-- The columns of the problem of a survey, all but the right side: two for each bearing, one for the live loads if these
-- are asked about, and three for each free block.
use Rattle.std.specs.Prelude.{◌≡◌, ℕ, ◌+◌, ◌*◌, length}
use Rattle.stack_contact.specs.FreeBlocks.{frees_of}
use Rattle.stack_contact.specs.Surveyed.{Surveyed}
use Rattle.stack_equilibrium.specs.declared.types.Question.{Question}
use Rattle.stack_equilibrium.specs.declared.types.Question.TheVariants.{Dead, Live}
use Rattle.stack_equilibrium.specs.SurveyScene.{scene_of}
use Rattle.stack_table.specs.Table.{columns}
use Rattle.stack_posing.specs.Posed.{posed}

-- the live loads have one column if they are asked about, else none
abbrev pub live_columns : Question → ℕ
live_columns Dead = 0
live_columns Live = 1

-- the columns of all bearings, of the live loads and of all free blocks
abbrev pub problem_columns : Question → Surveyed → ℕ
problem_columns q v = 2 * length v.bearings + live_columns q + 3 * length (frees_of v.structure.bodies)

-- the written table of a survey's problem has these columns
abbrev pub TablesHaveThese : Type 0
TablesHaveThese = (q : Question) (v : Surveyed) → columns (posed q (scene_of v)).shape ≡ problem_columns q v
