-- The contact columns as they grow by bearings, and the factor column.
use Rattle.std.specs.Prelude.{◌≡◌, ℕ, ◌*◌, ◌<◌, List, [], map, length, get_or, Option, Some, None}
use Rattle.std.specs.List.{AllByRecursion}
use Rattle.stack_contact.specs.Surveyed.{Surveyed}
use Rattle.stack_contact.specs.FreeBlocks.{frees_of}
use Rattle.stack_equilibrium.specs.declared.types.Question.{Question}
use Rattle.stack_equilibrium.specs.declared.types.Question.TheVariants.{Dead, Live}
use Rattle.stack_equilibrium.specs.SurveyScene.{scene_of}
use Rattle.stack_posing.specs.ByNumber.{live_on}
use Rattle.stack_table.specs.declared.problem.Column.{Column}
use Rattle.stack_table.specs.declared.problem.Entry.{Entry}
use Rattle.stack_posing.specs.Posed.{row_share, column_on}
use Rattle.stack_table.specs.declared.problem.Problem.{Problem as Lent}
use Rattle.stack_table.specs.Lent.{factor_entries}
use Rattle.stack_posing.specs.Entries.{AreEntries, AreSomething}

-- how many rows a survey's problem has, three for each free block: along x, along y and of moments
abbrev pub rows_of : Surveyed → ℕ
rows_of v = 3 * length (frees_of v.structure.bodies)

-- the entries of column j
abbrev pub entries_of : List Column → ℕ → List Entry
entries_of cs j = get_or (map (λ c. c.entries.items) cs) j []

-- no entry of the problem is 0
pub record IsLean (P : Lent) : Type 0 where
  pub contact : AllByRecursion (λ c. AreSomething c.entries.items) P.contact.items
  pub factor : AreSomething (factor_entries P.factor)

-- the columns of the first k bearings
pub record AreColumns (v : Surveyed) (k : ℕ) (cs : List Column) : Type 0 where
  pub count : length cs ≡ 2 * k
  pub columns : (j : ℕ) → j < 2 * k
      → AreEntries (rows_of v) (row_share (scene_of v) (column_on Dead (scene_of v) j)) (entries_of cs j)

-- the factor column has the entries of the live loads; there is none where the dead loads are asked about
abbrev pub AreFactorEntries : Question → Surveyed → Option Column → Type 0
AreFactorEntries Dead v o = o ≡ None
AreFactorEntries Live v None = ⊥
AreFactorEntries Live v (Some c) = AreEntries (rows_of v) (row_share (scene_of v)
    (live_on (scene_of v))) c.entries.items
