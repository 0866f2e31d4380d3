-- What is seen of a row.
use Rattle.std.specs.Prelude.{List, [], ◌∷◌, ◌++◌, ℤ}
use Rattle.stack_rows.specs.EntriesSeen.{entries_of}
use Rattle.stack_rows.specs.declared.row.Row.{Row}

-- all its numbers, the right side last
abbrev pub numbers_of : Row → List ℤ
numbers_of r = entries_of r.entries ++ r.right ∷ []
