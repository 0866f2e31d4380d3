-- What is seen of the numbers of a row without its right side.
use Rattle.std.specs.Prelude.{List, ℤ}
use Rattle.stack_rows.specs.RowForm.{entries_in}
use Rattle.stack_rows.specs.declared.entries.Entries.{Entries}

-- the numbers, as words or as numbers of 128 bits
abbrev pub entries_of : Entries → List ℤ
entries_of e = entries_in e.wide e.numbers.items e.words.items
