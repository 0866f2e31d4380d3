-- The condition of a table as a test of the problem that is lent.
use Rattle.std.specs.Prelude.{ℕ, suc, Bool, true, ◌&&◌, nat_eq, nat_lt, nat_le, List, [], ◌∷◌, length, ℤ, unsigned_abs}
use Rattle.stack_whole.specs.Limits.{most_rows, most_contact_columns, load_bound}
use Rattle.stack_table.specs.declared.problem.Entry.{Entry}
use Rattle.stack_table.specs.declared.problem.Column.{Column}
use Rattle.stack_table.specs.declared.problem.Problem.{Problem as Lent}
use Rattle.stack_table.specs.Lent.{factor_entries}

-- whether a number is below the bound of loads in size
abbrev pub is_small : ℤ → Bool
is_small z = nat_lt (unsigned_abs z) load_bound

-- whether these are small entries in rising rows, from row `from` on and below `rows`
abbrev pub is_column : (rows from : ℕ) → List Entry → Bool
is_column rows from [] = true
is_column rows from (x ∷ xs) =
    nat_le from x.row && (nat_lt x.row rows && (is_small x.value && is_column rows (suc x.row) xs))

-- whether each of these columns has such entries, from row 0 on
abbrev pub are_columns : ℕ → List Column → Bool
are_columns rows [] = true
are_columns rows (c ∷ cs) = is_column rows 0 c.entries.items && are_columns rows cs

-- whether all of these numbers are small
abbrev pub are_small : List ℤ → Bool
are_small [] = true
are_small (z ∷ zs) = is_small z && are_small zs

-- rows and contact columns within their numbers, a small right side for each row, and such columns only
abbrev pub is_sound : Lent → Bool
is_sound P = nat_le P.rows most_rows && (nat_le (length P.contact.items) most_contact_columns
    && (nat_eq (length P.right.items) P.rows && (are_small P.right.items
    && (are_columns P.rows P.contact.items && is_column P.rows 0 (factor_entries P.factor)))))
