-- Harmonic stacks, inverted triangles and slabs, after Paterson and Zwick, "Overhang" (2009). Bricks without friction
-- on a table whose right end is at 0.
use Rattle.std.specs.Prelude.{ℕ, ◌+◌, ◌-◌, ◌*◌, ◌/◌, ◌%◌, ℤ, pos, negsuc, ◌-ℤ◌, ◌*ℤ◌, neg_ℤ, List, [], ◌∷◌}
use Rattle.std.specs.Prelude.{length, get_or, flat_map, codes}
use Rattle.stack_algebra.specs.Sums.{sum_to}
use Rattle.stack_algebra.specs.Listed.{listed}
use Rattle.stack_model.specs.Structure.{Structure}
use Rattle.stack_overhang.specs.declared.types.Rectangle.{Rectangle}
use Rattle.stack_overhang.specs.declared.types.BrickRow.{BrickRow}
use Rattle.stack_overhang.specs.Bricks.{bricks_of}
use Rattle.stack_overhang.specs.Built.{built}

-- rows of bricks on a table
abbrev pub stack_on : Rectangle → List BrickRow → Structure
stack_on table rows = built (pos 0) (pos 1) (codes "table") table (bricks_of rows) []

-- Of a harmonic stack of n bricks, the right end of brick i, from 1 at the bottom: the sum of 2520/k for k from n down
-- to n - i + 1, each whole up to 10 bricks
abbrev pub right_end_of : ℕ → ℕ → ℤ
right_end_of n i = sum_to i (λ j. pos (2520 / (n - j)))

-- brick i alone, 5,040 long and 1,000 high
abbrev pub harmonic_row : ℕ → ℕ → BrickRow
harmonic_row n i = record {
  left = right_end_of n i -ℤ pos 5040;
  bottom = pos 1000 *ℤ pos (i - 1);
  count = 1;
  long = pos 5040;
  high = pos 1000;
}

-- bricks 1 to n, from the bottom, each a row by itself
abbrev pub harmonic_rows : ℕ → List BrickRow
harmonic_rows n = listed n (λ k. harmonic_row n (k + 1))

-- the table of such bricks: twice as long as one and as high, with its upper right corner at (0, 0)
abbrev pub long_table : Rectangle
long_table = record { left = negsuc 10079; bottom = negsuc 999; right = pos 0; top = pos 0 }

-- n such bricks on that table
abbrev pub harmonic_of : ℕ → Structure
harmonic_of n = stack_on long_table (harmonic_rows n)

-- Row i, from 1 at the bottom, of c bricks 2 long and 1 high: its middle is the table's end
abbrev pub centred : ℕ → ℕ → BrickRow
centred i c = record {
  left = neg_ℤ (pos c);
  bottom = pos (i - 1);
  count = c;
  long = pos 2;
  high = pos 1;
}

-- the rows with these numbers of bricks, from the bottom
abbrev pub brick_rows : List ℕ → List BrickRow
brick_rows counts = listed (length counts) (λ k. centred (k + 1) (get_or counts k 0))

-- the table of such rows: 20 long and 1 high, with its upper right corner at (0, 0)
abbrev pub short_table : Rectangle
short_table = record { left = negsuc 19; bottom = negsuc 0; right = pos 0; top = pos 0 }

-- an inverted triangle: 1, 2, .. m bricks
abbrev pub triangle_counts : ℕ → List ℕ
triangle_counts m = listed m (λ k. k + 1)

-- the inverted triangle of m rows on the short table
abbrev pub triangle_stack : ℕ → Structure
triangle_stack m = stack_on short_table (brick_rows (triangle_counts m))

-- the 2r - 3 rows r, r - 1, r, .. r of a slab
abbrev pub layer_of : ℕ → List ℕ
layer_of r = listed (2 * r - 3) (λ t. r - t % 2)

-- a slab: 1 brick, and such rows for each r from 2 to d
abbrev pub slab_counts : ℕ → List ℕ
slab_counts d = 1 ∷ flat_map layer_of (listed (d - 1) (λ k. k + 2))

-- the slab whose widest rows have d bricks, on the short table
abbrev pub slab_of : ℕ → Structure
slab_of d = stack_on short_table (brick_rows (slab_counts d))
