-- Bricks in rows, and the parts of a model that they are: rectangles, corner lists, names.
use Rattle.std.specs.Prelude.{ℕ, ◌+◌, pos, ◌+ℤ◌, ◌*ℤ◌, List, [], ◌∷◌, ◌++◌, get_or, flat_map, codes, decimal}
use Rattle.stack_algebra.specs.Listed.{listed}
use Rattle.stack_polygon.specs.declared.point.Point.{Point}
use Rattle.stack_overhang.specs.declared.types.Rectangle.{Rectangle}
use Rattle.stack_overhang.specs.declared.types.BrickRow.{BrickRow}

-- the corners of a rectangle, from its lower left one, counter-clockwise
abbrev pub rectangle_corners : Rectangle → List Point
rectangle_corners r =
    record { x = r.left; y = r.bottom } ∷ record { x = r.right; y = r.bottom }
    ∷ record { x = r.right; y = r.top } ∷ record { x = r.left; y = r.top } ∷ []

-- brick j of a row, from 0 at its left
abbrev pub brick_of : BrickRow → ℕ → Rectangle
brick_of r j = record {
  left = r.left +ℤ r.long *ℤ pos j;
  bottom = r.bottom;
  right = r.left +ℤ r.long *ℤ pos j +ℤ r.long;
  top = r.bottom +ℤ r.high;
}

-- all bricks of a row, from its left
abbrev pub bricks_in : BrickRow → List Rectangle
bricks_in r = listed r.count (brick_of r)

-- the bricks of all rows from the bottom, in each row from the left
abbrev pub bricks_of : List BrickRow → List Rectangle
bricks_of rows = flat_map bricks_in rows

-- a rectangle by its number; past the end stands one that means nothing
abbrev pub brick_at : List Rectangle → ℕ → Rectangle
brick_at bricks k = get_or bricks k (record { left = pos 0; bottom = pos 0; right = pos 0; top = pos 0 })

-- the name of brick k, from 0: `b` and its number from 1
abbrev pub brick_name : ℕ → List ℕ
brick_name k = codes "b" ++ decimal (k + 1)
