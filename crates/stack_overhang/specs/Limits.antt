-- When bricks on a base have no fault of content: the tests that a built-in model passes.
use Rattle.std.specs.Prelude.{pos, ◌≤◌, ◌+ℤ◌, ◌*ℤ◌, Bool, ◌&&◌, List, length, nat_le, int_lt}
use Rattle.std.specs.List.{list_all}
use Rattle.stack_polygon.specs.Limits.{is_near}
use Rattle.stack_whole.specs.Limits.{most_free}
use Rattle.stack_overhang.specs.declared.types.Rectangle.{Rectangle}
use Rattle.stack_overhang.specs.declared.types.BrickRow.{BrickRow}
use Rattle.stack_overhang.specs.declared.types.Wall.{Wall}
use Rattle.stack_overhang.specs.Bricks.{bricks_of}

-- a rectangle has an area, and its corners are in range
abbrev pub is_placed : Rectangle → Bool
is_placed r =
    (int_lt r.left r.right && int_lt r.bottom r.top)
    && ((is_near r.left && is_near r.right) && (is_near r.bottom && is_near r.top))

-- all bricks of a row are such rectangles
abbrev pub is_row : BrickRow → Bool
is_row r =
    (int_lt (pos 0) r.long && int_lt (pos 0) r.high)
    && ((is_near r.left && is_near (r.left +ℤ r.long *ℤ pos r.count))
    && (is_near r.bottom && is_near (r.bottom +ℤ r.high)))

-- all bricks of each of these rows are such rectangles
abbrev pub are_rows : List BrickRow → Bool
are_rows rows = list_all is_row rows

-- all bricks of these rows are such rectangles, and few enough
abbrev pub are_laid : List BrickRow → Bool
are_laid rows = are_rows rows && nat_le (length (bricks_of rows)) most_free

-- what every drawn wall is within
pub record IsWall (w : Wall) : Type 0 where
  pub least_courses : 2 ≤ w.courses
  pub most_courses : w.courses ≤ 10
  pub least_bricks : 2 ≤ w.bricks
  pub most_bricks : w.bricks ≤ 10
  pub most_tenths : w.tenths ≤ 7
  pub most_shift : w.shift ≤ 10
