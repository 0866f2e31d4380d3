-- Walls drawn by number: courses of bricks 20 long and 10 high on the ground, the even ones shifted, with a live load
-- that pushes to the right at the top.
use Rattle.std.specs.Prelude.{ℕ, ◌+◌, ◌-◌, ◌*◌, ◌/◌, ◌%◌, ◌^◌, ◌==◌, pos, negsuc, ◌*ℤ◌, true, List, [], ◌∷◌, codes}
use Rattle.std.specs.Prelude.{if◌then◌else◌}
use Rattle.stack_algebra.specs.Listed.{listed}
use Rattle.stack_model.specs.declared.types.Load.{Load}
use Rattle.stack_model.specs.Structure.{Structure}
use Rattle.stack_overhang.specs.declared.types.Rectangle.{Rectangle}
use Rattle.stack_overhang.specs.declared.types.BrickRow.{BrickRow}
use Rattle.stack_overhang.specs.declared.types.Wall.{Wall}
use Rattle.stack_overhang.specs.Bricks.{bricks_of, brick_of}
use Rattle.stack_overhang.specs.Built.{built}

-- one step of a linear congruential generator
abbrev pub drawn : ℕ → ℕ
drawn seed = (1103515245 * seed + 12345) % 2 ^ 31

-- wall number n: its shape by the number, its friction by the first step, its shift by the second
abbrev pub wall_by : ℕ → Wall
wall_by n = record {
  courses = 2 + n % 9;
  bricks = 2 + n / 9 % 9;
  tenths = 3 + drawn n / 65536 % 5;
  shift = 4 + drawn (drawn n) / 65536 % 7;
}

-- course i, from 1 at the bottom
abbrev pub course_of : Wall → ℕ → BrickRow
course_of w i = record {
  left = (if i % 2 == 0 then pos w.shift else pos 0);
  bottom = pos 10 *ℤ pos (i - 1);
  count = w.bricks;
  long = pos 20;
  high = pos 10;
}

-- all courses of a wall, from the bottom
abbrev pub courses_of : Wall → List BrickRow
courses_of w = listed w.courses (λ k. course_of w (k + 1))

-- the first brick of the top course
abbrev pub top_brick : Wall → Rectangle
top_brick w = brick_of (course_of w w.courses) 0

-- the number of that brick: how many bricks the courses below it have
abbrev pub top_number : Wall → ℕ
top_number w = (w.courses - 1) * w.bricks

-- the live load that pushes to the right on that brick's upper left corner; the ground is body 0
abbrev pub push_on : Wall → Load
push_on w = record {
  body = top_number w + 1;
  live = true;
  at = record { x = (top_brick w).left; y = (top_brick w).top };
  fx = pos 1;
  fy = pos 0;
}

-- the ground, 2,000 long and 10 deep, whose top is at height 0
abbrev pub ground_rectangle : Rectangle
ground_rectangle = record { left = negsuc 999; bottom = negsuc 9; right = pos 1000; top = pos 0 }

-- a wall on the ground, with as many tenths of friction as it says, and the push at its top
abbrev pub wall_structure : Wall → Structure
wall_structure w = built (pos w.tenths) (pos 10) (codes "ground") ground_rectangle (bricks_of (courses_of w))
    (push_on w ∷ [])

-- wall number n on the ground
abbrev pub wall_of : ℕ → Structure
wall_of n = wall_structure (wall_by n)
