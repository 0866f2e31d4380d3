-- The outline of a block's corner list: the list where it is strictly convex, or else its reversal where that
-- is. A list that is neither names its block and its first edge that doesn't have every other corner strictly
-- left of it.
use Rattle.std.specs.Prelude.{ℕ, List, Result, Ok, Err}
use Rattle.stack_polygon.specs.declared.point.Point.{Point}
use Rattle.stack_polygon.specs.Outlines.{outline_of}
use Rattle.stack_model.specs.declared.errors.ModelError.{ModelError}
use Rattle.stack_model.specs.declared.errors.ModelError.TheVariants.{NotConvex}

-- an outline, or the edge that isn't clear as a fault of block i
abbrev pub at_block : ℕ → Result (List Point) ℕ → Result (List Point) ModelError
at_block i (Ok corners) = Ok corners
at_block i (Err edge) = Err (NotConvex i edge)

-- the outline of block i, from its corner list
abbrev pub convex : ℕ → List Point → Result (List Point) ModelError
convex i ps = at_block i (outline_of ps)
