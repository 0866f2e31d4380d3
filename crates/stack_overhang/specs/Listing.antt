-- The parts that make a built-in model, as a file would list them.
use Rattle.std.specs.Prelude.{ℕ, pos, Bool, true, false, List, [], ◌∷◌, length, map, codes}
use Rattle.stack_algebra.specs.Listed.{listed}
use Rattle.stack_model.specs.Parts.{BlockPart, LoadPart}
use Rattle.stack_model.specs.Relisted.{coordinates}
use Rattle.stack_overhang.specs.declared.types.Rectangle.{Rectangle}
use Rattle.stack_overhang.specs.Bricks.{rectangle_corners, brick_at, brick_name}

-- a rectangle of the one material
abbrev pub rectangle_part : List ℕ → Bool → Rectangle → BlockPart
rectangle_part name fixed r =
    record { name = name; material = codes "brick"; fixed = fixed; corners = map coordinates (rectangle_corners r) }

-- brick k as a block, from 0
abbrev pub brick_block : ℕ → Rectangle → BlockPart
brick_block k r = rectangle_part (brick_name k) false r

-- a base with this name, and the bricks in their order
abbrev pub blocks_of : List ℕ → Rectangle → List Rectangle → List BlockPart
blocks_of name base bricks =
    rectangle_part name true base ∷ listed (length bricks) (λ k. brick_block k (brick_at bricks k))

-- a live load of force 1 to the right, on the upper left corner of brick k
abbrev pub push_listed : ℕ → Rectangle → LoadPart
push_listed k r = record {
  block = brick_name k;
  kind = codes "live";
  at = r.left ∷ r.top ∷ [];
  force = pos 1 ∷ pos 0 ∷ [];
}
