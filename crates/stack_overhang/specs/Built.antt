-- The structure of a built-in model: one material, one fixed body, and bricks.
use Rattle.std.specs.Prelude.{ℕ, ℤ, pos, true, false, List, [], ◌∷◌, length, codes}
use Rattle.stack_algebra.specs.Listed.{listed}
use Rattle.stack_model.specs.declared.types.Load.{Load}
use Rattle.stack_model.specs.Structure.{NamedMaterial, NamedBody, Structure, first_structure}
use Rattle.stack_overhang.specs.declared.types.Rectangle.{Rectangle}
use Rattle.stack_overhang.specs.Bricks.{rectangle_corners, brick_at, brick_name}

-- the material of bricks and base, of weight 1, with the coefficient of friction p over q
abbrev pub brick_material : ℤ → ℤ → NamedMaterial
brick_material p q = record { name = codes "brick"; weight = pos 1; p = p; q = q }

-- the fixed body that the bricks stand on
abbrev pub base_body : List ℕ → Rectangle → NamedBody
base_body name r = record { name = name; material = 0; fixed = true; corners = rectangle_corners r }

-- brick k as a body, from 0
abbrev pub brick_body : ℕ → Rectangle → NamedBody
brick_body k r = record { name = brick_name k; material = 0; fixed = false; corners = rectangle_corners r }

-- the first n of these bricks as bodies, each named by its place
abbrev pub brick_bodies : List Rectangle → ℕ → List NamedBody
brick_bodies bricks n = listed n (λ k. brick_body k (brick_at bricks k))

-- the bodies of a built-in model, the fixed one first
abbrev pub built_bodies : List ℕ → Rectangle → List Rectangle → List NamedBody
built_bodies name base bricks = base_body name base ∷ brick_bodies bricks (length bricks)

-- one material with friction p over q, a fixed base of this name, bricks and loads
abbrev pub built : ℤ → ℤ → List ℕ → Rectangle → List Rectangle → List Load → Structure
built p q name base bricks loads =
    first_structure (brick_material p q ∷ []) (built_bodies name base bricks) loads
