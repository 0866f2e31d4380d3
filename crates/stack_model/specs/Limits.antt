-- The limits of names, numbers and lists: what their values mean, where they are within the limits.
use Rattle.std.specs.Prelude.{◌≡◌, ℕ, ◌+◌, ◌≤◌, ℤ, pos, negsuc, Bool, true, false, ◌&&◌, ◌||◌, List, [], ◌∷◌, length}
use Rattle.std.specs.Prelude.{codes, Option, option_map, Some, None, nat_le, ◌==◌, int_le, if◌then◌else◌}
use Rattle.std.specs.Str.{bytes_eq}
use Rattle.std.specs.List.{list_all}
use Rattle.stack_whole.specs.Limits.{most_free}
use Rattle.stack_polygon.specs.declared.point.Point.{Point}
use Rattle.stack_polygon.specs.Limits.{is_near}

-- how many materials there may be; how many bodies may be free is most_free of stack_whole
abbrev pub most_materials : ℕ
most_materials = 64

-- how many joints between materials there may be
abbrev pub most_joints : ℕ
most_joints = 256

-- how many bodies may be fixed
abbrev pub most_fixed : ℕ
most_fixed = 64

-- how many bodies there may be, free and fixed together
abbrev pub most_bodies : ℕ
most_bodies = most_free + most_fixed

-- how many loads there may be, of both kinds together
abbrev pub most_loads : ℕ
most_loads = 256

-- an ASCII letter, a digit, `_` or `-`
abbrev pub is_name_byte : ℕ → Bool
is_name_byte b =
    (nat_le 97 b && nat_le b 122) || (nat_le 65 b && nat_le b 90) || (nat_le 48 b && nat_le b 57)
    || b == 95 || b == 45

-- 1 to 32 of these bytes
abbrev pub is_name : List ℕ → Bool
is_name bytes = nat_le 1 (length bytes) && nat_le (length bytes) 32 && list_all is_name_byte bytes

-- 1 to 32 of these bytes, as a fact
pub record IsName (name : List ℕ) : Type 0 where
  pub least : 1 ≤ length name
  pub most : length name ≤ 32
  pub letters : list_all is_name_byte name ≡ true

-- the number is from low to high, both included
abbrev pub is_between : ℤ → ℤ → ℤ → Bool
is_between low high z = int_le low z && int_le z high

-- p from 0 to 1,000 and q from 1 to 1,000
abbrev pub friction_of : List ℤ → Option (ℤ × ℤ)
friction_of (p ∷ q ∷ []) =
    if is_between (pos 0) (pos 1000) p && is_between (pos 1) (pos 1000) q then Some (p, q) else None
friction_of _ = None

-- the version is 1 or 2
abbrev pub is_version : ℤ → Bool
is_version z = is_between (pos 1) (pos 2) z

-- two numbers from -1,000 to 1,000
abbrev pub sway_of : List ℤ → Option (ℤ × ℤ)
sway_of (x ∷ y ∷ []) =
    if is_between (negsuc 999) (pos 1000) x && is_between (negsuc 999) (pos 1000) y then Some (x, y) else None
sway_of _ = None

-- a point of two coordinates in range
abbrev pub point_of : List ℤ → Option Point
point_of (x ∷ y ∷ []) = if is_near x && is_near y then Some (record { x = x; y = y }) else None
point_of _ = None

-- one more in front, where both are there
abbrev pub with_first : {A : Type 0} → Option A → Option (List A) → Option (List A)
with_first None rest = None
with_first (Some x) rest = option_map (λ xs. x ∷ xs) rest

-- a point for each item, where every item is two coordinates in range
abbrev pub points_of : List (List ℤ) → Option (List Point)
points_of [] = Some []
points_of (c ∷ cs) = with_first (point_of c) (points_of cs)

-- the corners of a block, 3 to 32 points
abbrev pub corner_list_of : List (List ℤ) → Option (List Point)
corner_list_of cs = if nat_le 3 (length cs) && nat_le (length cs) 32 then points_of cs else None

-- whether a load is live
abbrev pub live_of : List ℕ → Option Bool
live_of kind = if bytes_eq kind (codes "live") then Some true else
    (if bytes_eq kind (codes "dead") then Some false else None)

-- two components of at most 1,000,000,000 in size
abbrev pub force_of : List ℤ → Option (ℤ × ℤ)
force_of (fx ∷ fy ∷ []) =
    if is_between (negsuc 999999999) (pos 1000000000) fx && is_between (negsuc 999999999) (pos 1000000000) fy
    then Some (fx, fy) else None
force_of _ = None
