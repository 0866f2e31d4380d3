-- The numbers of a block's sums, in the order in which they are made, each as an exact whole number: of each of
-- its bearings the products and the force, and what all bearings up to this one bear; then the loads.
use Rattle.std.specs.Prelude.{ℕ, suc, nat_eq, ℤ, pos, ◌+ℤ◌, ◌-ℤ◌, ◌*ℤ◌, Bool, true, ◌||◌, if◌then◌else◌}
use Rattle.std.specs.Prelude.{List, [], ◌∷◌, ◌++◌, map, length, get_or}
use Rattle.stack_algebra.specs.Sums.{sum_to}
use Rattle.stack_contact.specs.declared.types.Bearing.{Bearing}
use Rattle.stack_contact.specs.Surveyed.{Surveyed}
use Rattle.stack_certificate.specs.Certificate.{ForcesValue}
use Rattle.stack_whole.specs.Whole.{whole}
use Rattle.stack_statics.specs.declared.wrench.Wrench.{Wrench}
use Rattle.stack_equilibrium.specs.declared.types.Axis.{Axis}
use Rattle.stack_equilibrium.specs.declared.types.Axis.TheVariants.{X, Y, M}
use Rattle.stack_equilibrium.specs.declared.block.Block.{Block}
use Rattle.stack_statics.specs.Scene as scene
use Rattle.stack_statics.specs.Balance.{force_x_of, force_y_of, moment_of, bearing_side, sum_x_of, sum_y_of}
use Rattle.stack_statics.specs.Balance.{sum_m_of}
use Rattle.stack_equilibrium.specs.SurveyScene.{scene_of, scene_bearing_of, no_bearing}
use Rattle.stack_equilibrium.specs.Held.{part_of_pair, part_at}
use Rattle.stack_equilibrium.specs.WrittenSums.{axis_part, block_of, written_sum, written_sums, written_sums_at}
use Rattle.stack_sum_numbers.specs.InTurn.{lists_in_turn, EndsIn, IsMadeOf, AreMadeOf}

-- what bearing k bears, of a list of pairs: nothing past its end
abbrev pub part_in : List (ℤ × ℤ) → ℕ → scene.BearingPart
part_in parts k = get_or (map part_of_pair parts) k (record { a = pos 0; b = pos 0 })

-- a block, as a free body of a scene
abbrev pub body_of_block : Block → scene.SceneBody
body_of_block block = record {
  free = true;
  ox = block.corner.x;
  oy = block.corner.y;
  dead = block.dead;
  live = block.live;
}

-- the force of a part on the later body along x or y, or its moment about a body's first corner
abbrev pub force_on : Axis → scene.SceneBody → scene.SceneBearing → scene.BearingPart → ℤ
force_on X body z f = force_x_of z f
force_on Y body z f = force_y_of z f
force_on M body z f = moment_of body z f

-- the numbers of the force along x: b*tx, a*ty and the force
abbrev pub x_numbers : scene.SceneBearing → scene.BearingPart → List ℤ
x_numbers z f = (f.b *ℤ z.tx) ∷ (f.a *ℤ z.ty) ∷ force_x_of z f ∷ []

-- the numbers of the force along y: a*tx, b*ty and the force
abbrev pub y_numbers : scene.SceneBearing → scene.BearingPart → List ℤ
y_numbers z f = (f.a *ℤ z.tx) ∷ (f.b *ℤ z.ty) ∷ force_y_of z f ∷ []

-- the numbers of the moment: those along x, those along y, the force along y times its arm, the force along x times its
-- arm, and the moment
abbrev pub moment_numbers : scene.SceneBody → scene.SceneBearing → scene.BearingPart → List ℤ
moment_numbers body z f = x_numbers z f ++ y_numbers z f ++
    ((z.px -ℤ body.ox) *ℤ force_y_of z f) ∷ ((z.py -ℤ body.oy) *ℤ force_x_of z f) ∷ moment_of body z f ∷ []

-- the numbers of the force, or of the moment, along an axis
abbrev pub force_numbers : Axis → scene.SceneBody → scene.SceneBearing → scene.BearingPart → List ℤ
force_numbers X body z f = x_numbers z f
force_numbers Y body z f = y_numbers z f
force_numbers M body z f = moment_numbers body z f

-- body i is one of the two bodies of a bearing
abbrev pub is_at : ℕ → scene.SceneBearing → Bool
is_at i z = nat_eq i z.second || nat_eq i z.first

-- bearing k of a list
abbrev pub bearing_in : List Bearing → ℕ → scene.SceneBearing
bearing_in bearings k = scene_bearing_of (get_or bearings k no_bearing)

module _ (axis : Axis) (block : Block) (bearings : List Bearing) (parts : List (ℤ × ℤ)) where
  -- what bearing k bears on the block along the axis: nothing where the block isn't one of its bodies
  abbrev pub borne_at : ℕ → ℤ
  borne_at k = bearing_side block.body (bearing_in bearings k)
      *ℤ force_on axis (body_of_block block) (bearing_in bearings k) (part_in parts k)

  -- what the first n bearings bear together
  abbrev pub borne_by_first : ℕ → ℤ
  borne_by_first n = sum_to n borne_at

  -- the numbers of bearing k: those of its force, and the sum with it; none where it isn't the block's
  abbrev pub bearing_numbers : ℕ → List ℤ
  bearing_numbers k =
      if is_at block.body (bearing_in bearings k) then
      force_numbers axis (body_of_block block) (bearing_in bearings k) (part_in parts k)
      ++ borne_by_first (suc k) ∷ []
      else []

  -- what all bearings and the loads do along the axis
  abbrev pub exact_sum : ℤ → ℤ → ℤ
  exact_sum scale factor = borne_by_first (length bearings)
      +ℤ scale *ℤ axis_part axis block.dead +ℤ factor *ℤ axis_part axis block.live

  -- the numbers of the loads: scale*dead and the sum with it, factor*live and the sum with that
  abbrev pub load_numbers : ℤ → ℤ → List ℤ
  load_numbers scale factor =
      (scale *ℤ axis_part axis block.dead)
      ∷ (borne_by_first (length bearings) +ℤ scale *ℤ axis_part axis block.dead)
      ∷ (factor *ℤ axis_part axis block.live)
      ∷ exact_sum scale factor
      ∷ []

-- all numbers of the sum of a block along an axis, with scale times its dead and factor times its live loads
abbrev pub sum_numbers : Axis → Block → ℤ → ℤ → List Bearing → List (ℤ × ℤ) → List ℤ
sum_numbers axis block scale factor bearings parts =
    lists_in_turn (length bearings) (bearing_numbers axis block bearings parts)
    ++ load_numbers axis block bearings parts scale factor

-- the three exact sums of a block
abbrev pub exact_sums : Block → ℤ → ℤ → List Bearing → List (ℤ × ℤ) → Wrench
exact_sums block scale factor bearings parts = record {
  fx = exact_sum X block bearings parts scale factor;
  fy = exact_sum Y block bearings parts scale factor;
  m = exact_sum M block bearings parts scale factor;
}

-- the numbers of body i of a survey along an axis
abbrev pub sum_numbers_at : Surveyed → ForcesValue → ℕ → Axis → List ℤ
sum_numbers_at s f i axis = sum_numbers axis (block_of s.structure i) f.scale f.factor s.bearings f.parts

-- the exact sums of body i, as the scene of the survey has them
abbrev pub scene_sums : Surveyed → ForcesValue → ℕ → Wrench
scene_sums s f i = record {
  fx = sum_x_of (scene_of s) (part_at f) f.scale f.factor i;
  fy = sum_y_of (scene_of s) (part_at f) f.scale f.factor i;
  m = sum_m_of (scene_of s) (part_at f) f.scale f.factor i;
}

-- The written sum along an axis is the exact one exactly if all its numbers fit, and is refused exactly if one of them
-- is too wide
abbrev pub SumIsMadeOfItsNumbers : Type 0
SumIsMadeOfItsNumbers = (axis : Axis) (block : Block) (scale factor : ℤ) (bearings : List Bearing)
    (parts : List (ℤ × ℤ)) → IsMadeOf (sum_numbers axis block scale factor bearings parts)
    (whole (exact_sum axis block bearings parts scale factor))
    (written_sum axis block (whole scale) (whole factor) bearings parts)

-- the exact sum is the last number of the list
abbrev pub NumbersEndInTheSum : Type 0
NumbersEndInTheSum = (axis : Axis) (block : Block) (scale factor : ℤ) (bearings : List Bearing)
    (parts : List (ℤ × ℤ)) → EndsIn (sum_numbers axis block scale factor bearings parts)
    (exact_sum axis block bearings parts scale factor)

-- the three written sums are refused with the first axis one of whose numbers is too wide
abbrev pub SumsAreMadeOfTheirNumbers : Type 0
SumsAreMadeOfTheirNumbers = (block : Block) (scale factor : ℤ) (bearings : List Bearing)
    (parts : List (ℤ × ℤ)) → AreMadeOf (λ axis. sum_numbers axis block scale factor bearings parts)
    (exact_sums block scale factor bearings parts)
    (written_sums block (whole scale) (whole factor) bearings parts)

-- the three written sums of each body of a survey are refused so; the exact ones are those of its scene
abbrev pub SurveySumsAreMadeOfTheirNumbers : Type 0
SurveySumsAreMadeOfTheirNumbers = (s : Surveyed) (f : ForcesValue) (i : ℕ) →
    AreMadeOf (sum_numbers_at s f i) (scene_sums s f i) (written_sums_at s f i)
