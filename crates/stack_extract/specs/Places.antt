-- The first number that is more than 2^127 - 1 in size among those that are made of an end, in their order: for a
-- motion of phase 1, an objective cell minus 1; the common scale of the list; a whole number; for forces or a ray, the
-- parts of a bearing.
use Rattle.std.specs.Prelude.{◌≡◌, ℕ, ◌+◌, ◌*◌, ℤ, pos, ◌+ℤ◌, ◌-ℤ◌, ◌*ℤ◌, not, ◌&&◌, ltb, Option, Some, None}
use Rattle.std.specs.Prelude.{List, length, get_or, take, Bool, ⊤}
use Rattle.stack_algebra.specs.Listed.{listed}
use Rattle.stack_algebra.specs.Search.{or_else, first, only_if}
use Rattle.stack_algebra.specs.Fraction.{Fraction}
use Rattle.stack_algebra.proofs.Fractions.{of}
use Rattle.stack_rational.specs.declared.exact.Op.TheVariants.{Difference}
use Rattle.stack_rational.specs.Laws.{widest}
use Rattle.stack_rational.specs.TooWide.{is_too_wide}
use Rattle.stack_rational.specs.CommonScale.{scale_of}
use Rattle.stack_whole.specs.Whole.{greatest_number, fits}
use Rattle.stack_contact.specs.declared.types.Bearing.{Bearing}
use Rattle.stack_contact.specs.Surveyed.{Surveyed}
use Rattle.stack_equilibrium.specs.declared.types.Question.{Question}
use Rattle.stack_equilibrium.specs.SurveyScene.{no_bearing, scene_of}
use Rattle.stack_table.specs.Table.{Shape, Tabled}
use Rattle.stack_posing.specs.Posed.{posed_shape}
use Rattle.stack_extract.specs.WrittenLists.{forces_list, ray_list, bound_number, bound_list, collapse_list}
use Rattle.stack_extract.specs.WholeLists.{whole_list, amount}
use Rattle.stack_extract.specs.Certified.{pair_at}
use Rattle.stack_extract.specs.declared.types.Numbers.{Numbers}
use Rattle.stack_extract.specs.declared.types.Numbers.TheVariants.{Forces, Motion, Ray}
use Rattle.stack_extract.specs.declared.types.EndStep.{EndStep}
use Rattle.stack_extract.specs.declared.types.EndStep.TheVariants.{Shift, Scale, Whole, Part}
use Rattle.stack_extract.specs.declared.types.ExtractPlace.{ExtractPlace}
use Rattle.stack_extract.specs.declared.types.ExtractError.{ExtractError}
use Rattle.stack_extract.specs.declared.types.ExtractError.TheVariants.{TooWide, Memory}

-- a number by its list, the step that makes it, and its index, from 0
abbrev pub extract_place : Numbers → EndStep → ℕ → ExtractPlace
extract_place l s i = record { list = l; step = s; index = i }

-- unless memory ran out, an error names the first place
abbrev pub TellsPlace : ExtractError → Option ExtractPlace → Type 0
TellsPlace (TooWide p) o = o ≡ Some p
TellsPlace Memory o = ⊤

-- the sum of a bearing's two amounts, q times it and p times their difference fit
abbrev pub part_fits : Bearing → ℤ → ℤ → Bool
part_fits z w v = fits (w +ℤ v) && (fits (z.cone.q *ℤ (w +ℤ v)) && fits (z.cone.p *ℤ (w -ℤ v)))

module _ (l : Numbers) where
  -- the common scale of the items up to item i is too wide
  abbrev pub scale_spot : List Fraction → ℕ → Option ExtractPlace
  scale_spot xs i = only_if (ltb greatest_number (scale_of (take (i + 1) xs))) (extract_place l Scale i)

  -- whole number i is too wide
  abbrev pub whole_spot : List Fraction → ℕ → Option ExtractPlace
  whole_spot xs i = only_if (not (fits (amount (whole_list xs) i))) (extract_place l Whole i)

  -- the first number of a list that is too wide: its common scale up to an item, or else a whole number
  abbrev pub list_place : List Fraction → Option ExtractPlace
  list_place xs = or_else (first (length xs) (scale_spot xs)) (first (length xs) (whole_spot xs))

  -- no number of a list is too wide, and these are its scale and its whole numbers
  pub record AreWhole (xs : List Fraction) (scale : ℤ) (zs : List ℤ) : Type 0 where
    pub fits : list_place xs ≡ None
    pub scale_is : scale ≡ pos (scale_of xs)
    pub numbers : zs ≡ whole_list xs

  -- one of the three numbers that are made of bearing k's amounts is too wide
  abbrev pub part_spot : List Bearing → List ℤ → ℕ → Option ExtractPlace
  part_spot bs zs k = only_if
      (not (part_fits (get_or bs k no_bearing) (amount zs (2 * k)) (amount zs (2 * k + 1)))) (extract_place l Part k)

  -- the first bearing at which one of its three numbers is too wide
  abbrev pub part_place : List Bearing → List ℤ → Option ExtractPlace
  part_place bs zs = first (length bs) (part_spot bs zs)

  -- no number of the bearings' parts is too wide, and these are the parts
  pub record AreParts (bs : List Bearing) (zs : List ℤ) (ps : List (ℤ × ℤ)) : Type 0 where
    pub fits : part_place bs zs ≡ None
    pub parts : ps ≡ listed (length bs) (pair_at bs zs)

  -- the first number that is too wide in what is made of a list of forces or of a ray
  abbrev pub push_place : List Bearing → List Fraction → Option ExtractPlace
  push_place bs xs = or_else (list_place xs) (part_place bs (whole_list xs))

module _ (S : Shape) (T : Tabled Fraction) where
  -- the objective cell of a row's artificial column minus 1 is too wide
  abbrev pub shift_spot : ℕ → Option ExtractPlace
  shift_spot k = only_if (is_too_wide widest Difference (bound_number S T k) (of (pos 1)))
      (extract_place Motion Shift k)

  -- the first row at which that difference is too wide
  abbrev pub shift_place : Option ExtractPlace
  shift_place = first S.rows shift_spot

  -- the first number that is too wide in what is made of a motion of phase 1
  abbrev pub shifted_place : Option ExtractPlace
  shifted_place = or_else shift_place (list_place Motion (collapse_list S T))

module _ (q : Question) (v : Surveyed) (T : Tabled Fraction) where
  -- the first number that is too wide in what is made of the forces of a last table
  abbrev pub forces_place : Option ExtractPlace
  forces_place = push_place Forces v.bearings (forces_list (posed_shape q (scene_of v)) T)

  -- the first number that is too wide in what is made of the ray of column c
  abbrev pub ray_place : ℕ → Option ExtractPlace
  ray_place c = push_place Ray v.bearings (ray_list (posed_shape q (scene_of v)) T c)

  -- the first number that is too wide in what is made of the motion of phase 1
  abbrev pub collapse_place : Option ExtractPlace
  collapse_place = shifted_place (posed_shape q (scene_of v)) T

  -- the first number that is too wide in what is made of the motion of phase 3
  abbrev pub bound_place : Option ExtractPlace
  bound_place = list_place Motion (bound_list (posed_shape q (scene_of v)) T)
