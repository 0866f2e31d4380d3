-- The table of contacts as text: the number of bearings, a line for each, the number of touches, a line for each.
-- Bodies go by their names, bearings and touches by their numbers from 1, in the order of the survey.
use Rattle.std.specs.Prelude.{ℕ, ◌+◌, ℤ, List, [], ◌∷◌, ◌++◌, length, codes, decimal}
use Rattle.std.specs.Fmt.{signed_decimal}
use Rattle.stack_polygon.specs.declared.point.Point.{Point}
use Rattle.stack_model.specs.Structure.{Structure, body_of}
use Rattle.stack_contact.specs.declared.types.Bearing.{Bearing}
use Rattle.stack_contact.specs.declared.types.Touch.{Touch}
use Rattle.stack_contact.specs.Surveyed.{Surveyed}

-- the name of body i
abbrev pub name_of : Structure → ℕ → List ℕ
name_of s i = (body_of s i).name

-- two numbers with a space between them
unfoldable pub pair_text : ℤ → ℤ → List ℕ
pair_text a b = signed_decimal a ++ codes " " ++ signed_decimal b

-- the coordinates of a point
abbrev pub point_text : Point → List ℕ
point_text a = pair_text a.x a.y

-- the tangent of a bearing, and its coefficient of friction
unfoldable pub directions_text : Bearing → List ℕ
directions_text z = pair_text z.frame.tx z.frame.ty ++ codes " " ++ pair_text z.cone.p z.cone.q

-- the point of a bearing, and then its tangent and its coefficient of friction
unfoldable pub point_and_directions : Bearing → List ℕ
point_and_directions z = point_text z.at ++ codes " " ++ directions_text z

-- bearing number k, from 0, between the bodies with these names
abbrev pub bearing_text : ℕ → List ℕ → List ℕ → Bearing → List ℕ
bearing_text k first second z =
    codes "bearing " ++ decimal (k + 1) ++ codes " " ++ first ++ codes " " ++ second ++ codes " "
    ++ point_and_directions z

-- touch number k, from 0
abbrev pub touch_text : ℕ → List ℕ → List ℕ → Touch → List ℕ
touch_text k first second z =
    codes "touch " ++ decimal (k + 1) ++ codes " " ++ first ++ codes " " ++ second ++ codes " " ++ point_text z.at

-- the line of bearing number k, with the names of its two bodies
abbrev pub bearing_line : Structure → ℕ → Bearing → List ℕ
bearing_line s k z = bearing_text k (name_of s z.first) (name_of s z.second) z ++ 10 ∷ []

-- the line of touch number k, with the names of its two bodies
abbrev pub touch_line : Structure → ℕ → Touch → List ℕ
touch_line s k z = touch_text k (name_of s z.first) (name_of s z.second) z ++ 10 ∷ []

-- the lines of a list whose first item has number k
abbrev pub lines_from : {A : Type 0} → (ℕ → A → List ℕ) → ℕ → List A → List ℕ
lines_from line k [] = []
lines_from line k (z ∷ zs) = line k z ++ lines_from line (k + 1) zs

-- a line that says how many there are
abbrev pub count_line : List ℕ → ℕ → List ℕ
count_line word n = word ++ codes " " ++ decimal n ++ 10 ∷ []

-- how many bearings there are, and then the line of each
abbrev pub bearings_part : Surveyed → List ℕ
bearings_part s = count_line (codes "bearings") (length s.bearings) ++ lines_from
    (bearing_line s.structure) 0 s.bearings

-- how many touches there are, and then the line of each
abbrev pub touches_part : Surveyed → List ℕ
touches_part s = count_line (codes "touches") (length s.touches) ++ lines_from (touch_line s.structure) 0 s.touches

-- the whole table: bearings first, and then touches
unfoldable pub contacts_text : Surveyed → List ℕ
contacts_text s = bearings_part s ++ touches_part s
