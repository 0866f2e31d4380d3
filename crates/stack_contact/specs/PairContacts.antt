-- The contacts of one pair of polygons, as the survey finds them: by an edge that separates the two.
use Rattle.std.specs.Prelude.{◌≡◌, ◌↔◌, ℕ, ◌-ℤ◌, ◌⊎◌, List, ⊤}
use Rattle.stack_polygon.specs.declared.point.Point.{Point}
use Rattle.stack_polygon.specs.Plane.{Triple, IsAt}
use Rattle.stack_polygon.specs.Corners.{corner_of, end_of}
use Rattle.stack_frame.specs.declared.frame.Frame.{Frame}
use Rattle.stack_frame.specs.Directions.{IsFrameOf}
use Rattle.stack_overlap.specs.declared.types.Which.{Which}
use Rattle.stack_overlap.specs.declared.types.Which.TheVariants.{First, Second}
use Rattle.stack_overlap.specs.declared.types.Common.{Common}
use Rattle.stack_overlap.specs.declared.types.Common.TheVariants.{Nothing, Corner, OnEdge, Segment}
use Rattle.stack_overlap.specs.CommonPoints.{IsBefore}
use Rattle.stack_contact.specs.declared.types.Contacts.{Contacts}
use Rattle.stack_contact.specs.declared.types.Contacts.TheVariants.{Free, Touching, AtOne, AtTwo}
use Rattle.stack_contact.specs.Bearings.{Bears, Touches}

-- t is the direction from a to b in lowest terms
abbrev pub IsFrameFrom : Point → Point → Frame → Type 0
IsFrameFrom a b t = IsFrameOf (b.x -ℤ a.x) (b.y -ℤ a.y) t

-- t is the direction of an edge that has the later body on its left: the earlier body's edges are turned round
abbrev pub IsTangentBy : List Point → List Point → Which → ℕ → Frame → Type 0
IsTangentBy ps qs First i t = IsFrameFrom (end_of ps i) (corner_of ps i) t
IsTangentBy ps qs Second j t = IsFrameFrom (corner_of qs j) (end_of qs j) t

-- the contacts of a pair with these common points and this tangent
abbrev pub contacts_by : Common → Frame → Contacts
contacts_by Nothing t = Free
contacts_by (Corner c) t = Touching c
contacts_by (OnEdge c e) t = AtOne c t
contacts_by (Segment c d) t = AtTwo c d t

-- the answer has a bearing at X along t
abbrev pub IsBearingAt : Contacts → Frame → Triple → Type 0
IsBearingAt Free t X = ⊥
IsBearingAt (Touching c) t X = ⊥
IsBearingAt (AtOne c u) t X = IsAt X c × (t ≡ u)
IsBearingAt (AtTwo c d u) t X = (IsAt X c ⊎ IsAt X d) × (t ≡ u)

-- the answer has a touch at X
abbrev pub IsTouchAt : Contacts → Triple → Type 0
IsTouchAt Free X = ⊥
IsTouchAt (Touching c) X = IsAt X c
IsTouchAt (AtOne c u) X = ⊥
IsTouchAt (AtTwo c d u) X = ⊥

-- of two bearings the first comes before the second
abbrev pub IsInOrder : Contacts → Type 0
IsInOrder Free = ⊤
IsInOrder (Touching c) = ⊤
IsInOrder (AtOne c u) = ⊤
IsInOrder (AtTwo c d u) = IsBefore c d

-- exactly the bearings and the touches of the pair, in order
pub record AreContacts (ps qs : List Point) (c : Contacts) : Type 0 where
  pub bearings : (t : Frame) (X : Triple) → Bears ps qs t X ↔ IsBearingAt c t X
  pub touches : (X : Triple) → Touches ps qs X ↔ IsTouchAt c X
  pub in_order : IsInOrder c
