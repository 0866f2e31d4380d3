-- Each two bodies of a wall are apart, and which of them have a point in common.
use Rattle.std.proofs.Common.{◌≡◌, refl, sym, ap, subst, subst₂, ℕ, suc, ◌+◌, ◌*◌, ◌-◌, ◌<◌, ◌≤◌, ◌%◌, length, ◌⊎◌, inl}
use Rattle.std.proofs.Common.{inr, Bool, true, false, ◌&&◌, ℤ, pos, ◌+ℤ◌, ◌*ℤ◌, arith, ◌==◌, if◌then◌else◌}
use Rattle.std.proofs.lemmas.Int.{ints}
use Rattle.std.proofs.lemmas.Nat.{mul-le}
use Rattle.stack_algebra.proofs.Order.{◌≼◌}
use Rattle.stack_polygon.specs.declared.point.Point.{Point}
use Rattle.stack_model.specs.Structure.{Structure, body_of}
use Rattle.stack_overlap.specs.Separation.{IsCommon}
use Rattle.stack_contact.specs.ContactLists.{corners_of, IsPair}
use Rattle.stack_contact.specs.Surveyed.{AreSeparated, AreApart}
use Rattle.stack_overhang.specs.declared.types.Wall.{Wall}
use Rattle.stack_overhang.specs.Bricks.{rectangle_corners}
use Rattle.stack_overhang.specs.Limits.{IsWall}
use Rattle.stack_overhang.specs.Wall.{course_of, ground_rectangle, wall_structure}
use Rattle.stack_walls.proofs.Courses.{once_more, IsBrick, brick, brick_corners, brick_free, brick_placed, each_body}
use Rattle.stack_rectangle.specs.Rectangles.{IsRectangle}
use Rattle.stack_walls.proofs.Sides.{point_at, is_rectangle, HasArea, has_area, beside, below, within}
use Rattle.stack_walls.proofs.Numbers.{IsBase, few_bricks, on_base, on_same, on_next}

-- where course a begins
abbrev start : Wall → ℕ → ℤ
start w a = (course_of w (a + 1)).left

-- within half a brick from the left
start_within : (w : Wall) → w.shift ≤ 10 → (a : ℕ) → (pos 0 ≼ start w a) × (start w a ≼ pos 10)
start_within w h a = go ((a + 1) % 2 == 0)
  where
    go : (even : Bool) → (pos 0 ≼ if even then pos w.shift else pos 0)
        × ((if even then pos w.shift else pos 0) ≼ pos 10)
    go true = (omega (arith, ints), omega (arith, ints, h))
    go false = (omega (arith, ints), omega (arith, ints))

-- the height at which course a begins
level : (a : ℕ) → pos 10 *ℤ pos (a + 1 - 1) ≡ pos 10 *ℤ pos a
level a = let e : a + 1 - 1 ≡ a = omega arith in ap (λ k. pos 10 *ℤ pos k) e

-- bricks are numbered course by course
in_order : (a j c m b : ℕ) → m < b → a * b + j < c * b + m → (a < c) ⊎ ((a ≡ c) × (j < m))
in_order a j c m b lt h = go (cases a c)
  where
    cases : (a c : ℕ) → (a < c) ⊎ ((a ≡ c) ⊎ (c < a))
    cases a c = grind arith

    go : (a < c) ⊎ ((a ≡ c) ⊎ (c < a)) → (a < c) ⊎ ((a ≡ c) × (j < m))
    go (inl l) = inl l
    go (inr (inl e)) = let same : a * b ≡ c * b = ap (λ k. k * b) e in inr (e, omega (arith, h, same))
    go (inr (inr g)) = let n = mul-le (suc c) b a b g (omega arith) in let e = once_more c b in
        absurd (omega (arith, n, h, lt, e))

ordered : (i j m n : ℕ) → i ≡ suc m → j ≡ suc n → i < j → m < n
ordered i j m n e f lt = omega (arith, e, f, lt)

module _ (w : Wall) (h : IsWall w) where
  abbrev s : Structure
  s = wall_structure w

  area : (a j : ℕ) → a < w.courses → j < w.bricks → HasArea (brick w a j)
  area a j lt le = has_area (brick w a j) (brick_placed w h a j lt le)

  ground : HasArea ground_rectangle
  ground = has_area ground_rectangle refl

  on_ground : (a j : ℕ) → a < w.courses → j < w.bricks
      → AreSeparated (rectangle_corners ground_rectangle) (rectangle_corners (brick w a j))
  on_ground a j lt le = below ground_rectangle (brick w a j) ground (area a j lt le)
      (let e = level a in omega (arith, ints, e))

  two_bricks : (a j c m : ℕ) → a < w.courses → j < w.bricks → c < w.courses → m < w.bricks
      → (a < c) ⊎ ((a ≡ c) × (j < m))
      → AreSeparated (rectangle_corners (brick w a j)) (rectangle_corners (brick w c m))
  two_bricks a j c m la lj lc lm (inl up) = below (brick w a j) (brick w c m) (area a j la lj) (area c m lc lm)
      (let e = level a in let f = level c in omega (arith, ints, e, f, up))
  two_bricks a j c m la lj lc lm (inr (e, on)) = subst
      (λ c. AreSeparated (rectangle_corners (brick w a j)) (rectangle_corners (brick w c m))) e
      (beside (brick w a j) (brick w a m) (area a j la lj) (area a m la lm) (omega (arith, ints, on)))

  pub apart : (i j : ℕ) → IsPair s i j → AreApart s i j
  apart i j pair = go (each_body w h i (omega (arith, pair.in_order, pair.is_body))) (each_body w h j pair.is_body)
    where
      go : (i ≡ 0) ⊎ ((a : ℕ) × (m : ℕ) × IsBrick w i a m) → (j ≡ 0) ⊎ ((a : ℕ) × (m : ℕ) × IsBrick w j a m)
          → AreApart s i j
      go x (inl e) = absurd (omega (arith, e, pair.in_order))
      go (inl e) (inr y) = subst₂ AreSeparated (sym (ap (corners_of s) e)) (sym (brick_corners w j y.0 y.1 y.2))
          (on_ground y.0 y.1 y.2.course y.2.place)
      go (inr x) (inr y) = subst₂ AreSeparated (sym (brick_corners w i x.0 x.1 x.2))
          (sym (brick_corners w j y.0 y.1 y.2))
          (two_bricks x.0 x.1 y.0 y.1 x.2.course x.2.place y.2.course y.2.place
          (in_order x.0 x.1 y.0 y.1 w.bricks y.2.place (ordered i j _ _ x.2.number y.2.number pair.in_order)))

  -- each two bodies in order are a pair, since only the ground is fixed
  pub pairs : (i j : ℕ) → i < j → j < length s.bodies → IsPair s i j
  pairs i j before lt = record {
    in_order = before;
    is_body = lt;
    not_both_fixed = go (each_body w h j lt);
  }
    where
      neither : (b c : Bool) → c ≡ false → b && c ≡ false
      neither true c e = e
      neither false c e = refl

      go : (j ≡ 0) ⊎ ((a : ℕ) × (m : ℕ) × IsBrick w j a m) → (body_of s i).fixed && (body_of s j).fixed ≡ false
      go (inl e) = absurd (omega (arith, e, before))
      go (inr y) = neither (body_of s i).fixed (body_of s j).fixed (brick_free w j y.0 y.1 y.2)

  -- the corners of each body are those of a rectangle
  pub rectangles : (i : ℕ) → i < length s.bodies → IsRectangle (corners_of s i)
  rectangles i lt = go (each_body w h i lt)
    where
      go : (i ≡ 0) ⊎ ((a : ℕ) × (m : ℕ) × IsBrick w i a m) → IsRectangle (corners_of s i)
      go (inl e) = subst IsRectangle (sym (ap (corners_of s) e)) (is_rectangle ground_rectangle refl)
      go (inr x) = subst IsRectangle (sym (brick_corners w i x.0 x.1 x.2))
          (is_rectangle (brick w x.0 x.1) (brick_placed w h x.0 x.1 x.2.course x.2.place))

  -- a brick that has a point in common with the ground is of the first course
  first_course : (a m : ℕ) (p : Point) → a < w.courses → m < w.bricks
      → IsCommon (rectangle_corners ground_rectangle) (rectangle_corners (brick w a m)) (point_at p) → a ≡ 0
  first_course a m p la lm c =
      let g = (within ground_rectangle (point_at p) ground c.first).top in
      let b = (within (brick w a m) (point_at p) (area a m la lm) c.second).bottom in
      let e = level a in
      omega (arith, ints, e, g, b)

  -- two bricks with a point in common are of the same course or of two that follow one another, and there their places
  -- are the same or follow one another
  near : (a j c m : ℕ) (p : Point) → a < w.courses → j < w.bricks → c < w.courses → m < w.bricks
      → IsCommon (rectangle_corners (brick w a j)) (rectangle_corners (brick w c m)) (point_at p)
      → (c ≤ a + 1) × (m ≤ j + 1) × (j ≤ m + 1)
  near a j c m p la lj lc lm both =
      let r = within (brick w a j) (point_at p) (area a j la lj) both.first in
      let q = within (brick w c m) (point_at p) (area c m lc lm) both.second in
      let u = start_within w h.most_shift a in
      let v = start_within w h.most_shift c in (
        higher a c p.y (level a) (level c) r.top q.bottom,
        further (start w a) (start w c) j m p.x u.1 v.0 r.right q.left,
        further (start w c) (start w a) m j p.x v.1 u.0 q.right r.left,
      )
    where
      higher : (a c : ℕ) (y : ℤ) → pos 10 *ℤ pos (a + 1 - 1) ≡ pos 10 *ℤ pos a
          → pos 10 *ℤ pos (c + 1 - 1) ≡ pos 10 *ℤ pos c → y ≼ (pos 10 *ℤ pos (a + 1 - 1) +ℤ pos 10) *ℤ pos 1
          → (pos 10 *ℤ pos (c + 1 - 1)) *ℤ pos 1 ≼ y → c ≤ a + 1
      higher a c y e f top bottom = omega (arith, ints, e, f, top, bottom)

      further : (z v : ℤ) (j m : ℕ) (x : ℤ) → z ≼ pos 10 → pos 0 ≼ v
          → x ≼ (z +ℤ pos 20 *ℤ pos j +ℤ pos 20) *ℤ pos 1 → (v +ℤ pos 20 *ℤ pos m) *ℤ pos 1 ≼ x → m ≤ j + 1
      further z v j m x on after right left = omega (arith, ints, on, after, right, left)

  -- two bodies with a point in common are numbered so
  pub neighbours : (i j : ℕ) (p : Point) → IsPair s i j → IsCommon (corners_of s i) (corners_of s j) (point_at p)
      → (n : ℕ) × IsBase w.bricks i j n
  neighbours i j p pair both =
      go (each_body w h i (omega (arith, pair.in_order, pair.is_body))) (each_body w h j pair.is_body)
    where
      two : (a l c m : ℕ) → IsBrick w i a l → IsBrick w j c m → (c ≤ a + 1) × (m ≤ l + 1) × (l ≤ m + 1)
          → (a < c) ⊎ ((a ≡ c) × (l < m)) → (n : ℕ) × IsBase w.bricks i j n
      two a l c m x y n (inl up) = on_next w.bricks a l c m i j h.least_bricks
          (few_bricks w.bricks a l w.courses h.most_courses h.most_bricks x.course x.place)
          x.number y.number (omega (arith, up, n.0)) n.1 n.2
      two a l c m x y n (inr (e, on)) = on_same w.bricks a l c m i j
          (few_bricks w.bricks a l w.courses h.most_courses h.most_bricks x.course x.place)
          x.number y.number (sym e) (omega (arith, on, n.1))

      go : (i ≡ 0) ⊎ ((a : ℕ) × (m : ℕ) × IsBrick w i a m) → (j ≡ 0) ⊎ ((a : ℕ) × (m : ℕ) × IsBrick w j a m)
          → (n : ℕ) × IsBase w.bricks i j n
      go x (inl e) = absurd (omega (arith, e, pair.in_order))
      go (inl e) (inr y) =
          let zero_course = first_course y.0 y.1 p y.2.course y.2.place
          (subst₂ (λ ps qs. IsCommon ps qs (point_at p)) (ap (corners_of s) e) (brick_corners w j y.0 y.1 y.2) both) in
          on_base w.bricks y.0 y.1 i j e zero_course y.2.number y.2.place h.most_bricks
      go (inr x) (inr y) = two x.0 x.1 y.0 y.1 x.2 y.2
          (near x.0 x.1 y.0 y.1 p x.2.course x.2.place y.2.course y.2.place
          (subst₂ (λ ps qs. IsCommon ps qs (point_at p)) (brick_corners w i x.0 x.1 x.2)
          (brick_corners w j y.0 y.1 y.2) both))
          (in_order x.0 x.1 y.0 y.1 w.bricks y.2.place (ordered i j _ _ x.2.number y.2.number pair.in_order))
