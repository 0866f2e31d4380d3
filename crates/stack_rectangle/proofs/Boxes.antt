-- A rectangle's four sides, by its ranges.
use Rattle.std.proofs.Common.{◌≡◌, ℕ, zero, suc, ◌<◌, ℤ, pos, negsuc, ◌-ℤ◌, ◌*ℤ◌, neg_ℤ, List, [], ◌∷◌, length, true}
use Rattle.std.proofs.Common.{false, ◌⊎◌, inl, inr, refl, sym, subst, ◌∙◌, arith, int_lt}
use Rattle.std.specs.Int.{int_min, int_max}
use Rattle.stack_algebra.proofs.CrossProducts.{positive_cancel}
use Rattle.std.proofs.lemmas.Int.{ints}
use Rattle.stack_algebra.specs.IntegerOrder.{◌≺◌}
use Rattle.stack_algebra.proofs.Integers.{sums, expand}
use Rattle.stack_polygon.specs.declared.point.Point.{Point}
use Rattle.stack_polygon.specs.Plane.{triangle_of}
use Rattle.stack_polygon.specs.Corners.{corner_of, end_of, IsStrictlyConvex}
use Rattle.stack_rectangle.specs.Rectangles.{IsRectangle, Extent, range_between, extent_of}
use Rattle.stack_rectangle.proofs.LevelEdges.{pt}

-- the list has an edge from c to d
abbrev pub HasEdge : List Point → Point → Point → Type 0
HasEdge ps c d = (i : ℕ) × ((i < length ps) × (corner_of ps i ≡ c) × (end_of ps i ≡ d))

-- the corners of the ranges
abbrev pub low_left : Extent → Point
low_left e = pt e.x.low e.y.low

abbrev pub low_right : Extent → Point
low_right e = pt e.x.high e.y.low

abbrev pub high_right : Extent → Point
high_right e = pt e.x.high e.y.high

abbrev pub high_left : Extent → Point
high_left e = pt e.x.low e.y.high

abbrev pub Are : Point → Point → Point → Point → Type 0
Are c d p q = (c ≡ p) × (d ≡ q)

-- the edge from c to d is one of the four sides
abbrev pub IsSide : Extent → Point → Point → Type 0
IsSide e c d = (Are c d (low_left e) (low_right e) ⊎ Are c d (low_right e) (high_right e))
    ⊎ (Are c d (high_right e) (high_left e) ⊎ Are c d (high_left e) (low_left e))

-- the list goes round the rectangle of these ranges, to the left
pub record IsBox (ps : List Point) (e : Extent) : Type 0 where
  pub wide : e.x.low ≺ e.x.high
  pub tall : e.y.low ≺ e.y.high
  pub lower : HasEdge ps (low_left e) (low_right e)
  pub right : HasEdge ps (low_right e) (high_right e)
  pub upper : HasEdge ps (high_right e) (high_left e)
  pub left : HasEdge ps (high_left e) (low_left e)
  pub no_other : (k : ℕ) → k < length ps → IsSide e (corner_of ps k) (end_of ps k)

abbrev extent : ℤ → ℤ → ℤ → ℤ → Extent
extent x u y v = record { x = record { low = x; high = u }; y = record { low = y; high = v } }

-- the list that goes round a rectangle from its low left corner on
from_low_left : (x u y v : ℤ) → x ≺ u → y ≺ v
    → IsBox (pt x y ∷ pt u y ∷ pt u v ∷ pt x v ∷ []) (extent x u y v)
from_low_left x u y v h k = record {
  wide = h;
  tall = k;
  lower = (0, (omega arith, refl, refl));
  right = (1, (omega arith, refl, refl));
  upper = (2, (omega arith, refl, refl));
  left = (3, (omega arith, refl, refl));
  no_other = sides;
}
  where
    sides : (k : ℕ) → k < 4 → IsSide (extent x u y v) (corner_of (pt x y ∷ pt u y ∷ pt u v ∷ pt x v ∷ []) k)
        (end_of (pt x y ∷ pt u y ∷ pt u v ∷ pt x v ∷ []) k)
    sides zero lt = inl (inl (refl, refl))
    sides (suc zero) lt = inl (inr (refl, refl))
    sides (suc (suc zero)) lt = inr (inl (refl, refl))
    sides (suc (suc (suc zero))) lt = inr (inr (refl, refl))
    sides (suc (suc (suc (suc i)))) lt = absurd (omega arith)

-- what goes round from one corner also goes round from the next
from_next : {a b c d : Point} {e : Extent} → IsBox (a ∷ b ∷ c ∷ d ∷ []) e → IsBox (b ∷ c ∷ d ∷ a ∷ []) e
from_next {a} {b} {c} {d} {e} h = record {
  wide = h.wide;
  tall = h.tall;
  lower = edge h.lower;
  right = edge h.right;
  upper = edge h.upper;
  left = edge h.left;
  no_other = sides;
}
  where
    edge : {p q : Point} → HasEdge (a ∷ b ∷ c ∷ d ∷ []) p q → HasEdge (b ∷ c ∷ d ∷ a ∷ []) p q
    edge (zero, k) = (3, (omega arith, k.1, k.2))
    edge (suc zero, k) = (0, (omega arith, k.1, k.2))
    edge (suc (suc zero), k) = (1, (omega arith, k.1, k.2))
    edge (suc (suc (suc zero)), k) = (2, (omega arith, k.1, k.2))
    edge (suc (suc (suc (suc i))), k) = absurd (omega (arith, k.0))

    sides : (k : ℕ) → k < 4 → IsSide e (corner_of (b ∷ c ∷ d ∷ a ∷ []) k) (end_of (b ∷ c ∷ d ∷ a ∷ []) k)
    sides zero lt = h.no_other 1 (omega arith)
    sides (suc zero) lt = h.no_other 2 (omega arith)
    sides (suc (suc zero)) lt = h.no_other 3 (omega arith)
    sides (suc (suc (suc zero))) lt = h.no_other 0 (omega arith)
    sides (suc (suc (suc (suc i)))) lt = absurd (omega arith)

rising : (x u : ℤ) → x ≺ u → range_between x u ≡ record { low = x; high = u }
rising x u h = let t : int_lt u x ≡ false = grind (arith, ints) in rw t refl

falling : (x u : ℤ) → u ≺ x → range_between x u ≡ record { low = u; high = x }
falling x u h = let t : int_lt u x ≡ true = grind (arith, ints) in rw t refl

turned : (x u : ℤ) → range_between x u ≡ range_between u x
turned x u = let low : int_min x u ≡ int_min u x = grind (arith, ints) in
    let high : int_max x u ≡ int_max u x = grind (arith, ints) in λ i. record { low = low i; high = high i }

-- two numbers with a positive product are both positive, or both negative
same_sign : (s t : ℤ) → pos 0 ≺ s *ℤ t → (pos 0 ≺ s × pos 0 ≺ t) ⊎ (s ≺ pos 0 × t ≺ pos 0)
same_sign (pos zero) (pos m) h = absurd (omega (arith, ints))
same_sign (pos zero) (negsuc m) h = absurd (omega (arith, ints))
same_sign (pos (suc n)) t h = inl (omega (arith, ints), positive_cancel (pos (suc n)) t (omega (arith, ints)) h)
same_sign (negsuc n) t h =
    let e : negsuc n *ℤ t ≡ pos (suc n) *ℤ neg_ℤ t = simp expand (omega (arith, sums)) in
    let k : pos 0 ≺ pos (suc n) *ℤ neg_ℤ t = rw e at h in
    let m = positive_cancel (pos (suc n)) (neg_ℤ t) (omega (arith, ints)) k in
    inr (omega (arith, ints), omega (arith, sums))

-- a list that goes round the ranges from (x, y) to (u, v), wherever the second point lies: it is told for one that is
-- greater by both coordinates, and for one that is less by both
between : (ps : List Point) (x y u v : ℤ) → pos 0 ≺ (u -ℤ x) *ℤ (v -ℤ y)
    → (x ≺ u → y ≺ v → IsBox ps (extent x u y v)) → (u ≺ x → v ≺ y → IsBox ps (extent u x v y))
    → IsBox ps (record { x = range_between x u; y = range_between y v })
between ps x y u v product greater less = go (same_sign (u -ℤ x) (v -ℤ y) product)
  where
    go : (pos 0 ≺ u -ℤ x × pos 0 ≺ v -ℤ y) ⊎ (u -ℤ x ≺ pos 0 × v -ℤ y ≺ pos 0)
        → IsBox ps (record { x = range_between x u; y = range_between y v })
    go (inl h) =
        let hx : x ≺ u = omega (arith, sums) in
        let hy : y ≺ v = omega (arith, sums) in
        subst (IsBox ps) (λ i. record { x = sym (rising x u hx) i; y = sym (rising y v hy) i }) (greater hx hy)
    go (inr h) =
        let hx : u ≺ x = omega (arith, sums) in
        let hy : v ≺ y = omega (arith, sums) in
        subst (IsBox ps) (λ i. record { x = sym (falling x u hx) i; y = sym (falling y v hy) i }) (less hx hy)

-- a list that is strictly convex goes round the ranges of its corners
abbrev Boxed : List Point → Type 0
Boxed ps = IsStrictlyConvex ps → IsBox ps (extent_of ps)

-- from (x, y) across to (u, y), upright to (u, v), and back
across : (x y u v : ℤ) → Boxed (pt x y ∷ pt u y ∷ pt u v ∷ pt x v ∷ [])
across x y u v convex =
    let turn : pos 0 ≺ (u -ℤ x) *ℤ (v -ℤ y) -ℤ (y -ℤ y) *ℤ (u -ℤ x) =
    convex 0 (omega arith) 2 (omega arith) (λ e. omega (arith, e)) (λ e. omega (arith, e)) in
    between _ x y u v (simp expand (omega (arith, sums, simp expand at turn)))
    (from_low_left x u y v)
    (λ h k. from_next (from_next (from_low_left u x v y h k)))

-- from (x, y) upright to (x, v), across to (u, v), and back
upright : (x y u v : ℤ) → Boxed (pt x y ∷ pt x v ∷ pt u v ∷ pt u y ∷ [])
upright x y u v convex =
    let turn : pos 0 ≺ (x -ℤ x) *ℤ (v -ℤ y) -ℤ (v -ℤ y) *ℤ (u -ℤ x) =
    convex 0 (omega arith) 2 (omega arith) (λ e. omega (arith, e)) (λ e. omega (arith, e)) in
    subst (λ r. IsBox (pt x y ∷ pt x v ∷ pt u v ∷ pt u y ∷ []) (record { x = r; y = range_between y v })) (turned u x)
    (between _ u y x v (simp expand (omega (arith, sums, simp expand at turn)))
    (λ h k. from_next (from_low_left u x y v h k))
    (λ h k. from_next (from_next (from_next (from_low_left x u v y h k)))))

-- two edges in a row aren't both level, nor both upright
two_level : (a b c : Point) → pos 0 ≺ triangle_of a b c → a.y ≡ b.y → b.y ≡ c.y → ⊥
two_level a b c h p q = go a.x b.x c.x a.y (subst (λ z. pos 0 ≺ z)
    (λ i. (b.x -ℤ a.x) *ℤ ((sym (p ∙ q)) i -ℤ a.y) -ℤ (sym p i -ℤ a.y) *ℤ (c.x -ℤ a.x)) h)
  where
    go : (ax bx cx y : ℤ) → pos 0 ≺ (bx -ℤ ax) *ℤ (y -ℤ y) -ℤ (y -ℤ y) *ℤ (cx -ℤ ax) → ⊥
    go ax bx cx y h = omega (arith, sums, simp expand at h)

two_upright : (a b c : Point) → pos 0 ≺ triangle_of a b c → a.x ≡ b.x → b.x ≡ c.x → ⊥
two_upright a b c h p q = go a.y b.y c.y a.x (subst (λ z. pos 0 ≺ z)
    (λ i. (sym p i -ℤ a.x) *ℤ (c.y -ℤ a.y) -ℤ (b.y -ℤ a.y) *ℤ ((sym (p ∙ q)) i -ℤ a.x)) h)
  where
    go : (ay by cy x : ℤ) → pos 0 ≺ (x -ℤ x) *ℤ (cy -ℤ ay) -ℤ (by -ℤ ay) *ℤ (x -ℤ x) → ⊥
    go ay by cy x h = omega (arith, sums, simp expand at h)

then_upright : (a b c : Point) → pos 0 ≺ triangle_of a b c → a.y ≡ b.y → (b.y ≡ c.y) ⊎ (b.x ≡ c.x) → b.x ≡ c.x
then_upright a b c h p (inl q) = absurd (two_level a b c h p q)
then_upright a b c h p (inr q) = q

then_level : (a b c : Point) → pos 0 ≺ triangle_of a b c → a.x ≡ b.x → (b.y ≡ c.y) ⊎ (b.x ≡ c.x) → b.y ≡ c.y
then_level a b c h p (inl q) = q
then_level a b c h p (inr q) = absurd (two_upright a b c h p q)

-- the corners of four sides, by the coordinates of two
by_two : (P : List Point → Type 0) (a b c d b2 c2 d2 : Point) → b2 ≡ b → c2 ≡ c → d2 ≡ d
    → P (a ∷ b2 ∷ c2 ∷ d2 ∷ []) → P (a ∷ b ∷ c ∷ d ∷ [])
by_two P a b c d b2 c2 d2 hb hc hd h = subst P (λ i. a ∷ hb i ∷ hc i ∷ hd i ∷ []) h

of_four : (a b c d : Point) → IsStrictlyConvex (a ∷ b ∷ c ∷ d ∷ [])
    → (a.y ≡ b.y) ⊎ (a.x ≡ b.x) → (b.y ≡ c.y) ⊎ (b.x ≡ c.x) → (c.y ≡ d.y) ⊎ (c.x ≡ d.x)
    → (d.y ≡ a.y) ⊎ (d.x ≡ a.x) → IsBox (a ∷ b ∷ c ∷ d ∷ []) (extent_of (a ∷ b ∷ c ∷ d ∷ []))
of_four a b c d convex first second third fourth = go first
  where
    abc : pos 0 ≺ triangle_of a b c
    abc = convex 0 (omega arith) 2 (omega arith) (λ e. omega (arith, e)) (λ e. omega (arith, e))

    bcd : pos 0 ≺ triangle_of b c d
    bcd = convex 1 (omega arith) 3 (omega arith) (λ e. omega (arith, e)) (λ e. omega (arith, e))

    cda : pos 0 ≺ triangle_of c d a
    cda = convex 2 (omega arith) 0 (omega arith) (λ e. omega (arith, e)) (λ e. omega (arith, e))

    go : (a.y ≡ b.y) ⊎ (a.x ≡ b.x) → IsBox (a ∷ b ∷ c ∷ d ∷ []) (extent_of (a ∷ b ∷ c ∷ d ∷ []))
    go (inl ab) =
        let bc = then_upright a b c abc ab second in
        let cd = then_level b c d bcd bc third in
        let da = then_upright c d a cda cd fourth in
        by_two Boxed a b c d (pt c.x a.y) c (pt a.x c.y) (λ i. pt (sym bc i) (ab i)) refl
        (λ i. pt (sym da i) (cd i)) (across a.x a.y c.x c.y) convex
    go (inr ab) =
        let bc = then_level a b c abc ab second in
        let cd = then_upright b c d bcd bc third in
        let da = then_level c d a cda cd fourth in
        by_two Boxed a b c d (pt a.x c.y) c (pt c.x a.y) (λ i. pt (ab i) (sym bc i)) refl
        (λ i. pt (cd i) (sym da i)) (upright a.x a.y c.x c.y) convex

pub boxed : (ps : List Point) → IsRectangle ps → IsBox ps (extent_of ps)
boxed (a ∷ b ∷ c ∷ d ∷ []) h = of_four a b c d h.polygon.convex (h.sides 0 (omega arith))
    (h.sides 1 (omega arith)) (h.sides 2 (omega arith)) (h.sides 3 (omega arith))
boxed [] h = absurd (omega (arith, h.four))
boxed (a ∷ []) h = absurd (omega (arith, h.four))
boxed (a ∷ b ∷ []) h = absurd (omega (arith, h.four))
boxed (a ∷ b ∷ c ∷ []) h = absurd (omega (arith, h.four))
boxed (a ∷ b ∷ c ∷ d ∷ e ∷ ps) h = absurd (omega (arith, h.four))
