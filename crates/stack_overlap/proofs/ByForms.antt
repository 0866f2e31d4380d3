-- Convexity, insides and separation in the language of linear forms.
use Rattle.std.proofs.Common.{arith, ◌↔◌}
use mathlib.Core.Path.{◌≡◌, sym, ◌∙◌, subst}
use mathlib.Core.Logic.{◌≢◌}
use mathlib.Core.List.{List}
use Prim.Native.Nat.{ℕ, ◌<◌}
use lib.IntN.{ℤ, pos, ◌+ℤ◌, ◌-ℤ◌, ◌*ℤ◌}
use lib.ListN.{length}
use Rattle.stack_algebra.specs.Search.{next_round}
use Rattle.stack_algebra.proofs.Integers.{sums, expand}
use Rattle.stack_algebra.proofs.Order.{◌≼◌, ◌≺◌}
use Rattle.stack_polygon.specs.declared.point.Point.{Point}
use Rattle.stack_polygon.specs.Plane.{Triple, triangle_of, left_of, advance_of, ahead_of}
use Rattle.stack_polygon.specs.Corners.{corner_of, end_of, IsStrictlyConvex, IsStrictlyInside, IsInside as IsInsideOf}
use Rattle.stack_overlap.specs.Forms.{value, at_corner, line, along, square, edge, IsBetween}
use Rattle.stack_overlap.specs.Separation.{IsCommon, Separates, NoneSeparates}
use Rattle.stack_overlap.specs.CommonPoints.{IsOnSegment, IsStrictlyBetween}

abbrev pub IsConvex : List Point → Type 0
IsConvex P = (i j : ℕ) → i < length P → j < length P → j ≢ i → j ≢ next_round (length P) i
    → pos 0 ≺ at_corner (edge P i) (corner_of P j)

abbrev pub IsInside : List Point → Triple → Type 0
IsInside P X = (i : ℕ) → i < length P → pos 0 ≼ value (edge P i) X

pub record IsShared (P Q : List Point) (X : Triple) : Type 0 where
  pub first : IsInside P X
  pub second : IsInside Q X

pub record IsOuter (P : List Point) (i : ℕ) (Q : List Point) : Type 0 where
  pub is_edge : i < length P
  pub apart : (j : ℕ) → j < length Q → at_corner (edge P i) (corner_of Q j) ≼ pos 0

-- strictly inside one, and some point strictly inside both
abbrev pub IsDeep : List Point → Triple → Type 0
IsDeep P X = (i : ℕ) → i < length P → pos 0 ≺ value (edge P i) X

abbrev pub Meets : List Point → List Point → Type 0
Meets P Q = (X : Triple) × (IsDeep P X × IsDeep Q X)

abbrev pub NoneOuter : List Point → List Point → Type 0
NoneOuter P Q = (k : ℕ) → ¬ (IsOuter P k Q)

-- the forms have the values of the definitions
pub side-form : (a b c : Point) → triangle_of a b c ≡ at_corner (line a b) c
side-form a b c = go a.x a.y b.x b.y c.x c.y
  where
    go : (ax ay bx by cx cy : ℤ) → (bx -ℤ ax) *ℤ (cy -ℤ ay) -ℤ (by -ℤ ay) *ℤ (cx -ℤ ax) ≡ (ay -ℤ by) *ℤ cx +ℤ
        (bx -ℤ ax) *ℤ cy +ℤ (ax *ℤ by -ℤ bx *ℤ ay)
    go ax ay bx by cx cy = simp expand (omega (arith, sums))

pub advance-form : (a b c : Point) → advance_of a b c ≡ at_corner (along a b) c
advance-form a b c = go a.x a.y b.x b.y c.x c.y
  where
    go : (ax ay bx by cx cy : ℤ) → (bx -ℤ ax) *ℤ (cx -ℤ ax) +ℤ (by -ℤ ay) *ℤ (cy -ℤ ay) ≡ (bx -ℤ ax) *ℤ cx +ℤ
        (by -ℤ ay) *ℤ cy +ℤ ((ax -ℤ bx) *ℤ ax +ℤ (ay -ℤ by) *ℤ ay)
    go ax ay bx by cx cy = simp expand (omega (arith, sums))

pub left-form : (a b : Point) (X : Triple) → left_of a b X ≡ value (line a b) X
left-form a b X = go a.x a.y b.x b.y X.x X.y X.w
  where
    go : (ax ay bx by x y w : ℤ) → (bx -ℤ ax) *ℤ (y -ℤ ay *ℤ w) -ℤ (by -ℤ ay) *ℤ (x -ℤ ax *ℤ w) ≡
        (ay -ℤ by) *ℤ x +ℤ (bx -ℤ ax) *ℤ y +ℤ (ax *ℤ by -ℤ bx *ℤ ay) *ℤ w
    go ax ay bx by x y w = simp expand (omega (arith, sums))

pub ahead-form : (a b : Point) (X : Triple) → ahead_of a b X ≡ value (along a b) X
ahead-form a b X = go a.x a.y b.x b.y X.x X.y X.w
  where
    go : (ax ay bx by x y w : ℤ) → (bx -ℤ ax) *ℤ (x -ℤ ax *ℤ w) +ℤ (by -ℤ ay) *ℤ (y -ℤ ay *ℤ w) ≡
        (bx -ℤ ax) *ℤ x +ℤ (by -ℤ ay) *ℤ y +ℤ ((ax -ℤ bx) *ℤ ax +ℤ (ay -ℤ by) *ℤ ay) *ℤ w
    go ax ay bx by x y w = simp expand (omega (arith, sums))

-- how far a point lies ahead on an edge, from its other end
pub back-form : (a b : Point) (X : Triple) → ahead_of b a X ≡ square a b *ℤ X.w -ℤ value (along a b) X
back-form a b X = go a.x a.y b.x b.y X.x X.y X.w
  where
    go : (ax ay bx by x y w : ℤ) → (ax -ℤ bx) *ℤ (x -ℤ bx *ℤ w) +ℤ (ay -ℤ by) *ℤ (y -ℤ by *ℤ w) ≡
        ((bx -ℤ ax) *ℤ (bx -ℤ ax) +ℤ (by -ℤ ay) *ℤ (by -ℤ ay)) *ℤ w -ℤ
        ((bx -ℤ ax) *ℤ x +ℤ (by -ℤ ay) *ℤ y +ℤ ((ax -ℤ bx) *ℤ ax +ℤ (ay -ℤ by) *ℤ ay) *ℤ w)
    go ax ay bx by x y w = simp expand (omega (arith, sums))

pub back-advance : (a b c : Point) → advance_of b a c ≡ square a b -ℤ at_corner (along a b) c
back-advance a b c = go a.x a.y b.x b.y c.x c.y
  where
    go : (ax ay bx by x y : ℤ) → (ax -ℤ bx) *ℤ (x -ℤ bx) +ℤ (ay -ℤ by) *ℤ (y -ℤ by) ≡ (bx -ℤ ax) *ℤ
        (bx -ℤ ax) +ℤ (by -ℤ ay) *ℤ (by -ℤ ay) -ℤ ((bx -ℤ ax) *ℤ x +ℤ (by -ℤ ay) *ℤ y +ℤ
        ((ax -ℤ bx) *ℤ ax +ℤ (ay -ℤ by) *ℤ ay))
    go ax ay bx by x y = simp expand (omega (arith, sums))

pub convex-form : (P : List Point) → IsStrictlyConvex P → IsConvex P
convex-form P h i j hi hj n m = subst (λ z. pos 0 ≺ z) (side-form (corner_of P i) (end_of P i) (corner_of P j))
    (h i hi j hj n m)

pub inside-form : (P : List Point) (X : Triple) → IsInsideOf P X → IsInside P X
inside-form P X h i hi = subst (λ z. pos 0 ≼ z) (left-form (corner_of P i) (end_of P i) X) (h i hi)

pub form-inside : (P : List Point) (X : Triple) → IsInside P X → IsInsideOf P X
form-inside P X h i hi = subst (λ z. pos 0 ≼ z) (sym (left-form (corner_of P i) (end_of P i) X)) (h i hi)

pub shared-form : (P Q : List Point) (X : Triple) → IsCommon P Q X → IsShared P Q X
shared-form P Q X h = record { first = inside-form P X h.first; second = inside-form Q X h.second }

pub form-shared : (P Q : List Point) (X : Triple) → IsShared P Q X → IsCommon P Q X
form-shared P Q X h = record { first = form-inside P X h.first; second = form-inside Q X h.second }

pub outer-form : (P : List Point) (i : ℕ) (Q : List Point) → Separates P i Q → IsOuter P i Q
outer-form P i Q h = record {
  is_edge = h.is_edge;
  apart = λ j hj. subst (λ z. z ≼ pos 0) (side-form (corner_of P i) (end_of P i) (corner_of Q j))
      (h.apart j hj);
}

pub none-outer : (P Q : List Point) → NoneSeparates P Q → NoneOuter P Q
none-outer P Q h k o = h k (record {
  is_edge = o.is_edge;
  apart = λ j hj. subst (λ z. z ≼ pos 0) (sym (side-form (corner_of P k) (end_of P k) (corner_of Q j)))
      (o.apart j hj);
})

pub deep-form : (P : List Point) (X : Triple) → IsStrictlyInside P X → IsDeep P X
deep-form P X h i hi = subst (λ z. pos 0 ≺ z) (left-form (corner_of P i) (end_of P i) X) (h i hi)

pub form-deep : (P : List Point) (X : Triple) → IsDeep P X → IsStrictlyInside P X
form-deep P X h i hi = subst (λ z. pos 0 ≺ z) (sym (left-form (corner_of P i) (end_of P i) X)) (h i hi)

pub segment-form : (a b : Point) (X : Triple) → IsBetween a b X ↔ IsOnSegment a b X
segment-form a b X = (
  λ h. record {
    on_line = left-form a b X ∙ h.on_line;
    from_start = start X.w (ahead-form a b X) h.above;
    from_end = end (back-form a b X) h.below;
  },
  λ h. record {
    on_line = sym (left-form a b X) ∙ h.on_line;
    above = start' X.w (ahead-form a b X) h.from_start;
    below = end' (back-form a b X) h.from_end;
  },
)
  where
    start : {y z : ℤ} (w : ℤ) → y ≡ z → pos 0 *ℤ w ≼ z → pos 0 ≼ y
    start w e l = omega (arith, sums, e, simp expand at l)

    start' : {y z : ℤ} (w : ℤ) → y ≡ z → pos 0 ≼ y → pos 0 *ℤ w ≼ z
    start' w e l = simp expand (omega (arith, sums))

    end : {y s z : ℤ} → y ≡ s -ℤ z → z ≼ s → pos 0 ≼ y
    end e l = omega (arith, sums)

    end' : {y s z : ℤ} → y ≡ s -ℤ z → pos 0 ≼ y → z ≼ s
    end' e l = omega (arith, sums)

pub within-form : (a b c : Point) → at_corner (line a b) c ≡ pos 0 → pos 0 ≺ at_corner (along a b) c
    → at_corner (along a b) c ≺ square a b
    → IsStrictlyBetween a b c
within-form a b c h l m = record {
  on_line = side-form a b c ∙ h;
  from_start = subst (λ z. pos 0 ≺ z) (sym (advance-form a b c)) l;
  from_end = less (back-advance a b c) m;
}
  where
    less : {y s z : ℤ} → y ≡ s -ℤ z → z ≺ s → pos 0 ≺ y
    less e l = omega (arith, sums)
