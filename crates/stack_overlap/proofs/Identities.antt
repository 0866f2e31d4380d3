-- Identities of forms at points.
use mathlib.Core.Path.{◌≡◌, refl}
use mathlib.Core.List.{[], ◌∷◌}
use lib.IntN.{ℤ, pos, ◌+ℤ◌, ◌-ℤ◌, ◌*ℤ◌, neg_ℤ}
use native.Mathlib.Omega.{arith}
use Rattle.stack_algebra.proofs.Ring.{Exp, var, num, ◌⊕◌, ◌⊖◌, ◌⊗◌, solve, nth, ring4}
use Rattle.stack_algebra.proofs.Order.{◌≺◌}
use Rattle.std.proofs.lemmas.Int.{ints}
use Rattle.stack_algebra.proofs.IntegerRing.{integers}
use Rattle.stack_polygon.specs.declared.point.Point.{Point}
use Rattle.stack_polygon.specs.Plane.{Triple}
use Rattle.stack_overlap.specs.Forms.{LinearForm, value, at_corner, line, along, square}

-- forms of expressions
abbrev pub form : Exp → Exp → Exp → Exp → Exp → Exp → Exp
form l m n x y w = l ⊗ x ⊕ m ⊗ y ⊕ n ⊗ w

abbrev pub form_at : Exp → Exp → Exp → Exp → Exp → Exp
form_at l m n x y = l ⊗ x ⊕ m ⊗ y ⊕ n

abbrev line_of : Exp → Exp → Exp → Exp → Exp → Exp → Exp → Exp
line_of ax ay bx by x y w = (ay ⊖ by) ⊗ x ⊕ (bx ⊖ ax) ⊗ y ⊕ (ax ⊗ by ⊖ bx ⊗ ay) ⊗ w

abbrev line_at : Exp → Exp → Exp → Exp → Exp → Exp → Exp
line_at ax ay bx by x y = (ay ⊖ by) ⊗ x ⊕ (bx ⊖ ax) ⊗ y ⊕ (ax ⊗ by ⊖ bx ⊗ ay)

abbrev pub v0 : Exp
v0 = var 0

abbrev pub v1 : Exp
v1 = var 1

abbrev pub v2 : Exp
v2 = var 2

abbrev pub v3 : Exp
v3 = var 3

abbrev pub v4 : Exp
v4 = var 4

abbrev pub v5 : Exp
v5 = var 5

abbrev pub v6 : Exp
v6 = var 6

abbrev pub v7 : Exp
v7 = var 7

abbrev pub v8 : Exp
v8 = var 8

abbrev pub v9 : Exp
v9 = var 9

abbrev v10 : Exp
v10 = var 10

abbrev v11 : Exp
v11 = var 11

-- a form at a point, from its values at three corners
pub triangle : (f : LinearForm) (a b c : Point) (X : Triple) →
    at_corner (line a b) c *ℤ value f X ≡ value (line b c) X *ℤ at_corner f a +ℤ value
    (line c a) X *ℤ at_corner f b +ℤ value
    (line a b) X *ℤ at_corner f c
triangle f a b c X = solve integers
    (nth integers (f.l ∷ f.m ∷ f.n ∷ a.x ∷ a.y ∷ b.x ∷ b.y ∷ c.x ∷ c.y ∷ X.x ∷ X.y ∷ X.w ∷ []))
    (line_at v3 v4 v5 v6 v7 v8 ⊗ form v0 v1 v2 v9 v10 v11)
    (line_of v5 v6 v7 v8 v9 v10 v11 ⊗ form_at v0 v1 v2 v3 v4 ⊕ line_of v7 v8 v3 v4 v9 v10 v11 ⊗ form_at v0 v1 v2 v5
    v6 ⊕ line_of v3 v4 v5 v6 v9 v10 v11 ⊗ form_at v0 v1 v2 v7 v8)
    refl

-- the other way along a line
pub reversed : (a b : Point) (X : Triple) → value (line b a) X ≡ neg_ℤ (value (line a b) X)
reversed a b X = solve integers (nth integers (a.x ∷ a.y ∷ b.x ∷ b.y ∷ X.x ∷ X.y ∷ X.w ∷ []))
    (line_of v2 v3 v0 v1 v4 v5 v6) (Exp.neg (line_of v0 v1 v2 v3 v4 v5 v6)) refl

-- three corners, turned about
pub turned : (a b c : Point) → at_corner (line a b) c ≡ at_corner (line b c) a
turned a b c = solve integers (nth integers (a.x ∷ a.y ∷ b.x ∷ b.y ∷ c.x ∷ c.y ∷ []))
    (line_at v0 v1 v2 v3 v4 v5) (line_at v2 v3 v4 v5 v0 v1) refl

-- a form on the direction from a to b, and on the one square to it
abbrev pub forth : LinearForm → Point → Point → ℤ
forth f a b = f.l *ℤ (b.x -ℤ a.x) +ℤ f.m *ℤ (b.y -ℤ a.y)

abbrev pub aside : LinearForm → Point → Point → ℤ
aside f a b = f.m *ℤ (b.x -ℤ a.x) -ℤ f.l *ℤ (b.y -ℤ a.y)

abbrev along_of : Exp → Exp → Exp → Exp → Exp → Exp → Exp → Exp
along_of ax ay bx by x y w = (bx ⊖ ax) ⊗ x ⊕ (by ⊖ ay) ⊗ y ⊕ ((ax ⊖ bx) ⊗ ax ⊕ (ay ⊖ by) ⊗ ay) ⊗ w

-- a form, from a point's place along a line and beside it
pub by_line : (f : LinearForm) (a b : Point) (X : Triple) →
    square a b *ℤ value f X ≡ value (line a b) X *ℤ aside f a b +ℤ value (along a b) X *ℤ forth f a b +ℤ X.w *ℤ
    (square a b *ℤ at_corner f a)
by_line f a b X = solve integers
    (nth integers (f.l ∷ f.m ∷ f.n ∷ a.x ∷ a.y ∷ b.x ∷ b.y ∷ X.x ∷ X.y ∷ X.w ∷ []))
    (sq ⊗ form v0 v1 v2 v7 v8 v9)
    (line_of v3 v4 v5 v6 v7 v8 v9 ⊗ (v1 ⊗ (v5 ⊖ v3) ⊖ v0 ⊗ (v6 ⊖ v4)) ⊕ along_of v3 v4 v5 v6 v7 v8 v9 ⊗
    (v0 ⊗ (v5 ⊖ v3) ⊕ v1 ⊗ (v6 ⊖ v4)) ⊕ v9 ⊗ (sq ⊗ form_at v0 v1 v2 v3 v4))
    refl
  where
    sq : Exp
    sq = (v5 ⊖ v3) ⊗ (v5 ⊖ v3) ⊕ (v6 ⊖ v4) ⊗ (v6 ⊖ v4)

pub by_line_at : (f : LinearForm) (a b c : Point) →
    square a b *ℤ at_corner f c ≡ at_corner (line a b) c *ℤ aside f a b +ℤ at_corner
    (along a b) c *ℤ forth f a b +ℤ square a b *ℤ at_corner f a
by_line_at f a b c = solve integers
    (nth integers (f.l ∷ f.m ∷ f.n ∷ a.x ∷ a.y ∷ b.x ∷ b.y ∷ c.x ∷ c.y ∷ []))
    (sq ⊗ form_at v0 v1 v2 v7 v8)
    (line_at v3 v4 v5 v6 v7 v8 ⊗ (v1 ⊗ (v5 ⊖ v3) ⊖ v0 ⊗ (v6 ⊖ v4)) ⊕
    ((v5 ⊖ v3) ⊗ v7 ⊕ (v6 ⊖ v4) ⊗ v8 ⊕ ((v3 ⊖ v5) ⊗ v3 ⊕ (v4 ⊖ v6) ⊗ v4)) ⊗
    (v0 ⊗ (v5 ⊖ v3) ⊕ v1 ⊗ (v6 ⊖ v4)) ⊕ sq ⊗ form_at v0 v1 v2 v3 v4)
    refl
  where
    sq : Exp
    sq = (v5 ⊖ v3) ⊗ (v5 ⊖ v3) ⊕ (v6 ⊖ v4) ⊗ (v6 ⊖ v4)

-- a form less a constant, and a form with its sign changed
abbrev pub less : LinearForm → ℤ → LinearForm
less f k = record { l = f.l; m = f.m; n = f.n -ℤ k }

abbrev pub opposite : LinearForm → LinearForm
opposite f = record { l = neg_ℤ f.l; m = neg_ℤ f.m; n = neg_ℤ f.n }

pub value-less : (f : LinearForm) (k : ℤ) (X : Triple) → value (less f k) X ≡ value f X -ℤ k *ℤ X.w
value-less f k X = solve integers (nth integers (f.l ∷ f.m ∷ f.n ∷ k ∷ X.x ∷ X.y ∷ X.w ∷ []))
    (form v0 v1 (v2 ⊖ v3) v4 v5 v6) (form v0 v1 v2 v4 v5 v6 ⊖ v3 ⊗ v6) refl

pub at-less : (f : LinearForm) (k : ℤ) (c : Point) → at_corner (less f k) c ≡ at_corner f c -ℤ k
at-less f k c = solve integers (nth integers (f.l ∷ f.m ∷ f.n ∷ k ∷ c.x ∷ c.y ∷ []))
    (form_at v0 v1 (v2 ⊖ v3) v4 v5) (form_at v0 v1 v2 v4 v5 ⊖ v3) refl

pub value-opposite : (f : LinearForm) (X : Triple) → value (opposite f) X ≡ neg_ℤ (value f X)
value-opposite f X = solve integers (nth integers (f.l ∷ f.m ∷ f.n ∷ X.x ∷ X.y ∷ X.w ∷ []))
    (form (Exp.neg v0) (Exp.neg v1) (Exp.neg v2) v3 v4 v5) (Exp.neg (form v0 v1 v2 v3 v4 v5)) refl

pub at-opposite : (f : LinearForm) (c : Point) → at_corner (opposite f) c ≡ neg_ℤ (at_corner f c)
at-opposite f c = solve integers (nth integers (f.l ∷ f.m ∷ f.n ∷ c.x ∷ c.y ∷ []))
    (form_at (Exp.neg v0) (Exp.neg v1) (Exp.neg v2) v3 v4) (Exp.neg (form_at v0 v1 v2 v3 v4)) refl

-- the ends of a line
pub line-start : (a b : Point) → at_corner (line a b) a ≡ pos 0
line-start a b = solve integers (nth integers (a.x ∷ a.y ∷ b.x ∷ b.y ∷ [])) (line_at v0 v1 v2 v3 v0 v1)
    (num (pos 0)) refl

pub line-end : (a b : Point) → at_corner (line a b) b ≡ pos 0
line-end a b = solve integers (nth integers (a.x ∷ a.y ∷ b.x ∷ b.y ∷ [])) (line_at v0 v1 v2 v3 v2 v3)
    (num (pos 0)) refl

pub along-start : (a b : Point) → at_corner (along a b) a ≡ pos 0
along-start a b = solve integers (nth integers (a.x ∷ a.y ∷ b.x ∷ b.y ∷ []))
    ((v2 ⊖ v0) ⊗ v0 ⊕ (v3 ⊖ v1) ⊗ v1 ⊕ ((v0 ⊖ v2) ⊗ v0 ⊕ (v1 ⊖ v3) ⊗ v1)) (num (pos 0)) refl

pub along-end : (a b : Point) → at_corner (along a b) b ≡ square a b
along-end a b = solve integers (nth integers (a.x ∷ a.y ∷ b.x ∷ b.y ∷ []))
    ((v2 ⊖ v0) ⊗ v2 ⊕ (v3 ⊖ v1) ⊗ v3 ⊕ ((v0 ⊖ v2) ⊗ v0 ⊕ (v1 ⊖ v3) ⊗ v1))
    ((v2 ⊖ v0) ⊗ (v2 ⊖ v0) ⊕ (v3 ⊖ v1) ⊗ (v3 ⊖ v1)) refl

-- the corner as a triple
abbrev pub place : Point → Triple
place c = record { x = c.x; y = c.y; w = pos 1; positive = one }
  where
    one : pos 0 ≺ pos 1
    one = omega (arith, ints)

pub value-place : (f : LinearForm) (c : Point) → value f (place c) ≡ at_corner f c
value-place f c = solve integers (nth integers (f.l ∷ f.m ∷ f.n ∷ c.x ∷ c.y ∷ []))
    (form v0 v1 v2 v3 v4 (num (pos 1))) (form_at v0 v1 v2 v3 v4) refl

-- the directions of two pairs of corners
abbrev along_at : Exp → Exp → Exp → Exp → Exp → Exp → Exp
along_at ax ay bx by x y = (bx ⊖ ax) ⊗ x ⊕ (by ⊖ ay) ⊗ y ⊕ ((ax ⊖ bx) ⊗ ax ⊕ (ay ⊖ by) ⊗ ay)

pub aside-line : (a b c d : Point) → aside (line c d) a b ≡ at_corner (along a b) d -ℤ at_corner (along a b) c
aside-line a b c d = solve integers (nth integers (a.x ∷ a.y ∷ b.x ∷ b.y ∷ c.x ∷ c.y ∷ d.x ∷ d.y ∷ []))
    ((v6 ⊖ v4) ⊗ (v2 ⊖ v0) ⊖ (v5 ⊖ v7) ⊗ (v3 ⊖ v1))
    (along_at v0 v1 v2 v3 v6 v7 ⊖ along_at v0 v1 v2 v3 v4 v5) refl

pub forth-line : (a b c d : Point) → forth (line c d) a b ≡ at_corner (line a b) c -ℤ at_corner (line a b) d
forth-line a b c d = solve integers (nth integers (a.x ∷ a.y ∷ b.x ∷ b.y ∷ c.x ∷ c.y ∷ d.x ∷ d.y ∷ []))
    ((v5 ⊖ v7) ⊗ (v2 ⊖ v0) ⊕ (v6 ⊖ v4) ⊗ (v3 ⊖ v1))
    (line_at v0 v1 v2 v3 v4 v5 ⊖ line_at v0 v1 v2 v3 v6 v7) refl

pub aside-along : (a b c d : Point) → aside (along c d) a b ≡ at_corner (line a b) d -ℤ at_corner (line a b) c
aside-along a b c d = solve integers (nth integers (a.x ∷ a.y ∷ b.x ∷ b.y ∷ c.x ∷ c.y ∷ d.x ∷ d.y ∷ []))
    ((v7 ⊖ v5) ⊗ (v2 ⊖ v0) ⊖ (v6 ⊖ v4) ⊗ (v3 ⊖ v1))
    (line_at v0 v1 v2 v3 v6 v7 ⊖ line_at v0 v1 v2 v3 v4 v5) refl

pub forth-along : (a b c d : Point) → forth (along c d) a b ≡ at_corner (along a b) d -ℤ at_corner (along a b) c
forth-along a b c d = solve integers (nth integers (a.x ∷ a.y ∷ b.x ∷ b.y ∷ c.x ∷ c.y ∷ d.x ∷ d.y ∷ []))
    ((v6 ⊖ v4) ⊗ (v2 ⊖ v0) ⊕ (v7 ⊖ v5) ⊗ (v3 ⊖ v1))
    (along_at v0 v1 v2 v3 v6 v7 ⊖ along_at v0 v1 v2 v3 v4 v5) refl

-- the place along a line, from its other end
pub along-reversed : (a b : Point) (X : Triple) → value (along b a) X ≡ square a b *ℤ X.w -ℤ value (along a b) X
along-reversed a b X = solve integers (nth integers (a.x ∷ a.y ∷ b.x ∷ b.y ∷ X.x ∷ X.y ∷ X.w ∷ []))
    (along_of v2 v3 v0 v1 v4 v5 v6)
    (((v2 ⊖ v0) ⊗ (v2 ⊖ v0) ⊕ (v3 ⊖ v1) ⊗ (v3 ⊖ v1)) ⊗ v6 ⊖ along_of v0 v1 v2 v3 v4 v5 v6) refl

pub square-reversed : (a b : Point) → square b a ≡ square a b
square-reversed a b = ring4 integers (λ ax ay bx by. (
  (ax ⊖ bx) ⊗ (ax ⊖ bx) ⊕ (ay ⊖ by) ⊗ (ay ⊖ by),
  (bx ⊖ ax) ⊗ (bx ⊖ ax) ⊕ (by ⊖ ay) ⊗
      (by ⊖ ay),
)) refl a.x a.y b.x b.y
