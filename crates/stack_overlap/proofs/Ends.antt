-- The ends of a stretch of a line, and of the common points.
use Rattle.std.proofs.Common.{arith, ◌↔◌}
use mathlib.Core.Path.{◌≡◌, sym, ap, ◌∙◌, subst}
use mathlib.Core.Logic.{◌⊎◌, inl, inr}
use mathlib.Core.List.{List}
use lib.IntN.{ℤ, pos, ◌+ℤ◌, ◌-ℤ◌, ◌*ℤ◌, neg_ℤ, *ℤ_comm}
use Rattle.std.proofs.lemmas.Int.{ints}
use Rattle.stack_algebra.proofs.Integers.{sums, expand, pos-left}
use Rattle.stack_algebra.proofs.Order.{◌≼◌, ◌≺◌, mul_nonneg, mul_pos, mul_le_right, square_nonneg, nonneg-cancel}
use Rattle.stack_polygon.specs.declared.point.Point.{Point}
use Rattle.stack_polygon.specs.Plane.{Triple, IsAt, IsSamePoint}
use Rattle.stack_overlap.specs.declared.types.Common.{Common}
use Rattle.stack_overlap.specs.declared.types.Common.TheVariants.{Nothing, Corner, OnEdge, Segment}
use Rattle.stack_overlap.specs.Forms.{IsMark, LinearForm, IsOnStretch, value, line, along, square}
use Rattle.stack_overlap.specs.Separation.{IsCommon}
use Rattle.stack_overlap.specs.CommonPoints.{IsBefore, IsCommonOf}
use Rattle.stack_overlap.specs.Ends.{IsMidpoint, IsExtremeIn, IsEndAt}
use Rattle.stack_overlap.proofs.ByForms.{segment-form}
use Rattle.stack_overlap.proofs.Identities.{less, opposite, value-less, value-opposite, place, value-place, line-start}
use Rattle.stack_overlap.proofs.Identities.{line-end, along-start, along-end}
use Rattle.stack_overlap.proofs.Midpoints.{reflection, value-reflection, reflection-midpoint, value-midpoint}
use Rattle.stack_overlap.proofs.Pieces.{value-at}
use Rattle.stack_overlap.proofs.Stretches.{is-mark}
use Rattle.stack_overlap.proofs.Support.{either_side}

-- a corner and a triple that mean the same
pub same-at : (X Y : Triple) (c : Point) → IsAt X c → IsAt Y c → IsSamePoint X Y
same-at X Y c h k = record { x = go c.x X.w Y.w h.x k.x; y = go c.y X.w Y.w h.y k.y }
  where
    go : (c w v : ℤ) {x y : ℤ} → x ≡ c *ℤ w → y ≡ c *ℤ v → x *ℤ v ≡ y *ℤ w
    go c w v e f = ap (λ z. z *ℤ v) e ∙ mid c w v ∙ ap (λ z. z *ℤ w) (sym f)
      where
        mid : (c w v : ℤ) → c *ℤ w *ℤ v ≡ c *ℤ v *ℤ w
        mid c w v = simp expand (omega (arith, sums))

-- a form that is 0 at a midpoint and not negative at the two points is 0 there
pub zero-at : (g : LinearForm) (X Y Z : Triple) → IsMidpoint X Y Z → value g X ≡ pos 0 → pos 0 ≼ value g Y
    → pos 0 ≼ value g Z → (value g Y ≡ pos 0) × (value g Z ≡ pos 0)
zero-at g X Y Z m e hy hz = go (value g Y) (value g Z) X.w Y.w Z.w X.positive Y.positive Z.positive hy hz
    (sym (value-midpoint g X Y Z m) ∙ ap (λ z. pos 2 *ℤ (Y.w *ℤ Z.w *ℤ z)) e ∙ none Y.w Z.w)
  where
    none : (v u : ℤ) → pos 2 *ℤ (v *ℤ u *ℤ pos 0) ≡ pos 0
    none v u = simp expand (omega (arith, sums))

    go : (p q w v u : ℤ) → pos 0 ≺ w → pos 0 ≺ v → pos 0 ≺ u → pos 0 ≼ p → pos 0 ≼ q → w *ℤ (p *ℤ u +ℤ q *ℤ v)
        ≡ pos 0 → (p ≡ pos 0) × (q ≡ pos 0)
    go p q w v u hw hv hu hp hq e =
        let s = nonneg-cancel w (neg_ℤ (p *ℤ u +ℤ q *ℤ v)) hw (simp expand (omega (arith, sums, simp expand at e))) in
        let m = mul_nonneg p u hp (omega (arith, sums)) in
        let n = mul_nonneg q v hq (omega (arith, sums)) in
        let x = nonneg-cancel u (neg_ℤ p) hu (simp expand (omega (arith, sums, *ℤ_comm p u))) in
        let y = nonneg-cancel v (neg_ℤ q) hv (simp expand (omega (arith, sums, *ℤ_comm q v))) in
        (omega (arith, sums), omega (arith, sums))

module _ (a b : Point) (long : pos 0 ≺ square a b) (f t : ℤ) (F G : Point) (from : IsMark a b F f) (to : IsMark a b G t)
    (C : Triple → Type 0) (points : (X : Triple) → C X ↔ IsOnStretch a b f t X) where
  -- points at the beginning are ends
  pub from-end : (X : Triple) → C X → value (along a b) X ≡ f *ℤ X.w → IsExtremeIn C X
  from-end X h e = record {
    is_in = h;
    extreme = λ Y Z y z m.
        let r = zero-at (less (along a b) f) X Y Z m (level (value-less (along a b) f X) e)
        (least (value-less (along a b) f Y) ((points Y).0 y).above)
        (least (value-less (along a b) f Z) ((points Z).0 z).above) in
        same-at Y Z F (is-mark a b F f Y long from ((points Y).0 y).on_line (back (value-less (along a b) f Y) r.0))
        (is-mark a b F f Z long from ((points Z).0 z).on_line (back (value-less (along a b) f Z) r.1));
  }
    where
      level : {y z s : ℤ} → y ≡ z -ℤ s → z ≡ s → y ≡ pos 0
      level e h = omega (arith, sums)

      back : {y z s : ℤ} → y ≡ z -ℤ s → y ≡ pos 0 → z ≡ s
      back e h = omega (arith, sums)

      least : {y z s : ℤ} → y ≡ z -ℤ s → s ≼ z → pos 0 ≼ y
      least e h = omega (arith, sums)

  pub to-end : (X : Triple) → C X → value (along a b) X ≡ t *ℤ X.w → IsExtremeIn C X
  to-end X h e = record {
    is_in = h;
    extreme = λ Y Z y z m.
        let g = opposite (less (along a b) t) in
        let r = zero-at g X Y Z m (level (value-opposite (less (along a b) t) X) (value-less (along a b) t X) e)
        (least (value-opposite (less (along a b) t) Y) (value-less (along a b) t Y) ((points Y).0 y).below)
        (least (value-opposite (less (along a b) t) Z) (value-less (along a b) t Z) ((points Z).0 z).below) in
        same-at Y Z G (is-mark a b G t Y long to ((points Y).0 y).on_line
        (back (value-opposite (less (along a b) t) Y) (value-less (along a b) t Y) r.0))
        (is-mark a b G t Z long to ((points Z).0 z).on_line (back (value-opposite (less (along a b) t) Z)
        (value-less (along a b) t Z) r.1));
  }
    where
      level : {y x z s : ℤ} → y ≡ neg_ℤ x → x ≡ z -ℤ s → z ≡ s → y ≡ pos 0
      level e f h = omega (arith, sums)

      back : {y x z s : ℤ} → y ≡ neg_ℤ x → x ≡ z -ℤ s → y ≡ pos 0 → z ≡ s
      back e f h = omega (arith, sums)

      least : {y x z s : ℤ} → y ≡ neg_ℤ x → x ≡ z -ℤ s → z ≼ s → pos 0 ≼ y
      least e f h = omega (arith, sums)

  pub mark-place : (c : Point) (k : ℤ) → IsMark a b c k → f ≼ k → k ≼ t → C (place c)
  mark-place c k hc l m = (points (place c)).1 (record {
    on_line = value-place (line a b) c ∙ hc.on_line;
    above = one f (value-place (along a b) c ∙ hc.place) l;
    below = one' t (value-place (along a b) c ∙ hc.place) m;
  })
    where
      one : (f : ℤ) {z k : ℤ} → z ≡ k → f ≼ k → f *ℤ pos 1 ≼ z
      one f e l = simp expand (omega (arith, sums))

      one' : (t : ℤ) {z k : ℤ} → z ≡ k → k ≼ t → z ≼ t *ℤ pos 1
      one' t e l = simp expand (omega (arith, sums))

  -- X is its own reflection in a corner
  own-reflection : (X : Triple) (c : Point) → IsSamePoint (place c) (reflection X c) → IsAt X c
  own-reflection X c s = record { x = go X.x c.x X.w s.x; y = go X.y c.y X.w s.y }
    where
      go : (x c w : ℤ) → c *ℤ w ≡ (pos 2 *ℤ x -ℤ c *ℤ w) *ℤ pos 1 → x ≡ c *ℤ w
      go x c w e = omega (arith, sums, simp expand at e)

  reflected : (X : Triple) (c : Point) (k : ℤ) → C X → IsMark a b c k →
      f *ℤ X.w ≼ (pos 2 *ℤ value (along a b) X -ℤ k *ℤ X.w) → (pos 2 *ℤ value (along a b) X -ℤ k *ℤ X.w) ≼ t *ℤ X.w
      → C (reflection X c)
  reflected X c k h hc l m = (points (reflection X c)).1 (record {
    on_line = value-reflection (line a b) X c ∙ (λ i. pos 2 *ℤ ((points X).0 h).on_line i -ℤ hc.on_line i *ℤ X.w)
        ∙ none X.w;
    above = subst (λ z. f *ℤ X.w ≼ z) (sym place_is) l;
    below = subst (λ z. z ≼ t *ℤ X.w) (sym place_is) m;
  })
    where
      none : (w : ℤ) → pos 2 *ℤ pos 0 -ℤ pos 0 *ℤ w ≡ pos 0
      none w = omega (arith, ints)

      place_is : value (along a b) (reflection X c) ≡ pos 2 *ℤ value (along a b) X -ℤ k *ℤ X.w
      place_is = value-reflection (along a b) X c ∙ ap (λ z. pos 2 *ℤ value (along a b) X -ℤ z *ℤ X.w) hc.place

  -- the ends of a stretch are its two marks, and there are no others
  pub ends : (X : Triple) → f ≼ t → IsExtremeIn C X → (IsAt X F) ⊎ (IsAt X G)
  ends X l h = elim (either_side ((value (along a b) X -ℤ f *ℤ X.w) -ℤ (t *ℤ X.w -ℤ value (along a b) X))) [
    | inl s ↦ inl (own-reflection X F (h.extreme (place F) (reflection X F) (mark-place F f from (self f) l)
        (reflected X F f h.is_in from (low f t X.w (value (along a b) X) ((points X).0 h.is_in).above)
        (high f t X.w (value (along a b) X) s)) (reflection-midpoint X F)))
    | inr s ↦ inr (own-reflection X G (h.extreme (place G) (reflection X G) (mark-place G t to l (self t))
        (reflected X G t h.is_in to (low' f t X.w (value (along a b) X) s)
        (high' f t X.w (value (along a b) X) ((points X).0 h.is_in).below)) (reflection-midpoint X G)))
  ]
    where
      self : (z : ℤ) → z ≼ z
      self z = omega (arith, sums)

      low : (f t w z : ℤ) → f *ℤ w ≼ z → f *ℤ w ≼ (pos 2 *ℤ z -ℤ f *ℤ w)
      low f t w z l = simp pos-left (omega (arith, sums))

      high : (f t w z : ℤ) → ((z -ℤ f *ℤ w) -ℤ (t *ℤ w -ℤ z)) ≼ pos 0 → (pos 2 *ℤ z -ℤ f *ℤ w) ≼ t *ℤ w
      high f t w z l = simp pos-left (omega (arith, sums))

      low' : (f t w z : ℤ) → pos 0 ≼ ((z -ℤ f *ℤ w) -ℤ (t *ℤ w -ℤ z)) → f *ℤ w ≼ (pos 2 *ℤ z -ℤ t *ℤ w)
      low' f t w z l = simp pos-left (omega (arith, sums))

      high' : (f t w z : ℤ) → z ≼ t *ℤ w → (pos 2 *ℤ z -ℤ t *ℤ w) ≼ t *ℤ w
      high' f t w z l = simp pos-left (omega (arith, sums))

  -- a point at a mark of the stretch is in it
  pub mark-in : (c : Point) (k : ℤ) (X : Triple) → IsMark a b c k → f ≼ k → k ≼ t → IsAt X c → C X
  mark-in c k X hc l m h = (points X).1 (record {
    on_line = value-at (line a b) c X h ∙ ap (λ z. z *ℤ X.w) hc.on_line ∙ none X.w;
    above = up (value-at (along a b) c X h ∙ ap (λ z. z *ℤ X.w) hc.place)
        (mul_le_right X.w f k (weak X.w X.positive) l);
    below = down (value-at (along a b) c X h ∙ ap (λ z. z *ℤ X.w) hc.place)
        (mul_le_right X.w k t (weak X.w X.positive) m);
  })
    where
      none : (w : ℤ) → pos 0 *ℤ w ≡ pos 0
      none w = omega (arith, ints)

      weak : (w : ℤ) → pos 0 ≺ w → pos 0 ≼ w
      weak w h = omega (arith, sums)

      up : {x y z : ℤ} → z ≡ y → x ≼ y → x ≼ z
      up e l = omega (arith, sums)

      down : {x y z : ℤ} → z ≡ y → y ≼ x → z ≼ x
      down e l = omega (arith, sums)

-- two corners of which one is before the other are apart
long-between : (a b : Point) → IsBefore a b → pos 0 ≺ square a b
long-between a b (inl l) = go (b.x -ℤ a.x) (b.y -ℤ a.y) (far l)
  where
    far : {x y : ℤ} → x ≺ y → pos 0 ≺ y -ℤ x
    far l = omega (arith, sums)

    go : (d e : ℤ) → pos 0 ≺ d → pos 0 ≺ d *ℤ d +ℤ e *ℤ e
    go d e l = let s = mul_pos d d l l in let t = square_nonneg e in omega (arith, sums)
long-between a b (inr r) = go (b.x -ℤ a.x) (b.y -ℤ a.y) (far r.1)
  where
    far : {x y : ℤ} → x ≺ y → pos 0 ≺ y -ℤ x
    far l = omega (arith, sums)

    go : (d e : ℤ) → pos 0 ≺ e → pos 0 ≺ d *ℤ d +ℤ e *ℤ e
    go d e l = let s = mul_pos e e l l in let t = square_nonneg d in omega (arith, sums)

-- the ends of the common points are exactly those that the answer names
pub ends-of : (P Q : List Point) (v : Common) → IsCommonOf P Q v → (X : Triple)
    → IsExtremeIn (IsCommon P Q) X ↔ IsEndAt v X
ends-of P Q Nothing m X = (λ h. m X h.is_in, λ h. absurd h)
ends-of P Q (Corner c) m X = (
  λ h. (m.2 X).0 h.is_in,
  λ h. record { is_in = (m.2 X).1 h; extreme = λ Y Z y z e. same-at Y Z c ((m.2 Y).0 y) ((m.2 Z).0 z) },
)
ends-of P Q (OnEdge c e) m X = (
  λ h. (m.1 X).0 h.is_in,
  λ h. record { is_in = (m.1 X).1 h; extreme = λ Y Z y z e. same-at Y Z c ((m.1 Y).0 y) ((m.1 Z).0 z) },
)
ends-of P Q (Segment a b) m X = (
  λ h. ends a b long (pos 0) (square a b) a b start end (IsCommon P Q) points X (weak long) h,
  λ h. elim h [
    | inl g ↦ from-end a b long (pos 0) (square a b) a b start end (IsCommon P Q) points X
        (mark-in a b long (pos 0) (square a b) a b start end (IsCommon P Q) points a (pos 0) X start (self (pos 0))
        (weak long) g)
        (value-at (along a b) a X g ∙ ap (λ z. z *ℤ X.w) (along-start a b))
    | inr g ↦ to-end a b long (pos 0) (square a b) a b start end (IsCommon P Q) points X
        (mark-in a b long (pos 0) (square a b) a b start end (IsCommon P Q) points b (square a b) X end (weak long)
        (self (square a b)) g)
        (value-at (along a b) b X g ∙ ap (λ z. z *ℤ X.w) (along-end a b))
  ],
)
  where
    long : pos 0 ≺ square a b
    long = long-between a b m.0

    start : IsMark a b a (pos 0)
    start = record { on_line = line-start a b; place = along-start a b }

    end : IsMark a b b (square a b)
    end = record { on_line = line-end a b; place = along-end a b }

    points : (Y : Triple) → IsCommon P Q Y ↔ IsOnStretch a b (pos 0) (square a b) Y
    points Y = (λ y. (segment-form a b Y).1 ((m.1 Y).0 y), λ y. (m.1 Y).1 ((segment-form a b Y).0 y))

    weak : {z : ℤ} → pos 0 ≺ z → pos 0 ≼ z
    weak h = omega (arith, sums)

    self : (z : ℤ) → z ≼ z
    self z = omega (arith, sums)
