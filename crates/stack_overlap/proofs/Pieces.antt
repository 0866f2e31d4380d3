-- Pieces of a line: empty, one point, or a segment.
use Rattle.std.proofs.Common.{arith, ◌↔◌}
use mathlib.Core.Path.{◌≡◌, sym, ap, ◌∙◌, subst}
use lib.IntN.{ℤ, pos, ◌+ℤ◌, ◌-ℤ◌, ◌*ℤ◌, *ℤ_comm}
use Rattle.stack_algebra.proofs.CrossProducts.{cancel}
use Rattle.stack_algebra.proofs.Integers.{sums, expand}
use Rattle.stack_algebra.proofs.Order.{◌≼◌, ◌≺◌, mul_nonneg, mul_pos, nonneg-cancel}
use Rattle.std.proofs.lemmas.Int.{ints}
use Rattle.stack_polygon.specs.declared.point.Point.{Point}
use Rattle.stack_overlap.specs.Forms.{IsMark, LinearForm, IsOnStretch, IsBetween, value, at_corner, line, along, square}
use Rattle.stack_polygon.specs.Plane.{Triple, IsAt}
use Rattle.stack_overlap.proofs.Identities.{forth, aside, by_line, place, value-place, line-start, along-start}
use Rattle.stack_overlap.proofs.Identities.{along-end, aside-line, forth-line, aside-along, forth-along}
use Rattle.stack_overlap.proofs.Stretches.{is-mark, at-mark, x_form, y_form}

-- the values at a triple that is a corner
pub value-at : (f : LinearForm) (c : Point) (X : Triple) → IsAt X c → value f X ≡ at_corner f c *ℤ X.w
value-at f c X h = (λ i. f.l *ℤ h.x i +ℤ f.m *ℤ h.y i +ℤ f.n *ℤ X.w) ∙ go f.l f.m f.n c.x c.y X.w
  where
    go : (l m n x y w : ℤ) → l *ℤ (x *ℤ w) +ℤ m *ℤ (y *ℤ w) +ℤ n *ℤ w ≡ (l *ℤ x +ℤ m *ℤ y +ℤ n) *ℤ w
    go l m n x y w = simp expand (omega (arith, sums))

module _ (a b : Point) (long : pos 0 ≺ square a b) where
  -- one corner has one place, and one place one corner
  pub same-mark : (c d : Point) (k : ℤ) → IsMark a b c k → IsMark a b d k → c ≡ d
  same-mark c d k hc hd = λ i. record { x = by_x i; y = by_y i }
    where
      by : (f : LinearForm) → at_corner f c ≡ at_corner f d
      by f = cancel (square a b) (at_corner f c) (at_corner f d) long
          (at-mark f a b c k hc ∙ sym (at-mark f a b d k hd))

      first : (x y : ℤ) → pos 1 *ℤ x +ℤ pos 0 *ℤ y +ℤ pos 0 ≡ x
      first x y = omega (arith, ints)

      second : (x y : ℤ) → pos 0 *ℤ x +ℤ pos 1 *ℤ y +ℤ pos 0 ≡ y
      second x y = omega (arith, ints)

      by_x : c.x ≡ d.x
      by_x = sym (first c.x c.y) ∙ by x_form ∙ first d.x d.y

      by_y : c.y ≡ d.y
      by_y = sym (second c.x c.y) ∙ by y_form ∙ second d.x d.y

  -- a stretch that ends before it begins has no point
  pub empty-stretch : (f t : ℤ) (X : Triple) → t ≺ f → ¬ (IsOnStretch a b f t X)
  empty-stretch f t X l s = go f t X.w (value (along a b) X) X.positive l s.above s.below
    where
      go : (f t w z : ℤ) → pos 0 ≺ w → t ≺ f → f *ℤ w ≼ z → z ≼ t *ℤ w → ⊥
      go f t w z p l h k = omega (arith, sums, simp expand at (mul_pos (f -ℤ t) w (omega (arith, sums)) p))

  -- a stretch of no length is its corner
  pub point-stretch : (k : ℤ) (c : Point) (X : Triple) → IsMark a b c k → IsOnStretch a b k k X ↔ IsAt X c
  point-stretch k c X hc = (
    λ s. is-mark a b c k X long hc s.on_line (meet s.above s.below),
    λ h. record {
      on_line = value-at (line a b) c X h ∙ ap (λ z. z *ℤ X.w) hc.on_line ∙ none X.w;
      above = same (value-at (along a b) c X h ∙ ap (λ z. z *ℤ X.w) hc.place);
      below = same' (value-at (along a b) c X h ∙ ap (λ z. z *ℤ X.w) hc.place);
    },
  )
    where
      meet : {x z : ℤ} → x ≼ z → z ≼ x → z ≡ x
      meet h k = omega (arith, sums)

      same : {x z : ℤ} → z ≡ x → x ≼ z
      same e = omega (arith, sums)

      same' : {x z : ℤ} → z ≡ x → z ≼ x
      same' e = omega (arith, sums)

      none : (w : ℤ) → pos 0 *ℤ w ≡ pos 0
      none w = omega (arith, ints)

  -- a form at a point, from its value at a mark
  pub from-mark : (g : LinearForm) (c : Point) (k : ℤ) (X : Triple) → IsMark a b c k →
      square a b *ℤ value g X ≡ value (line a b) X *ℤ aside g a b +ℤ
      (value (along a b) X -ℤ k *ℤ X.w) *ℤ forth g a b +ℤ X.w *ℤ (square a b *ℤ at_corner g c)
  from-mark g c k X hc = go (square a b *ℤ value g X) (value (line a b) X) (aside g a b) (value (along a b) X)
      (forth g a b) X.w (square a b *ℤ at_corner g a) k (square a b *ℤ at_corner g c) (by_line g a b X)
      (at-mark g a b c k hc)
    where
      go : (A L s t u w v k C : ℤ) → A ≡ L *ℤ s +ℤ t *ℤ u +ℤ w *ℤ v → C ≡ k *ℤ u +ℤ v
          → A ≡ L *ℤ s +ℤ (t -ℤ k *ℤ w) *ℤ u +ℤ w *ℤ C
      go A L s t u w v k C e f = e ∙ mid ∙ ap (λ z. L *ℤ s +ℤ (t -ℤ k *ℤ w) *ℤ u +ℤ w *ℤ z) (sym f)
        where
          mid : L *ℤ s +ℤ t *ℤ u +ℤ w *ℤ v ≡ L *ℤ s +ℤ (t -ℤ k *ℤ w) *ℤ u +ℤ w *ℤ (k *ℤ u +ℤ v)
          mid = simp expand (omega (arith, sums))

  -- places along the line from c to d, where these are marks
  module _ (f t : ℤ) (c d : Point) (hc : IsMark a b c f) (hd : IsMark a b d t) where
    gap : {p q : ℤ} → p ≡ pos 0 → q ≡ pos 0 → p -ℤ q ≡ pos 0
    gap e h = omega (arith, sums)

    pub line-between : (X : Triple) → square a b *ℤ value (line c d) X ≡ (t -ℤ f) *ℤ value (line a b) X
    line-between X = from-mark (line c d) c f X hc
        ∙ (λ i. value (line a b) X *ℤ (aside-line a b c d ∙ (λ j. hd.place j -ℤ hc.place j)) i
        +ℤ (value (along a b) X -ℤ f *ℤ X.w) *ℤ (forth-line a b c d ∙ gap hc.on_line hd.on_line) i
        +ℤ X.w *ℤ (square a b *ℤ line-start c d i))
        ∙ tidy (value (line a b) X) (t -ℤ f) (value (along a b) X -ℤ f *ℤ X.w) X.w (square a b)
      where
        tidy : (l s v w n : ℤ) → l *ℤ s +ℤ v *ℤ pos 0 +ℤ w *ℤ (n *ℤ pos 0) ≡ s *ℤ l
        tidy l s v w n = simp expand (omega (arith, sums))

    pub along-between : (X : Triple) → square a b *ℤ value (along c d) X ≡ (t -ℤ f) *ℤ
        (value (along a b) X -ℤ f *ℤ X.w)
    along-between X = from-mark (along c d) c f X hc
        ∙ (λ i. value (line a b) X *ℤ (aside-along a b c d ∙ gap hd.on_line hc.on_line) i
        +ℤ (value (along a b) X -ℤ f *ℤ X.w) *ℤ (forth-along a b c d ∙ (λ j. hd.place j -ℤ hc.place j)) i
        +ℤ X.w *ℤ (square a b *ℤ along-start c d i))
        ∙ tidy (value (line a b) X) (t -ℤ f) (value (along a b) X -ℤ f *ℤ X.w) X.w (square a b)
      where
        tidy : (l s v w n : ℤ) → l *ℤ pos 0 +ℤ v *ℤ s +ℤ w *ℤ (n *ℤ pos 0) ≡ s *ℤ v
        tidy l s v w n = simp expand (omega (arith, sums))

    pub square-between : square a b *ℤ square c d ≡ (t -ℤ f) *ℤ (t -ℤ f)
    square-between = ap (λ z. square a b *ℤ z) (sym (value-place (along c d) d ∙ along-end c d))
        ∙ along-between (place d)
        ∙ ap (λ z. (t -ℤ f) *ℤ (z -ℤ f *ℤ pos 1)) (value-place (along a b) d ∙ hd.place) ∙ one t f
      where
        one : (t f : ℤ) → (t -ℤ f) *ℤ (t -ℤ f *ℤ pos 1) ≡ (t -ℤ f) *ℤ (t -ℤ f)
        one t f = simp expand (omega (arith, sums))

    pub segment-stretch : (X : Triple) → f ≺ t → IsOnStretch a b f t X ↔ IsBetween c d X
    segment-stretch X l = (
      λ s. record {
        on_line = cancel (square a b) (value (line c d) X) (pos 0) long
            (line-between X ∙ ap (λ z. (t -ℤ f) *ℤ z) s.on_line ∙ none (t -ℤ f) (square a b));
        above = at_start (nonneg-cancel (square a b) (value (along c d) X) long
            (subst (λ z. pos 0 ≼ z) (sym (along-between X))
            (mul_nonneg (t -ℤ f) _ (gap' f t l) (after s.above))));
        below = at_end (nonneg-cancel (square a b) (square c d *ℤ X.w -ℤ value (along c d) X) long
            (subst (λ z. pos 0 ≼ z) (sym (rest (square a b) (square c d) X.w (value (along c d) X) (t -ℤ f)
            (value (along a b) X -ℤ f *ℤ X.w) square-between (along-between X)))
            (mul_nonneg (t -ℤ f) _ (gap' f t l) (ahead t f X.w (value (along a b) X) s.below))));
      },
      λ s. record {
        on_line = cancel (t -ℤ f) (value (line a b) X) (pos 0) (far f t l)
            (sym (line-between X) ∙ ap (λ z. square a b *ℤ z) s.on_line ∙ none (square a b) (t -ℤ f));
        above = back (nonneg-cancel (t -ℤ f) (value (along a b) X -ℤ f *ℤ X.w) (far f t l)
            (subst (λ z. pos 0 ≼ z) (along-between X)
            (mul_nonneg (square a b) (value (along c d) X) (weak long) (from_zero X.w s.above))));
        below = ahead' t f X.w (value (along a b) X)
            (nonneg-cancel (t -ℤ f) ((t -ℤ f) *ℤ X.w -ℤ (value (along a b) X -ℤ f *ℤ X.w)) (far f t l)
            (subst (λ z. pos 0 ≼ z) (rest (square a b) (square c d) X.w (value (along c d) X) (t -ℤ f)
            (value (along a b) X -ℤ f *ℤ X.w) square-between (along-between X))
            (mul_nonneg (square a b) (square c d *ℤ X.w -ℤ value (along c d) X) (weak long) (after s.below))));
      },
    )
      where
        none : (z n : ℤ) → z *ℤ pos 0 ≡ n *ℤ pos 0
        none z n = simp expand (omega (arith, sums))

        gap' : (f t : ℤ) → f ≺ t → pos 0 ≼ t -ℤ f
        gap' f t l = omega (arith, sums)

        far : (f t : ℤ) → f ≺ t → pos 0 ≺ t -ℤ f
        far f t l = omega (arith, sums)

        weak : {z : ℤ} → pos 0 ≺ z → pos 0 ≼ z
        weak l = omega (arith, sums)

        after : {x z : ℤ} → x ≼ z → pos 0 ≼ z -ℤ x
        after l = omega (arith, sums)

        back : {x z : ℤ} → pos 0 ≼ z -ℤ x → x ≼ z
        back l = omega (arith, sums)

        at_start : {z : ℤ} → pos 0 ≼ z → pos 0 *ℤ X.w ≼ z
        at_start l = simp expand (omega (arith, sums))

        from_zero : {z : ℤ} (w : ℤ) → pos 0 *ℤ w ≼ z → pos 0 ≼ z
        from_zero w l = omega (arith, sums, simp expand at l)

        at_end : {x z : ℤ} → pos 0 ≼ z -ℤ x → x ≼ z
        at_end l = omega (arith, sums)

        -- how far it is to the end, twice over
        rest : (n m w z s v : ℤ) → n *ℤ m ≡ s *ℤ s → n *ℤ z ≡ s *ℤ v → n *ℤ (m *ℤ w -ℤ z) ≡ s *ℤ (s *ℤ w -ℤ v)
        rest n m w z s v e f = let e' = ap (λ x. x *ℤ w) e in
            simp expand (omega (arith, sums, simp expand at e', f))

        ahead : (t f w z : ℤ) → z ≼ t *ℤ w → pos 0 ≼ (t -ℤ f) *ℤ w -ℤ (z -ℤ f *ℤ w)
        ahead t f w z l = simp expand (omega (arith, sums, *ℤ_comm t w))

        ahead' : (t f w z : ℤ) → pos 0 ≼ (t -ℤ f) *ℤ w -ℤ (z -ℤ f *ℤ w) → z ≼ t *ℤ w
        ahead' t f w z l = omega (arith, sums, simp expand at l, *ℤ_comm t w, *ℤ_comm f w)
