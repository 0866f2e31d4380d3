-- A direction in lowest terms is the frame of each direction that is parallel to it and has its sense.
use mathlib.Core.Path.{◌≡◌, refl, sym, ap, subst, ◌∙◌}
use Prim.Native.Nat.{ℕ, zero, suc, ◌*◌, ◌<◌, ◌∣◌}
use native.Mathlib.Nat.{eq-zero_of_zero-dvd}
use native.Mathlib.Omega.{arith}
use lib.IntN.{ℤ, pos, negsuc, ◌+ℤ◌, ◌-ℤ◌, ◌*ℤ◌, nat_abs}
use lib.Signed.{quot_z}
use Rattle.std.proofs.lemmas.Int.{ints}
use Rattle.stack_algebra.specs.Gcd.{gcd}
use Rattle.stack_algebra.specs.IntegerOrder.{◌≼◌, ◌≺◌}
use Rattle.stack_algebra.proofs.Integers.{sums, expand}
use Rattle.stack_algebra.proofs.Order.{mul_pos, square_nonneg}
use Rattle.stack_algebra.proofs.CommonDivisor.{gcd-left, gcd-right, gcd-swap}
use Rattle.stack_algebra.proofs.CrossProducts.{cancel, positive_cancel}
use Rattle.stack_frame.specs.declared.frame.Frame.{Frame}
use Rattle.stack_frame.specs.Directions.{IsLowest, IsFrameOf, IsParallelInSense, square_of, FramesByParallels}
use Rattle.stack_frame.proofs.LowestTerms.{gcd_of_lowest, quotient-whole, one-numerator}
use Rattle.stack_frame.proofs.FramesOfDirections.{frame-is}

abs-mul : (a b : ℤ) → nat_abs (a *ℤ b) ≡ nat_abs a * nat_abs b
abs-mul (pos a) (pos b) = refl
abs-mul (pos a) (negsuc b) = omega (arith, ints)
abs-mul (negsuc a) (pos b) = omega (arith, ints)
abs-mul (negsuc a) (negsuc b) = refl

abs-square : (a b : ℤ) → nat_abs a ≡ nat_abs b → a *ℤ a ≡ b *ℤ b
abs-square a b e = own a ∙ ap (λ n. pos (n * n)) e ∙ sym (own b)
  where
    own : (a : ℤ) → a *ℤ a ≡ pos (nat_abs a * nat_abs a)
    own (pos n) = refl
    own (negsuc n) = refl

-- two directions of one length and one line that have one sense are equal
same-direction : (t₁ t₂ u₁ u₂ : ℤ) → pos 0 ≺ (t₁ *ℤ t₁ +ℤ t₂ *ℤ t₂) → t₁ *ℤ u₂ ≡ t₂ *ℤ u₁ →
    t₁ *ℤ t₁ ≡ u₁ *ℤ u₁ → t₂ *ℤ t₂ ≡ u₂ *ℤ u₂ → pos 0 ≺ (t₁ *ℤ u₁ +ℤ t₂ *ℤ u₂) → (t₁ ≡ u₁) × (t₂ ≡ u₂)
same-direction t₁ t₂ u₁ u₂ long cross e₁ e₂ dot =
    let c = ap (λ z. z *ℤ (t₁ *ℤ u₂)) cross in
    let d = ap (λ z. z *ℤ (t₂ *ℤ u₁)) cross in
    let e : (u₁ *ℤ u₁ +ℤ u₂ *ℤ u₂) *ℤ (t₁ *ℤ t₁ +ℤ t₂ *ℤ t₂)
    ≡ (t₁ *ℤ t₁ +ℤ t₂ *ℤ t₂) *ℤ (t₁ *ℤ t₁ +ℤ t₂ *ℤ t₂) =
    (λ i. (sym e₁ i +ℤ sym e₂ i) *ℤ (t₁ *ℤ t₁ +ℤ t₂ *ℤ t₂)) in
    let squares : (t₁ *ℤ u₁ +ℤ t₂ *ℤ u₂) *ℤ (t₁ *ℤ u₁ +ℤ t₂ *ℤ u₂)
    ≡ (t₁ *ℤ t₁ +ℤ t₂ *ℤ t₂) *ℤ (t₁ *ℤ t₁ +ℤ t₂ *ℤ t₂) =
    simp expand (omega (arith, sums, simp expand at c, simp expand at d, simp expand at e)) in
    let same : t₁ *ℤ u₁ +ℤ t₂ *ℤ u₂ ≡ t₁ *ℤ t₁ +ℤ t₂ *ℤ t₂ =
    root (t₁ *ℤ u₁ +ℤ t₂ *ℤ u₂) (t₁ *ℤ t₁ +ℤ t₂ *ℤ t₂) squares dot long in
    let p = square_nonneg (t₁ -ℤ u₁) in
    let q = square_nonneg (t₂ -ℤ u₂) in (
      none t₁ u₁ (omega (arith, sums, simp expand at p, simp expand at q)),
      none t₂ u₂ (omega (arith, sums, simp expand at p, simp expand at q)),
    )
  where
    root : (d s : ℤ) → d *ℤ d ≡ s *ℤ s → pos 0 ≺ d → pos 0 ≺ s → d ≡ s
    root d s e hd hs = cancel (d +ℤ s) d s (omega (arith, sums)) (simp expand (omega (arith, sums)))

    nought : (z : ℤ) → z *ℤ z ≼ pos 0 → z ≡ pos 0
    nought (pos zero) h = refl
    nought (pos (suc n)) h = absurd (omega (arith, ints, h))
    nought (negsuc n) h = absurd (omega (arith, ints, h))

    none : (t u : ℤ) → (t *ℤ t -ℤ t *ℤ u -ℤ t *ℤ u +ℤ u *ℤ u) ≼ pos 0 → t ≡ u
    none t u h = meet (nought (t -ℤ u) (simp expand (omega (arith, sums, h))))
      where
        meet : {x y : ℤ} → x -ℤ y ≡ pos 0 → x ≡ y
        meet e = omega (arith, sums)

-- lowest terms are not both 0
pub lowest-long : (x y : ℤ) → IsLowest x y → pos 0 ≺ square_of x y
unfolding gcd
lowest-long x y h = go x y (gcd_of_lowest x y h)
  where
    go : (x y : ℤ) → gcd (nat_abs x) (nat_abs y) ≡ 1 → pos 0 ≺ square_of x y
    go (pos zero) (pos zero) h = absurd (omega (arith, h))
    go (pos zero) (pos (suc y)) h = omega (arith, ints)
    go (pos zero) (negsuc y) h = omega (arith, ints)
    go (pos (suc x)) y h =
        let k = square_nonneg y in
        let l : pos 0 ≺ pos (suc x) *ℤ pos (suc x) = omega (arith, ints) in
        omega (arith, sums)
    go (negsuc x) y h =
        let k = square_nonneg y in
        let l : pos 0 ≺ negsuc x *ℤ negsuc x = omega (arith, ints) in
        omega (arith, sums)

turn : (g x y : ℤ) → g *ℤ x *ℤ y ≡ g *ℤ y *ℤ x
turn g x y = simp expand (omega (arith, sums))

gather : (g x y u v : ℤ) → g *ℤ x *ℤ u +ℤ g *ℤ y *ℤ v ≡ g *ℤ (x *ℤ u +ℤ y *ℤ v)
gather g x y u v = simp expand (omega (arith, sums))

some : (g : ℕ) → 0 < g → pos 0 ≺ pos g
some g h = omega (arith, ints)

-- a direction with a sense isn't 0, so its parts have a divisor
divisor-positive : (dx dy x y : ℤ) → pos 0 ≺ dx *ℤ x +ℤ dy *ℤ y → 0 < gcd (nat_abs dx) (nat_abs dy)
divisor-positive dx dy x y h = go (gcd (nat_abs dx) (nat_abs dy)) (gcd-left (nat_abs dx) (nat_abs dy))
    (gcd-right (nat_abs dx) (nat_abs dy))
  where
    nought : (z : ℤ) → 0 ∣ nat_abs z → z ≡ pos 0
    nought z d = let e = eq-zero_of_zero-dvd d in omega (arith, ints, e)

    empty : (dx dy : ℤ) → dx ≡ pos 0 → dy ≡ pos 0 → pos 0 ≺ dx *ℤ x +ℤ dy *ℤ y → ⊥
    empty dx dy e f h = let k = subst (λ z. pos 0 ≺ z) (λ i. e i *ℤ x +ℤ f i *ℤ y) h in omega (arith, ints, k)

    go : (g : ℕ) → g ∣ nat_abs dx → g ∣ nat_abs dy → 0 < g
    go (suc g) d e = omega arith
    go zero d e = absurd (empty dx dy (nought dx d) (nought dy e) h)

-- two directions in lowest terms are equal where they are parallel to one direction and have its sense
same-lowest : (t u : Frame) → IsLowest t.tx t.ty → IsLowest u.tx u.ty → t.tx *ℤ u.ty ≡ t.ty *ℤ u.tx →
    pos 0 ≺ t.tx *ℤ u.tx +ℤ t.ty *ℤ u.ty → t ≡ u
same-lowest t u h k cross dot = λ i. record { tx = both.0 i; ty = both.1 i }
  where
    one : gcd (nat_abs t.tx) (nat_abs t.ty) ≡ 1
    one = gcd_of_lowest t.tx t.ty h

    two : gcd (nat_abs u.tx) (nat_abs u.ty) ≡ 1
    two = gcd_of_lowest u.tx u.ty k

    sizes : nat_abs t.tx * nat_abs u.ty ≡ nat_abs t.ty * nat_abs u.tx
    sizes = sym (abs-mul t.tx u.ty) ∙ ap nat_abs cross ∙ abs-mul t.ty u.tx

    both : (t.tx ≡ u.tx) × (t.ty ≡ u.ty)
    both = same-direction t.tx t.ty u.tx u.ty (lowest-long t.tx t.ty h) cross
        (abs-square t.tx u.tx (one-numerator (nat_abs t.tx) (nat_abs t.ty) (nat_abs u.tx) (nat_abs u.ty) one two sizes))
        (abs-square t.ty u.ty (one-numerator (nat_abs t.ty) (nat_abs t.tx) (nat_abs u.ty) (nat_abs u.tx)
        (gcd-swap (nat_abs t.ty) (nat_abs t.tx) ∙ one) (gcd-swap (nat_abs u.ty) (nat_abs u.tx) ∙ two) (sym sizes)))
        dot

factor : (g x y u v : ℤ) → g *ℤ x *ℤ v ≡ g *ℤ y *ℤ u → g *ℤ (u *ℤ y) ≡ g *ℤ (v *ℤ x)
factor g x y u v e = simp expand (omega (arith, sums, simp expand at e))

swap : (x y u v : ℤ) → pos 0 ≺ x *ℤ u +ℤ y *ℤ v → pos 0 ≺ u *ℤ x +ℤ v *ℤ y
swap x y u v h = simp expand h

-- a direction in lowest terms that is parallel to another and has its sense is its frame
by-parallel : (dx dy : ℤ) (t : Frame) (g : ℕ) → 0 < g → gcd (nat_abs dx) (nat_abs dy) ≡ g → IsLowest t.tx t.ty →
    IsParallelInSense dx dy t → IsFrameOf dx dy t
by-parallel dx dy t g p e h k = subst (IsFrameOf dx dy) (sym (same-lowest t u h is.lowest cross dot)) is
  where
    u : Frame
    u = record { tx = quot_z dx (pos g); ty = quot_z dy (pos g) }

    x : dx ≡ pos g *ℤ u.tx
    x = quotient-whole dx g p (subst (λ n. n ∣ nat_abs dx) e (gcd-left (nat_abs dx) (nat_abs dy)))

    y : dy ≡ pos g *ℤ u.ty
    y = quotient-whole dy g p (subst (λ n. n ∣ nat_abs dy) e (gcd-right (nat_abs dx) (nat_abs dy)))

    is : IsFrameOf dx dy u
    is = frame-is dx dy u g p e x y

    cross : t.tx *ℤ u.ty ≡ t.ty *ℤ u.tx
    cross = cancel (pos g) (t.tx *ℤ u.ty) (t.ty *ℤ u.tx) (some g p)
        (factor (pos g) u.tx u.ty t.tx t.ty ((λ i. sym x i *ℤ t.ty) ∙ k.parallel ∙ (λ i. y i *ℤ t.tx)))

    dot : pos 0 ≺ t.tx *ℤ u.tx +ℤ t.ty *ℤ u.ty
    dot = swap u.tx u.ty t.tx t.ty (positive_cancel (pos g) (u.tx *ℤ t.tx +ℤ u.ty *ℤ t.ty) (some g p)
        (subst (λ z. pos 0 ≺ z) ((λ i. x i *ℤ t.tx +ℤ y i *ℤ t.ty) ∙ gather (pos g) u.tx u.ty t.tx t.ty) k.same_sense))

pub frames-by-parallels : FramesByParallels
frames-by-parallels dx dy t = (from, to)
  where
    from : IsFrameOf dx dy t → IsLowest t.tx t.ty × IsParallelInSense dx dy t
    from f = (
      f.lowest,
      record {
        parallel = (λ i. f.x i *ℤ t.ty) ∙ turn (pos f.times) t.tx t.ty ∙ (λ i. sym f.y i *ℤ t.tx);
        same_sense = subst (λ z. pos 0 ≺ z)
            (sym ((λ i. f.x i *ℤ t.tx +ℤ f.y i *ℤ t.ty) ∙ gather (pos f.times) t.tx t.ty t.tx t.ty))
            (mul_pos (pos f.times) (square_of t.tx t.ty) (some f.times f.positive) (lowest-long t.tx t.ty f.lowest));
      },
    )

    to : IsLowest t.tx t.ty × IsParallelInSense dx dy t → IsFrameOf dx dy t
    to h = by-parallel dx dy t (gcd (nat_abs dx) (nat_abs dy)) (divisor-positive dx dy t.tx t.ty h.1.same_sense)
        refl h.0 h.1
