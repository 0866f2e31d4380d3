-- The numbers of a force are made where none of them is too wide.
use Rattle.std.proofs.Common.{◌≡◌, refl, sym, ap, subst, ◌∙◌, arith, ◌+ℤ◌, ◌-ℤ◌, ◌*ℤ◌, Bool, true, false, Result, Ok}
use Rattle.std.proofs.Common.{Err, ◌&&◌, if◌then◌else◌}
use lib.IntN.{ℤ, neg_ℤ}
use Rattle.std.proofs.lemmas.Bool.{ltb-true}
use Rattle.stack_equilibrium.proofs.Common.{Bearing, IsFitting, Whole, Wide, expand, fits, force_x_of, force_y_of}
use Rattle.stack_equilibrium.proofs.Common.{left_true, lever_at, made, right_true, scene_bearing_of, sums, whole, ◌>>=◌}
use Rattle.stack_equilibrium.specs.WrittenSums.{written_force_x, written_force_y}
use Rattle.stack_equilibrium.specs.declared.block.Push.{Push}
use Rattle.stack_frame.specs.declared.frame.Frame.{Frame}
use Rattle.stack_equilibrium.specs.declared.force.Force.{Force}
use Rattle.stack_equilibrium.specs.WrittenSums.{written_bearing_force}
use Rattle.stack_report.specs.ForceNumbers.{x_fits, y_fits, force_fits}

abbrev made_if : {B : Type 0} → Bool → B → Result B Wide
made_if b x = if b then Ok x else Err (record {})

-- a number, and what is made after it
after : {B : Type 0} (z : ℤ) (c : Bool) (f : Whole → Result B Wide) (x : B) → f (whole z) ≡ made_if c x →
    (made z >>= f) ≡ made_if (fits z && c) x
after z c f x h = go (fits z)
  where
    go : (b : Bool) → (made_if b (whole z) >>= f) ≡ made_if (b && c) x
    go true = h
    go false = refl

both : {A B : Type 0} (r : Result A Wide) (b c : Bool) (f : A → Result B Wide) (x : A) (y : B) →
    r ≡ made_if b x → f x ≡ made_if c y → (r >>= f) ≡ made_if (b && c) y
both r true c f x y e h = ap (λ r. r >>= f) e ∙ h
both r false c f x y e h = ap (λ r. r >>= f) e

mapped : {A B : Type 0} (r : Result A Wide) (b : Bool) (g : A → B) (x : A) → r ≡ made_if b x →
    (r >>= λ y. Ok (g y)) ≡ made_if b (g x)
mapped r true g x e = ap (λ r. r >>= λ y. Ok (g y)) e
mapped r false g x e = ap (λ r. r >>= λ y. Ok (g y)) e

-- b*tx - a*ty and a*tx + b*ty
abbrev pub x_of : Frame → Push → ℤ
x_of t f = f.b.value *ℤ t.tx -ℤ f.a.value *ℤ t.ty

abbrev pub y_of : Frame → Push → ℤ
y_of t f = f.a.value *ℤ t.tx +ℤ f.b.value *ℤ t.ty

module _ (z : Bearing) (f : Push) where
  x_is : written_force_x (lever_at z.at z) f ≡ made_if (x_fits z.frame f.a.value f.b.value) (whole (x_of z.frame f))
  unfolding written_force_x
  x_is = after (f.b.value *ℤ z.frame.tx) _ _ _ (after (f.a.value *ℤ z.frame.ty) _ _ _ refl)

  y_is : written_force_y (lever_at z.at z) f ≡ made_if (y_fits z.frame f.a.value f.b.value) (whole (y_of z.frame f))
  unfolding written_force_y
  y_is = after (f.a.value *ℤ z.frame.tx) _ _ _ (after (f.b.value *ℤ z.frame.ty) _ _ _ refl)

abbrev force_with : Bearing → Push → Force
force_with z f = record { x = whole (x_of z.frame f); y = whole (y_of z.frame f) }

force_is : (z : Bearing) (f : Push) → written_bearing_force z f ≡ made_if (force_fits z f) (force_with z f)
unfolding written_bearing_force
force_is z f = both (written_force_x (lever_at z.at z) f) _ _ _ (whole (x_of z.frame f)) _ (x_is z f)
    (mapped (written_force_y (lever_at z.at z) f) _ (λ y. record { x = whole (x_of z.frame f); y = y })
    (whole (y_of z.frame f)) (y_is z f))

-- a force that is made
pub record IsForce (z : Bearing) (f : Push) (r : Force) : Type 0 where
  pub fits : force_fits z f ≡ true
  pub x : r.x.value ≡ force_x_of (scene_bearing_of z) (record { a = f.a.value; b = f.b.value })
  pub y : r.y.value ≡ force_y_of (scene_bearing_of z) (record { a = f.a.value; b = f.b.value })
  pub x_fits : IsFitting r.x.value
  pub y_fits : IsFitting r.y.value

-- the last number of each half of a force's six fits
last_fit : (a b c d e f : Bool) → ((a && (b && c)) && (d && (e && f))) ≡ true → (c ≡ true) × (f ≡ true)
last_fit a b c d e f h = (
  right_true b c (right_true a (b && c) (left_true (a && (b && c)) (d && (e && f)) h)),
  right_true e f (right_true d (e && f) (right_true (a && (b && c)) (d && (e && f)) h)),
)

turned : (a b tx ty : ℤ) → b *ℤ tx -ℤ a *ℤ ty ≡ a *ℤ neg_ℤ ty +ℤ b *ℤ tx
turned a b tx ty = simp expand (omega (arith, sums))

pub force_ok : (z : Bearing) (f : Push) (r : Force) → written_bearing_force z f ≡ Ok r → IsForce z f r
force_ok z f r h = go (force_fits z f) refl (sym (force_is z f) ∙ h)
  where
    a : ℤ
    a = f.a.value

    b : ℤ
    b = f.b.value

    go : (t : Bool) → force_fits z f ≡ t → made_if t (force_with z f) ≡ Ok r → IsForce z f r
    go true e h = let is : force_with z f ≡ r = cc in
        let fit = last_fit (fits (b *ℤ z.frame.tx)) (fits (a *ℤ z.frame.ty)) (fits (x_of z.frame f))
        (fits (a *ℤ z.frame.tx)) (fits (b *ℤ z.frame.ty)) (fits (y_of z.frame f)) e in
        record {
          fits = e;
          x = sym (λ i. (is i).x.value) ∙ turned a b z.frame.tx z.frame.ty;
          y = sym (λ i. (is i).y.value);
          x_fits = subst (λ (r : Force). IsFitting r.x.value) is (ltb-true _ _ fit.0);
          y_fits = subst (λ (r : Force). IsFitting r.y.value) is (ltb-true _ _ fit.1);
        }
    go false e h = absurd cc

pub force_err : (z : Bearing) (f : Push) (w : Wide) → written_bearing_force z f ≡ Err w → force_fits z f ≡ false
force_err z f w h = go (force_fits z f) refl (sym (force_is z f) ∙ h)
  where
    go : (t : Bool) → force_fits z f ≡ t → made_if t (force_with z f) ≡ Err w → force_fits z f ≡ false
    go true e h = absurd cc
    go false e h = e
