-- The plain sums of a block are the sums of its body in the survey's scene.
use Rattle.std.proofs.Common.{◌≡◌, sym, ap, ◌∙◌, ℕ, ℤ, pos, ◌+ℤ◌, ◌-ℤ◌, ◌*ℤ◌, neg_ℤ, List, length, get_or, map, Result}
use Rattle.std.proofs.Common.{Ok, Err, arith, IfOk}
use Rattle.std.proofs.Math.ListN.{get_or-map}
use Rattle.stack_algebra.specs.Sums.{sum_to}
use Rattle.stack_algebra.proofs.Integers.{expand, sums}
use Rattle.stack_algebra.proofs.IntegerRing.{integers}
use Rattle.stack_algebra.proofs.Sums.{sum_same}
use Rattle.stack_contact.specs.declared.types.Bearing.{Bearing}
use Rattle.stack_contact.specs.Surveyed.{Surveyed}
use Rattle.stack_certificate.specs.Certificate.{ForcesValue}
use Rattle.stack_statics.specs.declared.wrench.Wrench.{Wrench}
use Rattle.stack_equilibrium.specs.declared.types.SumWide.{SumWide}
use Rattle.stack_equilibrium.specs.declared.types.Axis.{Axis}
use Rattle.stack_equilibrium.specs.declared.types.Axis.TheVariants.{X, Y, M}
use Rattle.stack_whole.specs.declared.whole.Wide.{Wide}
use Rattle.stack_whole.specs.declared.whole.Whole.{Whole}
use Rattle.stack_equilibrium.specs.declared.block.Lever.{Lever}
use Rattle.stack_statics.specs.Scene as scene
use Rattle.stack_statics.specs.Balance.{bearing_side, force_x_of, force_y_of}
use Rattle.stack_equilibrium.specs.SurveyScene.{no_bearing, first_corner_of, scene_bearing_of}
use Rattle.stack_equilibrium.specs.Held.{part_of_pair, part_at}
use Rattle.stack_whole.specs.Whole.{whole}
use Rattle.stack_equilibrium.specs.WrittenSums.{push_at, lever_at, axis_part, written_sum, written_sums}
use Rattle.stack_equilibrium.specs.WrittenSums.{written_sums_at, written_residue, on_axis, block_of}
use Rattle.stack_equilibrium.specs.Answers.{AreSums, body_number}
use Rattle.stack_equilibrium.proofs.InOrder.{bind_ok}
use Rattle.stack_equilibrium.proofs.PlainSums.{force_along, push_x, push_y, borne_along, sum_is}

-- part k of a list of pairs
pub part_is : (parts : List (ℤ × ℤ)) (k : ℕ) →
    get_or (map part_of_pair parts) k (record { a = pos 0; b = pos 0 })
    ≡ part_of_pair (get_or parts k (pos 0, pos 0))
part_is parts k = get_or-map part_of_pair parts k (pos 0, pos 0)

turned : (a b tx ty : ℤ) → b *ℤ tx -ℤ a *ℤ ty ≡ a *ℤ neg_ℤ ty +ℤ b *ℤ tx
turned a b tx ty = simp expand (omega (arith, sums))

-- the axis is told only where a number is too wide
on_axis_ok : (axis : Axis) (r : Result Whole Wide) (x : Whole) → on_axis axis r ≡ Ok x → r ≡ Ok x
on_axis_ok axis (Ok y) x h = cc
on_axis_ok axis (Err e) x h = absurd (cc)

module _ (s : Surveyed) (f : ForcesValue) (i : ℕ) where
  abbrev part : ℕ → scene.BearingPart
  part k = part_at f k

  abbrev bearing : ℕ → Bearing
  bearing k = get_or s.bearings k no_bearing

  abbrev pair : ℕ → ℤ × ℤ
  pair k = get_or f.parts k (pos 0, pos 0)

  along_x : (k : ℕ) → push_x (lever_at (first_corner_of s.structure i) (bearing k)) (push_at f.parts k)
      ≡ force_x_of (scene_bearing_of (bearing k)) (part k)
  along_x k = turned (pair k).0 (pair k).1 (bearing k).frame.tx (bearing k).frame.ty
      ∙ ap (force_x_of (scene_bearing_of (bearing k))) (sym (part_is f.parts k))

  along_y : (k : ℕ) → push_y (lever_at (first_corner_of s.structure i) (bearing k)) (push_at f.parts k)
      ≡ force_y_of (scene_bearing_of (bearing k)) (part k)
  along_y k = ap (force_y_of (scene_bearing_of (bearing k))) (sym (part_is f.parts k))

  abbrev side : ℕ → ℤ
  side k = bearing_side i (scene_bearing_of (bearing k))

  abbrev lever : ℕ → Lever
  lever k = lever_at (first_corner_of s.structure i) (bearing k)

  borne_x : borne_along X (block_of s.structure i) s.bearings f.parts
      ≡ sum_to (length s.bearings) (λ k. side k *ℤ force_x_of (scene_bearing_of (bearing k)) (part k))
  borne_x = sum_same integers (length s.bearings) (λ k. side k *ℤ force_along X (lever k) (push_at f.parts k))
      (λ k. side k *ℤ force_x_of (scene_bearing_of (bearing k)) (part k))
      (λ k l. ap (λ t. side k *ℤ t) (along_x k))

  borne_y : borne_along Y (block_of s.structure i) s.bearings f.parts
      ≡ sum_to (length s.bearings) (λ k. side k *ℤ force_y_of (scene_bearing_of (bearing k)) (part k))
  borne_y = sum_same integers (length s.bearings) (λ k. side k *ℤ force_along Y (lever k) (push_at f.parts k))
      (λ k. side k *ℤ force_y_of (scene_bearing_of (bearing k)) (part k))
      (λ k l. ap (λ t. side k *ℤ t) (along_y k))

  abbrev lx : ℕ → ℤ
  lx k = (bearing k).at.x -ℤ (first_corner_of s.structure i).x

  abbrev ly : ℕ → ℤ
  ly k = (bearing k).at.y -ℤ (first_corner_of s.structure i).y

  abbrev moment : ℕ → ℤ
  moment k = lx k *ℤ force_y_of (scene_bearing_of (bearing k)) (part k) -ℤ ly k
      *ℤ force_x_of (scene_bearing_of (bearing k)) (part k)

  borne_m : borne_along M (block_of s.structure i) s.bearings f.parts
      ≡ sum_to (length s.bearings) (λ k. side k *ℤ moment k)
  borne_m = sum_same integers (length s.bearings) (λ k. side k *ℤ force_along M (lever k) (push_at f.parts k))
      (λ k. side k *ℤ moment k)
      (λ k l j. side k *ℤ (lx k *ℤ along_y k j -ℤ ly k *ℤ along_x k j))

  abbrev written : Axis → Result Whole Wide
  written axis = written_sum axis (block_of s.structure i) (whole f.scale) (whole f.factor) s.bearings f.parts

  -- what the bearings bear, with the loads of the body
  loaded : (axis : Axis) (borne : ℤ) (x : Whole) → written axis ≡ Ok x →
      borne_along axis (block_of s.structure i) s.bearings f.parts ≡ borne →
      x.value ≡ borne +ℤ f.scale *ℤ axis_part axis (block_of s.structure i).dead
      +ℤ f.factor *ℤ axis_part axis (block_of s.structure i).live
  loaded axis borne x h e = sum_is axis (block_of s.structure i) (whole f.scale) (whole f.factor) s.bearings
      f.parts x h
      ∙ ap (λ t. t +ℤ f.scale *ℤ axis_part axis (block_of s.structure i).dead
      +ℤ f.factor *ℤ axis_part axis (block_of s.structure i).live) e

  -- the three sums of the body, where none is too wide
  told : (w : Wrench) → written_sums_at s f i ≡ Ok w → AreSums s f i w
  unfolding written_sums
  told w h =
      let x = bind_ok (on_axis X (written X)) _ w h in
      let y = bind_ok (on_axis Y (written Y)) _ w x.after in
      let m = bind_ok (on_axis M (written M)) _ w y.after in
      made x.value y.value m.value (on_axis_ok X (written X) x.value x.before)
      (on_axis_ok Y (written Y) y.value y.before) (on_axis_ok M (written M) m.value m.before) (cc)
    where
      made : (x y m : Whole) → written X ≡ Ok x → written Y ≡ Ok y → written M ≡ Ok m →
          w ≡ record { fx = x.value; fy = y.value; m = m.value } → AreSums s f i w
      made x y m hx hy hm e = record {
        x = ap (λ (w : Wrench). w.fx) e ∙ loaded X _ x hx borne_x;
        y = ap (λ (w : Wrench). w.fy) e ∙ loaded Y _ y hy borne_y;
        m = ap (λ (w : Wrench). w.m) e ∙ loaded M _ m hm borne_m;
      }

pub sums_are : (s : Surveyed) (f : ForcesValue) (i : ℕ) (w : Wrench) → written_sums_at s f i ≡ Ok w →
    AreSums s f i w
sums_are s f i w h = told s f i w h

pub residue_settles : (s : Surveyed) (f : ForcesValue) (b : ℕ) (r : Result Wrench SumWide) →
    r ≡ written_residue s f b → IfOk r (λ w. AreSums s f (body_number s b) w)
residue_settles s f b (Ok w) e = sums_are s f (body_number s b) w (sym e)
residue_settles s f b (Err x) e = tt
