-- Where no number of the written velocities is too wide, they are those of the scene.
use Rattle.std.proofs.Common.{◌≡◌, refl, sym, ap, ◌∙◌, ℕ, ℤ, pos, ◌+ℤ◌, ◌-ℤ◌, ◌*ℤ◌, neg_ℤ, Bool, true, false, cond, not}
use Rattle.std.proofs.Common.{get_or, Result, Ok, Err, arith, IfOk}
use Rattle.std.specs.Bool.{if◌then◌else◌}
use Rattle.std.proofs.Math.ListN.{get_or-map}
use Rattle.stack_algebra.proofs.Integers.{expand, sums}
use Rattle.stack_model.specs.Structure.{body_of}
use Rattle.stack_contact.specs.declared.types.Bearing.{Bearing}
use Rattle.stack_contact.specs.FreeBlocks.{frees_before}
use Rattle.stack_contact.specs.Surveyed.{Surveyed}
use Rattle.stack_certificate.specs.Certificate.{MotionValue}
use Rattle.stack_equilibrium.specs.declared.types.VelocityWide.{VelocityWide}
use Rattle.stack_whole.specs.declared.whole.Wide.{Wide}
use Rattle.stack_whole.specs.declared.whole.Whole.{Whole}
use Rattle.stack_equilibrium.specs.declared.block.Lever.{Lever}
use Rattle.stack_equilibrium.specs.declared.velocity.BlockMove.{BlockMove}
use Rattle.stack_equilibrium.specs.declared.velocity.Velocity.{Velocity}
use Rattle.stack_equilibrium.specs.declared.velocity.Gap.{Gap}
use Rattle.stack_statics.specs.Scene.{Move}
use Rattle.stack_statics.specs.Motions.{velocity_x_of, velocity_y_of, opening_of, slide_of}
use Rattle.stack_statics.specs.Certificates.{still, free_before}
use Rattle.stack_equilibrium.specs.SurveyScene.{first_corner_of, bearing_of, scene_bearing_of, scene_of}
use Rattle.stack_equilibrium.specs.Held.{move_of_triple, moves_of, move_at}
use Rattle.stack_whole.specs.Whole.{made, whole}
use Rattle.stack_equilibrium.specs.WrittenSums.{lever_at}
use Rattle.stack_equilibrium.specs.WrittenVelocities.{block_move_at, at_rest, written_velocity, velocity_at}
use Rattle.stack_equilibrium.specs.WrittenVelocities.{written_difference, written_normal, written_tangential}
use Rattle.stack_equilibrium.specs.WrittenVelocities.{written_gap, gap_at, told_gap, written_opening}
use Rattle.stack_equilibrium.specs.Answers.{AreRates}
use Rattle.stack_equilibrium.proofs.FreeNumbers.{before_is}
use Rattle.stack_equilibrium.proofs.InOrder.{bind_ok}
use Rattle.stack_equilibrium.proofs.PlainSums.{made_is, both_is}

-- what a velocity is
record Is (v : Velocity) (x y : ℤ) : Type 0 where
  is_x : v.x.value ≡ x
  is_y : v.y.value ≡ y

block_velocity : (y : BlockMove) (z : Lever) (v : Velocity) → written_velocity y z ≡ Ok v →
    Is v (y.u.value -ℤ y.r.value *ℤ z.ly.value) (y.v.value +ℤ y.r.value *ℤ z.lx.value)
unfolding written_velocity
block_velocity y z v h =
    let back = bind_ok (made (y.r.value *ℤ z.ly.value)) _ v h in
    let x = bind_ok (made (y.u.value -ℤ back.value.value)) _ v back.after in
    let up = bind_ok (made (y.r.value *ℤ z.lx.value)) _ v x.after in
    let risen = bind_ok (made (y.v.value +ℤ up.value.value)) _ v up.after in
    let e : record { x = x.value; y = risen.value } ≡ v = cc in
    record {
      is_x = ap (λ (v : Velocity). v.x.value) (sym e) ∙ made_is _ x.value x.before
          ∙ ap (λ t. y.u.value -ℤ t) (made_is _ back.value back.before);
      is_y = ap (λ (v : Velocity). v.y.value) (sym e) ∙ made_is _ risen.value risen.before
          ∙ ap (λ t. y.v.value +ℤ t) (made_is _ up.value up.before);
    }

module _ (s : Surveyed) (y : MotionValue) (z : Bearing) where
  -- the velocity of a body whose move is m
  abbrev along_x : ℕ → Move → ℤ
  along_x i m = m.u -ℤ m.r *ℤ (z.at.y -ℤ (first_corner_of s.structure i).y)

  abbrev along_y : ℕ → Move → ℤ
  along_y i m = m.v +ℤ m.r *ℤ (z.at.x -ℤ (first_corner_of s.structure i).x)

  velocity_is : (i : ℕ) (v : Velocity) → velocity_at s y z i ≡ Ok v →
      Is v (velocity_x_of (scene_of s) (move_at s y) (scene_bearing_of z) i)
      (velocity_y_of (scene_of s) (move_at s y) (scene_bearing_of z) i)
  velocity_is i v h = go (body_of s.structure i).fixed h
    where
      free : Move
      free = get_or (moves_of y) (free_before (scene_of s) i) still

      resting_x : (l : ℤ) → pos 0 ≡ pos 0 -ℤ pos 0 *ℤ l
      resting_x l = simp expand (omega (arith, sums))

      resting_y : (l : ℤ) → pos 0 ≡ pos 0 +ℤ pos 0 *ℤ l
      resting_y l = simp expand (omega (arith, sums))

      told : move_of_triple (get_or y (frees_before s.structure.bodies i) (pos 0, pos 0, pos 0))
          ≡ get_or (moves_of y) (free_before (scene_of s) i) still
      told = sym (get_or-map move_of_triple y (frees_before s.structure.bodies i) (pos 0, pos 0, pos 0))
          ∙ ap (λ n. get_or (moves_of y) n still) (sym (before_is s i))

      go : (f : Bool) →
          (let r : Result Velocity Wide = if f then Ok at_rest
          else written_velocity (block_move_at y (frees_before s.structure.bodies i))
          (lever_at (first_corner_of s.structure i) z) in r) ≡ Ok v →
          Is v (along_x i (cond (not f) (get_or (moves_of y) (free_before (scene_of s) i) still) still))
          (along_y i (cond (not f) (get_or (moves_of y) (free_before (scene_of s) i) still) still))
      go true e =
          let k : at_rest ≡ v = cc in
          record {
            is_x = ap (λ (v : Velocity). v.x.value) (sym k)
                ∙ resting_x (z.at.y -ℤ (first_corner_of s.structure i).y);
            is_y = ap (λ (v : Velocity). v.y.value) (sym k)
                ∙ resting_y (z.at.x -ℤ (first_corner_of s.structure i).x);
          }
      go false e =
          let k = block_velocity (block_move_at y (frees_before s.structure.bodies i))
          (lever_at (first_corner_of s.structure i) z) v e in
          record { is_x = k.is_x ∙ ap (along_x i) told; is_y = k.is_y ∙ ap (along_y i) told }

difference_is : (a b v : Velocity) → written_difference a b ≡ Ok v →
    Is v (a.x.value -ℤ b.x.value) (a.y.value -ℤ b.y.value)
unfolding written_difference
difference_is a b v h =
    let x = bind_ok (made (a.x.value -ℤ b.x.value)) _ v h in
    let y = bind_ok (made (a.y.value -ℤ b.y.value)) _ v x.after in
    let e : record { x = x.value; y = y.value } ≡ v = cc in
    record {
      is_x = ap (λ (v : Velocity). v.x.value) (sym e) ∙ made_is _ x.value x.before;
      is_y = ap (λ (v : Velocity). v.y.value) (sym e) ∙ made_is _ y.value y.before;
    }

normal_is : (tx ty : Whole) (d : Velocity) (r : Whole) → written_normal tx ty d ≡ Ok r →
    r.value ≡ tx.value *ℤ d.y.value -ℤ ty.value *ℤ d.x.value
unfolding written_normal
normal_is tx ty d r h = both_is ◌-ℤ◌ (tx.value *ℤ d.y.value) (ty.value *ℤ d.x.value) r h

tangential_is : (tx ty : Whole) (d : Velocity) (r : Whole) → written_tangential tx ty d ≡ Ok r →
    r.value ≡ tx.value *ℤ d.x.value +ℤ ty.value *ℤ d.y.value
unfolding written_tangential
tangential_is tx ty d r h = both_is ◌+ℤ◌ (tx.value *ℤ d.x.value) (ty.value *ℤ d.y.value) r h

-- what a gap is
record Opens (g : Gap) (opening slide : ℤ) : Type 0 where
  opens : g.opening.value ≡ opening
  slides : g.slide.value ≡ slide

gap_is : (z : Bearing) (d : Velocity) (g : Gap) → written_gap z d ≡ Ok g →
    Opens g (z.frame.tx *ℤ d.y.value -ℤ z.frame.ty *ℤ d.x.value)
    (z.frame.tx *ℤ d.x.value +ℤ z.frame.ty *ℤ d.y.value)
unfolding written_gap
gap_is z d g h =
    let opening = bind_ok (written_normal (whole z.frame.tx) (whole z.frame.ty) d) _ g h in
    let slide = bind_ok (written_tangential (whole z.frame.tx) (whole z.frame.ty) d) _ g opening.after in
    let e : record { opening = opening.value; slide = slide.value } ≡ g = cc in
    record {
      opens = ap (λ (g : Gap). g.opening.value) (sym e)
          ∙ normal_is (whole z.frame.tx) (whole z.frame.ty) d opening.value opening.before;
      slides = ap (λ (g : Gap). g.slide.value) (sym e)
          ∙ tangential_is (whole z.frame.tx) (whole z.frame.ty) d slide.value slide.before;
    }

turned : (tx ty x y : ℤ) → tx *ℤ y -ℤ ty *ℤ x ≡ neg_ℤ ty *ℤ x +ℤ tx *ℤ y
turned tx ty x y = simp expand (omega (arith, sums))

bearing_opens : (s : Surveyed) (y : MotionValue) (z : Bearing) (g : Gap) → gap_at s y z ≡ Ok g →
    Opens g (opening_of (scene_of s) (move_at s y) (scene_bearing_of z))
    (slide_of (scene_of s) (move_at s y) (scene_bearing_of z))
unfolding gap_at
bearing_opens s y z g h =
    let later = bind_ok (velocity_at s y z z.second) _ g h in
    let earlier = bind_ok (velocity_at s y z z.first) _ g later.after in
    let d = bind_ok (written_difference later.value earlier.value) _ g earlier.after in
    let two = velocity_is s y z z.second later.value later.before in
    let one = velocity_is s y z z.first earlier.value earlier.before in
    let both = difference_is later.value earlier.value d.value d.before in
    let x = both.is_x ∙ (λ i. two.is_x i -ℤ one.is_x i) in
    let y = both.is_y ∙ (λ i. two.is_y i -ℤ one.is_y i) in
    let gap = gap_is z d.value g d.after in
    record {
      opens = gap.opens ∙ (λ i. z.frame.tx *ℤ y i -ℤ z.frame.ty *ℤ x i) ∙ turned z.frame.tx z.frame.ty _ _;
      slides = gap.slides ∙ (λ i. z.frame.tx *ℤ x i +ℤ z.frame.ty *ℤ y i);
    }

told_ok : (r : Result Gap Wide) (rates : ℤ × ℤ) → told_gap r ≡ Ok rates →
    (g : Gap) × ((r ≡ Ok g) × Opens g rates.0 rates.1)
told_ok (Ok g) rates h =
    let e : (g.opening.value, g.slide.value) ≡ rates = cc in
    (g, (refl, record { opens = λ i. (e i).0; slides = λ i. (e i).1 }))
told_ok (Err e) rates h = absurd (cc)

pub rates_are : (s : Surveyed) (y : MotionValue) (k : ℕ) (rates : ℤ × ℤ) → written_opening s y k ≡ Ok rates →
    AreRates s y k rates
rates_are s y k rates h =
    let t = told_ok (gap_at s y (bearing_of s k)) rates h in
    let o = bearing_opens s y (bearing_of s k) t.0 t.1.0 in
    record { opening = sym t.1.1.opens ∙ o.opens; slide = sym t.1.1.slides ∙ o.slides }

pub rates_settle : (s : Surveyed) (y : MotionValue) (k : ℕ) (r : Result (ℤ × ℤ) VelocityWide) →
    r ≡ written_opening s y k → IfOk r (λ rates. AreRates s y k rates)
rates_settle s y k (Ok rates) e = rates_are s y k rates (sym e)
rates_settle s y k (Err x) e = tt
