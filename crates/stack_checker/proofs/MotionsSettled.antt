-- What the written check of a motion settles: whether no bearing resists it, and whether the loads gain power
-- on it.
use Rattle.std.proofs.Common.{◌≡◌, refl, sym, ap, ◌∙◌, ℕ, ◌<◌, ℤ, pos, nat_abs, ◌+ℤ◌, ◌*ℤ◌, Bool, true, false, cond}
use Rattle.std.proofs.Common.{length, Result, Ok, Err, get_or, subst, int_le}
use Rattle.std.specs.Bool.{⊤, nat_eq}
use Rattle.std.proofs.lemmas.List.{length-map}
use Rattle.stack_equilibrium.proofs.Common.{ForcesValue, IsTrueCollapse, MotionValue, Surveyed, Whole, bearing_of}
use Rattle.stack_equilibrium.proofs.Common.{dead_power_of, free_before, frees_of, live_power_of, move_at}
use Rattle.stack_equilibrium.proofs.Common.{move_of_triple, moves_of, no_bearing, opening_of, scene_of, slide_of, steps}
use Rattle.stack_equilibrium.proofs.Common.{still, whole, written_power, ◌>>=◌, ◌≺◌, ◌≼◌}
use Rattle.stack_equilibrium.specs.declared.types.PowerWide.{PowerWide}
use Rattle.stack_equilibrium.specs.declared.velocity.Gap.{Gap}
use Rattle.stack_algebra.proofs.Order.{abs}
use Rattle.stack_equilibrium.specs.declared.types.Question.TheVariants.{Dead, Live}
use Rattle.stack_statics.specs.Motions.{IsStill, KeepsFixedStill}
use Rattle.stack_statics.specs.Certificates.{IsFreeMotion}
use Rattle.stack_equilibrium.specs.Answers.{AreRates}
use Rattle.stack_equilibrium.specs.WrittenVelocities.{written_opening}
use Rattle.stack_checker.specs.declared.types.Reason.TheVariants as reasons
use Rattle.stack_checker.specs.declared.types.CheckAt.TheVariants as places
use Rattle.stack_checker.specs.declared.sign.WantedSign.TheVariants.{Zero, Positive}
use Rattle.stack_checker.specs.declared.stop.Stop.{Stop}
use Rattle.stack_checker.specs.declared.powers.Powers.{Powers}
use Rattle.stack_checker.specs.Signs.{has_sign}
use Rattle.stack_checker.specs.WrittenTests.{demand, power_or_stop}
use Rattle.stack_checker.specs.WrittenMotions.{written_resistance, resistance_at, written_motion, written_collapse}
use Rattle.stack_checker.specs.WrittenMotions.{written_powers, written_meeting, written_bound}
use Rattle.stack_checker.proofs.Settled.{Settled, settled_as, settled_demand, settled_both, settled_made, settled_gap}
use Rattle.stack_checker.proofs.Settled.{settled_work, settled_each}
use Rattle.stack_checker.proofs.SignTests.{le_decides, same_decides, sign_decides}
use Rattle.stack_equilibrium.proofs.FreeNumbers.{all_before}
use Rattle.stack_equilibrium.proofs.SceneRates.{rates_are}
use Rattle.stack_equilibrium.proofs.ScenePowers.{power_is}

module _ (s : Surveyed) where
  resistance_settles : (k : ℕ) (p q : Whole) (r : Gap) → k < length s.bearings →
      Settled s (p.value *ℤ abs r.slide.value ≼ q.value *ℤ r.opening.value) (written_resistance k p q r)
  unfolding written_resistance
  resistance_settles k p q r l =
      settled_made s (q.value *ℤ r.opening.value) (places.Resisted k) _ l
      (λ opens is_opens. settled_made s (pos (nat_abs r.slide.value)) (places.Resisted k) _ l
      (λ size is_size. settled_made s (p.value *ℤ size.value) (places.Resisted k) _ l
      (λ slides is_slides. last opens size slides is_opens is_size is_slides)))
    where
      last : (opens size slides : Whole) → opens.value ≡ q.value *ℤ r.opening.value → size.value
          ≡ abs r.slide.value →
          slides.value ≡ p.value *ℤ size.value →
          Settled s (p.value *ℤ abs r.slide.value ≼ q.value *ℤ r.opening.value)
          (demand (int_le slides.value opens.value) (reasons.Resisted k))
      last opens size slides is_opens is_size is_slides =
          let is : slides.value ≡ p.value *ℤ abs r.slide.value = is_slides ∙ ap (λ t. p.value *ℤ t) is_size in
          subst (λ (z : ℤ × ℤ). Settled s (z.0 ≼ z.1) (demand (int_le slides.value opens.value)
          (reasons.Resisted k)))
          (λ i. (is i, is_opens i))
          (settled_demand s (int_le slides.value opens.value) (reasons.Resisted k) l
          (le_decides slides.value opens.value))

module _ (s : Surveyed) (y : MotionValue) where
  abbrev opening : ℕ → ℤ
  opening k = opening_of (scene_of s) (move_at s y) ((scene_of s).bearing k)

  abbrev slide : ℕ → ℤ
  slide k = slide_of (scene_of s) (move_at s y) ((scene_of s).bearing k)

  abbrev OpensAt : ℕ → Type 0
  OpensAt k = let z = (scene_of s).bearing k in z.p *ℤ abs (slide k) ≼ z.q *ℤ opening k

  bearing_settles : (k : ℕ) → k < length s.bearings →
      Settled s (OpensAt k) (resistance_at s y k tt (get_or s.bearings k no_bearing))
  unfolding resistance_at
  bearing_settles k l = settled_gap s k (written_opening s y k) _ l (λ x e. opens x (rates_are s y k x e))
    where
      opens : (x : ℤ × ℤ) → AreRates s y k x → (let z = bearing_of s k in Settled s (OpensAt k)
          (written_resistance k (whole z.cone.p) (whole z.cone.q)
          (record { opening = whole x.0; slide = whole x.1 })))
      opens x are =
          let z = bearing_of s k in
          let gap : Gap = record { opening = whole x.0; slide = whole x.1 } in
          subst (λ (r : ℤ × ℤ). Settled s (z.cone.p *ℤ abs r.1 ≼ z.cone.q *ℤ r.0)
          (written_resistance k (whole z.cone.p) (whole z.cone.q) gap))
          (λ i. (are.opening i, are.slide i))
          (resistance_settles s k (whole z.cone.p) (whole z.cone.q) gap l)

  bearings_settle : Settled s ((k : ℕ) → k < length s.bearings → OpensAt k)
      (steps (resistance_at s y) 0 tt s.bearings)
  bearings_settle = settled_each s OpensAt (resistance_at s y) s.bearings no_bearing bearing_settles

  -- the moves are those of the free bodies alone
  keeps_still : KeepsFixedStill (scene_of s) (move_at s y)
  keeps_still i l fixed = go ((scene_of s).body i).free fixed
    where
      go : (f : Bool) → f ≡ false →
          IsStill (cond f (get_or (moves_of y) (free_before (scene_of s) i) still) still)
      go true e = absurd (cc)
      go false e = record { u = refl; v = refl; r = refl }

  pub motion_settles : Settled s (IsFreeMotion (scene_of s) (moves_of y)) (written_motion s y)
  unfolding written_motion
  motion_settles =
      settled_as s _
      (λ h. record {
        count = length-map y move_of_triple ∙ h.0 ∙ sym (all_before s);
        unresisted = record { still = keeps_still; opens = h.1 };
      })
      (λ h. (sym (length-map y move_of_triple) ∙ h.count ∙ all_before s, h.unresisted.opens))
      (settled_both s (demand (nat_eq (length y) (length (frees_of s.structure.bodies))) reasons.Count) _
      (settled_demand s (nat_eq (length y) (length (frees_of s.structure.bodies))) reasons.Count tt
      (same_decides (length y) (length (frees_of s.structure.bodies))))
      (λ counted. bearings_settle))

  -- a power is that of the scene
  dead_is : (x : ℤ) → written_power Dead s y ≡ Ok x → x ≡ dead_power_of (scene_of s) (move_at s y)
  dead_is x e = power_is Dead s y x e

  live_is : (x : ℤ) → written_power Live s y ≡ Ok x → x ≡ live_power_of (scene_of s) (move_at s y)
  live_is x e = power_is Live s y x e

  positive_settles : (x power : ℤ) → x ≡ power →
      Settled s (pos 0 ≺ power) (demand (has_sign Positive x) reasons.NoWork)
  positive_settles x power e =
      subst (λ p. Settled s (pos 0 ≺ p) (demand (has_sign Positive x) reasons.NoWork)) e
      (settled_demand s (has_sign Positive x) reasons.NoWork tt (sign_decides Positive x))

  pub collapse_settles : Settled s (IsTrueCollapse (scene_of s) (moves_of y)) (written_collapse s y)
  unfolding written_collapse
  collapse_settles =
      settled_as s _ (λ h. record { motion = h.0; gains = h.1 }) (λ h. (h.motion, h.gains))
      (settled_both s (written_motion s y) _ motion_settles
      (λ unresisted. settled_work s (written_power Dead s y) _
      (λ x e. positive_settles x (dead_power_of (scene_of s) (move_at s y)) (dead_is x e))))

  -- tests after both powers are made
  settled_powers : {P : Type 0} (f : Powers → Result ⊤ Stop) →
      ((live dead : ℤ) → written_power Live s y ≡ Ok live → written_power Dead s y ≡ Ok dead →
      Settled s P (f (record { live = whole live; dead = whole dead }))) →
      Settled s P (written_powers s y >>= f)
  unfolding written_powers
  settled_powers {P = P} f h = go (written_power Live s y) (written_power Dead s y) h
    where
      go : (live dead : Result ℤ PowerWide) →
          ((x z : ℤ) → live ≡ Ok x → dead ≡ Ok z →
          Settled s P (f (record { live = whole x; dead = whole z }))) →
          Settled s P ((power_or_stop live >>= λ x. power_or_stop dead >>= λ z. Ok
          (record { live = x; dead = z })) >>= f)
      go (Ok x) (Ok z) h = h x z refl refl
      go (Ok x) (Err e) h = record { is = tt }
      go (Err e) dead h = record { is = tt }

-- the forces and the motion meet at the factor of the forces
abbrev Meets : ℤ → ℤ → ℤ → ℤ → Type 0
Meets scale factor live dead = factor *ℤ live +ℤ scale *ℤ dead ≡ pos 0

meeting_settles : (s : Surveyed) (scale factor : Whole) (powers : Powers) →
    Settled s (Meets scale.value factor.value powers.live.value powers.dead.value)
    (written_meeting scale factor powers)
unfolding written_meeting
meeting_settles s scale factor powers =
    settled_made s (factor.value *ℤ powers.live.value) places.Apart _ tt
    (λ driven is_driven. settled_made s (scale.value *ℤ powers.dead.value) places.Apart _ tt
    (λ standing is_standing. settled_made s (driven.value +ℤ standing.value) places.Apart _ tt
    (λ total is_total. last driven standing total is_driven is_standing is_total)))
  where
    last : (driven standing total : Whole) → driven.value ≡ factor.value *ℤ powers.live.value →
        standing.value ≡ scale.value *ℤ powers.dead.value → total.value ≡ driven.value +ℤ standing.value →
        Settled s (Meets scale.value factor.value powers.live.value powers.dead.value)
        (demand (has_sign Zero total.value) reasons.Apart)
    last driven standing total is_driven is_standing is_total =
        subst (λ z. Settled s (z ≡ pos 0) (demand (has_sign Zero total.value) reasons.Apart))
        (is_total ∙ (λ i. is_driven i +ℤ is_standing i))
        (settled_demand s (has_sign Zero total.value) reasons.Apart tt (sign_decides Zero total.value))

-- a motion that forbids a greater factor than that of the forces
pub record IsBound (s : Surveyed) (f : ForcesValue) (y : MotionValue) : Type 0 where
  pub motion : IsFreeMotion (scene_of s) (moves_of y)
  pub gains : pos 0 ≺ live_power_of (scene_of s) (move_at s y)
  pub meets : Meets f.scale f.factor (live_power_of (scene_of s) (move_at s y))
      (dead_power_of (scene_of s) (move_at s y))

pub bound_settles : (s : Surveyed) (f : ForcesValue) (y : MotionValue) →
    Settled s (IsBound s f y) (written_bound s f y)
unfolding written_bound
bound_settles s f y =
    settled_as s _ (λ h. record { motion = h.0; gains = h.1.0; meets = h.1.1 })
    (λ h. (h.motion, (h.gains, h.meets)))
    (settled_both s (written_motion s y) _ (motion_settles s y)
    (λ unresisted. settled_powers s y _
    (λ live dead is_live is_dead.
    settled_both s (demand (has_sign Positive live) reasons.NoWork) _
    (positive_settles s y live (live_power_of (scene_of s) (move_at s y)) (live_is s y live is_live))
    (λ gains. meets live dead (live_is s y live is_live) (dead_is s y dead is_dead)))))
  where
    meets : (live dead : ℤ) → live ≡ live_power_of (scene_of s) (move_at s y) →
        dead ≡ dead_power_of (scene_of s) (move_at s y) →
        Settled s (Meets f.scale f.factor (live_power_of (scene_of s) (move_at s y))
        (dead_power_of (scene_of s) (move_at s y)))
        (written_meeting (whole f.scale) (whole f.factor) (record { live = whole live; dead = whole dead }))
    meets live dead is_live is_dead =
        subst (λ z. Settled s (z ≡ pos 0) (written_meeting (whole f.scale) (whole f.factor)
        (record { live = whole live; dead = whole dead })))
        (λ i. f.factor *ℤ is_live i +ℤ f.scale *ℤ is_dead i)
        (meeting_settles s (whole f.scale) (whole f.factor) (record { live = whole live; dead = whole dead }))
