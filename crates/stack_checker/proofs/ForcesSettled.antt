-- What the written check of a list of forces settles: whether they are admissible and balanced, and whether
-- their scale and their factor have the signs that are asked for.
use Rattle.std.proofs.Common.{◌≡◌, refl, sym, ap, ◌∙◌, ℕ, ◌+◌, ◌<◌, ℤ, pos, nat_abs, ◌*ℤ◌, Bool, true, false, not, List}
use Rattle.std.proofs.Common.{length, get_or, subst, arith, int_le}
use Rattle.std.specs.Bool.{nat_eq}
use Rattle.std.proofs.lemmas.List.{length-map}
use Rattle.stack_equilibrium.proofs.Common.{ForcesValue, IsBalanced, IsWithinCone, Surveyed, Whole, bearing_of, body_of}
use Rattle.stack_equilibrium.proofs.Common.{forces_of, frees_of, no_bearing, part_of_pair, push_at, scene_bearing_of}
use Rattle.stack_equilibrium.proofs.Common.{scene_of, steps, whole, ◌≼◌}
use Rattle.stack_equilibrium.specs.declared.block.Push.{Push}
use Rattle.stack_algebra.proofs.Order.{abs}
use Rattle.stack_frame.specs.Cones.{coefficient}
use Rattle.stack_frame.specs.Admitted.{IsAdmitted}
use Rattle.stack_contact.specs.FreeBlocks.{free_of}
use Rattle.stack_contact.proofs.Frees.{free_is_listed, listed_is_free}
use Rattle.stack_equilibrium.specs.declared.types.Axis.TheVariants.{X, Y, M}
use Rattle.stack_statics.specs.Balance.{IsAdmissible, IsBalancedAt}
use Rattle.stack_statics.specs.Certificates.{AreBalanced}
use Rattle.stack_equilibrium.specs.Held.{part_at}
use Rattle.stack_equilibrium.specs.WrittenSums.{written_sums_at}
use Rattle.stack_equilibrium.proofs.SceneSums.{part_is, sums_are}
use Rattle.stack_checker.specs.declared.types.Reason.TheVariants as reasons
use Rattle.stack_checker.specs.declared.types.CheckAt.TheVariants as places
use Rattle.stack_checker.specs.declared.sign.WantedSign.TheVariants.{Zero}
use Rattle.stack_checker.specs.declared.sign.Signs.{Signs}
use Rattle.stack_checker.specs.Signs.{has_sign}
use Rattle.stack_checker.specs.WrittenTests.{demand}
use Rattle.stack_checker.specs.WrittenForces.{written_cone, cone_at, written_balance, balance_at, written_forces}
use Rattle.stack_checker.proofs.Settled.{Settled, settled_as, settled_demand, settled_both, settled_made, settled_sums}
use Rattle.stack_checker.proofs.Settled.{settled_each}
use Rattle.stack_checker.proofs.SignTests.{le_decides, zero_decides, same_decides, HasSign, sign_decides}

module _ (s : Surveyed) where
  cone_settles : (k : ℕ) (p q : Whole) (f : Push) → k < length s.bearings →
      Settled s (IsAdmitted (coefficient p.value q.value) f.a.value f.b.value) (written_cone k p q f)
  unfolding written_cone
  cone_settles k p q f l =
      settled_as s _ (λ h. record { pushes = h.0; within = h.1 }) (λ h. (h.pushes, h.within))
      (settled_both s (demand (int_le (pos 0) f.a.value) (reasons.Push k)) _
      (settled_demand s (int_le (pos 0) f.a.value) (reasons.Push k) l (le_decides (pos 0) f.a.value))
      (λ pushes. settled_made s (p.value *ℤ f.a.value) (places.Cone k) _ l
      (λ most is_most. settled_made s (pos (nat_abs f.b.value)) (places.Cone k) _ l
      (λ size is_size. settled_made s (q.value *ℤ size.value) (places.Cone k) _ l
      (λ least is_least. last most size least is_most is_size is_least)))))
    where
      last : (most size least : Whole) → most.value ≡ p.value *ℤ f.a.value → size.value ≡ abs f.b.value →
          least.value ≡ q.value *ℤ size.value →
          Settled s (q.value *ℤ abs f.b.value ≼ p.value *ℤ f.a.value)
          (demand (int_le least.value most.value) (reasons.Cone k))
      last most size least is_most is_size is_least =
          let is : least.value ≡ q.value *ℤ abs f.b.value = is_least ∙ ap (λ t. q.value *ℤ t) is_size in
          subst (λ (z : ℤ × ℤ). Settled s (z.0 ≼ z.1) (demand (int_le least.value most.value) (reasons.Cone k)))
          (λ i. (is i, is_most i))
          (settled_demand s (int_le least.value most.value) (reasons.Cone k) l
          (le_decides least.value most.value))

from_zero : (k : ℕ) → 0 + k ≡ k
from_zero k = omega arith

module _ (s : Surveyed) (f : ForcesValue) where
  abbrev WithinAt : ℕ → Type 0
  WithinAt k = IsWithinCone (scene_bearing_of (bearing_of s k)) (part_at f k)

  bearing_settles : (k : ℕ) → k < length s.bearings →
      Settled s (WithinAt k) (cone_at f.parts k tt (get_or s.bearings k no_bearing))
  bearing_settles k l =
      let z = bearing_of s k in
      subst (λ p. Settled s (IsWithinCone (scene_bearing_of z) p) (cone_at f.parts k tt z))
      (sym (part_is f.parts k))
      (cone_settles s k (whole z.cone.p) (whole z.cone.q) (push_at f.parts k) l)

  abbrev BalancedAt : ℕ → Type 0
  BalancedAt i = IsBalancedAt (scene_of s) (part_at f) f.scale f.factor i

  block_settles : (b i : ℕ) → b < length (frees_of s.structure.bodies) → Settled s (BalancedAt i)
      (balance_at s f b tt i)
  unfolding written_balance
  block_settles b i l = settled_sums s b (written_sums_at s f i) _ l
      (λ w e. let are = sums_are s f i w e in
      settled_as s _
      (λ h. record { along_x = sym are.x ∙ h.0; along_y = sym are.y ∙ h.1.0; about = sym are.m ∙ h.1.1 })
      (λ h. (are.x ∙ h.along_x, (are.y ∙ h.along_y, are.m ∙ h.about)))
      (settled_both s (demand (has_sign Zero w.fx) (reasons.Balance b X)) _
      (settled_demand s (has_sign Zero w.fx) (reasons.Balance b X) l (zero_decides w.fx))
      (λ along_x. settled_both s (demand (has_sign Zero w.fy) (reasons.Balance b Y)) _
      (settled_demand s (has_sign Zero w.fy) (reasons.Balance b Y) l (zero_decides w.fy))
      (λ along_y. settled_demand s (has_sign Zero w.m) (reasons.Balance b M) l (zero_decides w.m)))))

  abbrev frees : List ℕ
  frees = frees_of s.structure.bodies

  abbrev BlockBalanced : ℕ → Type 0
  BlockBalanced b = BalancedAt (free_of s.structure.bodies b)

  -- each free block is a free body, and each free body is one
  each_body : ((b : ℕ) → b < length frees → BlockBalanced b) →
      IsBalanced (scene_of s) (part_at f) f.scale f.factor
  each_body h i l free =
      let listed = free_is_listed s.structure.bodies 0 i _ l (is_free (body_of s.structure i).fixed free) in
      subst BalancedAt (listed.is ∙ from_zero i) (h listed.place listed.within)
    where
      is_free : (b : Bool) → not b ≡ true → b ≡ false
      is_free true e = sym e
      is_free false e = refl

  each_block : IsBalanced (scene_of s) (part_at f) f.scale f.factor → (b : ℕ) → b < length frees →
      BlockBalanced b
  each_block h b l =
      let free = listed_is_free s.structure.bodies 0 b _ l in
      subst BalancedAt (sym (free.is ∙ from_zero free.j)) (h free.j free.within (ap not free.free))

  blocks_settle : Settled s (IsBalanced (scene_of s) (part_at f) f.scale f.factor)
      (steps (balance_at s f) 0 tt frees)
  blocks_settle = settled_as s (steps (balance_at s f) 0 tt frees) each_body each_block
      (settled_each s BlockBalanced (balance_at s f) frees 0 (λ b l. block_settles b
      (free_of s.structure.bodies b) l))

  cones_settle : Settled s (IsAdmissible (scene_of s) (part_at f)) (steps (cone_at f.parts) 0 tt s.bearings)
  cones_settle = settled_each s WithinAt (cone_at f.parts) s.bearings no_bearing bearing_settles

-- the scale, the factor and the forces meet what a list of forces is tested for
pub record MeetsTests (signs : Signs) (s : Surveyed) (f : ForcesValue) : Type 0 where
  pub scaled : HasSign signs.scale f.scale
  pub driven : HasSign signs.factor f.factor
  pub forces : AreBalanced (scene_of s) (forces_of f)

-- what a list of forces is tested for, test by test
abbrev Tested : Signs → Surveyed → ForcesValue → Type 0
Tested signs s f = (length f.parts ≡ length s.bearings) × (HasSign signs.scale f.scale
    × (HasSign signs.factor f.factor
    × (IsAdmissible (scene_of s) (part_at f) × IsBalanced (scene_of s) (part_at f) f.scale f.factor)))

pub forces_settle : (signs : Signs) (s : Surveyed) (f : ForcesValue) →
    Settled s (MeetsTests signs s f) (written_forces signs s f)
unfolding written_forces
forces_settle signs s f =
    settled_as s _ to from
    (settled_both s (demand (nat_eq (length f.parts) (length s.bearings)) reasons.Count) _
    (settled_demand s (nat_eq (length f.parts) (length s.bearings)) reasons.Count tt
    (same_decides (length f.parts) (length s.bearings)))
    (λ counted. settled_both s (demand (has_sign signs.scale f.scale) reasons.Scale) _
    (settled_demand s (has_sign signs.scale f.scale) reasons.Scale tt (sign_decides signs.scale f.scale))
    (λ scaled. settled_both s (demand (has_sign signs.factor f.factor) reasons.Factor) _
    (settled_demand s (has_sign signs.factor f.factor) reasons.Factor tt (sign_decides signs.factor f.factor))
    (λ driven. settled_both s (steps (cone_at f.parts) 0 tt s.bearings) _ (cones_settle s f)
    (λ held. blocks_settle s f)))))
  where
    to : Tested signs s f → MeetsTests signs s f
    to h = record {
      scaled = h.1.0;
      driven = h.1.1.0;
      forces = record {
        count = length-map f.parts part_of_pair ∙ h.0;
        admissible = h.1.1.1.0;
        balanced = h.1.1.1.1;
      };
    }

    from : MeetsTests signs s f → Tested signs s f
    from p = (
      sym (length-map f.parts part_of_pair) ∙ p.forces.count,
      (
        p.scaled,
        (
          p.driven,
          (
            p.forces.admissible,
            p.forces.balanced,
          ),
        ),
      ),
    )
