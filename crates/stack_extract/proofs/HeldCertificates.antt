-- Lists of whole numbers that balance, refute, bound or raise the problem of a survey make true certificates.
use Rattle.std.proofs.Common.{◌≡◌, sym, ap, subst, ◌∙◌, ℕ, ◌*◌, List, length, arith, ℤ, pos, ◌+ℤ◌, ◌*ℤ◌, neg_ℤ}
use Rattle.stack_rational.proofs.Common.{◌≺◌, expand, sums}
use Rattle.stack_algebra.proofs.Listed.{map_listed}
use Rattle.stack_equilibrium.proofs.Common.{Carries, IsProper, IsTrueCollapse, Move, Scene, SceneForces, Surveyed}
use Rattle.stack_equilibrium.proofs.Common.{forces_of, move_of_triple, moves_of, part_of_pair, scene_of}
use Rattle.stack_equilibrium.proofs.Common.{stands_is_carried}
use Rattle.stack_equilibrium.specs.declared.types.Question.{Question}
use Rattle.stack_equilibrium.specs.declared.types.Question.TheVariants.{Dead, Live}
use Rattle.stack_statics.specs.Certificates.{IsTrueStands, IsTrueGreatest, IsTrueUnbounded}
use Rattle.stack_posing.specs.FreeBodies.{free_bodies}
use Rattle.stack_posing.specs.Equations.{IsSolution, forces_from}
use Rattle.stack_posing.specs.MovesByNumber.{moves_from, power_by}
use Rattle.stack_posing.specs.ByNumber.{dead_on, live_on}
use Rattle.stack_posing.proofs.ByNumber as by_number
use Rattle.stack_posing.specs.Posed.{posed}
use Rattle.stack_extract.specs.WholeLists.{amount, multiplier}
use Rattle.stack_extract.specs.WholeBalance.{AreAmounts, AreRefuting, AreBounding, StandsInWhole}
use Rattle.stack_extract.specs.Certified.{pair_at, forces_value, triple_at, motion_value}
use Rattle.stack_extract.proofs.PosedSums.{amounts, moves, are_solution, load_is, factor_work, are_unopposed}

module _ (v : Surveyed) where
  abbrev s : Scene
  s = scene_of v

  abbrev factor : List ℤ → ℤ
  factor zs = amount zs (2 * s.bearings)

  -- the forces and the motion as they are held, and as the equations speak of them
  abbrev pub held : ℤ → List ℤ → SceneForces
  held scale zs = forces_of (forces_value v.bearings scale zs)

  abbrev told : ℤ → List ℤ → SceneForces
  told scale zs = forces_from s scale (factor zs) (amounts (amount zs))

  abbrev pub held_moves : Question → List ℤ → List Move
  held_moves q zs = moves_of (motion_value (free_bodies s) (posed q s) zs)

  abbrev told_moves : Question → List ℤ → List Move
  told_moves q zs = moves_from s (moves (multiplier (posed q s) zs))

  -- forces and motions as they are held are those of the equations
  same_forces : (scale : ℤ) (zs : List ℤ) → told scale zs ≡ held scale zs
  same_forces scale zs = λ i. record {
    scale = scale;
    factor = factor zs;
    parts = sym (map_listed part_of_pair (length v.bearings) (pair_at v.bearings zs)) i;
  }

  same_moves : (q : Question) (zs : List ℤ) → told_moves q zs ≡ held_moves q zs
  same_moves q zs = sym (map_listed move_of_triple (free_bodies s) (triple_at (multiplier (posed q s) zs)))

  module _ (proper : IsProper s) where
    -- the four certificates are true, of lists that balance, refute, bound or raise
    pub stands_of : (scale : ℤ) (zs : List ℤ) → AreAmounts (posed Dead s) (amount zs) scale → pos 0 ≺ scale →
        factor zs ≡ pos 0 → IsTrueStands s (held scale zs)
    stands_of scale zs h p z = subst (IsTrueStands s)
        ((λ i. forces_from s scale (sym z i) (amounts (amount zs))) ∙ same_forces scale zs)
        (by_number.stands_by_solution s scale (amounts (amount zs)) proper
        (are_solution Dead s (amount zs) scale h) p)

    pub collapse_of : (q : Question) (zs : List ℤ) → AreRefuting (posed q s) (multiplier (posed q s) zs) →
        IsTrueCollapse s (held_moves q zs)
    collapse_of q zs h = subst (IsTrueCollapse s) (same_moves q zs)
        (by_number.collapses_by_moves s (moves (multiplier (posed q s) zs)) proper
        (are_unopposed q s (multiplier (posed q s) zs) h.unresisted)
        (positive _ _ (load_is q s (multiplier (posed q s) zs)) h.driven))
      where
        positive : (a b : ℤ) → a ≡ neg_ℤ b → a ≺ pos 0 → pos 0 ≺ b
        positive a b e l = omega (arith, sums)

    pub greatest_of : (scale : ℤ) (xs ys : List ℤ) → AreAmounts (posed Live s) (amount xs) scale →
        pos 0 ≺ scale → AreBounding (posed Live s) (amount xs) scale (multiplier (posed Live s) ys) →
        IsTrueGreatest s (held scale xs) (held_moves Live ys)
    greatest_of scale xs ys h p b = subst (λ f. IsTrueGreatest s f (held_moves Live ys)) (same_forces scale xs)
        (subst (IsTrueGreatest s (told scale xs)) (same_moves Live ys)
        (by_number.greatest_by_both s scale (factor xs) (amounts (amount xs)) (moves y) proper
        (are_solution Live s (amount xs) scale h) p (h.parts (2 * s.bearings) (omega arith))
        (are_unopposed Live s y b.unresisted) (subst (λ z. pos 0 ≺ z) (factor_work Live s y) b.live_work)
        (meets _ _ (factor xs) scale (power_by s (moves y) (live_on s)) (power_by s (moves y) (dead_on s))
        (factor_work Live s y) (load_is Live s y) b.meeting)))
      where
        y : ℕ → ℤ
        y = multiplier (posed Live s) ys

        met : (f c l d : ℤ) → l *ℤ f ≡ c *ℤ neg_ℤ d → f *ℤ l +ℤ c *ℤ d ≡ pos 0
        met f c l d e = omega (arith, sums, simp expand at e)

        meets : (a b f c l d : ℤ) → a ≡ l → b ≡ neg_ℤ d → a *ℤ f ≡ c *ℤ b → f *ℤ l +ℤ c *ℤ d ≡ pos 0
        meets a b f c l d p q e = met f c l d ((λ i. sym p i *ℤ f) ∙ e ∙ ap (λ t. c *ℤ t) q)

    pub unbounded_of : (scale : ℤ) (xs rs : List ℤ) → AreAmounts (posed Live s) (amount xs) scale →
        pos 0 ≺ scale → AreAmounts (posed Live s) (amount rs) (pos 0) → pos 0 ≺ factor rs →
        IsTrueUnbounded s (held scale xs) (held (pos 0) rs)
    unbounded_of scale xs rs h p r g = subst (λ f. IsTrueUnbounded s f (held (pos 0) rs)) (same_forces scale xs)
        (subst (IsTrueUnbounded s (told scale xs)) (same_forces (pos 0) rs)
        (by_number.unbounded_by_solutions s scale (factor xs) (amounts (amount xs)) (factor rs)
        (amounts (amount rs)) proper (are_solution Live s (amount xs) scale h) p
        (h.parts (2 * s.bearings) (omega arith))
        (are_solution Live s (amount rs) (pos 0) r) g))

    -- amounts with the factor 0 carry the dead loads alone
    pub dead_loads_of : StandsInWhole (posed Live s) → Carries s (pos 0) (pos 1)
    dead_loads_of z = stands_is_carried s (forces_from s z.scale (pos 0) (amounts z.amounts))
        (by_number.stands_by_solution s z.scale (amounts z.amounts) proper
        (subst (λ f. IsSolution s z.scale f (amounts z.amounts)) z.no_factor
        (are_solution Live s z.amounts z.scale z.balances)) z.positive)
