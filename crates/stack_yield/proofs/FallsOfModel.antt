-- A collapse of a directed survey is judged of the survey itself: its check makes the same numbers.
use Rattle.std.proofs.Common.{◌≡◌, refl, sym, ◌∙◌, ℕ, arith}
use lib.IntN.{ℤ, pos}
use Rattle.stack_algebra.specs.IntegerOrder.{◌≺◌}
use Rattle.stack_equilibrium.proofs.Common.{Carries, IsProper, MotionValue, Surveyed, block_move_at}
use Rattle.stack_equilibrium.proofs.Common.{collapse_excludes_balance, collapses, frees_of, moves_of, scene_of, steps}
use Rattle.stack_equilibrium.proofs.Common.{sums, told_power, whole, with_work, written_power, ◌>>=◌}
use Rattle.stack_equilibrium.specs.WrittenVelocities.{gap_at}
use Rattle.stack_equilibrium.specs.declared.types.Question.TheVariants.{Dead, Live}
use Rattle.stack_checker.specs.declared.types.Part.TheVariants.{First}
use Rattle.stack_checker.specs.declared.types.Reason.TheVariants as reasons
use Rattle.stack_checker.specs.declared.sign.WantedSign.TheVariants.{Positive}
use Rattle.stack_checker.specs.Signs.{has_sign}
use Rattle.stack_checker.specs.WrittenTests.{power_or_stop, demand}
use Rattle.stack_checker.specs.WrittenMotions.{resistance_at, written_motion, written_collapse}
use Rattle.stack_checker.specs.WrittenCheck.{tests_of, written_check, answer_of, in_part}
use Rattle.stack_judge.specs.Judged.{IsJudged}
use Rattle.stack_pairs.specs.Directed.{directed_survey, ArePair}
use Rattle.stack_pairs.proofs.DirectedLoads.{directed_dead}
use Rattle.stack_pairs.proofs.Reached.{collapses_are_of_the_survey}

module _ (s : Surveyed) (i j : ℕ) (m n : ℤ) (y : MotionValue) where
  same_motion : written_motion (directed_survey s i j m n) y ≡ written_motion s y
  unfolding written_motion resistance_at gap_at
  same_motion = refl

  -- the dead loads are the same
  same_power : written_power Dead (directed_survey s i j m n) y ≡ written_power Dead s y
  same_power = λ r. told_power (steps (λ b so_far k. with_work so_far (block_move_at y b)
      (directed_dead s.structure i j m n k r)) 0 (whole (pos 0)) (frees_of s.structure.bodies))

  same_collapse : written_collapse (directed_survey s i j m n) y ≡ written_collapse s y
  unfolding written_collapse written_motion resistance_at gap_at
  same_collapse = λ r. same_motion r >>= λ unresisted. power_or_stop (same_power r) >>= λ dead.
      demand (has_sign Positive dead.value) reasons.NoWork

  same_check : written_check (directed_survey s i j m n) (collapses y) ≡ written_check s (collapses y)
  unfolding tests_of
  same_check = λ r. answer_of (in_part First (same_collapse r))

  pub falls_of_model : ArePair s.structure i j → IsProper (scene_of s)
      → IsJudged Live (directed_survey s i j m n) (collapses y) → IsJudged Live s (collapses y)
  falls_of_model pair proper h =
      let t = collapses_are_of_the_survey s i j m n y pair h.holds in
      let fall : (D : ℤ) → pos 0 ≺ D → ¬ (Carries (scene_of s) (pos 0) D) =
      λ D positive. collapse_excludes_balance (scene_of s) (moves_of y) D proper t positive in
      record {
        holds = t;
        form = tt;
        dead_loads = fall (pos 1) (omega (arith, sums));
        shows = record { stand = tt; fall = fall; carried = tt; bound = tt; above = tt; all = tt };
        fits = h.fits;
        few = h.few;
        accepted = sym same_check ∙ h.accepted;
      }
