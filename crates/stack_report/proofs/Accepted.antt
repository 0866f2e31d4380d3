-- What is known of the lists of a certificate that the written check accepts.
use Rattle.std.proofs.Common.{◌≡◌, refl, sym, ◌∙◌, Bool, true, false, length, Result, Ok, Err, arith}
use Rattle.std.specs.Bool.{⊤, nat_eq}
use Rattle.std.proofs.lemmas.Int.{ints}
use Rattle.std.proofs.lemmas.Bool.{eqb-true}
use Rattle.std.proofs.lemmas.List.{length-map}
use Rattle.stack_equilibrium.proofs.Common.{CertificateValue, ForcesValue, MotionValue, Surveyed, collapses, frees_of}
use Rattle.stack_equilibrium.proofs.Common.{greatest, part_of_pair, stands, unbounded, ◌>>=◌}
use Rattle.stack_equilibrium.proofs.InOrder.{bind_ok}
use Rattle.stack_checker.specs.declared.types.Part.{Part}
use Rattle.stack_checker.specs.declared.types.Part.TheVariants.{First, Second}
use Rattle.stack_checker.specs.declared.types.Reason.{Reason}
use Rattle.stack_checker.specs.declared.types.Check.TheVariants.{Accepted}
use Rattle.stack_checker.specs.declared.stop.Stop.{Stop}
use Rattle.stack_checker.specs.declared.stop.Stop.TheVariants.{Rejected, TooWide}
use Rattle.stack_checker.specs.declared.sign.Signs.{Signs}
use Rattle.stack_checker.specs.Signs.{standing, loaded, rising}
use Rattle.stack_checker.specs.WrittenTests.{demand}
use Rattle.stack_checker.specs.WrittenForces.{written_forces}
use Rattle.stack_checker.specs.WrittenMotions.{written_motion, written_collapse, written_bound}
use Rattle.stack_checker.specs.WrittenCheck.{in_part, tests_of, answer_of, written_check}
use Rattle.stack_checker.proofs.Settled.{Settled}
use Rattle.stack_checker.proofs.ForcesSettled.{MeetsTests, forces_settle}
use Rattle.stack_report.specs.Tabling.{HasMoves, IsCarrying, IsRising, IsWhole}

-- all tests of a part are passed
one_part : (part : Part) (r : Result ⊤ Stop) → answer_of (in_part part r) ≡ Accepted → r ≡ Ok tt
one_part part (Ok done) h = refl
one_part part (Err (Rejected reason)) h = absurd cc
one_part part (Err (TooWide at)) h = absurd cc

two_parts : (r t : Result ⊤ Stop) →
    answer_of (in_part First r >>= λ carried. in_part Second t) ≡ Accepted → (r ≡ Ok tt) × (t ≡ Ok tt)
two_parts (Ok done) t h = (refl, one_part Second t h)
two_parts (Err (Rejected reason)) t h = absurd cc
two_parts (Err (TooWide at)) t h = absurd cc

module _ (s : Surveyed) where
  -- what a passed part settles holds
  holds : {P : Type 0} (r : Result ⊤ Stop) → r ≡ Ok tt → Settled s P r → P
  holds (Ok done) e h = h.is
  holds (Err (Rejected reason)) e h = absurd cc
  holds (Err (TooWide at)) e h = absurd cc

  meets_tests : (signs : Signs) (f : ForcesValue) → written_forces signs s f ≡ Ok tt → MeetsTests signs s f
  meets_tests signs f e = holds (written_forces signs s f) e (forces_settle signs s f)

  standing_carries : (f : ForcesValue) → written_forces standing s f ≡ Ok tt → IsCarrying s f
  standing_carries f e = let p = meets_tests standing f e in record {
    count = sym (length-map f.parts part_of_pair) ∙ p.forces.count;
    scale = p.scaled;
    factor = omega (arith, ints, p.driven);
  }

  loaded_carries : (f : ForcesValue) → written_forces loaded s f ≡ Ok tt → IsCarrying s f
  loaded_carries f e = let p = meets_tests loaded f e in record {
    count = sym (length-map f.parts part_of_pair) ∙ p.forces.count;
    scale = p.scaled;
    factor = p.driven;
  }

  rising_rises : (r : ForcesValue) → written_forces rising s r ≡ Ok tt → IsRising s r
  rising_rises r e = let p = meets_tests rising r e in record {
    count = sym (length-map r.parts part_of_pair) ∙ p.forces.count;
    factor = p.driven;
  }

  demanded : (b : Bool) (reason : Reason) → demand b reason ≡ Ok tt → b ≡ true
  demanded true reason h = refl
  demanded false reason h = absurd cc

  moves : (y : MotionValue) → written_motion s y ≡ Ok tt → HasMoves s y
  unfolding written_motion
  moves y e = let n = length (frees_of s.structure.bodies) in
      eqb-true _ _ (demanded _ _ (bind_ok (demand (nat_eq (length y) n) _) _ tt e).before)

  collapse_moves : (y : MotionValue) → written_collapse s y ≡ Ok tt → HasMoves s y
  unfolding written_collapse
  collapse_moves y e = moves y (bind_ok (written_motion s y) _ tt e).before

  bound_moves : (f : ForcesValue) (y : MotionValue) → written_bound s f y ≡ Ok tt → HasMoves s y
  unfolding written_bound
  bound_moves f y e = moves y (bind_ok (written_motion s y) _ tt e).before

  pub accepted_whole : (c : CertificateValue) → written_check s c ≡ Accepted → IsWhole s c
  unfolding tests_of
  accepted_whole (stands f) h = standing_carries f (one_part First (written_forces standing s f) h)
  accepted_whole (collapses y) h = collapse_moves y (one_part First (written_collapse s y) h)
  accepted_whole (greatest f y) h =
      let p = two_parts (written_forces loaded s f) (written_bound s f y) h in
      (loaded_carries f p.0, bound_moves f y p.1)
  accepted_whole (unbounded f r) h =
      let p = two_parts (written_forces loaded s f) (written_forces rising s r) h in
      (loaded_carries f p.0, rising_rises r p.1)
