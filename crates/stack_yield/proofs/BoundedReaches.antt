-- The reach of a greatest factor, as the code makes it.
use Rattle.std.proofs.Common.{◌≡◌, refl, sym, ap, ◌∙◌, subst, ℕ, Option, Some, None, Result, Ok, Err, Bool, true, false}
use Rattle.std.proofs.Common.{IfOk, if◌then◌else◌, length, arith, w64, to_z, of_z}
use Rattle.std.proofs.lemmas.Int.{ints}
use lib.IntN.{ℤ, pos, negsuc, neg_ℤ, ◌*ℤ◌}
use Rattle.stack_equilibrium.proofs.Common.{CertificateValue, ForcesValue, Fraction, MotionValue, Surveyed, Whole}
use Rattle.stack_equilibrium.proofs.Common.{IsFitting, collapses, forces_view, frees_of, greatest, live_power_of}
use Rattle.stack_equilibrium.proofs.Common.{move_at, over, scene_of}
use Rattle.stack_equilibrium.proofs.Common.{stands, sums, unbounded, whole, written_power}
use Rattle.stack_certificate.specs.declared.types.Certificate.TheVariants.{Unbounded}
use Rattle.stack_certificate.specs.declared.types.Forces.{Forces}
use Rattle.stack_equilibrium.specs.declared.types.PowerWide.{PowerWide}
use Rattle.stack_rational.specs.Laws.{widest}
use Rattle.stack_algebra.specs.IntegerOrder.{◌≼◌}
use Rattle.stack_directions.proofs.DirectedBorne.{cast}
use Rattle.stack_rational.specs.TooWide.{fraction_fits}
use Rattle.stack_equilibrium.specs.declared.types.Question.TheVariants.{Live}
use Rattle.stack_judge.specs.Judged.{IsJudged}
use Rattle.stack_pairs.specs.Directed.{directed_survey, ArePair}
use Rattle.stack_pairs.specs.Reaches.{PointValue, ReachValue, terms_of, reached_point, half_of, reach_of, IsReaching}
use Rattle.stack_pairs.specs.Reaches.{IsReach}
use Rattle.stack_pairs.proofs.Reached.{directed_dead_power}
use Rattle.stack_yield.specs.declared.judging.DirectionAnswer.{DirectionAnswer}
use Rattle.stack_yield.specs.declared.judging.DirectionAnswer.TheVariants.{Reaches, Falls}
use Rattle.stack_yield.specs.declared.judging.DirectionStop.{DirectionStop}
use Rattle.stack_directions.specs.Coordinates.{fitting_terms, both_coordinates, coordinate_of, point_made}
use Rattle.stack_yield.specs.LessDead.{less_dead}
use Rattle.stack_yield.specs.Kept.{reach_view}
use Rattle.stack_yield.specs.Outcomes.{reaches, unless_wide, bounded}
use Rattle.stack_yield.specs.Regions.{outcome_of_answer, IsOutcome, AnswerFits, AnswerHolds}
use Rattle.stack_yield.proofs.Accepted.{moves_counted}

fitting_is : (x : Fraction) (t : ℤ × ℤ) → fitting_terms x ≡ Some t → terms_of x ≡ t
fitting_is x t h = go (fraction_fits widest x) h
  where
    go : (b : Bool) → (if b then Some (terms_of x) else None) ≡ Some t → terms_of x ≡ t
    go true h = cc
    go false h = absurd (cc)

point_is : (m n : ℤ) (f : ForcesValue) (p : PointValue) → point_made m n f ≡ Some p → reached_point m n f ≡ p
point_is m n f p h = go (coordinate_of m f) refl (coordinate_of n f) refl h
  where
    go : (x : Option (ℤ × ℤ)) → coordinate_of m f ≡ x → (y : Option (ℤ × ℤ)) → coordinate_of n f ≡ y →
        both_coordinates x y ≡ Some p → reached_point m n f ≡ p
    go (Some x) ex (Some y) ey h =
        let same : (x, y) ≡ p = cc in
        (λ i. (
          fitting_is (over (m *ℤ f.factor) f.scale) x ex i,
          fitting_is (over (n *ℤ f.factor) f.scale) y ey i,
        )) ∙ same
    go (Some x) ex None ey h = absurd (cc)
    go None ex y ey h = absurd (cc)

pub point_told : (m n m' n' : ℤ) (f : ForcesValue) (a b : Whole) (r o : Option PointValue) → a ≡ whole m' → m' ≡ m →
    b ≡ whole n' → n' ≡ n → r ≡ point_made a.value b.value f → r ≡ o → point_made m n f ≡ o
point_told m n m' n' f a b r o ea em eb en is was =
    (λ t. point_made (sym (ap (λ (w : Whole). w.value) ea ∙ em) t) (sym (ap (λ (w : Whole). w.value) eb ∙ en) t) f)
    ∙ sym is ∙ was

pub half_told : (v : Surveyed) (y : MotionValue) (p : ℤ) (w : Surveyed) → v ≡ w →
    p ≡ live_power_of (scene_of v) (move_at v y) → p ≡ live_power_of (scene_of w) (move_at w y)
half_told v y p w e h = h ∙ ap (λ x. live_power_of (scene_of x) (move_at x y)) e

pub factor_cast : (z : ℤ) → negsuc 999 ≼ z → z ≼ pos 1000 → to_z w64 (of_z w64 z) ≡ z
factor_cast z a b = cast z (record { least = omega (arith, sums); most = omega (arith, sums) })

-- a factor fits, as the code widens it
pub factor_fits : (z : ℤ) (w : Whole) → w ≡ whole (to_z w64 (of_z w64 z)) → negsuc 999 ≼ z → z ≼ pos 1000 →
    IsFitting w.value
factor_fits z w e a b = subst IsFitting (sym (ap (λ (x : Whole). x.value) e ∙ factor_cast z a b))
    (omega (arith, ints))

-- a power on the motion, as the code makes it
pub power_told : (v w : Surveyed) (y : MotionValue) (r o : Result ℤ PowerWide) → v ≡ w → r ≡ written_power Live v y →
    r ≡ o → written_power Live w y ≡ o
power_told v w y r o e told is = ap (λ x. written_power Live x y) (sym e) ∙ sym told ∙ is

module _ (s : Surveyed) (i j : ℕ) where
  -- what comes of a greatest factor, by the numbers of it that may be too wide
  pub bounded_by : (m n : ℤ) (f : ForcesValue) (y : MotionValue) {a b : Result ℤ PowerWide} {o : Option PointValue} →
      written_power Live (directed_survey s i j (pos 1) (pos 0)) y ≡ a →
      written_power Live (directed_survey s i j (pos 0) (pos 1)) y ≡ b → point_made m n f ≡ o →
      bounded s i j m n f y ≡ unless_wide a b o (reach_of s i j m n (greatest f y))
  bounded_by m n f y p q x = λ t. unless_wide (p t) (q t) (x t) (reach_of s i j m n (greatest f y))

  -- the reach of a greatest factor, where no number of it is too wide
  pub bounded_is : (m n : ℤ) (f : ForcesValue) (y : MotionValue) (m' n' p q r p' q' r' : ℤ) (x : PointValue) →
      m' ≡ m → n' ≡ n → p' ≡ p → q' ≡ q → r' ≡ r →
      written_power Live (directed_survey s i j (pos 1) (pos 0)) y ≡ Ok p →
      written_power Live (directed_survey s i j (pos 0) (pos 1)) y ≡ Ok q → point_made m n f ≡ Some x →
      p ≡ (half_of s i j y).0 → q ≡ (half_of s i j y).1 → r ≡ (half_of s i j y).2 →
      bounded s i j m n f y ≡ reaches (record {
        m = m';
        n = n';
        certificate = greatest f y;
        point = Some x;
        half = Some (p', q', r');
      })
  bounded_is m n f y m' n' p q r p' q' r' x em en ep eq er wp wq wx hp hq hr =
      bounded_by m n f y wp wq wx
      ∙ (λ t. reaches (record {
        m = sym em t;
        n = sym en t;
        certificate = greatest f y;
        point = Some (point_is m n f x wx t);
        half = Some (sym (ep ∙ hp) t, sym (eq ∙ hq) t, sym (er ∙ hr) t);
      }))

  reach_or_stop : (a b : Result ℤ PowerWide) (o : Option PointValue) (v : ReachValue) (t : DirectionAnswer) →
      unless_wide a b o v ≡ outcome_of_answer t → outcome_of_answer t ≡ reaches v
  reach_or_stop (Ok p) (Ok q) (Some x) v t h = sym h
  reach_or_stop (Ok p) (Ok q) None v (Reaches r) h = absurd (cc)
  reach_or_stop (Ok p) (Ok q) None v (Falls y) h = absurd (cc)
  reach_or_stop (Ok p) (Err e) o v (Reaches r) h = absurd (cc)
  reach_or_stop (Ok p) (Err e) o v (Falls y) h = absurd (cc)
  reach_or_stop (Err e) b o v (Reaches r) h = absurd (cc)
  reach_or_stop (Err e) b o v (Falls y) h = absurd (cc)

  pub is_reach : (m n : ℤ) (v : Surveyed) (c : CertificateValue) → v ≡ directed_survey s i j m n → IsJudged Live v c →
      IsReaching c → IsReach s i j (reach_of s i j m n c)
  is_reach m n v (greatest f y) e h is =
      let k = subst (λ t. IsJudged Live t (greatest f y)) e h in
      record { holds = k.holds; form = tt; stands = k.dead_loads; is = refl }
  is_reach m n v (unbounded f r) e h is =
      let k = subst (λ t. IsJudged Live t (unbounded f r)) e h in
      record { holds = k.holds; form = tt; stands = k.dead_loads; is = refl }
  is_reach m n v (stands f) e h is = absurd is
  is_reach m n v (collapses y) e h is = absurd is

  -- a reach without limit is judged
  pub unbounded_holds : (m n m' n' : ℤ) (v : Surveyed) (f r : Forces) → m' ≡ m → n' ≡ n →
      v ≡ directed_survey s i j m n → IsJudged Live v (unbounded (forces_view f) (forces_view r)) →
      AnswerHolds s i j (Reaches (record { m = m'; n = n'; certificate = Unbounded f r; point = None; half = None }))
  unbounded_holds m n m' n' v f r em en e h =
      let c = unbounded (forces_view f) (forces_view r) in
      let at : v ≡ directed_survey s i j m' n' = e ∙ (λ t. directed_survey s i j (sym em t) (sym en t)) in (
        is_reach m' n' v c at h tt,
        record { judged = subst (λ x. IsJudged Live x c) at h; point_fits = tt; half_fits = tt },
      )

  -- a reach of a greatest factor is judged of it too, where its numbers fit
  answer_holds : (m n : ℤ) (f : ForcesValue) (y : MotionValue) (t : DirectionAnswer) →
      outcome_of_answer t ≡ reaches (reach_of s i j m n (greatest f y)) →
      IsReach s i j (reach_of s i j m n (greatest f y)) →
      IsJudged Live (directed_survey s i j m n) (greatest f y) → AnswerFits t → AnswerHolds s i j t
  answer_holds m n f y (Reaches r) e h k fits =
      let same : reach_of s i j m n (greatest f y) ≡ reach_view r = cc in (
        subst (IsReach s i j) same h,
        record {
          judged = subst (λ (v : ReachValue). IsJudged Live (directed_survey s i j v.m v.n) v.certificate) same k;
          point_fits = fits.0;
          half_fits = fits.1;
        },
      )
  answer_holds m n f y (Falls x) e h k fits = absurd (cc)

  pub bounded_holds : (m n : ℤ) (f : ForcesValue) (y : MotionValue) (v : Surveyed)
      (r : Result DirectionAnswer DirectionStop) →
      v ≡ directed_survey s i j m n → IsJudged Live v (greatest f y) → IsOutcome r (bounded s i j m n f y) →
      IfOk r AnswerFits → IfOk r (AnswerHolds s i j)
  bounded_holds m n f y v (Ok t) e h o fits = answer_holds m n f y t
      (reach_or_stop _ _ _ (reach_of s i j m n (greatest f y)) t o) (is_reach m n v (greatest f y) e h tt)
      (subst (λ t. IsJudged Live t (greatest f y)) e h) fits
  bounded_holds m n f y v (Err x) e h o fits = tt

  -- each directed survey has as many free blocks
  pub moves_for : (m n a b : ℤ) (v w : Surveyed) (f : ForcesValue) (y : MotionValue) →
      v ≡ directed_survey s i j m n → w ≡ directed_survey s i j a b → IsJudged Live v (greatest f y) →
      length y ≡ length (frees_of w.structure.bodies)
  moves_for m n a b v w f y ev ew h = moves_counted v f y h
      ∙ ap (λ (x : Surveyed). length (frees_of x.structure.bodies)) ev
      ∙ sym (ap (λ (x : Surveyed). length (frees_of x.structure.bodies)) ew)

  -- each directed survey has the same dead power
  pub less_dead_is : (m n : ℤ) (v : Surveyed) (y : MotionValue) → ArePair s.structure i j →
      v ≡ directed_survey s i j m n → less_dead v y ≡ (half_of s i j y).2
  less_dead_is m n v y pair e = ap (λ x. less_dead x y) e ∙ ap neg_ℤ (directed_dead_power s i j m n y pair)
