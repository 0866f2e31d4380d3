-- Where no number of an end's lists is too wide, all numbers of its certificate fit; and its lists are no longer than a
-- survey's.
use Rattle.std.proofs.Common.{◌≡◌, refl, sym, ap, subst, ℕ, zero, suc, ◌+◌, ◌*◌, ◌<◌, ◌≤◌, Bool, true, false, not, List}
use Rattle.std.proofs.Common.{[], ◌∷◌, length, get_or, take, Option, Some, None, arith, ◌&&◌}
use Rattle.std.specs.List.{All}
use Rattle.std.specs.Bool.{⊤}
use Rattle.std.proofs.lemmas.Bool.{ltb-true, ltb-false}
use Rattle.std.proofs.lemmas.List.{take_all, get_or_past, length-map}
use Rattle.stack_equilibrium.proofs.Common.{Bearing, CertificateValue, Fraction, IsFitting, Surveyed, fits, frees_of}
use Rattle.stack_equilibrium.proofs.Common.{left_true, length_listed, listed, listed_item, most_bearings, most_free}
use Rattle.stack_equilibrium.proofs.Common.{no_bearing, or_none, right_true, scene_of}
use Rattle.stack_equilibrium.specs.declared.types.Question.{Question}
use native.Mathlib.Decide.{dec_le}
use lib.IntN.{ℤ, pos, negsuc, ◌+ℤ◌, ◌-ℤ◌, ◌*ℤ◌}
use Rattle.stack_algebra.proofs.Search.{first-none, only_if-none}
use Rattle.stack_whole.specs.Whole.{greatest_number}
use Rattle.stack_rational.specs.CommonScale.{scale_of, times_scale}
use Rattle.stack_certificate.specs.CertificateText.{PartFits, MoveFits, ForcesFit, MotionFits, CertificateFits}
use Rattle.stack_certificate.specs.CertificateText.{ForcesAreFew, MotionIsFew, IsFew}
use Rattle.stack_posing.specs.FreeBodies.{free_bodies}
use Rattle.stack_posing.proofs.FreeBodies.{free_numbers_are_those_of_surveys}
use Rattle.stack_table.specs.Table.{Tabled}
use Rattle.stack_table.specs.Problem.{Problem, flipped, turned}
use Rattle.stack_run.specs.WrittenRun.{End, infeasible, feasible, optimal, ray, wide, over, never}
use Rattle.stack_posing.specs.Posed.{posed, posed_shape}
use Rattle.stack_extract.specs.WrittenLists.{forces_list, ray_list, bound_list, collapse_list}
use Rattle.stack_extract.specs.WholeLists.{whole_list, amount, multiplier}
use Rattle.stack_extract.specs.Certified.{pair_between, pair_at, forces_value, triple_at, motion_value, end_forces}
use Rattle.stack_extract.specs.Certified.{end_ray, end_collapse, end_bound, end_certificate}
use Rattle.stack_extract.specs.declared.types.Numbers.{Numbers}
use Rattle.stack_extract.specs.declared.types.Numbers.TheVariants.{Forces, Motion, Ray}
use Rattle.stack_extract.specs.declared.types.EndStep.TheVariants.{Part}
use Rattle.stack_extract.specs.declared.types.ExtractPlace.{ExtractPlace}
use Rattle.stack_extract.specs.Places.{extract_place, scale_spot, whole_spot, list_place, part_fits, part_spot}
use Rattle.stack_extract.specs.Places.{part_place, push_place, forces_place, ray_place, collapse_place, bound_place}
use Rattle.stack_extract.specs.Places.{shift_place}
use Rattle.stack_judge.specs.EndPlace.{in_end, lists_place}

-- the test says that the number fits
pub fitting : (z : ℤ) → fits z ≡ true → IsFitting z
fitting z h = ltb-true _ _ h

not_true : (b : Bool) → not b ≡ false → b ≡ true
not_true true h = refl
not_true false h = absurd cc

-- each value of a function has it, so each item of its list
all_listed : {X : Type 0} (P : X → Type 0) (n : ℕ) (f : ℕ → X) → ((k : ℕ) → k < n → P (f k)) → All P (listed n f)
all_listed P n f h = λ k d l.
    let m : k < n = subst (λ c. k < c) (length_listed n f) l in subst P (sym (listed_item n f k d m)) (h k m)

nothing_fits : IsFitting (pos 0)
nothing_fits = omega arith

-- the scale of a list fits
pub scale_fits : (l : Numbers) (xs : List Fraction) → list_place l xs ≡ None → IsFitting (pos (scale_of xs))
unfolding scale_of
scale_fits l [] h = fitting (pos (scale_of [])) refl
scale_fits l (x ∷ xs) h =
    let spot = first-none (suc (length xs)) (scale_spot l (x ∷ xs)) (or_none _ _ h).0 (length xs) (omega arith) in
    let below = ltb-false greatest_number (scale_of (take (length xs + 1) (x ∷ xs))) (only_if-none _ _ spot) in
    let all = ap scale_of (take_all (length xs + 1) (x ∷ xs) (omega arith)) in
    omega (arith, below, all)

-- the whole numbers of a list fit
pub whole_fits : (l : Numbers) (xs : List Fraction) → list_place l xs ≡ None → (j : ℕ)
    → IsFitting (amount (whole_list xs) j)
whole_fits l xs h j = go (dec_le (suc j) (length xs))
  where
    go : Dec (suc j ≤ length xs) → IsFitting (amount (whole_list xs) j)
    go (yes p) = fitting (amount (whole_list xs) j)
        (not_true _ (only_if-none _ _ (first-none (length xs) (whole_spot l xs) (or_none _ _ h).1 j p)))
    go (no d) = subst IsFitting (sym (get_or_past (whole_list xs) j (pos 0) (past d))) nothing_fits
      where
        past : (suc j ≤ length xs → ⊥) → length (whole_list xs) ≤ j
        past e = let n = length-map xs (times_scale (scale_of xs)) in omega (arith, n, e)

-- the parts of a bearing
pair_fits : (z : Bearing) (w v : ℤ) → part_fits z w v ≡ true → PartFits (pair_between z w v)
pair_fits z w v t =
    let s = right_true (fits (w +ℤ v)) (fits (z.cone.q *ℤ (w +ℤ v)) && fits (z.cone.p *ℤ (w -ℤ v))) t in (
      fitting (z.cone.q *ℤ (w +ℤ v)) (left_true (fits (z.cone.q *ℤ (w +ℤ v))) (fits (z.cone.p *ℤ (w -ℤ v))) s),
      fitting (z.cone.p *ℤ (w -ℤ v)) (right_true (fits (z.cone.q *ℤ (w +ℤ v))) (fits (z.cone.p *ℤ (w -ℤ v))) s),
    )

pub parts_fit : (l : Numbers) (bs : List Bearing) (zs : List ℤ) → part_place l bs zs ≡ None
    → (k : ℕ) → k < length bs → PartFits (pair_at bs zs k)
parts_fit l bs zs h k m =
    let t = only_if-none (not (part_fits (get_or bs k no_bearing) (amount zs (2 * k)) (amount zs (2 * k + 1))))
    (extract_place l Part k) (first-none (length bs) (part_spot l bs zs) h k m) in
    pair_fits (get_or bs k no_bearing) (amount zs (2 * k)) (amount zs (2 * k + 1))
    (not_true (part_fits (get_or bs k no_bearing) (amount zs (2 * k)) (amount zs (2 * k + 1))) t)

pub forces_fit : (l : Numbers) (bs : List Bearing) (xs : List Fraction) (scale : ℤ) → push_place l bs xs ≡ None
    → IsFitting scale → ForcesFit (forces_value bs scale (whole_list xs))
forces_fit l bs xs scale h s = let both = or_none (list_place l xs) (part_place l bs (whole_list xs)) h in (
  s,
  whole_fits l xs both.0 (2 * length bs),
  all_listed PartFits (length bs) (pair_at bs (whole_list xs)) (parts_fit l bs (whole_list xs) both.1),
)

-- a number with the other sign fits too
turned_fits : (b : Bool) (z : ℤ) → IsFitting z → IsFitting (turned b z)
turned_fits false z h = h
turned_fits true (pos zero) h = h
turned_fits true (pos (suc n)) h = h
turned_fits true (negsuc n) h = h

pub motion_fits : (n : ℕ) (P : Problem) (l : Numbers) (xs : List Fraction) → list_place l xs ≡ None
    → MotionFits (motion_value n P (whole_list xs))
motion_fits n P l xs h = all_listed MoveFits n (triple_at (multiplier P (whole_list xs)))
    (λ b m. (one (3 * b), one (3 * b + 1), one (3 * b + 2)))
  where
    one : (k : ℕ) → IsFitting (multiplier P (whole_list xs) k)
    one k = turned_fits (flipped P k) (amount (whole_list xs) k) (whole_fits l xs h k)

in_end_none : (o : Option ExtractPlace) → in_end o ≡ None → o ≡ None
in_end_none None h = refl
in_end_none (Some p) h = absurd cc

module _ (q : Question) (v : Surveyed) (T : Tabled Fraction) where
  end_forces_fit : forces_place q v T ≡ None → ForcesFit (end_forces q v T)
  end_forces_fit h =
      let xs = forces_list (posed_shape q (scene_of v)) T in
      let both = or_none (list_place Forces xs) (part_place Forces v.bearings (whole_list xs)) h in
      forces_fit Forces v.bearings xs (pos (scale_of xs)) h (scale_fits Forces xs both.0)

  end_ray_fits : (c : ℕ) → ray_place q v T c ≡ None → ForcesFit (end_ray q v T c)
  end_ray_fits c h = forces_fit Ray v.bearings (ray_list (posed_shape q (scene_of v)) T c) (pos 0) h nothing_fits

  end_collapse_fits : collapse_place q v T ≡ None → MotionFits (end_collapse q v T)
  end_collapse_fits h =
      let xs = collapse_list (posed_shape q (scene_of v)) T in
      let both = or_none (shift_place (posed_shape q (scene_of v)) T) (list_place Motion xs) h in
      motion_fits (free_bodies (scene_of v)) (posed q (scene_of v)) Motion xs both.1

  end_bound_fits : bound_place q v T ≡ None → MotionFits (end_bound q v T)
  end_bound_fits h = motion_fits (free_bodies (scene_of v)) (posed q (scene_of v)) Motion
      (bound_list (posed_shape q (scene_of v)) T) h

abbrev FitsIf : Option CertificateValue → Type 0
FitsIf None = ⊤
FitsIf (Some c) = CertificateFits c

-- the certificate of an end of which no number is too wide
pub certificate_fits : (q : Question) (v : Surveyed) (x : End Fraction) → lists_place q v x ≡ None
    → FitsIf (end_certificate q v x)
certificate_fits q v (infeasible T) h = end_collapse_fits q v T (in_end_none (collapse_place q v T) h)
certificate_fits q v (feasible T) h = end_forces_fit q v T (in_end_none (forces_place q v T) h)
certificate_fits q v (optimal T) h =
    let both = or_none (in_end (forces_place q v T)) (in_end (bound_place q v T)) h in (
      end_forces_fit q v T (in_end_none (forces_place q v T) both.0),
      end_bound_fits q v T (in_end_none (bound_place q v T) both.1),
    )
certificate_fits q v (ray T c) h =
    let both = or_none (in_end (forces_place q v T)) (in_end (ray_place q v T c)) h in (
      end_forces_fit q v T (in_end_none (forces_place q v T) both.0),
      end_ray_fits q v T c (in_end_none (ray_place q v T c) both.1),
    )
certificate_fits q v (wide p k s) h = tt
certificate_fits q v over h = tt
certificate_fits q v never h = tt

abbrev FewIf : Option CertificateValue → Type 0
FewIf None = ⊤
FewIf (Some c) = IsFew c

module _ (v : Surveyed) (bearings : length v.bearings ≤ most_bearings)
    (frees : length (frees_of v.structure.bodies) ≤ most_free) where
  few_parts : (scale : ℤ) (zs : List ℤ) → ForcesAreFew (forces_value v.bearings scale zs)
  few_parts scale zs = let n = length_listed (length v.bearings) (pair_at v.bearings zs) in omega (arith, n, bearings)

  few_moves : (P : Problem) (zs : List ℤ) → MotionIsFew (motion_value (free_bodies (scene_of v)) P zs)
  few_moves P zs =
      let n = length_listed (free_bodies (scene_of v)) (triple_at (multiplier P zs)) in
      let c = (free_numbers_are_those_of_surveys v).count in omega (arith, n, c, frees)

  few_forces : (q : Question) (T : Tabled Fraction) → ForcesAreFew (end_forces q v T)
  few_forces q T = let xs = forces_list (posed_shape q (scene_of v)) T in few_parts (pos (scale_of xs)) (whole_list xs)

  pub certificate_few : (q : Question) (x : End Fraction) → FewIf (end_certificate q v x)
  certificate_few q (infeasible T) = few_moves (posed q (scene_of v))
      (whole_list (collapse_list (posed_shape q (scene_of v)) T))
  certificate_few q (feasible T) = few_forces q T
  certificate_few q (optimal T) = (
    few_forces q T,
    few_moves (posed q (scene_of v))
        (whole_list (bound_list (posed_shape q (scene_of v)) T)),
  )
  certificate_few q (ray T c) = (
    few_forces q T,
    few_parts (pos 0)
        (whole_list (ray_list (posed_shape q (scene_of v)) T c)),
  )
  certificate_few q (wide p k s) = tt
  certificate_few q over = tt
  certificate_few q never = tt

pub fits_if : (c : CertificateValue) (o : Option CertificateValue) → o ≡ Some c → FitsIf o → CertificateFits c
fits_if c o e h = subst FitsIf e h

pub few_if : (c : CertificateValue) (o : Option CertificateValue) → o ≡ Some c → FewIf o → IsFew c
few_if c o e h = subst FewIf e h
