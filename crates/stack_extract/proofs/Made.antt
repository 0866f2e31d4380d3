-- From a list of numbers to forces and moves, and from an end to its lists.
use Rattle.std.proofs.Common.{◌≡◌, refl, sym, ap, subst, ◌∙◌, ℕ, suc, ◌*◌, ◌<◌, ◌≤◌, Bool, true, false, not, List, ◌∷◌}
use Rattle.std.proofs.Common.{[], map, length, None, Result, Ok, Err, arith, IfOk, ℤ}
use Rattle.stack_rational.proofs.Common.{Fraction, first, only_if, listed, scale_of, first-none, length_listed}
use Rattle.stack_rational.proofs.Common.{times_scale}
use Rattle.stack_equilibrium.proofs.Common.{MotionValue, Surveyed, fits, frees_of, most_bearings, motion_view, or_none}
use Rattle.stack_equilibrium.proofs.Common.{scene_of}
use Rattle.stack_equilibrium.specs.declared.types.Question.{Question}
use Rattle.stack_whole.specs.Limits.{most_contact_columns}
use Rattle.stack_certificate.specs.declared.types.Motion.{Motion as Moves}
use Rattle.stack_equilibrium.proofs.FreeNumbers.{all_before}
use Rattle.stack_table.specs.Table.{Shape, Tabled}
use Rattle.stack_table.specs.Problem.{flipped, turned}
use Rattle.stack_run.specs.WrittenRun.{End, infeasible, optimal, ray}
use Rattle.stack_posing.specs.Posed.{posed, posed_shape}
use Rattle.stack_tableau.specs.declared.end_kind.EndKind.{EndKind}
use Rattle.stack_tableau.specs.declared.end_kind.EndKind.TheVariants as kinds
use Rattle.stack_tableau.specs.EndKinds.{end_at}
use Rattle.stack_extract.specs.WrittenLists.{forces_list, ray_list, bound_list, collapse_list, forces_number}
use Rattle.stack_extract.specs.WrittenLists.{ray_number}
use Rattle.stack_extract.specs.WholeLists.{whole_list, amount, NonePulls}
use Rattle.stack_posing.specs.FreeBodies.{free_bodies}
use Rattle.stack_extract.specs.Certified.{triple_at, motion_value}
use Rattle.stack_extract.specs.EndLaws.{EndPushes, EndsPush}
use Rattle.stack_extract.specs.declared.types.Numbers.{Numbers}
use Rattle.stack_extract.specs.declared.types.Numbers.TheVariants.{Motion}
use Rattle.stack_extract.specs.declared.types.EndStep.TheVariants.{Whole}
use Rattle.stack_extract.specs.declared.types.ExtractPlace.{ExtractPlace}
use Rattle.stack_extract.specs.declared.types.ExtractError.{ExtractError}
use Rattle.stack_extract.specs.Places.{extract_place, scale_spot, whole_spot, list_place, AreWhole, shifted_place}
use Rattle.stack_extract.specs.Ends.{IsLastOf, HasForces, moves_by, IsMotionFrom, IsMotionOf}

length_map : {X Y : Type 0} (g : X → Y) (xs : List X) → length (map g xs) ≡ length xs
length_map g [] = refl
length_map g (x ∷ xs) = ap suc (length_map g xs)

-- the end of a survey's run has two contact columns for each bearing, and so no more than there may be
pub few_contacts : {q : Question} {v : Surveyed} {S : Shape} {flips : ℕ → Bool} {x : End Fraction}
    → IsLastOf q v S flips x → length v.bearings ≤ most_bearings → S.contacts ≤ most_contact_columns
few_contacts {v = v} {S = S} h f =
    let m : S.contacts ≡ 2 * length v.bearings = ap (λ (S : Shape). S.contacts) h.shape in omega (arith, m, f)

-- the lists of an end are those of the posed shape, with a number for each contact column and one for the factor
module _ {q : Question} {v : Surveyed} {S : Shape} {flips : ℕ → Bool} (T : Tabled Fraction) where
  pub forces_list_is : {x : End Fraction} → IsLastOf q v S flips x → (xs : List Fraction) → xs ≡ forces_list S T
      → xs ≡ forces_list (posed_shape q (scene_of v)) T
  forces_list_is h xs g = g ∙ ap (λ S. forces_list S T) h.shape

  pub forces_length : {x : End Fraction} → IsLastOf q v S flips x → (xs : List Fraction) → xs ≡ forces_list S T
      → length xs ≡ suc (2 * length v.bearings)
  forces_length h xs g = ap length (forces_list_is h xs g)
      ∙ length_listed (suc (2 * length v.bearings)) (forces_number (posed_shape q (scene_of v)) T)

  pub ray_list_is : {x : End Fraction} (c : ℕ) → IsLastOf q v S flips x → (xs : List Fraction) → xs ≡ ray_list S T c
      → xs ≡ ray_list (posed_shape q (scene_of v)) T c
  ray_list_is c h xs g = g ∙ ap (λ S. ray_list S T c) h.shape

  pub ray_length : {x : End Fraction} (c : ℕ) → IsLastOf q v S flips x → (xs : List Fraction) → xs ≡ ray_list S T c
      → length xs ≡ suc (2 * length v.bearings)
  ray_length c h xs g = ap length (ray_list_is c h xs g)
      ∙ length_listed (suc (2 * length v.bearings)) (ray_number (posed_shape q (scene_of v)) T c)

  -- no amount is negative
  pub forces_push : (k : EndKind) → EndsPush → IsLastOf q v S flips (end_at k T) → HasForces (end_at k T) →
      NonePulls (whole_list (forces_list (posed_shape q (scene_of v)) T))
  forces_push k law h f = go k (law q v (end_at k T) h.run) f
    where
      go : (k : EndKind) → EndPushes q v (end_at k T) → HasForces (end_at k T) →
          NonePulls (whole_list (forces_list (posed_shape q (scene_of v)) T))
      go kinds.Infeasible p f = absurd f
      go kinds.Feasible p f = p
      go kinds.Optimal p f = p
      go (kinds.Ray c) p f = p.0

  pub rates_push : (c : ℕ) → EndsPush → IsLastOf q v S flips (ray T c) →
      NonePulls (whole_list (ray_list (posed_shape q (scene_of v)) T c))
  rates_push c law h = (law q v (ray T c) h.run).1

-- a number that fits isn't too wide
not_too_wide : (b : Bool) (p : ExtractPlace) → only_if (not b) p ≡ None → b ≡ true
not_too_wide true p h = refl
not_too_wide false p h = absurd cc

-- where no number is too wide, each whole number fits
pub each_fits : (l : Numbers) (xs : List Fraction) (scale : ℤ) (zs : List ℤ) → AreWhole l xs scale zs →
    (k : ℕ) →
    k < length zs → fits (amount zs k) ≡ true
each_fits l xs scale zs h k m = let n = ap length h.numbers ∙ length_map (times_scale (scale_of xs)) xs in
    ap (λ us. fits (amount us k)) h.numbers
    ∙ not_too_wide (fits (amount (whole_list xs) k)) (extract_place l Whole k)
    (first-none (length xs) (whole_spot l xs) (or_none (first (length xs) (scale_spot l xs))
    (first (length xs) (whole_spot l xs)) h.fits).1 k (omega (arith, m, n)))

pub as_many : (l : Numbers) (xs : List Fraction) (scale : ℤ) (zs : List ℤ) → AreWhole l xs scale zs →
    length zs ≡ length xs
as_many l xs scale zs h = ap length h.numbers ∙ length_map (times_scale (scale_of xs)) xs

-- the moves of a survey
moves_are : (v : Surveyed) (q : Question) (flips : ℕ → Bool) → flips ≡ flipped (posed q (scene_of v)) →
    (zs us : List ℤ) → zs ≡ us → moves_by (length (frees_of v.structure.bodies)) flips zs
    ≡ motion_value (free_bodies (scene_of v)) (posed q (scene_of v)) us
moves_are v q flips h zs us e = λ i. listed (sym (all_before v) i)
    (triple_at (λ k. turned (h i k) (amount (e i) k)))

-- a survey's last table has three rows for each free block
pub rows_are : {q : Question} {v : Surveyed} {S : Shape} {flips : ℕ → Bool} {x : End Fraction}
    → IsLastOf q v S flips x → S.rows ≡ 3 * length (frees_of v.structure.bodies)
rows_are {v = v} h = ap (λ (S : Shape). S.rows) h.shape ∙ ap (λ n. 3 * n) (all_before v)

-- the motion of a survey's last table
module _ (v : Surveyed) (S : Shape) (flips : ℕ → Bool) (T : Tabled Fraction) where
  is_collapse : (q : Question) → IsLastOf q v S flips (infeasible T) → (y : MotionValue) →
      IsMotionFrom (length (frees_of v.structure.bodies)) flips (collapse_list S T) (shifted_place S T) y →
      IsMotionOf q v (infeasible T) y
  is_collapse q h y g = record {
    fits = ap (λ S. shifted_place S T) (sym h.shape) ∙ g.fits;
    motion = g.moves ∙ moves_are v q flips h.flips_are _ _ (ap (λ S. whole_list (collapse_list S T)) h.shape);
  }

  is_bound : (q : Question) → IsLastOf q v S flips (optimal T) → (y : MotionValue) →
      IsMotionFrom (length (frees_of v.structure.bodies)) flips (bound_list S T)
      (list_place Motion (bound_list S T)) y → IsMotionOf q v (optimal T) y
  is_bound q h y g = record {
    fits = ap (λ S. list_place Motion (bound_list S T)) (sym h.shape) ∙ g.fits;
    motion = g.moves ∙ moves_are v q flips h.flips_are _ _ (ap (λ S. whole_list (bound_list S T)) h.shape);
  }

  -- an answer with the motion of phase 1 is an answer with the motion of the collapse
  pub answer_is_collapse : (k : EndKind) → k ≡ kinds.Infeasible → (r : Result Moves ExtractError) →
      IfOk r (λ y. IsMotionFrom (length (frees_of v.structure.bodies)) flips (collapse_list S T) (shifted_place S T)
      (motion_view y)) →
      (q : Question) → IsLastOf q v S flips (end_at k T) → IfOk r (λ y. IsMotionOf q v (end_at k T) (motion_view y))
  answer_is_collapse k p (Ok y) g q h = subst (λ k. IsMotionOf q v (end_at k T) (motion_view y)) (sym p)
      (is_collapse q (subst (λ k. IsLastOf q v S flips (end_at k T)) p h) (motion_view y) g)
  answer_is_collapse k p (Err x) g q h = tt

  pub answer_is_bound : (k : EndKind) → k ≡ kinds.Optimal → (r : Result Moves ExtractError) →
      IfOk r (λ y. IsMotionFrom (length (frees_of v.structure.bodies)) flips (bound_list S T)
      (list_place Motion (bound_list S T)) (motion_view y)) →
      (q : Question) → IsLastOf q v S flips (end_at k T) → IfOk r (λ y. IsMotionOf q v (end_at k T) (motion_view y))
  answer_is_bound k p (Ok y) g q h = subst (λ k. IsMotionOf q v (end_at k T) (motion_view y)) (sym p)
      (is_bound q (subst (λ k. IsLastOf q v S flips (end_at k T)) p h) (motion_view y) g)
  answer_is_bound k p (Err x) g q h = tt
