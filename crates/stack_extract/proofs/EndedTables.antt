-- The end of a run with its table, as an end and a last table.
use Rattle.std.proofs.Common.{◌≡◌, refl, sym, ap, subst, ◌∙◌, ℕ, ◌<◌, true, arith, Result, IfOk, IfErr, ltb, lt-ltb}
use Rattle.stack_rational.proofs.Common.{Fraction, ordered_fractions}
use Rattle.stack_equilibrium.proofs.Common.{Surveyed, forces_view, motion_view, scene_of}
use Rattle.stack_equilibrium.specs.declared.types.Question.{Question}
use Rattle.stack_rational.specs.declared.exact.Exact.{Ghosts}
use Rattle.stack_certificate.specs.declared.types.Forces.{Forces as Pushes}
use Rattle.stack_certificate.specs.declared.types.Motion.{Motion as Moves}
use Rattle.stack_table.specs.declared.table.Table.{Table}
use Rattle.stack_table.specs.Table.{plain, width}
use Rattle.stack_table.specs.Seen.{shape_of_table, table_of, flips_of}
use Rattle.stack_run.specs.WrittenRun.{End, infeasible, feasible, optimal, ray, wide, over, never}
use Rattle.stack_run.specs.FourEnds.{EndGives}
use Rattle.stack_run.specs.EndLaws.{EndsGive}
use Rattle.stack_posing.specs.Posed.{posed, posed_shape}
use Rattle.stack_tableau.specs.declared.ended.Ended.{Ended}
use Rattle.stack_tableau.specs.declared.ended.Ended.TheVariants.{Infeasible, Feasible, Optimal, Ray}
use Rattle.stack_tableau.specs.LastTables.{ended_as, last_of}
use Rattle.stack_extract.specs.EndLaws.{IsEndOfRun}
use Rattle.stack_tableau.specs.declared.end_kind.EndKind.{EndKind}
use Rattle.stack_tableau.specs.declared.end_kind.EndKind.TheVariants as kinds
use Rattle.stack_tableau.specs.EndKinds.{end_at}
use Rattle.stack_extract.specs.declared.types.ExtractError.{ExtractError}
use Rattle.stack_extract.specs.Places.{TellsPlace, forces_place, ray_place}
use Rattle.stack_extract.specs.Ends.{IsEndOfSurvey, IsEndOfSome, IsLastOf, IsLastOfSome, kind_of, ReadsRay, HasForces}
use Rattle.stack_extract.specs.Ends.{HasMotion, HasRay, entering_of, AreForcesOf, IsRayOf, IsMotionOf, motion_place}

same_kind : {V : Type 0} {number : Ghosts V} (e : Ended V number)
    → end_at (kind_of e) (table_of (last_of e)) ≡ ended_as e
same_kind (Infeasible t) = refl
same_kind (Feasible t) = refl
same_kind (Optimal t) = refl
same_kind (Ray t c) = refl

same_ray : {V : Type 0} {number : Ghosts V} (e : Ended V number) → HasRay (ended_as e)
    → ray (table_of (last_of e)) (entering_of (ended_as e)) ≡ ended_as e
same_ray (Infeasible t) r = absurd r
same_ray (Feasible t) r = absurd r
same_ray (Optimal t) r = absurd r
same_ray (Ray t c) r = refl

-- the column that rises is not artificial
below : (q : Question) (v : Surveyed) (x : End Fraction) → EndGives ordered_fractions (posed q (scene_of v)) x
    → HasRay x → entering_of x < plain (posed_shape q (scene_of v))
below q v (infeasible T) g r = absurd r
below q v (feasible T) g r = absurd r
below q v (optimal T) g r = absurd r
below q v (ray T c) g r = g.below
below q v (wide p k s) g r = absurd r
below q v over g r = absurd r
below q v never g r = absurd r

-- an end by its kind and its last table
module _ {V : Type 0} {number : Ghosts V} (e : Ended V number) {t : Table V number} (b : t ≡ last_of e) where
  module _ {k : EndKind} (a : k ≡ kind_of e) where
    pub same_end : end_at k (table_of t) ≡ ended_as e
    same_end = (λ i. end_at (a i) (table_of (b i))) ∙ same_kind e

    pub has_forces : HasForces (ended_as e) → HasForces (end_at k (table_of t))
    has_forces h = subst HasForces (sym same_end) h

    pub has_motion : HasMotion (ended_as e) → HasMotion (end_at k (table_of t))
    has_motion h = subst HasMotion (sym same_end) h

  is_ray : HasRay (ended_as e) → {c : ℕ} → c ≡ entering_of (ended_as e) → ray (table_of t) c ≡ ended_as e
  is_ray has m = (λ i. ray (table_of (b i)) (m i)) ∙ same_ray e has

module _ {V : Type 0} {number : Ghosts V} {v : Surveyed} {e : Ended V number} {t : Table V number}
    (b : t ≡ last_of e) where
  -- so the column that rises can be read
  pub can_be_read : EndsGive → IsEndOfSome v e → HasRay (ended_as e) → (c : ℕ) → c ≡ entering_of (ended_as e)
      → ltb c (width (shape_of_table t)) ≡ true
  can_be_read law h r c m =
      let l = below h.0 v (ended_as e) (subst (EndGives ordered_fractions (posed h.0 (scene_of v))) h.1.run.run
      (law (posed h.0 (scene_of v)) h.1.run.rule h.1.run.budget)) r in
      let s : plain (shape_of_table t) ≡ plain (posed_shape h.0 (scene_of v)) =
      ap (λ (t : Table V number). plain (shape_of_table t)) b ∙ ap plain h.1.shape in
      lt-ltb c (width (shape_of_table t)) (omega (arith, l, s, m))

  last_as : (q : Question) (x : End Fraction) → x ≡ ended_as e → IsEndOfSurvey q v e
      → IsLastOf q v (shape_of_table t) (flips_of t) x
  last_as q x same h = record {
    run = subst (IsEndOfRun q v) (sym same) h.run;
    shape = ap (λ (t : Table V number). shape_of_table t) b ∙ h.shape;
    flips_are = ap (λ (t : Table V number). flips_of t) b ∙ h.flips;
  }

  module _ {k : EndKind} (a : k ≡ kind_of e) where
    pub is_last : (q : Question) → IsEndOfSurvey q v e → IsLastOf q v (shape_of_table t) (flips_of t)
        (end_at k (table_of t))
    is_last q h = last_as q (end_at k (table_of t)) (same_end e b a) h

    pub some_last : IsEndOfSome v e → IsLastOfSome v (shape_of_table t) (flips_of t) (end_at k (table_of t))
    some_last h = (h.0, is_last h.0 h.1)

    pub reads_ray : EndsGive → IsEndOfSome v e → ReadsRay k (λ c. ltb c (width (shape_of_table t)))
    reads_ray law h = go k refl
      where
        go : (j : EndKind) → k ≡ j → ReadsRay j (λ c. ltb c (width (shape_of_table t)))
        go kinds.Infeasible p = tt
        go kinds.Feasible p = tt
        go kinds.Optimal p = tt
        go (kinds.Ray c) p =
            let same = sym (same_end e b a) ∙ ap (λ k. end_at k (table_of t)) p in
            can_be_read law h (subst HasRay (sym same) tt) c (sym (ap entering_of same))

    pub forces_answer : (r : Result Pushes ExtractError)
        → ((q : Question) → IsLastOf q v (shape_of_table t) (flips_of t) (end_at k (table_of t))
        → IfOk r (λ f. AreForcesOf q v (table_of t) (forces_view f)))
        → (q : Question) → IsEndOfSurvey q v e → IfOk r (λ f. AreForcesOf q v (table_of (last_of e)) (forces_view f))
    forces_answer r g q h = subst (λ (t : Table V number). IfOk r (λ f. AreForcesOf q v (table_of t) (forces_view f)))
        b (g q (is_last q h))

    pub forces_refusal : (r : Result Pushes ExtractError)
        → ((q : Question) → IsLastOf q v (shape_of_table t) (flips_of t) (end_at k (table_of t))
        → IfErr r (λ x. TellsPlace x (forces_place q v (table_of t))))
        → (q : Question) → IsEndOfSurvey q v e
        → IfErr r (λ x. TellsPlace x (forces_place q v (table_of (last_of e))))
    forces_refusal r g q h = subst (λ (t : Table V number). IfErr r (λ x. TellsPlace x (forces_place q v (table_of t))))
        b (g q (is_last q h))

    pub motion_answer : (r : Result Moves ExtractError)
        → ((q : Question) → IsLastOf q v (shape_of_table t) (flips_of t) (end_at k (table_of t))
        → IfOk r (λ y. IsMotionOf q v (end_at k (table_of t)) (motion_view y)))
        → (q : Question) → IsEndOfSurvey q v e → IfOk r (λ y. IsMotionOf q v (ended_as e) (motion_view y))
    motion_answer r g q h = subst (λ (x : End Fraction). IfOk r (λ y. IsMotionOf q v x (motion_view y)))
        (same_end e b a) (g q (is_last q h))

    pub motion_refusal : (r : Result Moves ExtractError)
        → ((q : Question) → IsLastOf q v (shape_of_table t) (flips_of t) (end_at k (table_of t))
        → IfErr r (λ x. TellsPlace x (motion_place q v (end_at k (table_of t)))))
        → (q : Question) → IsEndOfSurvey q v e → IfErr r (λ x. TellsPlace x (motion_place q v (ended_as e)))
    motion_refusal r g q h = subst (λ (x : End Fraction). IfErr r (λ y. TellsPlace y (motion_place q v x)))
        (same_end e b a) (g q (is_last q h))

  module _ (has : HasRay (ended_as e)) {c : ℕ} (m : c ≡ entering_of (ended_as e)) where
    pub ray_last : IsEndOfSome v e → IsLastOfSome v (shape_of_table t) (flips_of t) (ray (table_of t) c)
    ray_last h = (h.0, last_as h.0 (ray (table_of t) c) (is_ray e b has m) h.1)

    pub ray_answer : (r : Result Pushes ExtractError)
        → ((q : Question) → IsLastOf q v (shape_of_table t) (flips_of t) (ray (table_of t) c)
        → IfOk r (λ f. IsRayOf q v (table_of t) c (forces_view f)))
        → (q : Question) → IsEndOfSurvey q v e
        → IfOk r (λ f. IsRayOf q v (table_of (last_of e)) (entering_of (ended_as e)) (forces_view f))
    ray_answer r g q h = subst (λ (t : Table V number). IfOk r (λ f. IsRayOf q v (table_of t) (entering_of (ended_as e))
        (forces_view f))) b
        (subst (λ n. IfOk r (λ f. IsRayOf q v (table_of t) n (forces_view f))) m
        (g q (last_as q (ray (table_of t) c) (is_ray e b has m) h)))

    pub ray_refusal : (r : Result Pushes ExtractError)
        → ((q : Question) → IsLastOf q v (shape_of_table t) (flips_of t) (ray (table_of t) c)
        → IfErr r (λ x. TellsPlace x (ray_place q v (table_of t) c)))
        → (q : Question) → IsEndOfSurvey q v e
        → IfErr r (λ x. TellsPlace x (ray_place q v (table_of (last_of e)) (entering_of (ended_as e))))
    ray_refusal r g q h = subst (λ (t : Table V number). IfErr r (λ x. TellsPlace x
        (ray_place q v (table_of t) (entering_of (ended_as e))))) b
        (subst (λ n. IfErr r (λ x. TellsPlace x (ray_place q v (table_of t) n))) m
        (g q (last_as q (ray (table_of t) c) (is_ray e b has m) h)))
