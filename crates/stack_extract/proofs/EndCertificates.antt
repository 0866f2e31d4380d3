-- The certificate of each end is true, and of the question, and decides whether the dead loads stand; no amount is
-- negative.
use Rattle.std.proofs.Common.{subst, ◌≤◌, Option, Some, None, List, arith, ℤ, pos}
use Rattle.stack_rational.proofs.Common.{ints, Fraction}
use Rattle.stack_equilibrium.proofs.Common.{Carries, CertificateValue, IsProper, IsTrueCertificate, Scene, Surveyed}
use Rattle.stack_equilibrium.proofs.Common.{collapse_excludes_balance, collapses, scene_of, stands, stands_is_carried}
use Rattle.stack_equilibrium.specs.declared.types.Question.{Question}
use Rattle.stack_equilibrium.specs.declared.types.Question.TheVariants.{Dead, Live}
use Rattle.stack_equilibrium.specs.Truth.{IsOfQuestion}
use Rattle.stack_table.specs.Table.{Tabled}
use Rattle.stack_run.specs.WrittenRun.{End, infeasible, feasible, optimal, ray, wide, over, never}
use Rattle.stack_posing.specs.Posed.{posed, posed_shape}
use Rattle.stack_extract.specs.WrittenLists.{forces_list, ray_list, bound_list, collapse_list}
use Rattle.stack_extract.specs.WholeLists.{whole_list}
use Rattle.stack_extract.specs.WholeEnds.{EndIsWhole}
use Rattle.stack_extract.proofs.WholeEnds.{ends_are_whole}
use Rattle.stack_extract.specs.Certified.{end_forces, end_collapse, end_certificate}
use Rattle.stack_extract.specs.EndLaws.{IsEndOfRun, IsCertified, EndsAreCertified, IsEndOf, EndsAreOfTheQuestion}
use Rattle.stack_extract.specs.EndLaws.{EndPushes, EndsPush}
use Rattle.stack_extract.proofs.HeldCertificates.{stands_of, collapse_of, greatest_of, unbounded_of, dead_loads_of}

-- at most one factor column
few : (q : Question) (s : Scene) → (posed q s).shape.factors ≤ 1
few Dead s = omega arith
few Live s = omega arith

-- an end in whole numbers
end_is_whole : (q : Question) (v : Surveyed) (x : End Fraction) → IsEndOfRun q v x →
    EndIsWhole (posed q (scene_of v)) x
end_is_whole q v x h = subst (EndIsWhole (posed q (scene_of v))) h.run
    (ends_are_whole (posed q (scene_of v)) (few q (scene_of v)) h.rule h.budget)

-- what is known of an end's certificate
abbrev HasCertificate : Question → Surveyed → Option CertificateValue → Type 0
HasCertificate q v None = Unit {0}
HasCertificate q v (Some c) = IsCertified q v c

module _ (v : Surveyed) (proper : IsProper (scene_of v)) where
  abbrev forces : Question → Tabled Fraction → List ℤ
  forces q T = whole_list (forces_list (posed_shape q (scene_of v)) T)

  -- a collapse, of either question
  collapsed : (q : Question) (T : Tabled Fraction) → IsOfQuestion q (collapses (end_collapse q v T)) →
      EndIsWhole (posed q (scene_of v)) (infeasible T) → HasCertificate q v (end_certificate q v (infeasible T))
  collapsed q T form h = record { holds = true_one; form = form; dead_loads = excluded }
    where
      true_one : IsTrueCertificate v (collapses (end_collapse q v T))
      true_one = collapse_of v proper q (whole_list (collapse_list (posed_shape q (scene_of v)) T)) h

      excluded : ¬ (Carries (scene_of v) (pos 0) (pos 1))
      excluded = collapse_excludes_balance (scene_of v) _ (pos 1) proper true_one (omega (arith, ints))

  -- forces of a feasible end, which stand
  standing : (T : Tabled Fraction) → EndIsWhole (posed Dead (scene_of v)) (feasible T) →
      IsTrueCertificate v (stands (end_forces Dead v T))
  standing T h = stands_of v proper _ (forces Dead T) h.forces.balances h.forces.positive h.no_factor

  -- the certificate of each end is true, and answers its question
  certified : (q : Question) (x : End Fraction) → EndIsWhole (posed q (scene_of v)) x →
      HasCertificate q v (end_certificate q v x)
  certified Dead (infeasible T) h = collapsed Dead T tt h
  certified Live (infeasible T) h = collapsed Live T tt h
  certified Dead (feasible T) h = record {
    holds = standing T h;
    form = tt;
    dead_loads = stands_is_carried (scene_of v) _ (standing T h);
  }
  certified Live (feasible T) h = absurd (let e = h.without_factor in omega (arith, e))
  certified Dead (optimal T) h = absurd (let l = h.loaded.with_factor in omega (arith, l))
  certified Live (optimal T) h = record {
    holds = greatest_of v proper _ (forces Live T) (whole_list (bound_list (posed_shape Live (scene_of v)) T))
        h.loaded.forces.balances h.loaded.forces.positive h.bounding;
    form = tt;
    dead_loads = dead_loads_of v proper h.loaded.stands;
  }
  certified Dead (ray T c) h = absurd (let l = h.loaded.with_factor in omega (arith, l))
  certified Live (ray T c) h = record {
    holds = unbounded_of v proper _ (forces Live T) (whole_list (ray_list (posed_shape Live (scene_of v)) T c))
        h.loaded.forces.balances h.loaded.forces.positive h.balances h.factor;
    form = tt;
    dead_loads = dead_loads_of v proper h.loaded.stands;
  }
  certified q (wide p k t) h = tt
  certified q over h = tt
  certified q never h = tt

-- the three laws of the certificates of ends
pub ends_are_certified : EndsAreCertified
ends_are_certified q v x c proper h e = subst (HasCertificate q v) e
    (certified v proper q x (end_is_whole q v x h))

end_of : (q : Question) (v : Surveyed) (x : End Fraction) → EndIsWhole (posed q (scene_of v)) x → IsEndOf q x
end_of Dead v (feasible T) h = tt
end_of Live v (feasible T) h = absurd (let e = h.without_factor in omega (arith, e))
end_of Dead v (optimal T) h = absurd (let l = h.loaded.with_factor in omega (arith, l))
end_of Live v (optimal T) h = tt
end_of Dead v (ray T c) h = absurd (let l = h.loaded.with_factor in omega (arith, l))
end_of Live v (ray T c) h = tt
end_of q v (infeasible T) h = tt
end_of q v (wide p k t) h = tt
end_of q v over h = tt
end_of q v never h = tt

pub ends_are_of_the_question : EndsAreOfTheQuestion
ends_are_of_the_question q v x h = end_of q v x (end_is_whole q v x h)

end_pushes : (q : Question) (v : Surveyed) (x : End Fraction) → EndIsWhole (posed q (scene_of v)) x →
    EndPushes q v x
end_pushes q v (infeasible T) h = tt
end_pushes q v (feasible T) h = h.forces.pushes
end_pushes q v (optimal T) h = h.loaded.forces.pushes
end_pushes q v (ray T c) h = (h.loaded.forces.pushes, h.pushes)
end_pushes q v (wide p k t) h = tt
end_pushes q v over h = tt
end_pushes q v never h = tt

pub ends_push : EndsPush
ends_push q v x h = end_pushes q v x (end_is_whole q v x h)
