-- The certificate of each end of a run of a survey's problem, as it is held and printed: made of the whole
-- numbers of the end's lists.
use Rattle.std.specs.Prelude.{ℕ, ◌+◌, ◌*◌, ℤ, pos, ◌+ℤ◌, ◌-ℤ◌, ◌*ℤ◌, Option, Some, None, List, length, get_or}
use Rattle.stack_algebra.specs.Listed.{listed}
use Rattle.stack_algebra.specs.Fraction.{Fraction}
use Rattle.stack_rational.specs.CommonScale.{scale_of}
use Rattle.stack_contact.specs.declared.types.Bearing.{Bearing}
use Rattle.stack_contact.specs.Surveyed.{Surveyed}
use Rattle.stack_certificate.specs.Certificate.{ForcesValue, MotionValue, CertificateValue}
use Rattle.stack_certificate.specs.Certificate.{stands, collapses, greatest, unbounded}
use Rattle.stack_equilibrium.specs.declared.types.Question.{Question}
use Rattle.stack_equilibrium.specs.SurveyScene.{no_bearing, scene_of}
use Rattle.stack_posing.specs.FreeBodies.{free_bodies}
use Rattle.stack_table.specs.Table.{Tabled}
use Rattle.stack_table.specs.Problem.{Problem}
use Rattle.stack_run.specs.WrittenRun.{End, infeasible, feasible, optimal, ray, wide, over, never}
use Rattle.stack_posing.specs.Posed.{posed, posed_shape}
use Rattle.stack_extract.specs.WrittenLists.{forces_list, ray_list, bound_list, collapse_list}
use Rattle.stack_extract.specs.WholeLists.{whole_list, amount, multiplier}

-- w of the one edge of a bearing's cone and v of the other together: along the normal, along the tangent
abbrev pub pair_between : Bearing → ℤ → ℤ → ℤ × ℤ
pair_between z w v = (z.cone.q *ℤ (w +ℤ v), z.cone.p *ℤ (w -ℤ v))

-- the part of bearing k, by the amounts of its two columns
abbrev pub pair_at : List Bearing → List ℤ → ℕ → ℤ × ℤ
pair_at bs zs k = pair_between (get_or bs k no_bearing) (amount zs (2 * k)) (amount zs (2 * k + 1))

-- the factor's amount comes last
abbrev pub forces_value : List Bearing → ℤ → List ℤ → ForcesValue
forces_value bs scale zs = record {
  scale = scale;
  factor = amount zs (2 * length bs);
  parts = listed (length bs) (pair_at bs zs);
}

-- the move of free block b, by the multipliers of its three rows
abbrev pub triple_at : (ℕ → ℤ) → ℕ → ℤ × ℤ × ℤ
triple_at y b = (y (3 * b), y (3 * b + 1), y (3 * b + 2))

-- the motion of n free blocks, by the multipliers of all rows
abbrev pub motion_value : ℕ → Problem → List ℤ → MotionValue
motion_value n P zs = listed n (triple_at (multiplier P zs))

module _ (q : Question) (v : Surveyed) (T : Tabled Fraction) where
  -- the forces of a last table, at their common scale
  abbrev pub end_forces : ForcesValue
  end_forces = forces_value v.bearings (pos (scale_of (forces_list (posed_shape q (scene_of v)) T)))
      (whole_list (forces_list (posed_shape q (scene_of v)) T))

  -- the forces that may be added without end along a column: they balance no dead loads
  abbrev pub end_ray : ℕ → ForcesValue
  end_ray c = forces_value v.bearings (pos 0) (whole_list (ray_list (posed_shape q (scene_of v)) T c))

  -- the motion of a last table of phase 1, by its objective cells minus 1
  abbrev pub end_collapse : MotionValue
  end_collapse = motion_value (free_bodies (scene_of v)) (posed q (scene_of v))
      (whole_list (collapse_list (posed_shape q (scene_of v)) T))

  -- the motion of a last table of phase 3: nothing is taken off its objective cells
  abbrev pub end_bound : MotionValue
  end_bound = motion_value (free_bodies (scene_of v)) (posed q (scene_of v))
      (whole_list (bound_list (posed_shape q (scene_of v)) T))

-- the certificate of an end; none if a number is too wide or the run is over its budget
abbrev pub end_certificate : Question → Surveyed → End Fraction → Option CertificateValue
end_certificate q v (infeasible T) = Some (collapses (end_collapse q v T))
end_certificate q v (feasible T) = Some (stands (end_forces q v T))
end_certificate q v (optimal T) = Some (greatest (end_forces q v T) (end_bound q v T))
end_certificate q v (ray T c) = Some (unbounded (end_forces q v T) (end_ray q v T c))
end_certificate q v (wide p k s) = None
end_certificate q v over = None
end_certificate q v never = None
