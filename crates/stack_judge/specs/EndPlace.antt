-- The first number that is too wide in what is made of the end of a run, and then in the written check of the
-- certificate that it is: an end's lists in their order, and the check last.
use Rattle.std.specs.Prelude.{Option, Some, None}
use Rattle.stack_algebra.specs.Fraction.{Fraction}
use Rattle.stack_algebra.specs.Search.{or_else}
use Rattle.stack_contact.specs.Surveyed.{Surveyed}
use Rattle.stack_certificate.specs.Certificate.{CertificateValue}
use Rattle.stack_equilibrium.specs.declared.types.Question.{Question}
use Rattle.stack_checker.specs.declared.types.Check.{Check}
use Rattle.stack_checker.specs.declared.types.Check.TheVariants as checks
use Rattle.stack_checker.specs.WrittenCheck.{written_check}
use Rattle.stack_run.specs.WrittenRun.{End, infeasible, feasible, optimal, ray, wide, over, never}
use Rattle.stack_extract.specs.Certified.{end_certificate}
use Rattle.stack_extract.specs.declared.types.ExtractPlace.{ExtractPlace}
use Rattle.stack_extract.specs.Places.{forces_place, ray_place, collapse_place, bound_place}
use Rattle.stack_judge.specs.declared.types.JudgePlace.{JudgePlace}
use Rattle.stack_judge.specs.declared.types.JudgePlace.TheVariants as places

-- a place of the end
abbrev pub in_end : Option ExtractPlace → Option JudgePlace
in_end None = None
in_end (Some p) = Some (places.End p)

-- the first place in the lists of an end
abbrev pub lists_place : Question → Surveyed → End Fraction → Option JudgePlace
lists_place q v (infeasible T) = in_end (collapse_place q v T)
lists_place q v (feasible T) = in_end (forces_place q v T)
lists_place q v (optimal T) = or_else (in_end (forces_place q v T)) (in_end (bound_place q v T))
lists_place q v (ray T c) = or_else (in_end (forces_place q v T)) (in_end (ray_place q v T c))
lists_place q v (wide p k s) = None
lists_place q v over = None
lists_place q v never = None

-- the place at which a check is too wide
abbrev pub in_check : Check → Option JudgePlace
in_check checks.Accepted = None
in_check (checks.Rejected part reason) = None
in_check (checks.TooWide p) = Some (places.Check p)

-- the place at which the check of a certificate is too wide, if there is one
abbrev pub check_place : Surveyed → Option CertificateValue → Option JudgePlace
check_place v None = None
check_place v (Some c) = in_check (written_check v c)

-- the first place of an end that is too wide: in its lists, else in the check of its certificate
abbrev pub end_place : Question → Surveyed → End Fraction → Option JudgePlace
end_place q v x = or_else (lists_place q v x) (check_place v (end_certificate q v x))
