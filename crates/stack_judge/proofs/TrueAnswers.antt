-- What is given out of the end of a survey's run is judged: true, of its question, of numbers that fit, accepted.
use Rattle.std.proofs.Common.{◌≡◌, ◌≤◌, Some, None, length}
use Rattle.stack_equilibrium.proofs.Common.{CertificateValue, Fraction, IsProper, Surveyed, frees_of, most_bearings}
use Rattle.stack_equilibrium.proofs.Common.{most_free, scene_of}
use Rattle.stack_equilibrium.specs.declared.types.Question.{Question}
use Rattle.stack_checker.specs.declared.types.Check.TheVariants.{Accepted}
use Rattle.stack_checker.specs.WrittenCheck.{written_check}
use Rattle.stack_checker.specs.Shown.{Shows}
use Rattle.stack_run.specs.WrittenRun.{End}
use Rattle.stack_extract.specs.Certified.{end_certificate}
use Rattle.stack_extract.specs.EndLaws.{IsEndOfRun, EndsAreCertified}
use Rattle.stack_judge.specs.Judged.{IsJudged}
use Rattle.stack_judge.specs.EndPlace.{lists_place}
use Rattle.stack_judge.proofs.NumbersFit.{certificate_fits, certificate_few, fits_if, few_if}

pub judged : EndsAreCertified → (q : Question) (v : Surveyed) (x : End Fraction) (c : CertificateValue)
    → IsProper (scene_of v) → length v.bearings ≤ most_bearings → length (frees_of v.structure.bodies) ≤ most_free
    → IsEndOfRun q v x → lists_place q v x ≡ None → end_certificate q v x ≡ Some c → written_check v c ≡ Accepted
    → Shows v c → IsJudged q v c
judged certified q v x c proper bearings frees run fit is check shown =
    let d = certified q v x c proper run is in record {
      holds = d.holds;
      form = d.form;
      dead_loads = d.dead_loads;
      shows = shown;
      fits = fits_if c (end_certificate q v x) is (certificate_fits q v x fit);
      few = few_if c (end_certificate q v x) is (certificate_few v bearings frees q x);
      accepted = check;
    }
