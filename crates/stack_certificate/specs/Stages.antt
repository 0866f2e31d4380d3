-- What a stage of reading means: how far a text has been read. Used by the reader alone.
use Rattle.std.specs.Prelude.{◌≡◌, ℕ, Option, Some, None, Err}
use Rattle.stack_certificate.specs.declared.types.Certificate.{Certificate}
use Rattle.stack_certificate.specs.declared.stage.Stage.{Stage}
use Rattle.stack_certificate.specs.declared.stage.Stage.TheVariants as stages
use Rattle.stack_certificate.specs.Certificate.{forces_view, certificate_view}
use Rattle.stack_certificate.specs.CertificateOf.{Progress, start, formed, before_motion, before_ray, unended, ended}
use Rattle.stack_certificate.specs.CertificateOf.{finished}

-- how far the text has come at this stage, by what has been read so far
abbrev pub stage_view : Stage → Progress
stage_view stages.Start = start
stage_view (stages.Formed form) = formed form
stage_view (stages.BeforeMotion f) = before_motion (forces_view f)
stage_view (stages.BeforeRay f) = before_ray (forces_view f)
stage_view (stages.Unended c) = unended (certificate_view c)
stage_view (stages.Ended c) = ended (certificate_view c)

-- There is a certificate exactly if the text is whole, and it is the one that was read.
abbrev pub Finishes : Option Certificate → Progress → Type 0
Finishes (Some c) p = p ≡ ended (certificate_view c)
Finishes None p = (n : ℕ) → finished (Some p) n ≡ Err n
