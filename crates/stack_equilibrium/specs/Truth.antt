-- When a certificate is true of a survey, and which question it answers. Nothing here speaks of how it is
-- found or checked.
use Rattle.std.specs.Prelude.{⊤}
use Rattle.stack_contact.specs.Surveyed.{Surveyed}
use Rattle.stack_certificate.specs.Certificate.{CertificateValue, stands, collapses, greatest, unbounded}
use Rattle.stack_equilibrium.specs.declared.types.Question.{Question}
use Rattle.stack_equilibrium.specs.declared.types.Question.TheVariants.{Dead, Live}
use Rattle.stack_statics.specs.Certificates as statics
use Rattle.stack_equilibrium.specs.Held.{forces_of, moves_of}
use Rattle.stack_equilibrium.specs.SurveyScene.{scene_of}

-- the certificate as statics sees it
abbrev pub held : CertificateValue → statics.SceneCertificate
held (stands f) = statics.stands (forces_of f)
held (collapses y) = statics.collapses (moves_of y)
held (greatest f y) = statics.greatest (forces_of f) (moves_of y)
held (unbounded base ray) = statics.unbounded (forces_of base) (forces_of ray)

-- what a certificate claims holds of the scene of the survey
abbrev pub IsTrueCertificate : Surveyed → CertificateValue → Type 0
IsTrueCertificate s c = statics.Certifies (scene_of s) (held c)

-- whether the dead loads stand is answered by forces or by a collapse; how far the live loads can be raised,
-- by a collapse, by a greatest factor or by factors without end
abbrev pub IsOfQuestion : Question → CertificateValue → Type 0
IsOfQuestion Dead (stands f) = ⊤
IsOfQuestion Dead (collapses y) = ⊤
IsOfQuestion Dead (greatest f y) = ⊥
IsOfQuestion Dead (unbounded base ray) = ⊥
IsOfQuestion Live (stands f) = ⊥
IsOfQuestion Live (collapses y) = ⊤
IsOfQuestion Live (greatest f y) = ⊤
IsOfQuestion Live (unbounded base ray) = ⊤
