use Rattle.std.proofs.Common.{◌≡◌, ℕ, Result, Ok, sym, ◌∙◌}
use Rattle.stack_certificate.specs.Certificate.{CertificateValue}
use Rattle.stack_certificate.proofs.Readings.{reads}
use Rattle.stack_certificate.proofs.laws.one_certificate.Goals as goal

abbrev ok : CertificateValue → Result CertificateValue ℕ
ok c = Ok c

pub returns : goal.returns
returns _ = λ c d bytes s t. let both : ok c ≡ ok d = sym (reads c bytes s) ∙ reads d bytes t in cc
