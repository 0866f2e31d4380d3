-- What reading a certificate answers: the certificate whose text the bytes are, the faulty line exactly if they are the
-- text of none. `Memory` may come at any time.
use Rattle.std.specs.Prelude.{◌≡◌, ℕ, List, Result, Ok, Err, ⊤}
use Rattle.stack_certificate.specs.declared.types.Certificate.{Certificate}
use Rattle.stack_certificate.specs.declared.types.TextError.{TextError}
use Rattle.stack_certificate.specs.declared.types.TextError.TheVariants.{Line, Memory}
use Rattle.stack_certificate.specs.Certificate.{certificate_view}
use Rattle.stack_certificate.specs.CertificateText.{IsCertificateText}
use Rattle.stack_certificate.specs.FaultLine.{IsFaultLine}
use Rattle.stack_certificate.specs.CertificateOf.{certificate_of}

-- the bytes are the text of what is answered, or that is their faulty line
abbrev pub ReadsCertificate : Result Certificate TextError → List ℕ → Type 0
ReadsCertificate (Ok c) text = IsCertificateText (certificate_view c) text
ReadsCertificate (Err (Line number)) text = IsFaultLine number text
ReadsCertificate (Err Memory) text = ⊤

-- what is answered is what certificate_of makes of the bytes
abbrev pub GivesCertificate : Result Certificate TextError → List ℕ → Type 0
GivesCertificate (Ok c) text = certificate_of text ≡ Ok (certificate_view c)
GivesCertificate (Err (Line number)) text = certificate_of text ≡ Err number
GivesCertificate (Err Memory) text = ⊤
