use Rattle.std.proofs.Common.{◌≡◌, Option, IfOk, subst}
use Rattle.std.specs.Option.{option_map}
use Rattle.stack_certificate.specs.CertificateOf.{Progress}
use Rattle.stack_certificate.specs.Stages.{stage_view}
use Rattle.stack_certificate.proofs.ReadSoFar.{own_line, no_line}
use Rattle.stack_certificate.proofs.reading.advance.Goals as goal

pub returns-in-Some : goal.returns-in-Some
returns-in-Some c =
    subst (λ (p : Option Progress). IfOk c.accept.result (λ s. option_map stage_view s ≡ p))
    (own_line (stage_view c.args.stage) c.args.bytes.now c.in-Some.line c.in-Some.ensures.some) c.accept.ensures

pub returns-in-None : goal.returns-in-None
returns-in-None c = no_line (stage_view c.args.stage) c.args.bytes.now c.in-None.ensures.none
