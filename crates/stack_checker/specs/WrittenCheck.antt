-- The written check of a certificate: its tests and its numbers in one order. It ends at the first test that
-- fails or at the first number that is too wide, whichever comes first. What a true certificate is stands in
-- Truth, apart from this. Used by the contract of the check and by its laws.
use Rattle.std.specs.Prelude.{Result, Ok, Err, ⊤}
use Rattle.stack_algebra.specs.Steps.{◌>>=◌}
use Rattle.stack_contact.specs.Surveyed.{Surveyed}
use Rattle.stack_certificate.specs.Certificate.{CertificateValue, stands, collapses, greatest, unbounded}
use Rattle.stack_checker.specs.declared.types.Part.{Part}
use Rattle.stack_checker.specs.declared.types.Part.TheVariants.{First, Second}
use Rattle.stack_checker.specs.declared.types.Check.{Check}
use Rattle.stack_checker.specs.declared.types.Check.TheVariants as answers
use Rattle.stack_checker.specs.declared.stop.Stop.{Stop}
use Rattle.stack_checker.specs.declared.stop.Stop.TheVariants.{Rejected, TooWide}
use Rattle.stack_checker.specs.declared.stop.PartStop.{PartStop}
use Rattle.stack_checker.specs.Signs.{standing, loaded, rising}
use Rattle.stack_checker.specs.WrittenForces.{written_forces}
use Rattle.stack_checker.specs.WrittenMotions.{written_collapse, written_bound}

-- the tests of a part, with that part where they end before their last
abbrev pub in_part : Part → Result ⊤ Stop → Result ⊤ PartStop
in_part part (Ok done) = Ok tt
in_part part (Err stop) = Err (record { part = part; stop = stop })

-- forces that carry the dead loads; a motion on which they gain power; forces that carry the live loads with a
-- factor and a motion that forbids more; such forces, and further ones that carry the live loads alone
unfoldable pub tests_of : Surveyed → CertificateValue → Result ⊤ PartStop
tests_of s (stands f) = in_part First (written_forces standing s f)
tests_of s (collapses y) = in_part First (written_collapse s y)
tests_of s (greatest f y) = do
  carried ← in_part First (written_forces loaded s f)
  in_part Second (written_bound s f y)
tests_of s (unbounded base ray) = do
  carried ← in_part First (written_forces loaded s base)
  in_part Second (written_forces rising s ray)

-- how the tests of a part end before their last: one of them fails, or a number is too wide
abbrev pub answer_at : Part → Stop → Check
answer_at part (Rejected reason) = answers.Rejected part reason
answer_at part (TooWide at) = answers.TooWide (record { part = part; at = at })

-- a certificate is accepted where all tests pass and no number is too wide, and nowhere else
abbrev pub answer_of : Result ⊤ PartStop → Check
answer_of (Ok done) = answers.Accepted
answer_of (Err e) = answer_at e.part e.stop

-- the answer to a certificate, by all its tests in their order
abbrev pub written_check : Surveyed → CertificateValue → Check
written_check s c = answer_of (tests_of s c)
