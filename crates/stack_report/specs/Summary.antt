-- The summary of the judgement of a wall: its number; how many free blocks, bearings and touches its survey has; the
-- form of the certificate; the factor, if that is the greatest; and whether no number of the table and of the run is
-- too wide for 64 bits.
use Rattle.std.specs.Prelude.{ℕ, Bool, true, false, List, [], ◌∷◌, ◌++◌, length, codes}
use Rattle.stack_contact.specs.Surveyed.{Surveyed}
use Rattle.stack_contact.specs.FreeBlocks.{frees_of}
use Rattle.stack_certificate.specs.Certificate.{CertificateValue, stands, collapses, greatest, unbounded}
use Rattle.stack_report.specs.ForceTable.{factor_line}
use Rattle.stack_report.specs.ContactTable.{count_line}

-- the word of the certificate's form
abbrev pub form_word : CertificateValue → List ℕ
form_word (stands f) = codes "stands"
form_word (collapses y) = codes "collapses"
form_word (greatest f y) = codes "greatest"
form_word (unbounded f r) = codes "unbounded"

-- the line of the factor, for the form `greatest` alone
abbrev pub greatest_line : CertificateValue → List ℕ
greatest_line (stands f) = []
greatest_line (collapses y) = []
greatest_line (greatest f y) = factor_line f
greatest_line (unbounded f r) = []

-- the line that says whether no number is too wide for 64 bits
abbrev pub narrow_line : Bool → List ℕ
narrow_line true = codes "narrow yes\n"
narrow_line false = codes "narrow no\n"

-- the number of the wall, and how many free blocks, bearings and touches there are
abbrev pub counts_text : ℕ → Surveyed → List ℕ
counts_text number v =
    count_line (codes "sample") number ++ (count_line (codes "blocks") (length (frees_of v.structure.bodies))
    ++ (count_line (codes "bearings") (length v.bearings) ++ count_line (codes "touches") (length v.touches)))

-- the line of the form
abbrev pub verdict_line : CertificateValue → List ℕ
verdict_line c = codes "verdict " ++ form_word c ++ 10 ∷ []

-- all lines, in this order: the counts, the form, the greatest factor, whether 64 bits are enough
abbrev pub summary_text : ℕ → Surveyed → CertificateValue → Bool → List ℕ
summary_text number v c narrow =
    counts_text number v ++ (verdict_line c ++ (greatest_line c ++ narrow_line narrow))
