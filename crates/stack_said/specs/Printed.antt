-- What `stand` and `load` print is accepted: `check` of the printed text with the same model ends with that answer, and
-- with no other unless memory runs out or a device fails. And the text is short enough to be read.
use Rattle.std.specs.Prelude.{◌≡◌, ℕ, ◌<◌, ◌⊎◌, List, [], ◌∷◌, Some, Result, Ok, length}
use Rattle.stack_outside.specs.Seen.{ShelfSeen, StreamSeen, ShelfFailed, StreamFailed, Took}
use Rattle.stack_contact.specs.Surveyed.{Surveyed}
use Rattle.stack_certificate.specs.Certificate.{CertificateValue}
use Rattle.stack_certificate.specs.CertificateText.{IsCertificateText, text_bound}
use Rattle.stack_equilibrium.specs.declared.types.Question.{Question}
use Rattle.stack_judge.specs.Judged.{IsJudged}
use Rattle.stack_lines.specs.declared.answer.Verdict.TheVariants.{Affirmed}
use Rattle.stack_lines.specs.Refusals.{Refusal}
use Rattle.stack_work.specs.Answers.{Due, exactly}
use Rattle.stack_lines.specs.CheckText.{accepted_text}
use Rattle.stack_work.specs.Work.{Holds, Ends}
use Rattle.stack_work.specs.Checking.{check_work}
use Rattle.stack_work.specs.AcceptedModel.{IsAcceptedModel}
use Rattle.stack_work.specs.OneEnd.{IsDefinite}

-- How a check ends that accepts: with `accepted`, and status 0.
abbrev pub acceptance : Result Due Refusal
acceptance = Ok (exactly Affirmed accepted_text)

-- A printed certificate is accepted with its own model, and its check has no other definite end.
abbrev pub PrintedIsAccepted : Type 0
PrintedIsAccepted = (q : Question) (v : Surveyed) (c : CertificateValue) (holds : Holds)
    (model name bytes text : List ℕ)
    → holds model ≡ Some bytes → IsAcceptedModel bytes v → IsJudged q v c → IsCertificateText c text
    → holds name ≡ Some text → Ends holds (check_work model name) (model ∷ name ∷ []) acceptance
    × ((names : List (List ℕ)) (end : Result Due Refusal) → Ends holds (check_work model name) names end
    → IsDefinite end → end ≡ acceptance)

-- A printed certificate has fewer than 180,000 bytes, and so it isn't refused as too long.
abbrev pub PrintedIsShort : Type 0
PrintedIsShort = (q : Question) (v : Surveyed) (c : CertificateValue) (text : List ℕ) → IsJudged q v c
    → IsCertificateText c text → length text < text_bound

-- What a run of `check` on a printed certificate and its model comes to: `accepted`, with status 0; or the shelf
-- failed, with 3, or the output, with 10; or the status is 11.
abbrev pub IsAcceptedAgain : (status : ℕ) → ShelfSeen → (out : StreamSeen) → Type 0
IsAcceptedAgain status shelf out =
    ((status ≡ 0) × Took out accepted_text)
    ⊎ (((status ≡ 3) × ShelfFailed shelf) ⊎ (((status ≡ 10) × StreamFailed out) ⊎ (status ≡ 11)))
