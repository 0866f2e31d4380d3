-- The text of the outcome of stages: the line `stage K stands` for each that stands, counted from 1; then the line `all
-- stand`, or the line `stage K collapses` and the text of the certificate of that stage.
use Rattle.std.specs.Prelude.{ℕ, zero, suc, List, [], ◌++◌, codes, decimal, length, ⊤}
use Rattle.stack_certificate.specs.Certificate.{MotionValue, collapses}
use Rattle.stack_certificate.specs.CertificateText.{CertificateFits, certificate_text}
use Rattle.stack_stages.specs.Staged.{Staged, all_stand, falls, too_wide_at, spent_at, no_stages}

-- the line of a stage that stands
abbrev pub stands_line : ℕ → List ℕ
stands_line k = codes "stage " ++ decimal k ++ codes " stands\n"

-- the line of a stage that collapses
abbrev pub collapses_line : ℕ → List ℕ
collapses_line k = codes "stage " ++ decimal k ++ codes " collapses\n"

-- the lines of the first n stages, which stand
abbrev pub stand_lines : ℕ → List ℕ
stand_lines zero = []
stand_lines (suc n) = stand_lines n ++ stands_line (suc n)

-- the text if the first n stages stand and the next collapses by a motion
abbrev pub falls_text : ℕ → MotionValue → List ℕ
falls_text n m = stand_lines n ++ collapses_line (suc n) ++ certificate_text (collapses m)

-- the whole text of the outcome of stages; a stage that isn't judged has none
abbrev pub stages_text : Staged → List ℕ
stages_text (all_stand fs) = stand_lines (length fs) ++ codes "all stand\n"
stages_text (falls fs m) = falls_text (length fs) m
stages_text (too_wide_at stage p) = []
stages_text (spent_at stage) = []
stages_text no_stages = []

-- an outcome of stages can be printed, as each that is found can
abbrev pub CanPrintStages : Staged → Type 0
CanPrintStages (falls fs m) = CertificateFits (collapses m)
CanPrintStages _ = ⊤
