-- The certificate whose text some bytes are, or their faulty line, as a function of the bytes. The law
-- one_reading ties it to the grammar.
use Rattle.std.specs.Prelude.{ℕ, suc, ℤ, List, [], ◌∷◌, ◌++◌, Option, Some, None, Result, Ok, Err}
use Rattle.std.specs.Option.{option_map, option_and_then}
use Rattle.stack_certificate.specs.declared.line.CertificateForm.{CertificateForm}
use Rattle.stack_certificate.specs.declared.line.CertificateForm.TheVariants.{Stands, Collapses, Greatest, Unbounded}
use Rattle.stack_certificate.specs.declared.line.Line.{Line}
use Rattle.stack_certificate.specs.declared.line.Line.TheVariants as lines
use Rattle.stack_certificate.specs.Certificate.{ForcesValue, CertificateValue, stands, collapses, greatest, unbounded}
use Rattle.stack_certificate.specs.FaultLine.{cut}
use Rattle.stack_certificate.specs.LineOf.{line_of}

-- How far a text has come, by the line that comes next: its form; the first list of the form; a further part
-- or the next list, behind the forces of `greatest` and the first ones of `unbounded`; a further part or
-- move, or `end`; none.
pub data Progress : Type 0 where
  start : Progress
  formed : CertificateForm → Progress
  before_motion : ForcesValue → Progress
  before_ray : ForcesValue → Progress
  unended : CertificateValue → Progress
  ended : CertificateValue → Progress

-- a list of forces of which no part has come yet
abbrev pub no_parts : ℤ → ℤ → ForcesValue
no_parts scale factor = record { scale = scale; factor = factor; parts = [] }

-- one more part, behind those before it
abbrev pub with_part : ForcesValue → ℤ × ℤ → ForcesValue
with_part f part = record { scale = f.scale; factor = f.factor; parts = f.parts ++ part ∷ [] }

-- one more part of the last list, where that one has forces
abbrev pub with_push : CertificateValue → ℤ × ℤ → Option CertificateValue
with_push (stands f) part = Some (stands (with_part f part))
with_push (unbounded f r) part = Some (unbounded f (with_part r part))
with_push _ part = None

-- one more move of the last list, where that one is a motion
abbrev pub with_move : CertificateValue → ℤ × ℤ × ℤ → Option CertificateValue
with_move (collapses m) move = Some (collapses (m ++ move ∷ []))
with_move (greatest f m) move = Some (greatest f (m ++ move ∷ []))
with_move _ move = None

-- How far a text has come after the line behind its form, if that line may come there.
abbrev pub begun : CertificateForm → Line → Option Progress
begun Stands (lines.Forces s f) = Some (unended (stands (no_parts s f)))
begun Collapses lines.Motion = Some (unended (collapses []))
begun Greatest (lines.Forces s f) = Some (before_motion (no_parts s f))
begun Unbounded (lines.Forces s f) = Some (before_ray (no_parts s f))
begun _ _ = None

-- how far a text has come after one more line, behind a certificate that isn't ended: a part or a move of its last
-- list, or the end
abbrev pub continued : CertificateValue → Line → Option Progress
continued c (lines.Push a b) = option_map unended (with_push c (a, b))
continued c (lines.Move u v r) = option_map unended (with_move c (u, v, r))
continued c lines.End = Some (ended c)
continued c _ = None

-- how far a text has come after one more line, from wherever it had come; behind `end` no line may come
abbrev pub progress_after : Progress → Line → Option Progress
progress_after start (lines.Form form) = Some (formed form)
progress_after (formed form) line = begun form line
progress_after (before_motion f) (lines.Push a b) = Some (before_motion (with_part f (a, b)))
progress_after (before_motion f) lines.Motion = Some (unended (greatest f []))
progress_after (before_ray f) (lines.Push a b) = Some (before_ray (with_part f (a, b)))
progress_after (before_ray f) (lines.Forces s t) = Some (unended (unbounded f (no_parts s t)))
progress_after (unended c) line = continued c line
progress_after _ _ = None

-- How far a text has come after the line that these bytes are, if it may come there.
abbrev pub step : Progress → List ℕ → Option Progress
step p bytes = option_and_then (progress_after p) (line_of bytes)

-- all lines one after the other, where each may come
abbrev pub progress_over : Progress → List (List ℕ) → Option Progress
progress_over p [] = Some p
progress_over p (bytes ∷ more) = option_and_then (λ q. progress_over q more) (step p bytes)

-- How many lines may come: one more than of the rest where the first may come, else none.
abbrev pub lines_counted : Option ℕ → ℕ
lines_counted None = 0
lines_counted (Some n) = suc n

-- how many of these lines may come one after the other, before the first that may not
abbrev pub accepted : Progress → List (List ℕ) → ℕ
accepted p [] = 0
accepted p (bytes ∷ more) = lines_counted (option_map (λ q. accepted q more) (step p bytes))

-- The certificate where its text is whole, else the number of this line.
abbrev pub finished : Option Progress → ℕ → Result CertificateValue ℕ
finished (Some (ended c)) n = Ok c
finished _ n = Err n

-- the certificate that the bytes write, or the number of their first line that may not come, from 1
unfoldable pub certificate_of : List ℕ → Result CertificateValue ℕ
certificate_of bytes = finished (progress_over start (cut bytes)) (suc (accepted start (cut bytes)))
