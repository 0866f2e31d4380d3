-- The status that a verdict ends with.
use Rattle.std.specs.Prelude.{ℕ}
use Rattle.stack_lines.specs.declared.answer.Verdict.{Verdict}
use Rattle.stack_lines.specs.declared.answer.Verdict.TheVariants.{Affirmed, Denied}

-- An affirmed question has status 0, a denied one status 1.
abbrev pub verdict_status : Verdict → ℕ
verdict_status Affirmed = 0
verdict_status Denied = 1
