use Rattle.std.proofs.Common.{◌≡◌, string_bytes}
use Rattle.stack_stages.specs.StagesText.{stand_lines}
use Rattle.stack_stages.proofs.text.stand_lines.Given as goal

-- the lines of the stages so far
abbrev pub invariant-loop-k : goal.invariant-loop-k
invariant-loop-k l = string_bytes l.text ≡ stand_lines l.k
