use Rattle.std.proofs.Common.{◌≡◌, take, true}
use Rattle.stack_certificate.specs.Lines.{lacks}
use Rattle.stack_certificate.proofs.split.split_once.Given as goal

abbrev pub invariant-loop-i : goal.invariant-loop-i
invariant-loop-i l = lacks l.byte (take l.i l.bytes) ≡ true
