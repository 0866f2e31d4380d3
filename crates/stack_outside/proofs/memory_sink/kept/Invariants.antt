use Rattle.std.proofs.Common.{◌≡◌, drop}
use Rattle.stack_outside.specs.Held.{kept_of}
use Rattle.stack_outside.proofs.memory_sink.kept.Given as goal

abbrev pub invariant-loop-pair : goal.invariant-loop-pair
invariant-loop-pair l = kept_of (drop l.pair-index l.fails) l.call ≡ kept_of l.fails l.call
