use Rattle.std.proofs.Common.{◌≡◌, drop}
use Rattle.stack_table.specs.Sound.{are_small}
use Rattle.stack_table.proofs.sound.are_small.Given as goal

abbrev pub invariant-loop-number : goal.invariant-loop-number
invariant-loop-number l = are_small (drop l.number-index l.numbers) ≡ are_small l.numbers
