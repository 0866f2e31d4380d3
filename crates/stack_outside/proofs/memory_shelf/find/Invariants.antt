use Rattle.std.proofs.Common.{◌≡◌, drop}
use Rattle.stack_outside.specs.Held.{held_of}
use Rattle.stack_outside.proofs.memory_shelf.find.Given as goal

abbrev pub invariant-loop-file : goal.invariant-loop-file
invariant-loop-file l = held_of (drop l.file-index l.files) l.name ≡ held_of l.files l.name
