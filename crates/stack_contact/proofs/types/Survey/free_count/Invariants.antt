use Rattle.std.proofs.Common.{◌≡◌, ◌+◌, ◌≤◌, length, drop}
use Rattle.stack_contact.specs.FreeBlocks.{frees_from, frees_of}
use Rattle.stack_contact.proofs.types.Survey.free_count.Given as goal

-- those that were counted, and the free ones among the bodies that are left
abbrev pub invariant-loop-i : goal.invariant-loop-i
invariant-loop-i l =
    let bodies = l.self.structure.bodies in
    (l.count ≤ l.i) × (l.count + length (frees_from l.i (drop l.i bodies)) ≡ length (frees_of bodies))
