use Rattle.std.proofs.Common.{◌≡◌, ◌<◌, length, get_or, drop}
use Rattle.stack_contact.specs.FreeBlocks.{frees_from, frees_of}
use Rattle.stack_contact.proofs.types.Survey.free.Given as goal

-- so many free ones are still to be passed among the bodies that are left
abbrev pub invariant-loop-i : goal.invariant-loop-i
invariant-loop-i l =
    let bodies = l.self.structure.bodies in
    let rest = frees_from l.i (drop l.i bodies) in
    (l.left < length rest) × (get_or rest l.left 0 ≡ get_or (frees_of bodies) l.b 0)
