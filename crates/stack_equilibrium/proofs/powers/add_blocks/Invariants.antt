use Rattle.std.proofs.Common.{◌≡◌, drop, length}
use Rattle.stack_algebra.specs.Steps.{steps}
use Rattle.stack_contact.specs.FreeBlocks.{frees_of}
use Rattle.stack_equilibrium.specs.WrittenPowers.{with_block, summed_power}
use Rattle.stack_equilibrium.proofs.powers.add_blocks.Given as goal

abbrev pub invariant-loop-b : goal.invariant-loop-b
invariant-loop-b l = record {
  ends : l.b-end ≡ length (frees_of l.s.structure.bodies);
  so_far : steps (with_block l.q l.s l.moves) l.b l.so_far (drop l.b (frees_of l.s.structure.bodies))
      ≡ summed_power l.q l.s l.moves;
}
