use Rattle.std.proofs.Common.{sym, ◌∙◌, arith}
use Rattle.std.proofs.lemmas.Result.{err_from_is_err_and}
use Rattle.stack_algebra.proofs.Steps.{step_on, step_out, steps_done}
use Rattle.stack_contact.specs.FreeBlocks.{frees_of}
use Rattle.stack_equilibrium.specs.WrittenPowers.{with_block}
use Rattle.stack_equilibrium.proofs.powers.add_blocks.Goals as goal

pub returns-in_err-so_far : goal.returns-in_err-so_far
returns-in_err-so_far c =
    let p = err_from_is_err_and c.from_residual.result c.from_residual.ensures.1 in
    let s = c.args.s.now in
    rw (p.1, p.2) (step_out (with_block c.args.q s c.args.moves.now) (frees_of s.structure.bodies) c.loop-b.b
    c.loop-b.so_far 0 c.in_err-so_far.field-0.0 _ (omega (arith, c.loop-b.invariant.ends))
    (sym c.add_block.ensures ∙ c.in_err-so_far.was) c.loop-b.invariant.so_far)

pub loop-b-preserved : goal.loop-b-preserved
loop-b-preserved c =
    let s = c.args.s.now in record {
      ends = c.loop-b.invariant.ends;
      so_far = step_on (with_block c.args.q s c.args.moves.now) (frees_of s.structure.bodies) c.loop-b.b
          c.loop-b.so_far c.in_ok-so_far.so_far 0 _ (omega (arith, c.loop-b.invariant.ends))
          (sym c.add_block.ensures ∙ c.in_ok-so_far.was) c.loop-b.invariant.so_far;
    }

pub returns : goal.returns
returns c =
    let s = c.args.s.now in
    steps_done (with_block c.args.q s c.args.moves.now)
    (frees_of s.structure.bodies) c.loop-b.b c.loop-b.so_far _
    (omega (arith, c.loop-b.invariant.ends)) c.loop-b.invariant.so_far
