use Rattle.std.proofs.Common.{sym, ◌∙◌, arith}
use Rattle.std.proofs.lemmas.Result.{err_from_is_err_and}
use Rattle.stack_equilibrium.proofs.Common.{forces_view, frees_of, step_on, step_out}
use Rattle.stack_algebra.proofs.Steps.{steps_done}
use Rattle.stack_checker.specs.WrittenForces.{balance_at}
use Rattle.stack_checker.proofs.balance.check_blocks.Goals as goal

pub returns-in_err-check_block : goal.returns-in_err-check_block
returns-in_err-check_block c =
    let p = err_from_is_err_and c.from_residual.result c.from_residual.ensures.1 in
    let s = c.args.s.now in
    rw (p.1, p.2) (step_out (balance_at s (forces_view c.args.forces.now))
    (frees_of s.structure.bodies) c.loop-b.b tt 0
    c.in_err-check_block.field-0.0 _ (omega (arith, c.loop-b.invariant.ends)) (sym c.check_block.ensures
    ∙ c.in_err-check_block.was) c.loop-b.invariant.so_far)

pub loop-b-preserved : goal.loop-b-preserved
loop-b-preserved c =
    let s = c.args.s.now in record {
      ends = c.loop-b.invariant.ends;
      so_far = step_on (balance_at s (forces_view c.args.forces.now))
          (frees_of s.structure.bodies) c.loop-b.b tt tt 0 _
          (omega (arith, c.loop-b.invariant.ends)) (sym c.check_block.ensures
          ∙ c.in_ok-check_block.was) c.loop-b.invariant.so_far;
    }

pub returns : goal.returns
returns c =
    let s = c.args.s.now in
    steps_done (balance_at s (forces_view c.args.forces.now)) (frees_of s.structure.bodies) c.loop-b.b tt _
    (omega (arith, c.loop-b.invariant.ends)) c.loop-b.invariant.so_far
