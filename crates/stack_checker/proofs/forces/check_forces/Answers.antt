use Rattle.std.proofs.Common.{◌≡◌, sym, ap, ◌∙◌, length, arith, eqb-true}
use Rattle.stack_checker.proofs.ConeTests.{passed}
use Rattle.stack_checker.proofs.forces.check_forces.Goals as goal
use Rattle.stack_checker.proofs.forces.check_forces.Goals.{In_ok-unless}

-- there are as many parts as bearings
counted : (c : In_ok-unless) → length c.args.forces.now.parts.items ≡ length c.bearings-bearings.result.now
counted c = sym (c.len.ensures ∙ c.args.forces.now.parts.ok.0)
    ∙ eqb-true _ _ (passed _ _ _ c.unless.ensures c.in_ok-unless.was)

pub check_cones-requires : goal.check_cones-requires
check_cones-requires c =
    omega
    (arith, counted (goal.at.check_cones-requires c).In_ok-unless, ap length c.as_slice.ensures.value)

pub check_blocks-requires : goal.check_blocks-requires
check_blocks-requires c = counted (goal.at.check_blocks-requires c).In_ok-unless
    ∙ ap length c.bearings-bearings.ensures.value
