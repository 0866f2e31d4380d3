use Rattle.std.proofs.Common.{◌≡◌, refl, sym, suc, ◌+◌, length, Option, Some, None, arith, rules, SFits, to_z-of_z}
use Rattle.stack_rational.proofs.Common.{w128, first_found, first_more, first-none, first_all-none, over}
use Rattle.stack_table.specs.declared.types.Step.{Step}
use Rattle.stack_table.specs.Spots.{reduce_item}
use Rattle.stack_rational.proofs.Common.{ordered_fractions, is_too_wide, widest}
use Rattle.stack_rows.specs.RowSeen.{numbers_of}
use Rattle.stack_inverse.specs.Columns.{number_with, cell_with}
use Rattle.stack_inverse.specs.CellSteps.{spot_at}
use Rattle.stack_inverse.proofs.KeptNumbers.{few_numbers}
use Rattle.stack_inverse.proofs.CellSteps.{step_told}
use Rattle.stack_inverse.proofs.spots.row_spot.Goals as goal
use Rattle.stack_inverse.proofs.spots.row_spot.Goals.{After-step_spot-step}

-- what is told of the numbers of the column
told : (c : After-step_spot-step) → (o : Option Step) → c.step_spot-step.result ≡ Some o →
    reduce_item ordered_fractions (is_too_wide widest)
    (cell_with c.args.first.now.rows c.args.first.now.columns.items (numbers_of c.args.row.now) c.args.s.now.under)
    (cell_with c.args.first.now.rows c.args.first.now.columns.items (numbers_of c.args.pivot.now)
    c.args.s.now.pivot_under)
    (over c.args.s.now.number c.args.s.now.under) c.args.i c.loop-j.j ≡ spot_at c.args.i c.loop-j.j o
told c o e =
    let f = c.args.first.now in
    let s = c.args.s.now in
    let own : SFits w128 c.in-Some-Some.own = search rules in
    let other : SFits w128 c.in-Some-Some.other = search rules in
    step_told (number_with f.rows f.columns.items (numbers_of c.args.row.now))
    (number_with f.rows f.columns.items (numbers_of c.args.pivot.now)) s.under
    s.pivot_under (over s.number s.under) c.args.i c.loop-j.j o (rw c.in-Some-Some.is-0 at c.row_number.ensures)
    (rw c.in-Some-Some.is-1 at c.row_number-in-loop-j.ensures) refl
    (rw (e, to_z-of_z own, to_z-of_z other) at c.step_spot-step.ensures)

pub overflow_add-first : goal.overflow_add-first
overflow_add-first c = omega (arith, c.requires.width, few_numbers c.args.row.now)

pub loop-j-preserved : goal.loop-j-preserved
loop-j-preserved c = first_more c.loop-j.j _ c.loop-j.invariant (told
    (goal.at.loop-j-preserved c).After-step_spot-step None (search rules))

pub returns-in-Some-Some-step : goal.returns-in-Some-Some-step
returns-in-Some-Some-step c =
    let f = c.args.first.now in
    sym (first_found (suc (length f.columns.items + f.rows)) c.loop-j.j _ _ (search rules) c.loop-j.invariant
    (told (goal.at.returns-in-Some-Some-step c).After-step_spot-step (Some c.in-Some-Some-step.step) (search rules)))

pub returns : goal.returns
returns c =
    let f = c.args.first.now in
    sym (first_all-none (suc (length f.columns.items + f.rows)) _ (λ k l. first-none c.loop-j.j _ c.loop-j.invariant k
    (omega (
      arith,
      l,
      c.loop-j-test.false,
      c.in-Some.ensures,
      c.len.ensures,
      f.columns.ok.0,
      c.requires.pivot_width,
    ))))
