use Rattle.std.proofs.Common.{◌≡◌, sym, ap, subst, ◌∙◌, ℕ, ◌<◌, List, length, get_or, false, subst₂, ℤ}
use Rattle.stack_rational.proofs.Common.{Fraction, widest}
use Rattle.stack_table.specs.Problem.{flipped}
use Rattle.stack_table.specs.Lent.{problem_of}
use Rattle.stack_table.proofs.RowByRow.{flips_are}
use Rattle.stack_run.specs.WrittenRun.{End}
use Rattle.stack_run.specs.ProblemRun.{run_at}
use Rattle.stack_revised.specs.declared.stops.RevisedStop.{RevisedStop}
use Rattle.stack_inverse.specs.Seen.{shape_of_revised, table_of_revised}
use Rattle.stack_tableau.specs.EndKinds.{end_at}
use Rattle.stack_inverse.specs.FirstTable.{flips}
use Rattle.stack_revised.specs.Ended.{flips_of_last, value_of_last, tells_stop}
use Rattle.stack_revised.proofs.EndedRuns.{run_is, tells_last, stop_told, if_ok}
use Rattle.stack_revised.proofs.running.run_revised.Goals as goal

pub returns-in-Err-run_table-clause-value : goal.returns-in-Err-run_table-clause-value
returns-in-Err-run_table-clause-value c =
    let t = c.in-Ok-of_problem.table in
    subst₂ (λ (e : RevisedStop) (X : End Fraction). tells_stop e X) (sym c.stopped.ensures)
    (run_is widest (problem_of c.args.p.now) c.args.budget (shape_of_revised t) (table_of_revised t)
    c.in-Ok-of_problem.ensures.shape c.in-Ok-of_problem.ensures.ok)
    (stop_told c.in-Err-run_table.stop _ c.in-Err-run_table.ensures.value)

pub returns-clause-flips : goal.returns-clause-flips
returns-clause-flips c =
    let P = c.args.p.now in
    let fs = c.in-Ok.flipped.items in
    let each : (i : ℕ) → i < P.rows → get_or fs i false ≡ flipped (problem_of P) i =
    λ i l. c.in-Ok.ensures.each i (subst (λ n. i < n) (sym (ap length c.as_slice.ensures.value
    ∙ c.requires.right_long)) l)
    ∙ ap (λ (r : List ℤ). flips r i) c.as_slice.ensures.value in
    if_ok c.last_of.result (λ l. l.flipped.items ≡ fs) (λ l. flips_of_last l ≡ flipped (problem_of P))
    (λ l h. (λ z i. get_or (h z) i false) ∙ (λ z i. flips_are P c.requires fs
    (c.in-Ok.ensures.long ∙ ap length c.as_slice.ensures.value ∙ c.requires.right_long) each i z))
    c.last_of.ensures.flips

pub returns-clause-value : goal.returns-clause-value
returns-clause-value c =
    let t = c.in-Ok-of_problem.table in
    let X = run_at widest (problem_of c.args.p.now) c.args.budget in
    tells_last c.last_of.result X (if_ok c.last_of.result
    (λ l. value_of_last l ≡ end_at c.in-Ok-run_table.kind (table_of_revised c.run_table.new.t.table))
    (λ l. value_of_last l ≡ X)
    (λ l h. h ∙ c.in-Ok-run_table.ensures.value ∙ run_is widest (problem_of c.args.p.now) c.args.budget
    (shape_of_revised t) (table_of_revised t) c.in-Ok-of_problem.ensures.shape c.in-Ok-of_problem.ensures.ok)
    c.last_of.ensures.value) c.last_of.ensures.unsettled

pub run_table-requires : goal.run_table-requires
run_table-requires c = record {
  problem = c.args.p.now;
  condition = c.requires;
  is_its_table = record {
    shape = sym c.in-Ok-of_problem.ensures.shape;
    table = sym c.in-Ok-of_problem.ensures.ok;
  };
}
