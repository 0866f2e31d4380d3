use Rattle.std.proofs.Common.{sym, ◌∙◌, ◌++◌, ◌∷◌, [], string_bytes}
use Rattle.stack_report.specs.ForceTable.{force_text}
use Rattle.stack_report.proofs.ForcesMade.{force_ok}
use Rattle.stack_report.proofs.Pieces.{one_line, none_made}
use Rattle.stack_report.proofs.forces.with_bearing.Goals as goal

pub line_of-requires-clause-x : goal.line_of-requires-clause-x
line_of-requires-clause-x c =
    (force_ok c.args.bearing c.args.push c.in-Ok.force (sym c.bearing_force.ensures ∙ c.in-Ok.is)).x_fits

pub line_of-requires-clause-y : goal.line_of-requires-clause-y
line_of-requires-clause-y c =
    (force_ok c.args.bearing c.args.push c.in-Ok.force (sym c.bearing_force.ensures ∙ c.in-Ok.is)).y_fits

pub returns-in_ok-with_line-in-Ok : goal.returns-in_ok-with_line-in-Ok
returns-in_ok-with_line-in-Ok c = one_line c.args.index c.args.bearing c.args.push c.in-Ok.force c.args.over.value
    c.args.k (string_bytes c.args.text) c.in_ok-with_line-in-Ok.field-0 (sym c.bearing_force.ensures ∙ c.in-Ok.is)
    (c.in_ok-with_line-in-Ok.ensures ∙ (λ i. string_bytes c.args.text ++ (force_text (c.line_of.ensures i).index
    (c.line_of.ensures i).x (c.line_of.ensures i).y ++ 10 ∷ [])))

pub returns-in-Err : goal.returns-in-Err
returns-in-Err c = none_made c.args.index c.args.bearing c.args.push c.in-Err.field-0
    (sym c.bearing_force.ensures ∙ c.in-Err.is)
