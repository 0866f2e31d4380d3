use Rattle.stack_posing.proofs.WholeProblem.{the_problem, the_condition, is_lean}
use Rattle.stack_posing.proofs.posing.pose.Goals as goal

pub returns-clause-problem : goal.returns-clause-problem
returns-clause-problem c =
    the_problem c.args.s.now c.args.q c.free_count.result c.in_ok-contact_columns.field-0 c.in_ok-factor_column.field-0
    c.in_ok-right_sides.field-0 c.in_ok-contact_columns.ensures c.in_ok-factor_column.ensures c.free_count.ensures.value
    c.in_ok-right_sides.ensures.values

pub returns-clause-condition : goal.returns-clause-condition
returns-clause-condition c =
    the_condition c.args.s.now c.args.q c.free_count.result c.in_ok-contact_columns.field-0
    c.in_ok-factor_column.field-0 c.in_ok-right_sides.field-0 c.free_count.ensures.value c.free_count.ensures.few
    c.within.ensures.survey.few c.in_ok-contact_columns.ensures c.in_ok-factor_column.ensures
    c.in_ok-right_sides.ensures.values c.in_ok-right_sides.ensures.small

pub returns-clause-lean : goal.returns-clause-lean
returns-clause-lean c =
    is_lean c.args.s.now c.args.q c.free_count.result c.in_ok-contact_columns.field-0 c.in_ok-factor_column.field-0
    c.in_ok-right_sides.field-0 c.in_ok-contact_columns.ensures c.in_ok-factor_column.ensures
