use Rattle.std.proofs.Common.{sym, ap, ◌∙◌, arith}
use Rattle.stack_table.specs.Lent.{factor_entries}
use Rattle.stack_table.specs.Sound.{are_columns, are_small}
use Rattle.stack_table.proofs.SoundProblem.{numbers_small, column_is, columns_are}
use Rattle.stack_table.proofs.problem.Problem.is_sound.Goals as goal

pub returns-clause-meaning : goal.returns-clause-meaning
returns-clause-meaning c = λ h. let P = c.args.self.now in record {
  rows_few = omega (arith, c.if-self-gt-MOST_ROWS.false);
  contacts_few = omega (arith, c.if-len-gt-MOST_CONTACT_COLUMNS.false, c.len.ensures, P.contact.ok.0);
  contact_columns = columns_are P.rows P.contact.items
      (ap (are_columns P.rows) (sym c.as_slice-2.ensures.value) ∙ sym c.are_columns.ensures
      ∙ c.if-not-are_columns.false);
  factor_column = column_is P.rows (factor_entries P.factor) (sym c.is_factor.ensures ∙ h);
  right_long = sym P.right.ok.0 ∙ sym c.len-2.ensures ∙ c.if-len-self.false;
  right_small = numbers_small P.right.items
      (ap are_small (sym c.as_slice.ensures.value) ∙ sym c.are_small.ensures ∙ c.if-not-are_small.false);
}
