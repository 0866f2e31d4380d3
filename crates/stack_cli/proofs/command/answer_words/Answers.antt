use Rattle.std.proofs.Common.{Err, subst}
use Rattle.stack_outside.specs.Seen.{seen_shelf}
use Rattle.stack_lines.specs.declared.refusal.Refusal.TheVariants.{Words}
use Rattle.stack_work.specs.Forms.{form_view}
use Rattle.stack_work.specs.Progress.{Works}
use Rattle.stack_said.proofs.Returned.{form_works, none_works}
use Rattle.stack_cli.proofs.command.answer_words.Goals as goal

pub returns-in-Some : goal.returns-in-Some
returns-in-Some g c =
    subst (λ f. Works f (seen_shelf g.F.Shelf c.args.shelf.now c.answer_form.new.shelf) c.answer_form.result)
    c.in-Some.ensures.is (form_works (form_view c.in-Some.form) _ _ c.answer_form.ensures)

pub returns-in-None : goal.returns-in-None
returns-in-None g c =
    subst (λ f. Works f (seen_shelf g.F.Shelf c.args.shelf.now c.args.shelf.now) (Err Words)) c.in-None.ensures.is
    (none_works g.F.Shelf c.args.shelf.now)
