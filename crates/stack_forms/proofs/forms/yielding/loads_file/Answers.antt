use Rattle.std.proofs.Common.{◌≡◌, ◌∙◌, ap, sym, inl, ℕ, Result}
use Rattle.stack_model.specs.Structure.{Structure}
use Rattle.stack_directions.specs.declared.naming.LoadPair.{LoadPair}
use Rattle.stack_work.proofs.Common.{AnswersDue, pair_of, paired_file, seen_shelf}
use Rattle.stack_work.proofs.OneStep.{done, ends_refusing}
use Rattle.stack_work.proofs.Steps.{alone}
use Rattle.stack_work.proofs.YieldEnds.{loads_are}
use Rattle.stack_forms.proofs.forms.yielding.loads_file.Goals as goal

-- the numbers name in the survey what they name in its model
named : {s t : Structure} (i j : ℕ) {p : Result LoadPair ℕ} → s ≡ t → pair_of s i j ≡ p → pair_of t i j ≡ p
named i j same is = ap (λ u. pair_of u i j) (sym same) ∙ is

pub returns-in-Ok : goal.returns-in-Ok
returns-in-Ok g c = done AnswersDue (loads_are c.args.survey.now c.args.first c.args.second
    c.args.directions.now c.args.budget _
    (named c.args.first c.args.second c.model.ensures c.in-Ok.ensures.gives)) c.directions_file.result
    (seen_shelf g.F.Shelf c.args.shelf.now c.directions_file.new.shelf) c.directions_file.ensures

pub returns-in-Err : goal.returns-in-Err
returns-in-Err g c = alone g.F.Shelf AnswersDue
    (paired_file c.args.first c.args.second c.args.directions.now c.args.budget c.args.survey.now)
    c.args.shelf.now _
    (λ holds. ends_refusing holds c.from.result (loads_are c.args.survey.now c.args.first c.args.second
    c.args.directions.now c.args.budget _
    (named c.args.first c.args.second c.model.ensures c.in-Err.ensures.gives)) (inl c.from.ensures))
