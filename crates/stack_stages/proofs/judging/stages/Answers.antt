use Rattle.std.proofs.Common.{sym, ap, subst, ◌∙◌, ◌+◌, ◌<◌, ◌≤◌, length, map, add-one, [], ◌∷◌}
use Rattle.std.proofs.lemmas.List.{map-append}
use Rattle.stack_certificate.specs.Certificate.{forces_view, motion_view}
use Rattle.stack_equilibrium.specs.declared.types.Question.TheVariants.{Dead}
use Rattle.stack_judge.specs.Judgement.{certified}
use Rattle.stack_judge.specs.Judged.{IsJudged}
use Rattle.stack_stages.specs.Stage.{surveyed_stage}
use Rattle.stack_stages.specs.Staged.{all_stand, falls}
use Rattle.stack_stages.specs.Gives.{outcome_view}
use Rattle.stack_stages.proofs.StagedSteps.{IsStagedTo, none_yet, goes_on, collapses_now, refused_now, all_done}
use Rattle.stack_stages.proofs.FirstRefused.{refuses_first}
use Rattle.stack_stages.proofs.Settled.{settled}
use Rattle.stack_stages.proofs.judging.stages.Goals as goal

pub loop-k-init : goal.loop-k-init
loop-k-init c = subst (IsStagedTo c.args.s.now c.args.order.now c.args.budget 0)
    (sym (ap (map forces_view) c.new-before.ensures.items)) (none_yet c.args.s.now c.args.order.now c.args.budget)

pub loop-k-preserved : goal.loop-k-preserved
loop-k-preserved c =
    let v = c.args.s.now in
    let order = c.args.order.now in
    let k = c.loop-k.k in
    let lt : k < length order = c.loop-k-test.true in
    let is = c.in-Ok-Stands.field-0-is in
    goes_on v order c.args.budget k (k + 1) (map forces_view c.loop-k.before.items)
    (map forces_view c.push.new.self.items) (forces_view c.in-Ok-Stands.forces) c.loop-k.invariant lt (add-one k)
    (c.in-Ok-Stands.ensures.gives ∙ ap (λ x. certified (outcome_view x)) is)
    (subst (λ x. IsJudged Dead (surveyed_stage v order (k + 1)) (outcome_view x)) is c.in-Ok-Stands.ensures.judged)
    (ap (map forces_view) c.in_ok-push-in-Ok-Stands.ensures.items
    ∙ map-append forces_view c.loop-k.before.items (c.in-Ok-Stands.forces ∷ []))

pub returns-in-Ok-Collapses : goal.returns-in-Ok-Collapses
returns-in-Ok-Collapses c =
    let v = c.args.s.now in
    let order = c.args.order.now in
    let k = c.loop-k.k in
    let lt : k < length order = c.loop-k-test.true in
    let is = c.in-Ok-Collapses.field-0-is in
    let fs = map forces_view c.loop-k.before.items in
    let m = motion_view c.in-Ok-Collapses.motion in
    let r = collapses_now v order c.args.budget k (k + 1) fs m c.loop-k.invariant lt (add-one k)
    (c.in-Ok-Collapses.ensures.gives ∙ ap (λ x. certified (outcome_view x)) is)
    (subst (λ x. IsJudged Dead (surveyed_stage v order (k + 1)) (outcome_view x)) is
    c.in-Ok-Collapses.ensures.judged) in
    record {
      gives = r.0;
      refused = tt;
      certified = r.1;
      settled = settled v c.within.ensures.sound c.within.ensures.survey order (falls fs m) r.1;
      printable = r.1.2.fits;
    }

pub returns-in-Err : goal.returns-in-Err
returns-in-Err c =
    let k = c.loop-k.k in
    let lt : k < length c.args.order.now = c.loop-k-test.true in
    let r = refused_now c.args.s.now c.args.order.now c.args.budget k (k + 1)
    (map forces_view c.loop-k.before.items) c.in-Err.error c.loop-k.invariant lt (add-one k)
    c.in-Err.ensures.gives in
    record {
      gives = r;
      refused = refuses_first c.args.s.now c.args.order.now c.args.budget c.in-Err.error r;
      certified = tt;
      settled = tt;
      printable = tt;
    }

pub returns : goal.returns
returns c =
    let fs = map forces_view c.loop-k.before.items in
    let le : length c.args.order.now ≤ c.loop-k.k = c.loop-k-test.false in
    let r = all_done c.args.s.now c.args.order.now c.args.budget c.loop-k.k fs c.loop-k.invariant le in
    record {
      gives = r.0;
      refused = tt;
      certified = r.1;
      settled = settled c.args.s.now c.within.ensures.sound c.within.ensures.survey c.args.order.now (all_stand fs) r.1;
      printable = tt;
    }
