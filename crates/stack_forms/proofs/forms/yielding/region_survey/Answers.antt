use Rattle.std.proofs.Common.{◌≡◌, ◌⊎◌, Err, subst, ap, inl, refl, arith}
use Rattle.stack_yield.specs.Kept.{region_view}
use Rattle.stack_yield.specs.Regions.{Regions}
use Rattle.stack_work.proofs.Common.{faulty, outcomes, refusal_view, wide_toward}
use Rattle.stack_work.specs.Answers.{region_due}
use Rattle.stack_lines.specs.declared.refusal.Refusal.TheVariants.{Spent, Memory}
use Rattle.stack_work.specs.Yielding.{region_step}
use Rattle.stack_work.proofs.Ways.{wanting}
use Rattle.stack_work.proofs.OneStep.{ends_giving, ends_refusing}
use Rattle.stack_work.proofs.YieldEnds.{is_direction}
use Rattle.stack_forms.proofs.forms.yielding.region_survey.Goals as goal

pub direction_number-requires : goal.direction_number-requires
direction_number-requires c =
    let h = subst (λ e. Regions (Err e) c.args.survey.now c.args.loads.i c.args.loads.j c.args.budget
    c.args.directions.now) c.in-Err-TooWide.field-0-is c.in-Err-TooWide.ensures.regions in
    let low = is_direction c.args.survey.now c.args.loads.i c.args.loads.j c.args.budget c.args.directions.now
    c.in-Err-TooWide.direction c.in-Err-TooWide.place h in
    omega (arith, low, c.requires.few)

pub returns-in-Ok-write_region : goal.returns-in-Ok-write_region
returns-in-Ok-write_region c holds = (
  region_due c.args.survey.now c.args.loads.i c.args.loads.j c.args.directions.now (region_view c.in-Ok.found),
  record {
    are_loads = c.requires.loads;
    tells = c.in-Ok.ensures.tells;
    judged = c.in-Ok.ensures.judged;
    is_verdict = c.region_verdict-verdict.ensures;
    is_text = c.in-Ok-write_region.ensures;
  },
  ends_giving holds (ap (region_step c.args.budget c.args.survey.now c.args.loads.i c.args.loads.j
      c.args.directions.now) c.in-Ok.ensures.regions),
)

pub returns-in-Err-TooWide : goal.returns-in-Err-TooWide
returns-in-Err-TooWide c holds =
    let h = subst (λ e. Regions (Err e) c.args.survey.now c.args.loads.i c.args.loads.j c.args.budget
    c.args.directions.now) c.in-Err-TooWide.field-0-is c.in-Err-TooWide.ensures.regions in
    ends_refusing holds c.wide_direction.result (ap (region_step c.args.budget c.args.survey.now c.args.loads.i
    c.args.loads.j c.args.directions.now) h)
    (subst (λ n. (refusal_view c.wide_direction.result ≡ faulty (wide_toward n c.args.survey.now.structure
    c.in-Err-TooWide.place)) ⊎ (c.wide_direction.result ≡ Memory)) c.direction_number.ensures
    c.wide_direction.ensures)

pub returns-in-Err-Spent : goal.returns-in-Err-Spent
returns-in-Err-Spent c holds =
    let h = subst (λ e. Regions (Err e) c.args.survey.now c.args.loads.i c.args.loads.j c.args.budget
    c.args.directions.now) c.in-Err-Spent.field-0-is c.in-Err-Spent.ensures.regions in
    ends_refusing holds (Spent c.args.budget) (ap (region_step c.args.budget c.args.survey.now c.args.loads.i
    c.args.loads.j c.args.directions.now) h) (inl refl)

pub returns-in-Err : goal.returns-in-Err
returns-in-Err c holds = wanting holds (region_step c.args.budget c.args.survey.now c.args.loads.i
    c.args.loads.j c.args.directions.now
    (outcomes c.args.survey.now c.args.loads.i c.args.loads.j c.args.budget c.args.directions.now))
