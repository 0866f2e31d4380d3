use Rattle.std.proofs.Common.{sym, ap, subst, ◌∙◌, ◌<◌, length, get_or, arith}
use lib.IntN.{pos}
use Rattle.stack_pairs.specs.Directed.{ArePair, directed_survey}
use Rattle.stack_directions.specs.declared.directing.Towards.{Towards}
use Rattle.stack_yield.proofs.Gathered.{one_more, outcome_told, holds_told, reached, reach_holds, fall_holds, fallen}
use Rattle.stack_yield.proofs.Gathered.{stopped, all_told, all_gathered}
use Rattle.stack_yield.proofs.gathering.gathered.Goals as goal

pub judge_direction-requires-clause-pair : goal.judge_direction-requires-clause-pair
judge_direction-requires-clause-pair c = subst (λ (t : Towards). ArePair c.args.s.now.structure t.i t.j)
    (sym c.towards-t.ensures) c.requires.pair

pub judge_direction-requires-clause-first : goal.judge_direction-requires-clause-first
judge_direction-requires-clause-first c = c.requires.first
    ∙ ap (λ (t : Towards). directed_survey c.args.s.now t.i t.j (pos 1) (pos 0)) (sym c.towards-t.ensures)

pub judge_direction-requires-clause-second : goal.judge_direction-requires-clause-second
judge_direction-requires-clause-second c = c.requires.second
    ∙ ap (λ (t : Towards). directed_survey c.args.s.now t.i t.j (pos 0) (pos 1)) (sym c.towards-t.ensures)

pub returns-in-Ok-Falls-clause-regions : goal.returns-in-Ok-Falls-clause-regions
returns-in-Ok-Falls-clause-regions c =
    let lt : c.loop-k.k < length c.args.dirs.now = omega (arith, c.loop-k-test.true, c.loop-k.auto.k-end) in
    fallen c.args.s.now c.args.pair.i c.args.pair.j c.args.budget c.args.dirs.now _ c.loop-k.k _
    c.judge_direction.result c.in-Ok-Falls.field-0 c.in-Ok-Falls.motion lt c.loop-k.invariant
    (outcome_told c.args.s.now c.args.pair.i c.args.pair.j c.args.budget _ c.towards-t.result c.judge_direction.result
    c.towards-t.ensures c.judge_direction.ensures.outcome) c.in-Ok-Falls.is c.in-Ok-Falls.field-0-is

pub returns-in-Ok-Falls-clause-judged : goal.returns-in-Ok-Falls-clause-judged
returns-in-Ok-Falls-clause-judged c = fall_holds c.args.s.now c.args.pair.i c.args.pair.j c.args.budget
    c.judge_direction.result c.in-Ok-Falls.field-0 c.in-Ok-Falls.motion
    (holds_told c.args.s.now c.args.pair.i c.args.pair.j c.args.budget (get_or c.args.dirs.now c.loop-k.k _)
    c.towards-t.result c.judge_direction.result c.towards-t.ensures c.judge_direction.ensures.holds) c.in-Ok-Falls.is
    c.in-Ok-Falls.field-0-is

pub returns-in-Ok-Falls-clause-tells : goal.returns-in-Ok-Falls-clause-tells
returns-in-Ok-Falls-clause-tells c = let f = returns-in-Ok-Falls-clause-judged c in f.holds

pub returns-in-Err-clause-regions : goal.returns-in-Err-clause-regions
returns-in-Err-clause-regions c =
    let lt : c.loop-k.k < length c.args.dirs.now = omega (arith, c.loop-k-test.true, c.loop-k.auto.k-end) in
    stopped c.args.s.now c.args.pair.i c.args.pair.j c.args.budget c.args.dirs.now _ c.loop-k.k _
    c.judge_direction.result c.in-Err.stop c.refused.result lt c.loop-k.invariant
    (outcome_told c.args.s.now c.args.pair.i c.args.pair.j c.args.budget _ c.towards-t.result c.judge_direction.result
    c.towards-t.ensures c.judge_direction.ensures.outcome) c.in-Err.is c.refused.ensures

pub loop-k-preserved : goal.loop-k-preserved
loop-k-preserved c =
    let lt : c.loop-k.k < length c.args.dirs.now = omega (arith, c.loop-k-test.true, c.loop-k.auto.k-end) in
    let told = outcome_told c.args.s.now c.args.pair.i c.args.pair.j c.args.budget _ c.towards-t.result
    c.judge_direction.result c.towards-t.ensures c.judge_direction.ensures.outcome in
    one_more c.args.s.now c.args.pair.i c.args.pair.j c.args.budget c.args.dirs.now c.loop-k.reaches.items
    c.push.new.self.items c.loop-k.k _ c.in-Ok-Reaches.reach lt c.loop-k.invariant
    (reached c.args.s.now c.args.pair.i c.args.pair.j c.args.budget _ c.judge_direction.result c.in-Ok-Reaches.field-0
    c.in-Ok-Reaches.reach told c.in-Ok-Reaches.is c.in-Ok-Reaches.field-0-is)
    (reach_holds c.args.s.now c.args.pair.i c.args.pair.j c.args.budget c.judge_direction.result c.in-Ok-Reaches.field-0
    c.in-Ok-Reaches.reach
    (holds_told c.args.s.now c.args.pair.i c.args.pair.j c.args.budget _ c.towards-t.result c.judge_direction.result
    c.towards-t.ensures c.judge_direction.ensures.holds) c.in-Ok-Reaches.is c.in-Ok-Reaches.field-0-is)
    c.in_ok-push-in-Ok-Reaches.ensures.items

pub returns-clause-regions : goal.returns-clause-regions
returns-clause-regions c = all_gathered c.args.s.now c.args.pair.i c.args.pair.j c.args.budget c.args.dirs.now _
    c.loop-k.k (omega (arith, c.loop-k-test.false, c.loop-k.auto.k-end)) c.loop-k.invariant

pub returns-clause-tells : goal.returns-clause-tells
returns-clause-tells c = all_told c.args.s.now c.args.pair.i c.args.pair.j c.args.budget c.reach_laws.ensures.regions
    c.proper.ensures c.requires.pair c.args.dirs.now _ c.loop-k.k c.requires.some
    (omega (arith, c.loop-k-test.false, c.loop-k.auto.k-end)) c.loop-k.invariant

pub returns-clause-judged : goal.returns-clause-judged
returns-clause-judged c = let h = c.loop-k.invariant in h.judged
