use Rattle.std.proofs.Common.{◌≡◌, rules, subst, ◌∙◌, IfSome, ◌*ℤ◌, ◌-ℤ◌, SFits, to_z, of_z, to_z-of_z, w64}
use Rattle.stack_rational.proofs.Common.{w128}
use lib.IntN.{*ℤ_comm}
use Rattle.stack_rows.proofs.ways.BroadStepWay.quotient.Goals as goal
use Rattle.stack_rows.proofs.ways.BroadStepWay.quotient.Goals.{After-exact}
use Rattle.stack_rows.proofs.ways.BroadStepWay.quotient.Goals.{in-Some+in_ok-left-in-Some, in-None+in_ok-left-in-None}
use Rattle.stack_rows.proofs.ways.BroadStepWay.quotient.Goals.{in-Some-words+in_ok-right-in-Some-words}
use Rattle.stack_rows.proofs.ways.BroadStepWay.quotient.Goals.{in-None-words+in_ok-right-in-None-words}

-- both terms
left : (c : After-exact) → to_z w128 c.match-self.left-bits ≡ c.args.number *ℤ c.args.self.now.factors.times
left c = elim c.match-self.branch [
  | in-Some+in_ok-left-in-Some w ↦
      let fits : SFits w128 w.in_ok-left-in-Some.left = search rules in
      let word : SFits w64 w.in-Some.w.times = search rules in
      let is = c.args.self.now.times w.in-Some.w w.in-Some.is in
      w.left-is ∙ to_z-of_z fits ∙ w.in_ok-left-in-Some.ensures
      ∙ (λ i. to_z-of_z c.ranges.number i *ℤ (to_z-of_z word ∙ is) i)
  | in-None+in_ok-left-in-None w ↦ search rules
]

right : (c : After-exact) → to_z w128 c.match-self-2.right-bits ≡ c.args.self.now.factors.less *ℤ c.args.other
right c = elim c.match-self-2.branch [
  | in-Some-words+in_ok-right-in-Some-words w ↦
      let fits : SFits w128 w.in_ok-right-in-Some-words.right = search rules in
      let word : SFits w64 w.in-Some-words.w.less = search rules in
      let is = c.args.self.now.less w.in-Some-words.w w.in-Some-words.is in
      w.right-is ∙ to_z-of_z fits ∙ w.in_ok-right-in-Some-words.ensures
      ∙ (λ i. to_z-of_z c.ranges.other i *ℤ (to_z-of_z word ∙ is) i) ∙ *ℤ_comm c.args.other c.args.self.now.factors.less
  | in-None-words+in_ok-right-in-None-words w ↦ search (rules, *ℤ_comm)
]

pub returns : goal.returns
returns c =
    let s = c.args.self.now in
    let n : SFits w128 c.in_ok-checked_sub.field-0 = search rules in
    let e : to_z w128 (of_z w128 c.in_ok-checked_sub.field-0) ≡ c.args.number *ℤ s.factors.times
    -ℤ s.factors.less *ℤ c.args.other =
    to_z-of_z n ∙ c.in_ok-checked_sub.ensures.1 ∙ (λ i. left c i -ℤ right c i) in
    subst (λ n. IfSome c.exact.result (λ r. r *ℤ s.divider.by ≡ n)) e c.exact.ensures
