use Rattle.std.proofs.Common.{subst, sym, ◌∙◌, w64}
use Rattle.std.proofs.lemmas.Int.{to_z-of_z}
use Rattle.stack_frame.specs.Cones.{IsReduced, coefficient, lowest}
use Rattle.stack_frame.proofs.LesserCones.{lowest-is}
use Rattle.stack_frame.proofs.cone.Cone.new.Goals as goal

pub returns-clause-value : goal.returns-clause-value
returns-clause-value c = c.reduced.ensures
    ∙ (λ i. lowest (coefficient (to_z-of_z w64 c.args.p c.ranges.p i) (to_z-of_z w64 c.args.q c.ranges.q i)))

pub returns-clause-reduced : goal.returns-clause-reduced
returns-clause-reduced c = subst (IsReduced (coefficient c.args.p c.args.q)) (sym (returns-clause-value c))
    (lowest-is (coefficient c.args.p c.args.q) c.requires)
