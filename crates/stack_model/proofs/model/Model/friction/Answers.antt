use Rattle.std.proofs.Common.{ap, ◌∙◌, subst, sym}
use Rattle.stack_model.specs.Structure.{Structure, joint_terms, AreTermsBetween}
use Rattle.stack_model.proofs.Joined.{terms_between, terms_limits}
use Rattle.stack_model.proofs.model.Model.friction.Goals as goal

pub returns-clause-value : goal.returns-clause-value
returns-clause-value c = c.terms_between.ensures
    ∙ ap (λ js. joint_terms js c.args.s c.args.t) c.as_slice.ensures.value
    ∙ ap (λ (m : Structure). joint_terms m.joints c.args.s c.args.t) c.self.view_is

pub returns-clause-meaning : goal.returns-clause-meaning
returns-clause-meaning c = subst (AreTermsBetween c.args.self.now.joints c.args.s c.args.t)
    (sym (returns-clause-value c)) (terms_between c.args.self.now.joints c.args.s c.args.t)

pub returns-clause-limits : goal.returns-clause-limits
returns-clause-limits c = terms_limits c.self.inside.joints.items c.args.s c.args.t _ c.self.invariant.joints
    c.terms_between.result
    (subst (AreTermsBetween c.self.inside.joints.items c.args.s c.args.t)
    (sym (c.terms_between.ensures ∙ ap (λ js. joint_terms js c.args.s c.args.t) c.as_slice.ensures.value))
    (terms_between c.self.inside.joints.items c.args.s c.args.t))
