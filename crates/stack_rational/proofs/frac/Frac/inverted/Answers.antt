use Rattle.std.proofs.Common.{◌∙◌}
use Rattle.stack_rational.proofs.Crosswise.{stored-fits}
use Rattle.stack_rational.proofs.Inverses.{inverse-stored, inverse-is, parts-below, parts-above}
use Rattle.stack_rational.proofs.frac.Frac.inverted.Goals as goal

pub made-requires : goal.made-requires
made-requires g c =
    let p = parts-below _ _ _ _ _ c.args.self _ c.self.invariant.stored c.self.view_is c.is_minus.ensures
    c.if-is_minus.true c.opposite.ensures.value c.opposite-then-is_minus.ensures.value in
    inverse-stored _ _ _ c.args.self (stored-fits _ _ _ _ c.self.invariant.stored c.self.view_is)
    c.requires p.0 p.1

pub made-requires-else-is_minus : goal.made-requires-else-is_minus
made-requires-else-is_minus g c =
    let p = parts-above _ _ _ c.args.self _ c.self.invariant.stored c.self.view_is c.is_minus.ensures
    c.if-is_minus.false in
    inverse-stored _ _ _ c.args.self (stored-fits _ _ _ _ c.self.invariant.stored c.self.view_is)
    c.requires p.0 p.1

pub returns-then-is_minus : goal.returns-then-is_minus
returns-then-is_minus g c =
    let p = parts-below _ _ _ _ _ c.args.self _ c.self.invariant.stored c.self.view_is c.is_minus.ensures
    c.if-is_minus.true c.opposite.ensures.value c.opposite-then-is_minus.ensures.value in
    c.made.ensures ∙ inverse-is _ _ c.args.self c.requires p.0 p.1

pub returns-else-is_minus : goal.returns-else-is_minus
returns-else-is_minus g c =
    let p = parts-above _ _ _ c.args.self _ c.self.invariant.stored c.self.view_is c.is_minus.ensures
    c.if-is_minus.false in
    c.made-else-is_minus.ensures ∙ inverse-is _ _ c.args.self c.requires p.0 p.1
