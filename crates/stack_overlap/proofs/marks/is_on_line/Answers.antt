use Rattle.std.proofs.Common.{◌≡◌, ◌↔◌, IsTrue, rules, SFits, w64, to_z-of_z, pos, subst, ◌∙◌}
use Rattle.stack_overlap.proofs.marks.is_on_line.Goals as goal

pub returns : goal.returns
returns c =
    let fits : SFits w64 c.turn.result = search rules in
    subst (λ z. IsTrue c.is_same.result ↔ (z ≡ pos 0)) (to_z-of_z fits ∙ c.turn.ensures) c.is_same.ensures
