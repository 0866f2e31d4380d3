use Rattle.std.proofs.Common.{Result, Ok, Err, ◌≡◌, ap, ◌∙◌, IfOk}
use Rattle.stack_model.specs.declared.raw.Parts.{Parts}
use Rattle.stack_model.specs.Structure.{Structure}
use Rattle.stack_model.specs.Sound.{IsSound}
use Rattle.stack_model.specs.Content.{content_of}
use Rattle.stack_model.specs.Raw.{raw_parts}
use Rattle.stack_model.specs.Relisted.{relisted}
use Rattle.stack_model.proofs.Taken.{taken}
use Rattle.stack_model.proofs.model.Model.parts.Goals as goal

again : {E : Type 0} (r : Result Parts E) (s : Structure) → IsSound s
    → IfOk r (λ p. raw_parts p ≡ relisted s) → IfOk r (λ p. content_of (raw_parts p) ≡ Ok s)
again (Ok p) s sound h = ap content_of h ∙ taken s sound
again (Err x) s sound h = tt

pub returns-clause-taken : goal.returns-clause-taken
returns-clause-taken c = again _ c.args.self.now c.sound.ensures c.listed_parts.ensures
