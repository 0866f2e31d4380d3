use Rattle.std.proofs.Common.{◌≡◌, ℕ, Vec, ap, sym, ◌∙◌, ◌++◌, arith, codes, length, map}
use Rattle.std.proofs.lemmas.List.{length-map}
use Rattle.std.specs.declared.alloc.Global.{Global}
use Rattle.stack_certificate.specs.Certificate.{forces_view}
use Rattle.stack_stages.specs.Gives.{stages_view}
use Rattle.stack_stages.specs.StagesText.{stand_lines, stages_text}
use Rattle.stack_stages.proofs.text.write_stages.Goals as goal

pub returns-in_ok-push_str-in-AllStand : goal.returns-in_ok-push_str-in-AllStand
returns-in_ok-push_str-in-AllStand c =
    let forces = c.in-AllStand.forces in
    let count : c.len.result ≡ length (map forces_view forces.items) =
    omega (arith, c.len.ensures, forces.ok.0, length-map forces.items forces_view) in
    ap (λ (v : Vec ℕ Global). v.items) c.into_bytes.ensures.value ∙ c.in_ok-push_str-in-AllStand.ensures.bytes
    ∙ ap (λ t. t ++ codes "all stand\n") (c.in_ok-text-in-AllStand.ensures ∙ ap stand_lines count)
    ∙ ap (λ s. stages_text (stages_view s)) (sym c.in-AllStand.is)
