use Rattle.std.proofs.Common.{ℕ, Vec, ap, ◌+◌, ◌∙◌, ◌++◌, add-one, length}
use Rattle.std.specs.declared.alloc.Global.{Global}
use Rattle.stack_stages.specs.StagesText.{collapses_line, stand_lines}
use Rattle.stack_stages.proofs.text.falls_text.Goals as goal

pub returns : goal.returns
returns c =
    let n = length c.args.before.now in
    let lines = ap (λ (v : Vec ℕ Global). v.items) c.into_bytes-bytes.ensures.value ∙ c.in_ok-write.ensures.bytes
    ∙ ap (λ t. t ++ collapses_line (n + 1)) c.in_ok-text.ensures
    ∙ ap (λ k. stand_lines n ++ collapses_line k) (add-one n) in
    c.in_ok-extend_from_slice.ensures.items
    ∙ (λ i. lines i ++ (c.as_slice.ensures.value ∙ (let t = c.in_ok-certificate.ensures in t.is)) i)
