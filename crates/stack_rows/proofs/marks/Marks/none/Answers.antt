use Rattle.std.proofs.Common.{◌≡◌, ap, ◌∙◌, ℕ, ◌+◌, ◌/◌, get_or, length, arith}
use Rattle.std.proofs.lemmas.List.{get_or-replicate, length-replicate}
use Rattle.stack_rows.proofs.Bits.{all_clear}
use Rattle.stack_rows.proofs.marks.Marks.none.Goals as goal

pub returns-clause-nothing : goal.returns-clause-nothing
returns-clause-nothing c =
    let count = c.args.width / 64 + 1 in
    let is = c.in_ok-words.ensures.items_if_clones_equal (λ y h. h) in
    all_clear c.in_ok-words.words.items (λ k l. ap (λ ws. get_or ws k 0) is
    ∙ get_or-replicate count k 0 0 (omega (arith, l, ap length is, length-replicate {A = ℕ} count 0)))
