use Rattle.std.proofs.Common.{◌≡◌, refl, rules, sym, ◌∙◌, ◌+ℤ◌, ◌-ℤ◌, ◌*ℤ◌, Ok, Err}
use Rattle.std.proofs.lemmas.Result.{err_from_is_err_and}
use Rattle.stack_frame.specs.declared.cone.Cone.{Cone}
use Rattle.stack_whole.specs.Whole.{made}
use Rattle.stack_whole.specs.declared.whole.Wide.{Wide}
use Rattle.stack_whole.specs.declared.whole.Whole.{Whole as Number}
use Rattle.stack_extract.specs.WrittenPart.{written_part}
use Rattle.stack_extract.proofs.parts.part.Goals as goal

-- what stops the last product stops the part
stops : (c : Cone) (w v sum a : Number) (e : Wide) → made (w.value +ℤ v.value) ≡ Ok sum →
    made (c.q *ℤ sum.value) ≡ Ok a → made (c.p *ℤ (w.value -ℤ v.value)) ≡ Err e → Err e ≡ written_part c w v
unfolding written_part
stops c w v sum a e h k l = rw h (rw k (rw l refl))

pub returns-in_err-b : goal.returns-in_err-b
returns-in_err-b c =
    let r = err_from_is_err_and c.from_residual-in_err-b.result c.from_residual-in_err-b.ensures.1 in
    let a : made (c.args.cone.q *ℤ c.in_ok-sum.sum.value) ≡ Ok c.in_ok-a.a = search rules in
    let b : made (c.args.cone.p *ℤ (c.args.w.value -ℤ c.args.v.value)) ≡ Err c.in_err-b.field-0.0 = search rules in
    rw (r.1, r.2) (stops c.args.cone c.args.w c.args.v _ _ _ (sym c.sum.ensures ∙ c.in_ok-sum.was) a b)
