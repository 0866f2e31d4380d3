use Rattle.std.proofs.Common.{sym, ◌∙◌, arith}
use Rattle.stack_model.specs.Keeping.{flag_at}
use Rattle.stack_model.proofs.PickedSoFar.{kept_on, kept_off}
use Rattle.stack_model.proofs.keeping.among.Goals.{then-flag, else-flag}
use Rattle.stack_model.proofs.keeping.among.Goals as goal

pub loop-j-preserved : goal.loop-j-preserved
loop-j-preserved c = let h = c.loop-j.invariant in let b = h.1 in elim c.if-flag.branch [
  | then-flag w ↦ (
    kept_on (flag_at c.args.keeps.now) c.loop-j.j c.loop-j.count _ (sym c.flag.ensures ∙ w.if-flag.true) h.0 w.count-is,
    omega (arith, b, w.count-is),
  )
  | else-flag w ↦ (
    kept_off (flag_at c.args.keeps.now) c.loop-j.j c.loop-j.count _ (sym c.flag.ensures ∙ w.if-flag.false) h.0
        w.count-is,
    omega (arith, b, w.count-is),
  )
]
