use Rattle.std.proofs.Common.{◌≡◌, refl, ap, ◌∙◌, ℕ, ◌+◌, length}
use Rattle.stack_rational.proofs.Common.{length_push}
use Rattle.stack_inverse.proofs.Grown.{grown}
use Rattle.stack_inverse.proofs.filling.first_basics.Goals as goal

pub loop-i-preserved : goal.loop-i-preserved
loop-i-preserved c =
    let i = c.loop-i.invariant in
    let new = c.in_ok-push.ensures.items in
    record {
      long = ap length new ∙ length_push c.loop-i.basic.items _ ∙ ap (λ n. n + 1) i.long;
      each = grown 0 (λ (k n : ℕ). n ≡ c.args.plain + k) c.loop-i.basic.items c.push.new.self.items _ c.loop-i.i new
          i.long i.each refl;
    }
