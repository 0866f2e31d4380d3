-- The parts of a bearing's force as they are made of the amounts of its two columns.
use Rattle.std.specs.Prelude.{◌+ℤ◌, ◌-ℤ◌, ◌*ℤ◌, Result, Ok}
use Rattle.stack_algebra.specs.Steps.{◌>>=◌}
use Rattle.stack_frame.specs.declared.cone.Cone.{Cone}
use Rattle.stack_whole.specs.Whole.{made}
use Rattle.stack_whole.specs.declared.whole.Wide.{Wide}
use Rattle.stack_whole.specs.declared.whole.Whole.{Whole as Number}
use Rattle.stack_equilibrium.specs.declared.block.Push.{Push}

-- the sum of both amounts, q times it, p times their difference
unfoldable pub written_part : Cone → Number → Number → Result Push Wide
written_part c w v = do
  sum ← made (w.value +ℤ v.value)
  a ← made (c.q *ℤ sum.value)
  b ← made (c.p *ℤ (w.value -ℤ v.value))
  Ok (record { a = a; b = b })
