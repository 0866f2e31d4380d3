use Rattle.std.proofs.Common.{sym, ap, ◌∙◌, ◌<◌, length, set, true, arith}
use Rattle.stack_rational.proofs.Common.{is_zero, fraction_fits, ℕ_discrete, dec_lt}
use Rattle.stack_table.specs.Block.{item_value}
use Rattle.stack_rational.proofs.Fitting.{is_zero-of, zero_fits}
use Rattle.stack_table.proofs.Blocks.{value_at-past, value_at-set_same, value_at-set_other, block_set}
use Rattle.stack_table.proofs.objective.clear_row.Goals as goal

pub loop-j-preserved : goal.loop-j-preserved
loop-j-preserved g c =
    let e = g.S.Exact.exact in
    let j = c.loop-j.j in
    let x = c.zero-zero.result in
    let lt : j < length c.loop-j.cells = omega (arith, c.loop-j-test.true, c.loop-j.auto.cells) in
    record {
      block = block_set e g.S.Exact.MAX c.loop-j.cells c.loop-j.marks j x true lt c.loop-j.invariant.block
          (sym (ap is_zero c.zero-zero.ensures ∙ is_zero-of)) (ap (fraction_fits g.S.Exact.MAX) c.zero-zero.ensures
          ∙ zero_fits g.S.Exact.MAX g.met.S.Exact.max_law);
      done = λ k l. elim (ℕ_discrete k j) [
        | yes d ↦ ap (item_value e (set c.loop-j.cells j x)) d ∙ value_at-set_same e c.loop-j.cells j x lt
            ∙ c.zero-zero.ensures
        | no d ↦ value_at-set_other e c.loop-j.cells j k x d ∙ c.loop-j.invariant.done k (omega (arith, l, d))
      ];
    }

pub returns-clause-ok : goal.returns-clause-ok
returns-clause-ok g c = λ k. elim (dec_lt k c.loop-j.j) [
  | yes l ↦ c.loop-j.invariant.done k l
  | no l ↦ value_at-past g.S.Exact.exact c.loop-j.cells k
      (omega (arith, l, c.loop-j.auto.cells, c.loop-j-test.false))
]
