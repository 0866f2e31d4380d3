use Rattle.std.proofs.Common.{rules, ◌≡◌, ◌+◌, ◌-◌, ◌<◌, ◌^◌, ℕ, pos, ◌-ℤ◌, get_or, arith, to_z, of_z, w64, neg_ℤ}
use Rattle.std.proofs.lemmas.Int.{ints}
use Rattle.stack_overhang.specs.Stacks.{centred}
use Rattle.stack_overhang.proofs.Growing.{one_more}
use Rattle.stack_overhang.proofs.layers.rows.Goals as goal

opposite : (n : ℕ) → n < 2 ^ 32 → to_z w64 (of_z w64 (pos 0 -ℤ to_z w64 n)) ≡ neg_ℤ (pos n)
opposite n h = omega (arith, ints)

number : (k : ℕ) → k < 2 ^ 63 → to_z w64 k ≡ pos (k + 1 - 1)
number k h = omega (arith, ints)

pub loop-k-preserved : goal.loop-k-preserved
loop-k-preserved c =
    let small : c.loop-k.k < 2 ^ 63 = search rules in
    one_more (λ k. centred (k + 1) (get_or c.args.counts.now k 0)) c.loop-k.rows.items _ c.loop-k.k _
    c.in_ok-push.ensures.items (λ i. record {
      left = opposite (get_or c.args.counts.now c.loop-k.k 0) (c.type_inv.counts c.loop-k.k).fits i;
      bottom = number c.loop-k.k small i;
      count = get_or c.args.counts.now c.loop-k.k 0;
      long = pos 2;
      high = pos 1;
    }) c.loop-k.invariant
