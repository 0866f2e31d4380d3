-- The sums of a harmonic stack's loop, at each brick.
use Rattle.std.proofs.Common.{◌≡◌, ℕ, zero, suc, ◌+◌, ◌-◌, ◌*◌, ◌/◌, ◌<◌, ◌≤◌, ℤ, pos, ◌+ℤ◌, ◌-ℤ◌, ◌*ℤ◌, ap}
use Rattle.std.proofs.Common.{sym, ◌∙◌, subst, arith, add-one, FitsSigned, to_z, of_z, w64}
use Rattle.std.proofs.lemmas.Int.{ints}
use Rattle.std.proofs.Math.Nat.{div-le_self}
use Rattle.stack_algebra.proofs.Order.{◌≼◌}
use Rattle.stack_overhang.specs.Stacks.{right_end_of}

abbrev stored : ℤ → ℤ
stored z = to_z w64 (of_z w64 z)

reach_bounds : (n i : ℕ) → (pos 0 ≼ right_end_of n i) × (right_end_of n i ≼ pos (2520 * i))
reach_bounds n zero = (omega (arith, ints), omega (arith, ints))
reach_bounds n (suc i) =
    let before = reach_bounds n i in
    let share = div-le_self 2520 (n - i) in
    (omega (arith, ints, before.0, share), omega (arith, ints, before.1, share))

-- what the next brick's numbers are, where right is the right end of the brick below
pub record IsNext (n k : ℕ) (right : ℤ) : Type 0 where
  pub fits : FitsSigned w64 (right +ℤ to_z w64 (2520 / (n - k)))
  pub left_fits : FitsSigned w64 (stored (right +ℤ to_z w64 (2520 / (n - k))) -ℤ pos 5040)
  pub reach : stored (right +ℤ to_z w64 (2520 / (n - k))) ≡ right_end_of n (k + 1)
  pub left : stored (stored (right +ℤ to_z w64 (2520 / (n - k))) -ℤ pos 5040) ≡ right_end_of n (k + 1) -ℤ pos 5040
  pub bottom : stored (pos 1000 *ℤ to_z w64 k) ≡ pos 1000 *ℤ pos (k + 1 - 1)

pub next : (n k : ℕ) (right : ℤ) → right ≡ right_end_of n k → k < n → n ≤ 10 → IsNext n k right
next n k right e lt few =
    let b = reach_bounds n k in
    let share = div-le_self 2520 (n - k) in
    let s = sums right (2520 / (n - k)) (subst (λ z. pos 0 ≼ z) (sym e) b.0)
    (subst (λ z. z ≼ pos (2520 * k)) (sym e) b.1) share in
    let more : right +ℤ pos (2520 / (n - k)) ≡ right_end_of n (k + 1) =
    ap (λ z. z +ℤ pos (2520 / (n - k))) e ∙ ap (right_end_of n) (sym (add-one k)) in
    record {
      fits = s.0;
      left_fits = s.1;
      reach = s.2 ∙ more;
      left = s.3 ∙ ap (λ z. z -ℤ pos 5040) more;
      bottom = omega (arith, ints);
    }
  where
    sums : (right : ℤ) (d : ℕ) → pos 0 ≼ right → right ≼ pos (2520 * k) → d ≤ 2520
        → (FitsSigned w64 (right +ℤ to_z w64 d)) × (FitsSigned w64 (stored (right +ℤ to_z w64 d) -ℤ pos 5040))
        × (stored (right +ℤ to_z w64 d) ≡ right +ℤ pos d)
        × (stored (stored (right +ℤ to_z w64 d) -ℤ pos 5040) ≡ right +ℤ pos d -ℤ pos 5040)
    sums right d low high small =
        (omega (arith, ints), omega (arith, ints), omega (arith, ints), omega (arith, ints))
