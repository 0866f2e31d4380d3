-- What stands in a list of whole numbers: each number of the list times the common scale, and 0 past the end.
use Rattle.std.proofs.Common.{◌≡◌, ◌≢◌, sym, ap, ◌∙◌, ℕ, zero, suc, ◌<◌, ◌≤◌, List, [], ◌∷◌, length, get_or, arith, ℤ}
use Rattle.std.proofs.Common.{pos}
use Rattle.stack_rational.proofs.Common.{◌∣◌, dec_lt, ints, ◌≼◌, ◌≺◌, minus, Fraction, listed, of, ordered_fractions}
use Rattle.stack_rational.proofs.Common.{scale_of, length_listed, times_scale}
use Rattle.std.specs.List.{AllByRecursion}
use Rattle.stack_algebra.proofs.Listed.{listed_item, map_listed}
use Rattle.stack_rational.proofs.Multiples.{scale_positive, scale_is_least_multiple, times_scale-is}
use Rattle.stack_extract.specs.WholeLists.{whole_list, amount, NonePulls}
use Rattle.stack_extract.proofs.WholeNumbers.{IsWhole, whole_nonneg}

-- each denominator divides the scale
divides_each : (n : ℕ) (f : ℕ → Fraction) (m : ℕ) → AllByRecursion (λ x. x.den ∣ m) (listed n f) → (j : ℕ) →
    j < n → (f j).den ∣ m
divides_each zero f m h j l = absurd (omega arith)
divides_each (suc n) f m h zero l = h.0
divides_each (suc n) f m h (suc j) l = divides_each n (λ k. f (suc k)) m h.1 j (omega arith)

-- the scale is more than 0
pub scale_above : (xs : List Fraction) → pos 0 ≺ pos (scale_of xs)
scale_above xs = let l = scale_positive xs in omega (arith, ints, l)

-- the whole number at an index
pub scaled-is : (n : ℕ) (f : ℕ → Fraction) (j : ℕ) → j < n →
    IsWhole (pos (scale_of (listed n f))) (f j) (amount (whole_list (listed n f)) j)
scaled-is n f j l = times_scale-is m (f j)
    (divides_each n f m (scale_is_least_multiple (listed n f)).common j l)
    ∙ ap of (sym (ap (λ zs. get_or zs j (pos 0)) (map_listed (times_scale m) n f)
    ∙ listed_item n (λ k. times_scale m (f k)) j (pos 0) l))
  where
    m : ℕ
    m = scale_of (listed n f)

-- past the end of a list the amount is 0
past : (zs : List ℤ) (j : ℕ) → length zs ≤ j → pos 0 ≼ amount zs j
past [] j l = omega (arith, ints)
past (z ∷ zs) zero l = absurd (omega (arith, l))
past (z ∷ zs) (suc j) l = past zs j (omega (arith, l))

-- where no number is negative, no whole number is
pub none_pulls : (n : ℕ) (f : ℕ → Fraction) → ((j : ℕ) → j < n → ordered_fractions.sign (f j) ≢ minus) →
    NonePulls (whole_list (listed n f))
none_pulls n f h j = go (dec_lt j n)
  where
    count : length (whole_list (listed n f)) ≡ n
    count = ap length (map_listed (times_scale (scale_of (listed n f))) n f)
        ∙ length_listed n (λ k. times_scale (scale_of (listed n f)) (f k))

    go : Dec (j < n) → pos 0 ≼ amount (whole_list (listed n f)) j
    go (yes l) = whole_nonneg (pos (scale_of (listed n f))) (f j) _ (scale_above (listed n f))
        (scaled-is n f j l) (h j l)
    go (no l) = let e = count in past (whole_list (listed n f)) j (omega (arith, e, l))
