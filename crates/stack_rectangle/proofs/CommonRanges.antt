-- The numbers that two ranges have in common.
use Rattle.std.proofs.Common.{◌≡◌, ℤ, pos, ◌-ℤ◌, ◌*ℤ◌, Bool, true, false, cond, ◌⊎◌, inl, inr, refl, sym, ◌∙◌, arith}
use Rattle.std.proofs.Common.{int_lt}
use Rattle.std.proofs.lemmas.Int.{ints}
use Rattle.stack_algebra.specs.IntegerOrder.{◌≼◌, ◌≺◌}
use Rattle.stack_algebra.proofs.Integers.{sums, expand}
use Rattle.stack_algebra.proofs.Order.{mul_le_right, mul_pos}
use Rattle.stack_rectangle.specs.Rectangles.{Range, Empty, Single, Many, common_of, count_of}
use Rattle.stack_rectangle.proofs.LevelEdges.{Before}
use Rattle.stack_rectangle.proofs.BoxPoints.{IsBetween, IsEnd}

before_more : (strict : Bool) (a b c : ℤ) → a ≼ b → Before strict b c → Before strict a c
before_more true a b c h p = omega (arith, sums)
before_more false a b c h p = omega (arith, sums)

before_less : (strict : Bool) (a b c : ℤ) → Before strict a b → b ≼ c → Before strict a c
before_less true a b c p h = omega (arith, sums)
before_less false a b c p h = omega (arith, sums)

-- behind the greater of two lower ends, and before the lesser of two higher ones
max_in : (strict t : Bool) (x y z w : ℤ) → Before strict (x *ℤ w) z → Before strict (y *ℤ w) z
    → Before strict (cond t x y *ℤ w) z
max_in strict true x y z w p q = p
max_in strict false x y z w p q = q

max_out : (strict t : Bool) (x y z w : ℤ) → int_lt y x ≡ t → pos 0 ≼ w → Before strict (cond t x y *ℤ w) z
    → Before strict (x *ℤ w) z × Before strict (y *ℤ w) z
max_out strict true x y z w e h p =
    let le : y ≼ x = grind (arith, ints) in
    (p, before_more strict (y *ℤ w) (x *ℤ w) z (mul_le_right w y x h le) p)
max_out strict false x y z w e h p =
    let le : x ≼ y = grind (arith, ints) in
    (before_more strict (x *ℤ w) (y *ℤ w) z (mul_le_right w x y h le) p, p)

min_in : (strict t : Bool) (x y z w : ℤ) → Before strict z (x *ℤ w) → Before strict z (y *ℤ w)
    → Before strict z (cond t y x *ℤ w)
min_in strict true x y z w p q = q
min_in strict false x y z w p q = p

min_out : (strict t : Bool) (x y z w : ℤ) → int_lt y x ≡ t → pos 0 ≼ w → Before strict z (cond t y x *ℤ w)
    → Before strict z (x *ℤ w) × Before strict z (y *ℤ w)
min_out strict true x y z w e h p =
    let le : y ≼ x = grind (arith, ints) in
    (before_less strict z (y *ℤ w) (x *ℤ w) p (mul_le_right w y x h le), p)
min_out strict false x y z w e h p =
    let le : x ≼ y = grind (arith, ints) in
    (p, before_less strict z (x *ℤ w) (y *ℤ w) p (mul_le_right w x y h le))

-- a number of both ranges is one of the common range
pub to_common : (strict : Bool) (r s : Range) (z w : ℤ) → IsBetween strict r z w → IsBetween strict s z w
    → IsBetween strict (common_of r s) z w
to_common strict r s z w p q = (
  max_in strict (int_lt s.low r.low) r.low s.low z w p.0 q.0,
  min_in strict (int_lt s.high r.high) r.high s.high z w p.1 q.1,
)

pub of_common : (strict : Bool) (r s : Range) (z w : ℤ) → pos 0 ≺ w → IsBetween strict (common_of r s) z w
    → IsBetween strict r z w × IsBetween strict s z w
of_common strict r s z w h c =
    let l = max_out strict (int_lt s.low r.low) r.low s.low z w refl (omega (arith, sums)) c.0 in
    let u = min_out strict (int_lt s.high r.high) r.high s.high z w refl (omega (arith, sums)) c.1 in
    ((l.0, u.0), (l.1, u.1))

-- a range is empty, or has one number, or many
pub data Sized (r : Range) : Type 0 where
  empty : count_of r ≡ Empty → r.high ≺ r.low → Sized r
  single : count_of r ≡ Single → r.low ≡ r.high → Sized r
  many : count_of r ≡ Many → r.low ≺ r.high → Sized r

pub sized : (r : Range) → Sized r
sized r = go (int_lt r.high r.low) (int_lt r.low r.high) refl refl
  where
    go : (s t : Bool) → int_lt r.high r.low ≡ s → int_lt r.low r.high ≡ t → Sized r
    go true t e f = empty (rw e refl) (grind (arith, ints))
    go false true e f = many (rw (e, f) refl) (grind (arith, ints))
    go false false e f = single (rw (e, f) refl) (grind (arith, ints))

-- no number lies in an empty range
pub no_number : (r : Range) (z w : ℤ) → pos 0 ≺ w → r.high ≺ r.low → ¬ (IsBetween false r z w)
no_number r z w h e b = go r.low r.high (b.0) (b.1) e
  where
    go : (low high : ℤ) → low *ℤ w ≼ z → z ≼ high *ℤ w → high ≺ low → ⊥
    go low high p q e = let m = mul_pos (low -ℤ high) w (omega (arith, sums)) h in
        omega (arith, sums, simp expand at m, simp expand at p, simp expand at q)

-- an end of what two ranges have in common is one of theirs
pick : (t : Bool) (x y : ℤ) → (cond t x y ≡ x) ⊎ (cond t x y ≡ y)
pick true x y = inl refl
pick false x y = inr refl

low_of : (r s : Range) → ((common_of r s).low ≡ r.low) ⊎ ((common_of r s).low ≡ s.low)
low_of r s = pick (int_lt s.low r.low) r.low s.low

high_of : (r s : Range) → ((common_of r s).high ≡ s.high) ⊎ ((common_of r s).high ≡ r.high)
high_of r s = pick (int_lt s.high r.high) s.high r.high

-- two ranges with a length whose common range has none lie one beside the other
pub beside : (r s : Range) → r.low ≺ r.high → s.low ≺ s.high → (common_of r s).high ≼ (common_of r s).low
    → (r.high ≼ s.low) ⊎ (s.high ≼ r.low)
beside r s h k le = go (low_of r s) (high_of r s)
  where
    by : (l u c d : ℤ) → l ≡ c → u ≡ d → u ≼ l → d ≼ c
    by l u c d e f p = omega (arith, sums)

    never : (c d : ℤ) → c ≺ d → d ≼ c → ⊥
    never c d p q = omega (arith, sums)

    go : ((common_of r s).low ≡ r.low) ⊎ ((common_of r s).low ≡ s.low)
        → ((common_of r s).high ≡ s.high) ⊎ ((common_of r s).high ≡ r.high)
        → (r.high ≼ s.low) ⊎ (s.high ≼ r.low)
    go (inl e) (inl f) = inr (by _ _ _ _ e f le)
    go (inl e) (inr f) = absurd (never r.low r.high h (by _ _ _ _ e f le))
    go (inr e) (inl f) = absurd (never s.low s.high k (by _ _ _ _ e f le))
    go (inr e) (inr f) = inl (by _ _ _ _ e f le)

-- one common number is an end of both
pub ends : (r s : Range) → r.low ≺ r.high → s.low ≺ s.high → (common_of r s).low ≡ (common_of r s).high
    → IsEnd r (common_of r s).low × IsEnd s (common_of r s).low
ends r s h k e = go (low_of r s) (high_of r s)
  where
    never : (c d : ℤ) → c ≺ d → c ≡ d → ⊥
    never c d p q = omega (arith, sums)

    go : ((common_of r s).low ≡ r.low) ⊎ ((common_of r s).low ≡ s.low)
        → ((common_of r s).high ≡ s.high) ⊎ ((common_of r s).high ≡ r.high)
        → IsEnd r (common_of r s).low × IsEnd s (common_of r s).low
    go (inl p) (inl q) = (inl p, inr (e ∙ q))
    go (inl p) (inr q) = absurd (never r.low r.high h (sym p ∙ e ∙ q))
    go (inr p) (inl q) = absurd (never s.low s.high k (sym p ∙ e ∙ q))
    go (inr p) (inr q) = (inr (e ∙ q), inl p)
