-- The steps of a pivot at one cell: what they write, and where they are too wide.
use Rattle.std.proofs.Common.{◌≡◌, ◌≢◌, refl, sym, ap, ◌∙◌, ℕ, Bool, true, false, Some, None, ℤ, pos}
use Rattle.stack_rational.proofs.Common.{Fraction, of, mul, inv, ordered_fractions, or_else, only_if, first_all-none}
use Rattle.stack_rational.proofs.Common.{IsWidth, fraction_fits, is_too_wide, is_zero}
use Rattle.stack_algebra.proofs.Fractions.{mul_comm, zero_mul}
use Rattle.stack_rational.specs.declared.exact.Op.TheVariants.{Difference, Product, Quotient}
use Rattle.stack_rational.specs.TooWide.{op_value}
use Rattle.stack_table.specs.declared.types.Step.TheVariants.{Divide, Multiply, Subtract}
use Rattle.stack_table.specs.Spots.{divided, reduced, divide_item, reduce_item, divide_spot, reduce_spot}
use Rattle.stack_rational.proofs.Fitting.{zero_is, quotient_of_zero, quotient_not-zero, product_of_zero}
use Rattle.stack_rational.proofs.Fitting.{difference_of_zero}

-- a quotient is 0 exactly if what is divided is
pub quotient_zero : (m : ℤ) → IsWidth m → (x d : Fraction) → d.num ≢ pos 0 → is_zero (mul (inv d) x) ≡ is_zero x
quotient_zero m w x d h = go (is_zero x) refl
  where
    go : (b : Bool) → is_zero x ≡ b → is_zero (mul (inv d) x) ≡ b
    go true e = ap is_zero (quotient_of_zero m w x d e).0 ∙ e
    go false e = quotient_not-zero x d e h

module _ (m : ℤ) (f : ℕ → Fraction) (d : Fraction) (row j : ℕ) where
  pub divide_skips : IsWidth m → is_zero (f j) ≡ true →
      (divided ordered_fractions f d j ≡ f j) × (divide_item ordered_fractions (is_too_wide m) f d row j ≡ None)
  divide_skips w h = let e = quotient_of_zero m w (f j) d h in
      (e.0, ap (λ b. only_if b (record { row = row; column = j; step = Divide })) e.1)

  pub divide_too_wide : is_too_wide m Quotient (f j) d ≡ true →
      divide_item ordered_fractions (is_too_wide m) f d row j ≡ Some
      (record { row = row; column = j; step = Divide })
  divide_too_wide h = ap (λ b. only_if b (record { row = row; column = j; step = Divide })) h

  pub divide_goes : is_too_wide m Quotient (f j) d ≡ false →
      divide_item ordered_fractions (is_too_wide m) f d row j ≡ None
  divide_goes h = ap (λ b. only_if b (record { row = row; column = j; step = Divide })) h

module _ (m : ℤ) (f g : ℕ → Fraction) (k : Fraction) (row j : ℕ) where
  -- where the product is 0
  kept : IsWidth m → fraction_fits m (f j) ≡ true → mul k (g j) ≡ of (pos 0) →
      (reduced ordered_fractions f g k j ≡ f j) ×
      (reduce_item ordered_fractions (is_too_wide m) f g k row j ≡ None)
  kept w h e = let q = difference_of_zero m w (f j) (mul k (g j)) h e in (
    q.0,
    (λ i. or_else (only_if (product_of_zero m w k (g j) e i)
        (record { row = row; column = j; step = Multiply }))
        (only_if (q.1 i) (record { row = row; column = j; step = Subtract }))),
  )

  pub column_skips : IsWidth m → fraction_fits m (f j) ≡ true → is_zero (g j) ≡ true →
      (reduced ordered_fractions f g k j ≡ f j) ×
      (reduce_item ordered_fractions (is_too_wide m) f g k row j ≡ None)
  column_skips w h e = kept w h (ap (mul k) (zero_is (g j) e) ∙ mul_comm k (of (pos 0)) ∙ zero_mul k)

  pub row_skips : IsWidth m → fraction_fits m (f j) ≡ true → is_zero k ≡ true →
      (reduced ordered_fractions f g k j ≡ f j) ×
      (reduce_item ordered_fractions (is_too_wide m) f g k row j ≡ None)
  row_skips w h e = kept w h (ap (λ z. mul z (g j)) (zero_is k e) ∙ zero_mul (g j))

  -- the product is too wide, the difference is too wide, or neither
  module _ (x y p : Fraction) (fj : f j ≡ x) (gj : g j ≡ y) where
    pub product_too_wide : is_too_wide m Product k y ≡ true →
        reduce_item ordered_fractions (is_too_wide m) f g k row j ≡ Some
        (record { row = row; column = j; step = Multiply })
    product_too_wide h = ap (λ b. or_else (only_if b (record { row = row; column = j; step = Multiply }))
        (only_if (is_too_wide m Difference (f j) (mul k (g j)))
        (record { row = row; column = j; step = Subtract })))
        (ap (is_too_wide m Product k) gj ∙ h)

    only_difference : is_too_wide m Product k y ≡ false → p ≡ mul k y → (b : Bool) → is_too_wide m Difference x p ≡ b →
        reduce_item ordered_fractions (is_too_wide m) f g k row j ≡ only_if b
        (record { row = row; column = j; step = Subtract })
    only_difference h e b d = ap (λ c. or_else (only_if c (record { row = row; column = j; step = Multiply }))
        (only_if (is_too_wide m Difference (f j) (mul k (g j)))
        (record { row = row; column = j; step = Subtract })))
        (ap (is_too_wide m Product k) gj ∙ h)
        ∙ ap (λ c. only_if c (record { row = row; column = j; step = Subtract }))
        ((λ i. is_too_wide m Difference (fj i) ((ap (mul k) gj ∙ sym e) i)) ∙ d)

    pub difference_too_wide : is_too_wide m Product k y ≡ false → p ≡ mul k y → is_too_wide m Difference x p ≡ true →
        reduce_item ordered_fractions (is_too_wide m) f g k row j ≡ Some
        (record { row = row; column = j; step = Subtract })
    difference_too_wide h e d = only_difference h e true d

    pub neither_too_wide : is_too_wide m Product k y ≡ false → p ≡ mul k y → is_too_wide m Difference x p ≡ false →
        reduce_item ordered_fractions (is_too_wide m) f g k row j ≡ None
    neither_too_wide h e d = only_difference h e false d

    pub reduced_here : (z : Fraction) → p ≡ mul k y → z ≡ op_value Difference x p →
        z ≡ reduced ordered_fractions f g k j
    reduced_here z e d = d ∙ (λ i. op_value Difference (sym fj i) ((e ∙ ap (mul k) (sym gj)) i))

-- the same places for equal counts, rows and numbers
pub divide_same : (m : ℤ) (row n n' : ℕ) (f f' : ℕ → Fraction) (d d' : Fraction) → n ≡ n' →
    ((j : ℕ) → f j ≡ f' j) → d ≡ d' →
    divide_spot ordered_fractions (is_too_wide m) n f d row ≡ divide_spot ordered_fractions (is_too_wide m) n' f' d' row
divide_same m row n n' f f' d d' en ef ed = λ z. divide_spot ordered_fractions (is_too_wide m) (en z) (λ j. ef j z)
    (ed z) row

pub reduce_same : (m : ℤ) (row n n' : ℕ) (f f' h h' : ℕ → Fraction) (d d' : Fraction) → n ≡ n' →
    ((j : ℕ) → f j ≡ f' j) →
    ((j : ℕ) → h j ≡ h' j) → d ≡ d' →
    reduce_spot ordered_fractions (is_too_wide m) n f h d row ≡ reduce_spot ordered_fractions
    (is_too_wide m) n' f' h' d' row
reduce_same m row n n' f f' h h' d d' en ef eh ed =
    λ z. reduce_spot ordered_fractions (is_too_wide m) (en z) (λ j. ef j z) (λ j. eh j z) (ed z) row

pub reduced_same : (f f' h h' : ℕ → Fraction) (d d' : Fraction) (j : ℕ) → f j ≡ f' j → h j ≡ h' j → d ≡ d' →
    reduced ordered_fractions f h d j ≡ reduced ordered_fractions f' h' d' j
reduced_same f f' h h' d d' j ef eh ed = λ z. op_value Difference (ef z) (mul (ed z) (eh z))

pub divided_same : (f f' : ℕ → Fraction) (d d' : Fraction) (j : ℕ) → f j ≡ f' j → d ≡ d' →
    divided ordered_fractions f d j ≡ divided ordered_fractions f' d' j
divided_same f f' d d' j ef ed = λ z. op_value Quotient (ef z) (ed z)

-- a row whose cell in the pivot's column is 0
pub row_none : (m : ℤ) (n : ℕ) (f g : ℕ → Fraction) (k : Fraction) (row : ℕ) → IsWidth m →
    ((j : ℕ) → fraction_fits m (f j) ≡ true) →
    is_zero k ≡ true → reduce_spot ordered_fractions (is_too_wide m) n f g k row ≡ None
row_none m n f g k row w h z = first_all-none n (reduce_item ordered_fractions (is_too_wide m) f g k row)
    (λ j l. (row_skips m f g k row j w (h j) z).1)
