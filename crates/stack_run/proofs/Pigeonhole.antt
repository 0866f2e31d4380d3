-- More numbers than places: two have the same place. After std_collections, whose lemma a crate cannot name.
use Rattle.std.proofs.Common.{◌≡◌, refl, sym, ◌∙◌, ℕ, zero, suc, ◌<◌, ◌≤◌, ◌⊎◌, inl, inr, Bool, true, false, cond, eqb}
use Rattle.std.proofs.Common.{arith, eqb-true}
use Rattle.stack_rational.proofs.Common.{eqb-false}

-- f, but f last in place of m
abbrev avoiding : (ℕ → ℕ) → ℕ → ℕ → ℕ → ℕ
avoiding f m last i = cond (eqb (f i) m) (f last) (f i)

abbrev Avoids : ℕ → ℕ → ℕ → ℕ → Type 0
Avoids x m y r = ((x ≡ m) × (r ≡ y)) ⊎ ((x ≡ m → ⊥) × (r ≡ x))

-- a number that is moved where it is m, and stays where it isn't, avoids m
Avoids-by : (x m y : ℕ) (t : Bool) → eqb x m ≡ t → Avoids x m y (cond t y x)
Avoids-by x m y true e = inl (eqb-true x m e, refl)
Avoids-by x m y false e = inr (eqb-false x m e, refl)

avoids : (x m y : ℕ) → Avoids x m y (cond (eqb x m) y x)
avoids x m y = Avoids-by x m y (eqb x m) refl

-- f goes from the numbers below n to those below m, each to another
abbrev pub Into : (ℕ → ℕ) → ℕ → ℕ → Type 0
Into f n m = (i : ℕ) → i < n → f i < m

abbrev pub OneToOne : (ℕ → ℕ) → ℕ → Type 0
OneToOne f n = (i j : ℕ) → i < n → j < n → f i ≡ f j → i ≡ j

-- one number and one place fewer
Into-less : (f : ℕ → ℕ) (n m : ℕ) → Into f (suc n) (suc m) → OneToOne f (suc n) → Into (avoiding f m n) n m
Into-less f n m into one i p =
    let a = into i (omega arith) in
    let b = into n (omega arith) in
    let ne : f i ≡ f n → ⊥ = λ e. let z = one i n (omega arith) (omega arith) e in omega arith in
    elim (avoids (f i) m (f n)) [ inl w ↦ omega (arith, w.0, w.1) | inr w ↦ omega (arith, w.0, w.1) ]

one_less : (f : ℕ → ℕ) (n m : ℕ) → OneToOne f (suc n) → OneToOne (avoiding f m n) n
one_less f n m one i j p q e =
    elim (avoids (f i) m (f n)) [
      | inl v ↦ elim (avoids (f j) m (f n)) [
        | inl w ↦ one i j (omega arith) (omega arith) (v.0 ∙ sym w.0)
        | inr w ↦ let z = one n j (omega arith) (omega arith) (sym v.1 ∙ e ∙ w.1) in absurd (omega arith)
      ]
      | inr v ↦ elim (avoids (f j) m (f n)) [
        | inl w ↦ let z = one i n (omega arith) (omega arith) (sym v.1 ∙ e ∙ w.1) in absurd (omega arith)
        | inr w ↦ one i j (omega arith) (omega arith) (sym v.1 ∙ e ∙ w.1)
      ]
    ]

-- as many places as numbers
pub pigeonhole : (n m : ℕ) (f : ℕ → ℕ) → Into f n m → OneToOne f n → n ≤ m
pigeonhole zero m f into one = omega arith
pigeonhole (suc n) zero f into one = absurd (omega (arith, into n (omega arith)))
pigeonhole (suc n) (suc m) f into one = omega (
  arith,
  pigeonhole n m (avoiding f m n) (Into-less f n m into one) (one_less f n m one),
)
