-- The first objective row, column by column: it depends on the rows alone.
use Rattle.std.proofs.Common.{◌≡◌, refl, ap, ℕ, zero, suc, ◌<◌, ◌≤◌, true, false, cond, ltb, ◌&&◌, Option, None}
use Rattle.std.proofs.Common.{arith, lt-ltb, le-ltb, le-leb, ℤ, pos}
use Rattle.stack_rational.proofs.Common.{dec_le, Fraction, of, add, neg, ordered_fractions, first, only_if, is_too_wide}
use Rattle.stack_rational.proofs.Common.{lt-leb, first_same}
use Rattle.stack_rational.specs.declared.exact.Op.TheVariants.{Difference}
use Rattle.stack_table.specs.declared.problem.BuildError.{BuildError}
use Rattle.stack_table.specs.declared.problem.BuildError.TheVariants.{Wide}
use Rattle.stack_table.specs.Table.{Shape, plain, columns}
use Rattle.stack_table.specs.WrittenTable.{less_all, partial_place, is_artificial, objective_over, objective_place}

-- which columns are artificial
pub artificial_yes : (S : Shape) (j : ℕ) → plain S ≤ j → j < columns S → is_artificial S j ≡ true
artificial_yes S j l h = (λ z. le-leb (plain S) j l z && lt-ltb j (columns S) h z)

pub artificial_not : (S : Shape) (j : ℕ) → (plain S ≤ j → columns S ≤ j) → is_artificial S j ≡ false
artificial_not S j h = elim (dec_le (plain S) j) [
  | yes l ↦ (λ z. le-leb (plain S) j l z && le-ltb j (columns S) (h l) z)
  | no l ↦ ap (λ b. b && ltb j (columns S)) (lt-leb (plain S) j (omega (arith, l)))
]

pub less_all-same : (n : ℕ) (f g : ℕ → Fraction) → ((i : ℕ) → i < n → f i ≡ g i) →
    less_all ordered_fractions n f ≡ less_all ordered_fractions n g
less_all-same zero f g h = refl
less_all-same (suc n) f g h = λ z.
    add (less_all-same n f g (λ i l. h i (omega (arith, l))) z) (neg (h n (omega arith) z))

partial_same : (m : ℤ) (place : BuildError) (n : ℕ) (f g : ℕ → Fraction) → ((i : ℕ) → i < n → f i ≡ g i) →
    first n (partial_place ordered_fractions (is_too_wide m) place f)
    ≡ first n (partial_place ordered_fractions (is_too_wide m) place g)
partial_same m place n f g h = first_same n (partial_place ordered_fractions (is_too_wide m) place f)
    (partial_place ordered_fractions (is_too_wide m) place g)
    (λ i l. λ z. only_if
    (is_too_wide m Difference (less_all-same i f g (λ k q. h k (omega (arith, l, q))) z) (h i l z)) place)

module _ (S : Shape) (j : ℕ) (f g : ℕ → ℕ → Fraction) (same : (i : ℕ) → i < S.rows → f i j ≡ g i j) where
  pub objective_same : objective_over ordered_fractions S f j ≡ objective_over ordered_fractions S g j
  objective_same = ap (λ x. cond (is_artificial S j) (of (pos 0)) x)
      (less_all-same S.rows (λ i. f i j) (λ i. g i j) same)

  pub place_same : (m : ℤ) →
      objective_place ordered_fractions (is_too_wide m) S f j ≡ objective_place ordered_fractions (is_too_wide m) S g j
  place_same m = ap (λ (o : Option BuildError). cond (is_artificial S j) None o)
      (partial_same m (Wide S.rows j) S.rows (λ i. f i j) (λ i. g i j) same)
