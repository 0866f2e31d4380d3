-- The laws that the crates above rely on. Each is a clause of a function that does nothing.
use mathlib.Core.Path.{◌≡◌}
use mathlib.Core.Logic.{◌≢◌}
use mathlib.Core.List.{List}
use Prim.Native.Nat.{ℕ, ◌<◌, ◌+◌, ◌*◌}
use lib.ListN.{length, get_or}
use lib.IntN.{ℤ, pos, negsuc, ◌+ℤ◌, ◌*ℤ◌, neg_ℤ}
use Rattle.std.specs.Int.{IsGcd}
use Rattle.stack_algebra.specs.IntegerOrder.{◌≼◌, ◌≺◌, abs}
use Rattle.stack_algebra.specs.Ring.{Ring}
use Rattle.stack_algebra.specs.Ordered.{Ordered, Sign, minus, nought, plus, opposite, product_sign, sign_of}
use Rattle.stack_algebra.specs.Polynomial.{Exp, normal_form, eval}
use Rattle.stack_algebra.specs.Sums.{sum_to, sum_of}
use Rattle.stack_algebra.specs.Gcd.{gcd}
use Rattle.stack_algebra.specs.Fraction.{Fraction, IsOver}
use Rattle.stack_algebra.specs.Rows.{Tableau, HasLeastRatio, NonNeg, next, changed}

-- whole numbers are a commutative ring, and products keep their order
pub record WholeNumberLaws : Type 0 where
  pub add_assoc : (a b c : ℤ) → (a +ℤ b) +ℤ c ≡ a +ℤ (b +ℤ c)
  pub add_comm : (a b : ℤ) → a +ℤ b ≡ b +ℤ a
  pub zero_add : (a : ℤ) → pos 0 +ℤ a ≡ a
  pub mul_assoc : (a b c : ℤ) → (a *ℤ b) *ℤ c ≡ a *ℤ (b *ℤ c)
  pub mul_comm : (a b : ℤ) → a *ℤ b ≡ b *ℤ a
  pub one_mul : (a : ℤ) → pos 1 *ℤ a ≡ a
  pub zero_mul : (a : ℤ) → pos 0 *ℤ a ≡ pos 0
  pub add_mul : (a b c : ℤ) → (a +ℤ b) *ℤ c ≡ a *ℤ c +ℤ b *ℤ c
  pub neg_is : (a : ℤ) → neg_ℤ a ≡ negsuc 0 *ℤ a
  pub mul_nonneg : (a b : ℤ) → pos 0 ≼ a → pos 0 ≼ b → pos 0 ≼ a *ℤ b
  pub mul_pos : (a b : ℤ) → pos 0 ≺ a → pos 0 ≺ b → pos 0 ≺ a *ℤ b
  -- a force within its cone does no negative work on a velocity that it doesn't resist
  pub power-nonneg : (p q a b o s : ℤ) → pos 0 ≺ q → pos 0 ≼ a → q *ℤ abs b ≼ p *ℤ a → p *ℤ abs s ≼ q *ℤ o →
      pos 0 ≼ a *ℤ o +ℤ b *ℤ s

-- the ring of whole numbers, with these laws
abbrev pub whole_numbers : WholeNumberLaws → Ring
whole_numbers w = record {
  C = ℤ;
  of = λ k. k;
  add = ◌+ℤ◌;
  mul = ◌*ℤ◌;
  neg = neg_ℤ;
  add_assoc = w.add_assoc;
  add_comm = w.add_comm;
  zero_add = w.zero_add;
  mul_assoc = w.mul_assoc;
  mul_comm = w.mul_comm;
  one_mul = w.one_mul;
  zero_mul = w.zero_mul;
  add_mul = w.add_mul;
  neg_is = w.neg_is;
  of_add = λ k l i. k +ℤ l;
  of_mul = λ k l i. k *ℤ l;
}

-- two expressions with one normal form have one value
abbrev pub NormalFormsDecide : Type 0
NormalFormsDecide = (w : WholeNumberLaws) (ρ : ℕ → ℤ) (e f : Exp) → normal_form e ≡ normal_form f →
    eval (whole_numbers w) ρ e ≡ eval (whole_numbers w) ρ f

-- sums of whole numbers are linear, and two of them may be exchanged
pub record SumLaws : Type 0 where
  pub sum_add : (n : ℕ) (f g : ℕ → ℤ) → sum_to n (λ i. f i +ℤ g i) ≡ sum_to n f +ℤ sum_to n g
  pub sum_scale : (n : ℕ) (c : ℤ) (f : ℕ → ℤ) → sum_to n (λ i. c *ℤ f i) ≡ c *ℤ sum_to n f
  pub sum_swap : (n m : ℕ) (f : ℕ → ℕ → ℤ) → sum_to n (λ i. sum_to m (λ j. f i j))
      ≡ sum_to m (λ j. sum_to n (λ i. f i j))
  pub over-index : (f : ℤ → ℤ) (xs : List ℤ) (d : ℤ) → sum_of f xs
      ≡ sum_to (length xs) (λ i. f (get_or xs i d))
  pub sum_plus : (w m : ℕ) (f : ℕ → ℤ) → sum_to (w + m) f ≡ sum_to w f +ℤ sum_to m (λ k. f (w + k))
  pub sum_pairs : (n : ℕ) (f : ℕ → ℤ) → sum_to (2 * n) f ≡ sum_to n (λ k. f (2 * k) +ℤ f (2 * k + 1))
  pub sum_threes : (n : ℕ) (f : ℕ → ℤ) → sum_to (3 * n) f
      ≡ sum_to n (λ k. f (3 * k) +ℤ f (3 * k + 1) +ℤ f (3 * k + 2))

-- the greatest common divisor divides both, and each common divisor divides it
abbrev pub GcdIsGreatest : Type 0
GcdIsGreatest = (a b : ℕ) → IsGcd a b (gcd a b)

-- equal numbers are one fraction
abbrev pub FractionsAreValues : Type 0
FractionsAreValues = (x y : Fraction) (n p m q : ℤ) → IsOver x n p → IsOver y m q → n *ℤ q ≡ m *ℤ p → x ≡ y

-- fractions in lowest terms are an ordered field, with the sum, the product, the opposite and the sign of
-- numbers
pub record FractionField : Type 0 where
  pub of : ℤ → Fraction
  pub add : Fraction → Fraction → Fraction
  pub mul : Fraction → Fraction → Fraction
  pub neg : Fraction → Fraction
  pub inv : Fraction → Fraction
  pub sign : Fraction → Sign
  pub of-is : (k : ℤ) → IsOver (of k) k (pos 1)
  pub add-is : (x y : Fraction) (n p m q : ℤ) → IsOver x n p → IsOver y m q →
      IsOver (add x y) (n *ℤ q +ℤ m *ℤ p) (p *ℤ q)
  pub mul-is : (x y : Fraction) (n p m q : ℤ) → IsOver x n p → IsOver y m q →
      IsOver (mul x y) (n *ℤ m) (p *ℤ q)
  pub sign-is : (x : Fraction) (n p : ℤ) → IsOver x n p → sign x ≡ sign_of n
  pub add_assoc : (a b c : Fraction) → add (add a b) c ≡ add a (add b c)
  pub add_comm : (a b : Fraction) → add a b ≡ add b a
  pub zero_add : (a : Fraction) → add (of (pos 0)) a ≡ a
  pub mul_assoc : (a b c : Fraction) → mul (mul a b) c ≡ mul a (mul b c)
  pub mul_comm : (a b : Fraction) → mul a b ≡ mul b a
  pub one_mul : (a : Fraction) → mul (of (pos 1)) a ≡ a
  pub zero_mul : (a : Fraction) → mul (of (pos 0)) a ≡ of (pos 0)
  pub add_mul : (a b c : Fraction) → mul (add a b) c ≡ add (mul a c) (mul b c)
  pub neg_is : (a : Fraction) → neg a ≡ mul (of (negsuc 0)) a
  pub of_add : (k l : ℤ) → of (k +ℤ l) ≡ add (of k) (of l)
  pub of_mul : (k l : ℤ) → of (k *ℤ l) ≡ mul (of k) (of l)
  pub zero_by_sign : (x : Fraction) → sign x ≡ nought → x ≡ of (pos 0)
  pub sign-zero : sign (of (pos 0)) ≡ nought
  pub sign-one : sign (of (pos 1)) ≡ plus
  pub sign-neg : (x : Fraction) → sign (neg x) ≡ opposite (sign x)
  pub sign-mul : (x y : Fraction) → sign (mul x y) ≡ product_sign (sign x) (sign y)
  pub nonneg-add : (x y : Fraction) → sign x ≢ minus → sign y ≢ minus → sign (add x y) ≢ minus
  pub inv-mul : (x : Fraction) → sign x ≢ nought → mul (inv x) x ≡ of (pos 1)

-- fractions in lowest terms, with these laws, as one ordered field
abbrev pub ordered : FractionField → Ordered
ordered k = record {
  ring = record {
    C = Fraction;
    of = k.of;
    add = k.add;
    mul = k.mul;
    neg = k.neg;
    add_assoc = k.add_assoc;
    add_comm = k.add_comm;
    zero_add = k.zero_add;
    mul_assoc = k.mul_assoc;
    mul_comm = k.mul_comm;
    one_mul = k.one_mul;
    zero_mul = k.zero_mul;
    add_mul = k.add_mul;
    neg_is = k.neg_is;
    of_add = k.of_add;
    of_mul = k.of_mul;
  };
  sign = k.sign;
  inv = k.inv;
  zero_by_sign = k.zero_by_sign;
  sign-zero = k.sign-zero;
  sign-one = k.sign-one;
  sign-neg = k.sign-neg;
  sign-mul = k.sign-mul;
  nonneg-add = k.nonneg-add;
  inv-mul = k.inv-mul;
}

-- a pivot at a cell that isn't 0 keeps a tableau, where right sides stay at least 0
abbrev pub PivotsKeepTableaus : Type 0
PivotsKeepTableaus = (k : FractionField) (m n : ℕ) (A : ℕ → ℕ → Fraction) (own : ℕ → Fraction)
    (cell : ℕ → ℕ → Fraction) (basic : ℕ → ℕ) (r c : ℕ) →
    r < m → c < n → k.sign (cell r c) ≢ nought →
    ((i : ℕ) → i < m → NonNeg (ordered k) (next (ordered k) cell r c i n)) →
    Tableau (ordered k) m n A own cell basic →
    Tableau (ordered k) m n A own (next (ordered k) cell r c) (changed basic r c)

-- right sides stay at least 0 where the pivot's row has the least ratio
abbrev pub LeastRatioKeepsRightSides : Type 0
LeastRatioKeepsRightSides = (k : FractionField) (m n : ℕ) (cell : ℕ → ℕ → Fraction) (r c : ℕ) →
    HasLeastRatio (ordered k) m n cell r c → ((i : ℕ) → i < m → NonNeg (ordered k) (cell i n)) →
    (i : ℕ) → i < m → NonNeg (ordered k) (next (ordered k) cell r c i n)
