-- Polynomial expressions, their value in a ring, and their normal form: a list of terms, each a coefficient
-- and its sorted variables. The normal form is computed, so an identity is proved by writing both sides as
-- expressions.
use mathlib.Core.Bool.{Bool, true, false, ◌&&◌}
use mathlib.Core.List.{List, [], ◌∷◌}
use Prim.Native.Nat.{ℕ, zero, suc}
use lib.Dec.{eqb, ltb}
use lib.IntN.{ℤ, pos, negsuc, ◌+ℤ◌, ◌*ℤ◌}
use Rattle.stack_algebra.specs.Ring.{Ring}

infixl 6 ◌⊕◌
infixl 6 ◌⊖◌
infixl 7 ◌⊗◌
-- an expression: a variable by its number, a whole number, sums, products, and the negated
pub data Exp : Type 0 where
  var : ℕ → Exp
  num : ℤ → Exp
  ◌⊕◌ : Exp → Exp → Exp
  ◌⊗◌ : Exp → Exp → Exp
  neg : Exp → Exp

-- a difference
abbrev pub ◌⊖◌ : Exp → Exp → Exp
e ⊖ f = e ⊕ neg f

-- a sum of terms: a coefficient and a sorted list of variables
pub data Poly : Type 0 where
  nil : Poly
  term : ℤ → List ℕ → Poly → Poly

-- whether two lists of variables are the same
abbrev pub same : List ℕ → List ℕ → Bool
same [] [] = true
same [] (y ∷ n) = false
same (x ∷ m) [] = false
same (x ∷ m) (y ∷ n) = eqb x y && same m n

-- whether the one list stands before the other in a sum, or is the same
abbrev pub is_before : List ℕ → List ℕ → Bool
is_before [] n = true
is_before (x ∷ m) [] = false
is_before (x ∷ m) (y ∷ n) = elim (eqb x y) [ true ↦ is_before m n | false ↦ ltb x y ]

-- a term in front of a sum, unless its coefficient is 0
abbrev pub poly_put : ℤ → List ℕ → Poly → Poly
poly_put (pos zero) m p = p
poly_put (pos (suc n)) m p = term (pos (suc n)) m p
poly_put (negsuc n) m p = term (negsuc n) m p

-- a term added to a sum, at its place
abbrev pub insert : ℤ → List ℕ → Poly → Poly
insert k m nil = term k m nil
insert k m (term l n p) = elim (same m n) [
  | true ↦ poly_put (k +ℤ l) m p
  | false ↦ elim (is_before m n)
      [ true ↦ term k m (term l n p) | false ↦ term l n (insert k m p) ]
]

-- the sum of two sums of terms
abbrev pub poly_plus : Poly → Poly → Poly
poly_plus nil q = q
poly_plus (term k m p) q = insert k m (poly_plus p q)

-- a variable at its place in a sorted list
abbrev pub put_var : ℕ → List ℕ → List ℕ
put_var x [] = x ∷ []
put_var x (y ∷ m) = elim (ltb x y) [ true ↦ x ∷ y ∷ m | false ↦ y ∷ put_var x m ]

-- the variables of a product of two terms
abbrev pub join : List ℕ → List ℕ → List ℕ
join [] n = n
join (x ∷ m) n = put_var x (join m n)

-- a sum times a term
abbrev pub shift : ℤ → List ℕ → Poly → Poly
shift k m nil = nil
shift k m (term l n p) = insert (k *ℤ l) (join m n) (shift k m p)

-- the product of two sums of terms
abbrev pub poly_times : Poly → Poly → Poly
poly_times nil q = nil
poly_times (term k m p) q = poly_plus (shift k m q) (poly_times p q)

-- the sum of terms that an expression comes to
abbrev pub normal_form : Exp → Poly
normal_form (var x) = term (pos 1) (x ∷ []) nil
normal_form (num k) = poly_put k [] nil
normal_form (e ⊕ f) = poly_plus (normal_form e) (normal_form f)
normal_form (e ⊗ f) = poly_times (normal_form e) (normal_form f)
normal_form (neg e) = shift (negsuc 0) [] (normal_form e)

-- the value of an expression where each variable has a value
abbrev pub eval : (R : Ring) → (ℕ → R.C) → Exp → R.C
eval R ρ (var x) = ρ x
eval R ρ (num k) = R.of k
eval R ρ (e ⊕ f) = R.add (eval R ρ e) (eval R ρ f)
eval R ρ (e ⊗ f) = R.mul (eval R ρ e) (eval R ρ f)
eval R ρ (neg e) = R.neg (eval R ρ e)
