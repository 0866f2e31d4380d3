-- A sum over all rows of a column is the sum over its entries.
use Rattle.std.proofs.Common.{◌≡◌, refl, sym, ap, subst, ◌∙◌, ℕ, suc, ◌<◌, ◌≤◌, true, cond}
use Rattle.std.proofs.Common.{List, [], ◌∷◌, arith, ne_eqb, eq-eqb, ltb-true, leb-true, ℤ, pos, ◌+ℤ◌, ◌*ℤ◌}
use Rattle.std.specs.List.{AllByRecursion}
use Rattle.std.proofs.lemmas.Bool.Decides.{nat_tests}
use Rattle.stack_rational.proofs.Common.{ℕ_discrete, expand, sums, integers, sum_of, at, sum_same, sum_zero, at-other}
use Rattle.stack_rational.proofs.Common.{at-same, left_true, right_true}
use Rattle.stack_algebra.proofs.Sums.{sum_add, sum_at}
use Rattle.stack_inverse.specs.declared.columns.Cell.{Cell}
use Rattle.stack_inverse.specs.Columns.{combined, entry_of, rises}

-- each cell stands below m, in a row from `from` on that is below those of the cells after it
abbrev pub Rises : (m from : ℕ) → List Cell → Type 0
Rises m from [] = Unit {0}
Rises m from (x ∷ xs) = (from ≤ x.row) × (x.row < m) × Rises m (suc x.row) xs

-- what the test tells
pub rises_of : (m from : ℕ) (xs : List Cell) → rises m from xs ≡ true → Rises m from xs
rises_of m from [] h = tt
rises_of m from (x ∷ xs) h = (
  leb-true from x.row (left_true _ _ h),
  ltb-true x.row m (left_true _ _ (right_true _ _ h)),
  rises_of m (suc x.row) xs (right_true _ _ (right_true _ _ h)),
)

-- each cell stands below m
pub cells_below : (m from : ℕ) (xs : List Cell) → Rises m from xs → AllByRecursion (λ x. x.row < m) xs
cells_below m from [] h = tt
cells_below m from (x ∷ xs) h = (h.1, cells_below m (suc x.row) xs h.2)

-- what follows below m from a property follows at all cells
pub cells_have : (m from : ℕ) (xs : List Cell) (P Q : ℕ → Type 0) → Rises m from xs →
    ((r : ℕ) → r < m → P r → Q r) → AllByRecursion (λ x. P x.row) xs → AllByRecursion (λ x. Q x.row) xs
cells_have m from [] P Q h more all = tt
cells_have m from (x ∷ xs) P Q h more all = (
  more x.row h.1 all.0,
  cells_have m (suc x.row) xs P Q h.2 more all.1,
)

none_before : (m from i : ℕ) (xs : List Cell) → Rises m from xs → i < from → entry_of xs i ≡ pos 0
none_before m from i [] h l = refl
none_before m from i (x ∷ xs) h l =
    let rest = none_before m (suc x.row) i xs h.2 (omega (arith, h.0, l)) in
    grind (arith, nat_tests, h.0, rest)

plus_none : (z b : ℤ) → z ≡ z +ℤ b *ℤ pos 0
plus_none z b = simp expand (omega (arith, sums))

nothing_plus : (z : ℤ) → z ≡ pos 0 +ℤ z
nothing_plus z = omega (arith, sums)

-- the first entry apart
first_apart : (m from : ℕ) (a : ℕ → ℤ) (x : Cell) (xs : List Cell) → Rises m from (x ∷ xs) → (r : ℕ) →
    a r *ℤ entry_of (x ∷ xs) r ≡ at integers x.row (a x.row *ℤ x.value) r +ℤ a r *ℤ entry_of xs r
first_apart m from a x xs h r = go (ℕ_discrete r x.row)
  where
    go : Dec (r ≡ x.row) → a r *ℤ entry_of (x ∷ xs) r
        ≡ at integers x.row (a x.row *ℤ x.value) r +ℤ a r *ℤ entry_of xs r
    go (yes e) = subst (λ q. a q *ℤ entry_of (x ∷ xs) q
        ≡ at integers x.row (a x.row *ℤ x.value) q +ℤ a q *ℤ entry_of xs q) (sym e) here
      where
        here : a x.row *ℤ entry_of (x ∷ xs) x.row
            ≡ at integers x.row (a x.row *ℤ x.value) x.row +ℤ a x.row *ℤ entry_of xs x.row
        here = ap (λ b. a x.row *ℤ cond b x.value (entry_of xs x.row)) (eq-eqb x.row x.row refl)
            ∙ plus_none (a x.row *ℤ x.value) (a x.row)
            ∙ (λ i. sym (at-same integers x.row (a x.row *ℤ x.value)) i
            +ℤ a x.row *ℤ sym (none_before m (suc x.row) x.row xs h.2 (omega arith)) i)
    go (no d) = ap (λ b. a r *ℤ cond b x.value (entry_of xs r)) (ne_eqb x.row r (λ e. d (sym e)))
        ∙ nothing_plus (a r *ℤ entry_of xs r)
        ∙ (λ i. sym (at-other integers x.row r (a x.row *ℤ x.value) d) i +ℤ a r *ℤ entry_of xs r)

-- the sum over all rows is that over the cells
pub over_entries : (m from : ℕ) (a : ℕ → ℤ) (xs : List Cell) → Rises m from xs →
    combined m a (entry_of xs) ≡ sum_of (λ x. a x.row *ℤ x.value) xs
over_entries m from a [] h = sum_zero integers m (λ r. a r *ℤ pos 0) (λ r l. times_none (a r))
  where
    times_none : (z : ℤ) → z *ℤ pos 0 ≡ pos 0
    times_none z = simp expand (omega (arith, sums))
over_entries m from a (x ∷ xs) h = sum_same integers m (λ r. a r *ℤ entry_of (x ∷ xs) r)
    (λ r. at integers x.row (a x.row *ℤ x.value) r +ℤ a r *ℤ entry_of xs r)
    (λ r l. first_apart m from a x xs h r)
    ∙ sum_add integers m (at integers x.row (a x.row *ℤ x.value)) (λ r. a r *ℤ entry_of xs r)
    ∙ (λ i. sum_at integers m x.row (a x.row *ℤ x.value) h.1 i +ℤ over_entries m (suc x.row) a xs h.2 i)
