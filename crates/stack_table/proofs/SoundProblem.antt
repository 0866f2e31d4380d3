-- What the test of a problem tells.
use Rattle.std.proofs.Common.{◌≡◌, sym, ap, ◌∙◌, subst, ℕ, zero, suc, ◌+◌, ◌<◌, ◌≤◌, Bool, true, false, ◌&&◌, List}
use Rattle.std.proofs.Common.{[], ◌∷◌, map, length, get_or, drop, drop-cons, add-one, arith, SFits}
use Rattle.std.proofs.Common.{to_z, of_z, to_z-of_z}
use Rattle.std.proofs.Common.{nat_le, nat_lt, leb-true, ltb-true, le-leb, lt-ltb, le-ltb, ℤ, nat_abs}
use Rattle.std.proofs.lemmas.Bool.{lt-leb}
use Rattle.stack_rational.proofs.Common.{length-map, left_true, right_true, w128}
use Rattle.std.proofs.Math.ListN.{drop_of_length-le}
use Rattle.std.specs.List.{slice_index, AllByRecursion}
use Rattle.std.specs.List.Sorted.{IsStrictlyIncreasing}
use Rattle.stack_whole.specs.Limits.{load_bound, IsBelowBound}
use Rattle.stack_algebra.proofs.Conjunctions.{all_four}
use Rattle.stack_table.specs.declared.problem.Entry.{Entry}
use Rattle.stack_table.specs.declared.problem.Column.{Column}
use Rattle.stack_table.specs.Lent.{IsColumn}
use Rattle.stack_table.specs.Sound.{is_small, is_column, are_columns, are_small}

small : (z : ℤ) → is_small z ≡ true → IsBelowBound z
small z h = ltb-true (nat_abs z) load_bound h

pub numbers_small : (zs : List ℤ) → are_small zs ≡ true → AllByRecursion IsBelowBound zs
numbers_small [] h = tt
numbers_small (z ∷ zs) h = (small z (left_true _ _ h), numbers_small zs (right_true _ _ h))

-- of a column that begins at row `from`: its first entry, and the rest

first_of_column : (rows from : ℕ) (x : Entry) (xs : List Entry) → is_column rows from (x ∷ xs) ≡ true →
    (nat_le from x.row ≡ true) × (nat_lt x.row rows ≡ true) × (is_small x.value ≡ true)
    × (is_column rows (suc x.row) xs ≡ true)
first_of_column rows from x xs h =
    all_four (nat_le from x.row) (nat_lt x.row rows) (is_small x.value) (is_column rows (suc x.row) xs) h

below : (rows from : ℕ) (xs : List Entry) → is_column rows from xs ≡ true →
    AllByRecursion (λ x. x.row < rows) xs
below rows from [] h = tt
below rows from (x ∷ xs) h = let p = first_of_column rows from x xs h in
    (ltb-true x.row rows p.1, below rows (suc x.row) xs p.3)

values_small : (rows from : ℕ) (xs : List Entry) → is_column rows from xs ≡ true →
    AllByRecursion (λ x. IsBelowBound x.value) xs
values_small rows from [] h = tt
values_small rows from (x ∷ xs) h = let p = first_of_column rows from x xs h in
    (small x.value p.2, values_small rows (suc x.row) xs p.3)

rises : (rows from : ℕ) (xs : List Entry) → is_column rows from xs ≡ true → (k : ℕ) → suc k < length xs →
    slice_index (map (λ x. x.row) xs) k < slice_index (map (λ x. x.row) xs) (suc k)
rises rows from [] h k l = absurd (omega (arith, l))
rises rows from (x ∷ []) h k l = absurd (omega (arith, l))
rises rows from (x ∷ (y ∷ ys)) h zero l = let p = first_of_column rows from x (y ∷ ys) h in
    leb-true (suc x.row) y.row (first_of_column rows (suc x.row) y ys p.3).0
rises rows from (x ∷ (y ∷ ys)) h (suc k) l = let p = first_of_column rows from x (y ∷ ys) h in
    rises rows (suc x.row) (y ∷ ys) p.3 k (omega (arith, l))

rising : (rows from : ℕ) (xs : List Entry) → is_column rows from xs ≡ true →
    IsStrictlyIncreasing (map (λ x. x.row) xs)
rising rows from xs h k l =
    subst (λ n. slice_index (map (λ x. x.row) xs) k < slice_index (map (λ x. x.row) xs) n) (sym (add-one k))
    (rises rows from xs h k (omega (arith, l, length-map xs (λ x. x.row))))

pub column_is : (rows : ℕ) (xs : List Entry) → is_column rows 0 xs ≡ true → IsColumn rows xs
column_is rows xs h = record {
  below = below rows 0 xs h;
  rising = rising rows 0 xs h;
  small = values_small rows 0 xs h;
}

pub columns_are : (rows : ℕ) (cs : List Column) → are_columns rows cs ≡ true →
    AllByRecursion (λ c. IsColumn rows c.entries.items) cs
columns_are rows [] h = tt
columns_are rows (c ∷ cs) h =
    (column_is rows c.entries.items (left_true _ _ h), columns_are rows cs (right_true _ _ h))

-- a loop over numbers that goes on past a small one, ends at one that isn't, or has none left
small_at : (xs : List ℤ) (k : ℕ) (d : ℤ) (b : Bool) → k < length xs → SFits w128 (get_or xs k d) →
    is_small (to_z w128 (of_z w128 (get_or xs k d))) ≡ b →
    are_small (drop k xs) ≡ b && are_small (drop (suc k) xs)
small_at xs k d b l f s = ap are_small (drop-cons xs k d l)
    ∙ ap (λ t. t && are_small (drop (suc k) xs)) (sym (ap is_small (to_z-of_z f)) ∙ s)

pub small_next : (xs : List ℤ) (k : ℕ) (d : ℤ) → k < length xs → SFits w128 (get_or xs k d) →
    is_small (to_z w128 (of_z w128 (get_or xs k d))) ≡ true → are_small (drop k xs) ≡ are_small xs →
    are_small (drop (k + 1) xs) ≡ are_small xs
small_next xs k d l f s h = ap (λ n. are_small (drop n xs)) (add-one k) ∙ sym (small_at xs k d true l f s) ∙ h

pub small_ends : (xs : List ℤ) (k : ℕ) (d : ℤ) → k < length xs → SFits w128 (get_or xs k d) →
    is_small (to_z w128 (of_z w128 (get_or xs k d))) ≡ false → are_small (drop k xs) ≡ are_small xs →
    false ≡ are_small xs
small_ends xs k d l f s h = sym (small_at xs k d false l f s) ∙ h

pub small_done : (xs : List ℤ) (k : ℕ) → length xs ≤ k → are_small (drop k xs) ≡ are_small xs →
    true ≡ are_small xs
small_done xs k l h = sym (ap are_small (drop_of_length-le xs l)) ∙ h

-- a loop over the entries of a column that goes on past one, ends at one that is refused, or has none left
fourth : (a b c d : Bool) → a ≡ true → b ≡ true → c ≡ true → a && (b && (c && d)) ≡ d
fourth a b c d p q r = (λ i. p i && (q i && (r i && d)))

third : (a b c d : Bool) → a ≡ true → b ≡ true → c ≡ false → a && (b && (c && d)) ≡ false
third a b c d p q r = (λ i. p i && (q i && (r i && d)))

module _ (rows from k : ℕ) (xs : List Entry) (d : Entry) (l : k < length xs)
    (h : is_column rows from (drop k xs) ≡ is_column rows 0 xs) where
  abbrev x : Entry
  x = get_or xs k d

  here : is_column rows from (x ∷ drop (suc k) xs) ≡ is_column rows 0 xs
  here = sym (ap (is_column rows from) (drop-cons xs k d l)) ∙ h

  pub column_next : from ≤ x.row → x.row < rows → is_small x.value ≡ true →
      is_column rows (x.row + 1) (drop (k + 1) xs) ≡ is_column rows 0 xs
  column_next a b c = (λ i. is_column rows (add-one x.row i) (drop (add-one k i) xs))
      ∙ sym (fourth _ _ _ (is_column rows (suc x.row) (drop (suc k) xs)) (le-leb from x.row a)
      (lt-ltb x.row rows b) c) ∙ here

  pub column_back : x.row < from → false ≡ is_column rows 0 xs
  column_back a = sym (ap (λ t. t && (nat_lt x.row rows && (is_small x.value
      && is_column rows (suc x.row) (drop (suc k) xs)))) (lt-leb from x.row a)) ∙ here

  pub column_past : from ≤ x.row → rows ≤ x.row → false ≡ is_column rows 0 xs
  column_past a b = sym (λ i. le-leb from x.row a i && (le-ltb x.row rows b i && (is_small x.value
      && is_column rows (suc x.row) (drop (suc k) xs)))) ∙ here

  pub column_wide : from ≤ x.row → x.row < rows → is_small x.value ≡ false → false ≡ is_column rows 0 xs
  column_wide a b c = sym (third _ _ _ (is_column rows (suc x.row) (drop (suc k) xs)) (le-leb from x.row a)
      (lt-ltb x.row rows b) c) ∙ here

pub column_done : (rows from k : ℕ) (xs : List Entry) → length xs ≤ k →
    is_column rows from (drop k xs) ≡ is_column rows 0 xs → true ≡ is_column rows 0 xs
column_done rows from k xs l h = sym (ap (is_column rows from) (drop_of_length-le xs l)) ∙ h
