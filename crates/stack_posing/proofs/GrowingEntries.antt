-- A column of entries grows by one row, and by the three of a free block.
use Rattle.std.proofs.Common.{◌≡◌, ◌≢◌, refl, sym, ap, subst, ◌∙◌, ℕ, zero, suc, ◌+◌, ◌*◌, ◌<◌, ◌≤◌, Bool, true, false}
use Rattle.std.proofs.Common.{List, [], ◌∷◌, ◌++◌, cond, eqb, ltb, nat_le, nat_lt, ◌&&◌, arith, if◌then◌else◌, lt-ltb}
use Rattle.std.proofs.Common.{le-ltb, le-leb, ltb-true, ltb-false, eq-eqb, T, eqb→eq, ℤ, pos, negsuc}
use Rattle.stack_algebra.proofs.Conjunctions.{all_four}
use Rattle.std.specs.Ordering.{int_eq}
use Rattle.std.proofs.lemmas.Bool.Decides.{Decides-int_eq}
use native.Mathlib.Decide.{ℕ_discrete}
use Rattle.stack_whole.specs.Limits.{load_bound, IsBelowBound}
use Rattle.stack_statics.specs.declared.wrench.Wrench.{Wrench}
use Rattle.stack_equilibrium.specs.LoadSizes.{IsSmall}
use Rattle.stack_table.specs.declared.problem.Entry.{Entry}
use Rattle.stack_table.specs.Lent.{entry_in}
use Rattle.stack_table.specs.Sound.{is_small, is_column}
use Rattle.stack_posing.specs.Entries.{IsSomething, AreSomething, AreEntries, with_value, with_wrench}

pub not_equal : (a b : ℕ) → (a ≡ b → ⊥) → eqb a b ≡ false
not_equal a b d = go (eqb a b) (eqb→eq a b)
  where
    go : (t : Bool) → (T t → a ≡ b) → t ≡ false
    go true e = absurd (d (e tt))
    go false e = refl

-- what is below n is below the next number
below_next : (a n : ℕ) → nat_lt a n ≡ true → nat_lt a (suc n) ≡ true
below_next a n h = let l = ltb-true a n h in lt-ltb a (suc n) (omega (arith, l))

-- the first entry of a column and the rest, together
together : (a b c d : Bool) → a ≡ true → b ≡ true → c ≡ true → d ≡ true → a && (b && (c && d)) ≡ true
together true true true true p q r s = refl
together true true true false p q r s = absurd cc
together true true false d p q r s = absurd cc
together true false c d p q r s = absurd cc
together false b c d p q r s = absurd cc

first_entry : (n from : ℕ) (x : Entry) (xs : List Entry) → is_column n from (x ∷ xs) ≡ true
    → (nat_le from x.row ≡ true) × (nat_lt x.row n ≡ true) × (is_small x.value ≡ true)
    × (is_column n (suc x.row) xs ≡ true)
first_entry n from x xs h = all_four (nat_le from x.row) (nat_lt x.row n) (is_small x.value)
    (is_column n (suc x.row) xs) h

column_with : (n from : ℕ) (x : Entry) (xs : List Entry) → nat_le from x.row ≡ true → nat_lt x.row n ≡ true
    → is_small x.value ≡ true → is_column n (suc x.row) xs ≡ true → is_column n from (x ∷ xs) ≡ true
column_with n from x xs = together (nat_le from x.row) (nat_lt x.row n) (is_small x.value) (is_column n (suc x.row) xs)

-- a column of the first n rows is one of more
pub more_rows : (n from : ℕ) (xs : List Entry) → is_column n from xs ≡ true → is_column (suc n) from xs ≡ true
more_rows n from [] h = refl
more_rows n from (x ∷ xs) h =
    let p = first_entry n from x xs h in
    column_with (suc n) from x xs p.0 (below_next x.row n p.1) p.2 (more_rows n (suc x.row) xs p.3)

small : (z : ℤ) → IsBelowBound z → is_small z ≡ true
small (pos k) h = lt-ltb k load_bound h
small (negsuc k) h = lt-ltb (suc k) load_bound h

-- a column of the first n rows takes an entry of row n
one_column : (n from : ℕ) (xs : List Entry) (value : ℤ) → from ≤ n → IsBelowBound value → is_column n from xs ≡ true
    → is_column (suc n) from (xs ++ record { row = n; value = value } ∷ []) ≡ true
one_column n from [] value le s h =
    column_with (suc n) from (record { row = n; value = value }) [] (le-leb from n le) (lt-ltb n (suc n) (omega arith))
    (small value s) refl
one_column n from (x ∷ xs) value le s h =
    let p = first_entry n from x xs h in
    let row = ltb-true x.row n p.1 in
    column_with (suc n) from x (xs ++ record { row = n; value = value } ∷ []) p.0 (below_next x.row n p.1) p.2
    (one_column n (suc x.row) xs value (omega (arith, row)) s p.3)

-- the value in row n is the added one, in others as before
at_end : (n from i : ℕ) (xs : List Entry) (value : ℤ) → is_column n from xs ≡ true
    → entry_in (xs ++ record { row = n; value = value } ∷ []) i ≡ cond (eqb n i) value (entry_in xs i)
at_end n from i [] value h = refl
at_end n from i (x ∷ xs) value h =
    ap (λ z. cond (eqb x.row i) x.value z) (at_end n (suc x.row) i xs value (first_entry n from x xs h).3)
    ∙ go (ℕ_discrete n i)
  where
    below : x.row < n
    below = ltb-true x.row n (first_entry n from x xs h).1

    go : Dec (n ≡ i) → cond (eqb x.row i) x.value (cond (eqb n i) value (entry_in xs i))
        ≡ cond (eqb n i) value (cond (eqb x.row i) x.value (entry_in xs i))
    go (yes e) = (λ k. cond (not_equal x.row i (λ p. omega (arith, p, e, below)) k) x.value
        (cond (eq-eqb n i e k) value (entry_in xs i)))
        ∙ sym (ap (λ t. cond t value (cond (eqb x.row i) x.value (entry_in xs i))) (eq-eqb n i e))
    go (no d) = ap (λ t. cond (eqb x.row i) x.value (cond t value (entry_in xs i))) (not_equal n i d)
        ∙ sym (ap (λ t. cond t value (cond (eqb x.row i) x.value (entry_in xs i))) (not_equal n i d))

-- the values of a function in the first n rows and the one in row n are those in the first n + 1
next_row : (n i : ℕ) (f : ℕ → ℤ) (d : ℤ) → cond (eqb n i) (f n) (cond (ltb i n) (f i) d) ≡ cond (ltb i (suc n)) (f i) d
next_row n i f d = go (ℕ_discrete n i)
  where
    go : Dec (n ≡ i) → cond (eqb n i) (f n) (cond (ltb i n) (f i) d) ≡ cond (ltb i (suc n)) (f i) d
    go (yes e) = ap (λ t. cond t (f n) (cond (ltb i n) (f i) d)) (eq-eqb n i e) ∙ ap f e
        ∙ sym (ap (λ t. cond t (f i) d) (lt-ltb i (suc n) (omega (arith, e))))
    go (no e) = ap (λ t. cond t (f n) (cond (ltb i n) (f i) d)) (not_equal n i e) ∙ same (ltb i n) refl
      where
        same : (t : Bool) → ltb i n ≡ t → cond t (f i) d ≡ cond (ltb i (suc n)) (f i) d
        same true h = let l = ltb-true i n h in sym (ap (λ t. cond t (f i) d) (lt-ltb i (suc n) (omega (arith, l))))
        same false h = let l = ltb-false i n h in sym (ap (λ t. cond t (f i) d)
            (le-ltb i (suc n) (omega (arith, l, e))))

int_zero : (z : ℤ) → int_eq z (pos 0) ≡ true → z ≡ pos 0
int_zero z h = (Decides-int_eq z (pos 0)).0 h

differs : (z : ℤ) → int_eq z (pos 0) ≡ false → z ≢ pos 0
differs z h e = let t = (Decides-int_eq z (pos 0)).1 e in absurd cc

one_thing : (xs : List Entry) (x : Entry) → AreSomething xs → IsSomething x → AreSomething (xs ++ x ∷ [])
one_thing [] x h s = (s, tt)
one_thing (y ∷ xs) x h s = (h.0, one_thing xs x h.1 s)

-- a column of entries with one more row
pub one_more : (n : ℕ) (f : ℕ → ℤ) (xs : List Entry) (value : ℤ) → AreEntries n f xs → f n ≡ value → IsBelowBound value
    → AreEntries (suc n) f (with_value xs n value)
one_more n f xs value h e s = go (int_eq value (pos 0)) refl
  where
    go : (t : Bool) → int_eq value (pos 0) ≡ t
        → AreEntries (suc n) f (if t then xs else xs ++ record { row = n; value = value } ∷ [])
    go true z = record {
      values = λ i. h.values i ∙ sym (absent i) ∙ next_row n i f (pos 0);
      column = more_rows n 0 xs h.column;
      something = h.something;
    }
      where
        nothing : f n ≡ pos 0
        nothing = e ∙ int_zero value z

        absent : (i : ℕ) → cond (eqb n i) (f n) (cond (ltb i n) (f i) (pos 0)) ≡ cond (ltb i n) (f i) (pos 0)
        absent i = ap (λ v. cond (eqb n i) v (cond (ltb i n) (f i) (pos 0))) nothing ∙ pick (ℕ_discrete n i)
          where
            pick : Dec (n ≡ i) → cond (eqb n i) (pos 0) (cond (ltb i n) (f i) (pos 0)) ≡ cond (ltb i n) (f i) (pos 0)
            pick (yes p) = ap (λ t. cond t (pos 0) (cond (ltb i n) (f i) (pos 0))) (eq-eqb n i p)
                ∙ sym (ap (λ t. cond t (f i) (pos 0)) (le-ltb i n (omega (arith, p))))
            pick (no d) = ap (λ t. cond t (pos 0) (cond (ltb i n) (f i) (pos 0))) (not_equal n i d)
    go false z = record {
      values = λ i. at_end n 0 i xs value h.column
          ∙ (λ k. cond (eqb n i) (sym e k) (h.values i k)) ∙ next_row n i f (pos 0);
      column = one_column n 0 xs value (omega arith) s h.column;
      something = one_thing xs (record { row = n; value = value }) h.something (differs value z);
    }

-- the three rows of free block b
pub one_block : (b : ℕ) (f : ℕ → ℤ) (xs : List Entry) (w : Wrench) → AreEntries (3 * b) f xs → f (3 * b) ≡ w.fx
    → f (3 * b + 1) ≡ w.fy → f (3 * b + 2) ≡ w.m → IsSmall w → AreEntries (3 * (b + 1)) f (with_wrench xs b w)
one_block b f xs w h x y m s =
    let first = one_more (3 * b) f xs w.fx h x s.fx in
    let second = one_more (3 * b + 1) f _ w.fy (subst (λ n. AreEntries n f
    (with_value xs (3 * b) w.fx)) one first) y s.fy in
    let third = one_more (3 * b + 2) f _ w.m
    (subst (λ n. AreEntries n f (with_value (with_value xs (3 * b) w.fx) (3 * b + 1) w.fy)) two second) m s.m in
    subst (λ n. AreEntries n f (with_wrench xs b w)) three third
  where
    one : suc (3 * b) ≡ 3 * b + 1
    one = omega arith

    two : suc (3 * b + 1) ≡ 3 * b + 2
    two = omega arith

    three : suc (3 * b + 2) ≡ 3 * (b + 1)
    three = omega arith

-- a column of no rows has no entries
pub no_entries : (f : ℕ → ℤ) → AreEntries 0 f []
no_entries f = record {
  values = λ i. sym (ap (λ t. cond t (f i) (pos 0)) (le-ltb i 0 (omega arith)));
  column = refl;
  something = tt;
}
