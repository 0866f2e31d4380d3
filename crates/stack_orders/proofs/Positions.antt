-- The first item that passes a test, and that none does.
use Rattle.std.proofs.Common.{◌≡◌, refl, ap, ◌∙◌, ℕ, ◌<◌, Bool, true, false, cond, List, length, get_or}
use Rattle.std.proofs.Common.{Some, None, arith, position, nat_lt, inl, inr}
use Rattle.std.specs.List.{position_or_len}
use Rattle.std.proofs.lemmas.Bool.{lt-ltb, ltb-true, cases_lt}
use Rattle.std.proofs.lemmas.List.Sums.{position_or_len_is, fails_before_first}

-- what isn't below a number is above all that is
beyond : (k m n : ℕ) → nat_lt m n ≡ false → k < n → k < m
beyond k m n e l = elim (cases_lt m n) [
  | inl lt ↦ let t = lt-ltb m n lt in absurd (cc)
  | inr le ↦ omega (arith, le, l)
]

module _ {A : Type 0} (p : A → Bool) (xs : List A) (d : A) where
  -- the first that passes is this one
  pub position_at : (n : ℕ) → n < length xs → ((k : ℕ) → k < n → p (get_or xs k d) ≡ false)
      → p (get_or xs n d) ≡ true → position p xs ≡ Some n
  position_at n l before here =
      let e : position_or_len p xs ≡ n = position_or_len_is p xs n d (omega (arith, l)) before (λ _. here) in
      (λ i. cond (nat_lt (e i) (length xs)) (Some (e i)) None)
      ∙ ap (λ t. cond t (Some n) None) (lt-ltb n (length xs) l)

  -- none is found where none passes
  pub position_none : ((k : ℕ) → k < length xs → p (get_or xs k d) ≡ false) → position p xs ≡ None
  position_none all =
      let e : position_or_len p xs ≡ length xs =
      position_or_len_is p xs (length xs) d (omega arith) all (λ l. absurd (omega (arith, l))) in
      (λ i. cond (nat_lt (e i) (length xs)) (Some (e i)) None)
      ∙ ap (λ t. cond t (Some (length xs)) None) (not_below (length xs))
    where
      not_below : (n : ℕ) → nat_lt n n ≡ false
      not_below n = go (nat_lt n n) refl
        where
          go : (t : Bool) → nat_lt n n ≡ t → t ≡ false
          go true e = let l = ltb-true n n e in absurd (omega (arith, l))
          go false e = refl

  -- where none is found, none passes
  pub none_passes : position p xs ≡ None → (k : ℕ) → k < length xs → p (get_or xs k d) ≡ false
  none_passes h k l = go (nat_lt (position_or_len p xs) (length xs)) refl h
    where
      go : (t : Bool) → nat_lt (position_or_len p xs) (length xs) ≡ t
          → cond t (Some (position_or_len p xs)) None ≡ None → p (get_or xs k d) ≡ false
      go true e f = absurd (cc)
      go false e f = fails_before_first p xs k d (beyond k (position_or_len p xs) (length xs) e l)
