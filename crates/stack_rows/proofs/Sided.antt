-- A row of numbers with a right side after them.
use Rattle.std.proofs.Common.{◌≡◌, sym, ap, subst, ◌∙◌, ℕ, suc, ◌-◌, ◌<◌, ◌≤◌, ◌+◌, List, [], ◌∷◌, ◌++◌, length, take}
use Rattle.std.proofs.Common.{arith, ℤ, pos, nat_abs, ◌*ℤ◌, ◌-ℤ◌, ◌<ℤ◌}
use Rattle.std.proofs.lemmas.List.{length_push, get_or_append_left, get_or_push, take_more, take_all}
use Rattle.stack_rational.proofs.Common.{ℕ_discrete, dec_lt}
use Rattle.stack_rows.specs.RowForm.{number_at, AreWithinTop, IsTopped, IsQuotient, IsDivided, IsTaken, IsRemade}
use Rattle.stack_rows.specs.RowForm.{IsPutOver, IsRight, AreSmall, AreSmallBelow}
use Rattle.stack_rows.proofs.Numbers.{at-past}
use Rattle.stack_rows.proofs.Combined.{same_cross}
use Rattle.stack_rows.proofs.Apart.{raised_number, put_number}

module _ (xs : List ℤ) (r : ℤ) where
  -- a number before it
  pub before_is : (j : ℕ) → j < length xs → number_at (xs ++ r ∷ []) j ≡ number_at xs j
  before_is j l = get_or_append_left xs (r ∷ []) (pos 0) j l

  -- it
  pub side_is : (j : ℕ) → j ≡ length xs → number_at (xs ++ r ∷ []) j ≡ r
  side_is j e = get_or_push xs r (pos 0) j (sym e)

  -- and after it there is nothing
  pub after_is : (j : ℕ) → length xs < j → number_at (xs ++ r ∷ []) j ≡ pos 0
  after_is j l = at-past (xs ++ r ∷ []) j (omega (arith, l, length_push xs r))

  -- the top of the numbers is that of the row
  pub topped : (top : ℕ) → AreWithinTop xs top → IsTopped (xs ++ r ∷ []) top
  topped top h j l = subst (λ z. nat_abs z ≤ top) (sym (before_is j (omega (arith, l, length_push xs r)))) (h j)

  pub within_top : (top : ℕ) → IsTopped (xs ++ r ∷ []) top → AreWithinTop xs top
  within_top top h j = elim (dec_lt j (length xs)) [
    | yes l ↦ subst (λ z. nat_abs z ≤ top) (before_is j l) (h j (omega (arith, l, length_push xs r)))
    | no d ↦ omega (arith, ap nat_abs (at-past xs j (omega (arith, d))))
  ]

-- what holds of equal numbers
put_three : (Q : ℤ → ℤ → ℤ → Type 0) {a b c x y z : ℤ} → x ≡ a → y ≡ b → z ≡ c → Q a b c → Q x y z
put_three Q {a = a} {b = b} {x = x} {y = y} {z = z} e f g q = subst (λ n. Q n y z) (sym e)
    (subst (λ n. Q a n z) (sym f) (subst (λ n. Q a b n) (sym g) q))

-- what holds of the numbers of three rows at each place, and of their right sides, holds of all together
pub all_three : (Q : ℤ → ℤ → ℤ → Type 0) (old pivot new : List ℤ) (r p x : ℤ) → length pivot ≡ length old →
    length new ≡ length old → ((j : ℕ) → Q (number_at old j) (number_at pivot j) (number_at new j)) → Q r p x →
    (j : ℕ) → Q (number_at (old ++ r ∷ []) j) (number_at (pivot ++ p ∷ []) j) (number_at (new ++ x ∷ []) j)
all_three Q old pivot new r p x e f each side j = elim (dec_lt j (length old)) [
  | yes l ↦ put_three Q (before_is old r j l) (before_is pivot p j (omega (arith, l, e)))
      (before_is new x j (omega (arith, l, f))) (each j)
  | no d ↦ elim (ℕ_discrete j (length old)) [
    | yes h ↦ put_three Q (side_is old r j h) (side_is pivot p j (h ∙ sym e)) (side_is new x j (h ∙ sym f)) side
    | no h ↦ put_three Q
        (after_is old r j (omega (arith, d, h)) ∙ sym (at-past old j (omega (arith, d))))
        (after_is pivot p j (omega (arith, d, h, e)) ∙ sym (at-past pivot j (omega (arith, d, e))))
        (after_is new x j (omega (arith, d, h, f)) ∙ sym (at-past new j (omega (arith, d, f)))) (each j)
  ]
]

module _ (old pivot new : List ℤ) (r p x k t : ℤ) (pivot_long : length pivot ≡ length old)
    (new_long : length new ≡ length old) where
  -- a step of the numbers and of the right side, over a denominator that is divided, too
  pub taken : (by over after : ℤ) → IsDivided old pivot k t by new → IsQuotient by k t r p x → after *ℤ by ≡ over →
      pos 0 <ℤ after → IsTaken (old ++ r ∷ []) over (pivot ++ p ∷ []) k t (new ++ x ∷ []) after
  taken by over after each side e h = record {
    positive = h;
    number = all_three (λ o q n. n *ℤ over ≡ (o *ℤ k -ℤ t *ℤ q) *ℤ after) old pivot new r p x pivot_long new_long
        (λ j. same_cross (number_at new j) (number_at old j *ℤ k -ℤ t *ℤ number_at pivot j) by after over (each j) e)
        (same_cross x (r *ℤ k -ℤ t *ℤ p) by after over side e);
  }

  -- one that is made of cells
  pub remade : (over after : ℤ) → IsRemade old over pivot k t new after →
      x *ℤ over ≡ (r *ℤ k -ℤ t *ℤ p) *ℤ after → pos 0 <ℤ after →
      IsTaken (old ++ r ∷ []) over (pivot ++ p ∷ []) k t (new ++ x ∷ []) after
  remade over after each side h = record {
    positive = h;
    number = all_three (λ o q n. n *ℤ over ≡ (o *ℤ k -ℤ t *ℤ q) *ℤ after) old pivot new r p x pivot_long new_long each
        side;
  }

  -- one where what the right side becomes is given as a cell
  pub taken_apart : (now : List ℤ) (by d n e over after : ℤ) → IsDivided old pivot k t by now → d *ℤ by ≡ over →
      IsRight (old ++ r ∷ []) over (pivot ++ p ∷ []) k t n e → IsPutOver now d n e new x after →
      IsTaken (old ++ r ∷ []) over (pivot ++ p ∷ []) k t (new ++ x ∷ []) after
  taken_apart now by d n e over after each w right put =
      let last : length (old ++ r ∷ []) - 1 ≡ length old = omega (arith, length_push old r) in
      let own = side_is old r (length (old ++ r ∷ []) - 1) last in
      let other = side_is pivot p (length (old ++ r ∷ []) - 1) (last ∙ sym pivot_long) in
      let given : n *ℤ over ≡ (r *ℤ k -ℤ t *ℤ p) *ℤ e = right ∙ (λ i. (own i *ℤ k -ℤ t *ℤ other i) *ℤ e) in
      record {
        positive = put.positive;
        number = all_three (λ o q z. z *ℤ over ≡ (o *ℤ k -ℤ t *ℤ q) *ℤ after) old pivot new r p x pivot_long new_long
            (λ j. raised_number (number_at new j) (number_at now j) by d put.more
            (number_at old j *ℤ k -ℤ t *ℤ number_at pivot j) over after (each j) w put.under (put.before j))
            (put_number x put.part n e (r *ℤ k -ℤ t *ℤ p) over after given put.whole put.right);
      }

-- the steps of all numbers but the right side are small
pub small_each : (old pivot : List ℤ) (r p k t : ℤ) → length pivot ≡ length old →
    AreSmallBelow (length (old ++ r ∷ []) - 1) k t (old ++ r ∷ []) (pivot ++ p ∷ []) →
    AreSmall k t 0 0 → (j : ℕ) → AreSmall k t (nat_abs (number_at old j)) (nat_abs (number_at pivot j))
small_each old pivot r p k t e h none j = elim (dec_lt j (length old)) [
  | yes l ↦ subst (λ z. AreSmall k t (nat_abs z) (nat_abs (number_at pivot j))) (before_is old r j l)
      (subst (λ z. AreSmall k t (nat_abs (number_at (old ++ r ∷ []) j)) (nat_abs z))
      (before_is pivot p j (omega (arith, l, e))) (h j (omega (arith, l, length_push old r))))
  | no d ↦ subst (λ z. AreSmall k t (nat_abs z) (nat_abs (number_at pivot j)))
      (sym (at-past old j (omega (arith, d))))
      (subst (λ z. AreSmall k t 0 (nat_abs z)) (sym (at-past pivot j (omega (arith, d, e)))) none)
]

-- those of nothing are
pub none_small : (k t : ℤ) → AreSmall k t 0 0
none_small k t = record {
  words = record { own = omega arith; other = omega arith };
  sum = omega arith;
}

-- zeros with a zero after them
pub zeros_sided : (xs : List ℤ) → ((j : ℕ) → number_at xs j ≡ pos 0) → (j : ℕ) → number_at (xs ++ pos 0 ∷ []) j ≡ pos 0
zeros_sided xs h j = elim (dec_lt j (length xs)) [
  | yes l ↦ before_is xs (pos 0) j l ∙ h j
  | no d ↦ elim (ℕ_discrete j (length xs)) [
    | yes e ↦ side_is xs (pos 0) j e
    | no n ↦ after_is xs (pos 0) j (omega (arith, d, n))
  ]
]

-- all numbers but the last one, and that
pub split_is : (xs : List ℤ) (n : ℕ) → length xs ≡ suc n → take n xs ++ number_at xs n ∷ [] ≡ xs
split_is xs n e = sym (take_more xs n (pos 0) (omega (arith, e))) ∙ take_all (n + 1) xs (omega (arith, e))

-- rows that are as long with their right sides are so without
pub without_sides : (xs ys : List ℤ) (r p : ℤ) → length (ys ++ p ∷ []) ≡ length (xs ++ r ∷ []) → length ys ≡ length xs
without_sides xs ys r p e = omega (arith, e, length_push xs r, length_push ys p)
