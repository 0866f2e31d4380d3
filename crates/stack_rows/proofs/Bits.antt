-- Marks in words, a bit each.
use Rattle.std.proofs.Common.{◌≡◌, ◌≢◌, refl, sym, ap, ◌∙◌, ℕ, zero, suc, ◌+◌, ◌-◌, ◌*◌, ◌/◌, ◌%◌, ◌^◌, ◌<◌, ◌≤◌}
use Rattle.std.proofs.Common.{max, List, length, get_or, set, get_or-set_same, get_or-set_other, inl, inr, arith, w64}
use Rattle.std.proofs.Common.{shr-shr}
use Rattle.std.specs.Prelude.{bit_and, bit_or}
use Rattle.std.specs.Int.{bit_at, bit_not}
use Rattle.std.proofs.lemmas.Bool.{cases_lt}
use Rattle.std.proofs.lemmas.List.{get_or_past, get_or_read_under}
use Rattle.std.proofs.lemmas.Nat.Bits.{bit_at_or, bit_at_ones, bit_at_set_same}
use Rattle.std.proofs.lemmas.Nat.Bits.{bit_at_set_other, bit_at_clear_same, bit_at_clear_other, bit_at_above, bit_at-lt}
use Rattle.std.proofs.lemmas.Nat.Bits.{bit_at_lowest}
use Rattle.std.proofs.lemmas.Nat.Bits.{bit_at_and, bit_at_mask_inside, bit_at_mask_below, ones_shl, bit_at-zero}
use Rattle.std.proofs.lemmas.Nat.Bits.{bit_at-suc}
use Rattle.stack_rational.proofs.Common.{ℕ_discrete}
use Rattle.stack_rows.specs.Marks.{mark_in}

-- words of which all of the first n are joined, and others aren't there
pub joined : (new old other : List ℕ) (n : ℕ) → length new ≤ n → length old ≤ n → length other ≤ n →
    ((k : ℕ) → k < n → get_or new k 0 ≡ bit_or (get_or old k 0) (get_or other k 0)) → (j : ℕ) →
    mark_in new j ≡ max (mark_in old j) (mark_in other j)
unfolding mark_in
joined new old other n a b c each j =
    ap (λ x. bit_at x (j % 64)) (elim (cases_lt (j / 64) n) [
      | inl l ↦ each (j / 64) l
      | inr p ↦ get_or_past new (j / 64) 0 (omega (arith, a, p))
          ∙ sym (λ z. bit_or (get_or_past old (j / 64) 0 (omega (arith, b, p)) z)
          (get_or_past other (j / 64) 0 (omega (arith, c, p)) z))
    ]) ∙ bit_at_or (get_or old (j / 64) 0) (get_or other (j / 64) 0) (j % 64)

-- a word of ones
pub filled : (words : List ℕ) (j : ℕ) → get_or words (j / 64) 0 ≡ 2 ^ 64 - 1 → mark_in words j ≡ 1
unfolding mark_in
filled words j e = ap (λ x. bit_at x (j % 64)) e ∙ bit_at_ones 64 (j % 64) (omega arith)

module _ (words : List ℕ) (j : ℕ) (lt : j / 64 < length words) (word : ℕ) (is : word ≡ get_or words (j / 64) word) where
  -- a word is written, of which all bits but one stay
  others : (x i : ℕ) → ((k : ℕ) → k < 64 → k ≢ j % 64 → bit_at x k ≡ bit_at word k) → i ≢ j →
      mark_in (set words (j / 64) x) i ≡ mark_in words i
  unfolding mark_in
  others x i same n = elim (ℕ_discrete (i / 64) (j / 64)) [
    | yes e ↦ (λ z. bit_at (get_or (set words (j / 64) x) (e z) 0) (i % 64))
        ∙ ap (λ w. bit_at w (i % 64)) (get_or-set_same words (j / 64) x 0 lt)
        ∙ same (i % 64) (omega arith) (λ q. n (omega (arith, e, q)))
        ∙ ap (λ w. bit_at w (i % 64)) (get_or_read_under words (j / 64) (length words) word 0 is lt refl)
        ∙ (λ z. bit_at (get_or words (sym e z) 0) (i % 64))
    | no d ↦ ap (λ w. bit_at w (i % 64)) (get_or-set_other words (j / 64) (i / 64) x 0 d)
  ]

  -- a mark is put
  pub put_here : mark_in (set words (j / 64) (bit_or word (1 * 2 ^ (j % 64) % 2 ^ 64))) j ≡ 1
  unfolding mark_in
  put_here = ap (λ w. bit_at w (j % 64)) (get_or-set_same words (j / 64) _ 0 lt)
      ∙ bit_at_set_same w64 word (j % 64) (omega arith)

  -- and the others stay
  pub put_others : (i : ℕ) → i ≢ j →
      mark_in (set words (j / 64) (bit_or word (1 * 2 ^ (j % 64) % 2 ^ 64))) i ≡ mark_in words i
  put_others i n = others (bit_or word (1 * 2 ^ (j % 64) % 2 ^ 64)) i
      (λ k l d. bit_at_set_other w64 word (j % 64) (omega arith) k d) n

  -- or taken away
  pub removed_here : mark_in (set words (j / 64) (bit_and word (bit_not w64 (1 * 2 ^ (j % 64) % 2 ^ 64)))) j ≡ 0
  unfolding mark_in
  removed_here = ap (λ w. bit_at w (j % 64)) (get_or-set_same words (j / 64) _ 0 lt)
      ∙ bit_at_clear_same w64 word (j % 64) (omega arith)

  pub removed_others : (i : ℕ) → i ≢ j →
      mark_in (set words (j / 64) (bit_and word (bit_not w64 (1 * 2 ^ (j % 64) % 2 ^ 64)))) i ≡ mark_in words i
  removed_others i n = others (bit_and word (bit_not w64 (1 * 2 ^ (j % 64) % 2 ^ 64))) i
      (λ k l d. bit_at_clear_other w64 word (j % 64) (omega arith) k l d) n

-- nothing is marked before some bits of a word, and none of these is 1
pub none_more : (words : List ℕ) (from w n : ℕ) → n ≤ 64 → ((j : ℕ) → from ≤ j → j < w * 64 → mark_in words j ≡ 0) →
    ((i : ℕ) → i < n → bit_at (get_or words w 0) i ≡ 0) → (j : ℕ) → from ≤ j → j < w * 64 + n → mark_in words j ≡ 0
unfolding mark_in
none_more words from w n few before none j f l = elim (cases_lt j (w * 64)) [
  | inl b ↦ before j f b
  | inr p ↦
      let e : j / 64 ≡ w = omega (arith, few, l, p) in
      ap (λ k. bit_at (get_or words k 0) (j % 64)) e ∙ none (j % 64) (omega (arith, few, l, p))
]

-- a bit that is on, from another one on, stands within its word
pub within_word : (word f i : ℕ) → word < 2 ^ 64 → bit_at (word / 2 ^ f) i ≡ 1 → f + i < 64
within_word word f i lt on = elim (cases_lt (f + i) 64) [
  | inl l ↦ l
  | inr p ↦
      let same : bit_at (word / 2 ^ f) i ≡ bit_at word (f + i) = ap (λ x. x % 2) (shr-shr word f i) in
      let off : 1 ≡ 0 = sym on ∙ same ∙ bit_at_above word 64 (f + i) lt p in
      absurd (omega (arith, off))
]

-- some bits of a word from one on, none of which is 1
pub none_from : (words : List ℕ) (from n : ℕ) → from % 64 + n ≤ 64 →
    ((i : ℕ) → i < n → bit_at (get_or words (from / 64) 0 / 2 ^ (from % 64)) i ≡ 0) → (j : ℕ) → from ≤ j →
    j < from + n → mark_in words j ≡ 0
unfolding mark_in
none_from words from n few none j f l =
    let e : j / 64 ≡ from / 64 = omega (arith, few, f, l) in
    let r : j % 64 ≡ from % 64 + (j - from) = omega (arith, few, f, l) in
    let same : bit_at (get_or words (from / 64) 0 / 2 ^ (from % 64)) (j - from)
    ≡ bit_at (get_or words (from / 64) 0) (from % 64 + (j - from)) =
    ap (λ x. x % 2) (shr-shr (get_or words (from / 64) 0) (from % 64) (j - from)) in
    ap (λ k. bit_at (get_or words k 0) (j % 64)) e ∙ ap (λ k. bit_at (get_or words (from / 64) 0) k) r
    ∙ sym same ∙ none (j - from) (omega (arith, f, l))

-- the marks of one word
pub mark_of : (marks : List ℕ) (w i : ℕ) → i < 64 → mark_in marks (w * 64 + i) ≡ bit_at (get_or marks w 0) i
unfolding mark_in
mark_of marks w i l =
    let d : (w * 64 + i) / 64 ≡ w = omega arith in
    let r : (w * 64 + i) % 64 ≡ i = omega arith in
    λ z. bit_at (get_or marks (d z) 0) (r z)

-- no marks
pub all_clear : (words : List ℕ) → ((k : ℕ) → k < length words → get_or words k 0 ≡ 0) → (j : ℕ) → mark_in words j ≡ 0
unfolding mark_in
all_clear words each j = ap (λ x. bit_at x (j % 64)) (elim (cases_lt (j / 64) (length words)) [
  | inl l ↦ each (j / 64) l
  | inr p ↦ get_or_past words (j / 64) 0 p
]) ∙ bit_at-zero (j % 64)

-- the bits of a word from a place on
pub record IsRest (word place rest : ℕ) : Type 0 where
  pub below : (i : ℕ) → i < place → bit_at rest i ≡ 0
  pub same : (i : ℕ) → place ≤ i → i < 64 → bit_at rest i ≡ bit_at word i

-- as they are taken
pub rest_from : (word place : ℕ) → place < 64 → IsRest word place (bit_and word ((2 ^ 64 - 1) * 2 ^ place % 2 ^ 64))
rest_from word place l = record {
  below = λ i b. is i ∙ omega (
    arith,
    bit_at_and word (2 ^ 64 - 2 ^ place) i,
    bit_at_mask_below place 64 i b,
  );
  same = λ i a b. is i ∙ omega (
    arith,
    bit_at_and word (2 ^ 64 - 2 ^ place) i,
    bit_at_mask_inside place 64 i a b,
    bit_at-lt word i,
  );
}
  where
    is : (i : ℕ) → bit_at (bit_and word ((2 ^ 64 - 1) * 2 ^ place % 2 ^ 64)) i
        ≡ bit_at (bit_and word (2 ^ 64 - 2 ^ place)) i
    is i = ap (λ m. bit_at (bit_and word m) i) (ones_shl 64 place (omega (arith, l)))

-- a number minus 1 has 0 at its lowest 1
one_less_there : (t n : ℕ) → bit_at n t ≡ 1 → ((i : ℕ) → i < t → bit_at n i ≡ 0) → bit_at (n - 1) t ≡ 0
one_less_there zero n on lowest = bit_at_lowest (n - 1) ∙ omega (arith, bit_at_lowest n, on)
one_less_there (suc t) n on lowest =
    let even : n % 2 ≡ 0 = sym (bit_at_lowest n) ∙ lowest 0 (omega arith) in
    let half : (n - 1) / 2 ≡ n / 2 - 1 = omega (arith, even) in
    bit_at-suc (n - 1) t ∙ ap (λ x. bit_at x t) half ∙ one_less_there t (n / 2) (sym (bit_at-suc n t) ∙ on)
    (λ i l. sym (bit_at-suc n i) ∙ lowest (suc i) (omega (arith, l)))

-- and is the same above it
one_less_above : (t n : ℕ) → bit_at n t ≡ 1 → ((i : ℕ) → i < t → bit_at n i ≡ 0) → (i : ℕ) → t < i →
    bit_at (n - 1) i ≡ bit_at n i
one_less_above t n on lowest zero l = absurd (omega (arith, l))
one_less_above zero n on lowest (suc i) l =
    let odd : n % 2 ≡ 1 = sym (bit_at_lowest n) ∙ on in
    let half : (n - 1) / 2 ≡ n / 2 = omega (arith, odd) in
    bit_at-suc (n - 1) i ∙ ap (λ x. bit_at x i) half ∙ sym (bit_at-suc n i)
one_less_above (suc t) n on lowest (suc i) l =
    let even : n % 2 ≡ 0 = sym (bit_at_lowest n) ∙ lowest 0 (omega arith) in
    let half : (n - 1) / 2 ≡ n / 2 - 1 = omega (arith, even) in
    bit_at-suc (n - 1) i ∙ ap (λ x. bit_at x i) half
    ∙ one_less_above t (n / 2) (sym (bit_at-suc n t) ∙ on)
    (λ k m. sym (bit_at-suc n k) ∙ lowest (suc k) (omega (arith, m))) i (omega (arith, l))
    ∙ sym (bit_at-suc n i)

module _ (word place rest t : ℕ) (on : bit_at rest t ≡ 1) (lowest : (i : ℕ) → i < t → bit_at rest i ≡ 0) where
  -- it comes no sooner
  pub rest_later : IsRest word place rest → place ≤ t
  rest_later r = elim (cases_lt t place) [
    | inl l ↦ absurd (omega (arith, r.below t l, on))
    | inr p ↦ p
  ]

  -- without the lowest of them those after it stay
  pub rest_after : IsRest word place rest → IsRest word (t + 1) (bit_and rest (rest - 1))
  rest_after r = record {
    below = λ i l. bit_at_and rest (rest - 1) i ∙ elim (ℕ_discrete i t) [
      | yes e ↦ omega (arith, ap (bit_at (rest - 1)) e, one_less_there t rest on lowest)
      | no d ↦ omega (arith, lowest i (omega (arith, l, d)))
    ];
    same = λ i a b. omega (
      arith,
      bit_at_and rest (rest - 1) i,
      one_less_above t rest on lowest i (omega (arith, a)),
    ) ∙ r.same i (omega (arith, a, rest_later r)) b;
  }

module _ (marks : List ℕ) (w place rest : ℕ) (r : IsRest (get_or marks w 0) place rest) where
  -- a mark that is left
  pub marked_at : (t : ℕ) → t < 64 → place ≤ t → bit_at rest t ≡ 1 → mark_in marks (w * 64 + t) ≡ 1
  marked_at t l later on = mark_of marks w t l ∙ sym (r.same t later l) ∙ on

  -- and none before it
  pub none_until : (n : ℕ) → n ≤ 64 → ((i : ℕ) → i < n → bit_at rest i ≡ 0) → (x : ℕ) → w * 64 + place ≤ x →
      x < w * 64 + n → mark_in marks x ≡ 0
  none_until n few none x a b =
      let e : x ≡ w * 64 + (x - w * 64) = omega (arith, a) in
      ap (mark_in marks) e ∙ mark_of marks w (x - w * 64) (omega (arith, few, b))
      ∙ sym (r.same (x - w * 64) (omega (arith, a)) (omega (arith, few, b))) ∙ none (x - w * 64) (omega (arith, a, b))
