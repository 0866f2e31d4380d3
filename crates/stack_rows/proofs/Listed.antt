-- A step of numbers that aren't multiplied, at the listed places of the pivot row.
use Rattle.std.proofs.Common.{◌≡◌, ◌≢◌, sym, ap, subst, ◌∙◌, ℕ, ◌+◌, ◌<◌, ◌≤◌, List, length, get_or, set, arith, ℤ, pos}
use Rattle.std.proofs.Common.{get_or-set_same, get_or-set_other}
use Rattle.std.proofs.Common.{nat_abs, ◌*ℤ◌, ◌-ℤ◌}
use Rattle.stack_rational.proofs.Common.{ℕ_discrete, dec_lt, expand, sums}
use Rattle.stack_rows.specs.RowForm.{number_at, IsQuotient, IsDivided, IsDividedPart, IsPartTopped, AreWithinTop}
use Rattle.stack_rows.specs.RowForm.{AreListed}
use Rattle.stack_rows.proofs.Written.{written_more, written_to, topped_more, topped_to}

-- the step has come to a place: those listed before i lie before it
pub record IsListedTo (old pivot : List ℤ) (list : List ℕ) (count : ℕ) (t : ℤ) (i : ℕ) (now : List ℤ) (top : ℕ)
    : Type 0 where
  pub place : ℕ
  pub before : (a : ℕ) → a < i → get_or list a 0 < place
  pub after : (a : ℕ) → i ≤ a → a < count → place ≤ get_or list a 0
  pub written : IsDividedPart old pivot (pos 1) t (pos 1) 0 place now
  pub topped : IsPartTopped 0 place now top

-- a number from which nothing is taken
pub taken_nothing : (o p t : ℤ) → p ≡ pos 0 → IsQuotient (pos 1) (pos 1) t o p o
taken_nothing o p t e = none o t ∙ (λ i. o *ℤ pos 1 -ℤ t *ℤ sym e i)
  where
    none : (o t : ℤ) → o *ℤ pos 1 ≡ o *ℤ pos 1 -ℤ t *ℤ pos 0
    none o t = simp expand (omega (arith, sums))

-- and one from which something is
pub taken_some : (o p t x : ℤ) → x ≡ o -ℤ t *ℤ p → IsQuotient (pos 1) (pos 1) t o p x
taken_some o p t x e = simp expand (omega (arith, sums, simp expand at e))

module _ (old pivot : List ℤ) (list : List ℕ) (count : ℕ) (t : ℤ) (listed : AreListed pivot list count) (first : ℕ)
    (top_of_old : AreWithinTop old first) where
  module _ (i : ℕ) (now : List ℤ) (top : ℕ) (s : IsListedTo old pivot list count t i now top) where
    -- between the place and the next listed one the pivot row has nothing
    pub between : (n : ℕ) → ((a : ℕ) → i ≤ a → a < count → n ≤ get_or list a 0) → (j : ℕ) → s.place ≤ j → j < n →
        number_at pivot j ≡ pos 0
    between n later j a b = listed.others j (λ k l e. elim (dec_lt k i) [
      | yes m ↦ absurd (omega (arith, s.before k m, a, e))
      | no d ↦ absurd (omega (arith, later k (omega (arith, d)) l, b, e))
    ])

    -- at the next listed place
    module _ (room : i < count) where
      abbrev pub at : ℕ
      at = get_or list i 0

      here_or_later : (a : ℕ) → i ≤ a → a < count → at ≤ get_or list a 0
      here_or_later a l m = elim (ℕ_discrete a i) [
        | yes e ↦ omega (arith, ap (λ k. get_or list k 0) e)
        | no d ↦ omega (arith, listed.rising i a (omega (arith, l, d)) m)
      ]

      -- the number is as it was
      pub same_there : number_at now at ≡ number_at old at
      same_there = s.written.after at (s.after i (omega arith) room)

      -- after it is made
      pub one_listed : (x : ℤ) (more : ℕ) → length now ≡ length old → length pivot ≡ length old →
          IsQuotient (pos 1) (pos 1) t (number_at old at) (number_at pivot at) x → nat_abs x ≤ more → top ≤ more →
          first ≤ more → IsListedTo old pivot list count t (i + 1) (set now at x) more
      one_listed x more long wide here own other begun =
          let P : ℕ → ℤ → Type 0 = λ j. IsQuotient (pos 1) (pos 1) t (number_at old j) (number_at pivot j) in
          let come : s.place ≤ at = s.after i (omega arith) room in
          let in_row : at < length now = omega (arith, listed.within i room, long, wide) in
          let reached = written_to {P = P} at s.written
          (λ j a b. taken_nothing (number_at old j) (number_at pivot j) t (between at here_or_later j a b))
          (λ j a. s.written.after j (omega (arith, a, come))) in
          let size : IsPartTopped s.place at now more = λ j a b.
          omega (arith, ap nat_abs (s.written.after j a), top_of_old j, begun) in
          let before_it : IsPartTopped 0 s.place now more = λ j a b. omega (arith, s.topped j a b, other) in
          record {
            place = at + 1;
            before = λ a l. elim (ℕ_discrete a i) [
              | yes e ↦ omega (arith, ap (λ k. get_or list k 0) e)
              | no d ↦ omega (arith, s.before a (omega (arith, l, d)), come)
            ];
            after = λ a l m. omega (arith, listed.rising i a (omega (arith, l)) m);
            written = written_more {P = P} now x (omega arith) in_row reached here;
            topped = topped_more now at x in_row own (omega arith) (topped_to now before_it size);
          }

  -- in the end each number is made
  module _ (now : List ℤ) (top : ℕ) (s : IsListedTo old pivot list count t count now top) where
    pub all_listed : IsDivided old pivot (pos 1) t (pos 1) now
    all_listed j = elim (dec_lt j s.place) [
      | yes l ↦ s.written.part j (omega arith) l
      | no d ↦ subst (IsQuotient (pos 1) (pos 1) t (number_at old j) (number_at pivot j))
          (sym (s.written.after j (omega (arith, d))))
          (taken_nothing (number_at old j) (number_at pivot j) t
          (listed.others j (λ k l e. omega (arith, s.before k l, d, e))))
    ]

    pub listed_within : first ≤ top → AreWithinTop now top
    listed_within m j = elim (dec_lt j s.place) [
      | yes l ↦ s.topped j (omega arith) l
      | no d ↦ omega (arith, ap nat_abs (s.written.after j (omega (arith, d))), top_of_old j, m)
    ]

-- the places before j that have something are listed
pub record IsListing (row : List ℤ) (list : List ℕ) (count j : ℕ) : Type 0 where
  pub room : count ≤ j
  pub rising : (a b : ℕ) → a < b → b < count → get_or list a 0 < get_or list b 0
  pub within : (a : ℕ) → a < count → get_or list a 0 < j
  pub others : (i : ℕ) → i < j → ((a : ℕ) → a < count → get_or list a 0 ≢ i) → number_at row i ≡ pos 0

module _ {row : List ℤ} {list : List ℕ} {count j : ℕ} (s : IsListing row list count j) where
  -- one more
  pub further_listing : count < length list → IsListing row (set list count j) (count + 1) (j + 1)
  further_listing m =
      let same : (a : ℕ) → a < count → get_or (set list count j) a 0 ≡ get_or list a 0 = λ a l.
      get_or-set_other list count a j 0 (λ e. omega (arith, l, e)) in
      let here : get_or (set list count j) count 0 ≡ j = get_or-set_same list count j 0 m in
      record {
        room = omega (arith, s.room);
        rising = λ a b l n. elim (ℕ_discrete b count) [
          | yes e ↦ omega (
            arith,
            same a (omega (arith, l, e)),
            s.within a (omega (arith, l, e)),
            ap (λ k. get_or (set list count j) k 0) e,
            here,
          )
          | no d ↦ omega (
            arith,
            same a (omega (arith, l, n, d)),
            same b (omega (arith, n, d)),
            s.rising a b l (omega (arith, n, d)),
          )
        ];
        within = λ a l. elim (ℕ_discrete a count) [
          | yes e ↦ omega (arith, ap (λ k. get_or (set list count j) k 0) e, here)
          | no d ↦ omega (arith, same a (omega (arith, l, d)), s.within a (omega (arith, l, d)))
        ];
        others = λ i l h. elim (ℕ_discrete i j) [
          | yes e ↦ absurd (h count (omega arith) (here ∙ sym e))
          | no d ↦ s.others i (omega (arith, l, d)) (λ a o e. h a (omega (arith, o)) (same a o ∙ e))
        ];
      }

  -- past places that have nothing
  pub skipped_listing : (n : ℕ) → j ≤ n → ((i : ℕ) → j ≤ i → i < n → number_at row i ≡ pos 0) →
      IsListing row list count n
  skipped_listing n l nothing = record {
    room = omega (arith, s.room, l);
    rising = s.rising;
    within = λ a m. omega (arith, s.within a m, l);
    others = λ i m h. elim (dec_lt i j) [
      | yes b ↦ s.others i b h
      | no d ↦ nothing i (omega (arith, d)) m
    ];
  }
