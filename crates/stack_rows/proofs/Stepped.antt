-- A step of numbers at the places with a mark: the part that is made grows.
use Rattle.std.proofs.Common.{◌≡◌, sym, ap, subst, ◌∙◌, ℕ, ◌+◌, ◌<◌, ◌≤◌, List, length, set, arith, ℤ, nat_abs}
use Rattle.stack_rational.proofs.Common.{dec_lt}
use Rattle.stack_rows.specs.Marks.{mark_in}
use Rattle.stack_rows.specs.RowForm.{number_at, IsQuotient, IsStepped, IsDivided, IsDividedPart}
use Rattle.stack_rows.specs.RowForm.{AreMarked, AreWithinTop, IsPartTopped}
use Rattle.stack_rows.proofs.Numbers.{at-past, at-set_other}
use Rattle.stack_rows.proofs.Written.{written_more, written_to, topped_more, topped_to}
use Rattle.stack_rows.proofs.Combined.{made_nothing}

module _ (old pivot : List ℤ) (marks : List ℕ) (k t by : ℤ) (from first : ℕ) where
  -- what is made of each number
  abbrev P : ℕ → ℤ → Type 0
  P j = IsQuotient by k t (number_at old j) (number_at pivot j)

  -- nothing yet
  pub begun : IsStepped old pivot marks k t by from first from old first
  begun = record {
    begun = omega arith;
    written = record {
      part = λ j a b. absurd (omega (arith, a, b));
      before = λ j a. λ i. number_at old j;
      after = λ j a. λ i. number_at old j;
    };
    topped = λ j a b. absurd (omega (arith, a, b));
    larger = omega arith;
    kept = λ j z. λ i. number_at old j;
  }

  module _ (now : List ℤ) (end size : ℕ) (s : IsStepped old pivot marks k t by from first end now size) where
    -- to a place up to which nothing has a mark
    pub passed : AreMarked old marks → AreMarked pivot marks → (n : ℕ) → end ≤ n →
        ((j : ℕ) → end ≤ j → j < n → mark_in marks j ≡ 0) → IsStepped old pivot marks k t by from first n now size
    passed own other n l none = record {
      begun = omega (arith, s.begun, l);
      written = written_to {P = P} n s.written (λ j a b. made_nothing by k t (own.nothing j (none j a b))
          (other.nothing j (none j a b)) (own.nothing j (none j a b))) (λ j a. s.written.after j (omega (arith, a, l)));
      topped = topped_to now s.topped
          (λ j a b. omega (arith, ap nat_abs (s.kept j (none j a b) ∙ own.nothing j (none j a b))));
      larger = s.larger;
      kept = s.kept;
    }

    -- by one number more, at a place with a mark
    pub made : (x : ℤ) (more : ℕ) → end < length now → mark_in marks end ≡ 1 → P end x → nat_abs x ≤ more →
        size ≤ more → IsStepped old pivot marks k t by from first (end + 1) (set now end x) more
    made x more room on here own other = record {
      begun = omega (arith, s.begun);
      written = written_more {P = P} now x s.begun room s.written here;
      topped = topped_more now end x room own other s.topped;
      larger = omega (arith, s.larger, other);
      kept = λ j z. at-set_other now end j x (λ e. omega (arith, ap (mark_in marks) e, z, on)) ∙ s.kept j z;
    }

    -- past the end of the row there is nothing to make
    pub cut : length now ≡ length old → from ≤ length old → length old ≤ end →
        IsStepped old pivot marks k t by from first (length old) now size
    cut long l m = record {
      begun = l;
      written = record {
        part = λ j a b. s.written.part j a (omega (arith, b, m));
        before = s.written.before;
        after = λ j a. at-past now j (omega (arith, a, long)) ∙ sym (at-past old j a);
      };
      topped = λ j a b. s.topped j a (omega (arith, b, m));
      larger = s.larger;
      kept = s.kept;
    }

    -- the marks are still such
    pub still : length now ≡ length old → AreMarked old marks → AreMarked now marks
    still long own = record {
      nothing = λ j z. s.kept j z ∙ own.nothing j z;
      within = λ j l. own.within j (omega (arith, l, long));
    }

    -- by a further step
    pub further : (new : List ℤ) (n more : ℕ) → IsStepped now pivot marks k t by end size n new more →
        IsStepped old pivot marks k t by from first n new more
    further new n more f = record {
      begun = omega (arith, s.begun, f.begun);
      written = record {
        part = λ j a b. elim (dec_lt j end) [
          | yes l ↦ subst (P j) (sym (f.written.before j l)) (s.written.part j a l)
          | no d ↦ subst (λ z. IsQuotient by k t z (number_at pivot j) (number_at new j))
              (s.written.after j (omega (arith, d))) (f.written.part j (omega (arith, d)) b)
        ];
        before = λ j a. f.written.before j (omega (arith, a, s.begun)) ∙ s.written.before j a;
        after = λ j a. f.written.after j a ∙ s.written.after j (omega (arith, a, f.begun));
      };
      topped = λ j a b. elim (dec_lt j end) [
        | yes l ↦ omega (arith, ap nat_abs (f.written.before j l), s.topped j a l, f.larger)
        | no d ↦ f.topped j (omega (arith, d)) b
      ];
      larger = omega (arith, s.larger, f.larger);
      kept = λ j z. f.kept j z ∙ s.kept j z;
    }

-- a step in two parts
pub joined_parts : (old pivot now new : List ℤ) (k t by : ℤ) (end n : ℕ) → end ≤ n →
    IsDividedPart old pivot k t by 0 end now → IsDividedPart now pivot k t by end n new →
    IsDividedPart old pivot k t by 0 n new
joined_parts old pivot now new k t by end n m w f = record {
  part = λ j a b. elim (dec_lt j end) [
    | yes l ↦ subst (IsQuotient by k t (number_at old j) (number_at pivot j)) (sym (f.before j l)) (w.part j a l)
    | no d ↦ subst (λ z. IsQuotient by k t z (number_at pivot j) (number_at new j)) (w.after j (omega (arith, d)))
        (f.part j (omega (arith, d)) b)
  ];
  before = λ j a. absurd (omega (arith, a));
  after = λ j a. f.after j a ∙ w.after j (omega (arith, a, m));
}

-- a step of the whole row is one at each place
pub all_divided : (old pivot new : List ℤ) (k t by : ℤ) (end : ℕ) → length pivot ≤ end → length new ≤ end →
    IsDividedPart old pivot k t by 0 end new → IsDivided old pivot k t by new
all_divided old pivot new k t by end b c w j = elim (dec_lt j end) [
  | yes l ↦ w.part j (omega arith) l
  | no d ↦ made_nothing by k t
      (sym (w.after j (omega (arith, d))) ∙ at-past new j (omega (arith, c, d)))
      (at-past pivot j (omega (arith, b, d))) (at-past new j (omega (arith, c, d)))
]

-- and so is its top
pub all_within : (xs : List ℤ) (end top : ℕ) → length xs ≤ end → IsPartTopped 0 end xs top → AreWithinTop xs top
all_within xs end top a h j = elim (dec_lt j end) [
  | yes l ↦ h j (omega arith) l
  | no d ↦ omega (arith, ap nat_abs (at-past xs j (omega (arith, a, d))))
]

-- the top of what is made goes on
pub joined_tops : (xs ys : List ℤ) (end n size more : ℕ) → size ≤ more → IsPartTopped 0 end xs size →
    ((j : ℕ) → j < end → number_at ys j ≡ number_at xs j) → IsPartTopped end n ys more → IsPartTopped 0 n ys more
joined_tops xs ys end n size more l h same g j a b = elim (dec_lt j end) [
  | yes m ↦ omega (arith, ap nat_abs (same j m), h j a m, l)
  | no d ↦ g j (omega (arith, d)) b
]
