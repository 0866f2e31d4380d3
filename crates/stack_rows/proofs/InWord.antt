-- A step at the places with a mark in one word of marks, and over all words.
use Rattle.std.proofs.Common.{◌≡◌, sym, ap, subst, ◌∙◌, ℕ, suc, ◌+◌, ◌-◌, ◌*◌, ◌/◌, ◌%◌, ◌^◌, ◌<◌, ◌≤◌}
use Rattle.std.proofs.Common.{List, length, get_or, set, arith, ℤ, nat_abs, w64}
use Rattle.std.specs.Prelude.{bit_and}
use Rattle.std.specs.Int.{bit_at, trailing_zeros}
use Rattle.std.proofs.lemmas.Nat.Bits.{bit_at-trailing_zeros, bit_at-zero}
use Rattle.stack_rational.proofs.Common.{dec_lt}
use Rattle.stack_rows.specs.Marks.{mark_in}
use Rattle.stack_rows.specs.RowForm.{number_at, IsQuotient, IsStepped, AreBeside}
use Rattle.stack_rows.proofs.Bits.{IsRest, rest_from, rest_later, rest_after, marked_at, none_until}
use Rattle.stack_rows.proofs.Stepped.{begun, passed, made, cut, still}

-- the step has come to a place in a word, and the marks from there on are left
pub record IsInWord (old pivot : List ℤ) (marks : List ℕ) (k t by : ℤ) (from first w : ℕ) (now : List ℤ) (size rest : ℕ)
    : Type 0 where
  pub place : ℕ
  pub within : place ≤ 64
  pub left : IsRest (get_or marks w 0) place rest
  pub stepped : IsStepped old pivot marks k t by from first (w * 64 + place) now size

-- and at the lowest mark that is left: nothing is made up to it, its place stands in the row, and its number is as it
-- was. After it is made one mark fewer is left
pub record IsAtMark (old pivot : List ℤ) (marks : List ℕ) (k t by : ℤ) (from first w : ℕ) (now : List ℤ) (size rest : ℕ)
    : Type 0 where
  pub reached : IsStepped old pivot marks k t by from first (w * 64 + trailing_zeros w64 rest) now size
  pub inside : w * 64 + trailing_zeros w64 rest < length old
  pub same : number_at now (w * 64 + trailing_zeros w64 rest) ≡ number_at old (w * 64 + trailing_zeros w64 rest)
  pub after : (x : ℤ) (more : ℕ) → IsQuotient by k t (number_at old (w * 64 + trailing_zeros w64 rest))
      (number_at pivot (w * 64 + trailing_zeros w64 rest)) x → nat_abs x ≤ more → size ≤ more →
      IsInWord old pivot marks k t by from first w (set now (w * 64 + trailing_zeros w64 rest) x) more
      (bit_and rest (rest - 1))

module _ {old pivot : List ℤ} {marks : List ℕ} {k t by : ℤ} {from first w : ℕ}
    (beside : AreBeside old pivot marks) where
  -- as it begins
  pub in_word : from / 64 ≡ w → IsInWord old pivot marks k t by from first w old first
      (bit_and (get_or marks w 0) ((2 ^ 64 - 1) * 2 ^ (from % 64) % 2 ^ 64))
  in_word e =
      let at : w * 64 + from % 64 ≡ from = omega (arith, e) in
      record {
        place = from % 64;
        within = omega arith;
        left = rest_from (get_or marks w 0) (from % 64) (omega arith);
        stepped = subst (λ n. IsStepped old pivot marks k t by from first n old first) (sym at)
            (begun old pivot marks k t by from first);
      }

  module _ {now : List ℤ} {size rest : ℕ} (long : length now ≡ length old)
      (i : IsInWord old pivot marks k t by from first w now size rest) where
    -- no mark is left
    pub ended : rest ≡ 0 → IsStepped old pivot marks k t by from first (w * 64 + 64) now size
    ended e = passed old pivot marks k t by from first now (w * 64 + i.place) size i.stepped beside.own beside.other
        (w * 64 + 64) (omega (arith, i.within))
        (none_until marks w i.place rest i.left 64 (omega arith) (λ n l. ap (λ x. bit_at x n) e ∙ bit_at-zero n))

    -- the lowest mark that is left
    module _ (some : 0 < rest) (small : rest < 2 ^ 64) where
      abbrev low : ℕ
      low = trailing_zeros w64 rest

      abbrev at : ℕ
      at = w * 64 + low

      low_in : low < 64
      low_in = (bit_at-trailing_zeros w64 rest some small).0

      on : bit_at rest low ≡ 1
      on = (bit_at-trailing_zeros w64 rest some small).1

      lowest : (n : ℕ) → n < low → bit_at rest n ≡ 0
      lowest = (bit_at-trailing_zeros w64 rest some small).2

      later : i.place ≤ low
      later = rest_later (get_or marks w 0) i.place rest low on lowest i.left

      marked : mark_in marks at ≡ 1
      marked = marked_at marks w i.place rest i.left low low_in later on

      until : IsStepped old pivot marks k t by from first at now size
      until = passed old pivot marks k t by from first now (w * 64 + i.place) size i.stepped beside.own beside.other at
          (omega (arith, later)) (none_until marks w i.place rest i.left low (omega (arith, low_in)) lowest)

      in_row : at < length old
      in_row = elim (dec_lt at (length old)) [
        | yes l ↦ l
        | no d ↦ absurd (omega (arith, beside.own.within at (omega (arith, d)), marked))
      ]

      turned : (x : ℤ) (more : ℕ) → IsQuotient by k t (number_at old at) (number_at pivot at) x → nat_abs x ≤ more →
          size ≤ more → IsInWord old pivot marks k t by from first w (set now at x) more (bit_and rest (rest - 1))
      turned x more here own other =
          let e : at + 1 ≡ w * 64 + (low + 1) = omega arith in
          record {
            place = low + 1;
            within = omega (arith, low_in);
            left = rest_after (get_or marks w 0) i.place rest low on lowest i.left;
            stepped = subst (λ n. IsStepped old pivot marks k t by from first n (set now at x) more) e
                (made old pivot marks k t by from first now at size until x more (omega (arith, in_row, long)) marked
                here own other);
          }

      pub next_mark : IsAtMark old pivot marks k t by from first w now size rest
      next_mark = record {
        reached = until;
        inside = in_row;
        same = until.written.after at (omega arith);
        after = turned;
      }

-- rows beside which a step has come to a place
module _ (old pivot : List ℤ) (marks : List ℕ) (k t by : ℤ) (from first : ℕ) (beside : AreBeside old pivot marks)
    (now : List ℤ) (end size : ℕ) (long : length now ≡ length old)
    (s : IsStepped old pivot marks k t by from first end now size) where
  -- still stand so
  pub beside_now : AreBeside now pivot marks
  beside_now = record {
    width = beside.width ∙ sym long;
    few = omega (arith, beside.few, long);
    long = beside.long ∙ ap (λ n. suc (n / 64)) (sym long);
    own = still old pivot marks k t by from first now end size s long beside.own;
    other = beside.other;
  }

  -- and to the end of all words
  pub to_end : (w : ℕ) → end / 64 ≡ w → length marks ≤ w → from ≤ length old →
      IsStepped old pivot marks k t by from first (length old) now size
  to_end w e l f = cut old pivot marks k t by from first now end size s long f
      (omega (arith, beside.long, e, l))
