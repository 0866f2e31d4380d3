-- A row of many that is written.
use Rattle.std.proofs.Common.{◌≡◌, ◌≢◌, sym, ap, subst, ◌∙◌, ℕ, suc, ◌+◌, ◌<◌, ◌≤◌, Bool, true, false, List, [], ◌∷◌}
use Rattle.std.proofs.Common.{length, set, slice_index_or, get_or, zero, arith, ℤ, pos}
use Rattle.std.proofs.lemmas.List.{length_push}
use Rattle.stack_rows.specs.EntriesSeen.{entries_of}
use Rattle.std.specs.declared.vec.Vec.{Vec}
use Rattle.stack_rational.proofs.Common.{ℕ_discrete, ints, Fraction, ◌≺◌, fraction_fits, with_items}
use Rattle.stack_rational.proofs.Common.{with_items_is}
use Rattle.stack_rows.specs.RowSeen.{numbers_of}
use Rattle.stack_rows.proofs.Items.{at-index, at-set_same, at-set_other, at-past}
use Rattle.stack_inverse.specs.declared.row.TableRow.{TableRow}
use Rattle.stack_inverse.specs.RowBlock.{AllNumbersFit, AreFitting}
use Rattle.stack_inverse.specs.Columns.{RowSeen, no_row, multipliers, HaveWidths, IsPut}
use Rattle.stack_inverse.specs.RowsSeen.{seen_of, seen_at}

-- a vector that is written through a slice has what is written
pub written : {X Z : Type 0} (v : Vec X Z) {lent : List X} (new : List X) → lent ≡ v.items → length new ≡ length lent →
    (with_items v new).items ≡ new
written v new kept long = with_items_is v new (long ∙ ap length kept ∙ sym v.ok.0)

-- and is as long as before
pub written_long : {X Z : Type 0} (v : Vec X Z) {lent : List X} (new : List X) → lent ≡ v.items →
    length new ≡ length lent → length (with_items v new).items ≡ length v.items
written_long v new kept long = ap length (written v new kept long) ∙ long ∙ ap length kept

-- each denominator is positive
pub under_positive : (rows : List TableRow) (i : ℕ) → pos 0 ≺ (seen_at rows i).under
under_positive [] i = omega (arith, ints)
under_positive (r ∷ rs) zero = r.row.positive
under_positive (r ∷ rs) (suc i) = under_positive rs i

-- past the last row there is none
pub seen_past : (rows : List TableRow) (n k : ℕ) → length rows ≡ n → n ≤ k → seen_at rows k ≡ no_row
seen_past rows n k e l = at-past seen_of no_row rows k (omega (arith, e, l))

-- a row that is lent
pub seen_index : (rows : List TableRow) (i : ℕ) (x : TableRow) → i < length rows →
    x ≡ slice_index_or rows i x → seen_of (slice_index_or rows i x) ≡ seen_at rows i
seen_index rows i x l e = ap (λ (r : TableRow). seen_of r) (sym e) ∙ sym (at-index seen_of no_row rows i x l e)

pub seen_get : (rows : List TableRow) (i : ℕ) (x : TableRow) → i < length rows → x ≡ get_or rows i x →
    seen_of x ≡ seen_at rows i
seen_get rows i x l e = sym (at-index seen_of no_row rows i x l e)

-- its width
pub width_get : (m : ℕ) (rows : List TableRow) (i : ℕ) (x : TableRow) → length rows ≡ suc m → i ≤ m →
    HaveWidths m (seen_at rows) → x ≡ get_or rows i x → length (numbers_of x.row) ≡ suc (multipliers m)
width_get m rows i x h l widths e = ap (λ (s : RowSeen). length s.numbers)
    (seen_get rows i x (omega (arith, h, l)) e) ∙ widths i l

-- and how many numbers it has without the right side
pub entries_get : (m : ℕ) (rows : List TableRow) (i : ℕ) (x : TableRow) → length rows ≡ suc m → i ≤ m →
    HaveWidths m (seen_at rows) → x ≡ get_or rows i x → length (entries_of x.row.entries) ≡ multipliers m
entries_get m rows i x h l widths e = omega (
  arith,
  width_get m rows i x h l widths e,
  length_push (entries_of x.row.entries) x.row.right,
)

module _ (rows : List TableRow) (i : ℕ) (new : TableRow) (lt : i < length rows) where
  -- it, and the others
  pub own : seen_at (set rows i new) i ≡ seen_of new
  own = at-set_same seen_of no_row rows i new lt

  pub other : (k : ℕ) → k ≢ i → seen_at (set rows i new) k ≡ seen_at rows k
  other k n = at-set_other seen_of no_row rows i k new n

  -- all have their widths
  pub widths_set : (m : ℕ) → HaveWidths m (seen_at rows) → length (numbers_of new.row) ≡ suc (multipliers m) →
      HaveWidths m (seen_at (set rows i new))
  widths_set m h e k l = elim (ℕ_discrete k i) [
    | yes p ↦ ap (λ (s : RowSeen). length s.numbers) (ap (seen_at (set rows i new)) p ∙ own) ∙ e
    | no n ↦ ap (λ (s : RowSeen). length s.numbers) (other k n) ∙ h k l
  ]

  -- what is done of the rows before it is done of it too
  pub done_set : (P : ℕ → RowSeen → Type 0) (r : ℕ) → ((k : ℕ) → k < i → k ≢ r → P k (seen_at rows k)) →
      P i (seen_of new) → (k : ℕ) → k < i + 1 → k ≢ r → P k (seen_at (set rows i new) k)
  done_set P r h here k l d = elim (ℕ_discrete k i) [
    | yes p ↦ subst (λ n. P n (seen_at (set rows i new) n)) (sym p) (subst (λ s. P i s) (sym own) here)
    | no n ↦ subst (λ s. P k s) (sym (other k n)) (h k (omega (arith, l, n)) d)
  ]

  -- the rows behind it are as they were
  pub left_set : (first : ℕ → RowSeen) → ((k : ℕ) → i ≤ k → seen_at rows k ≡ first k) → (k : ℕ) → i + 1 ≤ k →
      seen_at (set rows i new) k ≡ first k
  left_set first h k l = other k (λ p. omega (arith, l, p)) ∙ h k (omega (arith, l))

  -- where all rows that are known to fit do, and it too if it is, they do
  pub fitting_set : (max : ℤ) (cell : ℕ → RowSeen → ℕ → Fraction) →
      AreFitting max (λ k. cell k (seen_at rows k)) (seen_at rows) →
      (new.fits ≡ true → AllNumbersFit max (cell i (seen_of new))) →
      AreFitting max (λ k. cell k (seen_at (set rows i new) k)) (seen_at (set rows i new))
  fitting_set max cell h here k = elim (ℕ_discrete k i) [
    | yes p ↦ subst (λ n. (seen_at (set rows i new) n).fits ≡ true →
        AllNumbersFit max (cell n (seen_at (set rows i new) n))) (sym p)
        (subst (λ (s : RowSeen). s.fits ≡ true → AllNumbersFit max (cell i s)) (sym own) here)
    | no n ↦ subst (λ (s : RowSeen). s.fits ≡ true → AllNumbersFit max (cell k s)) (sym (other k n)) (h k)
  ]

  -- a row of these numbers is put
  pub put_is : (numbers : List ℤ) (under : ℤ) (fits : Bool) → numbers_of new.row ≡ numbers →
      new.row.under ≡ under → new.fits ≡ fits →
      IsPut (seen_at rows) i numbers under fits (seen_at (set rows i new))
  put_is numbers under fits hn hu hf = record {
    own_numbers = ap (λ (s : RowSeen). s.numbers) own ∙ hn;
    own_under = ap (λ (s : RowSeen). s.under) own ∙ hu;
    own_fits = ap (λ (s : RowSeen). s.fits) own ∙ hf;
    other = other;
  }

-- where a row is put, all have their widths
pub widths_put : {s t : ℕ → RowSeen} {i : ℕ} {numbers : List ℤ} {under : ℤ} {fits : Bool} (m : ℕ) →
    IsPut s i numbers under fits t → length numbers ≡ suc (multipliers m) → HaveWidths m s → HaveWidths m t
widths_put {t = t} {i = i} m p e h k l = elim (ℕ_discrete k i) [
  | yes q ↦ ap (λ n. length (t n).numbers) q ∙ ap (λ (xs : List ℤ). length xs) p.own_numbers ∙ e
  | no n ↦ ap (λ (s : RowSeen). length s.numbers) (p.other k n) ∙ h k l
]

-- where it isn't known to fit, and no other is, none is
pub unfit_put : {s t : ℕ → RowSeen} {i : ℕ} {numbers : List ℤ} {under : ℤ} → IsPut s i numbers under false t →
    ((k : ℕ) → (s k).fits ≡ false) → (k : ℕ) → (t k).fits ≡ false
unfit_put {t = t} {i = i} p h k = elim (ℕ_discrete k i) [
  | yes q ↦ ap (λ n. (t n).fits) q ∙ p.own_fits
  | no n ↦ ap (λ (r : RowSeen). r.fits) (p.other k n) ∙ h k
]

-- and nothing is said of it
pub fitting_put : {s t : ℕ → RowSeen} {i : ℕ} {numbers : List ℤ} {under : ℤ} (max : ℤ) (old new : ℕ → ℕ → Fraction) →
    IsPut s i numbers under false t → ((k j : ℕ) → k ≢ i → new k j ≡ old k j) → AreFitting max old s →
    AreFitting max new t
fitting_put {t = t} {i = i} max old new p same h k e j = elim (ℕ_discrete k i) [
  | yes q ↦ let b : false ≡ true = sym p.own_fits ∙ sym (ap (λ n. (t n).fits) q) ∙ e in absurd cc
  | no n ↦ ap (fraction_fits max) (same k j n)
      ∙ h k (sym (ap (λ (s : RowSeen). s.fits) (p.other k n)) ∙ e) j
]
