-- The first place that is too wide, as a loop finds it.
use Rattle.std.proofs.Common.{◌≡◌, refl, sym, ap, subst, ◌∙◌, ℕ, zero, suc, ◌+◌, ◌^◌, ◌<◌, ◌≤◌, true, false, not, List}
use Rattle.std.proofs.Common.{[], ◌∷◌, ◌++◌, map, length, get_or, take, Option, Some, None, arith, nat_le, nat_lt}
use Rattle.std.proofs.Common.{unsigned_abs, to_z, of_z, lt-ltb, le-ltb, le-leb, ℤ, pos, nat_abs}
use Rattle.stack_rational.proofs.Common.{ints, w128, ◌≺◌, Fraction, or_else, first, only_if, first_found}
use Rattle.stack_rational.proofs.Common.{first_all-none, first_more, of, is_too_wide, Within, widest, scale_of, lt-leb}
use Rattle.stack_rational.proofs.Common.{take_more, times_scale}
use Rattle.stack_whole.specs.Whole.{greatest_number, fits}
use Rattle.stack_rational.specs.declared.exact.Op.TheVariants.{Difference}
use Rattle.stack_rational.specs.CommonScale.{IsFirstTooWide}
use Rattle.stack_rational.proofs.Multiples.{scale_positive}
use Rattle.stack_rational.proofs.RunningMultiple.{held}
use Rattle.stack_table.specs.Table.{Shape, Tabled}
use Rattle.stack_extract.specs.WrittenLists.{bound_number}
use Rattle.stack_extract.specs.WholeLists.{whole_list, amount}
use Rattle.stack_extract.specs.declared.types.Numbers.{Numbers}
use Rattle.stack_extract.specs.declared.types.Numbers.TheVariants.{Motion}
use Rattle.stack_extract.specs.declared.types.EndStep.TheVariants.{Shift, Scale, Whole}
use Rattle.stack_extract.specs.declared.types.ExtractPlace.{ExtractPlace}
use Rattle.stack_extract.specs.declared.types.ExtractError.{ExtractError}
use Rattle.stack_extract.specs.declared.types.ExtractError.TheVariants.{TooWide}
use Rattle.stack_extract.specs.Places.{extract_place, TellsPlace, scale_spot, whole_spot, list_place, AreWhole}
use Rattle.stack_extract.specs.Places.{shift_spot, shift_place}

-- an error at a place tells it
pub told : (e : ExtractError) (p : ExtractPlace) (o : Option ExtractPlace) → e ≡ TooWide p → o ≡ Some p →
    TellsPlace e o
told e p o h g = subst (λ e. TellsPlace e o) (sym h) g

-- what is within the greatest number fits, and nothing else
same_test : (k : ℕ) → nat_le k greatest_number ≡ nat_lt k (2 ^ 127)
same_test k = grind arith

pub within_fits : (z : ℤ) → Within widest z → fits z ≡ true
within_fits z h = sym (same_test (nat_abs z)) ∙ le-leb (nat_abs z) greatest_number h

pub passing_fits : (z : ℤ) → ¬ (Within widest z) → fits z ≡ false
passing_fits z h = sym (same_test (nat_abs z)) ∙ lt-leb (nat_abs z) greatest_number (omega (arith, h))

-- an objective cell less 1
module _ (S : Shape) (T : Tabled Fraction) where
  pub shift_too_wide : (k : ℕ) (x y : Fraction) → k < S.rows → x ≡ bound_number S T k → y ≡ of (pos 1) →
      is_too_wide widest Difference x y ≡ true → first k (shift_spot S T) ≡ None →
      shift_place S T ≡ Some (extract_place Motion Shift k)
  shift_too_wide k x y l e f p h = first_found S.rows k (shift_spot S T) (extract_place Motion Shift k) l h
      (ap (λ b. only_if b (extract_place Motion Shift k)) (sym (λ i. is_too_wide widest Difference (e i) (f i)) ∙ p))

  pub shift_fits : (k : ℕ) (x y : Fraction) → x ≡ bound_number S T k → y ≡ of (pos 1) →
      is_too_wide widest Difference x y ≡ false → first k (shift_spot S T) ≡ None → first (k + 1)
      (shift_spot S T) ≡ None
  shift_fits k x y e f p h = first_more k (shift_spot S T) h
      (ap (λ b. only_if b (extract_place Motion Shift k)) (sym (λ i. is_too_wide widest Difference (e i) (f i)) ∙ p))

module _ (l : Numbers) (xs : List Fraction) where
  -- where the common scale of the items so far fits, it isn't the place; the first that is too wide is
  no_scale_spot : (i : ℕ) → scale_of (take (i + 1) xs) ≤ greatest_number → scale_spot l xs i ≡ None
  no_scale_spot i h = ap (λ b. only_if b (extract_place l Scale i))
      (le-ltb greatest_number (scale_of (take (i + 1) xs)) h)

  pub scale_too_wide : (i : ℕ) → IsFirstTooWide xs i → list_place l xs ≡ Some (extract_place l Scale i)
  scale_too_wide i h = ap (λ o. or_else o (first (length xs) (whole_spot l xs)))
      (first_found (length xs) i (scale_spot l xs) (extract_place l Scale i) h.below
      (first_all-none i (scale_spot l xs) (λ k m. no_scale_spot k (h.fits_before (k + 1) (omega (arith, m)))))
      (ap (λ b. only_if b (extract_place l Scale i)) (lt-ltb greatest_number
      (scale_of (take (i + 1) xs)) h.is_too_wide)))

  -- the common scale of the whole list fits
  abbrev pub ScaleFits : Type 0
  ScaleFits = (k : ℕ) → k ≤ length xs → scale_of (take k xs) ≤ greatest_number

  pub scale_fits : ScaleFits → list_place l xs ≡ first (length xs) (whole_spot l xs)
  scale_fits h = ap (λ o. or_else o (first (length xs) (whole_spot l xs)))
      (first_all-none (length xs) (scale_spot l xs) (λ k m. no_scale_spot k (h (k + 1) (omega (arith, m)))))

  mapped : (ys : List Fraction) (i : ℕ) (x : Fraction) → i < length ys →
      get_or (map (times_scale (scale_of xs)) ys) i (pos 0) ≡ times_scale (scale_of xs) (get_or ys i x)
  mapped [] i x m = absurd (omega (arith, m))
  mapped (y ∷ ys) zero x m = refl
  mapped (y ∷ ys) (suc i) x m = mapped ys i x (omega (arith, m))

  map_more : (ys zs : List Fraction) → map (times_scale (scale_of xs)) (ys ++ zs)
      ≡ map (times_scale (scale_of xs)) ys ++ map (times_scale (scale_of xs)) zs
  map_more [] zs = refl
  map_more (y ∷ ys) zs = ap (λ us. times_scale (scale_of xs) y ∷ us) (map_more ys zs)

  whole : {X : Type 0} (ys : List X) → take (length ys) ys ≡ ys
  whole [] = refl
  whole (y ∷ ys) = ap (λ zs. y ∷ zs) (whole ys)

  -- the whole number of item i, at the scale s
  number_is : (i : ℕ) (x : Fraction) (s : ℤ) → i < length xs → x ≡ get_or xs i x → s ≡ pos (scale_of xs) →
      times_scale (unsigned_abs s) x ≡ amount (whole_list xs) i
  number_is i x s m e h = (λ j. times_scale (unsigned_abs (h j)) (e j)) ∙ sym (mapped xs i x m)

  -- the scale is held as it is, and can be divided
  pub kept_scale : (n : ℤ) → n ≡ pos (scale_of xs) → ScaleFits → to_z w128 (of_z w128 n) ≡ pos (scale_of xs)
  kept_scale n e h = held (pos (scale_of xs)) n
      (omega (arith, ap scale_of (whole xs), h (length xs) (omega arith))) e

  pub scale_stands : (s : ℤ) → s ≡ pos (scale_of xs) → ScaleFits → Within widest s × (pos 0 ≺ s)
  scale_stands s e h = (
    omega (arith, ap nat_abs e, ap scale_of (whole xs), h (length xs) (omega arith)),
    omega (arith, ints, e, scale_positive xs),
  )

  -- the whole numbers of the first i items, and none of them is too wide
  pub record AreSoFar (i : ℕ) (zs : List ℤ) : Type 0 where
    pub numbers : zs ≡ map (times_scale (scale_of xs)) (take i xs)
    pub fit : first i (whole_spot l xs) ≡ None

  pub one_more : (i : ℕ) (zs us : List ℤ) (x : Fraction) (s n : ℤ) → i < length xs → x ≡ get_or xs i x →
      s ≡ pos (scale_of xs) → Within widest (times_scale (unsigned_abs s) x) → n ≡ times_scale
      (unsigned_abs s) x →
      us ≡ zs ++ n ∷ [] → AreSoFar i zs → AreSoFar (i + 1) us
  one_more i zs us x s n m e h w v u f = record {
    numbers = u ∙ (λ j. f.numbers j ++ (v ∙ number_is i x s m e h ∙ mapped xs i x m) j ∷ [])
        ∙ sym (ap (map (times_scale (scale_of xs))) (take_more xs i x m)
        ∙ map_more (take i xs) (get_or xs i x ∷ []));
    fit = first_more i (whole_spot l xs) f.fit (ap (λ b. only_if (not b) (extract_place l Whole i))
        (sym (ap fits (number_is i x s m e h)) ∙ within_fits (times_scale (unsigned_abs s) x) w));
  }

  pub passes_here : (i : ℕ) (zs : List ℤ) (x : Fraction) (s : ℤ) → i < length xs → x ≡ get_or xs i x →
      s ≡ pos (scale_of xs) → ¬ (Within widest (times_scale (unsigned_abs s) x)) → ScaleFits → AreSoFar i zs →
      list_place l xs ≡ Some (extract_place l Whole i)
  passes_here i zs x s m e h w k f = scale_fits k
      ∙ first_found (length xs) i (whole_spot l xs) (extract_place l Whole i) m f.fit
      (ap (λ b. only_if (not b) (extract_place l Whole i))
      (sym (ap fits (number_is i x s m e h)) ∙ passing_fits (times_scale (unsigned_abs s) x) w))

  pub all_whole : (i : ℕ) (zs : List ℤ) (n : ℤ) → length xs ≤ i → i ≤ length xs → n ≡ pos (scale_of xs) →
      ScaleFits →
      AreSoFar i zs → AreWhole l xs n zs
  all_whole i zs n a b e h f = let end : length xs ≡ i = omega (arith, a, b) in record {
    fits = scale_fits h ∙ ap (λ k. first k (whole_spot l xs)) end ∙ f.fit;
    scale_is = e;
    numbers = f.numbers ∙ ap (map (times_scale (scale_of xs))) (ap (λ k. take k xs) (sym end) ∙ whole xs);
  }
