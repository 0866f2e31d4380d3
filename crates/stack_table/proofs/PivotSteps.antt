-- A pivot row by row, over a block in three parts.
use Rattle.std.proofs.Common.{◌≡◌, ◌≢◌, refl, sym, ap, ◌∙◌, ℕ, suc, ◌<◌, ◌≤◌, ◌+◌, ◌-◌, ◌*◌, List, ◌++◌, length, get_or}
use Rattle.std.proofs.Common.{cond, Option, Some, None, arith, eq-eqb, ne_eqb, ℤ}
use Rattle.stack_rational.proofs.Common.{ℕ_discrete, dec_lt, Fraction, next, inv, ordered_fractions, first, or_else}
use Rattle.stack_rational.proofs.Common.{first_more, is_too_wide, fractions, pivoted-other, first_same}
use Rattle.stack_algebra.proofs.Pivots.{pivoted-own}
use Rattle.stack_algebra.proofs.Search.{first_join, first_further}
use Rattle.stack_table.specs.declared.types.PivotWide.{PivotWide}
use Rattle.stack_table.specs.Block.{item_value, cell_of}
use Rattle.stack_table.specs.Spots.{divided, reduced, divide_spot, reduce_spot, rows_spot, row_spot, cells_spot}
use Rattle.stack_table.proofs.Blocks.{value_at-index}
use Rattle.stack_table.proofs.BlockRows.{cell_above, cell_own, cell_below}
use Rattle.stack_table.proofs.RowSteps.{divide_same, reduce_same, reduced_same, divided_same}

-- the first place of a pivot that is too wide, row by row
module _ (m : ℤ) (width : ℕ) (cell : ℕ → ℕ → Fraction) (r c : ℕ) where
  pub pivot_row : (j : ℕ) → next ordered_fractions cell r c r j ≡ divided ordered_fractions (cell r)
      (cell r c) j
  pivot_row j = ap (λ (f : ℕ → Fraction). f j) (pivoted-own fractions cell (inv (cell r c)) r c)

  pub other_row : (i j : ℕ) → i ≢ r → next ordered_fractions cell r c i j
      ≡ reduced ordered_fractions (cell i) (divided ordered_fractions (cell r) (cell r c)) (cell i c) j
  other_row i j d = ap (λ (f : ℕ → Fraction). f j) (pivoted-other fractions cell (inv (cell r c)) r c i d)

  pub spot_own : (i : ℕ) → i ≡ r → row_spot ordered_fractions (is_too_wide m) width cell r c i ≡ None
  spot_own i e = ap (λ b. cond b None
      (reduce_spot ordered_fractions (is_too_wide m) width (cell i) (divided ordered_fractions (cell r) (cell r c))
      (cell i c) i)) (eq-eqb i r e)

  pub spot_other : (i : ℕ) → i ≢ r → row_spot ordered_fractions (is_too_wide m) width cell r c i
      ≡ reduce_spot ordered_fractions (is_too_wide m) width (cell i)
      (divided ordered_fractions (cell r) (cell r c)) (cell i c) i
  spot_other i d = ap (λ b. cond b None
      (reduce_spot ordered_fractions (is_too_wide m) width (cell i) (divided ordered_fractions (cell r) (cell r c))
      (cell i c) i)) (ne_eqb i r d)

-- the three parts of a block, and the pivot's divisor x
pub record IsSplit {V : Type 0} (e : V → Fraction) (w r c : ℕ) (cells above own below : List V) (x : V) : Type 0 where
  pub whole : cells ≡ above ++ (own ++ below)
  pub rows_above : length above ≡ r * w
  pub row_length : length own ≡ w
  pub column_in : c < w
  pub divisor : x ≡ get_or own c x

-- the pivot's row is divided
pub record IsOwnDivided {V : Type 0} (e : V → Fraction) (m : ℤ) (r : ℕ) (own new : List V) (x : V) : Type 0 where
  pub long : length new ≡ length own
  pub value : (j : ℕ) → item_value e new j ≡ divided ordered_fractions (item_value e own) (e x) j
  pub none : divide_spot ordered_fractions (is_too_wide m) (length own) (item_value e own) (e x) r ≡ None

module _ {V : Type 0} {e : V → Fraction} (m : ℤ) {w r c : ℕ} {cells above own below : List V} {x : V}
    (s : IsSplit e w r c cells above own below x) where
  abbrev old : ℕ → ℕ → Fraction
  old = cell_of e w cells

  own_is : (j : ℕ) → item_value e own j ≡ old r j
  own_is j = sym (ap (λ ys. cell_of e w ys r j) s.whole ∙ cell_own e w r above own below s.rows_above s.row_length j)

  pub divisor_is : e x ≡ old r c
  divisor_is = sym (value_at-index e own c x (omega (arith, s.row_length, s.column_in)) s.divisor) ∙ own_is c

  above_is : (i j : ℕ) → i < r → cell_of e w above i j ≡ old i j
  above_is i j l = sym (ap (λ ys. cell_of e w ys i j) s.whole
      ∙ cell_above e w r above own below s.rows_above s.row_length i j l)

  below_is : (i j : ℕ) → cell_of e w below i j ≡ old (r + 1 + i) j
  below_is i j = sym (ap (λ ys. cell_of e w ys (r + 1 + i) j) s.whole
      ∙ cell_below e w r above own below s.rows_above s.row_length i j)

  divide_is : divide_spot ordered_fractions (is_too_wide m) (length own) (item_value e own) (e x) r
      ≡ divide_spot ordered_fractions (is_too_wide m) w (old r) (old r c) r
  divide_is = divide_same m r (length own) w (item_value e own) (old r) (e x) (old r c) s.row_length own_is divisor_is

  pub spot_dividing : (h : ℕ) (p : PivotWide) →
      divide_spot ordered_fractions (is_too_wide m) (length own) (item_value e own) (e x) r ≡ Some p →
      cells_spot ordered_fractions (is_too_wide m) h w old r c ≡ Some p
  spot_dividing h p k = ap (λ o. or_else o (first h (row_spot ordered_fractions (is_too_wide m) w old r c)))
      (sym divide_is ∙ k)

  -- once the row is divided
  module _ {new : List V} (d : IsOwnDivided e m r own new x) where
    new_is : (j : ℕ) → item_value e new j ≡ divided ordered_fractions (old r) (old r c) j
    new_is j = d.value j ∙ divided_same (item_value e own) (old r) (e x) (old r c) j (own_is j) divisor_is

    wide : length new ≡ w
    wide = d.long ∙ s.row_length

    rest : (h : ℕ) → cells_spot ordered_fractions (is_too_wide m) h w old r c ≡ first h
        (row_spot ordered_fractions (is_too_wide m) w old r c)
    rest h = ap (λ o. or_else o (first h (row_spot ordered_fractions (is_too_wide m) w old r c)))
        (sym divide_is ∙ d.none)

    row_is : (i row : ℕ) (p : ℕ → Fraction) → i ≢ r → row ≡ i → ((j : ℕ) → p j ≡ old i j) →
        reduce_spot ordered_fractions (is_too_wide m) w p (item_value e new) (p c) row ≡ row_spot ordered_fractions
        (is_too_wide m) w old r c i
    row_is i row p n k h = ap (reduce_spot ordered_fractions (is_too_wide m) w p (item_value e new) (p c)) k
        ∙ reduce_same m i w w p (old i) (item_value e new) (divided ordered_fractions (old r) (old r c)) (p c)
        (old i c) refl h new_is (h c)
        ∙ sym (spot_other m w old r c i n)

    above_spot : rows_spot ordered_fractions (is_too_wide m) r (length new) (cell_of e (length new) above)
        (item_value e new) c 0
        ≡ first r (row_spot ordered_fractions (is_too_wide m) w old r c)
    above_spot = ap (λ n. rows_spot ordered_fractions (is_too_wide m) r n (cell_of e n above) (item_value e new) c 0)
        wide
        ∙ first_same r _ (row_spot ordered_fractions (is_too_wide m) w old r c)
        (λ i l. row_is i (0 + i) (cell_of e w above i) (λ d. omega (arith, l, d)) (omega arith)
        (λ j. above_is i j l))

    pub spot_above : (h : ℕ) (p : PivotWide) → r ≤ h →
        rows_spot ordered_fractions (is_too_wide m) r (length new) (cell_of e (length new) above)
        (item_value e new) c 0 ≡ Some p →
        cells_spot ordered_fractions (is_too_wide m) h w old r c ≡ Some p
    spot_above h p l k = rest h
        ∙ first_further r h (row_spot ordered_fractions (is_too_wide m) w old r c) p l (sym above_spot ∙ k)

    pub spot_below : (h : ℕ) (o : Option PivotWide) → r ≤ h →
        rows_spot ordered_fractions (is_too_wide m) r (length new) (cell_of e (length new) above)
        (item_value e new) c 0 ≡ None →
        rows_spot ordered_fractions (is_too_wide m) (h - r) (length new) (cell_of e (length new) below)
        (item_value e new) c (r + 1) ≡ o →
        cells_spot ordered_fractions (is_too_wide m) (suc h) w old r c ≡ o
    spot_below h o l n k = let many : suc h ≡ r + 1 + (h - r) = omega (arith, l) in
        rest (suc h) ∙ ap (λ z. first z (row_spot ordered_fractions (is_too_wide m) w old r c)) many
        ∙ first_join (r + 1) (h - r) (row_spot ordered_fractions (is_too_wide m) w old r c)
        (first_more r (row_spot ordered_fractions (is_too_wide m) w old r c) (sym above_spot ∙ n)
        (spot_own m w old r c r refl))
        ∙ sym (first_same (h - r) _ (λ k. row_spot ordered_fractions (is_too_wide m) w old r c (r + 1 + k))
        (λ i l. row_is (r + 1 + i) (r + 1 + i) (cell_of e w below i) (λ d. omega (arith, d)) refl
        (below_is i)))
        ∙ sym (ap (λ n. rows_spot ordered_fractions (is_too_wide m) (h - r) n (cell_of e n below)
        (item_value e new) c (r + 1)) wide) ∙ k

    -- the block once the other rows are reduced
    pub after : (above' below' : List V) → length above' ≡ length above →
        ((i j : ℕ) → cell_of e (length new) above' i j ≡ reduced ordered_fractions
        (cell_of e (length new) above i) (item_value e new) (cell_of e (length new) above i c) j) →
        ((i j : ℕ) → cell_of e (length new) below' i j ≡ reduced ordered_fractions
        (cell_of e (length new) below i) (item_value e new) (cell_of e (length new) below i c) j) →
        (i j : ℕ) → cell_of e w (above' ++ (new ++ below')) i j ≡ next ordered_fractions old r c i j
    after above' below' ls ha hb i j = go (ℕ_discrete i r) (dec_lt i r)
      where
        la' : length above' ≡ r * w
        la' = ls ∙ s.rows_above

        value : (i : ℕ) (p : ℕ → Fraction) → i ≢ r → ((j : ℕ) → p j ≡ old i j) →
            reduced ordered_fractions p (item_value e new) (p c) j ≡ next ordered_fractions old r c i j
        value i p d h = reduced_same p (old i) (item_value e new) (divided ordered_fractions (old r) (old r c))
            (p c) (old i c) j (h j) (new_is j) (h c)
            ∙ sym (other_row m w old r c i j d)

        go : Dec (i ≡ r) → Dec (i < r) →
            cell_of e w (above' ++ (new ++ below')) i j ≡ next ordered_fractions old r c i j
        go (yes d) k = ap (λ z. cell_of e w (above' ++ (new ++ below')) z j) d
            ∙ cell_own e w r above' new below' la' wide j
            ∙ new_is j ∙ sym (pivot_row m w old r c j) ∙ ap (λ z. next ordered_fractions old r c z j) (sym d)
        go (no d) (yes l) = cell_above e w r above' new below' la' wide i j l
            ∙ sym (ap (λ n. cell_of e n above' i j) wide) ∙ ha i j
            ∙ ap (λ n. reduced ordered_fractions (cell_of e n above i) (item_value e new)
            (cell_of e n above i c) j) wide
            ∙ value i (cell_of e w above i) d (λ j. above_is i j l)
        go (no d) (no l) = let k : i ≡ r + 1 + (i - (r + 1)) = omega (arith, d, l) in
            ap (λ z. cell_of e w (above' ++ (new ++ below')) z j) k
            ∙ cell_below e w r above' new below' la' wide (i - (r + 1)) j
            ∙ sym (ap (λ n. cell_of e n below' (i - (r + 1)) j) wide) ∙ hb (i - (r + 1)) j
            ∙ ap (λ n. reduced ordered_fractions (cell_of e n below (i - (r + 1))) (item_value e new)
            (cell_of e n below (i - (r + 1)) c) j) wide
            ∙ value (r + 1 + (i - (r + 1))) (cell_of e w below (i - (r + 1))) (λ p. omega (arith, p))
            (below_is (i - (r + 1)))
            ∙ ap (λ z. next ordered_fractions old r c z j) (sym k)
