-- A block in parts, as two splits lend it, and a block of rows above its last row.
use Rattle.std.proofs.Common.{◌≡◌, refl, sym, ap, ◌∙◌, ℕ, zero, suc, ◌<◌, ◌≤◌, ◌+◌, ◌*◌, List, [], ◌∷◌, ◌++◌, length}
use Rattle.std.proofs.Common.{take, drop, arith, Bool, true, length-drop, append-nil, subst₂, ℤ, take-append-drop}
use Rattle.std.proofs.Common.{length-take-le}
use Rattle.stack_rational.proofs.Common.{ℕ_discrete, Fraction, changed, changed-same, changed-other, fraction_fits}
use Rattle.stack_rational.proofs.Common.{is_zero}
use Rattle.std.proofs.Math.Nat.{suc-mul}
use Rattle.stack_table.specs.Block.{item_value, mark_at, cell_of, IsBlock}
use Rattle.stack_rational.proofs.Fitting.{is_zero-of}
use Rattle.stack_table.proofs.BlockRows.{value_at-right, cell_above, last_own, last_kept, block_join, block_take}
use Rattle.stack_table.proofs.BlockRows.{zero_fits, block_drop}

-- the blocks of three parts, lent by two splits
pub record Parted {V : Type 0} (m : ℤ) (e : V → Fraction) (above own below : List V)
    (ms os bs : List Bool) : Type 0 where
  pub above_is : IsBlock m e above ms
  pub own_is : IsBlock m e own os
  pub below_is : IsBlock m e below bs

module _ {V : Type 0} (e : V → Fraction) (m : ℤ) where
  pub parted : (cells : List V) (marks : List Bool) (n w : ℕ) → n + w ≤ length cells →
      IsBlock m e cells marks →
      (above rest own below : List V) (ms ts os bs : List Bool) → above ≡ take n cells → rest ≡ drop n cells →
      own ≡ take w rest → below ≡ drop w rest → ms ≡ take n marks → ts ≡ drop n marks → os ≡ take w ts →
      bs ≡ drop w ts →
      Parted m e above own below ms os bs
  parted cells marks n w l h above rest own below ms ts os bs ea er eo eb fa fr fo fb = record {
    above_is = subst₂ (λ (xs : List V) (ns : List Bool). IsBlock m e xs ns) (sym ea) (sym fa)
        (block_take e m n cells marks (omega (arith, l)) h);
    own_is = subst₂ (λ (xs : List V) (ns : List Bool). IsBlock m e xs ns) (ap (take w) (sym er) ∙ sym eo)
        (ap (take w) (sym fr) ∙ sym fo)
        (block_take e m w (drop n cells) (drop n marks) (omega (arith, l, length-drop n cells))
        (block_drop e m n cells marks h));
    below_is = subst₂ (λ (xs : List V) (ns : List Bool). IsBlock m e xs ns) (ap (drop w) (sym er) ∙ sym eb)
        (ap (drop w) (sym fr) ∙ sym fb)
        (block_drop e m w (drop n cells) (drop n marks) (block_drop e m n cells marks h));
  }

  pub block_three : (above own below : List V) (ms os bs : List Bool) → IsBlock m e above ms →
      IsBlock m e own os → IsBlock m e below bs →
      IsBlock m e (above ++ (own ++ below)) (ms ++ (os ++ bs))
  block_three above own below ms os bs h k l =
      block_join e m above (own ++ below) ms (os ++ bs) h (block_join e m own below os bs k l)

  -- a list with one more cell
  pub pushed_last : (xs : List V) (x : V) (n : ℕ) → length xs ≡ n → item_value e (xs ++ x ∷ []) n ≡ e x
  pushed_last xs x n l = let z : n ≡ n + 0 = omega arith in ap (item_value e (xs ++ x ∷ [])) z
      ∙ value_at-right e xs (x ∷ []) n 0 l

  pub block_push : (xs : List V) (ms : List Bool) (x : V) (b : Bool) → IsBlock m e xs ms → b ≡ is_zero (e x) →
      fraction_fits m (e x) ≡ true →
      IsBlock m e (xs ++ x ∷ []) (ms ++ b ∷ [])
  block_push xs ms x b h eb f =
      block_join e m xs (x ∷ []) ms (b ∷ []) h (record { same = refl; marked = mark; fitting = fit })
    where
      mark : (k : ℕ) → mark_at (b ∷ []) k ≡ is_zero (item_value e (x ∷ []) k)
      mark zero = eb
      mark (suc k) = sym is_zero-of

      fit : (k : ℕ) → fraction_fits m (item_value e (x ∷ []) k) ≡ true
      fit zero = f
      fit (suc k) = zero_fits e m xs ms h

-- a block of rows above its last row
pub record EndsIn {V : Type 0} (w r : ℕ) (cells above last : List V) : Type 0 where
  pub whole : cells ≡ above ++ last
  pub rows_above : length above ≡ r * w
  pub row_length : length last ≡ w

module _ {V : Type 0} (e : V → Fraction) {w r : ℕ} {cells above last : List V} (p : EndsIn w r cells above last) where
  pub first_rows : (i j : ℕ) → i < r → cell_of e w above i j ≡ cell_of e w cells i j
  first_rows i j l = sym (ap (λ ys. cell_of e w ys i j) p.whole
      ∙ ap (λ ys. cell_of e w (above ++ ys) i j) (sym (append-nil last))
      ∙ cell_above e w r above last [] p.rows_above p.row_length i j l)

  -- a block with another last row
  pub last_changed : (new : List V) (o : ℕ → Fraction) → length new ≡ length last →
      ((j : ℕ) → item_value e new j ≡ o j) →
      (i j : ℕ) → cell_of e w (above ++ new) i j ≡ changed (cell_of e w cells) r o i j
  last_changed new o ln h i j = elim (ℕ_discrete i r) [
    | yes d ↦ ap (λ z. cell_of e w (above ++ new) z j) d
        ∙ last_own e w r above new p.rows_above (ln ∙ p.row_length) j ∙ h j
        ∙ sym (ap (λ z. changed (cell_of e w cells) r o z j) d
        ∙ ap (λ (f : ℕ → Fraction). f j) (changed-same (cell_of e w cells) r o))
    | no d ↦ last_kept e w r above last new p.rows_above p.row_length (ln ∙ p.row_length) i j d
        ∙ ap (λ ys. cell_of e w ys i j) (sym p.whole)
        ∙ sym (ap (λ (f : ℕ → Fraction). f j) (changed-other (cell_of e w cells) r o i d))
  ]

-- the length of the last row
pub last_length : (r w n last : ℕ) → n ≡ suc r * w → last + r * w ≡ n → last ≡ w
last_length r w n last e h = omega (arith, e, h, suc-mul r w)

-- a block of rows, split above its last row
pub record LastSplit {V : Type 0} (m : ℤ) (e : V → Fraction) (w r : ℕ) (cells above last : List V)
    (ms ns : List Bool) : Type 0 where
  pub above_is : IsBlock m e above ms
  pub last_is : IsBlock m e last ns
  pub ends : EndsIn w r cells above last

-- what two splits above the last row lend of a block and its marks
pub last_split : {V : Type 0} (e : V → Fraction) (m : ℤ) {w r : ℕ} {cells above last : List V}
    {marks ms ns : List Bool} → length cells ≡ suc r * w → IsBlock m e cells marks →
    above ≡ take (r * w) cells → last ≡ drop (r * w) cells → ms ≡ take (r * w) marks → ns ≡ drop (r * w) marks →
    LastSplit m e w r cells above last ms ns
last_split {V} e m {w} {r} {cells} {above} {last} {marks} n h ea el fa fl =
    let k : r * w ≤ length cells = omega (arith, n, suc-mul r w) in record {
      above_is = subst₂ (λ (xs : List V) (bs : List Bool). IsBlock m e xs bs) (sym ea) (sym fa)
          (block_take e m (r * w) cells marks k h);
      last_is = subst₂ (λ (xs : List V) (bs : List Bool). IsBlock m e xs bs) (sym el) (sym fl)
          (block_drop e m (r * w) cells marks h);
      ends = record {
        whole = sym (take-append-drop (r * w) cells) ∙ (λ i. sym ea i ++ sym el i);
        rows_above = ap length ea ∙ length-take-le (r * w) cells k;
        row_length = ap length el ∙ last_length r w (length cells) (length (drop (r * w) cells)) n
            (omega (arith, k, length-drop (r * w) cells));
      };
    }
