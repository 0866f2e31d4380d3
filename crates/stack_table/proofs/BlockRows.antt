-- A block in parts: the rows above a row, that row, and the rows below it.
use Rattle.std.proofs.Common.{◌≡◌, ◌≢◌, refl, sym, ap, ◌∙◌, ℕ, suc, ◌<◌, ◌≤◌, ◌+◌, ◌-◌, ◌*◌, List, [], ◌++◌, map}
use Rattle.std.proofs.Common.{length, get_or, take, drop, arith, Bool, true, cond, length-append, length-drop}
use Rattle.std.proofs.Common.{append-nil, get_or-append-add, get_or-take, get_or-drop, take-append-drop, length-take-le}
use Rattle.std.proofs.Common.{lt-ltb, le-ltb, ℤ, pos}
use Rattle.stack_rational.proofs.Common.{get_or_past, length-map, dec_lt, Fraction, of, fraction_fits, is_zero}
use Rattle.stack_rational.proofs.Common.{get_or_append_left}
use Rattle.std.proofs.lemmas.List.{map-append, take-map, drop-map}
use Rattle.std.proofs.lemmas.Nat.{mul-le}
use Rattle.std.proofs.Math.Nat.{add-mul, suc-mul}
use borrow.Rule.Slice.PartMut.{put_mid}
use Rattle.stack_table.specs.Block.{item_value, mark_at, cell_of, IsBlock}
use Rattle.stack_rational.proofs.Fitting.{is_zero-of}
use Rattle.stack_table.proofs.Blocks.{value_at-past}

-- a row of a block of n rows
pub row_in : (i n w size : ℕ) → i < n → size ≡ n * w → i * w + w ≤ size
row_in i n w size l e = omega (arith, e, suc-mul i w, mul-le (suc i) w n w l (omega arith))

module _ {V : Type 0} (e : V → Fraction) where
  pub value_at-left : (xs ys : List V) (k : ℕ) → k < length xs → item_value e (xs ++ ys) k ≡ item_value e xs k
  value_at-left xs ys k l = ap (λ zs. get_or zs k (of (pos 0))) (map-append e xs ys)
      ∙ get_or_append_left (map e xs) (map e ys) (of (pos 0)) k (omega (arith, l, length-map xs e))

  pub value_at-right : (xs ys : List V) (n k : ℕ) → length xs ≡ n →
      item_value e (xs ++ ys) (n + k) ≡ item_value e ys k
  value_at-right xs ys n k l = ap (λ zs. get_or zs (n + k) (of (pos 0))) (map-append e xs ys)
      ∙ ap (λ z. get_or (map e xs ++ map e ys) (z + k) (of (pos 0))) (sym l ∙ sym (length-map xs e))
      ∙ get_or-append-add (map e xs) (map e ys) k (of (pos 0))

  value_at-take : (n : ℕ) (xs : List V) (k : ℕ) → k < n → item_value e (take n xs) k ≡ item_value e xs k
  value_at-take n xs k l = ap (λ zs. get_or zs k (of (pos 0))) (sym (take-map e n xs))
      ∙ get_or-take n (map e xs) k (of (pos 0)) l

  value_at-drop : (n : ℕ) (xs : List V) (k : ℕ) → item_value e (drop n xs) k ≡ item_value e xs (n + k)
  value_at-drop n xs k = ap (λ zs. get_or zs k (of (pos 0))) (sym (drop-map e n xs))
      ∙ get_or-drop n (map e xs) k (of (pos 0))

  -- a cell within a row's width, and past it
  pub cell_in : (w : ℕ) (xs : List V) (i j : ℕ) → j < w → cell_of e w xs i j ≡ item_value e xs (i * w + j)
  cell_in w xs i j l = ap (λ b. cond b (item_value e xs (i * w + j)) (of (pos 0))) (lt-ltb j w l)

  pub cell_past : (w : ℕ) (xs : List V) (i j : ℕ) → w ≤ j → cell_of e w xs i j ≡ of (pos 0)
  cell_past w xs i j l = ap (λ b. cond b (item_value e xs (i * w + j)) (of (pos 0))) (le-ltb j w l)

  pub cell_outside : (w n : ℕ) (xs : List V) (i j : ℕ) → length xs ≡ n * w → n ≤ i →
      cell_of e w xs i j ≡ of (pos 0)
  cell_outside w n xs i j h l = elim (dec_lt j w) [
    | yes k ↦ cell_in w xs i j k
        ∙ value_at-past e xs (i * w + j) (omega (arith, h, mul-le n w i w l (omega arith)))
    | no k ↦ cell_past w xs i j (omega (arith, k))
  ]

  module _ (w r : ℕ) (above own below : List V) (la : length above ≡ r * w) (lo : length own ≡ w) where
    pub cell_above : (i j : ℕ) → i < r → cell_of e w (above ++ (own ++ below)) i j ≡ cell_of e w above i j
    cell_above i j l = elim (dec_lt j w) [
      | yes k ↦ cell_in w _ i j k
          ∙ value_at-left above (own ++ below) (i * w + j)
          (omega (arith, la, row_in i r w (r * w) l refl, k)) ∙ sym (cell_in w above i j k)
      | no k ↦ cell_past w _ i j (omega (arith, k)) ∙ sym (cell_past w above i j (omega (arith, k)))
    ]

    pub cell_own : (j : ℕ) → cell_of e w (above ++ (own ++ below)) r j ≡ item_value e own j
    cell_own j = elim (dec_lt j w) [
      | yes k ↦ cell_in w _ r j k ∙ value_at-right above (own ++ below) (r * w) j la
          ∙ value_at-left own below j (omega (arith, lo, k))
      | no k ↦ cell_past w _ r j (omega (arith, k)) ∙ sym (value_at-past e own j (omega (arith, lo, k)))
    ]

    pub cell_below : (i j : ℕ) → cell_of e w (above ++ (own ++ below)) (r + 1 + i) j ≡ cell_of e w below i j
    cell_below i j = go (dec_lt j w)
      where
        place : (r + 1 + i) * w + j ≡ r * w + (w + (i * w + j))
        place = omega (arith, add-mul (r + 1) i w, add-mul r 1 w)

        go : Dec (j < w) → cell_of e w (above ++ (own ++ below)) (r + 1 + i) j ≡ cell_of e w below i j
        go (yes k) = cell_in w _ (r + 1 + i) j k ∙ ap (item_value e (above ++ (own ++ below))) place
            ∙ value_at-right above (own ++ below) (r * w) (w + (i * w + j)) la
            ∙ value_at-right own below w (i * w + j) lo ∙ sym (cell_in w below i j k)
        go (no k) = cell_past w _ (r + 1 + i) j (omega (arith, k))
            ∙ sym (cell_past w below i j (omega (arith, k)))

  -- a row is put in the place of another
  pub other_kept : (w r : ℕ) (above own new below : List V) → length above ≡ r * w → length own ≡ w →
      length new ≡ w → (i j : ℕ) → i ≢ r →
      cell_of e w (above ++ (new ++ below)) i j ≡ cell_of e w (above ++ (own ++ below)) i j
  other_kept w r above own new below la lo ln i j d = elim (dec_lt i r) [
    | yes l ↦ cell_above w r above new below la ln i j l
        ∙ sym (cell_above w r above own below la lo i j l)
    | no l ↦ let k : i ≡ r + 1 + (i - (r + 1)) = omega (arith, l, d) in
        ap (λ z. cell_of e w (above ++ (new ++ below)) z j) k
        ∙ cell_below w r above new below la ln (i - (r + 1)) j
        ∙ sym (cell_below w r above own below la lo (i - (r + 1)) j)
        ∙ ap (λ z. cell_of e w (above ++ (own ++ below)) z j) (sym k)
  ]

  -- a last row is put behind the rows above it
  pub last_own : (w r : ℕ) (above last : List V) → length above ≡ r * w → length last ≡ w → (j : ℕ) →
      cell_of e w (above ++ last) r j ≡ item_value e last j
  last_own w r above last la ll j = ap (λ ys. cell_of e w (above ++ ys) r j) (sym (append-nil last))
      ∙ cell_own w r above last [] la ll j

  pub last_kept : (w r : ℕ) (above last new : List V) → length above ≡ r * w → length last ≡ w →
      length new ≡ w → (i j : ℕ) → i ≢ r →
      cell_of e w (above ++ new) i j ≡ cell_of e w (above ++ last) i j
  last_kept w r above last new la ll ln i j d =
      ap (λ ys. cell_of e w (above ++ ys) i j) (sym (append-nil new))
      ∙ other_kept w r above last new [] la ll ln i j d
      ∙ ap (λ ys. cell_of e w (above ++ ys) i j) (append-nil last)

  module _ (m : ℤ) where
    pub zero_fits : (cells : List V) (marks : List Bool) → IsBlock m e cells marks → fraction_fits m (of (pos 0)) ≡ true
    zero_fits cells marks h = ap (fraction_fits m) (sym (value_at-past e cells (length cells) (omega arith)))
        ∙ h.fitting (length cells)

    pub block_join : (xs ys : List V) (ms ns : List Bool) → IsBlock m e xs ms → IsBlock m e ys ns →
        IsBlock m e (xs ++ ys) (ms ++ ns)
    block_join xs ys ms ns h k = record {
      same = omega (arith, length-append ms ns, length-append xs ys, h.same, k.same);
      marked = λ i. mark i (dec_lt i (length xs));
      fitting = λ i. fit i (dec_lt i (length xs));
    }
      where
        mark : (i : ℕ) → Dec (i < length xs) → mark_at (ms ++ ns) i ≡ is_zero (item_value e (xs ++ ys) i)
        mark i (yes l) = get_or_append_left ms ns true i (omega (arith, l, h.same)) ∙ h.marked i
            ∙ ap is_zero (sym (value_at-left xs ys i l))
        mark i (no l) = let p : i ≡ length xs + (i - length xs) = omega (arith, l) in
            ap (mark_at (ms ++ ns)) (p ∙ ap (λ z. z + (i - length xs)) (sym h.same))
            ∙ get_or-append-add ms ns (i - length xs) true
            ∙ k.marked (i - length xs)
            ∙ ap is_zero (sym (ap (item_value e (xs ++ ys)) p
            ∙ value_at-right xs ys (length xs) (i - length xs) refl))

        fit : (i : ℕ) → Dec (i < length xs) → fraction_fits m (item_value e (xs ++ ys) i) ≡ true
        fit i (yes l) = ap (fraction_fits m) (value_at-left xs ys i l) ∙ h.fitting i
        fit i (no l) = let p : i ≡ length xs + (i - length xs) = omega (arith, l) in
            ap (fraction_fits m) (ap (item_value e (xs ++ ys)) p
            ∙ value_at-right xs ys (length xs) (i - length xs) refl)
            ∙ k.fitting (i - length xs)

    pub block_take : (n : ℕ) (xs : List V) (ms : List Bool) → n ≤ length xs → IsBlock m e xs ms →
        IsBlock m e (take n xs) (take n ms)
    block_take n xs ms r h = record {
      same = length-take-le n ms (omega (arith, r, h.same)) ∙ sym (length-take-le n xs r);
      marked = λ i. mark i (dec_lt i n);
      fitting = λ i. fit i (dec_lt i n);
    }
      where
        past : (i : ℕ) → n ≤ i → item_value e (take n xs) i ≡ of (pos 0)
        past i l = value_at-past e (take n xs) i (omega (arith, length-take-le n xs r, l))

        mark : (i : ℕ) → Dec (i < n) → mark_at (take n ms) i ≡ is_zero (item_value e (take n xs) i)
        mark i (yes l) = get_or-take n ms i true l ∙ h.marked i ∙ ap is_zero (sym (value_at-take n xs i l))
        mark i (no l) = get_or_past (take n ms) i true
            (omega (arith, length-take-le n ms (omega (arith, r, h.same)), l))
            ∙ sym (ap is_zero (past i (omega (arith, l))) ∙ is_zero-of)

        fit : (i : ℕ) → Dec (i < n) → fraction_fits m (item_value e (take n xs) i) ≡ true
        fit i (yes l) = ap (fraction_fits m) (value_at-take n xs i l) ∙ h.fitting i
        fit i (no l) = ap (fraction_fits m) (past i (omega (arith, l))) ∙ zero_fits xs ms h

    pub block_drop : (n : ℕ) (xs : List V) (ms : List Bool) → IsBlock m e xs ms →
        IsBlock m e (drop n xs) (drop n ms)
    block_drop n xs ms h = record {
      same = omega (arith, length-drop n xs, length-drop n ms, h.same);
      marked = λ i. get_or-drop n ms i true ∙ h.marked (n + i) ∙ ap is_zero (sym (value_at-drop n xs i));
      fitting = λ i. ap (fraction_fits m) (value_at-drop n xs i) ∙ h.fitting (n + i);
    }

    -- every cell of a block fits
    pub fits_cell : (w : ℕ) (xs : List V) (ms : List Bool) (i j : ℕ) → IsBlock m e xs ms →
        fraction_fits m (cell_of e w xs i j) ≡ true
    fits_cell w xs ms i j h = elim (dec_lt j w) [
      | yes l ↦ ap (fraction_fits m) (cell_in w xs i j l) ∙ h.fitting (i * w + j)
      | no l ↦ ap (fraction_fits m) (cell_past w xs i j (omega (arith, l))) ∙ zero_fits xs ms h
    ]

    -- row i of a block, lent as a slice, and written back
    module _ (w i : ℕ) (xs : List V) (ms : List Bool) (h : IsBlock m e xs ms)
        (l : i * w + w ≤ length xs) where
      many : i * w + w - i * w ≡ w
      many = omega arith

      la : length (take (i * w) xs) ≡ i * w
      la = length-take-le (i * w) xs (omega (arith, l))

      pub part_length : length (take (i * w + w - i * w) (drop (i * w) xs)) ≡ w
      part_length = length-take-le (i * w + w - i * w) (drop (i * w) xs)
          (omega (arith, length-drop (i * w) xs, l)) ∙ many

      pub part_block : IsBlock m e (take (i * w + w - i * w) (drop (i * w) xs))
          (take (i * w + w - i * w) (drop (i * w) ms))
      part_block = block_take (i * w + w - i * w) (drop (i * w) xs) (drop (i * w) ms)
          (omega (arith, length-drop (i * w) xs, l)) (block_drop (i * w) xs ms h)

      apart : xs ≡ take (i * w) xs ++
          (take (i * w + w - i * w) (drop (i * w) xs) ++ drop (i * w + w - i * w) (drop (i * w) xs))
      apart = sym (ap (λ ys. take (i * w) xs ++ ys) (take-append-drop (i * w + w - i * w) (drop (i * w) xs))
          ∙ take-append-drop (i * w) xs)

      pub part_value : (j : ℕ) →
          item_value e (take (i * w + w - i * w) (drop (i * w) xs)) j ≡ cell_of e w xs i j
      part_value j = sym (ap (λ ys. cell_of e w ys i j) apart
          ∙ cell_own w i (take (i * w) xs) _ _ la part_length j)

      pub put_block : (ys : List V) (ns : List Bool) → IsBlock m e ys ns →
          IsBlock m e (put_mid (i * w) (i * w + w - i * w) xs ys) (put_mid (i * w) (i * w + w - i * w) ms ns)
      put_block ys ns k = block_join _ _ _ _ (block_take (i * w) xs ms (omega (arith, l)) h)
          (block_join _ _ _ _ k
          (block_drop (i * w + w - i * w) (drop (i * w) xs) (drop (i * w) ms)
          (block_drop (i * w) xs ms h)))

      pub put_own : (ys : List V) (j : ℕ) → length ys ≡ w →
          cell_of e w (put_mid (i * w) (i * w + w - i * w) xs ys) i j ≡ item_value e ys j
      put_own ys j n = cell_own w i (take (i * w) xs) ys (drop (i * w + w - i * w) (drop (i * w) xs)) la n j

      pub put_other : (ys : List V) (k j : ℕ) → length ys ≡ w → k ≢ i →
          cell_of e w (put_mid (i * w) (i * w + w - i * w) xs ys) k j ≡ cell_of e w xs k j
      put_other ys k j n d = other_kept w i (take (i * w) xs) (take (i * w + w - i * w) (drop (i * w) xs)) ys
          (drop (i * w + w - i * w) (drop (i * w) xs)) la part_length n k j d
          ∙ ap (λ zs. cell_of e w zs k j) (sym apart)
