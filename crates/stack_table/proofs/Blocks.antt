-- The fractions of a list that is written item by item, and the marks beside it.
use Rattle.std.proofs.Common.{◌≡◌, ◌≢◌, sym, ap, ◌∙◌, ℕ, suc, ◌<◌, ◌≤◌, List, map, length, get_or, set, arith, Bool}
use Rattle.std.proofs.Common.{true, get_or-set_same, get_or-set_other, length-set, ℤ, pos}
use Rattle.stack_rational.proofs.Common.{length-map, get_or_past, ℕ_discrete, dec_lt, Fraction, of, fraction_fits}
use Rattle.stack_rational.proofs.Common.{is_zero, get_or-map}
use Rattle.std.proofs.lemmas.List.{map-set}
use Rattle.stack_table.specs.Block.{item_value, mark_at, IsBlock}

module _ {V : Type 0} (e : V → Fraction) where
  pub value_at-past : (xs : List V) (j : ℕ) → length xs ≤ j → item_value e xs j ≡ of (pos 0)
  value_at-past xs j l = get_or_past (map e xs) j (of (pos 0)) (omega (arith, length-map xs e))

  pub value_at-index : (xs : List V) (j : ℕ) (x : V) → j < length xs → x ≡ get_or xs j x →
      item_value e xs j ≡ e x
  value_at-index xs j x l h = get_or-map e xs j x (of (pos 0)) l ∙ ap e (sym h)

  pub value_at-set_same : (xs : List V) (j : ℕ) (x : V) → j < length xs → item_value e (set xs j x) j ≡ e x
  value_at-set_same xs j x l = ap (λ ys. get_or ys j (of (pos 0))) (map-set e xs j x)
      ∙ get_or-set_same (map e xs) j (e x) (of (pos 0)) (omega (arith, length-map xs e))

  pub value_at-set_other : (xs : List V) (j k : ℕ) (x : V) → k ≢ j →
      item_value e (set xs j x) k ≡ item_value e xs k
  value_at-set_other xs j k x d = ap (λ ys. get_or ys k (of (pos 0))) (map-set e xs j x)
      ∙ get_or-set_other (map e xs) j k (e x) (of (pos 0)) d

  -- an item is written, and its mark, or a mark that still holds
  pub block_set : (m : ℤ) (cells : List V) (marks : List Bool) (j : ℕ) (x : V) (b : Bool) → j < length cells →
      IsBlock m e cells marks → b ≡ is_zero (e x) → fraction_fits m (e x) ≡ true →
      IsBlock m e (set cells j x) (set marks j b)
  block_set m cells marks j x b l h eb f = record {
    same = length-set marks j b ∙ h.same ∙ sym (length-set cells j x);
    marked = λ k. mark k (ℕ_discrete k j);
    fitting = λ k. fit k (ℕ_discrete k j);
  }
    where
      mark : (k : ℕ) → Dec (k ≡ j) → mark_at (set marks j b) k ≡ is_zero (item_value e (set cells j x) k)
      mark k (yes p) = ap (mark_at (set marks j b)) p
          ∙ get_or-set_same marks j b true (omega (arith, l, h.same)) ∙ eb
          ∙ ap is_zero (sym (value_at-set_same cells j x l) ∙ ap (item_value e (set cells j x)) (sym p))
      mark k (no p) = get_or-set_other marks j k b true p ∙ h.marked k
          ∙ ap is_zero (sym (value_at-set_other cells j k x p))

      fit : (k : ℕ) → Dec (k ≡ j) → fraction_fits m (item_value e (set cells j x) k) ≡ true
      fit k (yes p) = ap (fraction_fits m) (ap (item_value e (set cells j x)) p ∙ value_at-set_same cells j x l) ∙ f
      fit k (no p) = ap (fraction_fits m) (value_at-set_other cells j k x p) ∙ h.fitting k

  pub block_kept : (m : ℤ) (cells : List V) (marks : List Bool) (j : ℕ) (x : V) → j < length cells →
      IsBlock m e cells marks → mark_at marks j ≡ is_zero (e x) → fraction_fits m (e x) ≡ true →
      IsBlock m e (set cells j x) marks
  block_kept m cells marks j x l h eb f = record {
    same = h.same ∙ sym (length-set cells j x);
    marked = λ k. mark k (ℕ_discrete k j);
    fitting = λ k. fit k (ℕ_discrete k j);
  }
    where
      mark : (k : ℕ) → Dec (k ≡ j) → mark_at marks k ≡ is_zero (item_value e (set cells j x) k)
      mark k (yes p) = ap (mark_at marks) p ∙ eb
          ∙ ap is_zero (sym (value_at-set_same cells j x l) ∙ ap (item_value e (set cells j x)) (sym p))
      mark k (no p) = h.marked k ∙ ap is_zero (sym (value_at-set_other cells j k x p))

      fit : (k : ℕ) → Dec (k ≡ j) → fraction_fits m (item_value e (set cells j x) k) ≡ true
      fit k (yes p) = ap (fraction_fits m) (ap (item_value e (set cells j x)) p ∙ value_at-set_same cells j x l) ∙ f
      fit k (no p) = ap (fraction_fits m) (value_at-set_other cells j k x p) ∙ h.fitting k

-- a loop that goes from item a on to item j: o were the values at its start, v are those before the turn, w those
-- after it, f those that it shall write
pub written_done : (f o v w : ℕ → Fraction) (a j : ℕ) → ((i : ℕ) → i < a → v i ≡ f i) →
    ((i : ℕ) → a ≤ i → v i ≡ o i) → ((i : ℕ) → a ≤ i → i < j → o i ≡ f i) → w j ≡ f j →
    ((i : ℕ) → i ≢ j → w i ≡ v i) → (i : ℕ) → i < suc j → w i ≡ f i
written_done f o v w a j done rest gap here other i l = go (ℕ_discrete i j) (dec_lt i a)
  where
    go : Dec (i ≡ j) → Dec (i < a) → w i ≡ f i
    go (yes p) h = ap w p ∙ here ∙ ap f (sym p)
    go (no p) (yes h) = other i p ∙ done i h
    go (no p) (no h) = other i p ∙ rest i (omega (arith, h)) ∙ gap i (omega (arith, h)) (omega (arith, l, p))

pub written_rest : (o v w : ℕ → Fraction) (a j : ℕ) → ((i : ℕ) → a ≤ i → v i ≡ o i) → a ≤ j →
    ((i : ℕ) → i ≢ j → w i ≡ v i) → (i : ℕ) → suc j ≤ i → w i ≡ o i
written_rest o v w a j rest h other i l = other i (λ p. omega (arith, l, p)) ∙ rest i (omega (arith, l, h))
