-- A block that grows within its room: what is there keeps its value.
use Rattle.std.proofs.Common.{◌≡◌, sym, ap, ◌∙◌, ℕ, ◌+◌, ◌*◌, ◌<◌, List, [], ◌∷◌, ◌++◌, length, get_or, arith}
use Rattle.std.proofs.Common.{length-append, ℤ}
use Rattle.stack_rational.proofs.Common.{ℕ_discrete, dec_lt, Fraction, get_or_append_left}
use Rattle.std.proofs.lemmas.List.{get_or_push}
use Rattle.stack_table.specs.Block.{item_value, cell_of, Grows}
use Rattle.stack_table.proofs.BlockRows.{row_in, cell_in, cell_past, value_at-left}
use Rattle.stack_table.proofs.Parts.{pushed_last}

module _ {V : Type 0} (e : V → Fraction) where
  -- a block that grows by one cell more
  pub grown_more : (m : ℤ) (old xs ys : List V) (j : ℕ) (f : ℕ → Fraction) (x : V) → Grows e old xs j f →
      ys ≡ xs ++ x ∷ [] → e x ≡ f j → Grows e old ys (j + 1) f
  grown_more m old xs ys j f x h new here = record {
    longer = omega (arith, ap length new, length-append xs (x ∷ []), h.longer);
    kept = λ k l. left k (omega (arith, l, h.longer)) ∙ h.kept k l;
    put = λ k l. put k l (ℕ_discrete k j);
  }
    where
      left : (k : ℕ) → k < length xs → item_value e ys k ≡ item_value e xs k
      left k l = ap (λ zs. item_value e zs k) new ∙ value_at-left e xs (x ∷ []) k l

      put : (k : ℕ) → k < j + 1 → Dec (k ≡ j) → item_value e ys (length old + k) ≡ f k
      put k l (yes d) = ap (λ z. item_value e ys (length old + z)) d
          ∙ ap (λ zs. item_value e zs (length old + j)) new
          ∙ pushed_last e m xs x (length old + j) h.longer ∙ here ∙ ap f (sym d)
      put k l (no d) = left (length old + k) (omega (arith, l, d, h.longer)) ∙ h.put k (omega (arith, l, d))

  -- the rows that are there, of n rows of w cells
  pub earlier_cells : (w n size : ℕ) (f : ℕ → Fraction) (xs ys : List V) → length xs ≡ n * w →
      Grows e xs ys size f →
      (i j : ℕ) → i < n → cell_of e w ys i j ≡ cell_of e w xs i j
  earlier_cells w n size f xs ys l h i j k = elim (dec_lt j w) [
    | yes d ↦ cell_in e w ys i j d ∙ h.kept (i * w + j) (omega (arith, row_in i n w (length xs) k l, d))
        ∙ sym (cell_in e w xs i j d)
    | no d ↦ cell_past e w ys i j (omega (arith, d)) ∙ sym (cell_past e w xs i j (omega (arith, d)))
  ]

  -- the row that was put after those that were there
  pub next_cells : (w n : ℕ) (f : ℕ → Fraction) (xs ys : List V) → length xs ≡ n * w → Grows e xs ys w f →
      (j : ℕ) → j < w → cell_of e w ys n j ≡ f j
  next_cells w n f xs ys l h j d = cell_in e w ys n j d ∙ ap (λ z. item_value e ys (z + j)) (sym l) ∙ h.put j d

-- a list that grows by the values of f
pub pushed_all : {X : Type 0} (f : ℕ → X) (xs ys : List X) (x d : X) (i : ℕ) → ys ≡ xs ++ x ∷ [] →
    length xs ≡ i →
    ((k : ℕ) → k < i → get_or xs k d ≡ f k) → x ≡ f i → (k : ℕ) → k < i + 1 → get_or ys k d ≡ f k
pushed_all f xs ys x d i e l h here k b = elim (ℕ_discrete k i) [
  | yes p ↦ ap (λ zs. get_or zs k d) e ∙ ap (λ n. get_or (xs ++ x ∷ []) n d) p ∙ get_or_push xs x d i l
      ∙ here
      ∙ ap f (sym p)
  | no p ↦ ap (λ zs. get_or zs k d) e ∙ get_or_append_left xs (x ∷ []) d k (omega (arith, l, b, p))
      ∙ h k (omega (arith, b, p))
]
