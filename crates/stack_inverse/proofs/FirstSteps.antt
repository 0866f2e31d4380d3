-- The turns of the loops that build the first table.
use Rattle.std.proofs.Common.{◌≡◌, sym, ap, subst, ◌∙◌, ℕ, ◌+◌, ◌<◌, cond, eqb, List, [], ◌∷◌, ◌++◌, length, get_or}
use Rattle.std.proofs.Common.{take, drop, drop-cons, add-one, arith, false, ℤ, pos, ◌-ℤ◌}
use borrow.Author.Count.{below_more}
use Rattle.stack_rational.proofs.Common.{ints, sum_of, take_more}
use Rattle.stack_table.specs.declared.problem.Entry.{Entry}
use Rattle.stack_table.specs.Problem.{turned}
use Rattle.stack_inverse.specs.declared.columns.Cell.{Cell}
use Rattle.stack_rows.specs.RowForm.{number_at}
use Rattle.stack_inverse.specs.Columns.{RowSeen, multipliers, IsPut}
use Rattle.stack_inverse.specs.FirstTable.{flips, load_at, AreTurned, IsFirstRow, less_loads}
use Rattle.stack_inverse.proofs.TurnedColumns.{turned_more}

-- one cell more is taken
pub less_more : (cells : List Cell) (k : ℕ) (d : Cell) → k < length cells → (r n t : ℤ) →
    r -ℤ sum_of (λ x. x.value) (drop k cells) ≡ t → n ≡ r -ℤ (get_or cells k d).value →
    n -ℤ sum_of (λ x. x.value) (drop (k + 1) cells) ≡ t
less_more cells k d l r n t e h =
    rw add-one (omega (arith, ints, ap (sum_of (λ x. x.value)) (drop-cons cells k d l), e, h))

-- one entry more is turned
pub turned_next : (right : List ℤ) (entries : List Entry) (cs ys : List Cell) (k : ℕ)
    (d : Entry) (c : Cell) → k < length entries → AreTurned right (take k entries) cs → ys ≡ cs ++ c ∷ [] →
    c.row ≡ (get_or entries k d).row →
    c.value ≡ turned (flips right (get_or entries k d).row) (get_or entries k d).value →
    AreTurned right (take (k + 1) entries) ys
turned_next right entries cs ys k d c l h new hr hv = subst
    (λ zs. AreTurned right (take (k + 1) entries) zs)
    (sym new) (subst (λ es. AreTurned right es (cs ++ c ∷ [])) (sym (take_more entries k d l))
    (turned_more right (take k entries) cs (get_or entries k d) c h hr hv))

-- one right side more is taken
pub rest_more : (right : List ℤ) (i : ℕ) (r n l : ℤ) → r ≡ less_loads right i → l ≡ load_at right i → n ≡ r -ℤ l →
    n ≡ less_loads right (i + 1)
rest_more right i r n l hr hl hn = subst (λ k. n ≡ less_loads right k) (sym (add-one i))
    (omega (arith, ints, hr, hl, hn))

-- a first row is put
module _ {m : ℕ} {s t : ℕ → RowSeen} {row : List ℤ} {i : ℕ} (p : IsPut s i row (pos 1) false t) (loads : ℕ → ℤ)
    (above : (k : ℕ) → k < i → IsFirstRow m s k (loads k)) where
  -- those above it stay
  pub rows_kept : (k : ℕ) → k < i → IsFirstRow m t k (loads k)
  rows_kept k l =
      let same = p.other k (λ e. omega (arith, e, l)) in
      record {
        number = λ j. ap (λ (r : RowSeen). number_at r.numbers j) same ∙ (above k l).number j;
        under = ap (λ (r : RowSeen). r.under) same ∙ (above k l).under;
      }

  -- and it is one more
  pub rows_more : ((j : ℕ) → number_at row j
      ≡ cond (eqb j (multipliers m)) (loads i) (cond (eqb j i) (pos 1) (pos 0))) → (k : ℕ) → k < i + 1 →
      IsFirstRow m t k (loads k)
  rows_more is = below_more (λ k. IsFirstRow m t k (loads k)) i rows_kept (record {
    number = λ j. ap (λ xs. number_at xs j) p.own_numbers ∙ is j;
    under = p.own_under;
  })
