-- From the flipped first rows back to the rows of the problem.
use Rattle.std.proofs.Common.{◌≡◌, ◌≢◌, refl, sym, ap, subst, ◌∙◌, ℕ, ◌<◌, Bool, true, false, cond, arith, ℤ, pos}
use Rattle.std.proofs.Common.{negsuc}
use Rattle.stack_rational.proofs.Common.{Ordered, minus, num, Exp, ◌⊗◌, ring1, ring2, ring3, sum_same, sum_scale}
use Rattle.stack_algebra.proofs.Integers.{neg_is_mul}
use Rattle.stack_algebra.proofs.Sums.{sum}
use Rattle.stack_table.specs.Table.{plain, columns}
use Rattle.stack_table.specs.Problem.{Problem, flipped, turned}
use Rattle.stack_table.specs.WrittenTable.{first_row}
use Rattle.stack_run.specs.EndNumbers.{negated_if}
use Rattle.stack_run.specs.Balance.{Balances, column_work, load_work, Refutes, Bounds, Rises, StandsAlone}
use Rattle.stack_run.proofs.RowEnds as rows
use Rattle.stack_run.proofs.WrittenRows.{plain_cell, right_cell}

module _ (F : Ordered) where
  -- -1 in a flipped row, else 1
  abbrev turn : Bool → F.C
  turn b = cond b (F.of (negsuc 0)) (F.of (pos 1))

  -- the fraction of a turned number
  of_turned : (b : Bool) (z : ℤ) → F.of (turned b z) ≡ F.mul (turn b) (F.of z)
  of_turned true z = ap F.of (neg_is_mul z) ∙ F.of_mul (negsuc 0) z
  of_turned false z = sym (F.one_mul (F.of z))

  -- a number that is turned twice is the number
  turn_twice : (b : Bool) (x : F.C) → F.mul (turn b) (F.mul (turn b) x) ≡ x
  turn_twice true x = ring1 F.ring (λ x. (num (negsuc 0) ⊗ (num (negsuc 0) ⊗ x), x)) refl x
  turn_twice false x = ring1 F.ring (λ x. (num (pos 1) ⊗ (num (pos 1) ⊗ x), x)) refl x

  -- a multiplier of a flipped row, by an entry of it
  moved : (b : Bool) (y : F.C) (z : ℤ) → F.mul y (F.of (turned b z)) ≡ F.mul (negated_if F b y) (F.of z)
  moved true y z = ap (F.mul y) (of_turned true z)
      ∙ ring2 F.ring (λ y e. (y ⊗ (num (negsuc 0) ⊗ e), Exp.neg y ⊗ e)) refl y (F.of z)
  moved false y z = refl

module _ (F : Ordered) (P : Problem) where
  abbrev m : ℕ
  m = P.shape.rows

  abbrev w : ℕ
  w = plain P.shape

  abbrev n : ℕ
  n = columns P.shape

  -- the multipliers of the first rows as multipliers of the problem's rows
  abbrev pub unflipped : (ℕ → F.C) → ℕ → F.C
  unflipped y k = negated_if F (flipped P k) (y k)

  module _ (y z : ℕ → F.C) (h : (k : ℕ) → k < m → z k ≡ unflipped y k) where
    -- the products of the first rows and of the rows with their multipliers are the same, in a column and on
    -- the right
    work-plain : (j : ℕ) → j < w → rows.work F m w n (first_row F P) y j ≡ column_work F P z j
    work-plain j l = sum_same F.ring m _ _ (λ k b. ap (F.mul (y k)) (plain_cell F P k j l)
        ∙ moved F (flipped P k) (y k) (P.entry k j) ∙ ap (λ x. F.mul x (F.of (P.entry k j))) (sym (h k b)))

    work-load : rows.work F m w n (first_row F P) y n ≡ load_work F P z
    work-load = sum_same F.ring m _ _ (λ k b. ap (F.mul (y k)) (right_cell F P k)
        ∙ moved F (flipped P k) (y k) (P.load k) ∙ ap (λ x. F.mul x (F.of (P.load k))) (sym (h k b)))

    -- what the first rows refute, the problem's rows refute
    pub refute : rows.Refutes F m w n (first_row F P) P.shape.contacts y → Refutes F P z
    refute r = record {
      unresisted = λ j l. subst (λ x. F.sign x ≢ minus) (work-plain j (omega (arith, l))) (r.unresisted j l);
      driven = ap F.sign (sym work-load) ∙ r.driven;
    }

    -- multipliers that bound the factor over the first rows bound it over the problem's rows
    pub bound : (x v : ℕ → F.C) → P.shape.contacts < w → v P.shape.contacts ≡ x P.shape.contacts →
        rows.Bounds F m w n (first_row F P) P.shape.contacts x y → Bounds F P v z
    bound x v g e b = record {
      unresisted = λ j l. subst (λ x. F.sign x ≢ minus) (work-plain j (omega (arith, l))) (b.unresisted j l);
      live_work = ap F.sign (sym (work-plain P.shape.contacts g)) ∙ b.live_work;
      meeting = (λ i. F.mul (sym (work-plain P.shape.contacts g) i) (e i)) ∙ b.meeting ∙ work-load;
    }

  -- amounts that balance the flipped rows balance the rows
  balanced_row : (x : ℕ → F.C) (scale : F.C) → rows.Balances F m w n (first_row F P) x scale → (i : ℕ) → i < m →
      sum F.ring w (λ j. F.mul (F.of (P.entry i j)) (x j)) ≡ F.mul scale (F.of (P.load i))
  balanced_row x scale b i l = sym (turn_twice F (flipped P i) _)
      ∙ ap (F.mul t) (sym (sum_scale F.ring w t (λ j. F.mul (F.of (P.entry i j)) (x j)))
      ∙ sum_same F.ring w _ _ (λ j k. sym (F.mul_assoc t (F.of (P.entry i j)) (x j))
      ∙ ap (λ y. F.mul y (x j)) (sym (plain_cell F P i j k ∙ of_turned F (flipped P i) (P.entry i j))))
      ∙ b.sums i l ∙ ap (F.mul scale) (right_cell F P i ∙ of_turned F (flipped P i) (P.load i))
      ∙ ring3 F.ring (λ s t b. (s ⊗ (t ⊗ b), t ⊗ (s ⊗ b))) refl scale t (F.of (P.load i)))
      ∙ turn_twice F (flipped P i) (F.mul scale (F.of (P.load i)))
    where
      t : F.C
      t = cond (flipped P i) (F.of (negsuc 0)) (F.of (pos 1))

  -- amounts that are the same in the plain columns balance the rows too
  pub balance : (x v : ℕ → F.C) (scale : F.C) → ((j : ℕ) → j < w → v j ≡ x j) →
      rows.Balances F m w n (first_row F P) x scale → Balances F P v scale
  balance x v scale h b = record {
    parts = λ j l. subst (λ y. F.sign y ≢ minus) (sym (h j l)) (b.parts j l);
    sums = λ i l. sum_same F.ring w _ _ (λ j k. ap (F.mul (F.of (P.entry i j))) (h j k))
        ∙ balanced_row x scale b i l;
  }

  -- a direction that raises the factor over the first rows raises it over the problem's rows
  pub rise : (x v : ℕ → F.C) → P.shape.contacts < w → ((j : ℕ) → j < w → v j ≡ x j) →
      rows.Rises F m w n (first_row F P) P.shape.contacts x → Rises F P v
  rise x v g h r = record {
    balances = balance x v (F.of (pos 0)) h r.balances;
    factor = ap F.sign (h P.shape.contacts g) ∙ r.factor;
  }

  -- where the right side stands over the first rows, it does over the problem's rows
  pub stand : rows.StandsAlone F m w n (first_row F P) P.shape.contacts → StandsAlone F P
  stand s = record {
    amounts = s.amounts;
    balances = balance s.amounts s.amounts (F.of (pos 1)) (λ j l. refl) s.balances;
    no_factor = s.no_factor;
  }
