-- Each end of the written run gives in whole numbers what it gives in fractions.
use Rattle.std.proofs.Common.{◌≡◌, ◌≢◌, refl, sym, ap, subst, ◌∙◌, ℕ, suc, ◌<◌, ◌≤◌, cond, ltb, List, arith, lt-ltb}
use Rattle.std.proofs.Common.{le-ltb, ℤ, pos, ◌*ℤ◌}
use Rattle.stack_rational.proofs.Common.{dec_lt, ◌≺◌, minus, Fraction, expand, sums, listed, of, mul, ordered_fractions}
use Rattle.stack_rational.proofs.Common.{scale_of, fractions}
use Rattle.stack_algebra.proofs.Ring.{four}
use Rattle.stack_table.specs.Table.{Tabled, plain}
use Rattle.stack_table.specs.Problem.{Problem, flipped}
use Rattle.stack_run.specs.WrittenRun.{End, infeasible, feasible, optimal, ray, wide, over, never}
use Rattle.stack_run.specs.EndNumbers.{negated_if, column_value, rate, bound_multiplier, collapse_multiplier}
use Rattle.stack_run.specs.Balance as fractional
use Rattle.stack_run.specs.FourEnds.{EndGives, IsThirdEnd}
use Rattle.stack_run.proofs.FourEnds.{ends_give}
use Rattle.stack_extract.specs.WrittenLists.{forces_number, forces_list, ray_list, bound_number, collapse_number}
use Rattle.stack_extract.specs.WholeLists.{whole_list, amount, multiplier, NonePulls}
use Rattle.stack_extract.specs.WholeBalance.{AreAmounts, whole_column_work, whole_load_work, AreUnresisted, AreRefuting}
use Rattle.stack_extract.specs.WholeBalance.{AreBounding, StandsInWhole}
use Rattle.stack_extract.specs.WholeEnds.{AreForces, AreLoaded, EndIsWhole, EndsAreWhole}
use Rattle.stack_extract.proofs.WholeNumbers.{IsWhole, of_same, whole_nonneg, whole_positive, whole_negative, whole_sum}
use Rattle.stack_extract.proofs.WholeNumbers.{whole_dot, whole_turned}
use Rattle.stack_extract.proofs.ScaledLists.{scale_above, scaled-is, none_pulls}

-- a number times 1, and times 0
once : (c : ℤ) → c *ℤ pos 1 ≡ c
once c = simp expand (omega (arith, sums))

none_of : (c : ℤ) → c *ℤ pos 0 ≡ pos 0
none_of c = simp expand (omega (arith, sums))

-- a fraction that is 0 is the whole number 0 at any scale
nothing : (c : ℤ) (x : Fraction) (z : ℤ) → IsWhole c x z → x ≡ of (pos 0) → z ≡ pos 0
nothing c x z h e = of_same _ _ (sym h ∙ ap (mul (of c)) e ∙ fractions.mul_comm (of c) (of (pos 0))
    ∙ fractions.zero_mul (of c))

-- a bound that is met is met in whole numbers, at both scales
meeting_of : (c d : ℤ) (f g b : Fraction) (x y z : ℤ) → IsWhole c f x → IsWhole d g y → IsWhole d b z →
    mul g f ≡ b → y *ℤ x ≡ c *ℤ z
meeting_of c d f g b x y z hf hg hb e = of_same _ _ (fractions.of_mul y x
    ∙ (λ i. mul (sym hg i) (sym hf i)) ∙ four fractions (of d) g (of c) f
    ∙ ap (mul (mul (of d) (of c))) e ∙ ap (λ s. mul s b) (fractions.mul_comm (of d) (of c))
    ∙ fractions.mul_assoc (of c) (of d) b ∙ ap (mul (of c)) hb ∙ sym (fractions.of_mul c z))

module _ (P : Problem) where
  abbrev m : ℕ
  m = P.shape.rows

  abbrev w : ℕ
  w = plain P.shape

  abbrev Wholes : ℕ → ℤ → (ℕ → Fraction) → (ℕ → ℤ) → Type 0
  Wholes n c v z = (j : ℕ) → j < n → IsWhole c (v j) (z j)

  -- amounts that balance t times the right sides
  amounts_of : (t c : ℤ) (v : ℕ → Fraction) (z : ℕ → ℤ) → pos 0 ≺ c → Wholes w c v z →
      fractional.Balances ordered_fractions P v (of t) → AreAmounts P z (c *ℤ t)
  amounts_of t c v z p h b = record {
    parts = λ j l. whole_nonneg c (v j) (z j) p (h j l) (b.parts j l);
    sums = λ i l. of_same _ _ (sym (whole_sum w c (P.entry i) v z h)
        ∙ ap (mul (of c)) (b.sums i l)
        ∙ sym (fractions.mul_assoc (of c) (of t) (of (P.load i)))
        ∙ ap (λ s. mul s (of (P.load i))) (sym (fractions.of_mul c t))
        ∙ sym (fractions.of_mul (c *ℤ t) (P.load i)));
  }

  -- where some amounts balance with the factor 0, some whole ones do
  stands_of : fractional.StandsAlone ordered_fractions P → P.shape.contacts < w → StandsInWhole P
  stands_of s l = record {
    scale = pos (scale_of xs);
    amounts = amount (whole_list xs);
    positive = scale_above xs;
    balances = subst (AreAmounts P (amount (whole_list xs))) (once (pos (scale_of xs)))
        (amounts_of (pos 1) (pos (scale_of xs)) s.amounts _ (scale_above xs) (scaled-is w s.amounts) s.balances);
    no_factor = nothing _ _ _ (scaled-is w s.amounts P.shape.contacts l) s.no_factor;
  }
    where
      xs : List Fraction
      xs = listed w s.amounts

  -- multipliers of the rows from the numbers of a list, with the signs of flipped rows
  module _ (f v : ℕ → Fraction) (e : (k : ℕ) → k < m → v k ≡ negated_if ordered_fractions (flipped P k) (f k)) where
    abbrev c : ℤ
    c = pos (scale_of (listed m f))

    abbrev y : ℕ → ℤ
    y = multiplier P (whole_list (listed m f))

    -- they are whole, and so is their work in a column and on the right
    are_whole : Wholes m c v y
    are_whole k l = ap (mul (of c)) (e k l) ∙ whole_turned c (flipped P k) (f k) _ (scaled-is m f k l)

    work_whole : (j : ℕ) → IsWhole c (fractional.column_work ordered_fractions P v j) (whole_column_work P y j)
    work_whole j = whole_dot m c (λ k. P.entry k j) v y are_whole

    load_whole : IsWhole c (fractional.load_work ordered_fractions P v) (whole_load_work P y)
    load_whole = whole_dot m c P.load v y are_whole

    -- so the whole multipliers refute and bound
    unresisted : ((j : ℕ) → j < P.shape.contacts →
        ordered_fractions.sign (fractional.column_work ordered_fractions P v j) ≢ minus) → AreUnresisted P y
    unresisted h j l = whole_nonneg c _ _ (scale_above (listed m f)) (work_whole j) (h j l)

    refuting : fractional.Refutes ordered_fractions P v → AreRefuting P y
    refuting r = record {
      unresisted = unresisted r.unresisted;
      driven = whole_negative c _ _ (scale_above (listed m f)) load_whole r.driven;
    }

    bounding : (x : ℕ → Fraction) (s : ℤ) (z : ℕ → ℤ) → IsWhole s (x P.shape.contacts) (z P.shape.contacts) →
        fractional.Bounds ordered_fractions P x v → AreBounding P z s y
    bounding x s z h b = record {
      unresisted = unresisted b.unresisted;
      live_work = whole_positive c _ _ (scale_above (listed m f)) (work_whole P.shape.contacts) b.live_work;
      meeting = meeting_of s c _ _ _ _ _ _ h (work_whole P.shape.contacts) load_whole b.meeting;
    }

  -- amounts of the columns from a list with a number for each plain one, and 0 for a factor without a column
  module _ (few : P.shape.factors ≤ 1) (v : ℕ → Fraction) where
    abbrev number : ℕ → Fraction
    number j = cond (ltb j w) (v j) (of (pos 0))

    abbrev xs : List Fraction
    xs = listed (suc P.shape.contacts) number

    -- the number of a plain column, and of no column
    plain_number : (j : ℕ) → j < w → number j ≡ v j
    plain_number j l = ap (λ b. cond b (v j) (of (pos 0))) (lt-ltb j w l)

    no_number : (j : ℕ) → w ≤ j → number j ≡ of (pos 0)
    no_number j l = ap (λ b. cond b (v j) (of (pos 0))) (le-ltb j w l)

    -- so the whole amounts balance
    column_whole : Wholes w (pos (scale_of xs)) v (amount (whole_list xs))
    column_whole j l = ap (mul (of (pos (scale_of xs)))) (sym (plain_number j l))
        ∙ scaled-is (suc P.shape.contacts) number j (omega (arith, few, l))

    balancing : (t : ℤ) → fractional.Balances ordered_fractions P v (of t) →
        AreAmounts P (amount (whole_list xs)) (pos (scale_of xs) *ℤ t)
    balancing t b = amounts_of t (pos (scale_of xs)) v _ (scale_above xs) column_whole b

    -- no whole amount is negative
    pushes : (t : ℤ) → fractional.Balances ordered_fractions P v (of t) → NonePulls (whole_list xs)
    pushes t b = none_pulls (suc P.shape.contacts) number (λ j l. go j (dec_lt j w))
      where
        go : (j : ℕ) → Dec (j < w) → ordered_fractions.sign (number j) ≢ minus
        go j (yes l) = subst (λ x. ordered_fractions.sign x ≢ minus) (sym (plain_number j l)) (b.parts j l)
        go j (no l) = λ e. let z = sym ordered_fractions.sign-zero
            ∙ ap ordered_fractions.sign (sym (no_number j (omega (arith, l)))) ∙ e in cc

  module _ (few : P.shape.factors ≤ 1) where
    -- the forces of a last table
    forces_of : (T : Tabled Fraction) →
        fractional.Balances ordered_fractions P (column_value ordered_fractions P.shape T) (of (pos 1)) → AreForces P T
    forces_of T b = record {
      positive = scale_above (forces_list P.shape T);
      balances = subst (AreAmounts P (amount (whole_list (forces_list P.shape T)))) (once _)
          (balancing few (column_value ordered_fractions P.shape T) (pos 1) b);
      pushes = pushes few (column_value ordered_fractions P.shape T) (pos 1) b;
    }

    loaded_of : (T : Tabled Fraction) → IsThirdEnd ordered_fractions P T → AreLoaded P T
    loaded_of T h = record {
      with_factor = h.with_factor;
      stands = stands_of h.stands h.with_factor;
      forces = forces_of T h.balances;
    }

    -- each of the four ends gives in whole numbers what it gives in fractions
    end_is_whole : (x : End Fraction) → EndGives ordered_fractions P x → EndIsWhole P x
    end_is_whole (infeasible T) h = refuting (collapse_number P.shape T)
        (collapse_multiplier ordered_fractions P T) (λ k l. refl) h.refutes
    end_is_whole (feasible T) h = record {
      without_factor = h.without_factor;
      forces = forces_of T h.balances;
      no_factor = let e = h.without_factor in nothing _ _ _
          (scaled-is (suc P.shape.contacts) (forces_number P.shape T) P.shape.contacts (omega arith))
          (no_number few (column_value ordered_fractions P.shape T) P.shape.contacts (omega (arith, e)));
    }
    end_is_whole (optimal T) h = record {
      loaded = loaded_of T h.third;
      bounding = bounding (bound_number P.shape T) (bound_multiplier ordered_fractions P T) (λ k l. refl)
          (column_value ordered_fractions P.shape T) _ _
          (column_whole few (column_value ordered_fractions P.shape T) P.shape.contacts h.third.with_factor) h.bounds;
    }
    end_is_whole (ray T c) h = record {
      loaded = loaded_of T h.third;
      balances = subst (AreAmounts P (amount (whole_list (ray_list P.shape T c))))
          (none_of (pos (scale_of (ray_list P.shape T c))))
          (balancing few (rate ordered_fractions P.shape T c) (pos 0) h.rises.balances);
      factor = whole_positive _ _ _ (scale_above (ray_list P.shape T c))
          (column_whole few (rate ordered_fractions P.shape T c) P.shape.contacts h.third.with_factor)
          h.rises.factor;
      pushes = pushes few (rate ordered_fractions P.shape T c) (pos 0) h.rises.balances;
    }
    end_is_whole (wide p k s) h = tt
    end_is_whole over h = tt
    end_is_whole never h = tt

-- so it is for every end of a run
pub ends_are_whole : EndsAreWhole
ends_are_whole P few rule budget = end_is_whole P few _ (ends_give P rule budget)
