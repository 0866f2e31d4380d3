-- Values and rays as vectors that the first rows annul, and what an objective counts on them.
use Rattle.std.proofs.Common.{◌≡◌, refl, sym, ap, ◌∙◌, ℕ, suc, ◌<◌, Bool, true, false, cond, eqb, arith, pos, negsuc}
use Rattle.stack_rational.proofs.Common.{Exp, num, ◌⊕◌, ◌⊖◌, ◌⊗◌, ring1, ring3, sum_zero, at, at-other, at-same}
use Rattle.stack_rational.proofs.Common.{Ordered, NonNeg, Tableau, sum_one, dot, spread, nonneg_zero, nonneg_sum}
use Rattle.stack_algebra.proofs.Ring.{Ring, mul-zero}
use Rattle.stack_algebra.proofs.Sums.{sum, sum_add}
use Rattle.stack_algebra.specs.Rows.{Annuls}
use Rattle.stack_algebra.proofs.Combinations.{dot_own_cells, dot_spread}

module _ (R : Ring) where
  -- products with sums, with one item, and the other way round
  pub dot_add : (n : ℕ) (f x y : ℕ → R.C) → dot R n f (λ j. R.add (x j) (y j))
      ≡ R.add (dot R n f x) (dot R n f y)
  dot_add n f x y = (λ i. sum R n (λ j. ring3 R (λ f x y. (f ⊗ (x ⊕ y), f ⊗ x ⊕ f ⊗ y)) refl (f j) (x j)
      (y j) i)) ∙ sum_add R n (λ j. R.mul (f j) (x j)) (λ j. R.mul (f j) (y j))

  pub dot_at : (n k : ℕ) (f : ℕ → R.C) (v : R.C) → k < n → dot R n f (at R k v) ≡ R.mul (f k) v
  dot_at n k f v l = sum_one R n k (λ j. R.mul (f j) (at R k v j)) l
      (λ j _ d. ap (R.mul (f j)) (at-other R k j v d) ∙ mul-zero R (f j)) ∙ ap (R.mul (f k)) (at-same R k v)

  pub dot_comm : (n : ℕ) (f x : ℕ → R.C) → dot R n f x ≡ dot R n x f
  dot_comm n f x = λ i. sum R n (λ j. R.mul_comm (f j) (x j) i)

  -- a sum over unit cells, and over cells that are 0
  unit_sum : (m i : ℕ) (u v : ℕ → R.C) → i < m → ((s : ℕ) → s < m → u s ≡ at R s (R.of (pos 1)) i) →
      sum R m (λ s. R.mul (u s) (v s)) ≡ v i
  unit_sum m i u v l h = sum_one R m i (λ s. R.mul (u s) (v s)) l (λ s k d. ap (λ z. R.mul z (v s)) (h s k
      ∙ at-other R s i (R.of (pos 1)) (λ e. d (sym e))) ∙ R.zero_mul (v s))
      ∙ ap (λ z. R.mul z (v i)) (h i l ∙ at-same R i (R.of (pos 1))) ∙ R.one_mul (v i)

  zero_sum : (m : ℕ) (u v : ℕ → R.C) → ((s : ℕ) → s < m → u s ≡ R.of (pos 0)) → sum R m (λ s. R.mul (u s) (v s))
      ≡ R.of (pos 0)
  zero_sum m u v h = sum_zero R m (λ s. R.mul (u s) (v s)) (λ s k. ap (λ z. R.mul z (v s)) (h s k)
      ∙ R.zero_mul (v s))

module _ (F : Ordered) (m n : ℕ) where
  -- the value of each column, and -1 for the right side
  abbrev pub solution : (ℕ → ℕ → F.C) → (ℕ → ℕ) → ℕ → F.C
  solution cell basic j = F.add (spread F.ring m basic (λ i. cell i n) j) (at F.ring n (F.of (negsuc 0)) j)

  -- 1 for the column c, and for each basic column less its row's cell in c
  abbrev pub ray_of : (ℕ → ℕ → F.C) → (ℕ → ℕ) → ℕ → ℕ → F.C
  ray_of cell basic c j = F.add (at F.ring c (F.of (pos 1)) j) (spread F.ring m basic (λ i. F.neg (cell i c)) j)

module _ (F : Ordered) (m n : ℕ) (A : ℕ → ℕ → F.C) where
  module _ (own : ℕ → F.C) (cell : ℕ → ℕ → F.C) (basic : ℕ → ℕ) (t : Tableau F m n A own cell basic) where
    -- a row on the solution, and on a ray
    pub on_solution : (f : ℕ → F.C) → dot F.ring (suc n) f (solution F m n cell basic)
        ≡ F.add (sum F.ring m (λ s. F.mul (f (basic s)) (cell s n))) (F.mul (f n) (F.of (negsuc 0)))
    on_solution f = dot_add F.ring (suc n) f (spread F.ring m basic (λ i. cell i n))
        (at F.ring n (F.of (negsuc 0)))
        ∙ (λ z. F.add (dot_spread F.ring m (suc n) basic f (λ i. cell i n)
        (λ i l. omega (arith, t.basic_below i l)) z) (dot_at F.ring (suc n) n f (F.of (negsuc 0))
        (omega arith) z))

    pub on_ray : (c : ℕ) → c < n → (f : ℕ → F.C) → dot F.ring (suc n) f (ray_of F m n cell basic c)
        ≡ F.add (F.mul (f c) (F.of (pos 1))) (sum F.ring m (λ s. F.mul (f (basic s)) (F.neg (cell s c))))
    on_ray c l f = dot_add F.ring (suc n) f (at F.ring c (F.of (pos 1)))
        (spread F.ring m basic (λ i. F.neg (cell i c)))
        ∙ (λ z. F.add (dot_at F.ring (suc n) c f (F.of (pos 1)) (omega arith) z)
        (dot_spread F.ring m (suc n) basic f (λ i. F.neg (cell i c))
        (λ i k. omega (arith, t.basic_below i k)) z))

    -- the first rows annul the solution: they hold for it
    pub solution_annulled : Annuls F.ring m (suc n) A (solution F m n cell basic)
    solution_annulled = t.back (solution F m n cell basic) (λ i l. on_solution (cell i)
        ∙ ap (λ z. F.add z (F.mul (cell i n) (F.of (negsuc 0))))
        (unit_sum F.ring m i (λ s. cell i (basic s)) (λ s. cell s n) l (λ s k. t.unit i s l k))
        ∙ ring1 F.ring (λ v. (v ⊕ v ⊗ num (negsuc 0), num (pos 0))) refl (cell i n))

    -- the first rows annul a ray
    pub ray_annulled : (c : ℕ) → c < n → Annuls F.ring m (suc n) A (ray_of F m n cell basic c)
    ray_annulled c lc = t.back (ray_of F m n cell basic c) (λ i l. on_ray c lc (cell i)
        ∙ ap (F.add (F.mul (cell i c) (F.of (pos 1))))
        (unit_sum F.ring m i (λ s. cell i (basic s)) (λ s. F.neg (cell s c)) l (λ s k. t.unit i s l k))
        ∙ ring1 F.ring (λ v. (v ⊗ num (pos 1) ⊖ v, num (pos 0))) refl (cell i c))

    -- the own cells of the objective on the solution and on a ray
    pub own_on_solution : dot F.ring (suc n) own (solution F m n cell basic) ≡ F.neg (cell m n)
    own_on_solution = sym (dot_own_cells F.ring m (suc n) A own (cell m)
        (solution F m n cell basic) t.objective solution_annulled) ∙ on_solution (cell m)
        ∙ ap (λ z. F.add z (F.mul (cell m n) (F.of (negsuc 0))))
        (zero_sum F.ring m (λ s. cell m (basic s)) (λ s. cell s n) t.objective_unit)
        ∙ ring1 F.ring (λ v. (num (pos 0) ⊕ v ⊗ num (negsuc 0), Exp.neg v)) refl (cell m n)

    -- the own cells of the objective on a ray
    pub own_on_ray : (c : ℕ) → c < n → dot F.ring (suc n) own (ray_of F m n cell basic c) ≡ cell m c
    own_on_ray c lc = sym (dot_own_cells F.ring m (suc n) A own (cell m) (ray_of F m n cell basic c) t.objective
        (ray_annulled c lc)) ∙ on_ray c lc (cell m)
        ∙ ap (F.add (F.mul (cell m c) (F.of (pos 1))))
        (zero_sum F.ring m (λ s. cell m (basic s)) (λ s. F.neg (cell s c)) t.objective_unit)
        ∙ ring1 F.ring (λ v. (v ⊗ num (pos 1) ⊕ num (pos 0), v)) refl (cell m c)

module _ (F : Ordered) where
  -- a spread of numbers that are not negative
  pub nonneg_at : (k j : ℕ) (x : F.C) → NonNeg F x → NonNeg F (at F.ring k x j)
  nonneg_at k j x h = go (eqb j k)
    where
      go : (b : Bool) → NonNeg F (cond b x (F.of (pos 0)))
      go true = h
      go false = nonneg_zero F

  -- a spread of numbers that are not negative is not negative at any index
  pub nonneg_spread : (m : ℕ) (basic : ℕ → ℕ) (v : ℕ → F.C) (j : ℕ) → ((i : ℕ) → i < m → NonNeg F (v i)) →
      NonNeg F (spread F.ring m basic v j)
  nonneg_spread m basic v j h = nonneg_sum F m (λ i. at F.ring (basic i) (v i) j)
      (λ i l. nonneg_at (basic i) j (v i) (h i l))
