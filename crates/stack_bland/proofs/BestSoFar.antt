-- The turn of the loop that looks for the leaving row.
use Rattle.std.proofs.Common.{◌≡◌, refl, sym, ap, subst, ◌∙◌, ℕ, ◌<◌, ◌+◌, Bool, true, false, cond, Option, Some, None}
use Rattle.std.proofs.Common.{arith, add-one, IfSome}
use Rattle.stack_rational.proofs.Common.{sign_of, Fraction, less, ordered_fractions}
use Rattle.stack_bland.specs.declared.leaving_row.Candidate.{Candidate}
use Rattle.stack_bland.specs.Choice.{is_plus, goes_first, better, best}

-- what the loop holds over the rows below n: the best row so far, with its ratio
abbrev pub HoldsBest : {V : Type 0} → (V → Fraction) → (ℕ → Fraction) → ℕ → Option (Candidate V) → Option ℕ →
    Type 0
HoldsBest exact ratios n None o = o ≡ None
HoldsBest exact ratios n (Some b) o = (o ≡ Some b.row) × (exact b.ratio ≡ ratios b.row) × (b.row < n)

module _ {V : Type 0} (e : V → Fraction) (cell ratios : ℕ → Fraction) (basic : ℕ → ℕ) (i : ℕ) where
  abbrev best_at : ℕ → Option ℕ
  best_at n = best ordered_fractions cell ratios basic n

  -- the sign of the difference of two ratios decides
  abbrev before : Fraction → Fraction → ℕ → Bool
  before x y r = goes_first (sign_of (less ordered_fractions x y).num) (basic i) (basic r)

  more : (b : Bool) → is_plus (sign_of (cell i).num) ≡ b →
      best_at (i + 1) ≡ cond b (better ordered_fractions ratios basic i (best_at i)) (best_at i)
  more b p = ap best_at (add-one i)
      ∙ ap (λ t. cond t (better ordered_fractions ratios basic i (best_at i)) (best_at i)) p

  pub held_positive : (o : Option (Candidate V)) (r : Candidate V) (v : V) →
      HoldsBest e ratios i o (best_at i) →
      is_plus (sign_of (cell i).num) ≡ true → e v ≡ ratios i →
      (o ≡ None → r ≡ record { row = i; ratio = v }) →
      IfSome o (λ b. r ≡ cond (before (e v) (e b.ratio) b.row) (record { row = i; ratio = v }) b) →
      HoldsBest e ratios (i + 1) (Some r) (best_at (i + 1))
  held_positive None r v h p ev none some =
      subst (λ (z : Candidate V). HoldsBest e ratios (i + 1) (Some z) (best_at (i + 1))) (sym (none refl))
      (more true p ∙ ap (better ordered_fractions ratios basic i) h, ev, omega arith)
  held_positive (Some q) r v h p ev none some =
      subst (λ (z : Candidate V). HoldsBest e ratios (i + 1) (Some z) (best_at (i + 1))) (sym some)
      (go (before (e v) (e q.ratio) q.row) refl)
    where
      same : before (ratios i) (ratios q.row) q.row ≡ before (e v) (e q.ratio) q.row
      same = λ z. before (sym ev z) (sym h.1 z) q.row

      next : (t : Bool) → before (e v) (e q.ratio) q.row ≡ t → best_at (i + 1) ≡ Some (cond t i q.row)
      next t k = more true p ∙ ap (better ordered_fractions ratios basic i) h.0
          ∙ ap (λ b. Some (cond b i q.row)) (same ∙ k)

      go : (t : Bool) → before (e v) (e q.ratio) q.row ≡ t →
          HoldsBest e ratios (i + 1) (Some (cond t (record { row = i; ratio = v }) q)) (best_at (i + 1))
      go true k = (next true k, ev, omega arith)
      go false k = (next false k, h.1, omega (arith, h.2))

  pub held_other : (o : Option (Candidate V)) → HoldsBest e ratios i o (best_at i) →
      is_plus (sign_of (cell i).num) ≡ false → HoldsBest e ratios (i + 1) o (best_at (i + 1))
  held_other None h p = more false p ∙ h
  held_other (Some q) h p = (more false p ∙ h.0, h.1, omega (arith, h.2))
