-- The ratio of a row whose numbers fit isn't too wide.
use Rattle.std.proofs.Common.{◌≡◌, sym, ap, ◌∙◌, ℕ, true, cond, not, None, ℤ, pos}
use Rattle.stack_rational.proofs.Common.{sign_of, only_if, ◌≺◌, over, fraction_fits, is_too_wide, Within, widest}
use Rattle.stack_rational.specs.declared.exact.Op.TheVariants.{Quotient}
use Rattle.stack_algebra.proofs.OrderedFractions.{is_plus as plus_is}
use Rattle.stack_table.specs.Table.{Shape, columns}
use Rattle.stack_bland.specs.Choice.{is_plus}
use Rattle.stack_tableau.specs.Answers.{IsRatio}
use Rattle.stack_rows.proofs.OverOneDenominator.{over_fits}
use Rattle.stack_rows.proofs.RatioSigns.{cell_sign, ratio_over}

pub is_ratio : (num : ℕ → ℕ → ℤ) (den : ℕ → ℤ) (h : (i : ℕ) → pos 0 ≺ den i) (basic : ℕ → ℕ) (S : Shape)
    (c i : ℕ) (x y : ℤ) → x ≡ num i (columns S) → y ≡ num i c → pos 0 ≺ num i c →
    Within widest (num i (columns S)) → Within widest (num i c) →
    IsRatio widest S (record { cell = λ i j. over (num i j) (den i); basic = basic }) c i (over x y)
is_ratio num den h basic S c i x y ex ey e hs hc = record {
  positive = positive;
  value = (λ z. over (ex z) (ey z))
      ∙ sym (ratio_over (num i (columns S)) (num i c) (den i) (h i) e);
  fits = ap (λ t. cond t (only_if (is_too_wide widest Quotient (over (num i (columns S)) (den i))
      (over (num i c) (den i))) i) None) positive
      ∙ ap (λ t. only_if (not t) i) (ap (fraction_fits widest)
      (ratio_over (num i (columns S)) (num i c) (den i) (h i) e)
      ∙ over_fits widest (num i (columns S)) (num i c) e hs hc);
}
  where
    positive : is_plus (sign_of (over (num i c) (den i)).num) ≡ true
    positive = ap is_plus (cell_sign (num i c) (den i) (h i) ∙ plus_is (num i c) e)
