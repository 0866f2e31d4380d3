-- The three written sums of a block, of the first axis one of whose numbers is too wide.
use Rattle.std.proofs.Common.{◌≡◌, refl, ap, subst, ◌∙◌, ◌⊎◌, inl, inr, ℕ, ℤ, List, Result, Ok, Err, IsErr}
use Rattle.std.proofs.lemmas.Bool.{false≢true}
use Rattle.stack_equilibrium.proofs.Common.{Bearing, ForcesValue, Surveyed, Whole, Wide, Wrench, whole, written_sum}
use Rattle.stack_equilibrium.proofs.Common.{◌>>=◌}
use Rattle.stack_equilibrium.specs.declared.types.SumWide.{SumWide}
use Rattle.stack_equilibrium.specs.declared.types.Axis.{Axis}
use Rattle.stack_equilibrium.specs.declared.types.Axis.TheVariants.{X, Y, M}
use Rattle.stack_equilibrium.specs.declared.block.Block.{Block}
use Rattle.stack_equilibrium.specs.WrittenSums.{on_axis, block_of, written_sums, written_sums_at}
use Rattle.stack_sum_numbers.specs.InTurn.{AllFit, OneIsTooWide, IsMadeOf, IsFirstWide, AreMadeOf}
use Rattle.stack_sum_numbers.specs.SumNumbers.{sum_numbers, exact_sum, exact_sums, sum_numbers_at, scene_sums}
use Rattle.stack_sum_numbers.proofs.Chains.{not_both, either}
use Rattle.stack_sum_numbers.proofs.SumsMade.{sum_is_made}

on_axis_err : (axis : Axis) (r : Result Whole Wide) → IsErr r → on_axis axis r ≡ Err (record { axis = axis })
on_axis_err axis (Ok x) h = absurd (false≢true h)
on_axis_err axis (Err e) h = refl

abbrev wide : Axis → SumWide
wide a = record { axis = a }

-- a result is told once
differ : (r : Result Wrench SumWide) (w : Wrench) (a : Axis) → r ≡ Ok w → r ≡ Err (wide a) → ⊥
differ r w a p q = cc

same : (r : Result Wrench SumWide) (a b : Axis) → r ≡ Err (wide a) → r ≡ Err (wide b) → a ≡ b
same r a b p q = let s : wide a ≡ wide b = cc in ap (λ (x : SumWide). x.axis) s

module _ (numbers : Axis → List ℤ) where
  -- not all fit, and one axis is the first
  none_first : ((axis : Axis) → AllFit (numbers axis)) → (axis : Axis) → IsFirstWide numbers axis → ⊥
  none_first all X f = not_both (numbers X) (all X) f
  none_first all Y f = not_both (numbers Y) (all Y) f.1
  none_first all M f = not_both (numbers M) (all M) f.2

  one_first : (a b : Axis) → IsFirstWide numbers a → IsFirstWide numbers b → a ≡ b
  one_first X X f g = refl
  one_first X Y f g = absurd (not_both (numbers X) g.0 f)
  one_first X M f g = absurd (not_both (numbers X) g.0 f)
  one_first Y X f g = absurd (not_both (numbers X) f.0 g)
  one_first Y Y f g = refl
  one_first Y M f g = absurd (not_both (numbers Y) g.1 f.1)
  one_first M X f g = absurd (not_both (numbers X) f.0 g)
  one_first M Y f g = absurd (not_both (numbers Y) f.1 g.1)
  one_first M M f g = refl

  -- three sums are told by what they are where all fit, and by the axis where one is too wide
  told : (w : Wrench) (r : Result Wrench SumWide) →
      (((axis : Axis) → AllFit (numbers axis)) × (r ≡ Ok w))
      ⊎ ((axis : Axis) × IsFirstWide numbers axis × (r ≡ Err (wide axis))) →
      AreMadeOf numbers w r
  told w r (inl p) = record {
    made = (λ e. p.0, λ all. p.1);
    refused = λ axis. (λ e. absurd (differ r w axis p.1 e), λ f. absurd (none_first p.0 axis f));
  }
  told w r (inr p) = record {
    made = (λ e. absurd (differ r w p.0 e p.2), λ all. absurd (none_first all p.0 p.1));
    refused = λ axis. (
      λ e. subst (IsFirstWide numbers) (same r p.0 axis p.2 e) p.1,
      λ f. p.2 ∙ ap (λ a. Err (wide a)) (one_first p.0 axis p.1 f),
    );
  }

module _ (numbers : Axis → List ℤ) (value : Axis → ℤ) (r : Axis → Result Whole Wide)
    (h : (axis : Axis) → IsMadeOf (numbers axis) (whole (value axis)) (r axis))
  where
    abbrev wrench : Wrench
    wrench = record { fx = value X; fy = value Y; m = value M }

    abbrev all_three : Result Wrench SumWide
    all_three = on_axis X (r X) >>= λ x. on_axis Y (r Y) >>= λ y. on_axis M (r M) >>= λ m.
        Ok (record { fx = x.value; fy = y.value; m = m.value })

    abbrev last_two : Result Wrench SumWide
    last_two = on_axis Y (r Y) >>= λ y. on_axis M (r M) >>= λ m.
        Ok (record { fx = value X; fy = y.value; m = m.value })

    abbrev last_one : Result Wrench SumWide
    last_one = on_axis M (r M) >>= λ m. Ok (record { fx = value X; fy = value Y; m = m.value })

    fits_on : (axis : Axis) → AllFit (numbers axis) → on_axis axis (r axis) ≡ Ok (whole (value axis))
    fits_on axis all = ap (on_axis axis) ((h axis).made.1 all)

    wide_on : (axis : Axis) → OneIsTooWide (numbers axis) → on_axis axis (r axis) ≡ Err (record { axis = axis })
    wide_on axis p = on_axis_err axis (r axis) ((h axis).refused.1 p)

    after_x : AllFit (numbers X) → all_three ≡ last_two
    after_x all = ap (λ t. t >>= λ x. on_axis Y (r Y) >>= λ y. on_axis M (r M) >>= λ m.
        Ok (record { fx = x.value; fy = y.value; m = m.value })) (fits_on X all)

    after_y : AllFit (numbers Y) → last_two ≡ last_one
    after_y all = ap (λ t. t >>= λ y. on_axis M (r M) >>= λ m.
        Ok (record { fx = value X; fy = y.value; m = m.value })) (fits_on Y all)

    three : AreMadeOf numbers wrench all_three
    three = told numbers wrench all_three (go (either (numbers X)) (either (numbers Y)) (either (numbers M)))
      where
        go : AllFit (numbers X) ⊎ OneIsTooWide (numbers X) → AllFit (numbers Y) ⊎ OneIsTooWide (numbers Y) →
            AllFit (numbers M) ⊎ OneIsTooWide (numbers M) →
            (((axis : Axis) → AllFit (numbers axis)) × (all_three ≡ Ok wrench))
            ⊎ ((axis : Axis) × IsFirstWide numbers axis × (all_three ≡ Err (wide axis)))
        go (inr x) y m = inr (
          X,
          x,
          ap (λ t. t >>= λ x. on_axis Y (r Y) >>= λ y. on_axis M (r M) >>= λ m.
              Ok (record { fx = x.value; fy = y.value; m = m.value })) (wide_on X x),
        )
        go (inl x) (inr y) m = inr (
          Y,
          (x, y),
          after_x x ∙ ap (λ t. t >>= λ y. on_axis M (r M) >>= λ m.
              Ok (record { fx = value X; fy = y.value; m = m.value })) (wide_on Y y),
        )
        go (inl x) (inl y) (inr m) = inr (
          M,
          (x, y, m),
          after_x x ∙ after_y y
              ∙ ap (λ t. t >>= λ m. Ok (record { fx = value X; fy = value Y; m = m.value })) (wide_on M m),
        )
        go (inl x) (inl y) (inl m) = inl (
          each x y m,
          after_x x ∙ after_y y
              ∙ ap (λ t. t >>= λ m. Ok (record { fx = value X; fy = value Y; m = m.value })) (fits_on M m),
        )
          where
            each : AllFit (numbers X) → AllFit (numbers Y) → AllFit (numbers M) → (axis : Axis) →
                AllFit (numbers axis)
            each x y m X = x
            each x y m Y = y
            each x y m M = m

pub sums_are_made : (block : Block) (scale factor : ℤ) (bearings : List Bearing) (parts : List (ℤ × ℤ)) →
    AreMadeOf (λ axis. sum_numbers axis block scale factor bearings parts)
    (exact_sums block scale factor bearings parts)
    (written_sums block (whole scale) (whole factor) bearings parts)
unfolding written_sums
sums_are_made block scale factor bearings parts =
    three (λ axis. sum_numbers axis block scale factor bearings parts)
    (λ axis. exact_sum axis block bearings parts scale factor)
    (λ axis. written_sum axis block (whole scale) (whole factor) bearings parts)
    (λ axis. sum_is_made axis block scale factor bearings parts)

pub survey_sums_are_made : (s : Surveyed) (f : ForcesValue) (i : ℕ) →
    AreMadeOf (sum_numbers_at s f i) (scene_sums s f i) (written_sums_at s f i)
survey_sums_are_made s f i = sums_are_made (block_of s.structure i) f.scale f.factor s.bearings f.parts
