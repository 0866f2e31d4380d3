-- The span of one corner more.
use Rattle.std.proofs.Common.{◌≡◌, ℕ, ◌+◌, ℤ, List, Bool, true, false, cond, refl, sym, subst, arith, below_more}
use Rattle.std.proofs.Common.{int_lt}
use Rattle.std.specs.Int.{int_min, int_max}
use Rattle.std.proofs.lemmas.Int.{ints}
use Rattle.stack_algebra.specs.IntegerOrder.{◌≼◌}
use Rattle.stack_algebra.proofs.Integers.{sums}
use Rattle.stack_polygon.specs.declared.point.Point.{Point}
use Rattle.stack_polygon.specs.declared.point.Span.{Span}
use Rattle.stack_polygon.specs.Corners.{corner_of}
use Rattle.stack_polygon.specs.Spans.{IsLeast, IsGreatest, IsSpanTo}

-- the least of one number more: the test decides which of the two stays
least-more : (n : ℕ) (f : ℕ → ℤ) (z c : ℤ) → c ≡ f n → IsLeast n f z → IsLeast (n + 1) f (int_min z c)
least-more n f z c e h = go (int_lt c z) refl
  where
    go : (b : Bool) → int_lt c z ≡ b → IsLeast (n + 1) f (cond b c z)
    go true t = record {
      within = below_more (λ j. c ≼ f j) n (λ j l. let m = h.within j l in grind (arith, ints)) (omega (arith, sums));
      reached = (n, (omega arith, sym e));
    }
    go false t = record {
      within = below_more (λ j. z ≼ f j) n h.within (grind (arith, ints));
      reached = (h.reached.0, (omega (arith, h.reached.1.0), h.reached.1.1));
    }

greatest-more : (n : ℕ) (f : ℕ → ℤ) (z c : ℤ) → c ≡ f n → IsGreatest n f z → IsGreatest (n + 1) f (int_max z c)
greatest-more n f z c e h = go (int_lt c z) refl
  where
    go : (b : Bool) → int_lt c z ≡ b → IsGreatest (n + 1) f (cond b z c)
    go true t = record {
      within = below_more (λ j. f j ≼ z) n h.within (grind (arith, ints));
      reached = (h.reached.0, (omega (arith, h.reached.1.0), h.reached.1.1));
    }
    go false t = record {
      within = below_more (λ j. f j ≼ c) n (λ j l. let m = h.within j l in grind (arith, ints)) (omega (arith, sums));
      reached = (n, (omega arith, sym e));
    }

pub span-more : (n : ℕ) (ps : List Point) (s t : Span) → t.x0 ≡ int_min s.x0 (corner_of ps n).x
    → t.y0 ≡ int_min s.y0 (corner_of ps n).y → t.x1 ≡ int_max s.x1 (corner_of ps n).x
    → t.y1 ≡ int_max s.y1 (corner_of ps n).y → IsSpanTo n ps s → IsSpanTo (n + 1) ps t
span-more n ps s t a b c d h = record {
  x0 = subst (IsLeast (n + 1) (λ j. (corner_of ps j).x)) (sym a) (least-more n _ s.x0 _ refl h.x0);
  y0 = subst (IsLeast (n + 1) (λ j. (corner_of ps j).y)) (sym b) (least-more n _ s.y0 _ refl h.y0);
  x1 = subst (IsGreatest (n + 1) (λ j. (corner_of ps j).x)) (sym c) (greatest-more n _ s.x1 _ refl h.x1);
  y1 = subst (IsGreatest (n + 1) (λ j. (corner_of ps j).y)) (sym d) (greatest-more n _ s.y1 _ refl h.y1);
}
