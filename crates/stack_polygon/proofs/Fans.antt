-- One triangle more of a fan.
use mathlib.Core.Path.{◌≡◌, sym, ap, ◌∙◌}
use mathlib.Core.List.{List}
use Prim.Native.Nat.{ℕ, ◌+◌}
use lib.IntN.{ℤ, ◌+ℤ◌}
use Rattle.std.proofs.Common.{add-one}
use Rattle.stack_algebra.specs.Sums.{sum_to}
use Rattle.stack_polygon.specs.declared.point.Point.{Point}
use Rattle.stack_polygon.specs.Corners.{corner_of}

-- the first n triangles
abbrev pub fan_to : (Point → Point → Point → ℤ) → List Point → ℕ → ℤ
fan_to g ps n = sum_to n (λ i. g (corner_of ps 0) (corner_of ps (i + 1)) (corner_of ps (i + 2)))

pub fan_on : (g : Point → Point → Point → ℤ) (ps : List Point) (n : ℕ)
    → fan_to g ps (n + 1) ≡ fan_to g ps n +ℤ g (corner_of ps 0) (corner_of ps (n + 1)) (corner_of ps (n + 2))
fan_on g ps n = ap (fan_to g ps) (add-one n)

pub fan_more : (g : Point → Point → Point → ℤ) (ps : List Point) (n : ℕ) (so_far one more : ℤ)
    → so_far ≡ fan_to g ps n
    → one ≡ g (corner_of ps 0) (corner_of ps (n + 1)) (corner_of ps (n + 2)) → more ≡ so_far +ℤ one
    → more ≡ fan_to g ps (n + 1)
fan_more g ps n so_far one more h k e = e ∙ (λ i. h i +ℤ k i) ∙ sym (fan_on g ps n)
