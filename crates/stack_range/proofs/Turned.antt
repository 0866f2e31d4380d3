-- A factor is carried exactly where the reversed scene carries the one of the other sign.
use Rattle.std.proofs.Common.{arith, ◌↔◌}
use mathlib.Core.Path.{◌≡◌}
use lib.IntN.{ℤ, ◌*ℤ◌, neg_ℤ}
use Rattle.stack_equilibrium.proofs.Common.{Carries, Scene, expand, sums}
use Rattle.stack_range.specs.Reversed.{reversed_scene}

-- the live loads count the same
turned : (k n x : ℤ) → k *ℤ neg_ℤ n *ℤ neg_ℤ x ≡ k *ℤ n *ℤ x
turned k n x = simp expand (omega (arith, sums))

-- the same forces carry the factor of the other sign
forth : (s : Scene) (n D : ℤ) → Carries s n D → Carries (reversed_scene s) (neg_ℤ n) D
forth s n D c = record {
  k = c.k;
  parts = c.parts;
  positive = c.positive;
  admissible = c.admissible;
  balanced = λ i l t. record {
    along_x = rw (turned c.k n (s.body i).live.fx) (c.balanced i l t).along_x;
    along_y = rw (turned c.k n (s.body i).live.fy) (c.balanced i l t).along_y;
    about = rw (turned c.k n (s.body i).live.m) (c.balanced i l t).about;
  };
}

-- what the reversed scene carries with the other sign, the scene carries
back : (s : Scene) (n D : ℤ) → Carries (reversed_scene s) (neg_ℤ n) D → Carries s n D
back s n D c = record {
  k = c.k;
  parts = c.parts;
  positive = c.positive;
  admissible = c.admissible;
  balanced = λ i l t. record {
    along_x = rw (turned c.k n (s.body i).live.fx) at (c.balanced i l t).along_x;
    along_y = rw (turned c.k n (s.body i).live.fy) at (c.balanced i l t).along_y;
    about = rw (turned c.k n (s.body i).live.m) at (c.balanced i l t).about;
  };
}

-- both scenes carry the same, with the other sign
pub scene_turns_factors : (s : Scene) (n D : ℤ) → Carries s n D ↔ Carries (reversed_scene s) (neg_ℤ n) D
scene_turns_factors s n D = (forth s n D, back s n D)
