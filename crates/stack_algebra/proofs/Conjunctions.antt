-- Tests that hold together.
use mathlib.Core.Path.{◌≡◌, refl}
use Rattle.std.specs.Prelude.{Bool, true, false, not, ◌&&◌}

pub not-false : (b : Bool) → not b ≡ false → b ≡ true
not-false true h = refl
not-false false h = absurd cc

pub left_true : (s t : Bool) → s && t ≡ true → s ≡ true
left_true true t h = refl
left_true false t h = absurd cc

pub right_true : (s t : Bool) → s && t ≡ true → t ≡ true
right_true true t h = h
right_true false t h = absurd cc

pub both_true : (s t : Bool) → s && t ≡ true → (s ≡ true) × (t ≡ true)
both_true true t h = (refl, h)
both_true false t h = absurd cc

pub and_true : (s t : Bool) → s ≡ true → t ≡ true → s && t ≡ true
and_true true t h k = k
and_true false t h k = absurd cc

pub all_four : (a b c d : Bool) → a && (b && (c && d)) ≡ true → (a ≡ true) × (b ≡ true) × (c ≡ true) × (d ≡ true)
all_four true true true d h = (refl, refl, refl, h)
all_four true true false d h = absurd cc
all_four true false c d h = absurd cc
all_four false b c d h = absurd cc
