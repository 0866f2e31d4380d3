-- The list of the first n values of a function.
use Rattle.std.specs.Prelude.{ℕ, zero, suc, List, [], ◌∷◌}

-- f 0, f 1, .., f (n - 1), in this order
abbrev pub listed : {X : Type 0} → ℕ → (ℕ → X) → List X
listed zero f = []
listed (suc n) f = f 0 ∷ listed n (λ k. f (suc k))
