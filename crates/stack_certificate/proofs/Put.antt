-- What was put, one piece after another.
use Rattle.std.proofs.Common.{◌≡◌, ℕ, List, ◌++◌, Result, Ok, Err, OnOk, ◌∙◌, append_assoc}

-- a piece, and then the rest
pub put_after : {T E : Type 0} (r : Result T E) (out piece rest told x y : List ℕ) → x ≡ out ++ piece → told ≡ rest
    → OnOk r (y ≡ x ++ told) → OnOk r (y ≡ out ++ (piece ++ rest))
put_after (Ok u) out piece rest told x y e same h =
    h ∙ (λ i. e i ++ same i) ∙ append_assoc out piece rest
put_after (Err u) out piece rest told x y e same h = h
