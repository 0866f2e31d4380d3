-- A text that is written piece by piece.
use Rattle.std.proofs.Common.{◌≡◌, ℕ, List, ◌++◌, Result, Ok, Err, IfOk, String, string_bytes, ap, ◌∙◌}
use Rattle.std.proofs.Common.{append_assoc}
use Rattle.std.specs.declared.alloc.Global.{Global}

-- a piece, and then the rest
pub text_after : {E : Type 0} (r : Result (String Global) E) (front piece rest x : List ℕ) → x ≡ front ++ piece
    → IfOk r (λ t. string_bytes t ≡ x ++ rest) → IfOk r (λ t. string_bytes t ≡ front ++ (piece ++ rest))
text_after (Ok t) front piece rest x e h = h ∙ ap (λ l. l ++ rest) e ∙ append_assoc front piece rest
text_after (Err e) front piece rest x is h = h
