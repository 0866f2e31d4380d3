-- The basic columns after a pivot.
use Rattle.std.proofs.Common.{◌≡◌, sym, ap, ◌∙◌, ℕ, ◌<◌, List, length, get_or, set, arith, get_or-set_same}
use Rattle.std.proofs.Common.{get_or-set_other}
use Rattle.stack_rational.proofs.Common.{ℕ_discrete, changed, changed-same, changed-other}

-- the basic column of each row
pub basic_changed : (xs : List ℕ) (r c i : ℕ) → r < length xs →
    get_or (set xs r c) i 0 ≡ changed (λ k. get_or xs k 0) r c i
basic_changed xs r c i l = elim (ℕ_discrete i r) [
  | yes d ↦ ap (λ k. get_or (set xs r c) k 0) d ∙ get_or-set_same xs r c 0 l
      ∙ sym (ap (changed (λ k. get_or xs k 0) r c) d ∙ changed-same (λ k. get_or xs k 0) r c)
  | no d ↦ get_or-set_other xs r i c 0 d ∙ sym (changed-other (λ k. get_or xs k 0) r c i d)
]

-- all basic columns stay below a bound
pub basic_below : (xs : List ℕ) (r c n w : ℕ) → r < length xs → c < w → ((i : ℕ) → i < n → get_or xs i 0 < w) →
    (i : ℕ) → i < n → get_or (set xs r c) i 0 < w
basic_below xs r c n w l h k i d = elim (ℕ_discrete i r) [
  | yes e ↦ omega (arith, ap (λ k. get_or (set xs r c) k 0) e, get_or-set_same xs r c 0 l, h)
  | no e ↦ omega (arith, get_or-set_other xs r i c 0 e, k i d)
]
