-- What is seen of the items of a list that is written item by item.
use Rattle.std.proofs.Common.{◌≡◌, ◌≢◌, sym, ap, ◌∙◌, ℕ, ◌<◌, ◌≤◌, List, map, length, get_or, set, arith}
use Rattle.std.proofs.Common.{get_or-set_same, get_or-set_other}
use Rattle.std.proofs.lemmas.List.{map-set}
use Rattle.stack_rational.proofs.Common.{length-map, get_or_past, get_or-map}

module _ {V C : Type 0} (e : V → C) (z : C) where
  -- past the end
  pub at-past : (xs : List V) (j : ℕ) → length xs ≤ j → get_or (map e xs) j z ≡ z
  at-past xs j l = get_or_past (map e xs) j z (omega (arith, length-map xs e))

  -- an item that is read
  pub at-index : (xs : List V) (j : ℕ) (x : V) → j < length xs → x ≡ get_or xs j x → get_or (map e xs) j z ≡ e x
  at-index xs j x l h = get_or-map e xs j x z l ∙ ap e (sym h)

  -- an item that is written
  pub at-set_same : (xs : List V) (j : ℕ) (x : V) → j < length xs → get_or (map e (set xs j x)) j z ≡ e x
  at-set_same xs j x l = ap (λ ys. get_or ys j z) (map-set e xs j x)
      ∙ get_or-set_same (map e xs) j (e x) z (omega (arith, length-map xs e))

  -- and the others
  pub at-set_other : (xs : List V) (j k : ℕ) (x : V) → k ≢ j → get_or (map e (set xs j x)) k z ≡ get_or (map e xs) k z
  at-set_other xs j k x d = ap (λ ys. get_or ys k z) (map-set e xs j x) ∙ get_or-set_other (map e xs) j k (e x) z d
