-- The names of bricks: each is a name, and none is that of another brick.
use Rattle.std.proofs.Common.{◌≡◌, ℕ, zero, suc, ◌+◌, ◌<◌, ◌≤◌, Bool, true, false, not, ◌||◌, List, [], ◌∷◌}
use Rattle.std.proofs.Common.{length, get_or, drop, Some, None, refl, sym, ap, ◌∙◌, subst, arith, add-one, cond, nat_lt}
use Rattle.std.specs.List.{All, position_or_len}
use Rattle.std.proofs.lemmas.Int.{ints}
use Rattle.std.specs.Str.{bytes_eq}
use Rattle.std.specs.Fmt.{digits}
use Rattle.std.proofs.lemmas.Fmt.{decimal_injective}
use Rattle.std.proofs.lemmas.Slice.Eq.{bytes_eq-Decides}
use Rattle.std.proofs.lemmas.List.Folds.{list_any_none}
use Rattle.std.proofs.lemmas.List.Sums.{position_or_len_is}
use Rattle.stack_whole.specs.Limits.{most_free}
use Rattle.stack_algebra.proofs.Listed.{listed, length_listed, listed_item}
use Rattle.stack_polygon.proofs.Tested.{each_below}
use Rattle.stack_model.specs.Limits.{is_name}
use Rattle.stack_model.specs.Content.{is_new, number_of}
use Rattle.stack_overhang.specs.Bricks.{brick_name}

pub is_a_brick_name : (k : ℕ) → k < most_free → is_name (brick_name k) ≡ true
unfolding digits
is_a_brick_name k l = each_below (λ k. is_name (brick_name k)) most_free refl k l

-- two bricks have two names
other_name : (j k : ℕ) → j < most_free → k < most_free → ¬ (j ≡ k) → bytes_eq (brick_name j) (brick_name k) ≡ false
other_name j k hj hk differ = go (bytes_eq (brick_name j) (brick_name k)) refl
  where
    go : (b : Bool) → bytes_eq (brick_name j) (brick_name k) ≡ b → b ≡ false
    go false e = refl
    go true e =
        let same = (bytes_eq-Decides (brick_name j) (brick_name k)).0 e in
        let numbers : j + 1 ≡ k + 1 =
        decimal_injective (j + 1) (k + 1) (omega arith) (omega arith) (ap (drop 1) same) in
        absurd (differ (omega arith))

-- none of the first n names is that of brick k
none_before : (k n : ℕ) → k < most_free → n ≤ k
    → All (λ name. bytes_eq (brick_name k) name ≡ false) (listed n brick_name)
none_before k n hk le i d lt =
    let below : i < n = subst (λ m. i < m) (length_listed n brick_name) lt in
    subst (λ name. bytes_eq (brick_name k) name ≡ false) (sym (listed_item n brick_name i d below))
    (other_name k i hk (omega arith) (omega arith))

-- a name that no brick has
abbrev pub IsApart : List ℕ → Type 0
IsApart base = (k : ℕ) → bytes_eq (brick_name k) base ≡ false

-- the name of brick k is new after the base and the bricks before it
pub fresh : (base : List ℕ) (k : ℕ) → IsApart base → k < most_free
    → is_new (brick_name k) (base ∷ listed k brick_name) ≡ true
fresh base k apart hk =
    let none = list_any_none (bytes_eq (brick_name k)) (listed k brick_name) (none_before k k hk (omega arith)) in
    λ i. not (apart k i || none i)

-- the name of brick k is found at its number
pub numbered : (base : List ℕ) (n k : ℕ) → IsApart base → k < n → n ≤ most_free
    → number_of (brick_name k) (base ∷ listed n brick_name) ≡ Some (k + 1)
numbered base n k apart lt few =
    let names = base ∷ listed n brick_name in
    let long : length names ≡ suc n = ap suc (length_listed n brick_name) in
    let within : k + 1 < length names = omega (arith, long) in
    let found : position_or_len (bytes_eq (brick_name k)) names ≡ k + 1 =
    position_or_len_is (bytes_eq (brick_name k)) names (k + 1) [] (omega (arith, long)) (λ i l. before i l)
    (λ _. subst (λ m. bytes_eq (brick_name k) (get_or names m []) ≡ true) (sym (add-one k))
    (subst (λ name. bytes_eq (brick_name k) name ≡ true) (sym (listed_item n brick_name k [] lt))
    ((bytes_eq-Decides (brick_name k) (brick_name k)).1 refl))) in
    (λ i. cond (nat_lt (found i) (length names)) (Some (found i)) None)
    ∙ ap (λ b. cond b (Some (k + 1)) None) (is_less (k + 1) (length names) within)
  where
    is_less : (i m : ℕ) → i < m → nat_lt i m ≡ true
    is_less i m l = grind (arith, ints)

    before : (i : ℕ) → i < k + 1 → bytes_eq (brick_name k) (get_or (base ∷ listed n brick_name) i []) ≡ false
    before zero l = apart k
    before (suc i) l = subst (λ name. bytes_eq (brick_name k) name ≡ false)
        (sym (listed_item n brick_name i [] (omega arith)))
        (other_name k i (omega arith) (omega arith) (omega arith))
