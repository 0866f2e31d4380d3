-- Values within their limits: what the tests say.
use Rattle.std.proofs.Common.{◌≡◌, ℕ, ◌<◌, ℤ, pos, negsuc, Bool, true, false, ◌&&◌, List, [], ◌∷◌, length, get_or}
use Rattle.std.proofs.Common.{Option, Some, None, refl, sym, ◌∙◌, subst, arith, ◌≤◌, int_le, nat_le, if◌then◌else◌}
use Rattle.stack_algebra.proofs.Conjunctions.{both_true}
use Rattle.std.proofs.lemmas.Int.{ints}
use Rattle.std.specs.List.{list_all}
use Rattle.std.specs.Str.{bytes_eq}
use Rattle.std.proofs.lemmas.Slice.Eq.{bytes_eq-Decides}
use Rattle.std.proofs.lemmas.List.Quantifiers.{position-Some}
use Rattle.stack_algebra.proofs.Order.{◌≼◌}
use Rattle.stack_model.specs.Limits.{IsName, is_name, is_name_byte, is_between, friction_of, sway_of, force_of}
use Rattle.stack_model.specs.Content.{number_of}

pub between : (low high z : ℤ) → is_between low high z ≡ true → (low ≼ z) × (z ≼ high)
between low high z h = let p = both_true (int_le low z) (int_le z high) h in
    (at_least low z p.0, at_least z high p.1)
  where
    at_least : (x y : ℤ) → int_le x y ≡ true → x ≼ y
    at_least x y h = grind (arith, ints)

-- two numbers that pass, one by one
pub record IsPair (p q : ℤ → Bool) (zs : List ℤ) (f : ℤ × ℤ) : Type 0 where
  pub first : p f.0 ≡ true
  pub second : q f.1 ≡ true
  pub same : f.0 ∷ f.1 ∷ [] ≡ zs

-- what takes two numbers that pass, and nothing else
module _ (of : List ℤ → Option (ℤ × ℤ)) (p q : ℤ → Bool) (none : of [] ≡ None)
    (one : (x : ℤ) → of (x ∷ []) ≡ None)
    (two : (x y : ℤ) → of (x ∷ y ∷ []) ≡ (if p x && q y then Some (x, y) else None))
    (more : (x y z : ℤ) (zs : List ℤ) → of (x ∷ y ∷ z ∷ zs) ≡ None) where
  pair : (zs : List ℤ) (f : ℤ × ℤ) → of zs ≡ Some f → IsPair p q zs f
  pair (x ∷ y ∷ []) f h = go (p x && q y) refl (sym (two x y) ∙ h)
    where
      go : (b : Bool) → p x && q y ≡ b → (if b then Some (x, y) else None) ≡ Some f
          → IsPair p q (x ∷ y ∷ []) f
      go true t e =
          let same : (x, y) ≡ f = cc in
          let both = both_true (p x) (q y) t in
          subst (IsPair p q (x ∷ y ∷ [])) same (record { first = both.0; second = both.1; same = refl })
      go false t e = absurd (cc)
  pair [] f h = absurd (cc)
  pair (x ∷ []) f h = let e = one x in absurd (cc)
  pair (x ∷ y ∷ z ∷ zs) f h = let e = more x y z zs in absurd (cc)

-- a coefficient that was taken
pub record IsCoefficient (f : ℤ × ℤ) : Type 0 where
  pub p : (pos 0 ≼ f.0) × (f.0 ≼ pos 1000)
  pub q : (pos 1 ≼ f.1) × (f.1 ≼ pos 1000)

pub friction_pair : (zs : List ℤ) (f : ℤ × ℤ) → friction_of zs ≡ Some f
    → IsPair (is_between (pos 0) (pos 1000)) (is_between (pos 1) (pos 1000)) zs f
friction_pair = pair friction_of _ _ refl (λ x. refl) (λ x y. refl) (λ x y z zs. refl)

pub coefficient : (zs : List ℤ) (f : ℤ × ℤ) → friction_of zs ≡ Some f → IsCoefficient f
coefficient zs f h = let t = friction_pair zs f h in
    record { p = between (pos 0) (pos 1000) f.0 t.first; q = between (pos 1) (pos 1000) f.1 t.second }

-- a sway that was taken
pub record IsTaken (z : ℤ × ℤ) : Type 0 where
  pub x : (negsuc 999 ≼ z.0) × (z.0 ≼ pos 1000)
  pub y : (negsuc 999 ≼ z.1) × (z.1 ≼ pos 1000)

abbrev pub is_share : ℤ → Bool
is_share z = is_between (negsuc 999) (pos 1000) z

pub sway_pair : (zs : List ℤ) (z : ℤ × ℤ) → sway_of zs ≡ Some z → IsPair is_share is_share zs z
sway_pair = pair sway_of _ _ refl (λ x. refl) (λ x y. refl) (λ x y z zs. refl)

pub sway : (zs : List ℤ) (z : ℤ × ℤ) → sway_of zs ≡ Some z → IsTaken z
sway zs z h = let t = sway_pair zs z h in
    record { x = between (negsuc 999) (pos 1000) z.0 t.first; y = between (negsuc 999) (pos 1000) z.1 t.second }

-- a force that was taken
pub record IsForce (f : ℤ × ℤ) : Type 0 where
  pub x : (negsuc 999999999 ≼ f.0) × (f.0 ≼ pos 1000000000)
  pub y : (negsuc 999999999 ≼ f.1) × (f.1 ≼ pos 1000000000)

abbrev pub is_part : ℤ → Bool
is_part z = is_between (negsuc 999999999) (pos 1000000000) z

pub force_pair : (zs : List ℤ) (f : ℤ × ℤ) → force_of zs ≡ Some f → IsPair is_part is_part zs f
force_pair = pair force_of _ _ refl (λ x. refl) (λ x y. refl) (λ x y z zs. refl)

pub force : (zs : List ℤ) (f : ℤ × ℤ) → force_of zs ≡ Some f → IsForce f
force zs f h = let t = force_pair zs f h in record {
  x = between (negsuc 999999999) (pos 1000000000) f.0 t.first;
  y = between (negsuc 999999999) (pos 1000000000) f.1 t.second;
}

pub number_below : (name : List ℕ) (names : List (List ℕ)) (n : ℕ) → number_of name names ≡ Some n
    → n < length names
number_below name names n h = (position-Some (bytes_eq name) names n [] h).0

-- the name of the item that was found is the name
pub named : (name : List ℕ) (names : List (List ℕ)) (n : ℕ) → number_of name names ≡ Some n
    → name ≡ get_or names n []
named name names n h = (bytes_eq-Decides name (get_or names n [])).0
    (position-Some (bytes_eq name) names n [] h).1

-- a name that was taken
pub is_a_name : (name : List ℕ) → is_name name ≡ true → IsName name
is_a_name name h =
    let a = both_true (nat_le 1 (length name) && nat_le (length name) 32) (list_all is_name_byte name) h in
    let b = both_true (nat_le 1 (length name)) (nat_le (length name) 32) a.0 in
    record { least = below 1 (length name) b.0; most = below (length name) 32 b.1; letters = a.1 }
  where
    below : (m n : ℕ) → nat_le m n ≡ true → m ≤ n
    below m n h = grind (arith, ints)
