-- Items that a test keeps: each comes of an item, each kept item is among them, and their order stays.
use Rattle.std.proofs.Common.{◌≡◌, refl, subst, ℕ, zero, suc, ◌<◌, ◌≤◌, Bool, true, false, List, [], ◌∷◌, length, arith}
use Rattle.std.proofs.Common.{Some, slice_get}
use Rattle.std.specs.Bool.{if◌then◌else◌}
use Rattle.std.proofs.lemmas.Option.{same_Some}
use Rattle.stack_model.specs.Keeping.{picked}

module _ {A : Type 0} (keeps : A → Bool) (changed : A → A) where
  -- the item z was y, which is item m
  pub record IsFrom (xs : List A) (z : A) (m : ℕ) (y : A) : Type 0 where
    pub at : slice_get xs m ≡ Some y
    pub kept : keeps y ≡ true
    pub is : changed y ≡ z

  -- what comes of the later items comes of all of them
  from_later : (x : A) (xs : List A) (z : A) → (m : ℕ) × (y : A) × IsFrom xs z m y
      → (m : ℕ) × (y : A) × IsFrom (x ∷ xs) z m y
  from_later x xs z h = (suc h.0, h.1, record { at = h.2.at; kept = h.2.kept; is = h.2.is })

  -- what is kept comes of an item
  pub picked_from : (xs : List A) (k : ℕ) (z : A) → slice_get (picked keeps changed xs) k ≡ Some z
      → (m : ℕ) × (y : A) × IsFrom xs z m y
  picked_from [] k z e = absurd (cc e)
  picked_from (x ∷ xs) k z e = go (keeps x) refl k e (picked_from xs)
    where
      go : (t : Bool) → keeps x ≡ t → (k : ℕ)
          → slice_get (if t then changed x ∷ picked keeps changed xs else picked keeps changed xs) k ≡ Some z
          → ((k : ℕ) (z : A) → slice_get (picked keeps changed xs) k ≡ Some z
          → (m : ℕ) × (y : A) × IsFrom xs z m y)
          → (m : ℕ) × (y : A) × IsFrom (x ∷ xs) z m y
      go true h zero e rest = (0, x, record { at = refl; kept = h; is = same_Some _ _ e })
      go true h (suc k) e rest = from_later x xs z (rest k z e)
      go false h k e rest = from_later x xs z (rest k z e)

  -- an item that passes is kept
  pub picked_has : (xs : List A) (m : ℕ) (y : A) → slice_get xs m ≡ Some y → keeps y ≡ true
      → (k : ℕ) × (slice_get (picked keeps changed xs) k ≡ Some (changed y))
  picked_has [] m y e h = absurd (cc e)
  picked_has (x ∷ xs) zero y e h =
      let s : x ≡ y = same_Some x y e in
      (0, rw s (rw h refl))
  picked_has (x ∷ xs) (suc m) y e h = go (keeps x) (picked_has xs m y e h)
    where
      go : (t : Bool) → (k : ℕ) × (slice_get (picked keeps changed xs) k ≡ Some (changed y))
          → (k : ℕ) × (slice_get (if t then changed x ∷ picked keeps changed xs else picked keeps changed xs) k
          ≡ Some (changed y))
      go true r = (suc r.0, r.1)
      go false r = r

  -- no more are kept than there are
  pub picked_few : (xs : List A) (n : ℕ) → length xs ≤ n → length (picked keeps changed xs) ≤ n
  picked_few [] n h = h
  picked_few (x ∷ xs) zero h = absurd (omega arith)
  picked_few (x ∷ xs) (suc n) h = go (keeps x) (picked_few xs n (omega arith))
    where
      go : (t : Bool) → length (picked keeps changed xs) ≤ n
          → length (if t then changed x ∷ picked keeps changed xs else picked keeps changed xs) ≤ suc n
      go true r = omega (arith, r)
      go false r = omega (arith, r)

  -- each item stands so to each later one
  abbrev pub Ordered : (A → A → Type 0) → List A → Type 0
  Ordered R xs = (k l : ℕ) (y z : A) → k < l → slice_get xs k ≡ Some y → slice_get xs l ≡ Some z → R y z

  -- what is kept stays in its order
  pub picked_ordered : (R S : A → A → Type 0)
      → ((y z : A) → keeps y ≡ true → keeps z ≡ true → R y z → S (changed y) (changed z))
      → (xs : List A) → Ordered R xs → Ordered S (picked keeps changed xs)
  picked_ordered R S turn [] h k l y z lt e f = absurd (cc e)
  picked_ordered R S turn (x ∷ xs) h k l y z lt e f = go (keeps x) refl
      (picked_ordered R S turn xs (λ k l y z lt e f. h (suc k) (suc l) y z (omega (arith, lt)) e f))
      k l y z lt e f
    where
      go : (t : Bool) → keeps x ≡ t → Ordered S (picked keeps changed xs)
          → Ordered S (if t then changed x ∷ picked keeps changed xs else picked keeps changed xs)
      go true kx rest k zero y z lt e f = absurd (omega arith)
      go true kx rest zero (suc l) y z lt e f =
          let o = picked_from xs l z f in
          subst (λ w. S w z) (same_Some _ _ e) (subst (S (changed x)) o.2.is
          (turn x o.1 kx o.2.kept (h 0 (suc o.0) x o.1 (omega arith) refl o.2.at)))
      go true kx rest (suc k) (suc l) y z lt e f = rest k l y z (omega arith) e f
      go false kx rest k l y z lt e f = rest k l y z lt e f
