-- Kept items have rising numbers, and each of them is an item of the whole list.
use Rattle.std.proofs.Common.{◌≡◌, refl, ap, ℕ, zero, suc, ◌<◌, ◌≤◌, Bool, true, false, List, [], ◌∷◌, length, get_or}
use Rattle.std.proofs.Common.{arith, inl, inr}
use Rattle.std.specs.Bool.{if◌then◌else◌}
use Rattle.std.proofs.lemmas.Bool.{cases_lt}
use Rattle.stack_model.specs.Keeping.{later, kept, kept_before}

-- a later kept number has more kept ones before it
pub before_rises : (keeps : ℕ → Bool) (i j : ℕ) → keeps i ≡ true → i < j
    → kept_before keeps i < kept_before keeps j
before_rises keeps i zero k l = absurd (omega arith)
before_rises keeps zero (suc j) k l =
    rw k (omega arith)
before_rises keeps (suc i) (suc j) k l = go (keeps 0) (before_rises (later keeps) i j k (omega arith))
  where
    go : (t : Bool) → kept_before (later keeps) i < kept_before (later keeps) j
        → (if t then suc (kept_before (later keeps) i) else kept_before (later keeps) i)
        < (if t then suc (kept_before (later keeps) j) else kept_before (later keeps) j)
    go true h = omega (arith, h)
    go false h = h

-- of two numbers of which neither is less, both are one
is_same : (m n : ℕ) → n ≤ m → m ≤ n → m ≡ n
is_same m n a b = omega arith

-- numbers among the kept ones rise as the numbers do
pub items_rise : (keeps : ℕ → Bool) (m n i j : ℕ) → kept_before keeps m ≡ i → kept_before keeps n ≡ j
    → keeps n ≡ true → i < j → m < n
items_rise keeps m n i j e f k l = elim (cases_lt m n) [
  | inl earlier ↦ earlier
  | inr other ↦ elim (cases_lt n m) [
    | inl later ↦ let r = before_rises keeps n m k later in absurd (omega (arith, e, f, r))
    | inr same ↦ let r = ap (kept_before keeps) (is_same m n other same) in absurd (omega (arith, e, f, r))
  ]
]

-- the item j of those that are kept is the item n of all
pub record IsItem {A : Type 0} (keeps : ℕ → Bool) (xs : List A) (j n : ℕ) : Type 0 where
  pub within : n < length xs
  pub stays : keeps n ≡ true
  pub number : kept_before keeps n ≡ j
  pub same : (d : A) → get_or (kept keeps xs) j d ≡ get_or xs n d

module _ {A : Type 0} where
  -- an item of the rest, behind a first one that is kept
  item_later : (keeps : ℕ → Bool) (x : A) (xs : List A) (j n : ℕ) → keeps 0 ≡ true
      → IsItem (later keeps) xs j n → IsItem keeps (x ∷ xs) (suc j) (suc n)
  item_later keeps x xs j n e h = record {
    within = omega (arith, h.within);
    stays = h.stays;
    number = rw e (ap suc h.number);
    same = λ d. rw e (h.same d);
  }

  -- an item of the rest, behind a first one that isn't kept
  item_same : (keeps : ℕ → Bool) (x : A) (xs : List A) (j n : ℕ) → keeps 0 ≡ false
      → IsItem (later keeps) xs j n → IsItem keeps (x ∷ xs) j (suc n)
  item_same keeps x xs j n e h = record {
    within = omega (arith, h.within);
    stays = h.stays;
    number = rw e h.number;
    same = λ d. rw e (h.same d);
  }

  -- the first item, where it is kept
  item_first : (keeps : ℕ → Bool) (x : A) (xs : List A) → keeps 0 ≡ true → IsItem keeps (x ∷ xs) 0 0
  item_first keeps x xs e = record {
    within = omega arith;
    stays = e;
    number = refl;
    same = λ d. rw e refl;
  }

  -- each of the kept items is an item of all
  pub item_of : (keeps : ℕ → Bool) (xs : List A) (j : ℕ) → j < length (kept keeps xs)
      → (n : ℕ) × IsItem keeps xs j n
  item_of keeps [] j l = absurd (omega arith)
  item_of keeps (x ∷ xs) j l = go (keeps 0) refl j l (item_of (later keeps) xs)
    where
      go : (t : Bool) → keeps 0 ≡ t → (j : ℕ)
          → j < length (if t then x ∷ kept (later keeps) xs else kept (later keeps) xs)
          → ((i : ℕ) → i < length (kept (later keeps) xs) → (n : ℕ) × IsItem (later keeps) xs i n)
          → (n : ℕ) × IsItem keeps (x ∷ xs) j n
      go true e zero l rest = (0, item_first keeps x xs e)
      go true e (suc j) l rest = let r = rest j (omega (arith, l)) in
          (suc r.0, item_later keeps x xs j r.0 e r.1)
      go false e j l rest = let r = rest j l in (suc r.0, item_same keeps x xs j r.0 e r.1)

  -- a kept item stands at its number among the kept ones
  pub at_number : (keeps : ℕ → Bool) (xs : List A) (n : ℕ) → n < length xs → keeps n ≡ true
      → (kept_before keeps n < length (kept keeps xs)) × IsItem keeps xs (kept_before keeps n) n
  at_number keeps [] n l k = absurd (omega arith)
  at_number keeps (x ∷ xs) zero l k = (rw k (omega arith), item_first keeps x xs k)
  at_number keeps (x ∷ xs) (suc n) l k = go (keeps 0) refl (at_number (later keeps) xs n (omega arith) k)
    where
      go : (t : Bool) → keeps 0 ≡ t → (kept_before (later keeps) n < length (kept (later keeps) xs))
          × IsItem (later keeps) xs (kept_before (later keeps) n) n
          → (kept_before keeps (suc n) < length (kept keeps (x ∷ xs)))
          × IsItem keeps (x ∷ xs) (kept_before keeps (suc n)) (suc n)
      go true e h = rw e (omega (arith, h.0), item_later keeps x xs _ n e h.1)
      go false e h = rw e (h.0, item_same keeps x xs _ n e h.1)
