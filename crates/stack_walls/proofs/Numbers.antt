-- A number for each two bodies of a wall that have a point in common. It grows with the pair, by two at least, and it
-- stays below 822.
use Rattle.std.proofs.Common.{◌≡◌, refl, ap, ◌∙◌, ℕ, suc, ◌+◌, ◌*◌, ◌-◌, ◌<◌, ◌≤◌, ◌⊎◌, inl, inr, arith}
use Rattle.std.proofs.lemmas.Nat.{mul-le}
use Rattle.stack_contact.specs.ContactLists.{PairBefore}
use Rattle.stack_walls.proofs.Courses.{none_times, once_more}

-- the place of a later body d further on among those that a brick of a wall of b bricks a course meets: first the next
-- in its course, and then up to three of the next course
abbrev pub IsSlot : ℕ → ℕ → ℕ → Type 0
IsSlot b d t = ((d ≡ 1) × (t ≡ 0)) ⊎ ((2 ≤ d) × (d + 2 ≡ b + t) × (1 ≤ t) × (t ≤ 3))

-- the ground and a brick of the first course
pub record IsOnGround (i j n : ℕ) : Type 0 where
  pub first : i ≡ 0
  pub least : 1 ≤ j
  pub most : j ≤ 10
  pub value : n ≡ 2 * j

-- a brick, and a later one that it meets
pub record IsOnBrick (b i j n : ℕ) : Type 0 where
  pub brick : ℕ
  pub further : ℕ
  pub slot : ℕ
  pub first : i ≡ suc brick
  pub few : brick < 100
  pub second : j ≡ i + further
  pub is_slot : IsSlot b further slot
  pub value : n ≡ 22 + 8 * brick + 2 * slot

abbrev pub IsBase : ℕ → ℕ → ℕ → ℕ → Type 0
IsBase b i j n = IsOnGround i j n ⊎ IsOnBrick b i j n

slot_most : (b d t : ℕ) → IsSlot b d t → t ≤ 3
slot_most b d t (inl (e, f)) = omega (arith, f)
slot_most b d t (inr (g, e, l, m)) = m

slot_before : (b d t e u : ℕ) → IsSlot b d t → IsSlot b e u → d < e → t < u
slot_before b d t e u (inl (p, q)) (inl (r, s)) h = absurd (omega (arith, p, r, h))
slot_before b d t e u (inl (p, q)) (inr (g, r, l, m)) h = omega (arith, q, l)
slot_before b d t e u (inr (g, r, l, m)) (inl (p, q)) h = absurd (omega (arith, g, p, h))
slot_before b d t e u (inr (g, r, l, m)) (inr (k, x, y, z)) h = omega (arith, r, x, h)

slot_same : (b d t e u : ℕ) → IsSlot b d t → IsSlot b e u → d ≡ e → t ≡ u
slot_same b d t e u (inl (p, q)) (inl (r, s)) h = omega (arith, q, s)
slot_same b d t e u (inl (p, q)) (inr (g, r, l, m)) h = absurd (omega (arith, p, g, h))
slot_same b d t e u (inr (g, r, l, m)) (inl (p, q)) h = absurd (omega (arith, g, p, h))
slot_same b d t e u (inr (g, r, l, m)) (inr (k, x, y, z)) h = omega (arith, r, x, h)

pub base_below : (b i j n : ℕ) → IsBase b i j n → n < 821
base_below b i j n (inl g) = omega (arith, g.most, g.value)
base_below b i j n (inr x) = let m = slot_most b x.further x.slot x.is_slot in omega (arith, x.few, x.value, m)

-- a later pair has a number that is greater by two at least
pub base_before : (b i j n k l m : ℕ) → IsBase b i j n → IsBase b k l m → PairBefore i j k l → n + 1 < m
base_before b i j n k l m (inl x) (inl y) (inl h) = absurd (omega (arith, y.first, h))
base_before b i j n k l m (inl x) (inl y) (inr (e, h)) = omega (arith, x.value, y.value, h)
base_before b i j n k l m (inl x) (inr y) h = omega (arith, x.value, x.most, y.value)
base_before b i j n k l m (inr x) (inl y) (inl h) = absurd (omega (arith, y.first, h))
base_before b i j n k l m (inr x) (inl y) (inr (e, h)) = absurd (omega (arith, x.first, y.first, e))
base_before b i j n k l m (inr x) (inr y) (inl h) =
    let t = slot_most b x.further x.slot x.is_slot in
    omega (arith, x.first, y.first, h, t, x.value, y.value)
base_before b i j n k l m (inr x) (inr y) (inr (e, h)) =
    let t = slot_before b x.further x.slot y.further y.slot x.is_slot y.is_slot
    (omega (arith, x.second, y.second, e, h)) in
    omega (arith, x.first, y.first, e, t, x.value, y.value)

-- a pair has one number
pub base_same : (b i j n k l m : ℕ) → IsBase b i j n → IsBase b k l m → i ≡ k → j ≡ l → n ≡ m
base_same b i j n k l m (inl x) (inl y) e f = omega (arith, x.value, y.value, f)
base_same b i j n k l m (inl x) (inr y) e f = absurd (omega (arith, x.first, y.first, e))
base_same b i j n k l m (inr x) (inl y) e f = absurd (omega (arith, x.first, y.first, e))
base_same b i j n k l m (inr x) (inr y) e f =
    let t = slot_same b x.further x.slot y.further y.slot x.is_slot y.is_slot
    (omega (arith, x.second, y.second, e, f)) in
    omega (arith, x.first, y.first, e, t, x.value, y.value)

-- a wall has at most 100 bricks
pub few_bricks : (b a l n : ℕ) → n ≤ 10 → b ≤ 10 → a < n → l < b → a * b + l < 100
few_bricks b a l n most few la ll =
    let m = mul-le a b 9 b (omega (arith, most, la)) (omega arith) in
    omega (arith, m, few, ll)

pub on_base : (b a m i j : ℕ) → i ≡ 0 → a ≡ 0 → j ≡ suc (a * b + m) → m < b → b ≤ 10 → (n : ℕ) × IsBase b i j n
on_base b a m i j e first number lt few =
    let none : a * b ≡ 0 = ap (λ k. k * b) first ∙ none_times b in (
      2 * j,
      inl (record {
        first = e;
        least = omega (arith, number);
        most = omega (arith, number, none, lt, few);
        value = refl;
      }),
    )

pub on_same : (b a l c m i j : ℕ) → a * b + l < 100 → i ≡ suc (a * b + l) → j ≡ suc (c * b + m) → c ≡ a → m ≡ l + 1
    → (n : ℕ) × IsBase b i j n
on_same b a l c m i j few first second same next =
    let row : c * b ≡ a * b = ap (λ k. k * b) same in (
      22 + 8 * (a * b + l) + 2 * 0,
      inr (record {
        brick = a * b + l;
        further = 1;
        slot = 0;
        first = first;
        few = few;
        second = omega (arith, first, second, row, next);
        is_slot = inl (refl, refl);
        value = refl;
      }),
    )

slot_of : (b m l : ℕ) → 2 ≤ b → m ≤ l + 1 → l ≤ m + 1 → (t : ℕ) × IsSlot b (b + m - l) t
slot_of b m l some after before = go (cases (b + m - l) (omega (arith, some, before)))
  where
    cases : (d : ℕ) → 1 ≤ d → (d ≡ 1) ⊎ (2 ≤ d)
    cases d h = grind arith

    go : (b + m - l ≡ 1) ⊎ (2 ≤ b + m - l) → (t : ℕ) × IsSlot b (b + m - l) t
    go (inl e) = (0, inl (e, refl))
    go (inr g) = (2 + m - l, inr (g, omega (arith, some, before), omega (arith, before), omega (arith, after)))

pub on_next : (b a l c m i j : ℕ) → 2 ≤ b → a * b + l < 100 → i ≡ suc (a * b + l) → j ≡ suc (c * b + m) → c ≡ suc a
    → m ≤ l + 1 → l ≤ m + 1 → (n : ℕ) × IsBase b i j n
on_next b a l c m i j some few first second next after before =
    let row : c * b ≡ b + a * b = ap (λ k. k * b) next ∙ once_more a b in
    let t = slot_of b m l some after before in (
      22 + 8 * (a * b + l) + 2 * t.0,
      inr (record {
        brick = a * b + l;
        further = b + m - l;
        slot = t.0;
        first = first;
        few = few;
        second = omega (arith, first, second, row, some, before);
        is_slot = t.1;
        value = refl;
      }),
    )
