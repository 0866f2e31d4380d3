-- The free blocks are the bodies that aren't fixed, each of them and no other, and their numbers tell them.
use Rattle.std.proofs.Common.{◌≡◌, refl, sym, ap, subst, ◌∙◌, ℕ, zero, suc, ◌+◌, ◌<◌, Bool, true, false, not, cond}
use Rattle.std.proofs.Common.{List, [], ◌∷◌, length, get_or, drop, arith}
use Rattle.std.proofs.lemmas.List.Sums.{sum_by-cons}
use Rattle.std.specs.Bool.{if◌then◌else◌}
use Rattle.stack_model.specs.Structure.{NamedBody, body_at}
use Rattle.stack_model.specs.Sound.{free_among}
use Rattle.stack_contact.specs.FreeBlocks.{frees_from, frees_of, free_of, frees_before}

-- a number stands in a list, at some place
pub record Listed (xs : List ℕ) (x : ℕ) : Type 0 where
  pub place : ℕ
  pub within : place < length xs
  pub is : get_or xs place 0 ≡ x

listed_later : (y : ℕ) (xs : List ℕ) (x : ℕ) → Listed xs x → Listed (y ∷ xs) x
listed_later y xs x h = record { place = suc h.place; within = omega (arith, h.within); is = h.is }

shifted : (i j : ℕ) → i + 1 + j ≡ i + suc j
shifted i j = omega arith

at_start : (i : ℕ) → i + 0 ≡ i
at_start i = omega arith

-- a body that isn't fixed is listed
pub free_is_listed : (bodies : List NamedBody) (i j : ℕ) (d : NamedBody) → j < length bodies →
    (get_or bodies j d).fixed ≡ false → Listed (frees_from i bodies) (i + j)
free_is_listed [] i j d l h = absurd (omega arith)
free_is_listed (b ∷ bs) i zero d l h = go b.fixed h
  where
    go : (f : Bool) → f ≡ false → Listed (if f then frees_from (i + 1) bs else i ∷ frees_from (i + 1) bs)
        (i + 0)
    go true e = absurd (cc)
    go false e = record { place = 0; within = omega arith; is = sym (at_start i) }
free_is_listed (b ∷ bs) i (suc j) d l h = go b.fixed (free_is_listed bs (i + 1) j d (omega arith) h)
  where
    go : (f : Bool) → Listed (frees_from (i + 1) bs) (i + 1 + j) →
        Listed (if f then frees_from (i + 1) bs else i ∷ frees_from (i + 1) bs) (i + suc j)
    go true k = record { place = k.place; within = k.within; is = k.is ∙ shifted i j }
    go false k = listed_later i (frees_from (i + 1) bs) (i + suc j)
        (record { place = k.place; within = k.within; is = k.is ∙ shifted i j })

-- 1 for a free body
abbrev pub one_if_free : NamedBody → ℕ
one_if_free b = cond (not b.fixed) 1 0

-- how many of the first i are free, told from the front
abbrev pub counted : List NamedBody → ℕ → ℕ
counted [] i = 0
counted (b ∷ bs) zero = 0
counted (b ∷ bs) (suc i) = one_if_free b + counted bs i

counted_more : (bs : List NamedBody) (i : ℕ) → counted bs (suc i) ≡ counted bs i + one_if_free (body_at bs i)
counted_more [] i = refl
counted_more (b ∷ []) zero = omega arith
counted_more (b ∷ c ∷ bs) zero = omega arith
counted_more (b ∷ bs) (suc i) = ap (λ n. one_if_free b + n) (counted_more bs i)
    ∙ moved (one_if_free b) (counted bs i) (one_if_free (body_at bs i))
  where
    moved : (a b c : ℕ) → a + (b + c) ≡ a + b + c
    moved a b c = omega arith

pub before_is_counted : (bs : List NamedBody) (i : ℕ) → frees_before bs i ≡ counted bs i
before_is_counted [] zero = refl
before_is_counted (b ∷ bs) zero = refl
before_is_counted bs (suc i) = ap (λ n. n + one_if_free (body_at bs i)) (before_is_counted bs i)
    ∙ sym (counted_more bs i)

-- a free body comes before the end of the list of free blocks
counted_within : (bs : List NamedBody) (k i : ℕ) → i < length bs → (body_at bs i).fixed ≡ false →
    counted bs i < length (frees_from k bs)
counted_within [] k i l h = absurd (omega arith)
counted_within (b ∷ bs) k zero l h = go b.fixed h
  where
    go : (f : Bool) → f ≡ false → 0 < length (if f then frees_from (k + 1) bs else k ∷ frees_from (k + 1) bs)
    go true e = absurd (cc)
    go false e = omega arith
counted_within (b ∷ bs) k (suc i) l h = go b.fixed (counted_within bs (k + 1) i (omega arith) h)
  where
    go : (f : Bool) → counted bs i < length (frees_from (k + 1) bs) →
        cond (not f) 1 0 + counted bs i < length
        (if f then frees_from (k + 1) bs else k ∷ frees_from (k + 1) bs)
    go true m = omega (arith, m)
    go false m = omega (arith, m)

pub before_is_within : (bs : List NamedBody) (i : ℕ) → i < length bs → (body_at bs i).fixed ≡ false →
    frees_before bs i < length (frees_of bs)
before_is_within bs i l h = rw (before_is_counted bs i) (counted_within bs 0 i l h)

-- all free bodies are listed
pub counted_all : (bs : List NamedBody) (k : ℕ) → counted bs (length bs) ≡ length (frees_from k bs)
counted_all [] k = refl
counted_all (b ∷ bs) k = go b.fixed (counted_all bs (k + 1))
  where
    go : (f : Bool) → counted bs (length bs) ≡ length (frees_from (k + 1) bs) →
        cond (not f) 1 0 + counted bs (length bs)
        ≡ length (if f then frees_from (k + 1) bs else k ∷ frees_from (k + 1) bs)
    go true e = omega (arith, e)
    go false e = omega (arith, e)

-- there are as many as there are free bodies
pub as_many : (bs : List NamedBody) (k : ℕ) → length (frees_from k bs) ≡ free_among bs
as_many [] k = refl
as_many (b ∷ bs) k = go b.fixed (as_many bs (k + 1))
    ∙ sym (sum_by-cons (λ (b : NamedBody). cond (not b.fixed) 1 0) b bs)
  where
    go : (f : Bool) → length (frees_from (k + 1) bs) ≡ free_among bs →
        length (if f then frees_from (k + 1) bs else k ∷ frees_from (k + 1) bs)
        ≡ cond (not f) 1 0 + free_among bs
    go true e = omega (arith, e)
    go false e = omega (arith, e)

-- a free body stands at its number among them
found_at : (bs : List NamedBody) (k i : ℕ) → i < length bs → (body_at bs i).fixed ≡ false →
    get_or (frees_from k bs) (counted bs i) 0 ≡ k + i
found_at [] k i l h = absurd (omega arith)
found_at (b ∷ bs) k zero l h = go b.fixed h
  where
    go : (f : Bool) → f ≡ false →
        get_or (if f then frees_from (k + 1) bs else k ∷ frees_from (k + 1) bs) 0 0 ≡ k + 0
    go true e = absurd (cc)
    go false e = sym (at_start k)
found_at (b ∷ bs) k (suc i) l h = go b.fixed (found_at bs (k + 1) i (omega arith) h)
  where
    go : (f : Bool) → get_or (frees_from (k + 1) bs) (counted bs i) 0 ≡ k + 1 + i →
        get_or (if f then frees_from (k + 1) bs else k ∷ frees_from (k + 1) bs)
        (cond (not f) 1 0 + counted bs i) 0
        ≡ k + suc i
    go true e = ap (λ n. get_or (frees_from (k + 1) bs) n 0) (from_zero (counted bs i)) ∙ e ∙ shifted k i
      where
        from_zero : (n : ℕ) → 0 + n ≡ n
        from_zero n = omega arith
    go false e = ap (λ n. get_or (k ∷ frees_from (k + 1) bs) n 0) (one_more (counted bs i)) ∙ e ∙ shifted k i
      where
        one_more : (n : ℕ) → 1 + n ≡ suc n
        one_more n = omega arith

pub found_again : (bs : List NamedBody) (i : ℕ) → i < length bs → (body_at bs i).fixed ≡ false →
    free_of bs (frees_before bs i) ≡ i
found_again bs i l h = ap (free_of bs) (before_is_counted bs i) ∙ found_at bs 0 i l h ∙ from_zero
  where
    from_zero : 0 + i ≡ i
    from_zero = omega arith

-- a number that is listed is that of a body that isn't fixed, at its place among the free ones
pub record IsFreeAt (bodies : List NamedBody) (d : NamedBody) (i k x : ℕ) : Type 0 where
  pub j : ℕ
  pub is : x ≡ i + j
  pub within : j < length bodies
  pub free : (get_or bodies j d).fixed ≡ false
  pub before : counted bodies j ≡ k

free_later : (b : NamedBody) (bodies : List NamedBody) (d : NamedBody) (i k n x : ℕ) → one_if_free b + k ≡ n →
    IsFreeAt bodies d (i + 1) k x → IsFreeAt (b ∷ bodies) d i n x
free_later b bodies d i k n x e h = record {
  j = suc h.j;
  is = h.is ∙ shifted i h.j;
  within = omega (arith, h.within);
  free = h.free;
  before = ap (λ m. one_if_free b + m) h.before ∙ e;
}

pub listed_is_free : (bodies : List NamedBody) (i k : ℕ) (d : NamedBody) → k < length (frees_from i bodies) →
    IsFreeAt bodies d i k (get_or (frees_from i bodies) k 0)
listed_is_free [] i k d l = absurd (omega arith)
listed_is_free (b ∷ bs) i k d l = go b.fixed refl k l (λ n m. listed_is_free bs (i + 1) n d m)
  where
    go : (f : Bool) → b.fixed ≡ f → (k : ℕ) →
        k < length (if f then frees_from (i + 1) bs else i ∷ frees_from (i + 1) bs)
        → ((n : ℕ) → n < length (frees_from (i + 1) bs) →
        IsFreeAt bs d (i + 1) n (get_or (frees_from (i + 1) bs) n 0))
        → IsFreeAt (b ∷ bs) d i k (get_or (if f then frees_from (i + 1) bs else i ∷ frees_from (i + 1) bs) k 0)
    go true e k l rest = free_later b bs d i k k (get_or (frees_from (i + 1) bs) k 0)
        (ap (λ t. cond (not t) 1 0 + k) e ∙ none k) (rest k l)
      where
        none : (n : ℕ) → 0 + n ≡ n
        none n = omega arith
    go false e zero l rest = record {
      j = 0;
      is = sym (at_start i);
      within = omega arith;
      free = e;
      before = refl;
    }
    go false e (suc k) l rest = free_later b bs d i k (suc k) (get_or (frees_from (i + 1) bs) k 0)
        (ap (λ t. cond (not t) 1 0 + k) e ∙ one_more k) (rest k (omega arith))
      where
        one_more : (n : ℕ) → 1 + n ≡ suc n
        one_more n = omega arith

-- the body that is a free block is free, and has its number
pub record IsFreeBlock (bs : List NamedBody) (b i : ℕ) : Type 0 where
  pub within : i < length bs
  pub free : (body_at bs i).fixed ≡ false
  pub again : frees_before bs i ≡ b

pub free_block : (bs : List NamedBody) (b : ℕ) → b < length (frees_of bs) → IsFreeBlock bs b (free_of bs b)
free_block bs b l =
    let h = listed_is_free bs 0 b _ l in
    let e : free_of bs b ≡ h.j = h.is ∙ from_zero h.j in
    subst (IsFreeBlock bs b) (sym e) (record {
      within = h.within;
      free = h.free;
      again = before_is_counted bs h.j ∙ h.before;
    })
  where
    from_zero : (n : ℕ) → 0 + n ≡ n
    from_zero n = omega arith

-- of the bodies from a free one on this is the first free one
pub first_from : (bs : List NamedBody) (k i : ℕ) → i < length bs → (body_at bs i).fixed ≡ false →
    get_or (frees_from k (drop i bs)) 0 0 ≡ k
first_from [] k i l h = absurd (omega arith)
first_from (b ∷ bs) k zero l h = go b.fixed h
  where
    go : (f : Bool) → f ≡ false →
        get_or (if f then frees_from (k + 1) bs else k ∷ frees_from (k + 1) bs) 0 0 ≡ k
    go true e = absurd (cc)
    go false e = refl
first_from (b ∷ bs) k (suc i) l h = first_from bs k i (omega arith) h

-- the free ones from body i on, by body i
from_one : (bs : List NamedBody) (k i : ℕ) → i < length bs → frees_from k (drop i bs)
    ≡ (if (body_at bs i).fixed then frees_from (k + 1) (drop (suc i) bs) else k ∷ frees_from (k + 1) (drop (suc i) bs))
from_one [] k i l = absurd (omega arith)
from_one (b ∷ bs) k zero l = refl
from_one (b ∷ bs) k (suc i) l = from_one bs k i (omega (arith, l))

-- so many free bodies are still to be passed among these numbers, up to n
abbrev pub Remain : (left n : ℕ) → List ℕ → Type 0
Remain left n rest = (left < length rest) × (get_or rest left 0 ≡ n)

module _ (bs : List NamedBody) (i left n : ℕ) (l : i < length bs) (h : Remain left n (frees_from i (drop i bs))) where
  by_body : (f : Bool) → (body_at bs i).fixed ≡ f → Remain left n
      (if f then frees_from (i + 1) (drop (i + 1) bs) else i ∷ frees_from (i + 1) (drop (i + 1) bs))
  by_body f e = subst (Remain left n) (from_one bs i i l
      ∙ (λ z. if e z then frees_from (i + 1) (drop (next z) bs) else i ∷ frees_from (i + 1) (drop (next z) bs))) h
    where
      next : suc i ≡ i + 1
      next = omega arith

  -- past a fixed body as many free ones are still to be passed
  pub past_fixed : (body_at bs i).fixed ≡ true → Remain left n (frees_from (i + 1) (drop (i + 1) bs))
  past_fixed e = by_body true e

  -- past a free body that isn't the one, one less is still to be passed
  pub past_free : (less : ℕ) → left ≡ suc less → (body_at bs i).fixed ≡ false →
      Remain less n (frees_from (i + 1) (drop (i + 1) bs))
  past_free less s e = later (frees_from (i + 1) (drop (i + 1) bs))
      (subst (λ m. Remain m n (i ∷ frees_from (i + 1) (drop (i + 1) bs))) s (by_body false e))
    where
      later : (rest : List ℕ) → Remain (suc less) n (i ∷ rest) → Remain less n rest
      later rest h = (omega (arith, h.0), h.1)
