-- The list of the first values of a function: its length, its items, one more item, the same list, its map.
use Rattle.std.proofs.Common.{◌≡◌, refl, ap, ℕ, zero, suc, ◌<◌, [], ◌∷◌, ◌++◌, length, get_or, map, arith}
pub use Rattle.stack_algebra.specs.Listed.{listed}

pub length_listed : {X : Type 0} (n : ℕ) (f : ℕ → X) → length (listed n f) ≡ n
length_listed zero f = refl
length_listed (suc n) f = ap suc (length_listed n (λ k. f (suc k)))

-- item k is the value at k
pub listed_item : {X : Type 0} (n : ℕ) (f : ℕ → X) (k : ℕ) (d : X) → k < n → get_or (listed n f) k d ≡ f k
listed_item zero f k d l = absurd (omega arith)
listed_item (suc n) f zero d l = refl
listed_item (suc n) f (suc k) d l = listed_item n (λ k. f (suc k)) k d (omega arith)

-- as a loop adds an item
pub listed_more : {X : Type 0} (n : ℕ) (f : ℕ → X) → listed (suc n) f ≡ listed n f ++ f n ∷ []
listed_more zero f = refl
listed_more (suc n) f = ap (λ xs. f 0 ∷ xs) (listed_more n (λ k. f (suc k)))

pub map_listed : {X Y : Type 0} (g : X → Y) (n : ℕ) (f : ℕ → X) → map g (listed n f) ≡ listed n (λ k. g (f k))
map_listed g zero f = refl
map_listed g (suc n) f = ap (λ ys. g (f 0) ∷ ys) (map_listed g n (λ k. f (suc k)))
