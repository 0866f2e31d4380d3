-- The rows of each built-in model are within the limits: by computation, for each size and each shape of a wall.
use Rattle.std.proofs.Common.{◌≡◌, ℕ, zero, suc, ◌+◌, ◌-◌, ◌<◌, ◌≤◌, Bool, true, false, ◌&&◌, List, [], ◌∷◌}
use Rattle.std.proofs.Common.{length, refl, ◌∙◌, subst, arith, nat_le, nat_lt}
use Rattle.std.specs.List.{list_all}
use Rattle.std.proofs.lemmas.Int.{ints}
use Rattle.std.proofs.lemmas.List.Folds.{list_all-append, list_all_at}
use Rattle.stack_whole.specs.Limits.{most_free}
use Rattle.stack_algebra.proofs.Listed.{listed}
use Rattle.stack_polygon.specs.Outlines.{all_below}
use Rattle.stack_polygon.specs.Limits.{is_near, is_in_range}
use Rattle.stack_polygon.proofs.Tested.{each_below}
use Rattle.stack_model.specs.Limits.{is_name}
use Rattle.stack_overhang.specs.declared.types.Rectangle.{Rectangle}
use Rattle.stack_overhang.specs.declared.types.BrickRow.{BrickRow}
use Rattle.stack_overhang.specs.declared.types.Wall.{Wall}
use Rattle.stack_overhang.specs.Bricks.{brick_of, bricks_in, bricks_of, brick_at}
use Rattle.stack_overhang.specs.Stacks.{harmonic_rows, brick_rows, triangle_counts, slab_counts}
use Rattle.stack_overhang.specs.Wall.{course_of, courses_of, top_brick, top_number}
use Rattle.stack_overhang.specs.Limits.{is_placed, is_row, are_rows, are_laid, IsWall}
use Rattle.stack_algebra.proofs.Conjunctions.{both_true}
use Rattle.stack_overhang.proofs.Rectangles.{taken}
use Rattle.stack_overhang.proofs.Rows.{is_placed_brick}
use Rattle.stack_overhang.proofs.Names.{IsApart}
use Rattle.stack_overhang.proofs.Taken.{AreTaken}

all_listed : {X : Type 0} (p : X → Bool) (n : ℕ) (f : ℕ → X) → ((k : ℕ) → k < n → p (f k) ≡ true)
    → list_all p (listed n f) ≡ true
all_listed p zero f each = refl
all_listed p (suc n) f each = λ i. each 0 (omega arith) i
    && all_listed p n (λ k. f (suc k)) (λ k lt. each (suc k) (omega (arith, lt))) i

all_placed : (rows : List BrickRow) → are_rows rows ≡ true → list_all is_placed (bricks_of rows) ≡ true
all_placed [] h = refl
all_placed (r ∷ rows) h =
    let parts = both_true (is_row r) (are_rows rows) h in
    list_all-append is_placed (bricks_in r) (bricks_of rows)
    ∙ (λ i. all_listed is_placed r.count (brick_of r) (λ j lt. is_placed_brick r j parts.0 lt) i
    && all_placed rows parts.1 i)

placed_at : (bricks : List Rectangle) (k : ℕ) → list_all is_placed bricks ≡ true → k < length bricks
    → is_placed (brick_at bricks k) ≡ true
placed_at bricks k h lt = go (is_placed (brick_at bricks k)) refl
  where
    go : (b : Bool) → is_placed (brick_at bricks k) ≡ b → b ≡ true
    go true e = refl
    go false e =
        let f = list_all_at is_placed bricks k _ lt e in
        absurd (cc)

at_most : (n m : ℕ) → nat_le n m ≡ true → n ≤ m
at_most n m h = grind (arith, ints)

below : (n m : ℕ) → nat_lt n m ≡ true → n < m
below n m h = grind (arith, ints)

-- rows within the limits, on such a base
pub laid : (name : List ℕ) (base : Rectangle) (rows : List BrickRow) → is_name name ≡ true → IsApart name
    → is_placed base ≡ true → are_laid rows ≡ true → AreTaken name base (bricks_of rows)
laid name base rows named apart under h =
    let parts = both_true (are_rows rows) _ h in
    record {
      named = named;
      apart = apart;
      under = taken base under;
      each = λ k lt. taken (brick_at (bricks_of rows) k)
          (placed_at (bricks_of rows) k (all_placed rows parts.0) lt);
      few = at_most (length (bricks_of rows)) most_free parts.1;
    }

-- a test that each size from 1 to n passes
from_one : (test : ℕ → Bool) (n : ℕ) → all_below (λ k. test (k + 1)) n ≡ true → (m : ℕ) → 1 ≤ m → m ≤ n
    → test m ≡ true
from_one test n h m least most = subst (λ k. test k ≡ true) (back m least)
    (each_below (λ k. test (k + 1)) n h (m - 1) (omega arith))
  where
    back : (m : ℕ) → 1 ≤ m → m - 1 + 1 ≡ m
    back m least = omega arith

pub harmonic_laid : (n : ℕ) → 1 ≤ n → n ≤ 10 → are_laid (harmonic_rows n) ≡ true
harmonic_laid n least most = from_one (λ n. are_laid (harmonic_rows n)) 10 refl n least most

pub triangle_laid : (m : ℕ) → 1 ≤ m → m ≤ 10 → are_laid (brick_rows (triangle_counts m)) ≡ true
triangle_laid m least most = from_one (λ m. are_laid (brick_rows (triangle_counts m))) 10 refl m least most

pub slab_laid : (d : ℕ) → 1 ≤ d → d ≤ 6 → are_laid (brick_rows (slab_counts d)) ≡ true
slab_laid d least most = from_one (λ d. are_laid (brick_rows (slab_counts d))) 6 refl d least most

-- a wall of any shape
abbrev shaped : ℕ → ℕ → ℕ → ℕ → Wall
shaped courses bricks tenths shift =
    record { courses = courses; bricks = bricks; tenths = tenths; shift = shift }

-- the row of each course, whatever the number of courses is
pub course_row : (w : Wall) (i : ℕ) → 1 ≤ i → i ≤ 10 → w.bricks ≤ 10 → w.shift ≤ 10 → is_row (course_of w i) ≡ true
course_row w i least most few near =
    let tests = λ (i b s : ℕ). is_row (course_of (shaped 0 b 0 s) i) in
    let all : all_below (λ k. all_below (λ b. all_below (tests (k + 1) b) 11) 11) 10 ≡ true = refl in
    each_below (tests i w.bricks) 11 (each_below (λ b. all_below (tests i b) 11) 11
    (from_one (λ i. all_below (λ b. all_below (tests i b) 11) 11) 10 all i least most)
    w.bricks (omega (arith, few)))
    w.shift (omega (arith, near))

-- how many bricks there are, whatever the shift is
abbrev is_counted : Wall → Bool
is_counted w =
    let count = length (bricks_of (courses_of w)) in
    nat_lt (top_number w) count && nat_le count most_free

counted : (t s c b : ℕ) → 1 ≤ c → c ≤ 10 → 1 ≤ b → b ≤ 10 → is_counted (shaped c b t s) ≡ true
counted t s c b least most some few =
    let all : all_below (λ k. all_below (λ b. is_counted (shaped (k + 1) (b + 1) t s)) 10) 10 ≡ true = refl in
    from_one (λ b. is_counted (shaped c b t s)) 10
    (from_one (λ c. all_below (λ b. is_counted (shaped c (b + 1) t s)) 10) 10 all c least most) b some few

pub record IsLaid (w : Wall) : Type 0 where
  pub rows : are_laid (courses_of w) ≡ true
  pub top : top_number w < length (bricks_of (courses_of w))
  pub few : length (bricks_of (courses_of w)) ≤ most_free
  pub corner : is_in_range (record { x = (top_brick w).left; y = (top_brick w).top }) ≡ true

corner_in_range : (r : Rectangle) → is_placed r ≡ true → is_in_range (record { x = r.left; y = r.top }) ≡ true
corner_in_range r h =
    let near = both_true (is_near r.left && is_near r.right) _ (both_true _ _ h).1 in
    let x = both_true (is_near r.left) (is_near r.right) near.0 in
    let y = both_true (is_near r.bottom) (is_near r.top) near.1 in
    λ i. x.0 i && y.1 i

pub wall_laid : (w : Wall) → IsWall w → IsLaid w
wall_laid w h =
    let bricks = bricks_of (courses_of w) in
    let count : (nat_lt (top_number w) (length bricks) ≡ true) × (nat_le (length bricks) most_free ≡ true) =
    both_true _ _ (counted w.tenths w.shift w.courses w.bricks (omega (arith, h.least_courses)) h.most_courses
    (omega (arith, h.least_bricks)) h.most_bricks) in
    let row = λ (i : ℕ) (least : 1 ≤ i) (most : i ≤ 10). course_row w i least most h.most_bricks h.most_shift in
    let rows = all_listed is_row w.courses (λ k. course_of w (k + 1))
    (λ k lt. row (k + 1) (omega arith) (omega (arith, lt, h.most_courses))) in
    record {
      rows = λ i. rows i && count.1 i;
      top = below (top_number w) (length bricks) count.0;
      few = at_most (length bricks) most_free count.1;
      corner = corner_in_range (top_brick w) (is_placed_brick (course_of w w.courses) 0
          (row w.courses (omega (arith, h.least_courses)) h.most_courses) (omega (arith, h.least_bricks)));
    }
