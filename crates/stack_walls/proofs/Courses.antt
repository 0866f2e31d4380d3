-- Where the bodies of a wall lie: body 0 is the ground, and each other one a brick, by its course and its place in it.
use Rattle.std.proofs.Common.{◌≡◌, refl, sym, ap, ◌∙◌, ℕ, zero, suc, ◌+◌, ◌*◌, ◌-◌, ◌/◌, ◌%◌, ◌<◌, length, get_or}
use Rattle.std.proofs.Common.{◌⊎◌, inl, inr, true, false, arith}
use Rattle.std.proofs.lemmas.List.{length-append, get_or_append_left, get_or-append_right}
use Rattle.std.proofs.lemmas.Nat.{div-add-mod', div_below, mod_below, mul-le}
use Rattle.std.proofs.Math.Nat.{suc-mul}
use Rattle.stack_algebra.proofs.Listed.{listed, length_listed, listed_item}
use Rattle.stack_algebra.proofs.Conjunctions.{both_true}
use Rattle.stack_model.specs.Structure.{body_of}
use Rattle.stack_overhang.specs.declared.types.Rectangle.{Rectangle}
use Rattle.stack_overhang.specs.declared.types.BrickRow.{BrickRow}
use Rattle.stack_overhang.specs.declared.types.Wall.{Wall}
use Rattle.stack_overhang.specs.Bricks.{rectangle_corners, brick_of, bricks_in, bricks_of, brick_at}
use Rattle.stack_overhang.specs.Built.{brick_body}
use Rattle.stack_overhang.specs.Limits.{IsWall, is_placed, are_rows}
use Rattle.stack_overhang.specs.Wall.{course_of, courses_of, wall_structure}
use Rattle.stack_overhang.proofs.Laid.{wall_laid}
use Rattle.stack_overhang.proofs.Rows.{row_at, is_placed_brick}
use Rattle.stack_contact.specs.ContactLists.{corners_of}

pub none_times : (b : ℕ) → 0 * b ≡ 0
none_times b = omega arith

pub once_more : (n b : ℕ) → suc n * b ≡ b + n * b
once_more n b = let e = suc-mul n b in omega (arith, e)

-- a row of b bricks has b bricks
row_count : (b : ℕ) (r : BrickRow) → r.count ≡ b → length (bricks_in r) ≡ b
row_count b r same = length_listed r.count (brick_of r) ∙ same

-- n rows of b bricks each have n times b bricks
count_of : (b n : ℕ) (f : ℕ → BrickRow) → ((k : ℕ) → (f k).count ≡ b) → length (bricks_of (listed n f)) ≡ n * b
count_of b zero f same = sym (none_times b)
count_of b (suc n) f same =
    length-append (bricks_in (f 0)) (bricks_of (listed n (λ k. f (suc k))))
    ∙ (λ i. row_count b (f 0) (same 0) i + count_of b n (λ k. f (suc k)) (λ k. same (suc k)) i) ∙ sym (once_more n b)

-- the brick with number a * b + j is brick j of row a
brick_by : (b n : ℕ) (f : ℕ → BrickRow) → ((k : ℕ) → (f k).count ≡ b) → (a j k : ℕ) (d : Rectangle) → k ≡ a * b + j
    → a < n → j < b → get_or (bricks_of (listed n f)) k d ≡ brick_of (f a) j
brick_by b zero f same a j k d e lt le = absurd (omega (arith, lt))
brick_by b (suc n) f same zero j k d e lt le =
    let first = row_count b (f 0) (same 0) in
    let none = none_times b in
    let is : k ≡ j = omega (arith, e, none) in
    get_or_append_left (bricks_in (f 0)) (bricks_of (listed n (λ k. f (suc k)))) d k (omega (arith, first, le, is))
    ∙ ap (λ k. get_or (bricks_in (f 0)) k d) is
    ∙ listed_item (f 0).count (brick_of (f 0)) j d (omega (arith, le, same 0))
brick_by b (suc n) f same (suc a) j k d e lt le =
    let first = row_count b (f 0) (same 0) in
    let more = once_more a b in
    get_or-append_right (bricks_in (f 0)) (bricks_of (listed n (λ k. f (suc k)))) b k d first
    (omega (arith, e, more))
    ∙ brick_by b n (λ k. f (suc k)) (λ k. same (suc k)) a j (k - b) d (omega (arith, e, more)) (omega (arith, lt)) le

-- body i is brick j of course a, both from 0
pub record IsBrick (w : Wall) (i a j : ℕ) : Type 0 where
  pub number : i ≡ suc (a * w.bricks + j)
  pub course : a < w.courses
  pub place : j < w.bricks

abbrev pub brick : Wall → ℕ → ℕ → Rectangle
brick w a j = brick_of (course_of w (a + 1)) j

below_all : (w : Wall) (a j : ℕ) → a < w.courses → j < w.bricks
    → a * w.bricks + j < length (bricks_of (courses_of w))
below_all w a j lt le =
    let count = count_of w.bricks w.courses (λ k. course_of w (k + 1)) (λ k. refl) in
    let m = mul-le (suc a) w.bricks w.courses w.bricks (omega (arith, lt)) (omega arith) in
    let e = once_more a w.bricks in
    omega (arith, count, m, le, e)

pub brick_corners : (w : Wall) (i a j : ℕ) → IsBrick w i a j
    → corners_of (wall_structure w) i ≡ rectangle_corners (brick w a j)
brick_corners w i a j h =
    let all = bricks_of (courses_of w) in
    let k = a * w.bricks + j in
    let below : k < length all = below_all w a j h.course h.place in
    ap (corners_of (wall_structure w)) h.number
    ∙ ap (λ b. b.corners) (listed_item (length all) (λ k. brick_body k (brick_at all k)) k _ below)
    ∙ ap rectangle_corners (brick_by w.bricks w.courses (λ k. course_of w (k + 1)) (λ k. refl) a j k _ refl
    h.course h.place)

pub brick_free : (w : Wall) (i a j : ℕ) → IsBrick w i a j → (body_of (wall_structure w) i).fixed ≡ false
brick_free w i a j h =
    let all = bricks_of (courses_of w) in
    let k = a * w.bricks + j in
    let below : k < length all = below_all w a j h.course h.place in
    ap (λ i. (body_of (wall_structure w) i).fixed) h.number
    ∙ ap (λ b. b.fixed) (listed_item (length all) (λ k. brick_body k (brick_at all k)) k _ below)

-- each body is the ground or a brick
pub each_body : (w : Wall) → IsWall w → (i : ℕ) → i < length (wall_structure w).bodies
    → (i ≡ 0) ⊎ ((a : ℕ) × (j : ℕ) × IsBrick w i a j)
each_body w h zero lt = inl refl
each_body w h (suc k) lt =
    let all = bricks_of (courses_of w) in
    let count = count_of w.bricks w.courses (λ k. course_of w (k + 1)) (λ k. refl) in
    let bodies = length_listed (length all) (λ k. brick_body k (brick_at all k)) in
    let some = h.least_bricks in
    let below : k < w.courses * w.bricks = omega (arith, lt, bodies, count) in
    inr (
      k / w.bricks,
      k % w.bricks,
      record {
        number = ap suc (sym (div-add-mod' k w.bricks));
        course = div_below k w.bricks w.courses (omega (arith, some)) below;
        place = mod_below k w.bricks (omega (arith, some));
      },
    )

-- the corners of each brick are within the limits of coordinates
pub brick_placed : (w : Wall) → IsWall w → (a j : ℕ) → a < w.courses → j < w.bricks → is_placed (brick w a j) ≡ true
brick_placed w h a j lt le =
    let rows = courses_of w in
    let laid = both_true (are_rows rows) _ (wall_laid w h).rows in
    let r = course_of w (a + 1) in
    is_placed_brick r j (row_at rows a r laid.0
    (let n = length_listed w.courses (λ k. course_of w (k + 1)) in omega (arith, n, lt))
    (sym (listed_item w.courses (λ k. course_of w (k + 1)) a r lt))) le
