-- The parts of a built-in model are taken without a fault, and make its structure.
use Rattle.std.proofs.Common.{◌≡◌, ℕ, zero, suc, ◌+◌, ◌<◌, ◌≤◌, ℤ, pos, Bool, true, false, not, List, [], ◌∷◌, ◌++◌}
use Rattle.std.proofs.Common.{map, length, Some, Result, Ok, refl, sym, ap, ◌∙◌, subst}
use Rattle.std.proofs.Common.{arith, add-one, nat_le, nat_lt, count_by, cond}
use Rattle.std.proofs.lemmas.Int.{ints}
use Rattle.std.proofs.lemmas.List.Sums.{sum_by-append}
use Rattle.stack_whole.specs.Limits.{most_free}
use Rattle.stack_algebra.specs.Steps.{◌>>=◌, steps}
use Rattle.stack_algebra.proofs.Listed.{listed, length_listed, listed_item, listed_more, map_listed}
use Rattle.stack_polygon.specs.declared.point.Point.{Point}
use Rattle.stack_model.specs.declared.types.Load.{Load}
use Rattle.stack_model.specs.declared.places.What.TheVariants as whats
use Rattle.stack_model.specs.declared.errors.ModelError.{ModelError}
use Rattle.stack_model.specs.declared.errors.ModelError.TheVariants.{TooMany}
use Rattle.stack_model.specs.declared.types.Joint.{Joint}
use Rattle.stack_model.specs.Structure.{NamedMaterial, NamedBody}
use Rattle.stack_model.specs.Parts.{MaterialPart, BlockPart, LoadPart, first_parts}
use Rattle.stack_polygon.specs.Limits.{is_in_range}
use Rattle.stack_model.specs.Limits.{most_bodies, is_name, friction_of}
use Rattle.stack_whole.specs.Demands.{unless}
use Rattle.stack_model.specs.Content.{at_most, is_new, is_free, number_of, has_room}
use Rattle.stack_model.specs.Content.{body_names, with_material, add_material, with_body, add_block}
use Rattle.stack_model.specs.Content.{add_load, head_of, joints_of, bodies_of, loads_of, content_of}
use Rattle.stack_model.specs.Relisted.{material_listed}
use Rattle.stack_model.proofs.Points.{point_again}
use Rattle.stack_model.proofs.Chains.{any_runs, unless_runs, ranged_runs, found_runs}
use Rattle.stack_overhang.specs.declared.types.Rectangle.{Rectangle}
use Rattle.stack_overhang.specs.Bricks.{rectangle_corners, brick_at, brick_name}
use Rattle.stack_overhang.specs.Built.{brick_material, base_body, brick_body, brick_bodies, built_bodies, built}
use Rattle.stack_overhang.specs.Listing.{rectangle_part, brick_block, blocks_of, push_listed}
use Rattle.stack_overhang.proofs.Rectangles.{IsTaken}
use Rattle.stack_overhang.proofs.Names.{IsApart, is_a_brick_name, fresh, numbered}

-- a list that is taken item by item
steps_listed : {A X E : Type 0} (f : ℕ → A → X → Result A E) (n i : ℕ) (after : ℕ → A) (item : ℕ → X)
    → ((j k : ℕ) → k < n → f j (after k) (item k) ≡ Ok (after (suc k)))
    → steps f i (after 0) (listed n item) ≡ Ok (after n)
steps_listed f zero i after item each = refl
steps_listed f (suc n) i after item each =
    ap (λ r. r >>= λ b. steps f (i + 1) b (listed n (λ k. item (suc k)))) (each i 0 (omega arith))
    ∙ steps_listed f n (i + 1) (λ k. after (suc k)) (λ k. item (suc k))
    (λ j k lt. each j (suc k) (omega (arith, lt)))

abbrev body : List ℕ → Bool → Rectangle → NamedBody
body name fixed r = record { name = name; material = 0; fixed = fixed; corners = rectangle_corners r }

module _ (p q : ℤ) where
  abbrev materials : List NamedMaterial
  materials = brick_material p q ∷ []

  material_taken : friction_of (p ∷ q ∷ []) ≡ Some (p, q)
      → steps add_material 0 [] (map material_listed materials) ≡ Ok materials
  unfolding add_material with_material
  material_taken h = rw h refl

  block_taken : (i : ℕ) (bs : List NamedBody) (name : List ℕ) (fixed : Bool) (r : Rectangle)
      → is_name name ≡ true → is_new name (body_names bs) ≡ true → IsTaken r → has_room fixed bs ≡ Ok tt
      → add_block materials i bs (rectangle_part name fixed r) ≡ Ok (bs ++ body name fixed r ∷ [])
  unfolding add_block with_body
  block_taken i bs name fixed r named new t room =
      unless_runs _ named (ranged_runs _ _ _ t.corners (unless_runs _ new
      (any_runs _ (t.outline i) (any_runs _ room refl))))

-- a base and bricks on it that each are taken
pub record AreTaken (name : List ℕ) (base : Rectangle) (bricks : List Rectangle) : Type 0 where
  pub named : is_name name ≡ true
  pub apart : IsApart name
  pub under : IsTaken base
  pub each : (k : ℕ) → k < length bricks → IsTaken (brick_at bricks k)
  pub few : length bricks ≤ most_free

module _ (name : List ℕ) (base : Rectangle) (bricks : List Rectangle) where
  -- the bodies when so many bricks have been taken
  abbrev bodies : ℕ → List NamedBody
  bodies k = base_body name base ∷ brick_bodies bricks k

  names : (k : ℕ) → body_names (bodies k) ≡ name ∷ listed k brick_name
  names k = ap (λ ns. name ∷ ns)
      (map_listed (λ (b : NamedBody). b.name) k (λ j. brick_body j (brick_at bricks j)))

  free_bricks : (k : ℕ) → count_by (λ (b : NamedBody). not b.fixed) (brick_bodies bricks k) ≡ k
  free_bricks zero = refl
  free_bricks (suc k) =
      let one = brick_body k (brick_at bricks k) in
      let more = ap (count_by (λ (b : NamedBody). not b.fixed))
      (listed_more k (λ j. brick_body j (brick_at bricks j))) in
      let split = sum_by-append (λ (b : NamedBody). cond (not b.fixed) 1 0) (brick_bodies bricks k) (one ∷ []) in
      omega (arith, more, split, free_bricks k)

  room : (k : ℕ) → k < most_free → has_room false (bodies k) ≡ Ok tt
  room k lt = ap (λ n. unless (nat_lt n most_free) (TooMany whats.Free)) (free_bricks k)
      ∙ ap (λ b. unless b (TooMany whats.Free)) (is_less k most_free lt)
    where
      is_less : (i m : ℕ) → i < m → nat_lt i m ≡ true
      is_less i m l = grind (arith, ints)

  bodies_taken : (p q : ℤ) → AreTaken name base bricks
      → steps (add_block (materials p q)) 0 [] (blocks_of name base bricks)
      ≡ Ok (built_bodies name base bricks)
  bodies_taken p q t =
      ap (λ r. r >>= λ b. steps (add_block (materials p q)) (0 + 1) b (listed (length bricks)
      (λ k. brick_block k (brick_at bricks k)))) (block_taken p q 0 [] name true base t.named refl t.under refl)
      ∙ steps_listed (add_block (materials p q)) (length bricks) (0 + 1) bodies
      (λ k. brick_block k (brick_at bricks k))
      (λ j k lt. block_taken p q j (bodies k) (brick_name k) false (brick_at bricks k)
      (is_a_brick_name k (omega (arith, lt, t.few)))
      (ap (is_new (brick_name k)) (names k) ∙ fresh name k t.apart (omega (arith, lt, t.few)))
      (t.each k lt) (room k (omega (arith, lt, t.few)))
      ∙ ap (λ bs. Ok (base_body name base ∷ bs)) (sym (listed_more k (λ j. brick_body j (brick_at bricks j)))))

abbrev both_lists : List NamedMaterial → List Joint → Result (List NamedMaterial × List Joint) ModelError
both_lists ms js = Ok (ms, js)

pub all_taken : (p q : ℤ) (name : List ℕ) (base : Rectangle) (bricks : List Rectangle) (mats : List MaterialPart)
    (blocks : List BlockPart) (loads : List LoadPart) (ls : List Load)
    → friction_of (p ∷ q ∷ []) ≡ Some (p, q) → AreTaken name base bricks
    → mats ≡ material_listed (brick_material p q) ∷ []
    → blocks ≡ blocks_of name base bricks
    → at_most 256 (length loads) whats.Loads ≡ Ok tt
    → steps (add_load (built_bodies name base bricks)) 0 [] loads ≡ Ok ls
    → content_of (first_parts mats blocks loads) ≡ Ok (built p q name base bricks ls)
unfolding content_of head_of joints_of bodies_of loads_of
all_taken p q name base bricks mats blocks loads ls rough t ms bs few taken =
    let some : nat_le (length blocks) most_bodies ≡ true =
    at_most_of (length blocks) most_bodies (omega (
      arith,
      ap length bs,
      t.few,
      length_listed (length bricks)
          (λ k. brick_block k (brick_at bricks k)),
    )) in
    let both : joints_of (first_parts mats blocks loads) ≡ both_lists (materials p q) [] =
    (λ i. at_most 64 (length (ms i)) whats.Materials >>= λ _. steps add_material 0 [] (ms i) >>= λ ms. both_lists ms [])
    ∙ any_runs _ (material_taken p q rough) refl in
    any_runs _ both
    (any_runs _ ((λ i. unless (some i) (TooMany whats.Blocks) >>= λ _. steps (add_block (materials p q)) 0 [] (bs i))
    ∙ bodies_taken name base bricks p q t)
    (any_runs _ ((λ i. few i >>= λ _. steps (add_load (built_bodies name base bricks)) 0 [] loads) ∙ taken) refl))
  where
    at_most_of : (n m : ℕ) → n ≤ m → nat_le n m ≡ true
    at_most_of n m h = grind (arith, ints)

-- on the upper left corner of brick k
abbrev pub push_at : ℕ → Rectangle → Load
push_at k r = record {
  body = k + 1;
  live = true;
  at = record { x = r.left; y = r.top };
  fx = pos 1;
  fy = pos 0;
}

pub push_taken : (name : List ℕ) (base : Rectangle) (bricks : List Rectangle) (k : ℕ) (r : Rectangle)
    → IsApart name → k < length bricks → length bricks ≤ most_free
    → is_in_range (record { x = r.left; y = r.top }) ≡ true
    → steps (add_load (built_bodies name base bricks)) 0 [] (push_listed k r ∷ []) ≡ Ok (push_at k r ∷ [])
unfolding add_load
push_taken name base bricks k r apart lt few near =
    let bs = built_bodies name base bricks in
    let corner : Point = record { x = r.left; y = r.top } in
    let number : number_of (brick_name k) (body_names bs) ≡ Some (k + 1) =
    ap (number_of (brick_name k)) (names name base bricks (length bricks))
    ∙ numbered name (length bricks) k apart lt few in
    ap (λ r. r >>= λ b. steps (add_load bs) (0 + 1) b [])
    (ranged_runs _ _ _ (point_again corner near) (found_runs _ _ number (unless_runs _ free refl)))
  where
    free : is_free (k + 1) (built_bodies name base bricks) ≡ true
    free = subst (λ n. is_free n (built_bodies name base bricks) ≡ true) (sym (add-one k))
        (ap (λ (b : NamedBody). not b.fixed)
        (listed_item (length bricks) (λ j. brick_body j (brick_at bricks j)) k _ lt))
