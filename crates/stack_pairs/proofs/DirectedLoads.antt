-- The loads of a directed survey on each body.
use Rattle.std.proofs.Common.{◌≡◌, ◌≢◌, refl, sym, ap, ◌∙◌, ℕ, zero, suc, ◌+◌, ◌<◌, Bool, true, false, List, ◌∷◌}
use Rattle.std.proofs.Common.{[], length, get_or, arith, nat_eq, ◌&&◌, not, if◌then◌else◌}
use lib.IntN.{ℤ, pos, ◌+ℤ◌, ◌-ℤ◌, ◌*ℤ◌}
use Rattle.std.proofs.lemmas.Bool.{ne_eqb, eq-eqb, eqb-true}
use Rattle.stack_equilibrium.proofs.Common.{Load, Structure, Wrench, bearing_of, body_of, expand, first_corner_of}
use Rattle.stack_equilibrium.proofs.Common.{integers, load_of, loads_on, origin, scene_bearing_of, sum_to, sums}
use Rattle.stack_equilibrium.proofs.Common.{wrench_sum}
use Rattle.stack_algebra.specs.Sums.{sum_of}
use Rattle.stack_algebra.proofs.Sums.{over-index, over-append}
use Rattle.stack_polygon.specs.declared.point.Point.{Point}
use Rattle.stack_equilibrium.specs.declared.types.Question.TheVariants.{Dead, Live}
use Rattle.stack_statics.specs.Loads.{no_load, load_wrench, sum_of_triangles, moment_of_triangle}
use Rattle.stack_statics.specs.Sway.{sway_load, level_moment_of_triangle}
use Rattle.stack_equilibrium.specs.SurveyScene.{acting, listed_on, weight_at, unit_weight_of}
use Rattle.stack_polygon.specs.Plane.{triangle_of}
use Rattle.stack_pairs.specs.Pairs.{times_wrench}
use Rattle.stack_pairs.specs.Directed.{times_load, directed_load, directed_from, directed_structure, wrench_on, ArePair}
use Rattle.stack_pairs.specs.Laws.{DirectedScenesAreToward}

-- the number g of load i, among loads that are numbered from k on
abbrev pick : (Load → ℤ) → ℕ → ℕ → List Load → ℤ
pick g i k [] = pos 0
pick g i k (l ∷ ls) = (if nat_eq k i then g l else pos 0) +ℤ pick g i (suc k) ls

none_before : (g : Load → ℤ) (i k : ℕ) (ls : List Load) → i < k → pick g i k ls ≡ pos 0
none_before g i k [] h = refl
none_before g i k (l ∷ ls) h =
    let other : nat_eq k i ≡ false = ne_eqb k i (λ e. omega arith) in
    (λ r. (if other r then g l else pos 0) +ℤ none_before g i (suc k) ls (omega arith) r)

picked : (g : Load → ℤ) (d : Load) (i k n : ℕ) (ls : List Load) → n ≡ k + i → i < length ls →
    pick g n k ls ≡ g (get_or ls i d)
picked g d i k n [] e h = absurd (omega arith)
picked g d zero k n (l ∷ ls) e h =
    let here : nat_eq k n ≡ true = eq-eqb k n (omega arith) in
    (λ r. (if here r then g l else pos 0) +ℤ none_before g n (suc k) ls (omega arith) r) ∙ alone (g l)
  where
    alone : (x : ℤ) → x +ℤ pos 0 ≡ x
    alone x = omega (arith, sums)
picked g d (suc i) k n (l ∷ ls) e h =
    let later : nat_eq k n ≡ false = ne_eqb k n (λ p. omega arith) in
    (λ r. (if later r then g l else pos 0) +ℤ picked g d i (suc k) n ls (omega arith) (omega arith) r)
    ∙ alone (g (get_or ls i d))
  where
    alone : (x : ℤ) → pos 0 +ℤ x ≡ x
    alone x = omega (arith, sums)

one_or_none : (a p q : Bool) (g : Load → ℤ) (l : Load) (m n : ℤ) →
    ((t : ℤ) → g (times_load t l) ≡ t *ℤ g l) → (a ≡ false → g l ≡ pos 0) → (p ≡ true → q ≡ true → ⊥) →
    sum_of g (if a then (if p then times_load m l ∷ [] else (if q then times_load n l ∷ [] else [])) else l ∷ [])
    ≡ m *ℤ (if p then g l else pos 0) +ℤ n *ℤ (if q then g l else pos 0)
one_or_none true true true g l m n times dead h = absurd (h refl refl)
one_or_none true true false g l m n times dead h = first (g (times_load m l)) m n (g l) (times m)
  where
    first : (x m n y : ℤ) → x ≡ m *ℤ y → x +ℤ pos 0 ≡ m *ℤ y +ℤ n *ℤ pos 0
    first x m n y e = simp expand (omega (arith, sums, e))
one_or_none true false true g l m n times dead h = second (g (times_load n l)) m n (g l) (times n)
  where
    second : (x m n y : ℤ) → x ≡ n *ℤ y → x +ℤ pos 0 ≡ m *ℤ pos 0 +ℤ n *ℤ y
    second x m n y e = simp expand (omega (arith, sums, e))
one_or_none true false false g l m n times dead h = none m n
  where
    none : (m n : ℤ) → pos 0 ≡ m *ℤ pos 0 +ℤ n *ℤ pos 0
    none m n = simp expand (omega (arith, sums))
one_or_none false p q g l m n times dead h =
    (λ r. dead refl r +ℤ pos 0) ∙ none m n
    ∙ (λ r. m *ℤ same p (g l) (dead refl) r +ℤ n *ℤ same q (g l) (dead refl) r)
  where
    none : (m n : ℤ) → pos 0 +ℤ pos 0 ≡ m *ℤ pos 0 +ℤ n *ℤ pos 0
    none m n = simp expand (omega (arith, sums))

    same : (b : Bool) (x : ℤ) → x ≡ pos 0 → pos 0 ≡ (if b then x else pos 0)
    same true x e = sym e
    same false x e = refl

-- the sum of a number that a dead load hasn't and that grows with the force: m times that of load i, n times that of j
live_sum : (g : Load → ℤ) → ((m : ℤ) (l : Load) → g (times_load m l) ≡ m *ℤ g l) →
    ((l : Load) → l.live ≡ false → g l ≡ pos 0) → (i j : ℕ) (m n : ℤ) → i ≢ j → (k : ℕ) (ls : List Load) →
    sum_of g (directed_from i j m n k ls) ≡ m *ℤ pick g i k ls +ℤ n *ℤ pick g j k ls
live_sum g times dead i j m n d k [] = none m n
  where
    none : (m n : ℤ) → pos 0 ≡ m *ℤ pos 0 +ℤ n *ℤ pos 0
    none m n = simp expand (omega (arith, sums))
live_sum g times dead i j m n d k (l ∷ ls) =
    over-append integers g (directed_load i j m n k l) (directed_from i j m n (suc k) ls)
    ∙ (λ r. one_or_none l.live (nat_eq k i) (nat_eq k j) g l m n (λ t. times t l) (dead l)
    (λ p q. d (sym (eqb-true k i p) ∙ eqb-true k j q)) r
    +ℤ live_sum g times dead i j m n d (suc k) ls r)
    ∙ gathered m n _ _ _ _
  where
    gathered : (m n a b c d : ℤ) → m *ℤ a +ℤ n *ℤ b +ℤ (m *ℤ c +ℤ n *ℤ d) ≡ m *ℤ (a +ℤ c) +ℤ n *ℤ (b +ℤ d)
    gathered m n a b c d = simp expand (omega (arith, sums))

-- the sum of a number that a live load hasn't: that of all loads
dead_sum : (g : Load → ℤ) → ((l : Load) → l.live ≡ true → g l ≡ pos 0) → (i j : ℕ) (m n : ℤ) (k : ℕ)
    (ls : List Load) → sum_of g (directed_from i j m n k ls) ≡ sum_of g ls
dead_sum g live i j m n k [] = refl
dead_sum g live i j m n k (l ∷ ls) =
    over-append integers g (directed_load i j m n k l) (directed_from i j m n (suc k) ls)
    ∙ (λ r. one l.live (nat_eq k i) (nat_eq k j) refl r +ℤ dead_sum g live i j m n (suc k) ls r)
  where
    alone : (x : ℤ) → x +ℤ pos 0 ≡ x
    alone x = omega (arith, sums)

    one : (a p q : Bool) → l.live ≡ a →
        sum_of g (if a then (if p then times_load m l ∷ [] else (if q then times_load n l ∷ [] else [])) else l ∷ [])
        ≡ g l
    one true true q e = alone (g (times_load m l)) ∙ live (times_load m l) e ∙ sym (live l e)
    one true false true e = alone (g (times_load n l)) ∙ live (times_load n l) e ∙ sym (live l e)
    one true false false e = sym (live l e)
    one false p q e = alone (g l)

-- what load_of gives past the end
abbrev stand_in : Load
stand_in = record { body = 0; live = false; at = origin; fx = pos 0; fy = pos 0 }

module _ (c : Wrench → ℤ) (zero_has_none : c no_load ≡ pos 0)
    (grows : (m : ℤ) (o at : Point) (f g : ℤ) →
    c (load_wrench o at (m *ℤ f) (m *ℤ g)) ≡ m *ℤ c (load_wrench o at f g)) where
  acts_not : (b : Bool) (w : Wrench) → c (if b && false then w else no_load) ≡ pos 0
  acts_not true w = zero_has_none
  acts_not false w = zero_has_none

  acts_live : (b : Bool) (w : Wrench) → c (if b && true then w else no_load) ≡ c (if b then w else no_load)
  acts_live true w = refl
  acts_live false w = refl

  live_times : (b : ℕ) (o : Point) (m : ℤ) (l : Load) →
      c (acting Live b o (times_load m l)) ≡ m *ℤ c (acting Live b o l)
  live_times b o m l = go (nat_eq l.body b && l.live)
    where
      none : (m : ℤ) → pos 0 ≡ m *ℤ pos 0
      none m = simp expand (omega (arith, sums))

      go : (t : Bool) → c (if t then load_wrench o l.at (m *ℤ l.fx) (m *ℤ l.fy) else no_load)
          ≡ m *ℤ c (if t then load_wrench o l.at l.fx l.fy else no_load)
      go true = grows m o l.at l.fx l.fy
      go false = zero_has_none ∙ none m ∙ ap (λ x. m *ℤ x) (sym zero_has_none)

  live_on : (s : Structure) (i j : ℕ) (m n : ℤ) → ArePair s i j → (b : ℕ) →
      sum_of (λ l. c (acting Live b (first_corner_of s b) l)) (directed_from i j m n 0 s.loads)
      ≡ m *ℤ c (wrench_on s i b) +ℤ n *ℤ c (wrench_on s j b)
  live_on s i j m n pair b =
      live_sum g (live_times b o) (λ l e. ap (λ t. c (if nat_eq l.body b && t then load_wrench o l.at l.fx l.fy
      else no_load)) e ∙ acts_not (nat_eq l.body b) _) i j m n pair.different 0 s.loads
      ∙ (λ r. m *ℤ at i pair.first.listed pair.first.live r +ℤ n *ℤ at j pair.second.listed pair.second.live r)
    where
      o : Point
      o = first_corner_of s b

      g : Load → ℤ
      g l = c (acting Live b o l)

      at : (i : ℕ) → i < length s.loads → (load_of s i).live ≡ true → pick g i 0 s.loads ≡ c (wrench_on s i b)
      at i h e = picked g stand_in i 0 i s.loads (omega arith) h
          ∙ ap (λ t. c (if nat_eq (load_of s i).body b && t
          then load_wrench o (load_of s i).at (load_of s i).fx (load_of s i).fy else no_load)) e
          ∙ acts_live (nat_eq (load_of s i).body b) _

  dead_on : (s : Structure) (i j : ℕ) (m n : ℤ) (b : ℕ) →
      sum_of (λ l. c (acting Dead b (first_corner_of s b) l)) (directed_from i j m n 0 s.loads)
      ≡ sum_of (λ l. c (acting Dead b (first_corner_of s b) l)) s.loads
  dead_on s i j m n b = dead_sum (λ l. c (acting Dead b (first_corner_of s b) l))
      (λ l e. ap (λ t. c (if nat_eq l.body b && not t
      then load_wrench (first_corner_of s b) l.at l.fx l.fy else no_load)) e ∙ acts_not (nat_eq l.body b) _)
      i j m n 0 s.loads

grows_x : (m : ℤ) (o at : Point) (f g : ℤ) →
    (load_wrench o at (m *ℤ f) (m *ℤ g)).fx ≡ m *ℤ (load_wrench o at f g).fx
grows_x m o at f g = go m f
  where
    go : (m f : ℤ) → pos 6 *ℤ (m *ℤ f) ≡ m *ℤ (pos 6 *ℤ f)
    go m f = simp expand (omega (arith, sums))

grows_y : (m : ℤ) (o at : Point) (f g : ℤ) →
    (load_wrench o at (m *ℤ f) (m *ℤ g)).fy ≡ m *ℤ (load_wrench o at f g).fy
grows_y m o at f g = go m g
  where
    go : (m f : ℤ) → pos 6 *ℤ (m *ℤ f) ≡ m *ℤ (pos 6 *ℤ f)
    go m f = simp expand (omega (arith, sums))

grows_m : (m : ℤ) (o at : Point) (f g : ℤ) →
    (load_wrench o at (m *ℤ f) (m *ℤ g)).m ≡ m *ℤ (load_wrench o at f g).m
grows_m m o at f g = go m f g (at.x -ℤ o.x) (at.y -ℤ o.y)
  where
    go : (m f g x y : ℤ) → pos 6 *ℤ (x *ℤ (m *ℤ g) -ℤ y *ℤ (m *ℤ f)) ≡ m *ℤ (pos 6 *ℤ (x *ℤ g -ℤ y *ℤ f))
    go m f g x y = simp expand (omega (arith, sums))

-- no part of a sway that isn't there
no_part : (a : ℤ) → a *ℤ pos 0 ≡ pos 0
no_part a = simp expand (omega (arith, sums))

-- no moment of a sway that isn't there
no_turning : (a b : ℤ) → a *ℤ pos 0 -ℤ b *ℤ pos 0 ≡ pos 0
no_turning a b = simp expand (omega (arith, sums))

-- without a sway there is no load of it
no_sway : (w : ℤ) (corners : List Point) → sway_load (pos 0, pos 0) w corners ≡ no_load
no_sway w [] = refl
no_sway w (o ∷ rest) = λ r. record {
  fx = no_part (pos 3 *ℤ (w *ℤ sum_of_triangles triangle_of o rest)) r;
  fy = no_part (pos 3 *ℤ (w *ℤ sum_of_triangles triangle_of o rest)) r;
  m = no_turning (w *ℤ sum_of_triangles moment_of_triangle o rest)
      (w *ℤ sum_of_triangles level_moment_of_triangle o rest) r;
}

-- 0 and a number
alone : (x : ℤ) → pos 0 +ℤ x ≡ x
alone x = omega (arith, sums)

-- no load and a load
with_nothing : (v : Wrench) → wrench_sum no_load v ≡ v
with_nothing v = λ r. record { fx = alone v.fx r; fy = alone v.fy r; m = alone v.m r }

-- the listed live loads on a body of the directed structure
listed_live : (s : Structure) (i j : ℕ) (m n : ℤ) → ArePair s i j → (b : ℕ) →
    listed_on Live (directed_structure s i j m n) b
    ≡ wrench_sum (times_wrench m (wrench_on s i b)) (times_wrench n (wrench_on s j b))
listed_live s i j m n pair b = λ r. record {
  fx = (by_index (λ w. w.fx) ∙ live_on (λ w. w.fx) refl grows_x s i j m n pair b) r;
  fy = (by_index (λ w. w.fy) ∙ live_on (λ w. w.fy) refl grows_y s i j m n pair b) r;
  m = (by_index (λ w. w.m) ∙ live_on (λ w. w.m) refl grows_m s i j m n pair b) r;
}
  where
    by_index : (c : Wrench → ℤ) →
        sum_to (length (directed_from i j m n 0 s.loads))
        (λ k. c (acting Live b (first_corner_of s b) (get_or (directed_from i j m n 0 s.loads) k stand_in)))
        ≡ sum_of (λ l. c (acting Live b (first_corner_of s b) l)) (directed_from i j m n 0 s.loads)
    by_index c = sym (over-index integers (λ l. c (acting Live b (first_corner_of s b) l))
        (directed_from i j m n 0 s.loads) stand_in)

-- the live loads on a body of the directed structure
pub directed_live : (s : Structure) (i j : ℕ) (m n : ℤ) → ArePair s i j → (b : ℕ) →
    loads_on Live (directed_structure s i j m n) b
    ≡ wrench_sum (times_wrench m (wrench_on s i b)) (times_wrench n (wrench_on s j b))
directed_live s i j m n pair b =
    (λ r. wrench_sum (no_sway (unit_weight_of s b) (body_of s b).corners r) (listed_live s i j m n pair b r))
    ∙ with_nothing (wrench_sum (times_wrench m (wrench_on s i b)) (times_wrench n (wrench_on s j b)))

-- the dead loads on a body of the directed structure are those of the structure
pub directed_dead : (s : Structure) (i j : ℕ) (m n : ℤ) (b : ℕ) →
    loads_on Dead (directed_structure s i j m n) b ≡ loads_on Dead s b
directed_dead s i j m n b = λ r. wrench_sum (weight_at s b) (record {
  fx = same (λ w. w.fx) refl grows_x r;
  fy = same (λ w. w.fy) refl grows_y r;
  m = same (λ w. w.m) refl grows_m r;
})
  where
    by_index : (c : Wrench → ℤ) (ls : List Load) →
        sum_to (length ls) (λ k. c (acting Dead b (first_corner_of s b) (get_or ls k stand_in)))
        ≡ sum_of (λ l. c (acting Dead b (first_corner_of s b) l)) ls
    by_index c ls = sym (over-index integers (λ l. c (acting Dead b (first_corner_of s b) l)) ls stand_in)

    same : (c : Wrench → ℤ) → c no_load ≡ pos 0 →
        ((m : ℤ) (o at : Point) (f g : ℤ) → c (load_wrench o at (m *ℤ f) (m *ℤ g)) ≡ m *ℤ c (load_wrench o at f g)) →
        sum_to (length (directed_from i j m n 0 s.loads))
        (λ k. c (acting Dead b (first_corner_of s b) (get_or (directed_from i j m n 0 s.loads) k stand_in)))
        ≡ sum_to (length s.loads) (λ k. c (acting Dead b (first_corner_of s b) (get_or s.loads k stand_in)))
    same c z g = by_index c (directed_from i j m n 0 s.loads) ∙ dead_on c z g s i j m n b ∙ sym (by_index c s.loads)

-- so its scene is that of the survey towards the direction
pub directed_scene : DirectedScenesAreToward
directed_scene s i j m n pair = λ r. record {
  bodies = length s.structure.bodies;
  body = λ b. record {
    free = not (body_of s.structure b).fixed;
    ox = (first_corner_of s.structure b).x;
    oy = (first_corner_of s.structure b).y;
    dead = directed_dead s.structure i j m n b r;
    live = directed_live s.structure i j m n pair b r;
  };
  bearings = length s.bearings;
  bearing = λ k. scene_bearing_of (bearing_of s k);
}
