-- Corner lists within the limits, the lists of numbers that they stand for, and their outlines.
use Rattle.std.proofs.Common.{◌≡◌, ℕ, suc, ◌≤◌, ℤ, Bool, true, false, ◌&&◌, List, [], ◌∷◌, map, length, Option, Some}
use Rattle.std.proofs.Common.{None, Ok, Err, refl, ap, ◌∙◌, subst, arith, if◌then◌else◌}
use Rattle.stack_algebra.proofs.Conjunctions.{both_true}
use Rattle.std.proofs.lemmas.Int.{ints}
use Rattle.std.proofs.lemmas.List.{length-map}
use Rattle.stack_polygon.specs.declared.point.Point.{Point}
use Rattle.stack_polygon.specs.Corners.{reversed}
use Rattle.stack_polygon.specs.Limits.{IsPolygon, is_near, is_in_range, are_in_range}
use Rattle.stack_polygon.specs.Outlines.{is_convex, is_clear, first_failing}
use Rattle.stack_polygon.specs.Admission.{is_count}
use Rattle.stack_polygon.proofs.Ranges.{all_in_range, to_all_in_range, length-reversed, range-reversed}
use Rattle.stack_polygon.proofs.Tested.{convex_from}
use Rattle.stack_model.specs.Limits.{point_of, with_first, points_of, corner_list_of}
use Rattle.stack_model.specs.Convex.{at_block, convex}
use Rattle.stack_model.specs.Relisted.{coordinates}

pub point_taken : (c : List ℤ) (p : Point) → point_of c ≡ Some p → is_in_range p ≡ true
point_taken (x ∷ y ∷ []) p h = go (is_near x) (is_near y) refl refl h
  where
    go : (s t : Bool) → is_near x ≡ s → is_near y ≡ t
        → (if s && t then Some (record { x = x; y = y }) else None) ≡ Some p → is_in_range p ≡ true
    go true true es et e =
        let q : Point = record { x = x; y = y } in
        let same : q ≡ p = cc in
        subst (λ r. is_in_range r ≡ true) same (λ i. es i && et i)
    go true false es et e = absurd (cc)
    go false t es et e = absurd (cc)
point_taken [] p h = absurd (cc)
point_taken (x ∷ []) p h = absurd (cc)
point_taken (x ∷ y ∷ z ∷ zs) p h = absurd (cc)

pub point_again : (p : Point) → is_in_range p ≡ true → point_of (coordinates p) ≡ Some p
point_again p h = λ i. if h i then Some p else None

-- the parts of a list that was there
first_parts : {A : Type 0} (o : Option A) (r : Option (List A)) (ys : List A) → with_first o r ≡ Some ys
    → (x : A) × ((xs : List A) × ((o ≡ Some x) × (r ≡ Some xs) × (x ∷ xs ≡ ys)))
first_parts (Some x) (Some xs) ys h = (x, (xs, (refl, refl, cc)))
first_parts (Some x) None ys h = absurd (cc)
first_parts None r ys h = absurd (cc)

points_taken : (cs : List (List ℤ)) (ps : List Point) → points_of cs ≡ Some ps
    → (length ps ≡ length cs) × (are_in_range ps ≡ true)
points_taken [] ps h =
    let none : List Point = [] in
    let same : none ≡ ps = cc in
    subst (λ qs. (length qs ≡ 0) × (are_in_range qs ≡ true)) same (refl, refl)
points_taken (c ∷ cs) ps h =
    let p = first_parts (point_of c) (points_of cs) ps h in
    let rest = points_taken cs p.1.0 p.1.1.1 in
    subst (λ qs. (length qs ≡ suc (length cs)) × (are_in_range qs ≡ true)) p.1.1.2
    (ap suc rest.0, λ i. point_taken c p.0 p.1.1.0 i && rest.1 i)

-- 3 to 32 corners in range
pub record AreCorners (ps : List Point) : Type 0 where
  pub count : is_count (length ps) ≡ true
  pub range : are_in_range ps ≡ true

pub corners_taken : (cs : List (List ℤ)) (ps : List Point) → corner_list_of cs ≡ Some ps → AreCorners ps
corners_taken cs ps h = go (is_count (length cs)) refl h
  where
    go : (b : Bool) → is_count (length cs) ≡ b → (if b then points_of cs else None) ≡ Some ps → AreCorners ps
    go true e k = let p = points_taken cs ps k in record { count = ap is_count p.0 ∙ e; range = p.1 }
    go false e k = absurd (cc)

points_again : (ps : List Point) → are_in_range ps ≡ true → points_of (map coordinates ps) ≡ Some ps
points_again [] h = refl
points_again (p ∷ ps) h =
    let q = both_true (is_in_range p) (are_in_range ps) h in
    λ i. with_first (point_again p q.0 i) (points_again ps q.1 i)

pub corners_again : (ps : List Point) → AreCorners ps → corner_list_of (map coordinates ps) ≡ Some ps
corners_again ps h =
    (λ i. if (ap is_count (length-map ps coordinates) ∙ h.count) i
    then points_of (map coordinates ps) else None)
    ∙ points_again ps h.range

counted : (n : ℕ) → is_count n ≡ true → (3 ≤ n) × (n ≤ 32)
counted n h = (grind (arith, ints), grind (arith, ints))

by_test : (ps : List Point) → AreCorners ps → is_convex ps ≡ true → IsPolygon ps
by_test ps h c =
    let n = counted (length ps) h.count in
    record {
      least = n.0;
      most = n.1;
      in_range = all_in_range ps h.range;
      convex = convex_from ps c;
    }

turned : (ps : List Point) → AreCorners ps → AreCorners (reversed ps)
turned ps h =
    record {
      count = ap is_count (length-reversed ps) ∙ h.count;
      range = to_all_in_range (reversed ps) (range-reversed ps (all_in_range ps h.range));
    }

pub outlined : (i : ℕ) (ps qs : List Point) → AreCorners ps → convex i ps ≡ Ok qs → IsPolygon qs
outlined i ps qs h k = go (is_convex ps) (is_convex (reversed ps)) refl refl k
  where
    go : (s t : Bool) → is_convex ps ≡ s → is_convex (reversed ps) ≡ t
        → at_block i (if s then Ok ps else
        (if t then Ok (reversed ps) else Err (first_failing (is_clear ps) (length ps)))) ≡ Ok qs
        → IsPolygon qs
    go true t es et e = let same : ps ≡ qs = cc in subst IsPolygon same (by_test ps h es)
    go false true es et e = let same : reversed ps ≡ qs = cc in
        subst IsPolygon same (by_test (reversed ps) (turned ps h) et)
    go false false es et e = absurd (cc)
