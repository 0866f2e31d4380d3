-- Values within their limits pass the tests.
use Rattle.std.proofs.Common.{◌≡◌, ℕ, zero, suc, ◌+◌, ◌<◌, ◌≤◌, ℤ, pos, negsuc, Bool, true, false, ◌&&◌, not, cond}
use Rattle.std.proofs.Common.{List, [], ◌∷◌, ◌++◌, length, get_or, Some, None, Ok, refl, sym, ap, ◌∙◌, arith}
use Rattle.std.specs.Prelude.{nat_lt, count_by, if◌then◌else◌}
use Rattle.std.specs.Str.{bytes_eq}
use Rattle.std.specs.List.{position_or_len}
use Rattle.std.proofs.lemmas.Int.{ints}
use Rattle.std.proofs.lemmas.Bool.{le-leb, lt-ltb}
use Rattle.std.proofs.lemmas.List.{get_or_append_left}
use Rattle.std.proofs.Math.Seq.{get_or-append_seam}
use Rattle.std.proofs.lemmas.List.Sums.{position_or_len_is, sum_by-append, sum_by-cons}
use Rattle.std.proofs.lemmas.List.Folds.{list_any_none}
use Rattle.std.proofs.lemmas.Slice.Eq.{bytes_eq-Decides}
use Rattle.stack_algebra.specs.IntegerOrder.{◌≼◌}
use Rattle.stack_polygon.specs.declared.point.Point.{Point}
use Rattle.stack_polygon.specs.Limits.{IsPolygon}
use Rattle.stack_polygon.proofs.Ranges.{to_all_in_range}
use Rattle.stack_polygon.proofs.Tested.{to_convex}
use Rattle.stack_model.specs.Structure.{NamedBody, IsSway}
use Rattle.stack_model.specs.Relisted.{kind_word}
use Rattle.stack_model.specs.Limits.{IsName, is_name, is_between, friction_of, sway_of, force_of, live_of}
use Rattle.stack_model.specs.Convex.{convex}
use Rattle.stack_model.specs.Content.{number_of, is_new}
use Rattle.stack_model.specs.Sound.{AreDifferent}
use Rattle.stack_model.proofs.Points.{AreCorners}

pub is_within : (low high z : ℤ) → low ≼ z → z ≼ high → is_between low high z ≡ true
is_within low high z l h = grind (arith, ints)

pub passes_name : (name : List ℕ) → IsName name → is_name name ≡ true
passes_name name h = λ i. le-leb 1 (length name) h.least i && le-leb (length name) 32 h.most i && h.letters i

pub passes_friction : (p q : ℤ) → pos 0 ≼ p → p ≼ pos 1000 → pos 1 ≼ q → q ≼ pos 1000
    → friction_of (p ∷ q ∷ []) ≡ Some (p, q)
passes_friction p q a b c d =
    let e = is_within (pos 0) (pos 1000) p a b in
    let f = is_within (pos 1) (pos 1000) q c d in
    λ i. if e i && f i then Some (p, q) else None

pub passes_sway : (z : ℤ × ℤ) → IsSway z → sway_of (z.0 ∷ z.1 ∷ []) ≡ Some z
passes_sway z h =
    let e = is_within (negsuc 999) (pos 1000) z.0 h.least_x h.most_x in
    let f = is_within (negsuc 999) (pos 1000) z.1 h.least_y h.most_y in
    λ i. if e i && f i then Some z else None

-- a kind has one word
pub kind_again : (live : Bool) → live_of (kind_word live) ≡ Some live
kind_again true = refl
kind_again false = refl

abbrev pub IsPart : ℤ → Type 0
IsPart z = (negsuc 999999999 ≼ z) × (z ≼ pos 1000000000)

pub passes_force : (x y : ℤ) → IsPart x → IsPart y → force_of (x ∷ y ∷ []) ≡ Some (x, y)
passes_force x y a b =
    let e = is_within (negsuc 999999999) (pos 1000000000) x a.0 a.1 in
    let f = is_within (negsuc 999999999) (pos 1000000000) y b.0 b.1 in
    λ i. if e i && f i then Some (x, y) else None

pub passes_corners : (ps : List Point) → IsPolygon ps → AreCorners ps
passes_corners ps h = record {
  count = λ i. le-leb 3 (length ps) h.least i && le-leb (length ps) 32 h.most i;
  range = to_all_in_range ps h.in_range;
}

pub passes_convex : (i : ℕ) (ps : List Point) → IsPolygon ps → convex i ps ≡ Ok ps
passes_convex i ps h = rw (to_convex ps h.convex) refl

other_name : (a b : List ℕ) → ¬ (a ≡ b) → bytes_eq a b ≡ false
other_name a b h = go (bytes_eq a b) refl
  where
    go : (t : Bool) → bytes_eq a b ≡ t → t ≡ false
    go true e = absurd (h ((bytes_eq-Decides a b).0 e))
    go false e = refl

-- a name is found at its place among different names
pub number_at : (names : List (List ℕ)) (n : ℕ) → n < length names → AreDifferent names
    → number_of (get_or names n []) names ≡ Some n
number_at names n l different =
    let name = get_or names n [] in
    let e : position_or_len (bytes_eq name) names ≡ n =
    position_or_len_is (bytes_eq name) names n [] (omega (arith, l))
    (λ k lt. other_name name (get_or names k []) (λ same. different k n lt l (sym same)))
    (λ _. (bytes_eq-Decides name name).1 refl) in
    (λ i. cond (nat_lt (e i) (length names)) (Some (e i)) None)
    ∙ ap (λ t. cond t (Some n) None) (lt-ltb n (length names) l)

-- a name behind others among different names is new
pub new_at : (before after : List (List ℕ)) (name : List ℕ) → AreDifferent (before ++ name ∷ after)
    → is_new name before ≡ true
new_at before after name different =
    ap not (list_any_none (bytes_eq name) before (λ k d lt. other_name name (get_or before k d)
    (λ same. different k (length before) lt (within before)
    (get_or_append_left before (name ∷ after) [] k lt ∙ default before k d lt ∙ sym same
    ∙ sym (get_or-append_seam before name after [])))))
  where
    within : (xs : List (List ℕ)) → length xs < length (xs ++ name ∷ after)
    within [] = omega arith
    within (x ∷ xs) = let r = within xs in omega (arith, r)

    default : (xs : List (List ℕ)) (k : ℕ) (d : List ℕ) → k < length xs → get_or xs k [] ≡ get_or xs k d
    default [] k d l = absurd (omega arith)
    default (x ∷ xs) zero d l = refl
    default (x ∷ xs) (suc k) d l = default xs k d (omega (arith, l))

-- where all such bodies are few, there is room for one before the last of them
pub room_at : (p : NamedBody → Bool) (before after : List NamedBody) (b : NamedBody) (limit : ℕ) → p b ≡ true
    → count_by p (before ++ b ∷ after) ≤ limit → count_by p before < limit
room_at p before after b limit h few =
    let e : count_by p (before ++ b ∷ after) ≡ count_by p before + (cond (p b) 1 0 + count_by p after) =
    sum_by-append (λ x. cond (p x) 1 0) before (b ∷ after)
    ∙ ap (λ n. count_by p before + n) (sum_by-cons (λ x. cond (p x) 1 0) b after) in
    let f = rw h at e in
    omega (arith, f, few)
