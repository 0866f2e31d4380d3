-- Each wall has a survey, and what has one isn't refused.
use Rattle.std.proofs.Common.{◌≡◌, refl, sym, subst₂, ℕ, zero, suc, ◌+◌, ◌/◌, ◌<◌, ◌≤◌, ◌⊎◌, inl, inr, List, [], ◌∷◌}
use Rattle.std.proofs.Common.{length, Option, Some, None, Result, Ok, Err, arith, slice_get, MatchOption, IfSome}
use Rattle.std.proofs.lemmas.Nat.{mod_below}
use Rattle.stack_overlap.specs.Separation.{Overlaps}
use Rattle.stack_overlap.proofs.Separated.{apart-first, apart-second}
use Rattle.stack_model.specs.Structure.{Structure}
use Rattle.stack_contact.specs.declared.types.Bearing.{Bearing}
use Rattle.stack_contact.specs.declared.types.SurveyError.{SurveyError}
use Rattle.stack_contact.specs.declared.types.SurveyError.TheVariants.{Memory}
use Rattle.stack_contact.specs.ContactLists.{corners_of, IsPair, ComesBefore, IsBearing, AreBearings}
use Rattle.stack_contact.specs.declared.types.Touch.{Touch}
use Rattle.stack_contact.specs.declared.types.Contacts.{Contacts}
use Rattle.stack_contact.specs.PairContacts.{AreContacts}
use Rattle.stack_contact.specs.Found.{AreAllFound}
use Rattle.stack_contact.proofs.OneSurvey.{one-survey}
use Rattle.stack_contact.specs.Surveyed.{AreSeparated, AreApart, Surveyed, surveyed}
use Rattle.stack_overhang.specs.declared.types.Wall.{Wall}
use Rattle.stack_overhang.specs.Limits.{IsWall}
use Rattle.stack_overhang.specs.Wall.{drawn, wall_by, wall_structure}
use Rattle.stack_rectangle.specs.Rectangles.{IsRectangle, contacts_by_ranges, RangesTellSeparation, RangesTellContacts}
use Rattle.stack_walls.specs.Surveying.{HasSurvey, WallsHaveSurveys, DrawnWallsHaveSurveys, SurveyedIsntRefused}
use Rattle.stack_walls.proofs.Sides.{point_at}
use Rattle.stack_walls.proofs.Numbers.{IsBase, base_below, base_before, base_same}
use Rattle.stack_walls.proofs.Ends.{at_itself, IsEndOf, bears_at_end, ends_in_order}
use Rattle.stack_walls.proofs.Counting.{no_more}
use Rattle.stack_walls.proofs.Neighbours.{apart, pairs, rectangles, neighbours}
use Rattle.stack_walls.proofs.Existence.{IsClear, all_contacts}

-- an item of a list by its number
item : {X : Type 0} (xs : List X) (k : ℕ) → k < length xs → (x : X) × (slice_get xs k ≡ Some x)
item [] k lt = absurd (omega (arith, lt))
item (x ∷ xs) zero lt = (x, refl)
item (x ∷ xs) (suc k) lt = item xs k (omega (arith, lt))

module _ (tells : RangesTellSeparation) (told : RangesTellContacts) (w : Wall) (h : IsWall w) where
  abbrev s : Structure
  s = wall_structure w

  first_rectangle : (i j : ℕ) → IsPair s i j → IsRectangle (corners_of s i)
  first_rectangle i j pair = rectangles w h i (omega (arith, pair.in_order, pair.is_body))

  second_rectangle : (i j : ℕ) → IsPair s i j → IsRectangle (corners_of s j)
  second_rectangle i j pair = rectangles w h j pair.is_body

  clear : (i j : ℕ) → IsPair s i j → ¬ (Overlaps (corners_of s i) (corners_of s j))
  clear i j pair = go (apart w h i j pair)
    where
      go : AreSeparated (corners_of s i) (corners_of s j) → ¬ (Overlaps (corners_of s i) (corners_of s j))
      go (inl e) = apart-first (corners_of s i) (corners_of s j) (second_rectangle i j pair).polygon e.0 e.1
      go (inr e) = apart-second (corners_of s i) (corners_of s j) (first_rectangle i j pair).polygon e.0 e.1

  -- the number of a bearing: that of its pair, and one more at the second end
  record IsRank (z : Bearing) (r : ℕ) : Type 0 where
    pub base : ℕ
    pub end : ℕ
    pub is_base : IsBase w.bricks z.first z.second base
    pub is_end : IsEndOf (contacts_by_ranges (corners_of s z.first) (corners_of s z.second)) z.at end
    pub most : end ≤ 1
    pub sum : r ≡ base + end

  rank_of : (z : Bearing) → IsBearing s z → (r : ℕ) × IsRank z r × (r < 822)
  rank_of z b =
      let bears = b.bears (point_at z.at) (at_itself z.at) in
      let base = neighbours w h z.first z.second z.at b.pair bears.is_end.is_in in
      let end = bears_at_end tells told (corners_of s z.first) (corners_of s z.second)
      (first_rectangle z.first z.second b.pair) (second_rectangle z.first z.second b.pair)
      (apart w h z.first z.second b.pair) z.frame z.at bears in
      let low = base_below w.bricks z.first z.second base.0 base.1 in
      let one = end.2 in (
        base.0 + end.0,
        record {
          base = base.0;
          end = end.0;
          is_base = base.1;
          is_end = end.1;
          most = one;
          sum = refl;
        },
        omega (arith, low, one),
      )

  ranks_grow : (y z : Bearing) (r q : ℕ) → IsPair s y.first y.second → IsRank y r → IsRank z q
      → ComesBefore y.first y.second y.at z.first z.second z.at → r < q
  ranks_grow y z r q pair a b (inl before) =
      let up = base_before w.bricks y.first y.second a.base z.first z.second b.base a.is_base b.is_base before in
      omega (arith, up, a.most, a.sum, b.sum)
  ranks_grow y z r q pair a b (inr (e, f, before)) =
      let same = base_same w.bricks y.first y.second a.base z.first z.second b.base a.is_base b.is_base e f in
      let end = subst₂ (λ i j. IsEndOf (contacts_by_ranges (corners_of s i) (corners_of s j)) z.at b.end)
      (sym e) (sym f) b.is_end in
      let up = ends_in_order (corners_of s y.first) (corners_of s y.second)
      (contacts_by_ranges (corners_of s y.first) (corners_of s y.second)) y.at z.at a.end b.end
      (told (corners_of s y.first) (corners_of s y.second) (first_rectangle y.first y.second pair)
      (second_rectangle y.first y.second pair)) a.is_end end before in
      omega (arith, up, same, a.sum, b.sum)

  few : (zs : List Bearing) → AreBearings s zs → length zs ≤ 1024
  few zs all = let n = no_more (length zs) 822 Numbered has grows in omega (arith, n)
    where
      Numbered : ℕ → ℕ → Type 0
      Numbered k r = (z : Bearing) × (slice_get zs k ≡ Some z) × IsRank z r

      has : (k : ℕ) → k < length zs → (r : ℕ) × Numbered k r × (r < 822)
      has k lt =
          let z = item zs k lt in
          let r = rank_of z.0 (all.each k z.0 z.1) in
          (r.0, (z.0, z.1, r.1), r.2)

      grows : (k l r q : ℕ) → k < l → Numbered k r → Numbered l q → r < q
      grows k l r q lt (y, at_k, a) (z, at_l, b) =
          ranks_grow y z r q (all.each k y at_k).pair a b (all.in_order k l y z lt at_k at_l)

  -- what two bodies have in common
  contacts : (i j : ℕ) → i < j → j < length s.bodies → IsClear s i j
  contacts i j before lt =
      let pair = pairs w h i j before lt in
      let first = first_rectangle i j pair in
      let second = second_rectangle i j pair in
      go pair (contacts_by_ranges (corners_of s i) (corners_of s j))
      (tells (corners_of s i) (corners_of s j) first second) (told (corners_of s i) (corners_of s j) first second)
    where
      go : IsPair s i j → (o : Option Contacts) → MatchOption o (¬ (AreApart s i j)) (λ c. AreApart s i j)
          → IfSome o (λ c. AreContacts (corners_of s i) (corners_of s j) c) → IsClear s i j
      go pair None n c = absurd (n (apart w h i j pair))
      go pair (Some o) n c = record {
        pair = pair;
        apart = n;
        clear = clear i j pair;
        contacts = o;
        are_contacts = c;
      }

  has_survey : HasSurvey s
  has_survey = by (all_contacts s (λ i lt. (rectangles w h i lt).polygon) contacts)
    where
      by : (zs : List Bearing) × (ts : List Touch) × AreAllFound s zs ts → HasSurvey s
      by (zs, ts, all) = (
        surveyed s zs ts,
        record {
          structure = refl;
          apart = all.apart;
          clear = all.clear;
          bearings = all.bearings;
          few = few zs all.bearings;
          touches = all.touches;
        },
      )

pub walls_have_surveys : RangesTellSeparation → RangesTellContacts → WallsHaveSurveys
walls_have_surveys tells told w h = has_survey tells told w h

-- each number draws a wall within the limits
is_wall : (number : ℕ) → IsWall (wall_by number)
is_wall number =
    let courses = mod_below number 9 (omega arith) in
    let bricks = mod_below (number / 9) 9 (omega arith) in
    let tenths = mod_below (drawn number / 65536) 5 (omega arith) in
    let shift = mod_below (drawn (drawn number) / 65536) 7 (omega arith) in
    record {
      least_courses = omega arith;
      most_courses = omega (arith, courses);
      least_bricks = omega arith;
      most_bricks = omega (arith, bricks);
      most_tenths = omega (arith, tenths);
      most_shift = omega (arith, shift);
    }

pub drawn_walls_have_surveys : RangesTellSeparation → RangesTellContacts → DrawnWallsHaveSurveys
drawn_walls_have_surveys tells told number = walls_have_surveys tells told (wall_by number) (is_wall number)

-- the two answers of a survey
abbrev made : Surveyed → Result Surveyed SurveyError
made v = Ok v

abbrev refused : SurveyError → Result Surveyed SurveyError
refused e = Err e

pub surveyed_isnt_refused : SurveyedIsntRefused
surveyed_isnt_refused t e v h = go (one-survey t (Ok v.0) (Err e) v.1 h)
  where
    go : (made v.0 ≡ refused Memory) ⊎ ((refused e ≡ refused Memory) ⊎ (made v.0 ≡ refused e)) → e ≡ Memory
    go (inl f) = absurd (cc f)
    go (inr (inl f)) = cc
    go (inr (inr f)) = absurd (cc f)
