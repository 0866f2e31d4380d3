-- The survey of a part is the part of a survey.
use Rattle.std.proofs.Common.{◌≡◌, refl, sym, ap, subst, ◌∙◌, ℕ, Bool, true, List, arith, ◌&&◌, inl, inr}
use Rattle.stack_algebra.proofs.Conjunctions.{both_true}
use Rattle.stack_polygon.specs.declared.point.Point.{Point}
use Rattle.stack_overlap.specs.Separation.{Overlaps}
use Rattle.stack_model.specs.Structure.{Structure, body_of}
use Rattle.stack_contact.specs.declared.types.Bearing.{Bearing}
use Rattle.stack_contact.specs.declared.types.Touch.{Touch}
use Rattle.stack_contact.specs.Bearings.{Bears, Touches}
use Rattle.stack_contact.specs.ContactLists.{corners_of, IsPair, ComesBefore, friction_of_materials, friction_between}
use Rattle.stack_contact.specs.ContactLists.{IsBearing, AreBearings, IsTouch, AreTouches}
use Rattle.stack_contact.specs.Surveyed.{Surveyed, IsSurvey, AreSeparated}
use Rattle.stack_model.specs.Keeping.{kept_before}
use Rattle.stack_model.specs.Part.{part_of}
use Rattle.stack_part.specs.Part.{bearing_among, bearings_among, touch_among, touches_among, surveyed_part}
use Rattle.stack_part.specs.Laws.{PartsAreSurveyed}
use Rattle.stack_model.proofs.KeptItems.{before_rises, items_rise, item_of, at_number}
use Rattle.stack_model.proofs.PickedItems.{picked_from, picked_has, picked_few, picked_ordered}

module _ (keeps : ℕ → Bool) (s : Structure) where
  -- the number of a kept body among the kept ones
  abbrev new : ℕ → ℕ
  new i = kept_before keeps i

  -- the structure of the kept bodies
  abbrev part : Structure
  part = part_of keeps s

  -- bodies m and n of the whole are bodies i and j of the part
  record IsPairAs (i j m n : ℕ) : Type 0 where
    pub whole : IsPair s m n
    pub pair : IsPair part i j
    pub first : new m ≡ i
    pub second : new n ≡ j
    pub first_kept : keeps m ≡ true
    pub second_kept : keeps n ≡ true
    pub first_body : body_of part i ≡ body_of s m
    pub second_body : body_of part j ≡ body_of s n

  -- a kept pair is one of the part
  pair_on : (m n : ℕ) → IsPair s m n → keeps m ≡ true → keeps n ≡ true → IsPairAs (new m) (new n) m n
  pair_on m n h a b =
      let l = h.in_order in
      let k = h.is_body in
      let p = at_number keeps s.bodies m (omega (arith, l, k)) a in
      let q = at_number keeps s.bodies n k b in
      let e : body_of part (new m) ≡ body_of s m = (p.1).same _ in
      let f : body_of part (new n) ≡ body_of s n = (q.1).same _ in
      record {
        whole = h;
        pair = record {
          in_order = before_rises keeps m n a l;
          is_body = q.0;
          not_both_fixed = (λ i. (e i).fixed && (f i).fixed) ∙ h.not_both_fixed;
        };
        first = refl;
        second = refl;
        first_kept = a;
        second_kept = b;
        first_body = e;
        second_body = f;
      }

  -- a pair of the part is a kept one
  pair_back : (i j : ℕ) → IsPair part i j → (m : ℕ) × (n : ℕ) × IsPairAs i j m n
  pair_back i j h =
      let l = h.in_order in
      let k = h.is_body in
      let p = item_of keeps s.bodies i (omega (arith, l, k)) in
      let q = item_of keeps s.bodies j k in
      let e : body_of part i ≡ body_of s p.0 = (p.1).same _ in
      let f : body_of part j ≡ body_of s q.0 = (q.1).same _ in (
        p.0,
        q.0,
        record {
          whole = record {
            in_order = items_rise keeps p.0 q.0 i j (p.1).number (q.1).number (q.1).stays l;
            is_body = (q.1).within;
            not_both_fixed = (λ i. (sym e i).fixed && (sym f i).fixed) ∙ h.not_both_fixed;
          };
          pair = h;
          first = (p.1).number;
          second = (q.1).number;
          first_kept = (p.1).stays;
          second_kept = (q.1).stays;
          first_body = e;
          second_body = f;
        },
      )

  -- what speaks of the corners of both
  over : (P : List Point → List Point → Type 0) (i j m n : ℕ) → IsPairAs i j m n
      → P (corners_of s m) (corners_of s n) → P (corners_of part i) (corners_of part j)
  over P i j m n h p = subst (λ a. P a.corners (corners_of part j)) (sym h.first_body)
      (subst (λ b. P (corners_of s m) b.corners) (sym h.second_body) p)

  -- the same, from the part to the whole
  back : (P : List Point → List Point → Type 0) (i j m n : ℕ) → IsPairAs i j m n
      → P (corners_of part i) (corners_of part j) → P (corners_of s m) (corners_of s n)
  back P i j m n h p = subst (λ a. P a.corners (corners_of s n)) h.first_body
      (subst (λ b. P (corners_of part i) b.corners) h.second_body p)

  -- the friction between two bodies is that between the same two
  friction_on : (i j m n : ℕ) → IsPairAs i j m n → friction_between s m n ≡ friction_between part i j
  friction_on i j m n h = λ k.
      friction_of_materials s (sym h.first_body k).material (sym h.second_body k).material

  -- points of kept bodies stay in their order
  before_on : (i j : ℕ) (a : Point) (k l : ℕ) (b : Point) → keeps i ≡ true → keeps j ≡ true
      → ComesBefore i j a k l b → ComesBefore (new i) (new j) a (new k) (new l) b
  before_on i j a k l b p q (inl (inl e)) = inl (inl (before_rises keeps i k p e))
  before_on i j a k l b p q (inl (inr e)) = inl (inr (ap new e.0, before_rises keeps j l q e.1))
  before_on i j a k l b p q (inr e) = inr (ap new e.0, ap new e.1, e.2)

  -- two bodies that are kept are both kept
  both_kept : (i j m n : ℕ) → i ≡ m → j ≡ n → keeps m ≡ true → keeps n ≡ true → (keeps i && keeps j) ≡ true
  both_kept i j m n e f a b = (λ k. keeps (e k) && keeps (f k)) ∙ (λ k. a k && b k)

  -- the bearings between kept bodies are the bearings of the part
  bearings_on : (zs : List Bearing) → AreBearings s zs → AreBearings part (bearings_among keeps zs)
  bearings_on zs h = record {
    each = λ k z e.
        let r = picked_from _ _ zs k z e in
        let b = h.each r.0 r.1 r.2.at in
        let t = both_true _ _ r.2.kept in
        let p = pair_on _ _ b.pair t.0 t.1 in
        subst (IsBearing part) r.2.is (record {
          pair = p.pair;
          bears = λ X at. over (λ ps qs. Bears ps qs (r.1).frame X) _ _ _ _ p (b.bears X at);
          friction = b.friction ∙ friction_on _ _ _ _ p;
        });
    all = λ i j t X p b.
        let q = pair_back i j p in
        let r = h.all q.0 q.1 t X q.2.whole (back (λ ps qs. Bears ps qs t X) i j q.0 q.1 q.2 b) in
        let o = r.2.1 in
        let k = picked_has (λ z. keeps z.first && keeps z.second) (bearing_among keeps) zs r.0 r.1 r.2.0
        (both_kept _ _ _ _ o.first o.second q.2.first_kept q.2.second_kept) in (
          k.0,
          bearing_among keeps r.1,
          (
            k.1,
            record {
              first = ap new o.first ∙ q.2.first;
              second = ap new o.second ∙ q.2.second;
              along = o.along;
              at = o.at;
            },
          ),
        );
    in_order = picked_ordered _ _ (λ y z. ComesBefore y.first y.second y.at z.first z.second z.at)
        (λ y z. ComesBefore y.first y.second y.at z.first z.second z.at)
        (λ y z a b c. let t = both_true _ _ a in before_on _ _ _ _ _ _ t.0 t.1 c) zs h.in_order;
  }

  -- the touches between kept bodies are the touches of the part
  touches_on : (zs : List Touch) → AreTouches s zs → AreTouches part (touches_among keeps zs)
  touches_on zs h = record {
    each = λ k z e.
        let r = picked_from _ _ zs k z e in
        let b = h.each r.0 r.1 r.2.at in
        let t = both_true _ _ r.2.kept in
        let p = pair_on _ _ b.pair t.0 t.1 in
        subst (IsTouch part) r.2.is (record {
          pair = p.pair;
          touches = λ X at. over (λ ps qs. Touches ps qs X) _ _ _ _ p (b.touches X at);
        });
    all = λ i j X p b.
        let q = pair_back i j p in
        let r = h.all q.0 q.1 X q.2.whole (back (λ ps qs. Touches ps qs X) i j q.0 q.1 q.2 b) in
        let o = r.2.1 in
        let k = picked_has (λ z. keeps z.first && keeps z.second) (touch_among keeps) zs r.0 r.1 r.2.0
        (both_kept _ _ _ _ o.first o.second q.2.first_kept q.2.second_kept) in (
          k.0,
          touch_among keeps r.1,
          (
            k.1,
            record {
              first = ap new o.first ∙ q.2.first;
              second = ap new o.second ∙ q.2.second;
              at = o.at;
            },
          ),
        );
    in_order = picked_ordered _ _ (λ y z. ComesBefore y.first y.second y.at z.first z.second z.at)
        (λ y z. ComesBefore y.first y.second y.at z.first z.second z.at)
        (λ y z a b c. let t = both_true _ _ a in before_on _ _ _ _ _ _ t.0 t.1 c) zs h.in_order;
  }

-- the part of a survey is the survey of the part
pub part_surveyed : PartsAreSurveyed
part_surveyed keeps s v h = record {
  structure = ap (part_of keeps) h.structure;
  apart = λ i j p. let q = pair_back keeps s i j p in
      over keeps s AreSeparated i j q.0 q.1 q.2 (h.apart q.0 q.1 q.2.whole);
  clear = λ i j p o. let q = pair_back keeps s i j p in
      h.clear q.0 q.1 q.2.whole (back keeps s Overlaps i j q.0 q.1 q.2 o);
  bearings = bearings_on keeps s v.bearings h.bearings;
  few = picked_few _ _ v.bearings _ h.few;
  touches = touches_on keeps s v.touches h.touches;
}

-- the survey of a structure that is the part
pub survey_of_part : (keeps : ℕ → Bool) (v : Surveyed) (t m : Structure) → IsSurvey v.structure v
    → m ≡ v.structure → t ≡ part_of keeps m → IsSurvey t (surveyed_part keeps v)
survey_of_part keeps v t m h e f = subst (λ t. IsSurvey t (surveyed_part keeps v))
    (sym (f ∙ ap (part_of keeps) e)) (part_surveyed keeps v.structure v h)
