-- What is found grows by the contacts of a pair.
use Rattle.std.proofs.Common.{inl, inr, arith, ◌++◌, Some, slice_get}
use mathlib.Core.Path.{◌≡◌, refl, sym, subst, subst₂}
use mathlib.Core.List.{List}
use Prim.Native.Nat.{ℕ, zero, suc}
use Rattle.std.proofs.lemmas.Option.{same_Some}
use Rattle.stack_polygon.specs.Plane.{Triple, IsAt}
use Rattle.stack_frame.specs.declared.frame.Frame.{Frame}
use Rattle.stack_frame.specs.declared.cone.Cone.{Cone}
use Rattle.stack_overlap.specs.Separation.{Overlaps}
use Rattle.stack_model.specs.Structure.{Structure}
use Rattle.stack_contact.specs.declared.types.Bearing.{Bearing}
use Rattle.stack_contact.specs.declared.types.Touch.{Touch}
use Rattle.stack_contact.specs.declared.types.Contacts.{Contacts}
use Rattle.stack_contact.specs.declared.types.Contacts.TheVariants.{Free, Touching, AtOne, AtTwo}
use Rattle.stack_contact.specs.Bearings.{Bears, Touches}
use Rattle.stack_contact.specs.ContactLists.{corners_of, friction_between, IsPair, ComesBefore, IsBearing, IsBearingOf}
use Rattle.stack_contact.specs.ContactLists.{IsTouch, IsTouchOf}
use Rattle.stack_contact.specs.PairContacts.{AreContacts, IsBearingAt, IsTouchAt, IsInOrder}
use Rattle.stack_contact.specs.Surveyed.{AreApart}
use Rattle.stack_contact.specs.Found.{bearings_in, touches_in, AreBearingsTo, AreTouchesTo, AreFound}
use Rattle.stack_contact.proofs.Appended.{get-left, get-right, get-either, Rises, appended-rises}
use Rattle.stack_contact.proofs.FoundSteps.{before-next, later, this}

-- an item of the bearings of one pair
record IsMade (i j : ℕ) (f : Cone) (c : Contacts) (z : Bearing) : Type 0 where
  first : z.first ≡ i
  second : z.second ≡ j
  friction : z.cone ≡ f
  bears : (X : Triple) → IsAt X z.at → IsBearingAt c z.frame X

record IsMadeTouch (i j : ℕ) (c : Contacts) (z : Touch) : Type 0 where
  first : z.first ≡ i
  second : z.second ≡ j
  touches : (X : Triple) → IsAt X z.at → IsTouchAt c X

module _ (i j : ℕ) (f : Cone) where
  made-bearing : (c : Contacts) (n : ℕ) (z : Bearing) → slice_get (bearings_in i j f c) n ≡ Some z
      → IsMade i j f c z
  made-bearing Free n z e = absurd (cc e)
  made-bearing (Touching c) n z e = absurd (cc e)
  made-bearing (AtOne c t) zero z e = subst (IsMade i j f (AtOne c t)) (same_Some _ _ e)
      (record { first = refl; second = refl; friction = refl; bears = λ X h. (h, refl) })
  made-bearing (AtOne c t) (suc n) z e = absurd (cc e)
  made-bearing (AtTwo c d t) zero z e = subst (IsMade i j f (AtTwo c d t)) (same_Some _ _ e)
      (record { first = refl; second = refl; friction = refl; bears = λ X h. (inl h, refl) })
  made-bearing (AtTwo c d t) (suc zero) z e = subst (IsMade i j f (AtTwo c d t)) (same_Some _ _ e)
      (record { first = refl; second = refl; friction = refl; bears = λ X h. (inr h, refl) })
  made-bearing (AtTwo c d t) (suc (suc n)) z e = absurd (cc e)

  find-bearing : (c : Contacts) (t : Frame) (X : Triple) → IsBearingAt c t X
      → (n : ℕ) × (z : Bearing) × ((slice_get (bearings_in i j f c) n ≡ Some z) × IsBearingOf i j t X z)
  find-bearing Free t X h = absurd h
  find-bearing (Touching c) t X h = absurd h
  find-bearing (AtOne c u) t X h = (
    0,
    record { first = i; second = j; at = c; frame = u; cone = f },
    (refl, record { first = refl; second = refl; along = sym h.1; at = h.0 }),
  )
  find-bearing (AtTwo c d u) t X (inl h, e) = (
    0,
    record { first = i; second = j; at = c; frame = u; cone = f },
    (refl, record { first = refl; second = refl; along = sym e; at = h }),
  )
  find-bearing (AtTwo c d u) t X (inr h, e) = (
    1,
    record { first = i; second = j; at = d; frame = u; cone = f },
    (refl, record { first = refl; second = refl; along = sym e; at = h }),
  )

  rising : (c : Contacts) → IsInOrder c → Rises (λ (z : Bearing). z.first) (λ z. z.second) (λ z. z.at)
      (bearings_in i j f c)
  rising Free o m n y z l p q = absurd (cc p)
  rising (Touching c) o m n y z l p q = absurd (cc p)
  rising (AtOne c t) o m zero y z l p q = absurd (omega arith)
  rising (AtOne c t) o m (suc n) y z l p q = absurd (cc q)
  rising (AtTwo c d t) o m zero y z l p q = absurd (omega arith)
  rising (AtTwo c d t) o zero (suc zero) y z l p q =
      subst₂ (λ (y : Bearing) (z : Bearing). ComesBefore y.first y.second y.at z.first z.second z.at)
      (same_Some _ _ p) (same_Some _ _ q) (inr (refl, refl, o))
  rising (AtTwo c d t) o (suc m) (suc zero) y z l p q = absurd (omega arith)
  rising (AtTwo c d t) o m (suc (suc n)) y z l p q = absurd (cc q)

  made-touch : (c : Contacts) (n : ℕ) (z : Touch) → slice_get (touches_in i j c) n ≡ Some z
      → IsMadeTouch i j c z
  made-touch Free n z e = absurd (cc e)
  made-touch (Touching c) zero z e = subst (IsMadeTouch i j (Touching c)) (same_Some _ _ e)
      (record { first = refl; second = refl; touches = λ X h. h })
  made-touch (Touching c) (suc n) z e = absurd (cc e)
  made-touch (AtOne c t) n z e = absurd (cc e)
  made-touch (AtTwo c d t) n z e = absurd (cc e)

  find-touch : (c : Contacts) (X : Triple) → IsTouchAt c X
      → (n : ℕ) × (z : Touch) × ((slice_get (touches_in i j c) n ≡ Some z) × IsTouchOf i j X z)
  find-touch Free X h = absurd h
  find-touch (Touching c) X h = (
    0,
    record { first = i; second = j; at = c },
    (refl, record { first = refl; second = refl; at = h }),
  )
  find-touch (AtOne c u) X h = absurd h
  find-touch (AtTwo c d u) X h = absurd h

  rising-touches : (c : Contacts) → Rises (λ (z : Touch). z.first) (λ z. z.second) (λ z. z.at)
      (touches_in i j c)
  rising-touches Free m n y z l p q = absurd (cc p)
  rising-touches (Touching c) m zero y z l p q = absurd (omega arith)
  rising-touches (Touching c) m (suc n) y z l p q = absurd (cc q)
  rising-touches (AtOne c t) m n y z l p q = absurd (cc p)
  rising-touches (AtTwo c d t) m n y z l p q = absurd (cc p)

module _ (s : Structure) (i j : ℕ) (p : IsPair s i j) (c : Contacts) (k : AreContacts (corners_of s i)
    (corners_of s j) c) where
  this-bearing : (z : Bearing) → IsMade i j (friction_between s i j) c z → IsBearing s z
  this-bearing z h = record { pair = r.0; bears = r.1.0; friction = r.1.1 }
    where
      r : IsPair s z.first z.second × (((X : Triple) → IsAt X z.at
          → Bears (corners_of s z.first) (corners_of s z.second) z.frame X)
          × (z.cone ≡ friction_between s z.first z.second))
      r = subst₂ (λ a b. IsPair s a b × (((X : Triple) → IsAt X z.at
          → Bears (corners_of s a) (corners_of s b) z.frame X)
          × (z.cone ≡ friction_between s a b))) (sym h.first) (sym h.second)
          (p, ((λ X e. (k.bearings z.frame X).1 (h.bears X e)), h.friction))

  this-touch : (z : Touch) → IsMadeTouch i j c z → IsTouch s z
  this-touch z h = record { pair = r.0; touches = r.1 }
    where
      r : IsPair s z.first z.second × ((X : Triple) → IsAt X z.at
          → Touches (corners_of s z.first) (corners_of s z.second) X)
      r = subst₂ (λ a b. IsPair s a b × ((X : Triple) → IsAt X z.at
          → Touches (corners_of s a) (corners_of s b) X))
          (sym h.first) (sym h.second) (p, λ X e. (k.touches X).1 (h.touches X e))

  more-bearings : (zs : List Bearing) → AreBearingsTo s i j zs
      → AreBearingsTo s i (suc j) (zs ++ bearings_in i j (friction_between s i j) c)
  more-bearings zs h = record {
    each = λ n z e. elim (get-either zs ys n z e) [
      | inl g ↦ let r = h.each n z g in (r.0, later z.first z.second i j r.1)
      | inr g ↦ let m = made-bearing i j (friction_between s i j) c g.0 z g.1.1 in
          (this-bearing z m, this z.first z.second i j m.first m.second)
    ];
    all = λ a b t X q l r. elim (before-next a b i j l) [
      | inl g ↦ let w = h.all a b t X q g r in (w.0, w.1, (get-left zs ys w.0 w.1 w.2.0, w.2.1))
      | inr g ↦ fresh a b t X g.0 g.1 r
    ];
    in_order = appended-rises (λ (z : Bearing). z.first) (λ z. z.second) (λ z. z.at) zs ys i j h.in_order
        (rising i j (friction_between s i j) c k.in_order) (λ n z e. (h.each n z e).1)
        (λ n z e. let m = made-bearing i j (friction_between s i j) c n z e in (m.first, m.second));
  }
    where
      ys : List Bearing
      ys = bearings_in i j (friction_between s i j) c

      Found : ℕ → ℕ → Frame → Triple → Type 0
      Found a b t X = (n : ℕ) × (z : Bearing) × ((slice_get (zs ++ ys) n ≡ Some z) × IsBearingOf a b t X z)

      here : (t : Frame) (X : Triple) → Bears (corners_of s i) (corners_of s j) t X → Found i j t X
      here t X r = let w = find-bearing i j (friction_between s i j) c t X ((k.bearings t X).0 r) in
          let g = get-right zs ys w.0 w.1 w.2.0 in (g.0, w.1, (g.1, w.2.1))

      fresh : (a b : ℕ) (t : Frame) (X : Triple) → a ≡ i → b ≡ j → Bears (corners_of s a) (corners_of s b) t X
          → Found a b t X
      fresh a b t X e f r = subst₂ (λ a b. Bears (corners_of s a) (corners_of s b) t X
          → Found a b t X) (sym e) (sym f) (here t X) r

  more-touches : (zs : List Touch) → AreTouchesTo s i j zs → AreTouchesTo s i (suc j) (zs ++ touches_in i j c)
  more-touches zs h = record {
    each = λ n z e. elim (get-either zs ys n z e) [
      | inl g ↦ let r = h.each n z g in (r.0, later z.first z.second i j r.1)
      | inr g ↦ let m = made-touch i j (friction_between s i j) c g.0 z g.1.1 in
          (this-touch z m, this z.first z.second i j m.first m.second)
    ];
    all = λ a b X q l r. elim (before-next a b i j l) [
      | inl g ↦ let w = h.all a b X q g r in (w.0, w.1, (get-left zs ys w.0 w.1 w.2.0, w.2.1))
      | inr g ↦ fresh a b X g.0 g.1 r
    ];
    in_order = appended-rises (λ (z : Touch). z.first) (λ z. z.second) (λ z. z.at) zs ys i j h.in_order
        (rising-touches i j (friction_between s i j) c) (λ n z e. (h.each n z e).1)
        (λ n z e. let m = made-touch i j (friction_between s i j) c n z e in (m.first, m.second));
  }
    where
      ys : List Touch
      ys = touches_in i j c

      Found : ℕ → ℕ → Triple → Type 0
      Found a b X = (n : ℕ) × (z : Touch) × ((slice_get (zs ++ ys) n ≡ Some z) × IsTouchOf a b X z)

      here : (X : Triple) → Touches (corners_of s i) (corners_of s j) X → Found i j X
      here X r = let w = find-touch i j (friction_between s i j) c X ((k.touches X).0 r) in
          let g = get-right zs ys w.0 w.1 w.2.0 in (g.0, w.1, (g.1, w.2.1))

      fresh : (a b : ℕ) (X : Triple) → a ≡ i → b ≡ j → Touches (corners_of s a) (corners_of s b) X → Found a b X
      fresh a b X e f r = subst₂ (λ a b. Touches (corners_of s a) (corners_of s b) X
          → Found a b X) (sym e) (sym f) (here X) r

  pub more-found : (zs : List Bearing) (ts : List Touch) → AreApart s i j
      → ¬ (Overlaps (corners_of s i) (corners_of s j))
      → AreFound s i j zs ts
      → AreFound s i (suc j) (zs ++ bearings_in i j (friction_between s i j) c) (ts ++ touches_in i j c)
  more-found zs ts apart clear h = record {
    apart = λ a b q l. elim (before-next a b i j l) [
      | inl g ↦ h.apart a b q g
      | inr g ↦ subst₂ (λ a b. AreApart s a b) (sym g.0) (sym g.1) apart
    ];
    clear = λ a b q l. elim (before-next a b i j l) [
      | inl g ↦ h.clear a b q g
      | inr g ↦ subst₂ (λ a b. ¬ (Overlaps (corners_of s a) (corners_of s b))) (sym g.0) (sym g.1) clear
    ];
    bearings = more-bearings zs h.bearings;
    touches = more-touches ts h.touches;
  }
