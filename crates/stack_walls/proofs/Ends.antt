-- A bearing of two rectangles that are apart is at the first or at the second end of what they have in common.
use Rattle.std.proofs.Common.{◌≡◌, refl, sym, ◌∙◌, subst, ℕ, ◌<◌, ◌≤◌, ℤ, pos, ◌*ℤ◌, ◌⊎◌, inl, inr, List, Some, None}
use Rattle.std.proofs.Common.{Option, arith, MatchOption, IfSome}
use Rattle.stack_algebra.proofs.Integers.{expand, sums}
use Rattle.stack_polygon.specs.declared.point.Point.{Point}
use Rattle.stack_polygon.specs.Plane.{IsAt}
use Rattle.stack_frame.specs.declared.frame.Frame.{Frame}
use Rattle.stack_overlap.specs.CommonPoints.{IsBefore}
use Rattle.stack_contact.specs.declared.types.Contacts.{Contacts}
use Rattle.stack_contact.specs.declared.types.Contacts.TheVariants.{Free, Touching, AtOne, AtTwo}
use Rattle.stack_contact.specs.Bearings.{Bears}
use Rattle.stack_contact.specs.PairContacts.{AreContacts, IsBearingAt}
use Rattle.stack_contact.specs.Surveyed.{AreSeparated}
use Rattle.stack_rectangle.specs.Rectangles.{IsRectangle, contacts_by_ranges, RangesTellSeparation, RangesTellContacts}
use Rattle.stack_walls.proofs.Sides.{point_at}

once : (a : ℤ) → a ≡ a *ℤ pos 1
once a = simp expand (omega (arith, sums))

-- a whole point is at itself
pub at_itself : (p : Point) → IsAt (point_at p) p
at_itself p = record { x = once p.x; y = once p.y }

-- the point is end e of these contacts, 0 or 1
abbrev pub IsEndOf : Option Contacts → Point → ℕ → Type 0
IsEndOf None p e = ⊥
IsEndOf (Some Free) p e = ⊥
IsEndOf (Some (Touching c)) p e = ⊥
IsEndOf (Some (AtOne c t)) p e = (p ≡ c) × (e ≡ 0)
IsEndOf (Some (AtTwo c d t)) p e = ((p ≡ c) × (e ≡ 0)) ⊎ ((p ≡ d) × (e ≡ 1))

-- some end, the first or the second
abbrev pub HasEnd : Option Contacts → Point → Type 0
HasEnd o p = (e : ℕ) × IsEndOf o p e × (e ≤ 1)

same_point : (p c : Point) → IsAt (point_at p) c → p ≡ c
same_point p c h = λ i. record { x = (h.x ∙ sym (once c.x)) i; y = (h.y ∙ sym (once c.y)) i }

by_contacts : (c : Contacts) (t : Frame) (p : Point) → IsBearingAt c t (point_at p) → HasEnd (Some c) p
by_contacts (AtOne c u) t p h = (0, (same_point p c h.0, refl), omega arith)
by_contacts (AtTwo c d u) t p (inl a, e) = (0, inl (same_point p c a, refl), omega arith)
by_contacts (AtTwo c d u) t p (inr a, e) = (1, inr (same_point p d a, refl), omega arith)
by_contacts Free t p h = absurd h
by_contacts (Touching c) t p h = absurd h

module _ (tells : RangesTellSeparation) (told : RangesTellContacts) (ps qs : List Point) (a : IsRectangle ps)
    (b : IsRectangle qs) (apart : AreSeparated ps qs) where
  pub bears_at_end : (t : Frame) (p : Point) → Bears ps qs t (point_at p) → HasEnd (contacts_by_ranges ps qs) p
  bears_at_end t p h = go (contacts_by_ranges ps qs) (tells ps qs a b) (told ps qs a b)
    where
      go : (o : Option Contacts) → MatchOption o (¬ (AreSeparated ps qs)) (λ c. AreSeparated ps qs)
          → IfSome o (λ c. AreContacts ps qs c) → HasEnd o p
      go None s c = absurd (s apart)
      go (Some o) s c = by_contacts o t p ((c.bearings t (point_at p)).0 h)

not_both : (c d : Point) → IsBefore c d → IsBefore d c → ⊥
not_both c d (inl h) (inl k) = omega (arith, sums, h, k)
not_both c d (inl h) (inr (e, k)) = omega (arith, sums, h, e)
not_both c d (inr (e, h)) (inl k) = omega (arith, sums, e, k)
not_both c d (inr (e, h)) (inr (f, k)) = omega (arith, sums, h, k)

-- the point before another is at an earlier end
pub ends_in_order : (ps qs : List Point) (o : Option Contacts) (p r : Point) (e f : ℕ)
    → IfSome o (λ c. AreContacts ps qs c) → IsEndOf o p e → IsEndOf o r f → IsBefore p r → e < f
ends_in_order ps qs (Some (AtOne c t)) p r e f h (x, m) (y, n) k =
    let q : IsBefore c c = subst (λ p. IsBefore p c) x (subst (IsBefore p) y k) in absurd (not_both c c q q)
ends_in_order ps qs (Some (AtTwo c d t)) p r e f h (inl (x, m)) (inl (y, n)) k =
    let q : IsBefore c c = subst (λ p. IsBefore p c) x (subst (IsBefore p) y k) in absurd (not_both c c q q)
ends_in_order ps qs (Some (AtTwo c d t)) p r e f h (inl (x, m)) (inr (y, n)) k = omega (arith, m, n)
ends_in_order ps qs (Some (AtTwo c d t)) p r e f h (inr (x, m)) (inl (y, n)) k =
    let q : IsBefore d c = subst (λ p. IsBefore p c) x (subst (IsBefore p) y k) in absurd (not_both c d h.in_order q)
ends_in_order ps qs (Some (AtTwo c d t)) p r e f h (inr (x, m)) (inr (y, n)) k =
    let q : IsBefore d d = subst (λ p. IsBefore p d) x (subst (IsBefore p) y k) in absurd (not_both d d q q)
ends_in_order ps qs (Some Free) p r e f h x y k = absurd x
ends_in_order ps qs (Some (Touching c)) p r e f h x y k = absurd x
ends_in_order ps qs None p r e f h x y k = absurd x
