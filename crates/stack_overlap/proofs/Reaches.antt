-- The first and the last corner on a line, as the code finds and cuts them.
use Rattle.std.proofs.Common.{below_more, MatchOption, None, Some, inl, inr, arith}
use mathlib.Core.Path.{◌≡◌, sym, ap, ◌∙◌, subst}
use Prim.Native.Nat.{ℕ, ◌<◌, ◌+◌}
use lib.IntN.{ℤ, pos}
use Rattle.stack_algebra.proofs.Integers.{sums}
use Rattle.stack_algebra.proofs.Order.{◌≼◌}
use Rattle.std.specs.declared.option.Option.{Option}
use Rattle.stack_polygon.specs.declared.point.Point.{Point}
use Rattle.stack_overlap.specs.declared.marks.Mark.{Mark}
use Rattle.stack_overlap.specs.declared.marks.Stretch.{Stretch}
use mathlib.Core.List.{List}
use lib.ListN.{length}
use Rattle.stack_polygon.specs.Corners.{corner_of}
use Rattle.stack_overlap.specs.Forms.{at_corner, line, along, square}
use Rattle.stack_overlap.specs.CommonPoints.{IsCornerOf}
use Rattle.stack_overlap.specs.Marks.{IsMarked, IsStretch, NoneOnLine, IsLower, IsHigher, IsWider, IsClipped}
use Rattle.stack_overlap.proofs.Identities.{line-start, line-end, along-start, along-end}

-- what is known of the corners below n
abbrev pub IsReached : Point → Point → List Point → ℕ → Option Stretch → Type 0
IsReached a b Q n best = MatchOption best (NoneOnLine a b Q n) (λ r. IsStretch a b Q n r)

-- the bounds at corner j
abbrev IsBound : Point → Point → List Point → Stretch → ℕ → Type 0
IsBound a b Q r j = at_corner (line a b) (corner_of Q j) ≡ pos 0
    → (r.low.place ≼ at_corner (along a b) (corner_of Q j)) × (at_corner (along a b) (corner_of Q j) ≼ r.high.place)

-- a corner that isn't on the line
pub reached-past : (a b : Point) (Q : List Point) (n : ℕ) (best : Option Stretch)
    → ¬ (at_corner (line a b) (corner_of Q n) ≡ pos 0) → IsReached a b Q n best → IsReached a b Q (n + 1) best
reached-past a b Q n None d h = below_more (λ j. ¬ (at_corner (line a b) (corner_of Q j) ≡ pos 0)) n h d
reached-past a b Q n (Some r) d h =
    record {
      low = h.low;
      high = h.high;
      low_corner = h.low_corner;
      high_corner = h.high_corner;
      bounds = below_more (IsBound a b Q r) n h.bounds (λ e. absurd (d e));
    }

-- a corner on the line
pub reached-more : (a b : Point) (Q : List Point) (n : ℕ) (best : Option Stretch) (m : Mark) (s : Stretch)
    → n < length Q → m.at ≡ corner_of Q n → IsMarked a b m →
    MatchOption best ((s.low ≡ m) × (s.high ≡ m)) (λ r. IsWider r m s) → IsReached a b Q n best
    → IsStretch a b Q (n + 1) s
reached-more a b Q n None m s hn e k w h = record {
  low = subst (IsMarked a b) (sym w.0) k;
  high = subst (IsMarked a b) (sym w.1) k;
  low_corner = (n, (hn, sym e ∙ ap (λ (x : Mark). x.at) (sym w.0)));
  high_corner = (n, (hn, sym e ∙ ap (λ (x : Mark). x.at) (sym w.1)));
  bounds = below_more (IsBound a b Q s) n (λ j hj z. absurd (h j hj z)) (λ z.
      let p = ap (λ c. at_corner (along a b) c) (sym e) ∙ k.place in
      (low (ap (λ (x : Mark). x.place) w.0) p, high (ap (λ (x : Mark). x.place) w.1) p));
}
  where
    low : {x y z : ℤ} → x ≡ y → z ≡ y → x ≼ z
    low e f = omega (arith, sums)

    high : {x y z : ℤ} → x ≡ y → z ≡ y → z ≼ x
    high e f = omega (arith, sums)
reached-more a b Q n (Some r) m s hn e k w h = record {
  low = elim w.low.one [ inl f ↦ subst (IsMarked a b) (sym f) h.low | inr f ↦ subst (IsMarked a b) (sym f) k ];
  high = elim w.high.one [
    | inl f ↦ subst (IsMarked a b) (sym f) h.high
    | inr f ↦ subst (IsMarked a b)
        (sym f) k
  ];
  low_corner = elim w.low.one [
    | inl f ↦ subst (λ (x : Mark). IsCornerOf Q x.at) (sym f) h.low_corner
    | inr f ↦
        (n, (hn, sym e ∙ ap (λ (x : Mark). x.at) (sym f)))
  ];
  high_corner = elim w.high.one [
    | inl f ↦ subst (λ (x : Mark). IsCornerOf Q x.at)
        (sym f) h.high_corner
    | inr f ↦ (n, (hn, sym e ∙ ap (λ (x : Mark). x.at) (sym f)))
  ];
  bounds = below_more (IsBound a b Q s) n (λ j hj z. let o = h.bounds j hj z in
      (lower w.low.first o.0, lower o.1 w.high.first))
      (λ z. let p = ap (λ c. at_corner (along a b) c) (sym e)
      ∙ k.place in (below w.low.second p, above w.high.second p));
}
  where
    lower : {x y z : ℤ} → x ≼ y → y ≼ z → x ≼ z
    lower e f = omega (arith, sums)

    below : {x y z : ℤ} → x ≼ y → z ≡ y → x ≼ z
    below e f = omega (arith, sums)

    above : {x y z : ℤ} → y ≼ x → z ≡ y → z ≼ x
    above e f = omega (arith, sums)

-- the later of two beginnings and the earlier of two ends
pub clip : (a b : Point) (r s : Stretch) (m n : Mark) → IsHigher r.low m s.low → IsLower r.high n s.high
    → m.place ≡ pos 0 → m.at ≡ a → n.place ≡ square a b → n.at ≡ b →
    IsMarked a b r.low → IsMarked a b r.high → IsClipped a b r s
clip a b r s m n h l em ea en eb kl kh = record {
  cut = record {
    from_low = h.first;
    from_start = subst (λ z. z ≼ s.low.place) em h.second;
    to_high = l.first;
    to_end = subst (λ z. s.high.place ≼ z) en l.second;
    from_one = elim h.one [
      | inl e ↦ inl (ap (λ (x : Mark). x.place) e)
      | inr e ↦ inr
          (ap (λ (x : Mark). x.place) e ∙ em)
    ];
    to_one = elim l.one [
      | inl e ↦ inl (ap (λ (x : Mark). x.place) e)
      | inr e ↦ inr
          (ap (λ (x : Mark). x.place) e ∙ en)
    ];
  };
  from = elim h.one [ inl e ↦ subst (IsMarked a b) (sym e) kl | inr e ↦ subst (IsMarked a b) (sym e) start ];
  to = elim l.one [ inl e ↦ subst (IsMarked a b) (sym e) kh | inr e ↦ subst (IsMarked a b) (sym e) end ];
}
  where
    start : IsMarked a b m
    start = record {
      on_line = ap (λ c. at_corner (line a b) c) ea
          ∙ line-start a b;
      place = ap (λ c. at_corner (along a b) c) ea ∙ along-start a b ∙ sym em;
    }

    end : IsMarked a b n
    end = record {
      on_line = ap (λ c. at_corner (line a b) c) eb ∙ line-end a b;
      place = ap (λ c. at_corner (along a b) c) eb
          ∙ along-end a b ∙ sym en;
    }
