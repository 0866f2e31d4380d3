-- What the sweep has looked at grows body by body.
use Rattle.std.proofs.Common.{◌≡◌, ℕ, zero, suc, ◌+◌, ◌<◌, ◌≤◌, ℤ, List, [], ◌∷◌, ◌++◌, length, Bool, false, ◌⊎◌}
use Rattle.std.proofs.Common.{inl, inr, sym, ap, ◌∙◌, subst, subst₂, arith, ◌&&◌}
use Rattle.std.specs.List.{Contains}
use Rattle.std.proofs.lemmas.List.Elements.{All-push, Contains-push, Contains-append_left}
use native.Mathlib.Decide.{ℕ_discrete}
use Rattle.stack_algebra.specs.IntegerOrder.{◌≼◌, ◌≺◌}
use Rattle.stack_algebra.proofs.Integers.{sums}
use Rattle.stack_polygon.specs.declared.point.Point.{Point}
use Rattle.stack_polygon.specs.declared.point.Span.{Span}
use Rattle.stack_polygon.specs.Limits.{IsPolygon}
use Rattle.stack_polygon.specs.Spans.{IsSpanOf}
use Rattle.stack_overlap.specs.Boxes.{AreDisjoint}
use Rattle.stack_model.specs.Structure.{Structure, body_of}
use Rattle.stack_contact.specs.declared.sweeping.Placed.{Placed}
use Rattle.stack_contact.specs.declared.sweeping.Pair.{Pair}
use Rattle.stack_contact.specs.ContactLists.{corners_of, IsPair, PairBefore}
use Rattle.stack_contact.specs.NearPairs.{placed_at, placed_body, AreFromLeft, AreFar, IsPairOf, pair, IsListed}
use Rattle.stack_contact.specs.NearPairs.{IsSwept, AreSwept, AreNearPairs}
use Rattle.stack_contact.proofs.FoundSteps.{before-next}
use Rattle.stack_contact.proofs.FarBodies.{far-back, far-apart, far-beyond}

module _ (s : Structure) (one other : ℕ) (ps : List Pair) where
  same : IsListed s ps one other → IsListed s ps other one → IsSwept s one other ps ps
  same h k = record { pairs = λ a. a; keeps = λ p c. c; forth = h; back = k }

  pub spans-apart : (P Q : List Point) → P ≡ corners_of s one → Q ≡ corners_of s other → IsPolygon P
      → IsPolygon Q → (a b : Span) → IsSpanOf P a → IsSpanOf Q b → AreDisjoint a b → IsSwept s one other ps ps
  spans-apart P Q e f p q a b h k d = let far = far-apart s one other P Q e f p q a b h k d in
      same (λ p. inl far) (λ p. inl (far-back s one other far))

  pub with-itself : one ≡ other → IsSwept s one other ps ps
  with-itself e = same (λ p. let o = p.in_order in absurd (omega arith))
      (λ p. let o = p.in_order in absurd (omega arith))

  pub added : (p : Pair) → IsPairOf one other p → one < length s.bodies → other < length s.bodies
      → ((body_of s one).fixed && (body_of s other).fixed) ≡ false → IsSwept s one other ps (ps ++ p ∷ [])
  added p h l m f = record {
    pairs = λ a. All-push (λ (p : Pair). IsPair s p.first p.second) ps p a is_pair;
    keeps = λ q c. Contains-append_left ps (p ∷ []) q c;
    forth = λ q. inr (elim h.bodies [
      | inl e ↦ listed one other e.0 e.1
      | inr e ↦ let o = q.in_order in let n = h.in_order in let a = e.0 in let b = e.1 in absurd (omega arith)
    ]);
    back = λ q. inr (elim h.bodies [
      | inl e ↦ let o = q.in_order in let n = h.in_order in let a = e.0 in let b = e.1 in absurd (omega arith)
      | inr e ↦ listed other one e.0 e.1
    ]);
  }
    where
      listed : (i j : ℕ) → p.first ≡ i → p.second ≡ j → Contains (ps ++ p ∷ []) (pair i j)
      listed i j e f = subst (Contains (ps ++ p ∷ [])) (λ n. record { first = e n; second = f n }) (Contains-push ps p)

      other_way : (a b : Bool) → (a && b) ≡ false → (b && a) ≡ false
      other_way a b h = grind arith

      pair_is : (i j : ℕ) → i < j → j < length s.bodies → ((body_of s i).fixed && (body_of s j).fixed) ≡ false
          → p.first ≡ i → p.second ≡ j → IsPair s p.first p.second
      pair_is i j o l f d e = subst₂ (IsPair s) (sym d) (sym e)
          (record { in_order = o; is_body = l; not_both_fixed = f })

      is_pair : IsPair s p.first p.second
      is_pair = elim h.bodies [
        | inl e ↦ let n = h.in_order in let a = e.0 in let b = e.1 in pair_is one other (omega arith) m f a b
        | inr e ↦ let n = h.in_order in let a = e.0 in let b = e.1 in pair_is other one (omega arith) l
            (other_way (body_of s one).fixed (body_of s other).fixed f) a b
      ]

module _ (s : Structure) (bs : List Placed) where
  -- what was swept stays so to another place: the pairs before it were looked at, or their bodies are far
  moved-swept : (k m n o : ℕ) → ((a b : ℕ) → a < b → b < length bs → PairBefore a b n o
      → PairBefore a b k m ⊎ AreFar s (placed_body bs a) (placed_body bs b))
      → (ps : List Pair) → AreSwept s bs k m ps → AreSwept s bs n o ps
  moved-swept k m n o back ps h = record {
    pairs = h.pairs;
    forth = λ a b l o p. elim (back a b l o p) [ inl g ↦ h.forth a b l o g | inr f ↦ λ q. inl f ];
    back = λ a b l o p. elim (back a b l o p) [
      | inl g ↦ h.back a b l o g
      | inr f ↦ λ q. inl (far-back s (placed_body bs a) (placed_body bs b) f)
    ];
  }

  pub next-swept : (k m : ℕ) (ps qs : List Pair) → AreSwept s bs k m ps
      → IsSwept s (placed_body bs k) (placed_body bs m) ps qs → AreSwept s bs k (m + 1) qs
  next-swept k m ps qs h w = subst (λ n. AreSwept s bs k n qs) (one-more m) (record {
    pairs = w.pairs h.pairs;
    forth = λ a b l o p. elim (before-next a b k m p) [
      | inl g ↦ kept (placed_body bs a) (placed_body bs b) (h.forth a b l o g)
      | inr g ↦ subst₂ (λ a b. IsListed s qs (placed_body bs a) (placed_body bs b)) (sym g.0) (sym g.1) w.forth
    ];
    back = λ a b l o p. elim (before-next a b k m p) [
      | inl g ↦ kept (placed_body bs b) (placed_body bs a) (h.back a b l o g)
      | inr g ↦ subst₂ (λ a b. IsListed s qs (placed_body bs b) (placed_body bs a)) (sym g.0) (sym g.1) w.back
    ];
  })
    where
      one-more : (m : ℕ) → suc m ≡ m + 1
      one-more m = omega arith

      kept : (i j : ℕ) → IsListed s ps i j → IsListed s qs i j
      kept i j h p = elim (h p) [ inl f ↦ inl f | inr c ↦ inr (w.keeps (pair i j) c) ]

  -- a pair before the next body's pairs stands before this body's first, or is one of this body's
  in-row : (k a b : ℕ) → a < b → PairBefore a b (suc k) (suc (suc k)) → (a < k) ⊎ (a ≡ k)
  in-row k a b l (inl m) = elim (ℕ_discrete a k) [ yes e ↦ inr e | no n ↦ inl (omega (arith, n)) ]
  in-row k a b l (inr (e, m)) = absurd (omega arith)

  pub row-swept : (k m : ℕ) (ps : List Pair) → length bs ≤ m → AreSwept s bs k m ps
      → AreSwept s bs (suc k) (suc (suc k)) ps
  row-swept k m ps l h = moved-swept k m (suc k) (suc (suc k)) (λ a b o n p. elim (in-row k a b o p) [
    | inl g ↦ inl (inl g)
    | inr e ↦ inl (inr (e, omega arith))
  ]) ps h

  -- the sweep of a body stops at the first one that begins beyond its end
  pub row-stopped : AreFromLeft s bs → (k m : ℕ) → m < length bs → (P : List Point)
      → P ≡ corners_of s (placed_body bs k) → IsPolygon P → (a : Span) → IsSpanOf P a → a.x1 ≺ (placed_at bs m).x0
      → (ps : List Pair) → AreSwept s bs k m ps → AreSwept s bs (suc k) (suc (suc k)) ps
  row-stopped order k m within P e p a h l ps w = moved-swept k m (suc k) (suc (suc k))
      (λ a b o n p. elim (in-row k a b o p) [ inl g ↦ inl (inl g) | inr e ↦ later a b n e (which b m) ]) ps w
    where
      which : (b m : ℕ) → (b < m) ⊎ (m ≤ b)
      which b zero = inr (omega arith)
      which zero (suc m) = inl (omega arith)
      which (suc b) (suc m) = elim (which b m) [ inl l ↦ inl (omega arith) | inr l ↦ inr (omega arith) ]

      past : {x y z : ℤ} → x ≺ y → y ≼ z → x ≺ z
      past l m = omega (arith, sums)

      later : (c b : ℕ) → b < length bs → c ≡ k → (b < m) ⊎ (m ≤ b)
          → PairBefore c b k m ⊎ AreFar s (placed_body bs c) (placed_body bs b)
      later c b n d (inl g) = inl (inr (d, g))
      later c b n d (inr g) =
          let placed = order.each b (record { x0 = _; body = _ }) n in
          inr (subst (λ c. AreFar s (placed_body bs c) (placed_body bs b)) (sym d)
          (far-beyond s (placed_body bs k) (placed_body bs b) P e p a h placed.polygon (placed_at bs b).x0 placed.begins
          (past l (order.rising m b g n))))

  -- past the last body all pairs were looked at
  pub all-swept : AreFromLeft s bs → (k m : ℕ) (ps : List Pair) → length bs ≤ k → AreSwept s bs k m ps
      → AreNearPairs s ps
  all-swept order k m ps l h = record {
    pairs = h.pairs;
    all = λ i j p.
        let o = p.in_order in
        let (a, x) = order.all i (let w = p.is_body in omega arith) in
        let (b, y) = order.all j p.is_body in
        settled i j a b x.0 x.1 y.0 y.1 o (compare a b) p;
  }
    where
      compare : (a b : ℕ) → (a < b) ⊎ ((b < a) ⊎ (a ≡ b))
      compare a b = grind arith

      settled : (i j a b : ℕ) → a < length bs → placed_body bs a ≡ i → b < length bs → placed_body bs b ≡ j → i < j
          → (a < b) ⊎ ((b < a) ⊎ (a ≡ b)) → IsListed s ps i j
      settled i j a b la ea lb eb o (inl g) = subst₂ (IsListed s ps) ea eb
          (h.forth a b g lb (inl (omega arith)))
      settled i j a b la ea lb eb o (inr (inl g)) = subst₂ (IsListed s ps) ea eb
          (h.back b a g la (inl (omega arith)))
      settled i j a b la ea lb eb o (inr (inr g)) =
          let e : i ≡ j = sym ea ∙ ap (placed_body bs) g ∙ eb in absurd (omega arith)
