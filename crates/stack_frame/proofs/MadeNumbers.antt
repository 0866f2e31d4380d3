-- What the numbers of a test against a cone show.
use Rattle.std.proofs.Common.{arith, Bool, false, int_le, int_lt, IsTrue, IfOk, IsErr, ◌↔◌, Result, Ok, Err}
use mathlib.Core.Path.{◌≡◌, refl, sym, ap, subst, ◌∙◌}
use mathlib.Core.Logic.{◌⊎◌, inl, inr}
use Prim.Native.Nat.{zero, suc, ◌≤◌, ◌^◌}
use lib.IntN.{ℤ, pos, negsuc, ◌*ℤ◌, nat_abs}
use Rattle.std.proofs.lemmas.Int.{ints}
use Rattle.stack_algebra.specs.IntegerOrder.{◌≼◌, abs}
use Rattle.stack_algebra.specs.Steps.{◌>>=◌}
use Rattle.stack_whole.specs.declared.whole.Wide.{Wide}
use Rattle.stack_whole.specs.declared.whole.Whole.{Whole}
use Rattle.stack_whole.specs.Whole.{IsFitting, IsTooWide, Makes, made}
use Rattle.stack_whole.proofs.Making.{made-is}
use Rattle.stack_frame.specs.declared.cone.Cone.{Cone}
use Rattle.stack_frame.specs.Admitted.{IsAdmitted, IsTestTooWide, SizeIsTooWideWithItsProduct, written_test}

-- the test of the numbers
test-is : (c : Cone) (a b u v : ℤ) → pos 0 ≼ a → u ≡ c.q *ℤ abs b → v ≡ c.p *ℤ a →
    IsTrue (int_le u v) ↔ IsAdmitted c a b
test-is c a b u v h left right =
    (λ t. record { pushes = h; within = along (is u v t) }, λ k. test u v (back k.within))
  where
    is : (x y : ℤ) → IsTrue (int_le x y) → x ≼ y
    is x y t = grind (arith, ints)

    test : (x y : ℤ) → x ≼ y → IsTrue (int_le x y)
    test x y h = grind (arith, ints)

    equal : (x y x' y' : ℤ) → x ≡ x' → y ≡ y' → x ≼ y → x' ≼ y'
    equal x y x' y' e f h = omega (arith, ints)

    along : u ≼ v → c.q *ℤ abs b ≼ c.p *ℤ a
    along h = equal u v (c.q *ℤ abs b) (c.p *ℤ a) left right h

    back : c.q *ℤ abs b ≼ c.p *ℤ a → u ≼ v
    back h = equal (c.q *ℤ abs b) (c.p *ℤ a) u v (sym left) (sym right) h

-- a number that fits isn't too wide
not-both : (x y : ℤ) → x ≡ y → IsFitting x → ¬ (IsTooWide y)
not-both x y e h k = let m = ap nat_abs e in omega (arith, m)

-- what an answer says of the force
pub record Decides (c : Cone) (a b : ℤ) (r : Result Bool Wide) : Type 0 where
  pub admits : IfOk r (λ holds. IsTrue holds ↔ IsAdmitted c a b)
  pub wide : IsErr r ↔ IsTestTooWide c a b

module _ (c : Cone) (a b : ℤ) (push : pos 0 ≼ a) where
  too_wide : IsTooWide (c.p *ℤ a) ⊎ (IsTooWide (abs b) ⊎ IsTooWide (c.q *ℤ abs b)) → (e : Wide) → Decides c a b (Err e)
  too_wide p e = record { admits = tt; wide = (λ t. record { pushes = push; is_too_wide = p }, λ w. refl) }

  third : (most tangential : Whole) → (most.value ≡ c.p *ℤ a) × IsFitting (c.p *ℤ a) →
      (tangential.value ≡ abs b) × IsFitting (abs b) → (m : Result Whole Wide) → Makes (c.q *ℤ tangential.value) m →
      Decides c a b (m >>= λ least. Ok (int_le least.value most.value))
  third most tangential f s (Ok least) t = record {
    admits = test-is c a b least.value most.value push (value t.0 ∙ ap (λ z. c.q *ℤ z) s.0) f.0;
    wide = (λ e. absurd cc, λ w. absurd (go w.is_too_wide));
  }
    where
      value : {z : ℤ} → least ≡ record { value = z } → least.value ≡ z
      value e = ap (λ (w : Whole). w.value) e

      go : IsTooWide (c.p *ℤ a) ⊎ (IsTooWide (abs b) ⊎ IsTooWide (c.q *ℤ abs b)) → ⊥
      go (inl h) = not-both (c.p *ℤ a) (c.p *ℤ a) refl f.1 h
      go (inr (inl h)) = not-both (abs b) (abs b) refl s.1 h
      go (inr (inr h)) = not-both (c.q *ℤ tangential.value) (c.q *ℤ abs b) (ap (λ z. c.q *ℤ z) s.0) t.1 h
  third most tangential f s (Err e) p = too_wide (inr (inr (subst (λ z. IsTooWide (c.q *ℤ z)) s.0 p))) e

  second : (most : Whole) → (most.value ≡ c.p *ℤ a) × IsFitting (c.p *ℤ a) → (m : Result Whole Wide) →
      Makes (abs b) m →
      Decides c a b (m >>= λ tangential. (made (c.q *ℤ tangential.value) >>= λ least.
      Ok (int_le least.value most.value)))
  second most f (Ok tangential) t = third most tangential f (ap (λ (w : Whole). w.value) t.0, t.1)
      (made (c.q *ℤ tangential.value)) (made-is (c.q *ℤ tangential.value))
  second most f (Err e) p = too_wide (inr (inl p)) e

  first : (m : Result Whole Wide) → Makes (c.p *ℤ a) m →
      Decides c a b (m >>= λ most. (made (abs b) >>= λ tangential. (made (c.q *ℤ tangential.value) >>= λ least.
      Ok (int_le least.value most.value))))
  first (Ok most) t = second most (ap (λ (w : Whole). w.value) t.0, t.1) (made (abs b)) (made-is (abs b))
  first (Err e) p = too_wide (inl p) e

  test_decides : Decides c a b (written_test c a b)
  unfolding written_test
  test_decides = first (made (c.p *ℤ a)) (made-is (c.p *ℤ a))

-- the answer of the test, where a is read as n
pub decided : (c : Cone) (a b n : ℤ) (r : Result Bool Wide) → n ≡ a → int_lt n (pos 0) ≡ false → r
    ≡ written_test c a b →
    Decides c a b r
decided c a b n r e f is = subst (Decides c a b) (sym is)
    (test_decides c a b (above a (ap (λ z. int_lt z (pos 0)) (sym e) ∙ f)))
  where
    above : (a : ℤ) → int_lt a (pos 0) ≡ false → pos 0 ≼ a
    above a e = grind (arith, ints)

pub size-too_wide : SizeIsTooWideWithItsProduct
size-too_wide c a b h w = go w.is_too_wide
  where
    more : (n z : ℤ) → pos 1 ≼ n → 2 ^ 127 ≤ nat_abs z → 2 ^ 127 ≤ nat_abs (n *ℤ z)
    more (pos zero) z h k = absurd (omega (arith, ints))
    more (pos (suc n)) (pos m) h k = grind arith
    more (pos (suc n)) (negsuc m) h k = omega (arith, ints)
    more (negsuc n) z h k = absurd (omega (arith, ints))

    go : IsTooWide (c.p *ℤ a) ⊎ (IsTooWide (abs b) ⊎ IsTooWide (c.q *ℤ abs b)) → IsTooWide (c.p *ℤ a)
        ⊎ IsTooWide (c.q *ℤ abs b)
    go (inl p) = inl p
    go (inr (inl p)) = inr (more c.q (abs b) h.q_least p)
    go (inr (inr p)) = inr p

-- what is left of the test once p times a is made, and once the size of b is made too
abbrev sized : Cone → ℤ → Whole → Result Bool Wide
sized c b most = made (abs b) >>= λ tangential. (made (c.q *ℤ tangential.value) >>= λ least.
    Ok (int_le least.value most.value))

abbrev compared : Cone → Whole → Whole → Result Bool Wide
compared c most tangential = made (c.q *ℤ tangential.value) >>= λ least. Ok (int_le least.value most.value)

-- the errors are one
the_wide : (r : Result Bool Wide) (e : Wide) → IsErr r → r ≡ Err e
the_wide (Ok x) e h = absurd cc
the_wide (Err w) e h = refl

-- a run of the test, up to the number that is too wide or to the end
module _ (c : Cone) (a b : ℤ) (r : Result Bool Wide) where
  pub first_wide : (e : Wide) → made (c.p *ℤ a) ≡ Err e → IsErr r → r ≡ written_test c a b
  unfolding written_test
  first_wide e h is = the_wide r e is ∙ sym (ap (λ m. m >>= sized c b) h)

  pub second_wide : (most : Whole) (e : Wide) → made (c.p *ℤ a) ≡ Ok most → made (abs b) ≡ Err e → IsErr r →
      r ≡ written_test c a b
  unfolding written_test
  second_wide most e h g is =
      the_wide r e is ∙ sym (ap (λ m. m >>= sized c b) h ∙ ap (λ m. m >>= compared c most) g)

  pub third_runs : (most tangential : Whole) → made (c.p *ℤ a) ≡ Ok most → made (abs b) ≡ Ok tangential →
      r ≡ compared c most tangential → r ≡ written_test c a b
  unfolding written_test
  third_runs most tangential h g k =
      k ∙ sym (ap (λ m. m >>= sized c b) h ∙ ap (λ m. m >>= compared c most) g)

  pub third_wide : (most tangential : Whole) (e : Wide) → made (c.p *ℤ a) ≡ Ok most → made (abs b) ≡ Ok tangential →
      made (c.q *ℤ tangential.value) ≡ Err e → IsErr r → r ≡ written_test c a b
  third_wide most tangential e h g f is = third_runs most tangential h g
      (the_wide r e is ∙ sym (ap (λ m. m >>= λ least. Ok (int_le least.value most.value)) f))

-- a test of made numbers, which are read as m and l
pub went_through : (c : Cone) (a b : ℤ) (most tangential least : Whole) (m l : ℤ) → m ≡ most.value → l ≡ least.value →
    made (c.p *ℤ a) ≡ Ok most → made (abs b) ≡ Ok tangential → made (c.q *ℤ tangential.value) ≡ Ok least →
    Ok (int_le l m) ≡ written_test c a b
went_through c a b most tangential least m l em el h g f = third_runs c a b (Ok (int_le l m)) most tangential h g
    ((λ i. Ok (int_le (el i) (em i)))
    ∙ sym (ap (λ m. m >>= λ least. Ok (int_le least.value most.value)) f))
