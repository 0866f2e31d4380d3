-- The written test of a cone, by the answer of the cone.
use Rattle.std.proofs.Common.{◌≡◌, refl, sym, ap, ◌∙◌, ℕ, Bool, true, false, arith}
use lib.IntN.{ℤ, pos, ◌*ℤ◌}
use Rattle.std.specs.Prelude.{int_le, int_lt, Result, Ok, Err, ⊤, if◌then◌else◌}
use Rattle.std.proofs.lemmas.Int.{ints}
use Rattle.stack_equilibrium.proofs.Common.{Cone, Whole, Wide, abs, made, whole, ◌>>=◌}
use Rattle.stack_equilibrium.specs.declared.block.Push.{Push}
use Rattle.stack_frame.specs.Admitted.{written_test, written_admission}
use Rattle.stack_checker.specs.declared.types.Reason.{Reason}
use Rattle.stack_checker.specs.declared.types.Reason.TheVariants as reasons
use Rattle.stack_checker.specs.declared.types.CheckAt.TheVariants as places
use Rattle.stack_checker.specs.declared.stop.Stop.{Stop}
use Rattle.stack_checker.specs.declared.stop.Stop.TheVariants.{Rejected, TooWide}
use Rattle.stack_checker.specs.WrittenTests.{demand, made_at}
use Rattle.stack_checker.specs.WrittenForces.{written_cone}

-- what the cone's answer tells of bearing k
abbrev pub told : ℕ → Result Bool Wide → Result ⊤ Stop
told k (Ok within) = demand within (reasons.Cone k)
told k (Err e) = Err (TooWide (places.Cone k))

-- a number of the cone's test, and of the check
told-made : (k : ℕ) (m : Result Whole Wide) (f : Whole → Result Bool Wide) →
    told k (m >>= f) ≡ made_at m (places.Cone k) >>= λ w. told k (f w)
told-made k (Ok w) f = refl
told-made k (Err e) f = refl

-- what a test shows that was passed, or wasn't
pub passed : (t : Bool) (reason : Reason) (r : Result ⊤ Stop) → r ≡ demand t reason → r ≡ Ok tt → t ≡ true
passed true reason r is e = refl
passed false reason r is e = let h = sym e ∙ is in absurd cc

pub refused : (t : Bool) (reason : Reason) (stop : Stop) (r : Result ⊤ Stop) → r ≡ demand t reason → r ≡ Err stop →
    (t ≡ false) × (stop ≡ Rejected reason)
refused true reason stop r is e = let h = sym e ∙ is in absurd cc
refused false reason stop r is e = (refl, let h = sym e ∙ is in cc)

module _ (k : ℕ) (c : Cone) (f : Push) where
  told-test : told k (written_test c f.a.value f.b.value)
      ≡ (made_at (made (c.p *ℤ f.a.value)) (places.Cone k) >>= λ most.
      (made_at (made (abs f.b.value)) (places.Cone k) >>= λ tangential.
      (made_at (made (c.q *ℤ tangential.value)) (places.Cone k) >>= λ least.
      demand (int_le least.value most.value) (reasons.Cone k))))
  unfolding written_test
  told-test = told-made k (made (c.p *ℤ f.a.value)) _
      ∙ (λ i. made_at (made (c.p *ℤ f.a.value)) (places.Cone k) >>= λ most. inner most i)
    where
      inner : (most : Whole) → told k (made (abs f.b.value) >>= λ tangential.
          (made (c.q *ℤ tangential.value) >>= λ least.
          Ok (int_le least.value most.value)))
          ≡ (made_at (made (abs f.b.value)) (places.Cone k) >>= λ tangential.
          (made_at (made (c.q *ℤ tangential.value)) (places.Cone k) >>= λ least.
          demand (int_le least.value most.value) (reasons.Cone k)))
      inner most = told-made k (made (abs f.b.value)) _
          ∙ (λ i. made_at (made (abs f.b.value)) (places.Cone k) >>= λ tangential.
          told-made k (made (c.q *ℤ tangential.value)) (λ least. Ok (int_le least.value most.value)) i)

  -- a bearing that pulls is rejected, and any other has the answer of its cone
  pub cone_pulls : int_le (pos 0) f.a.value ≡ false → Err (Rejected (reasons.Push k))
      ≡ written_cone k (whole c.p) (whole c.q) f
  unfolding written_cone
  cone_pulls e = rw e refl

  pub cone_told : (r : Result Bool Wide) → int_le (pos 0) f.a.value ≡ true → r
      ≡ written_admission c f.a.value f.b.value →
      told k r ≡ written_cone k (whole c.p) (whole c.q) f
  unfolding written_cone
  cone_told r e is = ap (told k) is
      ∙ ap (λ t. told k (if t then Ok false else written_test c f.a.value f.b.value)) (not_below f.a.value e)
      ∙ told-test ∙ ap (λ t. demand t (reasons.Push k) >>= λ pushes. body) (sym e)
    where
      not_below : (a : ℤ) → int_le (pos 0) a ≡ true → int_lt a (pos 0) ≡ false
      not_below a e = grind (arith, ints)

      body : Result ⊤ Stop
      body = made_at (made (c.p *ℤ f.a.value)) (places.Cone k) >>= λ most.
          (made_at (made (abs f.b.value)) (places.Cone k) >>= λ tangential.
          (made_at (made (c.q *ℤ tangential.value)) (places.Cone k) >>= λ least.
          demand (int_le least.value most.value) (reasons.Cone k)))
