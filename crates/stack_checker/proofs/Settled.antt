-- What tests in a written order settle of a claim: it holds where they all pass, and it doesn't hold where
-- one of them rejects. Reasons and places name what the survey has.
use Rattle.std.proofs.Common.{◌≡◌, refl, ℕ, zero, suc, ◌+◌, ◌<◌, ℤ, Bool, true, false, List, []}
use Rattle.std.proofs.Common.{◌∷◌, length, get_or, Result, Ok, Err, subst, arith}
use Rattle.std.specs.Bool.{⊤, Decides}
use Rattle.stack_equilibrium.proofs.Common.{Surveyed, Whole, Wide, Wrench, frees_of, made, steps, whole, ◌>>=◌}
use Rattle.stack_equilibrium.specs.declared.types.PowerWide.{PowerWide}
use Rattle.stack_equilibrium.specs.declared.velocity.Gap.{Gap}
use Rattle.stack_equilibrium.specs.declared.types.SumWide.{SumWide}
use Rattle.stack_equilibrium.specs.declared.types.VelocityWide.{VelocityWide}
use Rattle.stack_equilibrium.proofs.PlainSums.{made_is}
use Rattle.stack_checker.specs.declared.types.Reason.{Reason}
use Rattle.stack_checker.specs.declared.types.CheckAt.{CheckAt}
use Rattle.stack_checker.specs.declared.stop.Stop.{Stop}
use Rattle.stack_checker.specs.declared.stop.Stop.TheVariants.{Rejected, TooWide}
use Rattle.stack_checker.specs.WrittenTests.{demand, made_at, sums_at, stopped_gap, power_or_stop}
use Rattle.stack_checker.specs.Verdict.{IsReasonOf, IsPlaceOf}

module _ (s : Surveyed) where
  abbrev Settles : Type 0 → Result ⊤ Stop → Type 0
  Settles P (Ok done) = P
  Settles P (Err (Rejected reason)) = (¬ P) × IsReasonOf s reason
  Settles P (Err (TooWide at)) = IsPlaceOf s at

  pub record Settled (P : Type 0) (r : Result ⊤ Stop) : Type 0 where
    pub is : Settles P r

  -- what settles P settles a claim that holds exactly where P does
  pub settled_as : {P Q : Type 0} (r : Result ⊤ Stop) → (P → Q) → (Q → P) → Settled P r → Settled Q r
  settled_as (Ok done) to from h = record { is = to h.is }
  settled_as (Err (Rejected reason)) to from h = record { is = (λ q. h.is.0 (from q), h.is.1) }
  settled_as (Err (TooWide at)) to from h = record { is = h.is }

  pub settled_demand : {P : Type 0} (b : Bool) (reason : Reason) → IsReasonOf s reason → Decides b P →
      Settled P (demand b reason)
  settled_demand true reason names d = record { is = d.0 refl }
  settled_demand false reason names d = record { is = (λ p. let t = d.1 p in absurd (cc), names) }

  -- one test after the other
  pub settled_both : {P Q : Type 0} (r : Result ⊤ Stop) (f : ⊤ → Result ⊤ Stop) → Settled P r →
      (P → Settled Q (f tt)) → Settled (P × Q) (r >>= f)
  settled_both (Ok done) f p q = settled_as (f tt) (λ h. (p.is, h)) (λ h. h.1) (q p.is)
  settled_both (Err (Rejected reason)) f p q = record { is = (λ h. p.is.0 h.0, p.is.1) }
  settled_both (Err (TooWide at)) f p q = record { is = p.is }

  made_before : {P : Type 0} (r : Result Whole Wide) (at : CheckAt) (f : Whole → Result ⊤ Stop) →
      IsPlaceOf s at →
      ((x : Whole) → r ≡ Ok x → Settled P (f x)) → Settled P (made_at r at >>= f)
  made_before (Ok x) at f names h = h x refl
  made_before (Err e) at f names h = record { is = names }

  -- a test after a number that is made
  pub settled_made : {P : Type 0} (z : ℤ) (at : CheckAt) (f : Whole → Result ⊤ Stop) → IsPlaceOf s at →
      ((x : Whole) → x.value ≡ z → Settled P (f x)) → Settled P (made_at (made z) at >>= f)
  settled_made z at f names h = made_before (made z) at f names (λ x e. h x (made_is z x e))

  -- tests after the three sums of free block number b
  pub settled_sums : {P : Type 0} (b : ℕ) (r : Result Wrench SumWide) (f : Wrench → Result ⊤ Stop) →
      b < length (frees_of s.structure.bodies) → ((w : Wrench) → r ≡ Ok w → Settled P (f w)) →
      Settled P (sums_at b r >>= f)
  settled_sums b (Ok w) f names h = h w refl
  settled_sums b (Err e) f names h = record { is = names }

  -- tests after the opening and the slide of bearing k
  pub settled_gap : {P : Type 0} (k : ℕ) (r : Result (ℤ × ℤ) VelocityWide) (f : Gap → Result ⊤ Stop) →
      k < length s.bearings →
      ((x : ℤ × ℤ) → r ≡ Ok x → Settled P (f (record { opening = whole x.0; slide = whole x.1 }))) →
      Settled P (stopped_gap k r >>= f)
  settled_gap k (Ok x) f names h = h x refl
  settled_gap k (Err e) f names h = record { is = names }

  -- tests after a power
  pub settled_work : {P : Type 0} (r : Result ℤ PowerWide) (f : Whole → Result ⊤ Stop) →
      ((x : ℤ) → r ≡ Ok x → Settled P (f (whole x))) → Settled P (power_or_stop r >>= f)
  settled_work (Ok x) f h = h x refl
  settled_work (Err e) f h = record { is = tt }

  -- the tests of a list, one item after the other
  settled_from : {X : Type 0} (P : ℕ → Type 0) (f : ℕ → ⊤ → X → Result ⊤ Stop) (xs : List X) (d : X) (i : ℕ) →
      ((k : ℕ) → k < length xs → Settled (P k) (f (i + k) tt (get_or xs k d))) →
      Settled ((k : ℕ) → k < length xs → P k) (steps f i tt xs)
  settled_from P f [] d i h = record { is = λ k l. absurd (omega (arith, l)) }
  settled_from P f (x ∷ xs) d i h =
      settled_as (f i tt x >>= λ done. steps f (i + 1) done xs) to from
      (settled_both (f i tt x) (λ done. steps f (i + 1) done xs)
      (subst (λ n. Settled (P 0) (f n tt x)) here (h 0 (omega arith)))
      (λ p. settled_from (λ k. P (suc k)) f xs d (i + 1) rest))
    where
      here : i + 0 ≡ i
      here = omega arith

      next : (k : ℕ) → i + suc k ≡ i + 1 + k
      next k = omega arith

      rest : (k : ℕ) → k < length xs → Settled (P (suc k)) (f (i + 1 + k) tt (get_or xs k d))
      rest k l = subst (λ n. Settled (P (suc k)) (f n tt (get_or xs k d))) (next k) (h (suc k) (omega (
        arith,
        l,
      )))

      to : P 0 × ((k : ℕ) → k < length xs → P (suc k)) → (k : ℕ) → k < length (x ∷ xs) → P k
      to p zero l = p.0
      to p (suc k) l = p.1 k (omega (arith, l))

      from : ((k : ℕ) → k < length (x ∷ xs) → P k) → P 0 × ((k : ℕ) → k < length xs → P (suc k))
      from p = (p 0 (omega arith), λ k l. p (suc k) (omega (arith, l)))

  pub settled_each : {X : Type 0} (P : ℕ → Type 0) (f : ℕ → ⊤ → X → Result ⊤ Stop) (xs : List X) (d : X) →
      ((k : ℕ) → k < length xs → Settled (P k) (f k tt (get_or xs k d))) →
      Settled ((k : ℕ) → k < length xs → P k) (steps f 0 tt xs)
  settled_each P f xs d h = settled_from P f xs d 0
      (λ k l. subst (λ n. Settled (P k) (f n tt (get_or xs k d))) (from_zero k) (h k l))
    where
      from_zero : (k : ℕ) → k ≡ 0 + k
      from_zero k = omega arith
