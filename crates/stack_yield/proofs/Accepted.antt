-- What an accepted greatest factor shows of the numbers of its check: the dead power is made. And powers fit.
use Rattle.std.proofs.Common.{◌≡◌, refl, sym, ◌∙◌, subst, ℕ, ◌+◌, List, [], ◌∷◌, length, Result, Ok, Err, arith}
use Rattle.std.specs.Prelude.{⊤}
use lib.IntN.{ℤ, pos, ◌+ℤ◌, ◌-ℤ◌, ◌*ℤ◌}
use Rattle.std.proofs.lemmas.Int.{ints}
use Rattle.std.proofs.lemmas.List.{length-map}
use Rattle.stack_equilibrium.proofs.Common.{ForcesValue, IsFitting, MotionValue, Surveyed, Whole, Wide, Wrench}
use Rattle.stack_equilibrium.proofs.Common.{block_move_at, frees_of, greatest, loads_on, made, move_of_triple, steps}
use Rattle.stack_equilibrium.proofs.Common.{told_power, whole, written_power, ◌>>=◌}
use Rattle.stack_equilibrium.specs.WrittenPowers.{with_product, with_work}
use Rattle.stack_equilibrium.specs.declared.types.PowerWide.{PowerWide}
use Rattle.stack_equilibrium.specs.declared.types.Question.{Question}
use Rattle.stack_whole.specs.Whole.{Makes}
use Rattle.stack_whole.proofs.Making.{made-is}
use Rattle.stack_equilibrium.specs.declared.velocity.BlockMove.{BlockMove}
use Rattle.stack_equilibrium.specs.declared.types.Question.TheVariants.{Dead, Live}
use Rattle.stack_equilibrium.specs.WrittenPowers.{with_block, summed_power}
use Rattle.stack_equilibrium.proofs.FreeNumbers.{all_before}
use Rattle.stack_checker.specs.declared.types.Check.TheVariants.{Accepted}
use Rattle.stack_checker.specs.declared.types.Part.{Part}
use Rattle.stack_checker.specs.declared.types.Part.TheVariants.{First, Second}
use Rattle.stack_checker.specs.declared.stop.Stop.{Stop}
use Rattle.stack_checker.specs.declared.stop.Stop.TheVariants.{Rejected, TooWide}
use Rattle.stack_checker.specs.declared.stop.PartStop.{PartStop}
use Rattle.stack_checker.specs.declared.powers.Powers.{Powers}
use Rattle.stack_checker.specs.Signs.{has_sign, loaded}
use Rattle.stack_checker.specs.declared.sign.WantedSign.TheVariants.{Positive}
use Rattle.stack_checker.specs.declared.types.Reason.TheVariants as reasons
use Rattle.stack_checker.specs.WrittenTests.{demand, power_or_stop}
use Rattle.stack_checker.specs.WrittenForces.{written_forces}
use Rattle.stack_checker.specs.WrittenMotions.{written_motion, written_powers, written_meeting, written_bound}
use Rattle.stack_checker.specs.WrittenCheck.{in_part, tests_of, answer_at, answer_of, written_check}
use Rattle.stack_judge.specs.Judged.{IsJudged}

-- what a step that went on took
record Went {A B E : Type 0} (r : Result A E) (k : A → Result B E) (y : B) : Type 0 where
  pub value : A
  pub is : r ≡ Ok value
  pub rest : k value ≡ Ok y

went : {A B E : Type 0} (r : Result A E) (k : A → Result B E) (y : B) → r >>= k ≡ Ok y → Went r k y
went (Ok x) k y h = record { value = x; is = refl; rest = h }
went (Err e) k y h = absurd (cc)

accepted_at : (p : Part) (s : Stop) → answer_at p s ≡ Accepted → ⊥
accepted_at p (Rejected reason) h = cc
accepted_at p (TooWide at) h = cc

accepted_ok : (r : Result ⊤ PartStop) → answer_of r ≡ Accepted → r ≡ Ok tt
accepted_ok (Ok x) h = refl
accepted_ok (Err e) h = absurd (accepted_at e.part e.stop h)

part_ok : (p : Part) (r : Result ⊤ Stop) → in_part p r ≡ Ok tt → r ≡ Ok tt
part_ok p (Ok x) h = refl
part_ok p (Err e) h = absurd (cc)

-- a power that was made
pub record IsPower (r : Result ℤ PowerWide) : Type 0 where
  pub value : ℤ
  pub is : r ≡ Ok value

power_ok : (r : Result ℤ PowerWide) (w : Whole) → power_or_stop r ≡ Ok w → IsPower r
power_ok (Ok x) w h = record { value = x; is = refl }
power_ok (Err e) w h = absurd (cc)

dead_of_powers : (s : Surveyed) (y : MotionValue) (p : Powers) → written_powers s y ≡ Ok p →
    IsPower (written_power Dead s y)
unfolding written_powers
dead_of_powers s y p h =
    let one = went (power_or_stop (written_power Live s y)) (λ live. power_or_stop (written_power Dead s y)
    >>= λ dead. Ok (record { live = live; dead = dead })) p h in
    let two = went (power_or_stop (written_power Dead s y)) (λ dead. Ok (record { live = one.value; dead = dead })) p
    one.rest in
    power_ok (written_power Dead s y) two.value two.is

powers_of_bound : (s : Surveyed) (f : ForcesValue) (y : MotionValue) → written_bound s f y ≡ Ok tt →
    IsPower (written_power Dead s y)
unfolding written_bound
powers_of_bound s f y h =
    let one = went (written_motion s y) (λ u. written_powers s y >>= λ powers. demand
    (has_sign Positive powers.live.value) reasons.NoWork
    >>= λ g. written_meeting (whole f.scale) (whole f.factor) powers)
    tt h in
    let two = went (written_powers s y) (λ powers. demand (has_sign Positive powers.live.value) reasons.NoWork
    >>= λ g. written_meeting (whole f.scale) (whole f.factor) powers) tt one.rest in
    dead_of_powers s y two.value two.is

pub dead_is_made : (s : Surveyed) (f : ForcesValue) (y : MotionValue) → written_check s (greatest f y) ≡ Accepted →
    IsPower (written_power Dead s y)
unfolding tests_of
dead_is_made s f y h =
    let one = went (in_part First (written_forces loaded s f)) (λ c. in_part Second (written_bound s f y)) tt
    (accepted_ok (tests_of s (greatest f y)) h) in
    powers_of_bound s f y (part_ok Second (written_bound s f y) one.rest)

pub not_refused : (s : Surveyed) (f : ForcesValue) (y : MotionValue) (r : Result ℤ PowerWide) (e : PowerWide) →
    written_check s (greatest f y) ≡ Accepted → r ≡ written_power Dead s y → r ≡ Err e → ⊥
not_refused s f y r e h is was = let p = dead_is_made s f y h in absurd (no p.value e (sym p.is ∙ sym is ∙ was))
  where
    no : (v : ℤ) (e : PowerWide) → Ok v ≡ Err e → ⊥
    no v e h = cc

-- a number that was made fits
made_by : (z : ℤ) (r : Result Whole Wide) (w : Whole) → Makes z r → r ≡ Ok w → IsFitting w.value
made_by z (Ok x) w m e = let same : x ≡ w = cc in subst (λ (t : Whole). IsFitting t.value) same
    (subst (λ (t : Whole). IsFitting t.value) (sym m.0) m.1)
made_by z (Err x) w m e = absurd (cc)

pub made_fits : (z : ℤ) (w : Whole) → made z ≡ Ok w → IsFitting w.value
made_fits z w h = made_by z (made z) w (made-is z) h

with_product_fits : (a b : Whole) (f : ℤ) (w : Whole) → with_product a b f ≡ Ok w → IsFitting w.value
unfolding with_product
with_product_fits a b f w h =
    let one = went (made (b.value *ℤ f)) (λ work. made (a.value +ℤ work.value)) w h in
    made_fits (a.value +ℤ one.value.value) w one.rest

with_work_fits : (a : Whole) (y : BlockMove) (f : Wrench) (w : Whole) → with_work a y f ≡ Ok w → IsFitting w.value
unfolding with_work
with_work_fits a y f w h =
    let one = went (with_product a y.u f.fx) (λ x. with_product x y.v f.fy >>= λ z. with_product z y.r f.m) w h in
    let two = went (with_product one.value y.v f.fy) (λ z. with_product z y.r f.m) w one.rest in
    with_product_fits two.value y.r f.m w two.rest

steps_fit : {X : Type 0} (f : ℕ → Whole → X → Result Whole Wide) →
    ((k : ℕ) (a : Whole) (x : X) (w : Whole) → f k a x ≡ Ok w → IsFitting w.value) → (k : ℕ) (a : Whole) (xs : List X)
    (w : Whole) → IsFitting a.value → steps f k a xs ≡ Ok w → IsFitting w.value
steps_fit f each k a [] w h e = let same : a ≡ w = cc in subst (λ (t : Whole). IsFitting t.value) same h
steps_fit f each k a (x ∷ xs) w h e = let one = went (f k a x) (λ b. steps f (k + 1) b xs) w e in
    steps_fit f each (k + 1) one.value xs w (each k a x one.value one.is) one.rest

pub power_fits : (q : Question) (s : Surveyed) (y : MotionValue) (p : ℤ) → written_power q s y ≡ Ok p → IsFitting p
power_fits q s y p h = go (summed_power q s y) refl h
  where
    go : (r : Result Whole Wide) → summed_power q s y ≡ r → told_power r ≡ Ok p → IsFitting p
    go (Ok w) e h = let same : w.value ≡ p = cc in subst IsFitting same
        (steps_fit (with_block q s y) (λ b a i w. with_work_fits a (block_move_at y b) (loads_on q s.structure i) w) 0
        (whole (pos 0)) (frees_of s.structure.bodies) w (omega arith) e)
    go (Err x) e h = absurd (cc)

pub less_fits : (d : ℤ) (r : Result Whole Wide) (e : Wide) → IsFitting d → r ≡ made (pos 0 -ℤ d) → r ≡ Err e → ⊥
less_fits d r e h is was = go (made (pos 0 -ℤ d)) (made-is (pos 0 -ℤ d)) (sym is ∙ was)
  where
    go : (t : Result Whole Wide) → Makes (pos 0 -ℤ d) t → t ≡ Err e → ⊥
    go (Ok w) m q = absurd (cc)
    go (Err x) m q = omega (arith, ints, h, m)

-- a motion has as many moves as free blocks
pub moves_counted : (v : Surveyed) (f : ForcesValue) (y : MotionValue) → IsJudged Live v (greatest f y) →
    length y ≡ length (frees_of v.structure.bodies)
moves_counted v f y h = sym (length-map y move_of_triple) ∙ h.holds.motion.count ∙ all_before v
