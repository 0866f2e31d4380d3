-- The numbers of the free blocks: how many come before a body, and sums over them.
use Rattle.std.proofs.Common.{◌≡◌, refl, sym, ap, ◌∙◌, ℕ, zero, suc, ◌+◌, ℤ, pos, ◌+ℤ◌, Bool, true, false}
use Rattle.std.proofs.Common.{cond, not, List, [], ◌∷◌, length, get_or, arith}
use Rattle.std.specs.Bool.{if◌then◌else◌}
use Rattle.stack_algebra.specs.Sums.{sum_to}
use Rattle.stack_algebra.proofs.Integers.{sums}
use Rattle.stack_algebra.proofs.IntegerRing.{integers}
use Rattle.stack_algebra.proofs.Sums.{sum_same, sum-first}
use Rattle.stack_model.specs.Structure.{NamedBody, body_at}
use Rattle.stack_contact.specs.FreeBlocks.{frees_from, frees_of, frees_before}
use Rattle.stack_contact.specs.Surveyed.{Surveyed}
use Rattle.stack_contact.proofs.Frees as contact
use Rattle.stack_contact.proofs.Frees.{counted, counted_all}
use Rattle.stack_statics.specs.Certificates.{free_before}
use Rattle.stack_equilibrium.specs.SurveyScene.{scene_of}

-- before a body of a survey are as many free ones as its structure lists before it
pub before_is : (s : Surveyed) (i : ℕ) → free_before (scene_of s) i ≡ frees_before s.structure.bodies i
before_is s zero = refl
before_is s (suc i) = ap (λ n. n + cond (not (body_at s.structure.bodies i).fixed) 1 0) (before_is s i)

pub before_is_counted : (s : Surveyed) (i : ℕ) → free_before (scene_of s) i ≡ counted s.structure.bodies i
before_is_counted s i = before_is s i ∙ contact.before_is_counted s.structure.bodies i

pub all_before : (s : Surveyed) → free_before (scene_of s) (length s.structure.bodies)
    ≡ length (frees_of s.structure.bodies)
all_before s = before_is_counted s (length s.structure.bodies) ∙ counted_all s.structure.bodies 0

-- a number of each free block, by its number among them and its body's, summed over all bodies
pub over_bodies : (g : ℕ → ℕ → ℤ) (bs : List NamedBody) (k : ℕ) →
    sum_to (length (frees_from k bs)) (λ b. g b (get_or (frees_from k bs) b 0))
    ≡ sum_to (length bs) (λ i. cond (not (body_at bs i).fixed) (g (counted bs i) (k + i)) (pos 0))
over_bodies g [] k = refl
over_bodies g (b ∷ bs) k =
    go b.fixed (over_bodies g bs (k + 1)) (over_bodies (λ n i. g (suc n) i) bs (k + 1))
    ∙ sym (sum-first integers (length bs)
    (λ i. cond (not (body_at (b ∷ bs) i).fixed) (g (counted (b ∷ bs) i) (k + i)) (pos 0)))
  where
    next : (i : ℕ) → k + 1 + i ≡ k + suc i
    next i = omega arith

    none : (x : ℤ) → x ≡ pos 0 +ℤ x
    none x = omega (arith, sums)

    go : (f : Bool) →
        sum_to (length (frees_from (k + 1) bs)) (λ n. g n (get_or (frees_from (k + 1) bs) n 0))
        ≡ sum_to (length bs) (λ i. cond (not (body_at bs i).fixed) (g (counted bs i) (k + 1 + i)) (pos 0)) →
        sum_to (length (frees_from (k + 1) bs)) (λ n. g (suc n) (get_or (frees_from (k + 1) bs) n 0))
        ≡ sum_to (length bs)
        (λ i. cond (not (body_at bs i).fixed) (g (suc (counted bs i)) (k + 1 + i)) (pos 0)) →
        (let all : List ℕ = if f then frees_from (k + 1) bs else k ∷ frees_from (k + 1) bs in
        sum_to (length all) (λ n. g n (get_or all n 0)))
        ≡ cond (not f) (g 0 (k + 0)) (pos 0) +ℤ sum_to (length bs)
        (λ i. cond (not (body_at bs i).fixed) (g (cond (not f) 1 0 + counted bs i) (k + suc i)) (pos 0))
    go true one more = one
        ∙ sum_same integers (length bs) _ _
        (λ i l j. cond (not (body_at bs i).fixed) (g (zero_more (counted bs i) j) (next i j)) (pos 0))
        ∙ none _
      where
        zero_more : (n : ℕ) → n ≡ 0 + n
        zero_more n = omega arith
    go false one more = sum-first integers (length (frees_from (k + 1) bs))
        (λ n. g n (get_or (k ∷ frees_from (k + 1) bs) n 0))
        ∙ (λ j. g 0 (here j) +ℤ more j)
        ∙ ap (λ t. g 0 (k + 0) +ℤ t) (sum_same integers (length bs) _ _
        (λ i l j. cond (not (body_at bs i).fixed) (g (one_more (counted bs i) j) (next i j)) (pos 0)))
      where
        here : k ≡ k + 0
        here = omega arith

        one_more : (n : ℕ) → suc n ≡ 1 + n
        one_more n = omega arith
