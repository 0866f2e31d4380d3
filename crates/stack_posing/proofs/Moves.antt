-- Moves by number are a motion, and the work of edges on them opens and slides bearings.
use Rattle.std.proofs.Common.{◌≡◌, refl, sym, ap, subst, ◌∙◌, ℕ, ◌<◌, Bool, true, false, cond, get_or, arith}
use lib.IntN.{ℤ, pos, negsuc, ◌+ℤ◌, ◌*ℤ◌, neg_ℤ}
use Rattle.stack_equilibrium.proofs.Common.{IsProper, Move, Scene, Wrench, abs, expand, free_before, integers}
use Rattle.stack_equilibrium.proofs.Common.{length_listed, listed_item, move_of, opening_of, power_of, slide_of, still}
use Rattle.stack_equilibrium.proofs.Common.{sum_same, sum_to, sums}
use Rattle.stack_algebra.specs.IntegerOrder.{◌≼◌}
use Rattle.stack_statics.specs.Balance.{edge_of_cone}
use Rattle.stack_statics.specs.Motions.{KeepsFixedStill}
use Rattle.stack_statics.proofs.BearingWork.{exerted_power}
use Rattle.stack_posing.specs.FreeBodies.{free_bodies}
use Rattle.stack_posing.specs.Edges.{edge_on}
use Rattle.stack_posing.specs.MovesByNumber.{moves_from, power_by, PowersAreByNumber, UnopposedMovesAreMotions}
use Rattle.stack_posing.proofs.FreeBodies.{before_less, over_free}

at_rest : (x y m : ℤ) → pos 0 ≡ pos 0 *ℤ x +ℤ pos 0 *ℤ y +ℤ pos 0 *ℤ m
at_rest x y m = simp expand (omega (arith, sums))

both_signs : (p a slide : ℤ) → pos 0 ≼ a +ℤ p *ℤ slide → pos 0 ≼ a +ℤ neg_ℤ p *ℤ slide → p *ℤ abs slide ≼ a
both_signs p a (pos n) h k = simp expand (omega (arith, sums, simp expand at k))
both_signs p a (negsuc n) h k = simp expand (omega (arith, sums, simp expand at h))

module _ (s : Scene) (y : ℕ → Move) where
  -- how body i moves
  abbrev motion : ℕ → Move
  motion i = move_of s (moves_from s y) i

  -- a free body's move is that of its number
  own_move : (w : Wrench) (i : ℕ) → i < s.bodies →
      cond (s.body i).free (power_of w (y (free_before s i))) (pos 0) ≡ power_of w (motion i)
  own_move w i l = go (s.body i).free refl
    where
      go : (t : Bool) → (s.body i).free ≡ t → cond t (power_of w (y (free_before s i))) (pos 0)
          ≡ power_of w (cond t (get_or (moves_from s y) (free_before s i) still) still)
      go true e = ap (power_of w)
          (sym (listed_item (free_bodies s) y (free_before s i) still (before_less s s.bodies i l e)))
      go false e = at_rest w.fx w.fy w.m

  powers : (w : ℕ → Wrench) → power_by s y w ≡ sum_to s.bodies (λ i. power_of (w i) (motion i))
  powers w = over_free s s.bodies (λ b i. power_of (w i) (y b))
      ∙ sum_same integers s.bodies _ _ (λ i l. own_move (w i) i l)

  -- fixed bodies are still
  fixed_still : KeepsFixedStill s motion
  fixed_still i l e = record {
    u = ap (λ (m : Move). m.u) here;
    v = ap (λ (m : Move). m.v) here;
    r = ap (λ (m : Move). m.r) here;
  }
    where
      here : motion i ≡ still
      here = ap (λ t. cond t (get_or (moves_from s y) (free_before s i) still) still) e

  -- the work of an edge
  edge_power : IsProper s → (k : ℕ) → k < s.bearings → (plus : Bool) → power_by s y (edge_on s plus k)
      ≡ (edge_of_cone (s.bearing k) plus).a *ℤ opening_of s motion (s.bearing k)
      +ℤ (edge_of_cone (s.bearing k) plus).b *ℤ slide_of s motion (s.bearing k)
  edge_power proper k l plus = powers (edge_on s plus k)
      ∙ exerted_power s motion (s.bearing k) (edge_of_cone (s.bearing k) plus) (proper k l)

pub powers_are_by_number : PowersAreByNumber
powers_are_by_number = powers

pub unopposed_moves_are_motions : UnopposedMovesAreMotions
unopposed_moves_are_motions s y proper h = record {
  count = length_listed (free_bodies s) y;
  unresisted = record {
    still = fixed_still s y;
    opens = λ k l. both_signs (s.bearing k).p ((s.bearing k).q *ℤ opening_of s (motion s y) (s.bearing k))
        (slide_of s (motion s y) (s.bearing k))
        (subst (λ t. pos 0 ≼ t) (edge_power s y proper k l true) (h k l true))
        (subst (λ t. pos 0 ≼ t) (edge_power s y proper k l false) (h k l false));
  };
}
