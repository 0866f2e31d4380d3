-- The written sum of a block is made of its numbers.
use Rattle.std.proofs.Common.{◌≡◌, sym, subst, ℕ, suc, ◌+◌, ℤ, pos, negsuc, ◌+ℤ◌, ◌-ℤ◌, ◌*ℤ◌, neg_ℤ, Bool, true, false}
use Rattle.std.proofs.Common.{cond, List, [], ◌∷◌, ◌++◌, length, get_or, Result, Ok, arith, append_assoc, nat_eq, ◌||◌}
use Rattle.std.proofs.Common.{if◌then◌else◌}
use Rattle.stack_equilibrium.proofs.Common.{Bearing, Whole, Wide, expand, force_x_of, force_y_of, lever_at, made}
use Rattle.stack_equilibrium.proofs.Common.{moment_of, no_bearing, part_of_pair, push_at, scene_bearing_of, steps, sums}
use Rattle.stack_equilibrium.proofs.Common.{whole, ◌>>=◌}
use Rattle.stack_equilibrium.specs.WrittenSums.{written_force_x, written_force_y, written_sum}
use Rattle.stack_equilibrium.specs.declared.block.Push.{Push}
use Rattle.stack_equilibrium.specs.declared.types.Axis.{Axis}
use Rattle.stack_equilibrium.specs.declared.types.Axis.TheVariants.{X, Y, M}
use Rattle.stack_equilibrium.specs.declared.block.Block.{Block}
use Rattle.stack_statics.specs.Scene as scene
use Rattle.stack_equilibrium.specs.WrittenSums.{axis_part}
use Rattle.stack_equilibrium.specs.WrittenSums.{written_moment, written_force, with_bearing, bearing_at}
use Rattle.stack_equilibrium.proofs.SceneSums.{part_is}
use Rattle.stack_sum_numbers.specs.InTurn.{lists_in_turn, EndsIn, IsMadeOf}
use Rattle.stack_sum_numbers.specs.SumNumbers.{part_in, body_of_block, force_on, x_numbers, y_numbers, moment_numbers}
use Rattle.stack_sum_numbers.specs.SumNumbers.{force_numbers, bearing_in, borne_by_first, bearing_numbers, exact_sum}
use Rattle.stack_sum_numbers.specs.SumNumbers.{load_numbers, sum_numbers}
use Rattle.stack_sum_numbers.proofs.Chains.{InOrder, none_more, last_one, then_one, after_all, steps_in_turn, is_made}

turned : (a b tx ty : ℤ) → b *ℤ tx -ℤ a *ℤ ty ≡ a *ℤ neg_ℤ ty +ℤ b *ℤ tx
turned a b tx ty = simp expand (omega (arith, sums))

-- a pair, as it is pushed with
abbrev push_of : ℤ × ℤ → Push
push_of p = record { a = whole p.0; b = whole p.1 }

module _ (block : Block) (z : Bearing) (p : ℤ × ℤ) where
  abbrev at : scene.SceneBearing
  at = scene_bearing_of z

  abbrev part : scene.BearingPart
  part = part_of_pair p

  x_made : InOrder (x_numbers at part) (whole (force_x_of at part))
      (written_force_x (lever_at block.corner z) (push_of p))
  unfolding written_force_x
  x_made = subst (λ t. InOrder ((p.1 *ℤ z.frame.tx) ∷ (p.0 *ℤ z.frame.ty) ∷ t ∷ []) (whole t)
      (written_force_x (lever_at block.corner z) (push_of p))) (turned p.0 p.1 z.frame.tx z.frame.ty)
      (then_one (p.1 *ℤ z.frame.tx) _ _ _ (then_one (p.0 *ℤ z.frame.ty) _ _ _ (last_one _)))

  y_made : InOrder (y_numbers at part) (whole (force_y_of at part))
      (written_force_y (lever_at block.corner z) (push_of p))
  unfolding written_force_y
  y_made = then_one (p.0 *ℤ z.frame.tx) _ _ _ (then_one (p.1 *ℤ z.frame.ty) _ _ _ (last_one _))

  moment_made : InOrder (moment_numbers (body_of_block block) at part)
      (whole (moment_of (body_of_block block) at part)) (written_moment (lever_at block.corner z) (push_of p))
  unfolding written_moment
  moment_made = after_all (x_numbers at part) _ _ (written_force_x (lever_at block.corner z) (push_of p))
      (whole (force_x_of at part)) _ x_made
      (after_all (y_numbers at part) _ _ (written_force_y (lever_at block.corner z) (push_of p))
      (whole (force_y_of at part)) _ y_made
      (then_one ((z.at.x -ℤ block.corner.x) *ℤ force_y_of at part) _ _ _
      (then_one ((z.at.y -ℤ block.corner.y) *ℤ force_x_of at part) _ _ _ (last_one _))))

  force_made : (axis : Axis) → InOrder (force_numbers axis (body_of_block block) at part)
      (whole (force_on axis (body_of_block block) at part))
      (written_force axis (lever_at block.corner z) (push_of p))
  force_made X = x_made
  force_made Y = y_made
  force_made M = moment_made

-- a force is added, subtracted or left out
abbrev sign_of : Bool → Bool → ℤ
sign_of s t = cond s (pos 1) (cond t (negsuc 0) (pos 0))

added : (force : Result Whole Wide) (ns : List ℤ) (v a : ℤ) (s t : Bool) → InOrder ns (whole v) force →
    InOrder (if s || t then ns ++ (a +ℤ sign_of s t *ℤ v) ∷ [] else []) (whole (a +ℤ sign_of s t *ℤ v))
    (if s then (force >>= λ w. made (a +ℤ w.value)) else
    (if t then (force >>= λ w. made (a -ℤ w.value)) else Ok (whole a)))
added force ns v a true t h = subst (λ u. InOrder (ns ++ u ∷ []) (whole u) (force >>= λ w. made (a +ℤ w.value)))
    (plus a v)
    (after_all ns _ (λ w. made (a +ℤ w.value)) force (whole v) _ h (last_one (a +ℤ v)))
  where
    plus : (a v : ℤ) → a +ℤ v ≡ a +ℤ pos 1 *ℤ v
    plus a v = simp expand (omega (arith, sums))
added force ns v a false true h = subst (λ u. InOrder (ns ++ u ∷ []) (whole u) (force >>= λ w. made (a -ℤ w.value)))
    (minus a v)
    (after_all ns _ (λ w. made (a -ℤ w.value)) force (whole v) _ h (last_one (a -ℤ v)))
  where
    minus : (a v : ℤ) → a -ℤ v ≡ a +ℤ negsuc 0 *ℤ v
    minus a v = simp expand (omega (arith, sums))
added force ns v a false false h = subst (λ u. InOrder [] (whole u) (Ok (whole a))) (same a v) (none_more (whole a))
  where
    same : (a v : ℤ) → a ≡ a +ℤ pos 0 *ℤ v
    same a v = simp expand (omega (arith, sums))

module _ (axis : Axis) (block : Block) (bearings : List Bearing) (parts : List (ℤ × ℤ)) where
  abbrev pair : ℕ → ℤ × ℤ
  pair k = get_or parts k (pos 0, pos 0)

  abbrev bearing : ℕ → Bearing
  bearing k = get_or bearings k no_bearing

  abbrev body : scene.SceneBody
  body = body_of_block block

  -- the force of bearing k is made of its numbers
  force_at : (k : ℕ) → InOrder (force_numbers axis body (bearing_in bearings k) (part_in parts k))
      (whole (force_on axis body (bearing_in bearings k) (part_in parts k)))
      (written_force axis (lever_at block.corner (bearing k)) (push_at parts k))
  force_at k = subst (λ f. InOrder (force_numbers axis body (bearing_in bearings k) f)
      (whole (force_on axis body (bearing_in bearings k) f))
      (written_force axis (lever_at block.corner (bearing k)) (push_at parts k))) (sym (part_is parts k))
      (force_made block (bearing k) (pair k) axis)

  abbrev borne : ℕ → ℤ
  borne n = borne_by_first axis block bearings parts n

  -- the sum with bearing k is made of its numbers
  bearing_made : (k : ℕ) → InOrder (bearing_numbers axis block bearings parts k) (whole (borne (suc k)))
      (bearing_at axis block parts k (whole (borne k)) (bearing k))
  unfolding with_bearing
  bearing_made k =
      added (written_force axis (lever_at block.corner (bearing k)) (push_at parts k))
      (force_numbers axis body (bearing_in bearings k) (part_in parts k))
      (force_on axis body (bearing_in bearings k) (part_in parts k)) (borne k)
      (nat_eq block.body (bearing k).second) (nat_eq block.body (bearing k).first) (force_at k)

  -- the sum with all bearings is made of their numbers
  bearings_made : InOrder (lists_in_turn (length bearings) (bearing_numbers axis block bearings parts))
      (whole (borne (length bearings))) (steps (bearing_at axis block parts) 0 (whole (pos 0)) bearings)
  bearings_made = steps_in_turn (bearing_at axis block parts) (bearing_numbers axis block bearings parts) borne 0
      bearings no_bearing (λ k l. subst (λ n. InOrder (bearing_numbers axis block bearings parts k)
      (whole (borne (suc k))) (bearing_at axis block parts n (whole (borne k)) (bearing k))) (from_zero k)
      (bearing_made k))
    where
      from_zero : (k : ℕ) → k ≡ 0 + k
      from_zero k = omega arith

  sum_made : (scale factor : ℤ) → InOrder (sum_numbers axis block scale factor bearings parts)
      (whole (exact_sum axis block bearings parts scale factor))
      (written_sum axis block (whole scale) (whole factor) bearings parts)
  unfolding written_sum
  sum_made scale factor =
      after_all (lists_in_turn (length bearings) (bearing_numbers axis block bearings parts))
      (load_numbers axis block bearings parts scale factor) _
      (steps (bearing_at axis block parts) 0 (whole (pos 0)) bearings) (whole (borne (length bearings)))
      (whole (exact_sum axis block bearings parts scale factor)) bearings_made
      (then_one (scale *ℤ axis_part axis block.dead) _ _ _
      (then_one (borne (length bearings) +ℤ scale *ℤ axis_part axis block.dead) _ _ _
      (then_one (factor *ℤ axis_part axis block.live) _ _ _ (last_one _))))

pub sum_is_made : (axis : Axis) (block : Block) (scale factor : ℤ) (bearings : List Bearing)
    (parts : List (ℤ × ℤ)) → IsMadeOf (sum_numbers axis block scale factor bearings parts)
    (whole (exact_sum axis block bearings parts scale factor))
    (written_sum axis block (whole scale) (whole factor) bearings parts)
sum_is_made axis block scale factor bearings parts = is_made _ _ _
    (sum_made axis block bearings parts scale factor)

pub ends_in_the_sum : (axis : Axis) (block : Block) (scale factor : ℤ) (bearings : List Bearing)
    (parts : List (ℤ × ℤ)) → EndsIn (sum_numbers axis block scale factor bearings parts)
    (exact_sum axis block bearings parts scale factor)
ends_in_the_sum axis block scale factor bearings parts = (
  lists_in_turn (length bearings) (bearing_numbers axis block bearings parts) ++ first,
  sym (append_assoc (lists_in_turn (length bearings) (bearing_numbers axis block bearings parts)) first
      (exact_sum axis block bearings parts scale factor ∷ [])),
)
  where
    first : List ℤ
    first = (scale *ℤ axis_part axis block.dead)
        ∷ (borne_by_first axis block bearings parts (length bearings) +ℤ scale *ℤ axis_part axis block.dead)
        ∷ (factor *ℤ axis_part axis block.live) ∷ []
