-- Where no number of a written sum is too wide, it is the plain sum.
use Rattle.std.proofs.Common.{◌≡◌, sym, ap, ◌∙◌, ℕ, suc, ◌+◌, ℤ, pos, negsuc, ◌+ℤ◌, ◌-ℤ◌, ◌*ℤ◌, Bool, true, false}
use Rattle.std.proofs.Common.{cond, List, [], ◌∷◌, length, get_or, Result, Ok, Err, arith}
use Rattle.std.specs.Bool.{if◌then◌else◌, nat_eq}
use Rattle.stack_algebra.specs.Steps.{◌>>=◌, steps}
use Rattle.stack_algebra.specs.Sums.{sum_to}
use Rattle.stack_algebra.proofs.Integers.{expand, sums}
use Rattle.stack_algebra.proofs.IntegerRing.{integers}
use Rattle.stack_algebra.proofs.Sums.{sum_same, sum-first}
use Rattle.stack_statics.specs.Balance.{bearing_side}
use Rattle.stack_contact.specs.declared.types.Bearing.{Bearing}
use Rattle.stack_equilibrium.specs.declared.types.Axis.{Axis}
use Rattle.stack_equilibrium.specs.declared.types.Axis.TheVariants.{X, Y, M}
use Rattle.stack_whole.specs.declared.whole.Wide.{Wide}
use Rattle.stack_whole.specs.declared.whole.Whole.{Whole}
use Rattle.stack_equilibrium.specs.declared.block.Push.{Push}
use Rattle.stack_equilibrium.specs.declared.block.Lever.{Lever}
use Rattle.stack_equilibrium.specs.declared.block.Block.{Block}
use Rattle.stack_equilibrium.specs.SurveyScene.{scene_bearing_of, no_bearing}
use Rattle.stack_whole.specs.Whole.{made, fits, whole}
use Rattle.stack_equilibrium.specs.WrittenSums.{push_at, lever_at, written_force_x, written_force_y, written_moment}
use Rattle.stack_equilibrium.specs.WrittenSums.{written_force, bearing_at, with_bearing, axis_part, written_sum}
use Rattle.stack_equilibrium.proofs.InOrder.{bind_ok}

pub made_is : (z : ℤ) (x : Whole) → made z ≡ Ok x → x.value ≡ z
made_is z x h = go (fits z) h
  where
    go : (b : Bool) → (let r : Result Whole Wide = if b then Ok (whole z) else Err (record {}) in r) ≡ Ok x →
        x.value ≡ z
    go true h = cc
    go false h = absurd (cc)

-- two numbers and what is made of both
pub both_is : (op : ℤ → ℤ → ℤ) (u v : ℤ) (r : Whole) →
    (made u >>= λ x. made v >>= λ y. made (op x.value y.value))
    ≡ Ok r → r.value ≡ op u v
both_is op u v r h =
    let p = bind_ok (made u) (λ x. made v >>= λ y. made (op x.value y.value)) r h in
    let q = bind_ok (made v) (λ y. made (op p.value.value y.value)) r p.after in
    made_is (op p.value.value q.value.value) r q.after
    ∙ (λ i. op (made_is u p.value p.before i) (made_is v q.value q.before i))

-- the force of a push on the second body, along x and along y
abbrev pub push_x : Lever → Push → ℤ
push_x z f = f.b.value *ℤ z.tx.value -ℤ f.a.value *ℤ z.ty.value

abbrev pub push_y : Lever → Push → ℤ
push_y z f = f.a.value *ℤ z.tx.value +ℤ f.b.value *ℤ z.ty.value

abbrev pub force_along : Axis → Lever → Push → ℤ
force_along X z f = push_x z f
force_along Y z f = push_y z f
force_along M z f = z.lx.value *ℤ push_y z f -ℤ z.ly.value *ℤ push_x z f

force_x_is : (z : Lever) (f : Push) (r : Whole) → written_force_x z f ≡ Ok r → r.value ≡ push_x z f
unfolding written_force_x
force_x_is z f r h = both_is ◌-ℤ◌ (f.b.value *ℤ z.tx.value) (f.a.value *ℤ z.ty.value) r h

force_y_is : (z : Lever) (f : Push) (r : Whole) → written_force_y z f ≡ Ok r → r.value ≡ push_y z f
unfolding written_force_y
force_y_is z f r h = both_is ◌+ℤ◌ (f.a.value *ℤ z.tx.value) (f.b.value *ℤ z.ty.value) r h

moment_is : (z : Lever) (f : Push) (r : Whole) → written_moment z f ≡ Ok r → r.value ≡ force_along M z f
unfolding written_moment
moment_is z f r h =
    let p = bind_ok (written_force_x z f) (λ x. written_force_y z f >>= λ y. made (z.lx.value *ℤ y.value) >>=
    λ turned. made (z.ly.value *ℤ x.value) >>= λ back. made (turned.value -ℤ back.value)) r h in
    let q = bind_ok (written_force_y z f) (λ y. made (z.lx.value *ℤ y.value) >>=
    λ turned. made (z.ly.value *ℤ p.value.value) >>= λ back. made (turned.value -ℤ back.value)) r p.after in
    both_is ◌-ℤ◌ (z.lx.value *ℤ q.value.value) (z.ly.value *ℤ p.value.value) r q.after
    ∙ (λ i. z.lx.value *ℤ force_y_is z f q.value q.before i -ℤ z.ly.value *ℤ force_x_is z f p.value p.before i)

force_is : (axis : Axis) (z : Lever) (f : Push) (r : Whole) → written_force axis z f ≡ Ok r → r.value
    ≡ force_along axis z f
force_is X z f r h = force_x_is z f r h
force_is Y z f r h = force_y_is z f r h
force_is M z f r h = moment_is z f r h

-- a force is added, subtracted or left out
added : (force : Result Whole Wide) (e : ℤ) (a r : Whole) (s t : Bool) →
    ((w : Whole) → force ≡ Ok w → w.value ≡ e)
    → (let all : Result Whole Wide = if s then (force >>= λ w. made (a.value +ℤ w.value)) else
    (if t then (force >>= λ w. made (a.value -ℤ w.value)) else Ok a) in all) ≡ Ok r
    → r.value ≡ a.value +ℤ cond s (pos 1) (cond t (negsuc 0) (pos 0)) *ℤ e
added force e a r true t is h =
    let p = bind_ok force (λ w. made (a.value +ℤ w.value)) r h in
    plus a.value r.value p.value.value e (made_is (a.value +ℤ p.value.value) r p.after) (is p.value p.before)
  where
    plus : (a r w e : ℤ) → r ≡ a +ℤ w → w ≡ e → r ≡ a +ℤ pos 1 *ℤ e
    plus a r w e h k = simp expand (omega (arith, sums))
added force e a r false true is h =
    let p = bind_ok force (λ w. made (a.value -ℤ w.value)) r h in
    minus a.value r.value p.value.value e (made_is (a.value -ℤ p.value.value) r p.after) (is p.value p.before)
  where
    minus : (a r w e : ℤ) → r ≡ a -ℤ w → w ≡ e → r ≡ a +ℤ negsuc 0 *ℤ e
    minus a r w e h k = simp expand (omega (arith, sums))
added force e a r false false is h = same a.value r.value e (cc)
  where
    same : (a r e : ℤ) → r ≡ a → r ≡ a +ℤ pos 0 *ℤ e
    same a r e h = simp expand (omega (arith, sums))

-- a bearing adds its force with the sign of its side
added_is : (axis : Axis) (block : Block) (f : Push) (a : Whole) (z : Bearing) (r : Whole) →
    with_bearing axis block f a z ≡ Ok r
    → r.value ≡ a.value +ℤ bearing_side block.body (scene_bearing_of z) *ℤ force_along axis (lever_at block.corner z)
    f
unfolding with_bearing
added_is axis block f a z r h = added (written_force axis (lever_at block.corner z) f)
    (force_along axis (lever_at block.corner z) f) a r (nat_eq block.body z.second) (nat_eq block.body z.first)
    (force_is axis (lever_at block.corner z) f) h

-- a sum that is made one item after the other
pub steps_sum : {X : Type 0} (f : ℕ → Whole → X → Result Whole Wide) (g : ℕ → X →
    ℤ) (i : ℕ) (a : Whole) (xs : List X) (d : X) (r : Whole)
    → ((k : ℕ) (a : Whole) (x : X) (r : Whole) → f k a x ≡ Ok r → r.value ≡ a.value +ℤ g k x)
    → steps f i a xs ≡ Ok r → r.value ≡ a.value +ℤ sum_to (length xs) (λ k. g (i + k) (get_or xs k d))
steps_sum f g i a [] d r adds h = ended a.value r.value (cc)
  where
    ended : (a r : ℤ) → r ≡ a → r ≡ a +ℤ pos 0
    ended a r h = omega (arith, sums)
steps_sum f g i a (x ∷ xs) d r adds h =
    let p = bind_ok (f i a x) (λ b. steps f (i + 1) b xs) r h in
    steps_sum f g (i + 1) p.value xs d r adds p.after
    ∙ (λ j. adds i a x p.value p.before j +ℤ sum_same integers (length xs) (λ k. g (i + 1 + k) (get_or xs k d))
    (λ k. g (i + suc k) (get_or xs k d)) (λ k l. ap (λ n. g n (get_or xs k d)) (shifted i k)) j)
    ∙ gathered a.value (g i x) (g (i + 0) x) (sum_to (length xs) (λ k. g (i + suc k) (get_or xs k d)))
    (ap (λ n. g n x) (omega arith))
    ∙ ap (λ t. a.value +ℤ t) (sym (sum-first integers (length xs) (λ k. g (i + k) (get_or (x ∷ xs) k d))))
  where
    shifted : (i k : ℕ) → i + 1 + k ≡ i + suc k
    shifted i k = omega arith

    gathered : (a e e' t : ℤ) → e ≡ e' → (a +ℤ e) +ℤ t ≡ a +ℤ (e' +ℤ t)
    gathered a e e' t h = omega (arith, sums)

-- what the bearings bear on a block, along an axis
abbrev pub borne_along : Axis → Block → List Bearing → List (ℤ × ℤ) → ℤ
borne_along axis block bearings parts = sum_to (length bearings) (λ k.
    bearing_side block.body (scene_bearing_of (get_or bearings k no_bearing))
    *ℤ force_along axis (lever_at block.corner (get_or bearings k no_bearing)) (push_at parts k))

-- a sum of what is borne and two loads, each of which is made before it is added
with_loads : (borne : Result Whole Wide) (total dead live : ℤ) (r : Whole) →
    ((x : Whole) → borne ≡ Ok x → x.value ≡ total)
    → (borne >>= λ b. made dead >>= λ w. made (b.value +ℤ w.value) >>= λ s. made live >>=
    λ d. made (s.value +ℤ d.value)) ≡ Ok r
    → r.value ≡ total +ℤ dead +ℤ live
with_loads borne total dead live r is h =
    let p = bind_ok borne (λ b. made dead >>= λ w. made (b.value +ℤ w.value) >>= λ s. made live >>=
    λ d. made (s.value +ℤ d.value)) r h in
    let q = bind_ok (made dead) (λ w. made (p.value.value +ℤ w.value) >>= λ s. made live >>=
    λ d. made (s.value +ℤ d.value)) r p.after in
    let t = bind_ok (made (p.value.value +ℤ q.value.value)) (λ s. made live >>= λ d. made (s.value +ℤ d.value))
    r q.after in
    let u = bind_ok (made live) (λ d. made (t.value.value +ℤ d.value)) r t.after in
    gathered p.value.value q.value.value t.value.value u.value.value r.value (is p.value p.before)
    (made_is dead q.value q.before) (made_is (p.value.value +ℤ q.value.value) t.value t.before)
    (made_is live u.value u.before) (made_is (t.value.value +ℤ u.value.value) r u.after)
  where
    gathered : (b w s d r : ℤ) → b ≡ total → w ≡ dead → s ≡ b +ℤ w → d ≡ live → r ≡ s +ℤ d →
        r ≡ total +ℤ dead +ℤ live
    gathered b w s d r hb hw hs hd hr = omega (arith, sums)

-- what the bearings bear, made one bearing after the other
borne_is : (axis : Axis) (block : Block) (bearings : List Bearing) (parts : List (ℤ × ℤ)) (r : Whole)
    → steps (bearing_at axis block parts) 0 (whole (pos 0)) bearings ≡ Ok r
    → r.value ≡ borne_along axis block bearings parts
borne_is axis block bearings parts r h =
    steps_sum (bearing_at axis block parts)
    (λ k z. bearing_side block.body (scene_bearing_of z) *ℤ force_along axis (lever_at block.corner z)
    (push_at parts k))
    0 (whole (pos 0)) bearings no_bearing r (λ k a z r e. added_is axis block (push_at parts k) a z r e) h
    ∙ from_nothing (sum_to (length bearings) (λ k. term k (0 + k)))
    ∙ sum_same integers (length bearings) (λ k. term k (0 + k)) (λ k. term k k)
    (λ k l. ap (term k) (from_zero k))
  where
    term : ℕ → ℕ → ℤ
    term k n = bearing_side block.body (scene_bearing_of (get_or bearings k no_bearing))
        *ℤ force_along axis (lever_at block.corner (get_or bearings k no_bearing)) (push_at parts n)

    from_nothing : (t : ℤ) → pos 0 +ℤ t ≡ t
    from_nothing t = omega (arith, sums)

    from_zero : (k : ℕ) → 0 + k ≡ k
    from_zero k = omega arith

pub sum_is : (axis : Axis) (block : Block) (scale factor : Whole) (bearings : List Bearing)
    (parts : List (ℤ × ℤ)) (r : Whole)
    → written_sum axis block scale factor bearings parts ≡ Ok r
    → r.value ≡ borne_along axis block bearings parts +ℤ scale.value *ℤ axis_part axis block.dead
    +ℤ factor.value *ℤ axis_part axis block.live
unfolding written_sum
sum_is axis block scale factor bearings parts r h =
    with_loads (steps (bearing_at axis block parts) 0 (whole (pos 0)) bearings)
    (borne_along axis block bearings parts) (scale.value *ℤ axis_part axis block.dead)
    (factor.value *ℤ axis_part axis block.live) r (borne_is axis block bearings parts) h
