use Rattle.std.proofs.Common.{◌≡◌, sym, ap, subst, ◌∙◌, arith, nat_abs, Bool, true, false, ℤ}
use Rattle.std.proofs.lemmas.Bool.{false≢true}
use Rattle.num_traits.specs.Laws.{Checks}
use Rattle.stack_rational.specs.Stored.{Within}
use Rattle.stack_rational.proofs.integer.unless_least.Goals as goal

-- a value v of the integer z, the least value m of the integer l, and the answer r to whether both are equal
module _ (v z m l : ℤ) (is : v ≡ z) (low : m ≡ l) where
  is_least : (r b : Bool) → r ≡ true → r ≡ b → (b ≡ true → v ≡ m) → nat_abs l ≡ nat_abs z
  is_least r b t e same = ap nat_abs (sym low ∙ sym (same (sym e ∙ t)) ∙ is)

  isnt_least : (r b : Bool) → r ≡ false → r ≡ b → (v ≡ m → b ≡ true) → z ≡ l → ⊥
  isnt_least r b f e same h = false≢true (sym f ∙ e ∙ same (is ∙ h ∙ sym low))

pub returns-in_err-y : goal.returns-in_err-y
returns-in_err-y g c = λ z k. subst (Checks g.T.Number.value (Within g.T.Integer.MAX) z) (sym c.from_residual.ensures)
    (λ w. subst (Checks g.T.Number.value g.T.Number.fits z) c.in_err-y.was k (g.met.T.Integer.laws.keeps z w))

pub returns-then-eq : goal.returns-then-eq
returns-then-eq g c = λ z k w.
    let e = g.met.T.Integral.exact_law in
    let y = subst (Checks g.T.Number.value g.T.Number.fits z) c.in_ok-y.was k in
    let least = is_least (g.T.Number.value c.in_ok-y.y) z (g.T.Number.value c.min_value.result) g.T.Bounded.low y.1
    (c.min_value.ensures.value e) c.eq.result (g.T.PartialEq.eq c.in_ok-y.y c.min_value.result) c.if-eq.true
    c.eq.ensures (g.met.T.Number.eq_law c.in_ok-y.y c.min_value.result e).0 in
    omega (arith, w, g.met.T.Integer.laws.lowest, least)

pub returns-else-eq : goal.returns-else-eq
returns-else-eq g c = λ z k.
    let e = g.met.T.Integral.exact_law in
    let y = subst (Checks g.T.Number.value g.T.Number.fits z) c.in_ok-y.was k in (
      g.met.T.Integer.laws.least z y.0 (isnt_least (g.T.Number.value c.in_ok-y.y) z
          (g.T.Number.value c.min_value.result) g.T.Bounded.low y.1 (c.min_value.ensures.value e) c.eq.result
          (g.T.PartialEq.eq c.in_ok-y.y c.min_value.result)
          c.if-eq.false c.eq.ensures (g.met.T.Number.eq_law c.in_ok-y.y c.min_value.result e).1),
      y.1,
    )
