-- A row step in which what the right side becomes is given as a cell.
use Rattle.std.proofs.Common.{◌≡◌, sym, ap, ◌∙◌, arith, ℤ, pos, ◌*ℤ◌, ◌-ℤ◌, Option}
use Rattle.std.proofs.Common.{Some, None, IfSome}
use Rattle.stack_rational.proofs.Common.{expand, sums}

-- a number that is divided and brought over another denominator
pub raised_number : (x z by d m q w a : ℤ) → z *ℤ by ≡ q → d *ℤ by ≡ w → a ≡ d *ℤ m → x ≡ z *ℤ m → x *ℤ w ≡ q *ℤ a
raised_number x z by d m q w a hz hw ha hx = (λ i. hx i *ℤ sym hw i) ∙ turn z m d by ∙ (λ i. hz i *ℤ sym ha i)
  where
    turn : (z m d by : ℤ) → z *ℤ m *ℤ (d *ℤ by) ≡ z *ℤ by *ℤ (d *ℤ m)
    turn z m d by = simp expand (omega (arith, sums))

-- and one that is put: n over e
pub put_number : (x p n e q w a : ℤ) → n *ℤ w ≡ q *ℤ e → p *ℤ e ≡ a → x ≡ p *ℤ n → x *ℤ w ≡ q *ℤ a
put_number x p n e q w a hn ha hx = ap (λ z. z *ℤ w) hx ∙ left p n w ∙ ap (λ z. p *ℤ z) hn ∙ right p q e
    ∙ ap (λ z. q *ℤ z) ha
  where
    left : (p n w : ℤ) → p *ℤ n *ℤ w ≡ p *ℤ (n *ℤ w)
    left p n w = simp expand (omega (arith, sums))

    right : (p q e : ℤ) → p *ℤ (q *ℤ e) ≡ q *ℤ (p *ℤ e)
    right p q e = simp expand (omega (arith, sums))

-- past the end
pub nothing : (x o p w k t a : ℤ) → x ≡ pos 0 → o ≡ pos 0 → p ≡ pos 0 → x *ℤ w ≡ (o *ℤ k -ℤ t *ℤ p) *ℤ a
nothing x o p w k t a hx ho hp = ap (λ z. z *ℤ w) hx ∙ none w k t a ∙ (λ i. (sym ho i *ℤ k -ℤ t *ℤ sym hp i) *ℤ a)
  where
    none : (w k t a : ℤ) → pos 0 *ℤ w ≡ (pos 0 *ℤ k -ℤ t *ℤ pos 0) *ℤ a
    none w k t a = simp expand (omega (arith, sums))

-- what follows of what holds of an answer
pub if_some : {A : Type 0} (o : Option A) {P Q : A → Type 0} → ((x : A) → P x → Q x) → IfSome o P → IfSome o Q
if_some (Some x) k h = k x h
if_some None k h = tt
