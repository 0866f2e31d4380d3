use Rattle.std.proofs.Common.{◌≡◌, ap, ◌∙◌, nat_abs}
use Rattle.std.proofs.lemmas.Nat.Gcd.{IsGcd-swap}
use Rattle.stack_rational.proofs.AtBroad.{recast}
use Rattle.stack_rational.proofs.Divisors.{some_size, some_gcd, some_positive, none_fits, one_gcd}
use Rattle.stack_rational.proofs.common_divisor.divisor.Goals as goal
use Rattle.stack_rational.proofs.common_divisor.divisor.Goals.{After-divisor_of-g}

-- the sizes of both numbers at 128 bits
size_a : (g : _) (c : After-divisor_of-g g) → c.unsigned_abs.result ≡ nat_abs (g.T.Number.value c.args.a)
size_a g c = c.unsigned_abs.ensures.value
    ∙ ap nat_abs (recast g.T.Integer.MAX c.as_broad.result _ c.as_broad.ensures c.requires.a
    g.met.T.Integer.laws.greatest.1)

size_b : (g : _) (c : After-divisor_of-g g) → c.unsigned_abs-2.result ≡ nat_abs (g.T.Number.value c.args.b)
size_b g c = c.unsigned_abs-2.ensures.value
    ∙ ap nat_abs (recast g.T.Integer.MAX c.as_broad-2.result _ c.as_broad-2.ensures c.requires.b
    g.met.T.Integer.laws.greatest.1)

pub returns-in-Some-clause-size : goal.returns-in-Some-clause-size
returns-in-Some-clause-size g c = let p = (goal.at.returns-in-Some-clause-size g c).After-divisor_of-g in
    some_size g.T.Integer.MAX (g.T.Number.value c.args.a) (g.T.Number.value c.args.b) _ _ _ _ (size_a g p) (size_b g p)
    c.divisor_of-g.ensures c.requires.a c.requires.b (c.in-Some.ensures.value g.met.T.Integral.exact_law).1

pub returns-in-Some-clause-gcd : goal.returns-in-Some-clause-gcd
returns-in-Some-clause-gcd g c = let p = (goal.at.returns-in-Some-clause-gcd g c).After-divisor_of-g in
    some_gcd (g.T.Number.value c.args.a) (g.T.Number.value c.args.b) _ _ _ _ (size_a g p) (size_b g p)
    c.divisor_of-g.ensures (c.in-Some.ensures.value g.met.T.Integral.exact_law).1

-- the divisor is there
never : (g : _) (c : goal.In-None g) → c.unsigned_abs.result ≡ nat_abs (g.T.Number.value c.args.a) →
    c.unsigned_abs-2.result ≡ nat_abs (g.T.Number.value c.args.b) → ⊥
never g c a b = c.in-None.ensures.value g.met.T.Integral.exact_law (g.met.T.Integer.laws.keeps _
    (none_fits g.T.Integer.MAX (g.T.Number.value c.args.a) (g.T.Number.value c.args.b) _ _ _ a b
    c.divisor_of-g.ensures c.requires.a c.requires.b))

pub returns-in-None-clause-gcd : goal.returns-in-None-clause-gcd
returns-in-None-clause-gcd g c = let p = (goal.at.returns-in-None-clause-gcd g c).After-divisor_of-g in
    absurd (never g c (size_a g p) (size_b g p))

pub returns-in-None-clause-positive : goal.returns-in-None-clause-positive
returns-in-None-clause-positive g c = let p = (goal.at.returns-in-None-clause-positive g c).After-divisor_of-g in
    absurd (never g c (size_a g p) (size_b g p))

pub returns-then-is_one-clause-gcd : goal.returns-then-is_one-clause-gcd
returns-then-is_one-clause-gcd g c = one_gcd (g.T.Number.value c.args.a) (g.T.Number.value c.args.b)
    ((c.is_one.ensures.value g.met.T.Integral.exact_law).0 c.if-is_one.true)

pub returns-then-is_one-2-clause-gcd : goal.returns-then-is_one-2-clause-gcd
returns-then-is_one-2-clause-gcd g c = IsGcd-swap (nat_abs (g.T.Number.value c.args.b))
    (nat_abs (g.T.Number.value c.args.a)) _
    (one_gcd (g.T.Number.value c.args.b) (g.T.Number.value c.args.a)
    ((c.is_one-2.ensures.value g.met.T.Integral.exact_law).0 c.if-is_one-2.true))

-- it isn't negative
pub returns-in-Some-clause-positive : goal.returns-in-Some-clause-positive
returns-in-Some-clause-positive g c = some_positive _ _ (c.in-Some.ensures.value g.met.T.Integral.exact_law).1

pub returns-then-is_one-clause-positive : goal.returns-then-is_one-clause-positive
returns-then-is_one-clause-positive g c = some_positive _ 1
    ((c.is_one.ensures.value g.met.T.Integral.exact_law).0 c.if-is_one.true)

pub returns-then-is_one-2-clause-positive : goal.returns-then-is_one-2-clause-positive
returns-then-is_one-2-clause-positive g c = some_positive _ 1
    ((c.is_one-2.ensures.value g.met.T.Integral.exact_law).0 c.if-is_one-2.true)
