use Rattle.std.proofs.Common.{◌≡◌, arith, rules, ℕ, ◌≤◌, nat_abs}
use Rattle.std.proofs.lemmas.Nat.{le_or_l, le_or_r}
use lib.Bits.{bit_or}
use Rattle.stack_rows.proofs.ways.SmallStep.of.Goals as goal

-- three numbers are no greater than their bits together
record AreWithin (a b d most : ℕ) : Type 0 where
  first : a ≤ most
  second : b ≤ most
  third : d ≤ most

-- as they are
within : (a b d : ℕ) → AreWithin a b d (bit_or (bit_or a b) d)
within a b d = record {
  first = omega (arith, le_or_l a b, le_or_l (bit_or a b) d);
  second = omega (arith, le_or_r a b, le_or_l (bit_or a b) d);
  third = le_or_r (bit_or a b) d;
}

pub overflow_cast-own : goal.overflow_cast-own
overflow_cast-own c = record {
  fits = omega (
    arith,
    (within c.args.own c.args.other c.args.under).first,
    c.if-own-other-ge-SMALL.false,
  );
}

pub overflow_cast-other : goal.overflow_cast-other
overflow_cast-other c = record {
  fits = omega (
    arith,
    (within c.args.own c.args.other c.args.under).second,
    c.if-own-other-ge-SMALL.false,
  );
}

pub overflow_cast-under : goal.overflow_cast-under
overflow_cast-under c = record {
  fits = omega (
    arith,
    (within c.args.own c.args.other c.args.under).third,
    c.if-own-other-ge-SMALL.false,
  );
}

pub returns-then-left-right-lt-SMALL-clause-small : goal.returns-then-left-right-lt-SMALL-clause-small
returns-then-left-right-lt-SMALL-clause-small c =
    let f = c.args.factors in
    let sizes = within c.args.own c.args.other c.args.under in
    let times : c.unsigned_abs.result ≡ nat_abs f.times = search rules in
    let less : c.unsigned_abs-2.result ≡ nat_abs f.less = search rules in
    let left = rw times at c.size_product_of-left.ensures in
    let right = rw less at c.size_product_of-right.ensures in
    let made = within c.size_product_of-left.result c.size_product_of-right.result c.size_product_of-over.result in
    record {
      words = record {
        own = omega (arith, sizes.first, c.if-own-other-ge-SMALL.false);
        other = omega (arith, sizes.second, c.if-own-other-ge-SMALL.false);
      };
      sum = omega (arith, left, right, made.first, made.second, c.if-left-right-lt-SMALL.true);
    }

pub returns-then-left-right-lt-SMALL-clause-over : goal.returns-then-left-right-lt-SMALL-clause-over
returns-then-left-right-lt-SMALL-clause-over c =
    let times : c.unsigned_abs-3.result ≡ nat_abs c.args.factors.times = search rules in
    let over = rw times at c.size_product_of-over.ensures in
    let made = within c.size_product_of-left.result c.size_product_of-right.result c.size_product_of-over.result in
    omega (arith, over, made.third, c.if-left-right-lt-SMALL.true)
